-- Kinds and frames in their order, and what two of them both say.
use Rattle.std.proofs.Common.{◌≡◌, ◌≢◌, ℕ, ◌+◌, ◌<◌, ◌≤◌, true, List, length, refl, sym, ◌∙◌, subst, ⊎_elim, arith}
use Rattle.std.specs.Prelude.{slice_set}
use Rattle.std.proofs.lemmas.Bool.{cases_eq, cases_lt}
use Rattle.std.proofs.lemmas.List.{get_or-set_same, get_or-set_other, get_or_past}
use Rattle.regtypes.specs.declared.frame.Kind.{Kind}
use Rattle.regtypes.specs.declared.frame.Kind.TheVariants.{Unset, Num, Len, Place}
use Rattle.regtypes.specs.Frame.{kind_at, is_num, LeqKind}
use Rattle.regtypes.specs.Inside.Frame.{IsJoin}
use Rattle.regtypes.proofs.Parts.{LeqKinds}

pub LeqKind-refl : (k : Kind) → LeqKind k k
LeqKind-refl Unset = tt
LeqKind-refl Num = refl
LeqKind-refl Len = refl
LeqKind-refl (Place r k) = refl

-- the registers past the eleventh say nothing
pub within_eleven : (f g : List Kind) → length g ≡ 11 → ((r : ℕ) → r < 11 → LeqKind (kind_at f r) (kind_at g r)) → LeqKinds f g
within_eleven f g n h r = ⊎_elim (h r) past (cases_lt r 11)
  where
    past : 11 ≤ r → LeqKind (kind_at f r) (kind_at g r)
    past le = subst (LeqKind (kind_at f r)) (sym (get_or_past g r Unset (omega (arith, n)))) tt

-- ---- joins of kinds

pub join_same : (a b : Kind) → a ≡ b → IsJoin a b a
join_same a b e = record { first = LeqKind-refl a; second = subst (λ x. LeqKind x a) e (LeqKind-refl a); least = λ x p q. p }

-- of two kinds of numbers that differ, a number is what both say
pub join_numbers : (a b : Kind) → a ≢ b → is_num a ≡ true → is_num b ≡ true → IsJoin a b Num
join_numbers a b ne m n = record { first = m; second = n; least = least }
  where
    least : (x : Kind) → LeqKind a x → LeqKind b x → LeqKind Num x
    least Unset p q = tt
    least Num p q = refl
    least Len p q = absurd (ne (p ∙ sym q))
    least (Place r k) p q = absurd (ne (p ∙ sym q))

-- kinds that differ and aren't both of numbers say nothing in common
pub join_nothing : (a b : Kind) → a ≢ b → (is_num a ≡ true → is_num b ≡ true → ⊥) → IsJoin a b Unset
join_nothing a b ne never = record { first = tt; second = tt; least = least }
  where
    least : (x : Kind) → LeqKind a x → LeqKind b x → LeqKind Unset x
    least Unset p q = tt
    least Num p q = absurd (never p q)
    least Len p q = absurd (ne (p ∙ sym q))
    least (Place r k) p q = absurd (ne (p ∙ sym q))

-- ---- joins of frames

-- the first i kinds are joined
abbrev pub Joined : List Kind → List Kind → List Kind → ℕ → Type 0
Joined a b k i = (r : ℕ) → r < i → IsJoin (kind_at a r) (kind_at b r) (kind_at k r)

-- one register more is joined
pub joined_more : (a b k : List Kind) (i : ℕ) (x : Kind) → i < length k → IsJoin (kind_at a i) (kind_at b i) x → Joined a b k i → Joined a b (slice_set k i x) (i + 1)
joined_more a b k i x lt j h r l = ⊎_elim here apart (cases_eq r i)
  where
    here : r ≡ i → IsJoin (kind_at a r) (kind_at b r) (kind_at (slice_set k i x) r)
    here q =
        let at_i = subst (IsJoin (kind_at a i) (kind_at b i)) (sym (get_or-set_same k i x Unset lt)) j in
        subst (λ n. IsJoin (kind_at a n) (kind_at b n) (kind_at (slice_set k i x) n)) (sym q) at_i

    apart : r ≢ i → IsJoin (kind_at a r) (kind_at b r) (kind_at (slice_set k i x) r)
    apart q = subst (IsJoin (kind_at a r) (kind_at b r)) (sym (get_or-set_other k i r x Unset q)) (h r (omega arith))

-- when all eleven are joined, the first list says what the joined one says
pub joined_first : (a b k : List Kind) → length k ≡ 11 → Joined a b k 11 → LeqKinds a k
joined_first a b k n j = within_eleven a k n (λ r l. (j r l).first)

-- and so does the second
pub joined_second : (a b k : List Kind) → length k ≡ 11 → Joined a b k 11 → LeqKinds b k
joined_second a b k n j = within_eleven b k n (λ r l. (j r l).second)

-- and what both lists say, the joined one says too
pub joined_least : (a b k : List Kind) → length a ≡ 11 → length k ≡ 11 → Joined a b k 11 → (f : List Kind) → LeqKinds a f → LeqKinds b f → LeqKinds k f
joined_least a b k m n j f p q r = ⊎_elim below past (cases_lt r 11)
  where
    below : r < 11 → LeqKind (kind_at k r) (kind_at f r)
    below l = (j r l).least (kind_at f r) (p r) (q r)

    past : 11 ≤ r → LeqKind (kind_at k r) (kind_at f r)
    past l =
        let e : kind_at a r ≡ kind_at k r = get_or_past a r Unset (omega (arith, m)) ∙ sym (get_or_past k r Unset (omega (arith, n))) in
        subst (λ x. LeqKind x (kind_at f r)) e (p r)
