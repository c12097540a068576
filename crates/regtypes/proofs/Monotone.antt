-- A frame that says more breaks no more rules, and leaves more.
use Rattle.std.proofs.Common.{◌≡◌, ◌≢◌, ℕ, zero, suc, ◌+◌, ◌<◌, ◌≤◌, Bool, true, false, cond, List, [], ◌∷◌, ◌++◌, length, drop, length-drop, Option, Some, None, ℤ, pos, negsuc, refl, sym, ap, ◌∙◌, subst, ⊎_elim, ◌⊎◌, inl, inr, arith}
use Rattle.std.specs.Prelude.{slice_set, not, ◌||◌, ◌&&◌}
use Rattle.std.specs.Option.{option_or, option_and_then}
use Rattle.std.specs.List.{list_any}
use Rattle.std.proofs.lemmas.Bool.{or_parts, cases_eq, cases_lt, false≢true}
use Rattle.std.proofs.lemmas.Bool.Decides.{nat_tests}
use Rattle.std.proofs.lemmas.List.{get_or-set_same, get_or-set_other, get_or_past, length-set, get_or-drop, ext_get_or}
use Rattle.decode.specs.declared.insn.Reg.{Reg}
use Rattle.decode.specs.declared.insn.Width.TheVariants.{W64}
use Rattle.decode.specs.declared.insn.Operand.TheVariants as operand
use Rattle.decode.specs.declared.insn.Insn.{Insn}
use Rattle.decode.specs.declared.insn.Insn.TheVariants.{JumpIf}
use Rattle.regtypes.specs.declared.image_form.ImageForm.{ImageForm}
use Rattle.regtypes.specs.declared.frame.Region.{Region}
use Rattle.regtypes.specs.declared.frame.Region.TheVariants.{Message, State, Stack}
use Rattle.regtypes.specs.declared.frame.Kind.{Kind}
use Rattle.regtypes.specs.declared.frame.Kind.TheVariants.{Unset, Num, Len, Place}
use Rattle.regtypes.specs.declared.frame.Frame.{Frame}
use Rattle.decode.specs.declared.attributes.Access.{Access}
use Rattle.decode.specs.declared.attributes.Attributes.{Attributes}
use Rattle.regtypes.specs.declared.rule.Rule.{Rule}
use Rattle.regtypes.specs.Frame.{kind_at, is_num, LeqKind, Leq}
use Rattle.decode.specs.Attributes.{attributes_of}
use Rattle.regtypes.specs.Rules.{is_unset, is_len, is_place, is_in_message, is_message, region_len, lie_inside, has_bytes, moved, is_near, is_sized, Argument, Number, Payload, Sized, arguments_of, takes, has, base_of, moved_of, reaches_out, moves_out, called, is_end, Tests, first_broken, tests_by, tests_of}
use Rattle.regtypes.specs.Ways.{given, after_by, after_helper, after_called, after, least_shown, shown, raised, IsMonotone}
use Rattle.regtypes.proofs.Parts.{LeqKinds, reads_unset, mixes, stores_in_message, takes_all, refuses, misgives, given_by, written_with}
use Rattle.regtypes.proofs.Order.{LeqKind-refl}

-- ---- tests of which none holds

abbrev pub Passes : Tests → Type 0
Passes ts = first_broken ts ≡ None

abbrev pub NoneHolds : Tests → Type 0
NoneHolds [] = Unit {0}
NoneHolds (t ∷ ts) = (t.0 ≡ false) × NoneHolds ts

first_holds : (b : Bool) (rule : Rule) (rest : Option Rule) → cond b (Some rule) rest ≡ None → (b ≡ false) × (rest ≡ None)
first_holds true rule rest h = cc
first_holds false rule rest h = (refl, h)

-- where tests break no rule, none of them holds
pub none_holds : (ts : Tests) → Passes ts → NoneHolds ts
none_holds [] h = tt
none_holds (t ∷ ts) h = let k = first_holds t.0 t.1 (first_broken ts) h in (k.0, none_holds ts k.1)

-- and where none of them holds, they break no rule
pub passes : (ts : Tests) → NoneHolds ts → Passes ts
passes [] h = refl
passes (t ∷ ts) h = ap (λ b. cond b (Some t.1) (first_broken ts)) h.0 ∙ passes ts h.1

pub both_none : (a b : Option Rule) → option_or a b ≡ None → (a ≡ None) × (b ≡ None)
both_none None b h = (refl, h)
both_none (Some r) b h = cc

-- of two lists of tests the first rule of both is the first list's, or else the second's
pub first_of_both : (ts us : Tests) → first_broken (ts ++ us) ≡ option_or (first_broken ts) (first_broken us)
first_of_both [] us = refl
first_of_both (t ∷ ts) us = by_test t.0 (first_of_both ts us)
  where
    by_test : (b : Bool) → first_broken (ts ++ us) ≡ option_or (first_broken ts) (first_broken us) → cond b (Some t.1) (first_broken (ts ++ us)) ≡ option_or (cond b (Some t.1) (first_broken ts)) (first_broken us)
    by_test true e = refl
    by_test false e = e

pub both_pass : (ts us : Tests) → Passes (ts ++ us) → Passes ts × Passes us
both_pass ts us h = both_none (first_broken ts) (first_broken us) (sym (first_of_both ts us) ∙ h)

pub not_false : (b : Bool) → not b ≡ false → b ≡ true
not_false true h = refl
not_false false h = cc

neither : (a b : Bool) → a ≡ false → b ≡ false → (a || b) ≡ false
neither true b p q = cc
neither false b p q = q

both : (a b : Bool) → a ≡ true → b ≡ true → (a && b) ≡ true
both true b p q = q
both false b p q = cc

pub both_parts : (a b : Bool) → (a && b) ≡ true → (a ≡ true) × (b ≡ true)
both_parts true b h = (refl, h)
both_parts false b h = cc

one_part : (a b c d : Bool) → (a ≡ true → c ≡ true) → (b ≡ true → d ≡ true) → (a || b) ≡ true → (c || d) ≡ true
one_part true b true d p q h = refl
one_part true b false d p q h = absurd (false≢true (p refl))
one_part false b true d p q h = refl
one_part false b false d p q h = q h

-- where a rule asks for a thing and it holds, the rule is kept too where it asks for what follows from it
pub kept : (a b : Bool) → (a ≡ true → b ≡ true) → not a ≡ false → not b ≡ false
kept a b m h = ap not (m (not_false a h))

-- ---- kinds

-- a kind that says no less: it is the same, or the length in place of a number
narrows : (P : Kind → Kind → Type 0) → ((x : Kind) → P x Unset) → ((k : Kind) → P k k) → P Len Num → (x y : Kind) → LeqKind x y → P x y
narrows P none same length x Unset le = none x
narrows P none same length Unset Num le = cc
narrows P none same length Num Num le = same Num
narrows P none same length Len Num le = length
narrows P none same length (Place r k) Num le = cc
narrows P none same length x Len le = subst (λ k. P k Len) (sym le) (same Len)
narrows P none same length x (Place r k) le = subst (λ z. P z (Place r k)) (sym le) (same (Place r k))

-- a test that fails of a kind that is known
abbrev Fails : (Kind → Bool) → Type 0
Fails p = (x y : Kind) → LeqKind x y → is_unset y ≡ false → p y ≡ false → p x ≡ false

fails : (p : Kind → Bool) → (p Num ≡ false → p Len ≡ false) → Fails p
fails p l = narrows (λ x y. is_unset y ≡ false → p y ≡ false → p x ≡ false) (λ x u. absurd (false≢true (sym u))) (λ k u h. h) (λ u h. l h)

-- a test that holds of a kind that is known
holds : (p q : Kind → Bool) → p Unset ≡ false → ((k : Kind) → p k ≡ true → q k ≡ true) → (p Num ≡ true → q Len ≡ true) → (x y : Kind) → LeqKind x y → p y ≡ true → q x ≡ true
holds p q u s l = narrows (λ x y. p y ≡ true → q x ≡ true) (λ x h. absurd (false≢true (sym u ∙ h))) s l

region_grows : (low low' len : ℕ) (r : Region) → low ≤ low' → region_len low len r ≤ region_len low' len r
region_grows low low' len Message h = h
region_grows low low' len State h = omega arith
region_grows low low' len Stack h = omega arith

inside_grows : (m m' n : ℕ) (z : ℤ) → m ≤ m' → lie_inside m n z ≡ true → lie_inside m' n z ≡ true
inside_grows m m' n (pos a) le h = grind (arith, nat_tests)
inside_grows m m' n (negsuc a) le h = h

bytes_grow : (low low' len n : ℕ) → low ≤ low' → (k : Kind) → has_bytes low len n k ≡ true → has_bytes low' len n k ≡ true
bytes_grow low low' len n le Unset h = h
bytes_grow low low' len n le Num h = h
bytes_grow low low' len n le Len h = h
bytes_grow low low' len n le (Place r k) h = inside_grows (region_len low len r) (region_len low' len r) n k (region_grows low low' len r le) h

-- what is known to be a number is one where more is known
pub num_holds : (x y : Kind) → LeqKind x y → is_num y ≡ true → is_num x ≡ true
num_holds = holds is_num is_num refl (λ k h. h) (λ h. refl)

bytes_held : (low low' len n : ℕ) → low ≤ low' → (x y : Kind) → LeqKind x y → has_bytes low len n y ≡ true → has_bytes low' len n x ≡ true
bytes_held low low' len n le = holds (has_bytes low len n) (has_bytes low' len n) refl (bytes_grow low low' len n le) (λ h. h)

sized_holds : (low low' len : ℕ) → low ≤ low' → (p q c d : Kind) → LeqKind p q → LeqKind c d → is_sized low len q d ≡ true → is_sized low' len p c ≡ true
sized_holds low low' len le p q c d a b h =
    let n = both_parts (is_num d) (has_bytes low len 256 q || (is_message q && is_len d)) h in
    let whole = λ (w : (is_message q && is_len d) ≡ true). let k = both_parts (is_message q) (is_len d) w in both (is_message p) (is_len c) (holds is_message is_message refl (λ k h. h) (λ h. h) p q a k.0) (holds is_len is_len refl (λ k h. h) (λ h. refl) c d b k.1) in
    both (is_num c) (has_bytes low' len 256 p || (is_message p && is_len c)) (num_holds c d b n.0) (one_part (has_bytes low len 256 q) (is_message q && is_len d) (has_bytes low' len 256 p) (is_message p && is_len c) (bytes_held low low' len 256 le p q a) whole n.1)

moved_kept : (z : ℤ) (x y : Kind) → LeqKind x y → is_unset y ≡ false → LeqKind (moved z x) (moved z y)
moved_kept z = narrows (λ x y. is_unset y ≡ false → LeqKind (moved z x) (moved z y)) (λ x u. absurd (false≢true (sym u))) (λ k u. LeqKind-refl (moved z k)) (λ u. refl)

-- ---- rules

has_kept : (p : Kind → Bool) → Fails p → (f g : List Kind) → LeqKinds f g → (r : Option Reg) → has is_unset g r ≡ false → has p g r ≡ false → has p f r ≡ false
has_kept p m f g le None u h = refl
has_kept p m f g le (Some r) u h = m (kind_at f r.number) (kind_at g r.number) (le r.number) u h

set_kept : (f g : List Kind) → LeqKinds f g → (r : Option Reg) → has is_unset g r ≡ false → has is_unset f r ≡ false
set_kept f g le r h = has_kept is_unset (fails is_unset (λ h. refl)) f g le r h h

-- what a frame knows of the registers that are read
pub record AllSet (f : List Kind) (a : Attributes) : Type 0 where
  pub number : has is_unset f a.number ≡ false
  pub operand : has is_unset f a.operand ≡ false
  pub copied : has is_unset f a.copied ≡ false
  pub base : has is_unset f (base_of a.access) ≡ false
  pub moved : has is_unset f (moved_of a.moved) ≡ false

-- an instruction that reads no unset register has each register that it reads set
pub all_set : (f : List Kind) (a : Attributes) → reads_unset f a ≡ false → AllSet f a
all_set f a h =
    let one = or_parts (has is_unset f a.number) (list_any (has is_unset f) (a.operand ∷ a.copied ∷ base_of a.access ∷ moved_of a.moved ∷ [])) h in
    let two = or_parts (has is_unset f a.operand) (list_any (has is_unset f) (a.copied ∷ base_of a.access ∷ moved_of a.moved ∷ [])) one.1 in
    let three = or_parts (has is_unset f a.copied) (list_any (has is_unset f) (base_of a.access ∷ moved_of a.moved ∷ [])) two.1 in
    let four = or_parts (has is_unset f (base_of a.access)) (list_any (has is_unset f) (moved_of a.moved ∷ [])) three.1 in
    record { number = one.0; operand = two.0; copied = three.0; base = four.0; moved = (or_parts (has is_unset f (moved_of a.moved)) false four.1).0 }

reads_kept : (f g : List Kind) (a : Attributes) → LeqKinds f g → AllSet g a → reads_unset f a ≡ false
reads_kept f g a le s =
    neither (has is_unset f a.number) _ (set_kept f g le a.number s.number) (neither (has is_unset f a.operand) _ (set_kept f g le a.operand s.operand) (neither (has is_unset f a.copied) _ (set_kept f g le a.copied s.copied) (neither (has is_unset f (base_of a.access)) _ (set_kept f g le (base_of a.access) s.base) (neither (has is_unset f (moved_of a.moved)) false (set_kept f g le (moved_of a.moved) s.moved) refl))))

mixes_kept : (f g : List Kind) (a : Attributes) → LeqKinds f g → AllSet g a → mixes g a ≡ false → mixes f a ≡ false
mixes_kept f g a le s h =
    let one = or_parts (has is_place g a.number) (has is_place g a.operand || has is_num g (base_of a.access)) h in
    let two = or_parts (has is_place g a.operand) (has is_num g (base_of a.access)) one.1 in
    let place = fails is_place (λ h. refl) in
    neither (has is_place f a.number) _ (has_kept is_place place f g le a.number s.number one.0) (neither (has is_place f a.operand) _ (has_kept is_place place f g le a.operand s.operand two.0) (has_kept is_num (fails is_num (λ h. h)) f g le (base_of a.access) s.base two.1))

reaches_kept : (len : ℕ) (f g : Frame) → Leq f g → (a : Option Access) → has is_unset g.kinds (base_of a) ≡ false → reaches_out len g a ≡ false → reaches_out len f a ≡ false
reaches_kept len f g le None u h = refl
reaches_kept len f g le (Some a) u h =
    let x = kind_at f.kinds a.base.number in
    let y = kind_at g.kinds a.base.number in
    let more = bytes_held g.low f.low len a.bytes le.low (moved a.offset x) (moved a.offset y) (moved_kept a.offset x y (le.kinds a.base.number) u) in
    kept (has_bytes g.low len a.bytes (moved a.offset y)) (has_bytes f.low len a.bytes (moved a.offset x)) more h

moves_kept : (f g : List Kind) → LeqKinds f g → (m : Option (Reg × ℤ)) → has is_unset g (moved_of m) ≡ false → moves_out g m ≡ false → moves_out f m ≡ false
moves_kept f g le None u h = refl
moves_kept f g le (Some m) u h =
    fails (λ k. not (is_near (moved m.1 k))) (λ h. refl) (kind_at f m.0.number) (kind_at g m.0.number) (le m.0.number) u h

stores_kept : (f g : List Kind) → LeqKinds f g → (a : Option Access) → has is_unset g (base_of a) ≡ false → stores_in_message g a ≡ false → stores_in_message f a ≡ false
stores_kept f g le None u h = refl
stores_kept f g le (Some a) u h =
    fails (λ k. a.stores && is_in_message k) (λ h. h) (kind_at f a.base.number) (kind_at g a.base.number) (le a.base.number) u h

takes_kept : (len : ℕ) (f g : Frame) → Leq f g → (x : Argument) → takes len g x ≡ true → takes len f x ≡ true
takes_kept len f g le (Number r) h = num_holds (kind_at f.kinds r) (kind_at g.kinds r) (le.kinds r) h
takes_kept len f g le (Payload r) h = bytes_held g.low f.low len 64 le.low (kind_at f.kinds r) (kind_at g.kinds r) (le.kinds r) h
takes_kept len f g le (Sized r n) h = sized_holds g.low f.low len le.low (kind_at f.kinds r) (kind_at g.kinds r) (kind_at f.kinds n) (kind_at g.kinds n) (le.kinds r) (le.kinds n) h

takes_all_kept : (len : ℕ) (f g : Frame) → Leq f g → (xs : List Argument) → takes_all len g xs ≡ true → takes_all len f xs ≡ true
takes_all_kept len f g le [] h = refl
takes_all_kept len f g le (x ∷ xs) h =
    let k = both_parts (takes len g x) (takes_all len g xs) h in
    both (takes len f x) (takes_all len f xs) (takes_kept len f g le x k.0) (takes_all_kept len f g le xs k.1)

refuses_kept : (len : ℕ) (f g : Frame) → Leq f g → (o : Option (List Argument)) → refuses len g o ≡ false → refuses len f o ≡ false
refuses_kept len f g le None h = refl
refuses_kept len f g le (Some xs) h = kept (takes_all len g xs) (takes_all len f xs) (takes_all_kept len f g le xs) h

misgives_kept : (form : ImageForm) (len : ℕ) (i : Insn) (f g : Frame) → Leq f g → misgives form len i g ≡ false → misgives form len i f ≡ false
misgives_kept form len i f g le h = refuses_kept len f g le (option_and_then (arguments_of form) (called i)) h

ends_kept : (ends : Bool) (f g : List Kind) → LeqKinds f g → (ends && not (is_num (kind_at g 0))) ≡ false → (ends && not (is_num (kind_at f 0))) ≡ false
ends_kept true f g le h = kept (is_num (kind_at g 0)) (is_num (kind_at f 0)) (num_holds (kind_at f 0) (kind_at g 0) (le 0)) h
ends_kept false f g le h = refl

rules_kept : (a : Attributes) (form : ImageForm) (len : ℕ) (i : Insn) (f g : Frame) → Leq f g → NoneHolds (tests_by a form len i g) → NoneHolds (tests_by a form len i f)
rules_kept a form len i f g le h =
    let s = all_set g.kinds a h.0 in
    let six = or_parts (reaches_out len g a.access) (moves_out g.kinds a.moved) h.1.1.1.0 in
    let v3 = reads_kept f.kinds g.kinds a le.kinds s in
    let v5 = mixes_kept f.kinds g.kinds a le.kinds s h.1.1.0 in
    let v6 = neither (reaches_out len f a.access) (moves_out f.kinds a.moved) (reaches_kept len f g le a.access s.base six.0) (moves_kept f.kinds g.kinds le.kinds a.moved s.moved six.1) in
    let v7 = stores_kept f.kinds g.kinds le.kinds a.access s.base h.1.1.1.1.0 in
    let v9 = misgives_kept form len i f g le h.1.1.1.1.1.1.0 in
    let v10 = ends_kept (is_end i) f.kinds g.kinds le.kinds h.1.1.1.1.1.1.1.0 in
    (v3, (h.1.0, (v5, (v6, (v7, (h.1.1.1.1.1.0, (v9, (v10, tt))))))))

-- ---- registers that leave

-- one kind is written in both
LeqKinds-set : (f g : List Kind) (r : ℕ) (x y : Kind) → length f ≡ length g → LeqKinds f g → LeqKind x y → LeqKinds (slice_set f r x) (slice_set g r y)
LeqKinds-set f g r x y n le k q = ⊎_elim same other (cases_eq q r)
  where
    other : q ≢ r → LeqKind (kind_at (slice_set f r x) q) (kind_at (slice_set g r y) q)
    other ne =
        let one = subst (λ z. LeqKind z (kind_at g q)) (sym (get_or-set_other f r q x Unset ne)) (le q) in
        subst (LeqKind (kind_at (slice_set f r x) q)) (sym (get_or-set_other g r q y Unset ne)) one

    at_r : LeqKind (kind_at (slice_set f r x) r) (kind_at (slice_set g r y) r)
    at_r = ⊎_elim within past (cases_lt r (length f))
      where
        within : r < length f → LeqKind (kind_at (slice_set f r x) r) (kind_at (slice_set g r y) r)
        within lt =
            let one = subst (λ z. LeqKind z y) (sym (get_or-set_same f r x Unset lt)) k in
            subst (LeqKind (kind_at (slice_set f r x) r)) (sym (get_or-set_same g r y Unset (omega arith))) one

        past : length f ≤ r → LeqKind (kind_at (slice_set f r x) r) (kind_at (slice_set g r y) r)
        past l = subst (LeqKind (kind_at (slice_set f r x) r)) (sym (get_or_past (slice_set g r y) r Unset (omega (arith, length-set g r y)))) tt

    same : q ≡ r → LeqKind (kind_at (slice_set f r x) q) (kind_at (slice_set g r y) q)
    same e = subst (λ z. LeqKind (kind_at (slice_set f r x) z) (kind_at (slice_set g r y) z)) (sym e) at_r

LeqKinds-helper : (f g : List Kind) → LeqKinds f g → LeqKinds (after_helper f) (after_helper g)
LeqKinds-helper f g le zero = refl
LeqKinds-helper f g le (suc zero) = tt
LeqKinds-helper f g le (suc (suc zero)) = tt
LeqKinds-helper f g le (suc (suc (suc zero))) = tt
LeqKinds-helper f g le (suc (suc (suc (suc zero)))) = tt
LeqKinds-helper f g le (suc (suc (suc (suc (suc zero))))) = tt
LeqKinds-helper f g le (suc (suc (suc (suc (suc (suc q)))))) =
    let ef : kind_at f (6 + q) ≡ kind_at (drop 6 f) q = sym (get_or-drop 6 f q Unset) in
    let eg : kind_at g (6 + q) ≡ kind_at (drop 6 g) q = sym (get_or-drop 6 g q Unset) in
    subst (LeqKind (kind_at (drop 6 f) q)) eg (subst (λ z. LeqKind z (kind_at g (6 + q))) ef (le (6 + q)))

given_kept : (f g : List Kind) (a : Attributes) → LeqKinds f g → AllSet g a → LeqKind (given f a) (given g a)
given_kept f g a le s = by_both a.copied a.moved s.moved
  where
    by_both : (c : Option Reg) (m : Option (Reg × ℤ)) → has is_unset g (moved_of m) ≡ false → LeqKind (given_by f c m) (given_by g c m)
    by_both (Some r) m u = le r.number
    by_both None (Some m) u = moved_kept m.1 (kind_at f m.0.number) (kind_at g m.0.number) (le m.0.number) u
    by_both None None u = refl

written_kept : (f g : List Kind) (x y : Kind) (r : Option Reg) → length f ≡ length g → LeqKinds f g → LeqKind x y → LeqKinds (written_with x r f) (written_with y r g)
written_kept f g x y None n le k = le
written_kept f g x y (Some r) n le k = LeqKinds-set f g r.number x y n le k

by_kept : (a : Attributes) (f g : List Kind) → length f ≡ length g → LeqKinds f g → AllSet g a → LeqKinds (after_by a f) (after_by a g)
by_kept a f g n le s = written_kept f g (given f a) (given g a) a.written n le (given_kept f g a le s)

-- the attributes give what leaves, except after a helper
after_cases : (P : (List Kind → List Kind) → Type 0) (helper : Option ℤ) (a : Attributes) → P after_helper → P (after_by a) → P (after_called helper a)
after_cases P (Some z) a h b = h
after_cases P None a h b = b

after_kept : (i : Insn) (f g : List Kind) → length f ≡ length g → LeqKinds f g → AllSet g (attributes_of i) → LeqKinds (after i f) (after i g)
after_kept i f g n le s = after_cases (λ h. LeqKinds (h f) (h g)) (called i) (attributes_of i) (LeqKinds-helper f g le) (by_kept (attributes_of i) f g n le s)

-- ---- the length that is known

-- what a comparison shows makes the known length no less
pub raised_grows : (low : ℕ) (o : Option ℤ) → low ≤ raised low o
raised_grows low None = omega arith
raised_grows low (Some (pos n)) = grind (arith, nat_tests)
raised_grows low (Some (negsuc n)) = omega arith

-- nor more than the longest message has
pub raised_within : (low : ℕ) (o : Option ℤ) → low ≤ 256 → raised low o ≤ 256
raised_within low None h = h
raised_within low (Some (pos n)) h = grind (arith, nat_tests)
raised_within low (Some (negsuc n)) h = h

raised_more : (a b : ℕ) (o : Option ℤ) → a ≤ b → raised a o ≤ raised b o
raised_more a b None h = h
raised_more a b (Some (pos n)) h = grind (arith, nat_tests)
raised_more a b (Some (negsuc n)) h = h

shown_if : (x y : Kind) (o : Option ℤ) → LeqKind x y → (cond (is_len y) o None ≡ None) ⊎ (cond (is_len x) o None ≡ cond (is_len y) o None)
shown_if x Unset o le = inl refl
shown_if x Num o le = inl refl
shown_if x Len o le = inr (ap (λ k. cond (is_len k) o None) le)
shown_if x (Place r k) o le = inl refl

shown_kept : (met : Bool) (i : Insn) (f g : List Kind) → LeqKinds f g → (shown met i g ≡ None) ⊎ (shown met i f ≡ shown met i g)
shown_kept met (JumpIf condition W64 dst (operand.Imm c) offset) f g le = shown_if (kind_at f dst.number) (kind_at g dst.number) (least_shown met condition c) (le dst.number)
shown_kept met i f g le = inl refl

low_kept : (met : Bool) (i : Insn) (f g : Frame) → Leq f g → raised g.low (shown met i g.kinds) ≤ raised f.low (shown met i f.kinds)
low_kept met i f g le = ⊎_elim none same (shown_kept met i f.kinds g.kinds le.kinds)
  where
    none : shown met i g.kinds ≡ None → raised g.low (shown met i g.kinds) ≤ raised f.low (shown met i f.kinds)
    none e = let a = ap (raised g.low) e in let b = raised_grows f.low (shown met i f.kinds) in let c = le.low in omega (arith, a, b, c)

    same : shown met i f.kinds ≡ shown met i g.kinds → raised g.low (shown met i g.kinds) ≤ raised f.low (shown met i f.kinds)
    same e = subst (λ o. raised g.low (shown met i g.kinds) ≤ raised f.low o) (sym e) (raised_more g.low f.low (shown met i g.kinds) le.low)

-- ---- instructions

pub monotone : IsMonotone
monotone form len i f g n le h =
    let k = none_holds (tests_of form len i g) h in
    let a = after_kept i f.kinds g.kinds n le.kinds (all_set g.kinds (attributes_of i) k.0) in
    (passes (tests_of form len i f) (rules_kept (attributes_of i) form len i f g le k), record { kinds = a; low = low_kept false i f g le }, record { kinds = a; low = low_kept true i f g le })

-- ---- eleven kinds stay eleven

written_length : (k : Kind) (r : Option Reg) (f : List Kind) → length f ≡ 11 → length (written_with k r f) ≡ 11
written_length k None f h = h
written_length k (Some r) f h = length-set f r.number k ∙ h

pub after_length : (i : Insn) (f : List Kind) → length f ≡ 11 → length (after i f) ≡ 11
after_length i f h =
    after_cases (λ x. length (x f) ≡ 11) (called i) (attributes_of i) (omega (arith, h, length-drop {A = Kind} 6 f)) (written_length (given f (attributes_of i)) (attributes_of i).written f h)

-- ---- the order of frames

LeqKind-trans : (a b c : Kind) → LeqKind a b → LeqKind b c → LeqKind a c
LeqKind-trans a b Unset p q = tt
LeqKind-trans a b Num p q = num_holds a b p q
LeqKind-trans a b Len p q = subst (LeqKind a) q p
LeqKind-trans a b (Place r k) p q = subst (LeqKind a) q p

LeqKind-antisym : (a b : Kind) → LeqKind a b → LeqKind b a → a ≡ b
LeqKind-antisym Unset Unset p q = refl
LeqKind-antisym Num Unset p q = cc
LeqKind-antisym Len Unset p q = cc
LeqKind-antisym (Place r k) Unset p q = cc
LeqKind-antisym Unset Num p q = cc
LeqKind-antisym Num Num p q = refl
LeqKind-antisym Len Num p q = cc
LeqKind-antisym (Place r k) Num p q = cc
LeqKind-antisym a Len p q = p
LeqKind-antisym a (Place r k) p q = p

pub Leq-refl : (f : Frame) → Leq f f
Leq-refl f = record { kinds = λ r. LeqKind-refl (kind_at f.kinds r); low = omega arith }

pub Leq-trans : (f g h : Frame) → Leq f g → Leq g h → Leq f h
Leq-trans f g h a b = record {
  kinds = λ r. LeqKind-trans (kind_at f.kinds r) (kind_at g.kinds r) (kind_at h.kinds r) (a.kinds r) (b.kinds r);
  low = let x = a.low in let y = b.low in omega (arith, x, y);
}

-- two frames of one length of which each says what the other says are one
pub Leq-antisym : (f g : Frame) → length f.kinds ≡ length g.kinds → Leq f g → Leq g f → f ≡ g
Leq-antisym f g n a b =
    let k : f.kinds ≡ g.kinds = ext_get_or Unset f.kinds g.kinds n (λ r lt. LeqKind-antisym (kind_at f.kinds r) (kind_at g.kinds r) (a.kinds r) (b.kinds r)) in
    let l : f.low ≡ g.low = let x = a.low in let y = b.low in omega (arith, x, y) in
    ap (λ x. record f { kinds = x }) k ∙ ap (λ x. record g { low = x }) l
