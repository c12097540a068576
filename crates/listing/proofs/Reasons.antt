-- Reasons for registers, one register more at a time.
use Rattle.std.proofs.Common.{◌≡◌, ◌≢◌, ◌∙◌, ℕ, zero, suc, ◌+◌, ◌<◌, List, [], ◌∷◌, length, get_or, refl, sym, ap, subst, ⊎_elim, arith}
use Rattle.std.specs.Prelude.{Some, None, slice_set}
use Rattle.std.specs.List.{AllByRecursion}
use Rattle.std.proofs.lemmas.Bool.{cases_order}
use Rattle.std.proofs.lemmas.List.{get_or-set_same, get_or-set_other}
use Rattle.regtypes.specs.declared.frame.Frame.{Frame}
use Rattle.regtypes.specs.declared.frame.Kind.TheVariants.{Unset}
use Rattle.regtypes.specs.Frame.{kind_at}
use Rattle.listing.specs.Study.{flat_at}
use Rattle.listing.specs.declared.study.Study.{Study}
use Rattle.listing.specs.declared.why.UnsetCause.{UnsetCause}
use Rattle.listing.specs.declared.why.UnsetCause.TheVariants.{Unknown}
use Rattle.listing.specs.Why.{Explains, IsWhy}

-- no reason was found yet
abbrev pub eleven : List UnsetCause
eleven = Unknown ∷ Unknown ∷ Unknown ∷ Unknown ∷ Unknown ∷ Unknown ∷ Unknown ∷ Unknown ∷ Unknown ∷ Unknown ∷ Unknown ∷ []

unknown_at : (whys : List UnsetCause) (r : ℕ) → AllByRecursion (λ w. w ≡ Unknown) whys → get_or whys r Unknown ≡ Unknown
unknown_at [] r h = refl
unknown_at (w ∷ whys) zero h = h.0
unknown_at (w ∷ whys) (suc r) h = unknown_at whys r h.1

pub none_yet : (r : ℕ) → get_or eleven r Unknown ≡ Unknown
none_yet r = unknown_at eleven r (refl, (refl, (refl, (refl, (refl, (refl, (refl, (refl, (refl, (refl, (refl, tt)))))))))))

-- a register that isn't set, one that is, and a slot that no way reaches
pub of_unset : (s : Study) (r here : ℕ) (f : Frame) (why : UnsetCause) → flat_at s.table here ≡ Some f → kind_at f.kinds r ≡ Unset → IsWhy s r why here → Explains s r why here
of_unset s r here f why there unset is = record { unset = λ _. is; set = λ other. absurd (other (record { frame = f; there = there; unset = unset })) }

pub of_set : (s : Study) (r here : ℕ) (f : Frame) (why : UnsetCause) → flat_at s.table here ≡ Some f → kind_at f.kinds r ≢ Unset → why ≡ Unknown → Explains s r why here
of_set s r here f why there set none = record {
  unset = λ is. let same : is.frame ≡ f = let both : Some is.frame ≡ Some f = sym is.there ∙ there in cc in
      absurd (set (subst (λ (g : Frame). kind_at g.kinds r ≡ Unset) same is.unset));
  set = λ _. none;
}

pub of_nowhere : (s : Study) (r here : ℕ) (why : UnsetCause) → flat_at s.table here ≡ None → why ≡ Unknown → Explains s r why here
of_nowhere s r here why nowhere none = record {
  unset = λ is. let both : None ≡ Some is.frame = sym nowhere ∙ is.there in cc;
  set = λ _. none;
}

-- one register more
pub one_more : (s : Study) (whys new : List UnsetCause) (here n : ℕ) → ((r : ℕ) → r < n → Explains s r (get_or whys r Unknown) here) → ((r : ℕ) → r < n → get_or new r Unknown ≡ get_or whys r Unknown)
    → Explains s n (get_or new n Unknown) here → (r : ℕ) → r < n + 1 → Explains s r (get_or new r Unknown) here
one_more s whys new here n before same now r within =
    let here_it = λ (q : r ≡ n). subst (λ (m : ℕ). Explains s m (get_or new m Unknown) here) (sym q) now in
    let earlier = λ (lt : r < n). subst (λ (w : UnsetCause). Explains s r w here) (sym (same r lt)) (before r lt) in
    let later = λ (gt : n < r). absurd (omega (arith, gt, within)) in
    ⊎_elim here_it (⊎_elim earlier later) (cases_order r n)

pub set_others : (whys new : List UnsetCause) (why : UnsetCause) (n r : ℕ) → new ≡ slice_set whys n why → r ≢ n → get_or new r Unknown ≡ get_or whys r Unknown
set_others whys new why n r is apart = ap (λ (l : List UnsetCause). get_or l r Unknown) is ∙ get_or-set_other whys n r why Unknown apart

pub set_here : (whys new : List UnsetCause) (why : UnsetCause) (n : ℕ) → new ≡ slice_set whys n why → n < length whys → get_or new n Unknown ≡ why
set_here whys new why n is within = ap (λ (l : List UnsetCause). get_or l n Unknown) is ∙ get_or-set_same whys n why Unknown within
