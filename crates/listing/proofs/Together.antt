-- What the slots before one pass on to it, one slot more at a time.
use Rattle.std.proofs.Common.{◌≡◌, ◌≢◌, ◌∙◌, ℕ, ◌+◌, ◌<◌, Option, Some, None, refl, sym, subst, ⊎_elim, arith}
use Rattle.std.proofs.lemmas.Bool.{cases_order}
use Rattle.regtypes.specs.declared.frame.Kind.{Kind}
use Rattle.regtypes.specs.declared.frame.Kind.TheVariants as kind
use Rattle.listing.specs.declared.study.Study.{Study}
use Rattle.listing.specs.declared.why.UnsetCause.{UnsetCause}
use Rattle.listing.specs.declared.why.UnsetCause.TheVariants.{Unknown, Never, Lost, Differs}
use Rattle.listing.specs.Inside.Arrives.{GoesWith, GoTogether}
use Rattle.listing.specs.Why.{Agree, IsReason, Passes}

pub together_more : (s : Study) (r at n : ℕ) (set set' new : Option (ℕ × Kind)) (why why' told : UnsetCause) → new ≡ set' → told ≡ why' → GoTogether s r at n set why
    → ((k : Kind) → GoesWith set why k → GoesWith set' why' k) → ((k : Kind) → Passes s r n at k → GoesWith set' why' k) → GoTogether s r at (n + 1) new told
together_more s r at n set set' new why why' told is tells before keep now p k within passed =
    let here = λ (q : p ≡ n). now k (subst (λ (m : ℕ). Passes s r m at k) q passed) in
    let earlier = λ (lt : p < n). keep k (before p k lt passed) in
    let later = λ (gt : n < p). absurd (omega (arith, gt, within)) in
    let goes : GoesWith set' why' k = ⊎_elim here (⊎_elim earlier later) (cases_order p n) in
    subst (λ (x : Option (ℕ × Kind)). GoesWith x told k) (sym is) (subst (λ (y : UnsetCause). GoesWith set' y k) (sym tells) goes)

-- a slot that passes nothing on, and one that passes on this kind
pub passes_none : (s : Study) (r at n : ℕ) (found : Option Kind) (set : Option (ℕ × Kind)) (why : UnsetCause) → ((k : Kind) → Passes s r n at k → found ≡ Some k) → found ≡ None
    → (k : Kind) → Passes s r n at k → GoesWith set why k
passes_none s r at n found set why each none k passed = absurd (let both : None ≡ Some k = sym none ∙ each k passed in cc)

pub passes_one : (s : Study) (r at n : ℕ) (found : Option Kind) (x : Kind) (set : Option (ℕ × Kind)) (why : UnsetCause) → ((k : Kind) → Passes s r n at k → found ≡ Some k) → found ≡ Some x
    → GoesWith set why x → (k : Kind) → Passes s r n at k → GoesWith set why k
passes_one s r at n found x set why each one goes k passed =
    let same : x ≡ k = let both : Some x ≡ Some k = sym one ∙ each k passed in cc in
    subst (λ (y : Kind). GoesWith set why y) same goes

-- if nothing is set so far, nothing was passed on; with a reason, nothing has to agree any more
pub none_before : (set : Option (ℕ × Kind)) (why : UnsetCause) (k : Kind) → GoesWith None why k → GoesWith set why k
none_before set why k goes = absurd goes

pub with_reason : (x : ℕ × Kind) (why told : UnsetCause) (k : Kind) → told ≢ Unknown → GoesWith (Some x) why k → GoesWith (Some x) told k
with_reason x why told k other goes = (goes.0, λ unknown. absurd (other unknown))

pub first_kind : (p : ℕ) (k : Kind) (why : UnsetCause) → k ≢ kind.Unset → GoesWith (Some (p, k)) why k
first_kind p k why set = (set, λ unknown clash. clash.differ refl)

-- at the end no reason is found only if there is none
pub agree : (s : Study) (r at : ℕ) (set : Option (ℕ × Kind)) (why : UnsetCause) → 0 < at → why ≡ Unknown → GoTogether s r at at set why → Agree s r at
agree s r at None why later unknown all = record { kind = kind.Unset; entry = λ first. absurd (omega (arith, later, first)); all = λ p k lt passed. absurd (all p k lt passed) }
agree s r at (Some x) why later unknown all = record { kind = x.1; entry = λ first. absurd (omega (arith, later, first)); all = λ p k lt passed. ((all p k lt passed).0, (all p k lt passed).1 unknown) }

pub told : (s : Study) (r at : ℕ) (set : Option (ℕ × Kind)) (why : UnsetCause) → 0 < at → (why ≢ Unknown → IsReason s r why at) → GoTogether s r at at set why → IsReason s r why at
told s r at set Unknown later reason all = agree s r at set Unknown later refl all
told s r at set Never later reason all = reason (λ (e : Never ≡ Unknown). cc)
told s r at set (Lost p) later reason all = reason (λ (e : Lost p ≡ Unknown). cc)
told s r at set (Differs p q t) later reason all = reason (λ (e : Differs p q t ≡ Unknown). cc)
