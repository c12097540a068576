use Rattle.std.proofs.Common.{◌≡◌, ◌≢◌, ℕ, ◌<◌, ◌≤◌, ◌∙◌, length, get_or, rules, refl, sym, ap, subst, arith}
use Rattle.std.proofs.lemmas.List.{length-set}
use Rattle.std.specs.Prelude.{Some}
use Rattle.regtypes.specs.declared.frame.Kind.TheVariants.{Unset}
use Rattle.regtypes.specs.Frame.{kind_at}
use Rattle.listing.specs.Study.{flat_at}
use Rattle.listing.specs.declared.why.UnsetCause.{UnsetCause}
use Rattle.listing.specs.declared.why.UnsetCause.TheVariants.{Unknown}
use Rattle.listing.specs.Why.{Explains}
use Rattle.listing.proofs.Reasons.{eleven, none_yet, of_nowhere, of_set, of_unset, one_more, set_here, set_others}
use Rattle.listing.proofs.why.whys_at.Goals as goal
use Rattle.listing.proofs.why.whys_at.Goals.{then-eq, else-eq}

pub returns-in_default : goal.returns-in_default
returns-in_default c = λ r lt. of_nowhere c.args.study.now r c.args.slot (get_or eleven r Unknown) (sym c.frame_at.ensures ∙ c.in_default.is) (none_yet r)

pub loop-number-init : goal.loop-number-init
loop-number-init c = record { size = refl; found = λ r lt. absurd (omega (arith, lt)); rest = λ r le. none_yet r }

pub loop-number-preserved : goal.loop-number-preserved
loop-number-preserved c =
    let s = c.args.study.now in
    let n = c.loop-number.number in
    let old = c.loop-number.whys in
    let was = c.loop-number.invariant in
    let frame = c.in-Some.frame in
    let there : flat_at s.table c.args.slot ≡ Some frame = sym c.frame_at.ensures ∙ c.in-Some.is in
    let within : n < length old = let k = was.size in omega arith in
    let at_least : n ≤ n = omega arith in
    elim c.if-eq.branch [
      | then-eq w ↦
          let why = w.why_of.result in
          let unset : kind_at frame.kinds n ≡ Unset = search rules in
          let others : (r : ℕ) → r ≢ n → get_or c.if-eq.whys r Unknown ≡ get_or old r Unknown = λ r apart. set_others old c.if-eq.whys why n r w.whys-is apart in
          let now : Explains s n (get_or c.if-eq.whys n Unknown) c.args.slot = subst (λ (x : UnsetCause). Explains s n x c.args.slot) (sym (set_here old c.if-eq.whys why n w.whys-is within)) (of_unset s n c.args.slot frame why there unset w.why_of.ensures) in
          record {
            size = ap length w.whys-is ∙ length-set old n why ∙ was.size;
            found = one_more s old c.if-eq.whys c.args.slot n was.found (λ r lt. others r (λ (q : r ≡ n). omega (arith, q, lt))) now;
            rest = λ r le. others r (λ (q : r ≡ n). omega (arith, q, le)) ∙ was.rest r (omega (arith, le));
          }
      | else-eq w ↦
          let set : kind_at frame.kinds n ≢ Unset = search rules in
          let now : Explains s n (get_or c.if-eq.whys n Unknown) c.args.slot = of_set s n c.args.slot frame (get_or c.if-eq.whys n Unknown) there set (ap (λ l. get_or l n Unknown) w.whys-is ∙ was.rest n at_least) in
          record {
            size = ap length w.whys-is ∙ was.size;
            found = one_more s old c.if-eq.whys c.args.slot n was.found (λ r lt. ap (λ l. get_or l r Unknown) w.whys-is) now;
            rest = λ r le. ap (λ l. get_or l r Unknown) w.whys-is ∙ was.rest r (omega (arith, le));
          }
    ]

pub returns : goal.returns
returns c = λ r lt. c.loop-number.invariant.found r (omega (arith, lt))
