use Rattle.std.proofs.Common.{ℤ, ◌≡◌, Result, Err, ap, sym, subst, ◌∙◌, arith, rules}
use Rattle.std.proofs.lemmas.Grind.{common_steps}
use Rattle.std.proofs.lemmas.Int.{to_z-of_z}
use Rattle.std.specs.Prelude.{FitsSigned}
use Rattle.std.specs.Int.{w16, w32}
use Rattle.assemble.specs.declared.fault.TextFault.{TextFault}
use Rattle.assemble.specs.declared.fault.TextFault.TheVariants.{Shape, Range}
use Rattle.assemble.specs.Number.{with_sign}
use Rattle.assemble.specs.Inside.Reads.{Reads}
use Rattle.assemble.proofs.number.offset_of.Goals as goal

wider : (z : ℤ) → FitsSigned w16 z → FitsSigned w32 z
wider z h = record { sfits = let a = h.sfits in omega arith }

-- what isn't read of 32 bits isn't read of 16
narrower : (P : ℤ → Type 0) (e : TextFault) → Reads P (FitsSigned w32) (Err e) → Reads P (FitsSigned w16) (Err e)
narrower P Range h = (h.0, h.1, λ fits. h.2 (wider h.0 fits))
narrower P Shape h = h

pub returns-in_err-distance : goal.returns-in_err-distance
returns-in_err-distance c =
    let P : ℤ → Type 0 = λ z. c.args.bytes.now ≡ with_sign z in
    let is : c.from_residual.result ≡ Err c.in_err-distance.field-0.0 = first_of (search rules, grind (arith, common_steps)) in
    subst (λ (r : Result ℤ TextFault). Reads P (FitsSigned w16) r) (sym is) (narrower P c.in_err-distance.field-0.0 c.in_err-distance.ensures)

pub returns-in-Ok : goal.returns-in-Ok
returns-in-Ok c =
    let d = c.in_ok-distance.distance in
    let read = c.in_ok-distance.ensures in
    let cut = c.in-Ok.ensures in
    let o : c.in-Ok.offset ≡ d = cut.1 ∙ to_z-of_z w32 d read.1 in
    let here : FitsSigned w16 c.in-Ok.offset = subst (λ (z : ℤ). FitsSigned w16 z) (sym cut.1) cut.0 in
    let P : ℤ → Type 0 = λ z. (c.args.bytes.now ≡ with_sign z) × FitsSigned w16 z in
    subst P (sym (to_z-of_z w16 c.in-Ok.offset here)) (read.0 ∙ ap with_sign (sym o), here)

pub returns-in-Err : goal.returns-in-Err
returns-in-Err c =
    let d = c.in_ok-distance.distance in
    let read = c.in_ok-distance.ensures in
    (d, read.0, λ fits. c.in-Err.ensures (subst (λ (z : ℤ). FitsSigned w16 z) (sym (to_z-of_z w32 d read.1)) fits))
