use Rattle.std.proofs.Common.{◌≡◌, ◌+◌, [], ◌∙◌, ◌-◌, sym, arith, get_or, ap}
use Rattle.scenario.specs.Process.{names_of}
use Rattle.scenario.proofs.Names.{found, missing, names_place}
use Rattle.scenario.proofs.process.named_process.Goals as goal

pub returns-in_err-index : goal.returns-in_err-index
returns-in_err-index c =
    let names = names_of c.args.processes.now in
    let none = sym (names_place c.args.text.now c.args.processes.now.entries) ∙ sym c.in_err-index.ensures.index in
    rw c.from_residual.ensures (λ p fits. missing names c.args.text.now none (p - 1) (omega (arith, fits.0, fits.1)))

pub returns : goal.returns
returns c =
    let names = names_of c.args.processes.now in
    let at = found names c.args.text.now c.in_ok-index.index (sym (names_place c.args.text.now c.args.processes.now.entries) ∙ sym c.in_ok-index.ensures.index) in
    let back : c.in_ok-index.index ≡ c.in_ok-index.index + 1 - 1 = omega arith in
    (at.0 ∙ ap (λ k. get_or names k []) back, (omega arith, omega (arith, at.1)))
