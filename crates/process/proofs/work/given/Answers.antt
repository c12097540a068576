use Rattle.std.proofs.Common.{rules, ◌≡◌, ◌≤◌, length, ap, arith}
use Rattle.std.proofs.lemmas.Grind.{common_steps}
use Rattle.limits.specs.declared.TheConstants.{EFFECTS}
use Rattle.process.specs.Work.{given_of}
use Rattle.process.proofs.Results.{given-few}
use Rattle.process.proofs.work.given.Goals as goal

pub returns-clause-few : goal.returns-clause-few
returns-clause-few c =
    let e = c.args.effects.now in
    let value : c.if-who-ne0.given.items ≡ given_of c.args.who e = first_of (search rules, grind (arith, common_steps)) in
    let s : length e.sends ≤ EFFECTS = first_of (search rules, grind (arith, common_steps)) in
    let o : length e.outputs ≤ EFFECTS = first_of (search rules, grind (arith, common_steps)) in
    omega (arith, ap length value, given-few c.args.who e s o)
