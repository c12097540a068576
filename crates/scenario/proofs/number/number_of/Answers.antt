use Rattle.std.proofs.Common.{arith, rules, ◌≡◌, false, true}
use Rattle.scenario.specs.Inside.Reads.{is_numeral}
use Rattle.scenario.proofs.Numbers.{no_numeral, numeral_ok, numeral_out}
use Rattle.scenario.proofs.number.number_of.Goals as goal

pub returns-then-not-is_numeral : goal.returns-then-not-is_numeral
returns-then-not-is_numeral c = λ v lt.
    let no : is_numeral c.args.text.now ≡ false = search rules in
    no_numeral c.args.text.now v (omega arith) no

pub returns-in-Ok : goal.returns-in-Ok
returns-in-Ok c =
    let yes : is_numeral c.args.text.now ≡ true = search rules in
    numeral_ok 32 c.args.text.now c.parse.result c.in-Ok.number (λ m lt. omega (arith, lt)) yes c.parse.ensures.value.0 c.in-Ok.is

pub returns-in-Err : goal.returns-in-Err
returns-in-Err c = numeral_out 32 c.args.text.now c.parse.result _ (λ m lt. omega (arith, lt)) c.parse.ensures.value.0 c.in-Err.is
