use Rattle.std.proofs.Common.{rules, sym, subst, ℕ, List}
use Rattle.std.specs.Int.{w32}
use Rattle.assemble.specs.Number.{number}
use Rattle.assemble.specs.Inside.Spelled.{IsNumber}
use Rattle.assemble.proofs.Numerals.{number_spelled, number_is}
use Rattle.assemble.proofs.Leaves.{number_text, number_digits, signed_ok, signed_out}
use Rattle.assemble.proofs.number.number_of.Goals as goal

pub returns-then-not-is_number : goal.returns-then-not-is_number
returns-then-not-is_number c = λ z e.
    let no : ¬ IsNumber c.args.bytes.now = search rules in
    no (subst (λ (x : List ℕ). IsNumber x) (sym e) (number_spelled z))

pub returns-in_default : goal.returns-in_default
returns-in_default c = λ z e.
    let yes : IsNumber c.args.bytes.now = search rules in
    c.in_default.ensures (number_text c.args.bytes.now yes)

pub returns-in-Ok : goal.returns-in-Ok
returns-in-Ok c =
    let yes : IsNumber c.args.bytes.now = search rules in
    signed_ok w32 number c.args.bytes.now c.in-Some.text.now c.in-Ok.number c.in-Some.ensures (number_is c.args.bytes.now yes) c.in-Ok.ensures.value.0.0.1 c.in-Ok.ensures.value.0.1

pub returns-in-Err : goal.returns-in-Err
returns-in-Err c =
    let yes : IsNumber c.args.bytes.now = search rules in
    signed_out w32 number c.args.bytes.now c.in-Some.text.now c.in-Some.ensures (number_is c.args.bytes.now yes) (number_digits c.args.bytes.now yes) c.in-Err.ensures.value.0
