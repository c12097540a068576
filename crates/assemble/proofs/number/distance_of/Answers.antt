use Rattle.std.proofs.Common.{rules, sym, subst, ℕ, List}
use Rattle.std.specs.Int.{w32}
use Rattle.assemble.specs.Number.{with_sign}
use Rattle.assemble.specs.Inside.Spelled.{IsSigned}
use Rattle.assemble.proofs.Numerals.{signed_spelled, signed_is}
use Rattle.assemble.proofs.Leaves.{signed_text, signed_digits, signed_ok, signed_out}
use Rattle.assemble.proofs.number.distance_of.Goals as goal

pub returns-then-not-is_signed : goal.returns-then-not-is_signed
returns-then-not-is_signed c = λ z e.
    let no : ¬ IsSigned c.args.bytes.now = search rules in
    no (subst (λ (x : List ℕ). IsSigned x) (sym e) (signed_spelled z))

pub returns-in_default : goal.returns-in_default
returns-in_default c = λ z e.
    let yes : IsSigned c.args.bytes.now = search rules in
    c.in_default.ensures (signed_text c.args.bytes.now yes)

pub returns-in-Ok : goal.returns-in-Ok
returns-in-Ok c =
    let yes : IsSigned c.args.bytes.now = search rules in
    signed_ok w32 with_sign c.args.bytes.now c.in-Some.text.now c.in-Ok.number c.in-Some.ensures (signed_is c.args.bytes.now yes) c.in-Ok.ensures.value.0.0.1 c.in-Ok.ensures.value.0.1

pub returns-in-Err : goal.returns-in-Err
returns-in-Err c =
    let yes : IsSigned c.args.bytes.now = search rules in
    signed_out w32 with_sign c.args.bytes.now c.in-Some.text.now c.in-Some.ensures (signed_is c.args.bytes.now yes) (signed_digits c.args.bytes.now yes) c.in-Err.ensures.value.0
