use Rattle.std.proofs.Common.{rules, sym, subst, ℕ, List}
use Rattle.assemble.specs.Inside.Spelled.{IsUnsigned}
use Rattle.assemble.proofs.Numerals.{unsigned}
use Rattle.assemble.proofs.Leaves.{unsigned_text, unsigned_ok, unsigned_out}
use Rattle.assemble.proofs.number.value_of.Goals as goal

pub returns-then-not-is_unsigned : goal.returns-then-not-is_unsigned
returns-then-not-is_unsigned c = λ n e.
    let no : ¬ IsUnsigned c.args.bytes.now = search rules in
    no (subst (λ (x : List ℕ). IsUnsigned x) (sym e) (unsigned n))

pub returns-in_default : goal.returns-in_default
returns-in_default c = λ n e.
    let yes : IsUnsigned c.args.bytes.now = search rules in
    c.in_default.ensures (unsigned_text c.args.bytes.now yes)

pub returns-in-Ok : goal.returns-in-Ok
returns-in-Ok c =
    let yes : IsUnsigned c.args.bytes.now = search rules in
    unsigned_ok c.args.bytes.now c.in-Some.text.now c.in-Ok.number c.in-Some.ensures yes c.in-Ok.ensures.value.0.0.1 c.in-Ok.ensures.value.0.1

pub returns-in-Err : goal.returns-in-Err
returns-in-Err c =
    let yes : IsUnsigned c.args.bytes.now = search rules in
    unsigned_out c.args.bytes.now c.in-Some.text.now c.in-Some.ensures yes c.in-Err.ensures.value.0
