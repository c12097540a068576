use Rattle.std.proofs.Common.{◌≡◌, ℕ, sym, ap, ◌∙◌}
use Rattle.decode.specs.declared.insn.AluOp.{AluOp}
use Rattle.decode.specs.declared.insn.AluOp.TheVariants as alu
use Rattle.operations.specs.Words.{bits_of}
use Rattle.spans.specs.declared.span.Span.{Span}
use Rattle.spans.specs.Span.{result_span}
use Rattle.verifier.proofs.span.results.result.Goals as goal

-- where the results lie of an operation that is known
of_op : (op o : AluOp) (n : ℕ) (a b r : Span) → r ≡ result_span o n a b → op ≡ o → r ≡ result_span op n a b
of_op op o n a b r e q = e ∙ ap (λ (p : AluOp). result_span p n a b) (sym q)

pub returns-in-Add : goal.returns-in-Add
returns-in-Add c = of_op c.args.op alu.Add (bits_of c.args.width) c.args.a c.args.b _ c.sum.ensures c.in-Add.is

pub returns-in-Sub : goal.returns-in-Sub
returns-in-Sub c = of_op c.args.op alu.Sub (bits_of c.args.width) c.args.a c.args.b _ c.difference.ensures c.in-Sub.is

pub returns-in-Mul : goal.returns-in-Mul
returns-in-Mul c = of_op c.args.op alu.Mul (bits_of c.args.width) c.args.a c.args.b _ c.product.ensures c.in-Mul.is

pub returns-in-Div : goal.returns-in-Div
returns-in-Div c = of_op c.args.op alu.Div (bits_of c.args.width) c.args.a c.args.b _ c.quotient.ensures c.in-Div.is

pub returns-in-Lsh : goal.returns-in-Lsh
returns-in-Lsh c = of_op c.args.op alu.Lsh (bits_of c.args.width) c.args.a c.args.b _ c.shifted_left.ensures c.in-Lsh.is

pub returns-in-Rsh : goal.returns-in-Rsh
returns-in-Rsh c = of_op c.args.op alu.Rsh (bits_of c.args.width) c.args.a c.args.b _ c.shifted_right.ensures c.in-Rsh.is

pub returns-in-Mod : goal.returns-in-Mod
returns-in-Mod c = of_op c.args.op alu.Mod (bits_of c.args.width) c.args.a c.args.b _ c.remainder.ensures c.in-Mod.is

pub returns-in-Arsh : goal.returns-in-Arsh
returns-in-Arsh c = of_op c.args.op alu.Arsh (bits_of c.args.width) c.args.a c.args.b _ c.shifted_signed.ensures c.in-Arsh.is

pub sum-requires-clause-a : goal.sum-requires-clause-a
sum-requires-clause-a c = c.requires.a

pub sum-requires-clause-b : goal.sum-requires-clause-b
sum-requires-clause-b c = c.requires.b

pub difference-requires-clause-a : goal.difference-requires-clause-a
difference-requires-clause-a c = c.requires.a

pub difference-requires-clause-b : goal.difference-requires-clause-b
difference-requires-clause-b c = c.requires.b

pub product-requires-clause-a : goal.product-requires-clause-a
product-requires-clause-a c = c.requires.a

pub product-requires-clause-b : goal.product-requires-clause-b
product-requires-clause-b c = c.requires.b

pub quotient-requires-clause-a : goal.quotient-requires-clause-a
quotient-requires-clause-a c = c.requires.a

pub quotient-requires-clause-b : goal.quotient-requires-clause-b
quotient-requires-clause-b c = c.requires.b

pub shifted_left-requires-clause-a : goal.shifted_left-requires-clause-a
shifted_left-requires-clause-a c = c.requires.a

pub shifted_left-requires-clause-b : goal.shifted_left-requires-clause-b
shifted_left-requires-clause-b c = c.requires.b

pub shifted_right-requires-clause-a : goal.shifted_right-requires-clause-a
shifted_right-requires-clause-a c = c.requires.a

pub shifted_right-requires-clause-b : goal.shifted_right-requires-clause-b
shifted_right-requires-clause-b c = c.requires.b

pub remainder-requires : goal.remainder-requires
remainder-requires c = c.requires.b

pub shifted_signed-requires-clause-a : goal.shifted_signed-requires-clause-a
shifted_signed-requires-clause-a c = c.requires.a

pub shifted_signed-requires-clause-b : goal.shifted_signed-requires-clause-b
shifted_signed-requires-clause-b c = c.requires.b
