use Rattle.std.proofs.Common.{◌≡◌, sym, ap, ◌∙◌, subst}
use Rattle.std.specs.Result.{result_unwrap_or}
use Rattle.decode.specs.declared.insn.AluOp.{AluOp}
use Rattle.decode.specs.declared.insn.Width.{Width}
use Rattle.operations.specs.Words.{bits_of}
use Rattle.spans.specs.declared.kind.SpanKind.{SpanKind}
use Rattle.spans.specs.declared.kind.SpanKind.TheVariants.{Unset, Num}
use Rattle.spans.specs.Frame.{IsKind}
use Rattle.spans.specs.Ways.{from_spans, low_span}
use Rattle.spans.specs.declared.span.Span.{Span}
use Rattle.spans.specs.Span.{IsSpan, result_span}
use Rattle.spans.proofs.Monotone.{low_span-is}
use Rattle.verifier.proofs.span.alu.computed.Goals as goal

-- the low bits of a register that holds a number are words of the width
are_words : (width : Width) (k : SpanKind) (s r : Span) → IsKind k → k ≡ Num s → r ≡ low_span width s → IsSpan (bits_of width) r
are_words width k s r i e q = subst (IsSpan (bits_of width)) (sym q) (low_span-is width s (subst IsKind e i))

-- what is computed of two numbers
of_numbers : (op : AluOp) (width : Width) (a b : SpanKind) (s t u v r : Span) → a ≡ Num s → b ≡ Num t → u ≡ low_span width s → v ≡ low_span width t → r ≡ result_span op (bits_of width) u v → Num r ≡ result_unwrap_or (from_spans (λ x y. result_span op (bits_of width) (low_span width x) (low_span width y)) a b) Unset
of_numbers op width a b s t u v r ea eb eu ev er =
    ap Num (er ∙ ap (λ (x : Span). result_span op (bits_of width) x v) eu ∙ ap (result_span op (bits_of width) (low_span width s)) ev) ∙ sym (ap (λ (k : SpanKind). result_unwrap_or (from_spans (λ x y. result_span op (bits_of width) (low_span width x) (low_span width y)) k b) Unset) ea ∙ ap (λ (k : SpanKind). result_unwrap_or (from_spans (λ x y. result_span op (bits_of width) (low_span width x) (low_span width y)) (Num s) k) Unset) eb)

pub result-requires-clause-a : goal.result-requires-clause-a
result-requires-clause-a c = are_words c.args.width c.args.a c.in-Num.s _ c.requires.a c.in-Num.is c.low_span.ensures

pub result-requires-clause-b : goal.result-requires-clause-b
result-requires-clause-b c = are_words c.args.width c.args.b c.in-Num-b.t _ c.requires.b c.in-Num-b.is c.low_span-in-Num-b.ensures

pub returns-in-Num-b : goal.returns-in-Num-b
returns-in-Num-b c =
    of_numbers c.args.op c.args.width c.args.a c.args.b c.in-Num.s c.in-Num-b.t _ _ _ c.in-Num.is c.in-Num-b.is c.low_span.ensures c.low_span-in-Num-b.ensures c.result.ensures
