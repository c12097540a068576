use Rattle.std.proofs.Common.{◌∙◌, arith, sym, ap}
use Rattle.std.specs.Prelude.{◌-◌}
use Rattle.operations.specs.Words.{bits_of}
use Rattle.verifier.proofs.Spans.Ones.{ones_of, ones_all}
use Rattle.verifier.proofs.span.results.ones.Goals as goal

pub returns-then-top-power : goal.returns-then-top-power
returns-then-top-power c =
    ap (λ x. x - 1) c.power-power.ensures ∙ sym (ones_of (bits_of c.args.width) c.loop-count.count c.args.top (omega arith) (omega arith) c.loop-count.invariant)

pub returns : goal.returns
returns c =
    c.greatest.ensures ∙ sym (ones_all (bits_of c.args.width) c.args.top (λ j l. c.loop-count.invariant j (omega (arith, l))))
