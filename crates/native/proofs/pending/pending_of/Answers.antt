use Rattle.std.proofs.Common.{◌<◌, sym, ◌∙◌, arith}
use Rattle.native.proofs.Uncounted.{settling_more, settling_end}
use Rattle.native.proofs.pending.pending_of.Goals as goal

pub returns-then-not-pass-clause-value : goal.returns-then-not-pass-clause-value
returns-then-not-pass-clause-value c =
    let l : c.passes.counter < 16 = omega (arith, c.passes-test.true) in
    let e = c.pass.ensures in
    settling_end c.args.tasks.now c.passes.pending.items c.pass.new.pending.items c.passes.counter l e.list c.passes.invariant (sym e.more ∙ c.if-not-pass.true)

pub passes-preserved : goal.passes-preserved
passes-preserved c =
    let l : c.passes.counter < 16 = omega (arith, c.passes-test.true) in
    let e = c.pass.ensures in
    settling_more c.args.tasks.now c.passes.pending.items c.pass.new.pending.items c.passes.counter l e.list c.passes.invariant (sym e.more ∙ c.if-not-pass.false) e.falls
