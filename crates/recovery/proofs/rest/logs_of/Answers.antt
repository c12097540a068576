use Rattle.std.proofs.lemmas.Result.{err_from_is_err_and}
use Rattle.packets.specs.Inside.Reader.{times}
use Rattle.recovery.specs.Resumption.{codes_at}
use Rattle.packets.proofs.Counted.{goes_on, ends, is_done}
use Rattle.recovery.proofs.rest.logs_of.Goals as goal

pub returns-in_err-codes : goal.returns-in_err-codes
returns-in_err-codes c =
    let p = err_from_is_err_and c.from_residual.result c.from_residual.ensures.1 in
    rw (p.1, p.2) (ends c.in_err-codes.field-0.0 codes_at c.loop.logs c.args.wide c.loop.counter c.loop.rest.now (times codes_at c.args.wide c.args.bytes.now) c.loop-test.true c.in_err-codes.ensures c.loop.invariant)

pub loop-preserved : goal.loop-preserved
loop-preserved c =
    rw c.in_ok-push.ensures (goes_on codes_at c.loop.logs c.args.wide c.loop.counter c.loop.rest.now c.in_ok-codes.codes c.in_ok-codes.after.now (times codes_at c.args.wide c.args.bytes.now) c.loop-test.true c.in_ok-codes.ensures c.loop.invariant)

pub returns : goal.returns
returns c = is_done codes_at c.loop.logs c.args.wide c.loop.counter c.loop.rest.now (times codes_at c.args.wide c.args.bytes.now) c.loop-test.false c.loop.invariant
