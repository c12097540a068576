use Rattle.std.proofs.lemmas.Result.{err_from_is_err_and}
use Rattle.packets.specs.Inside.Reader.{times}
use Rattle.packets.proofs.Counted.{goes_on, ends, is_done}
use Rattle.packets.proofs.field.many_of.Goals as goal

pub returns-in_err-item : goal.returns-in_err-item
returns-in_err-item g c =
    let r = g.T.Readable.reader in
    let p = err_from_is_err_and c.from_residual.result c.from_residual.ensures.1 in
    rw (p.1, p.2) (ends c.in_err-item.field-0.0 r c.loop.items c.args.count c.loop.counter c.loop.rest.now (times r c.args.count c.args.bytes.now) c.loop-test.true c.in_err-item.ensures c.loop.invariant)

pub loop-preserved : goal.loop-preserved
loop-preserved g c =
    let r = g.T.Readable.reader in
    rw c.in_ok-push.ensures (goes_on r c.loop.items c.args.count c.loop.counter c.loop.rest.now c.in_ok-item.item c.in_ok-item.after.now (times r c.args.count c.args.bytes.now) c.loop-test.true c.in_ok-item.ensures c.loop.invariant)

pub returns : goal.returns
returns g c = let r = g.T.Readable.reader in is_done r c.loop.items c.args.count c.loop.counter c.loop.rest.now (times r c.args.count c.args.bytes.now) c.loop-test.false c.loop.invariant
