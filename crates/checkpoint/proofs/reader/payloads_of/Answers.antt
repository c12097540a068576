use Rattle.std.proofs.Common.{rules, ◌≡◌, ◌++◌, ◌∷◌, [], arith}
use Rattle.std.proofs.lemmas.Result.{err_from_is_err_and}
use Rattle.std.proofs.lemmas.Grind.{common_steps}
use Rattle.checkpoint.specs.Reader.{payload_at, times}
use Rattle.checkpoint.proofs.Counted.{goes_on, ends, is_done}
use Rattle.checkpoint.proofs.reader.payloads_of.Goals as goal

pub returns-in_err-payload-clause-exact : goal.returns-in_err-payload-clause-exact
returns-in_err-payload-clause-exact c =
    let p = err_from_is_err_and c.from_residual-in_err-payload.result c.from_residual-in_err-payload.ensures.1 in
    rw (p.1, p.2) (ends c.in_err-payload.field-0.0 (payload_at c.args.form) c.loop.payloads c.args.count c.loop.counter c.loop.rest.now (times (payload_at c.args.form) c.args.count c.args.bytes.now) c.loop-test.true c.in_err-payload.ensures.exact c.loop.invariant.read)

pub loop-preserved : goal.loop-preserved
loop-preserved c =
    let p = c.in_ok-payload.payload.now in
    let e : c.push.new.self ≡ c.loop.payloads ++ p ∷ [] = c.in_ok-push.ensures.ok in
    record {
      read = rw e (goes_on (payload_at c.args.form) c.loop.payloads c.args.count c.loop.counter c.loop.rest.now p c.in_ok-payload.after.now (times (payload_at c.args.form) c.args.count c.args.bytes.now) c.loop-test.true c.in_ok-payload.ensures.exact c.loop.invariant.read);
      count = first_of (search rules, grind (arith, common_steps));
      fits = first_of (search rules, grind (arith, common_steps));
    }

pub returns-clause-exact : goal.returns-clause-exact
returns-clause-exact c = is_done (payload_at c.args.form) c.loop.payloads c.args.count c.loop.counter c.loop.rest.now (times (payload_at c.args.form) c.args.count c.args.bytes.now) c.loop-test.false c.loop.invariant.read
