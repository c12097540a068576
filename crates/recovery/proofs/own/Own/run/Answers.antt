use Rattle.std.proofs.Common.{◌≡◌, ◌<◌, ℕ, List, length, ap, ◌∙◌, arith}
use Rattle.std.specs.Prelude.{Some, slice_get}
use Rattle.node.specs.declared.job.Given.{Given}
use Rattle.node.specs.Queue.{TheQueue}
use Rattle.node.specs.Node.{given_to, log_at}
use Rattle.node.proofs.Logs.{given-length, given-room}
use Rattle.recovery.specs.Own.{TheOwn}
use Rattle.recovery.proofs.own.Own.run.Goals as goal

pub invariant_of-self-2 : goal.invariant_of-self-2
invariant_of-self-2 c =
    let i = c.self.invariant in
    let old = c.self.inside in
    let logs : c.log.new.logs.items ≡ given_to c.args.number c.args.given.now old.logs.items = c.in_ok-log.ensures.ok in
    record {
      allowed = i.allowed;
      inside = i.inside;
      within = i.within;
      few = i.few;
      wide = i.wide;
      heard_wide = i.heard_wide;
      lost_wide = i.lost_wide;
      logs_wide = ap length logs ∙ given-length c.args.number c.args.given.now old.logs.items ∙ i.logs_wide;
      counts = i.counts;
      young = i.young;
      alive = i.alive;
      covers = i.covers;
    }

pub returns-clause-short : goal.returns-clause-short
returns-clause-short c k short d =
    let i = c.self.invariant in
    let old = c.self.inside in
    let given = c.args.given.now in
    let logs : c.log.new.logs.items ≡ given_to c.args.number given old.logs.items = c.in_ok-log.ensures.ok in
    let inside : (j : ℕ) (g : Given) → slice_get given j ≡ Some g → g.to < length old.logs.items = λ j g e. omega (arith, i.logs_wide, (c.requires.given.others j g e).0, ap (λ (o : TheOwn). o.count) c.self.view_is) in
    let room = given-room c.args.number given old.logs.items d inside in
    let dropped = ap (λ (l : List TheQueue). (log_at l d).dropped) logs in
    let payloads = ap (λ (l : List TheQueue). length (log_at l d).payloads) logs in
    let was-dropped = ap (λ (o : TheOwn). (log_at o.logs d).dropped) c.self.view_is in
    let was-payloads = ap (λ (o : TheOwn). length (log_at o.logs d).payloads) c.self.view_is in
    omega (arith, room, dropped, payloads, was-dropped, was-payloads, short d, c.requires.given.few)
