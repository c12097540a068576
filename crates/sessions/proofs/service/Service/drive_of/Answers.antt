use Rattle.std.proofs.Common.{◌≡◌, ℕ, ◌+◌, sym, ap, ◌∙◌, subst}
use Rattle.std.specs.Prelude.{None, Result, Err}
use Rattle.std.proofs.lemmas.Result.{err_from_is_err_and}
use Rattle.world.specs.declared.refusal.Refusal.{Refusal}
use Rattle.sessions.specs.Driver.{Driven}
use Rattle.sessions.proofs.Driven.{advance-more}
use Rattle.sessions.specs.Service.{seat_of}
use Rattle.sessions.proofs.service.Service.drive_of.Goals as goal

pub returns-in_err-accepted : goal.returns-in_err-accepted
returns-in_err-accepted c =
    let refusal = c.in_err-accepted.field-0.0 in
    let err = c.in_err-accepted.ensures.err in
    let out = err_from_is_err_and c.from_residual.result c.from_residual.ensures.1 in
    let told : c.from_residual.result ≡ Err refusal = out.1 ∙ ap Err out.2 in
    let old = c.args.self.now in
    let mid = c.loop-accepted.self in
    let new = c.advance.new.self in
    let P : Result ℕ Refusal → Type 0 = λ r. Driven c.args.budget old new (seat_of c.args.worker old) (seat_of c.args.worker new) r in
    subst P (sym told)
    (err.0, (c.loop-accepted.accepted + err.1.0, err.1.1, advance-more c.args.budget old mid new (seat_of c.args.worker old) (seat_of c.args.worker mid) (seat_of c.args.worker new) c.loop-accepted.accepted err.1.0 err.1.1 c.loop-accepted.invariant c.loop-accepted-test.true err.1.2))

pub loop-accepted-preserved : goal.loop-accepted-preserved
loop-accepted-preserved c =
    let old = c.args.self.now in
    let mid = c.loop-accepted.self in
    let new = c.advance.new.self in
    advance-more c.args.budget old mid new (seat_of c.args.worker old) (seat_of c.args.worker mid) (seat_of c.args.worker new) c.loop-accepted.accepted c.in_ok-accepted.field-0 None c.loop-accepted.invariant c.loop-accepted-test.true c.in_ok-accepted.ensures.ok
