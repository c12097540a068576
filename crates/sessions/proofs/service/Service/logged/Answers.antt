use Rattle.std.proofs.Common.{◌≡◌, ◌≢◌, ◌≤◌, ◌∙◌, Some, arith, ap, length, subst, sym, map}
use Rattle.interp.specs.Image.{image_in}
use Rattle.sessions.specs.Journal.{TheSession, world_at}
use Rattle.sessions.specs.Logged.{logged}
use Rattle.sessions.proofs.LoggedLemmas.{logged-missing, logged-there}
use Rattle.sessions.proofs.Steps.{here}
use Rattle.sessions.proofs.service.Service.logged.Goals as goal

pub returns-in_err-bytes : goal.returns-in_err-bytes
returns-in_err-bytes c =
    let m = c.self.inside.machine in
    let w = here (map image_in c.self.inside.images.items) c.self.inside.journal.entries in
    let within : c.args.from ≤ length m.processes = omega (arith, c.if-from-count.false, c.count-count.ensures.value) in
    let there : c.args.to ≤ length m.processes = omega (arith, c.if-to-count.false, c.count-count.ensures.value) in
    let apart : c.args.from ≢ c.args.to = c.if-from-to.false in
    let stands = c.self.invariant.0.leads in
    let P : TheSession → Type 0 = λ s. c.from_residual.result ≡ logged (world_at s) c.args.from c.args.to c.args.ssn in
    subst P c.self.view_is
    (c.from_residual.ensures ∙ sym (logged-missing m w stands c.args.from c.args.to within there apart c.log.result.now c.log.ensures.value (c.log.ensures.sent w stands) c.args.ssn c.in_err-bytes.ensures.value))

pub returns : goal.returns
returns c =
    let m = c.self.inside.machine in
    let w = here (map image_in c.self.inside.images.items) c.self.inside.journal.entries in
    let within : c.args.from ≤ length m.processes = omega (arith, c.if-from-count.false, c.count-count.ensures.value) in
    let there : c.args.to ≤ length m.processes = omega (arith, c.if-to-count.false, c.count-count.ensures.value) in
    let apart : c.args.from ≢ c.args.to = c.if-from-to.false in
    let stands = c.self.invariant.0.leads in
    let entry = c.in_ok-bytes.ensures.value in
    let P : TheSession → Type 0 = λ s. Some c.from_slice.result ≡ logged (world_at s) c.args.from c.args.to c.args.ssn in
    subst P c.self.view_is
    (ap Some (c.from_slice.ensures ∙ entry.1)
    ∙ sym (logged-there m w stands c.args.from c.args.to within there apart c.log.result.now c.log.ensures.value (c.log.ensures.sent w stands) c.args.ssn entry.0))
