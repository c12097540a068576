use Rattle.std.proofs.Common.{arith, ◌≡◌, ◌<◌, ◌+◌, subst, sym, ap, ◌∙◌, slice_index_or, length}
use Rattle.std.specs.Prelude.{Some, None}
use Rattle.helpers.specs.declared.effects.Who.{Who}
use Rattle.limits.specs.declared.TheConstants.{ENTRIES}
use Rattle.world.specs.declared.packet.Packet.TheVariants.{Delivery, Number}
use Rattle.world.specs.declared.call.Call.TheVariants.{Arrive}
use Rattle.world.specs.declared.answer.Answer.TheVariants.{Started, Duplicate, Early}
use Rattle.session_process.specs.Process.{TheProcess}
use Rattle.session_process.specs.Wire.{Puts}
use Rattle.machine.specs.Arrival.{IsHandedOut}
use Rattle.machine.specs.Simulation.{TheMachine, Steps, process_at}
use Rattle.machine.proofs.Arrivals.{early, started, again}
use Rattle.machine.proofs.JobLemmas.{handed-out}
use Rattle.machine.proofs.Preservation.{keys-put, sound-wire}
use Rattle.machine.proofs.Status.{key-low}
use Rattle.machine.proofs.machine.Machine.receive.Goals as goal

pub invariant_of-self-in-Duplicate : goal.invariant_of-self-in-Duplicate
invariant_of-self-in-Duplicate c =
    let i = c.self.inside in
    let m = c.args.self.now in
    let wire : i.wire ≡ m.slots = ap (λ (v : TheMachine). v.slots) c.self.view_is in
    let many : length m.processes ≡ length i.processes.items = ap (λ (v : TheMachine). length v.processes) (sym c.self.view_is) in
    let calls : i.calls < ENTRIES = subst (λ (v : TheMachine). v.calls < ENTRIES) (sym c.self.view_is) c.requires.may.calls in
    let low = key-low i.wire c.args.key _ c.self.invariant.keys (ap (λ ws. slice_index_or ws c.args.key None) wire ∙ c.requires.may.found) in
    let k = c.requires.may.carried in
    sound-wire i c.replace.new.self c.args.key _ _ c.self.invariant (omega (arith, calls)) c.replace.ensures (c.requires.to, omega (arith, many, k.0), omega (arith, many, k.1), k.2, c.in-Duplicate.ensures.number)
    (keys-put i.wire c.replace.new.self c.args.key _ _ c.replace.ensures low c.self.invariant.keys)

pub returns-in-Early-clause-step : goal.returns-in-Early-clause-step
returns-in-Early-clause-step c w s =
    let m = c.args.self.now in
    let d = c.drop_packet.ensures in
    let slots = c.drop_packet.new.self.slots in
    let puts : Puts m.slots slots c.args.key (Some (Delivery c.args.to c.args.message)) None = subst (λ was. Puts m.slots slots c.args.key was None) c.requires.may.found d.wire in
    subst (λ v. Steps m v c.args.room (Arrive c.args.key) Early w) (sym d.others)
    (early m w s c.args.room c.args.key c.args.to (m.calls + 1) c.args.message slots (c.requires.may.accepted w s) c.requires.may.found c.requires.may.carried.0 c.requires.may.up puts (c.in-Early.ensures.verdict w s))

pub returns-in-Duplicate-clause-step : goal.returns-in-Duplicate-clause-step
returns-in-Duplicate-clause-step c w s =
    let m = c.args.self.now in
    let to = c.args.to in
    let x = c.args.message in
    let slots = c.replace.new.self in
    let number = Number to x.sender x.ssn c.in-Duplicate.rsn c.incarnation.result in
    let wire : c.self.inside.wire ≡ m.slots = ap (λ (v : TheMachine). v.slots) c.self.view_is in
    let low = key-low c.self.inside.wire c.args.key _ c.self.invariant.keys (ap (λ ws. slice_index_or ws c.args.key None) wire ∙ c.requires.may.found) in
    let verdict = c.in-Duplicate.ensures.verdict w s in
    let incarnation : c.incarnation.result ≡ (process_at m to).incarnation = c.incarnation.ensures ∙ ap (λ (z : TheProcess). z.incarnation) c.process.ensures.value in
    let puts : Puts m.slots slots c.args.key (Some (Delivery to x)) (Some number) =
    subst (λ was. Puts m.slots slots c.args.key was (Some number)) c.requires.may.found (subst (λ ws. Puts ws slots c.args.key (slice_index_or ws c.args.key None) (Some number)) wire c.replace.ensures) in
    let P : TheMachine → Type 0 = λ v. Steps m (record v { slots = slots; calls = v.calls + 1 }) c.args.room (Arrive c.args.key) (Duplicate c.args.key) w in
    subst P (sym c.self.view_is)
    (again m w s c.args.room c.args.key to (m.calls + 1) x slots (c.requires.may.accepted w s) c.requires.may.found c.requires.may.carried.0 c.requires.may.up c.requires.to verdict.0 c.in-Duplicate.rsn c.incarnation.result (verdict.1 c.requires.to) incarnation low puts)

pub returns-in_ok-job-in-Next-clause-step : goal.returns-in_ok-job-in-Next-clause-step
returns-in_ok-job-in-Next-clause-step c w s =
    let m = c.args.self.now in
    let to = c.args.to in
    let x = c.args.message in
    let slots = c.remove.new.self in
    let b = c.in_ok-job-in-Next.ensures.ok in
    let is = c.self-in-Next.view_is ∙ b.becomes in
    let wire : c.self-in-Next.inside.wire ≡ m.slots = ap (λ (v : TheMachine). v.slots) is in
    let puts : Puts m.slots slots c.args.key (Some (Delivery to x)) None =
    subst (λ was. Puts m.slots slots c.args.key was None) c.requires.may.found (subst (λ ws. Puts ws slots c.args.key (slice_index_or ws c.args.key None) None) wire c.remove.ensures) in
    let P : TheMachine → Type 0 = λ v. Steps m (record v { slots = slots }) c.args.room (Arrive c.args.key) (Started c.in_ok-job-in-Next.job.serial) w in
    subst P (sym is)
    (started m w s c.args.room c.args.key to (m.calls + 1) x slots (c.requires.may.accepted w s) c.requires.may.found c.requires.may.carried.0 c.requires.may.up c.requires.to (c.in-Next.ensures.verdict w s) puts c.in_ok-job-in-Next.job.serial b.serial)

pub returns-in_ok-job-in-Next-clause-job : goal.returns-in_ok-job-in-Next-clause-job
returns-in_ok-job-in-Next-clause-job c =
    let slots = c.remove.new.self in
    let job = c.in_ok-job-in-Next.job in
    subst (λ (v : TheMachine). IsHandedOut (record v { slots = slots }) job) (sym c.self-in-Next.view_is)
    (handed-out c.args.self.now c.begin.new.self c.args.to c.args.message job slots c.in_ok-job-in-Next.ensures.ok c.requires.to c.requires.may.carried.0)

pub returns-in_ok-job-in-Next-clause-target : goal.returns-in_ok-job-in-Next-clause-target
returns-in_ok-job-in-Next-clause-target c =
    λ d x h e. ap (λ (z : Who). z.me) c.in_ok-job-in-Next.ensures.ok.who ∙ (let same : c.args.to ≡ d = cc in same)
