use Rattle.std.proofs.Common.{rules, ◌≡◌, ◌≤◌, ◌<◌, ◌+◌, arith, subst, sym, length}
use Rattle.std.specs.Prelude.{None}
use Rattle.std.proofs.lemmas.Grind.{common_steps}
use Rattle.limits.specs.declared.TheConstants.{ENTRIES}
use Rattle.sender_log.specs.Queue.{appended}
use Rattle.sender_log.specs.Log.{queue_of, with_queue}
use Rattle.world.specs.declared.call.Call.TheVariants.{Input}
use Rattle.world.specs.World.{World}
use Rattle.world.specs.Refusals.{refusal_of}
use Rattle.session_process.specs.Outside.{Takes}
use Rattle.machine.specs.Simulation.{TheMachine, Stands}
use Rattle.machine.specs.Fields.{view_of}
use Rattle.machine.proofs.Sendings.{logged, sound-input}
use Rattle.machine.proofs.machine.Machine.input.Goals as goal
use Rattle.machine.proofs.machine.Machine.input.Goals.{In_ok-ssn}

log : (c : In_ok-ssn) → c.input.new.self.log ≡ with_queue c.args.feed.now.dst (appended c.args.feed.now.payload (queue_of c.args.feed.now.dst c.self.inside.outside.log)) c.self.inside.outside.log
log c = first_of (search rules, grind (arith, common_steps))

shown : (c : In_ok-ssn) → c.input.new.self.shown ≡ c.self.inside.outside.shown
shown c = first_of (search rules, grind (arith, common_steps))

takes : (c : In_ok-ssn) → Takes c.args.feed.now.number c.self.inside.outside c.input.new.self
takes c = first_of (search rules, grind (arith, common_steps))

inside : (c : In_ok-ssn) → (0 < c.args.feed.now.dst) × (c.args.feed.now.dst ≤ length c.self.inside.processes.items)
inside c =
    let in_view : (0 < c.args.feed.now.dst) × (c.args.feed.now.dst ≤ length (view_of c.self.inside).processes) = subst (λ (v : TheMachine). (0 < c.args.feed.now.dst) × (c.args.feed.now.dst ≤ length v.processes)) (sym c.self.view_is) (c.in_default.ensures.none.0, c.in_default.ensures.none.1) in
    in_view

pub invariant_of-self-2 : goal.invariant_of-self-2
invariant_of-self-2 c =
    let g = (goal.at.invariant_of-self-2 c).In_ok-ssn in
    let i = c.self.inside in
    let calls : i.calls + c.args.room ≤ ENTRIES = subst (λ (v : TheMachine). v.calls + c.args.room ≤ ENTRIES) (sym c.self.view_is) c.requires in
    sound-input i c.input.new.self c.args.feed.now.dst c.args.feed.now.payload c.self.invariant (omega (arith, calls)) (inside g).1 (log g) (shown g)

pub returns-clause-step : goal.returns-clause-step
returns-clause-step c =
    let g = (goal.at.returns-clause-step c).In_ok-ssn in
    let m = view_of c.self.inside in
    let feed = c.args.feed.now in
    let n : c.in_ok-ssn.ssn ≡ (queue_of feed.dst m.outside.log).first + length (queue_of feed.dst m.outside.log).payloads = first_of (search rules, grind (arith, common_steps)) in
    let accepted : (w : World) → Stands m w → refusal_of w c.args.room (Input feed.dst feed.number feed.payload) ≡ None = rw c.self.view_is c.in_default.ensures.cause in
    rw (← c.self.view_is) (λ w s. logged m w s c.args.room feed.dst feed.number (c.self.inside.calls + 1) c.in_ok-ssn.ssn feed.payload c.input.new.self (accepted w s) (inside g).0 (inside g).1 c.self.invariant.outside.width (log g) (takes g) (shown g) n)
