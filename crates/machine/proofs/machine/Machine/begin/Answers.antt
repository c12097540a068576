use Rattle.std.proofs.Common.{rules, ◌≡◌, ℕ, ◌<◌, ◌≤◌, ◌+◌, ◌-◌, arith, subst, sym, ap, ◌∙◌, length, slice_index_or}
use Rattle.std.specs.Prelude.{Some}
use Rattle.std.proofs.lemmas.Grind.{common_steps}
use Rattle.std.proofs.lemmas.List.{length-set, get_or_default}
use Rattle.limits.specs.declared.TheConstants.{ENTRIES}
use Rattle.helpers.specs.declared.effects.Who.{Who}
use Rattle.session_process.specs.Process.{TheProcess, idle_process}
use Rattle.machine.specs.Simulation.{TheMachine, process_at}
use Rattle.machine.specs.Fields.{view_of, AreCarried, IsLogOf, IsSoundAt}
use Rattle.machine.specs.Work.{IsNextFor}
use Rattle.machine.proofs.Soundness.{sound_at, sound-begun, sound-set}
use Rattle.machine.proofs.machine.Machine.begin.Goals as goal

pub new-requires : goal.new-requires
new-requires c =
    let m = view_of c.self.inside in
    let me = c.args.me in
    let within : me ≤ length m.processes = subst (λ (v : TheMachine). me ≤ length v.processes) (sym c.self.view_is) c.requires.within in
    let sender : c.args.message.now.sender ≤ length m.processes = subst (λ (v : TheMachine). c.args.message.now.sender ≤ length v.processes) (sym c.self.view_is) c.requires.from in
    let called : TheMachine → Who = λ v. record { me = me; from = c.args.message.now.sender; count = length v.processes } in
    let who : c.who-who.result ≡ record { me = me; from = c.args.message.now.sender; count = length m.processes } = c.who-who.ensures ∙ ap called (sym c.self.view_is) in
    rw who (record { inside = c.requires.inside; within = within; few = c.self.invariant.few; sender = sender; other = c.requires.other })

-- where the job isn't made, the places of the last one are gone, and nothing else
pub invariant_of-self : goal.invariant_of-self
invariant_of-self c =
    let i = c.self.invariant in
    record { some = i.some; few = i.few; lengths = i.lengths; processes = i.processes; outside = i.outside; calls = i.calls; started = i.started; inputs = i.inputs; shown = i.shown; wire = i.wire; keys = i.keys }

pub invariant_of-self-2 : goal.invariant_of-self-2
invariant_of-self-2 c =
    let m = view_of c.self.inside in
    let me = c.args.me in
    let i = c.self.invariant in
    let xs = c.self.inside.processes.items in
    let lengths = c.self.inside.lengths.items in
    let y = c.begin.new.self in
    let was = c.index_mut-process.result.now in
    let positive = c.requires.inside in
    let within : me ≤ length xs = subst (λ (v : TheMachine). me ≤ length v.processes) (sym c.self.view_is) c.requires.within in
    let calls : m.calls < ENTRIES = subst (λ (v : TheMachine). v.calls < ENTRIES) (sym c.self.view_is) c.requires.calls in
    let here : was ≡ slice_index_or xs (me - 1) was = first_of (search rules, grind (arith, common_steps)) in
    let begins : y ≡ record was { working = Some c.args.message.now } = first_of (search rules, grind (arith, common_steps)) in
    let at : was ≡ process_at c.args.self.now me = here ∙ get_or_default xs (me - 1) was (idle_process 0 0 0) (omega (arith, positive, within)) ∙ ap (λ (v : TheMachine). process_at v me) c.self.view_is in
    let sound : (e : ℕ) → IsSoundAt (length xs) me (slice_index_or lengths (me - 1) e) c.self.inside.calls was = λ e. subst (IsSoundAt (length xs) me (slice_index_or lengths (me - 1) e) c.self.inside.calls) (sym here) (sound_at c.self.inside i me was e positive within) in
    let now : (e : ℕ) → IsSoundAt (length xs) me (slice_index_or lengths (me - 1) e) (c.self.inside.calls + 1) y =
    λ e. subst (IsSoundAt (length xs) me (slice_index_or lengths (me - 1) e) (c.self.inside.calls + 1)) (sym begins)
    (sound-begun (length xs) me _ c.self.inside.calls was c.args.message.now (sound e) (subst (λ (x : TheProcess). IsNextFor x.mode c.args.message.now) (sym at) c.requires.next)) in
    let len = length-set xs (me - 1) y in
    record {
      some = omega (arith, len, i.some);
      few = omega (arith, len, i.few);
      lengths = i.lengths ∙ sym len;
      processes = sound-set xs lengths me c.self.inside.calls y positive within i.processes now;
      outside = subst (λ n. IsLogOf n 0 c.self.inside.outside.log) (sym len) i.outside;
      calls = omega (arith, calls);
      started = omega (arith, i.started);
      inputs = λ d. omega (arith, i.inputs d);
      shown = omega (arith, i.shown);
      wire = subst (AreCarried c.self.inside.wire) (sym len) i.wire;
      keys = i.keys;
    }
