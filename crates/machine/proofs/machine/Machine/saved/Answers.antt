use Rattle.std.proofs.Common.{◌≡◌, ◌≤◌, length, map, take, sym, ap, ◌∙◌, subst, arith}
use Rattle.std.proofs.lemmas.List.{length-map}
use Rattle.checkpoint.specs.declared.form.CheckpointForm.TheVariants.{Second}
use Rattle.checkpoint.specs.Format.{IsCheckpoint}
use Rattle.checkpoint.specs.Saved.{TheSaved}
use Rattle.session_process.specs.Process.{TheProcess, idle_process}
use Rattle.machine.specs.Simulation.{Saves, TheMachine, process_at}
use Rattle.machine.proofs.Status.{at_process}
use Rattle.machine.proofs.Soundness.{sound_at}
use Rattle.machine.proofs.machine.Machine.saved.Goals as goal

pub returns : goal.returns
returns c w s =
    let m = c.args.self.now in
    let p = c.args.p in
    let i = c.self.invariant in
    let positive = c.requires.0 in
    let within : p ≤ length c.self.inside.processes.items = subst (λ (v : TheMachine). p ≤ length v.processes) (sym c.self.view_is) c.requires.1 in
    let sound = sound_at c.self.inside i p (idle_process 0 0 0) 0 positive within in
    let x = process_at m p in
    let bytes : IsCheckpoint Second x.saved c.bytes.result.now = subst (λ (z : TheSaved). IsCheckpoint Second z c.bytes.result.now) (c.stable.ensures ∙ ap (λ (y : TheProcess). y.saved) c.process.ensures.value) c.bytes.ensures in
    record {
      saved = x.saved;
      bytes_are = bytes;
      own = subst (λ (v : TheMachine). (process_at v p).saved.me ≡ p) c.self.view_is sound.own;
      count = subst (λ (v : TheMachine). (process_at v p).saved.count ≡ length v.processes) c.self.view_is sound.count ∙ sym s.shows.count;
      saves = subst (λ n. Saves n p x.saved (w.handlers.state p (take (w.saved p) (w.history p))) (take (w.saved p) (w.history p)) (w.saved_trims p) (w.handlers.sends p (take (w.saved p) (w.history p)))) (sym s.shows.count) (at_process m w s p positive c.requires.1).saves;
    }
