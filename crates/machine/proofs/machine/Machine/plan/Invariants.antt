-- The logs of the outside and of the processes below the index
use Rattle.std.proofs.Common.{◌≡◌, ◌∷◌, suc, length, map, take}
use Rattle.limits.specs.declared.TheConstants.{PARTIES}
use Rattle.replay.specs.Plan.{lent}
use Rattle.session_process.specs.Process.{TheProcess}
use Rattle.machine.proofs.machine.Machine.plan.Given as goal

abbrev pub invariant-loop-place : goal.invariant-loop-place
invariant-loop-place l =
    (length l.logs ≡ PARTIES) × (lent (take (suc l.place) l.logs) ≡ l.self-inside.outside.log ∷ map (λ (x : TheProcess). x.outbox.log) (take l.place l.process-items))
