use Rattle.std.proofs.Common.{◌≡◌, ◌≤◌, arith, sym, ◌∙◌, refl, Bool, true, false}
use Rattle.std.specs.Prelude.{Some}
use Rattle.world.specs.World.{World}
use Rattle.world.specs.Refusals.{is_to_busy, starts, one_if}
use Rattle.machine.specs.Simulation.{Stands}
use Rattle.machine.proofs.Causes.{arrive-full, arrive-free}
use Rattle.machine.proofs.machine.Machine.take_cause.Goals as goal
use Rattle.machine.proofs.machine.Machine.take_cause.Goals.{Else-is_to_busy}

calm : (c : Else-is_to_busy) → (w : World) → Stands c.args.self.now w → is_to_busy w (Some c.args.packet.now) ≡ false
calm c w s = sym (c.is_to_busy.ensures w s) ∙ c.if-is_to_busy.false

one-most : (b : Bool) → one_if b ≤ 1
one-most true = omega arith
one-most false = omega arith

pub returns-then-room-jobs-clause-cause : goal.returns-then-room-jobs-clause-cause
returns-then-room-jobs-clause-cause c =
    let g = (goal.at.returns-then-room-jobs-clause-cause c).Else-is_to_busy in
    let above = rw c.open_jobs-jobs.ensures.value at c.if-room-jobs.true in
    λ w key s found. arrive-free c.args.self.now w s c.args.room key c.args.packet.now found (calm g w s) (one_if (starts w (Some c.args.packet.now))) refl (omega (arith, above, one-most (starts w (Some c.args.packet.now))))

pub returns-then-room-jobs-2-clause-cause : goal.returns-then-room-jobs-2-clause-cause
returns-then-room-jobs-2-clause-cause c =
    let g = (goal.at.returns-then-room-jobs-2-clause-cause c).Else-is_to_busy in
    λ w key s found. arrive-full c.args.self.now w s c.args.room key c.args.packet.now found (calm g w s) c.started_by.result (c.started_by.ensures.value w s) (rw c.open_jobs-jobs.ensures.value at c.if-room-jobs-2.true)

pub returns-clause-cause : goal.returns-clause-cause
returns-clause-cause c =
    let g = (goal.at.returns-clause-cause c).Else-is_to_busy in
    λ w key s found. arrive-free c.args.self.now w s c.args.room key c.args.packet.now found (calm g w s) c.started_by.result (c.started_by.ensures.value w s) (rw c.open_jobs-jobs.ensures.value at c.if-room-jobs-2.false)
