-- What calls without a job are answered
use Rattle.std.proofs.Common.{◌≡◌, ℕ, ◌<◌, sym, subst}
use Rattle.world.specs.declared.call.Call.{Call}
use Rattle.world.specs.declared.call.Call.TheVariants.{Input, Transmit, Copy, Lose, Arrive, Finish, Checkpoint, Trim, Crash, Recover, RecoverAlone, ReplayBegin, Resync}
use Rattle.world.specs.declared.answer.Answer.{Answer}
use Rattle.world.specs.declared.answer.Answer.TheVariants.{Placed}
use Rattle.world.specs.World.{World}
use Rattle.world.specs.Bounds.{WIRE}
use Rattle.world.specs.Answers.{MayAnswer}
use Rattle.machine.specs.Dispatch.{IsJobless, TakesNoResult}
use Rattle.c_sessions.specs.Inside.Calls.{HasKey}

-- such a call takes no result
pub takes-none : (call : Call) → IsJobless call → TakesNoResult call
takes-none (Finish p) jobless = absurd jobless
takes-none call jobless = tt

-- a packet that it puts on the wire gets a key of the wire's
placed-low : (w : World) (call : Call) (k : ℕ) → IsJobless call → MayAnswer w call (Placed k) → k < WIRE
placed-low w (Input d feed x) k jobless m = absurd (cc)
placed-low w (Transmit p d i) k jobless m = let same : k ≡ m.0 = cc in subst (λ z. z < WIRE) (sym same) m.1.0
placed-low w (Copy key) k jobless m = let same : k ≡ m.0 = cc in subst (λ z. z < WIRE) (sym same) m.1.0
placed-low w (Lose key) k jobless m = absurd (cc)
placed-low w (Arrive key) k jobless m = absurd jobless
placed-low w (Finish p) k jobless m = absurd jobless
placed-low w (Checkpoint p) k jobless m = absurd (cc)
placed-low w (Trim d) k jobless m = absurd (cc)
placed-low w (Crash p) k jobless m = absurd (cc)
placed-low w (Recover p) k jobless m = absurd m
placed-low w (RecoverAlone p) k jobless m = absurd m
placed-low w (ReplayBegin p) k jobless m = absurd jobless
placed-low w (Resync p r) k jobless m = absurd (cc)

pub has-key : (w : World) (call : Call) (a : Answer) → IsJobless call → MayAnswer w call a → HasKey a
has-key w call (Placed k) jobless m = placed-low w call k jobless m
has-key w call a jobless m = tt
