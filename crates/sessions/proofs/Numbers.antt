-- Answers that are a number
use Rattle.std.proofs.Common.{◌≡◌, ℕ, refl, sym, subst}
use Rattle.std.specs.Prelude.{Result, Ok, Err, IfOk}
use Rattle.world.specs.declared.call.Call.{Call}
use Rattle.world.specs.declared.call.Call.TheVariants as calls
use Rattle.world.specs.declared.answer.Answer.{Answer}
use Rattle.world.specs.declared.answer.Answer.TheVariants as answers
use Rattle.world.specs.declared.refusal.Refusal.{Refusal}
use Rattle.world.specs.World.{World}
use Rattle.world.specs.Answers.{Keeps, MayAnswer}
use Rattle.sessions.specs.Fields.{HasNumber, number_in, numbered}
use Rattle.sessions.specs.Journal.{TheSession, Adds, ReturnsTo, world_at}
use Rattle.sessions.specs.Seats.{TheSeat}
use Rattle.sessions.specs.Service.{Returns}
use Rattle.sessions.proofs.Rooms.{kept}

keeps : (w : World) (p : ℕ) (a : Answer) → Keeps w p a → a ≡ answers.Kept (number_in a)
keeps w p a h = subst (λ (b : Answer). b ≡ answers.Kept (number_in b)) (sym (kept w p a h).1) refl

may-number : (w : World) (call : Call) (a : Answer) → HasNumber call → MayAnswer w call a → a ≡ numbered call (number_in a)
may-number w (calls.Input to feed x) a h is = subst (λ (b : Answer). b ≡ answers.Logged (number_in b)) (sym is) refl
may-number w (calls.Checkpoint p) a h is = subst (λ (b : Answer). b ≡ answers.Saved (number_in b)) (sym is) refl
may-number w (calls.Trim to) a h is = subst (λ (b : Answer). b ≡ answers.Trimmed (number_in b)) (sym is) refl
may-number w (calls.Crash p) a h is = subst (λ (b : Answer). b ≡ answers.Crashed (number_in b)) (sym is) refl
may-number w (calls.Resync p r) a h is = subst (λ (b : Answer). b ≡ answers.Restored (number_in b)) (sym is) refl
may-number w (calls.Recover p) a h is = keeps w p a is
may-number w (calls.RecoverAlone p) a h is = keeps w p a is
may-number w (calls.Transmit p d i) a h is = absurd h
may-number w (calls.Copy key) a h is = absurd h
may-number w (calls.Lose key) a h is = absurd h
may-number w (calls.Arrive key) a h is = absurd h
may-number w (calls.Finish p) a h is = absurd h
may-number w (calls.ReplayBegin p) a h is = absurd h

-- an accepted call of this kind answers its number and nothing else
pub is-number : (old new : TheSession) (by by' : TheSeat) (call : Call) (a : Answer) → HasNumber call → Adds old new by by' call (Ok a) → a ≡ numbered call (number_in a)
is-number old new by by' call a h adds = may-number (world_at old) call a h adds.0.answered

-- and a process that comes back keeps what it had to
pub recovers : (r : Result ℕ Refusal) (old new : TheSession) (p : ℕ) → IfOk r (λ n. Returns old new (calls.Recover p) (answers.Kept n)) → IfOk r (ReturnsTo old new p)
recovers (Ok n) old new p h = h p n refl refl
recovers (Err e) old new p h = tt
