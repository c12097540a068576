-- A journal that is one entry longer, and what no call changes
use Rattle.std.proofs.Common.{◌≡◌, ℕ, suc, ◌+◌, ◌-◌, List, [], ◌∷◌, ◌++◌, length, Bool, true, false, refl, ◌∙◌, arith}
use Rattle.std.specs.Prelude.{Option, Some, None, if◌then◌else◌}
use Rattle.limits.specs.declared.TheConstants.{ENTRIES}
use Rattle.world.specs.declared.packet.Packet.{Packet}
use Rattle.world.specs.declared.packet.Packet.TheVariants.{Delivery, Number, Acknowledgement}
use Rattle.world.specs.declared.call.Call.{Call}
use Rattle.world.specs.declared.call.Call.TheVariants.{Input, Transmit, Copy, Lose, Arrive, Finish, Checkpoint, Trim, Crash, Recover, RecoverAlone, ReplayBegin, Resync as ResyncWith}
use Rattle.world.specs.declared.answer.Answer.{Answer}
use Rattle.world.specs.declared.answer.Answer.TheVariants.{Placed, Started, Numbered, Acknowledged, Shown, Duplicate, Committed, Replayed, Kept}
use Rattle.world.specs.declared.entry.Entry.{Entry}
use Rattle.world.specs.Handlers.{Handlers}
use Rattle.world.specs.Phases.{Phase, Busy, Replaying}
use Rattle.world.specs.World.{World, opening}
use Rattle.world.specs.Calls.{after, arrive, finish}
use Rattle.world.specs.Useful.{may_call}
use Rattle.world.specs.Legal.{WStep, LegalFrom, Legal, world_after, world_of}

pub world_after-append : (w : World) (es more : List Entry) → world_after w (es ++ more) ≡ world_after (world_after w es) more
world_after-append w [] more = refl
world_after-append w (e ∷ es) more = world_after-append (after w e.call e.answer) es more

pub world_after-push : (w : World) (es : List Entry) (e : Entry) → world_after w (es ++ e ∷ []) ≡ after (world_after w es) e.call e.answer
world_after-push w es e = world_after-append w es (e ∷ [])

LegalFrom-push : (k : ℕ) (w : World) (es : List Entry) (e : Entry) → LegalFrom k w es → may_call (world_after w es) e.worker e.call ≡ true
    → WStep (ENTRIES - (k + length es)) (world_after w es) e.call e.answer (after (world_after w es) e.call e.answer) → LegalFrom k w (es ++ e ∷ [])
LegalFrom-push k w [] e h may step = (may, (let e0 : k + 0 ≡ k = omega arith in rw e0 at step), tt)
LegalFrom-push k w (x ∷ es) e h may step =
    (h.0, h.1, LegalFrom-push (suc k) (after w x.call x.answer) es e h.2 may (let e1 : k + suc (length es) ≡ suc k + length es = omega arith in rw e1 at step))

-- a legal journal with one more step is legal
pub Legal-push : (n : ℕ) (f : Handlers) (es : List Entry) (e : Entry) → Legal n f es → may_call (world_of n f es) e.worker e.call ≡ true
    → WStep (ENTRIES - length es) (world_of n f es) e.call e.answer (after (world_of n f es) e.call e.answer) → Legal n f (es ++ e ∷ [])
Legal-push n f es e h may step = LegalFrom-push 0 (opening n f) es e h may (let e0 : 0 + length es ≡ length es = omega arith in rw (← e0) at step)

-- as many processes, with the same handlers
abbrev pub SameSetting : World → World → Type 0
SameSetting w v = (v.count ≡ w.count) × (v.handlers ≡ w.handlers)

either : (w : World) (b : Bool) (x y : World) → SameSetting w x → SameSetting w y → SameSetting w (if b then x else y)
either w true x y h k = h
either w false x y h k = k

arrive-setting : (w : World) (key : ℕ) (packet : Option Packet) (a : Answer) → SameSetting w (arrive w key packet a)
arrive-setting w key None a = (refl, refl)
arrive-setting w key (Some (Delivery d m)) (Started n) = (refl, refl)
arrive-setting w key (Some (Delivery d m)) (Duplicate new) = (refl, refl)
arrive-setting w key (Some (Delivery d m)) (Shown i) = (refl, refl)
arrive-setting w key (Some (Number r s i k incarnation)) (Numbered new) = (refl, refl)
arrive-setting w key (Some (Acknowledgement s r k incarnation)) Acknowledged = (refl, refl)
arrive-setting w key (Some packet) a = (refl, refl)

finish-setting : (w : World) (p : ℕ) (phase : Phase) (a : Answer) → SameSetting w (finish w p phase a)
finish-setting w p (Busy m) (Committed n new) = (refl, refl)
finish-setting w p (Replaying j working alone) (Replayed n) = either w _ _ _ (refl, refl) (refl, refl)
finish-setting w p phase a = (refl, refl)

-- no call changes how many processes there are, and what their handlers do
pub after-setting : (w : World) (call : Call) (answer : Answer) → SameSetting w (after w call answer)
after-setting w (Input d feed x) a = (refl, refl)
after-setting w (Transmit p d i) (Placed key) = (refl, refl)
after-setting w (Transmit p d i) a = (refl, refl)
after-setting w (Copy key) (Placed new) = (refl, refl)
after-setting w (Copy key) a = (refl, refl)
after-setting w (Lose key) a = (refl, refl)
after-setting w (Arrive key) a = arrive-setting w key (w.wire key) a
after-setting w (Finish p) a = finish-setting w p (w.phase p) a
after-setting w (Checkpoint p) a = (refl, refl)
after-setting w (Trim d) a = (refl, refl)
after-setting w (Crash p) a = (refl, refl)
after-setting w (Recover p) (Kept k) = either w _ _ _ (refl, refl) (refl, refl)
after-setting w (Recover p) a = (refl, refl)
after-setting w (RecoverAlone p) (Kept k) = either w _ _ _ (refl, refl) (refl, refl)
after-setting w (RecoverAlone p) a = (refl, refl)
after-setting w (ReplayBegin p) a = (refl, refl)
after-setting w (ResyncWith p r) a = (refl, refl)

-- nor does a list of calls
pub world_after-setting : (w : World) (es : List Entry) → SameSetting w (world_after w es)
world_after-setting w [] = (refl, refl)
world_after-setting w (e ∷ es) =
    let first = after-setting w e.call e.answer in
    let rest = world_after-setting (after w e.call e.answer) es in
    (rest.0 ∙ first.0, rest.1 ∙ first.1)
