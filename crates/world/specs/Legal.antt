-- Journals whose calls and answers are steps of the world
use Rattle.std.specs.Prelude.{◌≡◌, ℕ, suc, ◌-◌, List, [], ◌∷◌, None, Bool, true, false, ◌&&◌}
use Rattle.limits.specs.declared.TheConstants.{ENTRIES}
use Rattle.world.specs.declared.call.Call.{Call}
use Rattle.world.specs.declared.call.Call.TheVariants.{Crash, RecoverAlone}
use Rattle.world.specs.declared.answer.Answer.{Answer}
use Rattle.world.specs.declared.entry.Entry.{Entry}
use Rattle.world.specs.Handlers.{Handlers}
use Rattle.world.specs.World.{World, opening}
use Rattle.world.specs.Calls.{after}
use Rattle.world.specs.Answers.{MayAnswer}
use Rattle.world.specs.Refusals.{refusal_of, others_up}
use Rattle.world.specs.Useful.{may_call}

-- old accepts the call with this answer, and becomes new
pub record WStep (room : ℕ) (old : World) (call : Call) (answer : Answer) (new : World) : Type 0 where
  pub accepted : refusal_of old room call ≡ None
  pub answered : MayAnswer old call answer
  pub becomes : new ≡ after old call answer

-- the world after these entries
abbrev pub world_after : World → List Entry → World
world_after w [] = w
world_after w (e ∷ es) = world_after (after w e.call e.answer) es

-- the entries are steps from this world, in a journal that has k entries before them
abbrev pub LegalFrom : ℕ → World → List Entry → Type 0
LegalFrom k w [] = Unit {0}
LegalFrom k w (e ∷ es) = (may_call w e.worker e.call ≡ true) × WStep (ENTRIES - k) w e.call e.answer (after w e.call e.answer)
    × LegalFrom (suc k) (after w e.call e.answer) es

-- a legal journal of n processes with these handlers
abbrev pub Legal : ℕ → Handlers → List Entry → Type 0
Legal n handlers es = LegalFrom 0 (opening n handlers) es

-- the world to which a journal of n processes leads
abbrev pub world_of : ℕ → Handlers → List Entry → World
world_of n handlers es = world_after (opening n handlers) es

-- whether the call keeps failures single: no crash while another process isn't up, and no recovery alone
abbrev pub is_single : World → Call → Bool
is_single w (Crash p) = others_up w p
is_single w (RecoverAlone p) = false
is_single w call = true

-- whether all calls of the journal keep failures single
abbrev pub all_single : World → List Entry → Bool
all_single w [] = true
all_single w (e ∷ es) = is_single w e.call && all_single (after w e.call e.answer) es
