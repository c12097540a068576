-- How a machine opens
use Rattle.std.specs.Prelude.{◌≡◌, ℕ, suc, ◌<◌, ◌≤◌, List, [], length, replicate, slice_index_or, Some, Result, Ok, Err}
use Rattle.std.specs.List.{All}
use Rattle.limits.specs.declared.TheConstants.{PROCESSES, STATE_BYTES}
use Rattle.world.specs.declared.refusal.Refusal.{Refusal}
use Rattle.world.specs.declared.refusal.Refusal.TheVariants.{NoSuchProcess, Memory}
use Rattle.world.specs.History.{nth}
use Rattle.world.specs.Handlers.{Handlers}
use Rattle.world.specs.World.{opening}
use Rattle.theorems.specs.Growth.{Grows, Starts}
use Rattle.session_process.specs.Process.{TheProcess, idle_process}
use Rattle.machine.specs.Simulation.{TheMachine, Stands}

-- for each of these lengths, at most 1,024 bytes, one of n processes that received nothing, numbered from 1
pub record AreIdle (n : ℕ) (lengths : List ℕ) (processes : List TheProcess) : Type 0 where
  pub count : length processes ≡ length lengths
  pub short : All (λ len. len ≤ STATE_BYTES) lengths
  pub idle : (p : ℕ) (d : TheProcess) (e : ℕ) → p < length lengths
      → slice_index_or processes p d ≡ idle_process (suc p) n (slice_index_or lengths p e)

-- there are 1 to 15, one for each process of a session
abbrev pub AreFew : {X : Type 0} → List X → Type 0
AreFew xs = (0 < length xs) × (length xs ≤ PROCESSES)

-- handlers that take back nothing, and whose processes begin with zeros, as many as these lengths say
pub record BeginWith (lengths : List ℕ) (f : Handlers) : Type 0 where
  pub grows : Grows f
  pub starts : Starts f
  pub zeros : (p len : ℕ) → nth lengths p ≡ Some len → f.state p [] ≡ replicate len 0

-- the machine of states of these lengths stands for the opening world of all handlers that begin with them; or there are
-- none or too many; or memory ran out
abbrev pub Opens : List ℕ → Result TheMachine Refusal → Type 0
Opens lengths (Ok m) =
    AreFew lengths × (m.lengths ≡ lengths) × (m.calls ≡ 0)
    × ((f : Handlers) → BeginWith lengths f → Stands m (opening (length lengths) f))
Opens lengths (Err NoSuchProcess) = ¬ AreFew lengths
Opens lengths (Err Memory) = AreFew lengths
Opens lengths (Err r) = ⊥
