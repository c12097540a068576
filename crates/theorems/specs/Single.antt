-- Journals in which failures come one at a time
use Rattle.std.specs.Prelude.{◌≡◌, ℕ, List, true}
use Rattle.world.specs.declared.entry.Entry.{Entry}
use Rattle.world.specs.Handlers.{Handlers}
use Rattle.world.specs.World.{opening}
use Rattle.world.specs.Legal.{Legal, all_single}
use Rattle.theorems.specs.Growth.{Grows}

-- a legal journal of n processes with these handlers, in which no process crashes while another isn't up, and none recovers alone
abbrev pub IsSingle : ℕ → Handlers → List Entry → Type 0
IsSingle n f es = record { grows : Grows f; legal : Legal n f es; single : all_single (opening n f) es ≡ true }
