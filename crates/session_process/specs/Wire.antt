-- What clauses see of the wire: the packet under each key, if there is one
use Rattle.std.specs.Prelude.{◌≡◌, ◌≢◌, ℕ, ◌<◌, List, length, Option, Some, None, IsSome, Contains, slice_index_or}
use Rattle.world.specs.declared.packet.Packet.{Packet}

-- the key had this before and has that now, and every other key keeps what it had
pub record Puts (old new : List (Option Packet)) (key : ℕ) (was is : Option Packet) : Type 0 where
  pub before : slice_index_or old key None ≡ was
  pub now : slice_index_or new key None ≡ is
  pub others : (other : ℕ) → other ≢ key → slice_index_or new other None ≡ slice_index_or old other None

-- each key is below the next
abbrev pub Ascend : List ℕ → Type 0
Ascend keys = (i j : ℕ) → i < j → j < length keys → slice_index_or keys i 0 < slice_index_or keys j 0

-- these are the keys that have packets, in ascending order
pub record AreListed (slots : List (Option Packet)) (keys : List ℕ) : Type 0 where
  pub all : (key : ℕ) (k : Packet) → slice_index_or slots key None ≡ Some k → Contains keys key
  pub some : (i : ℕ) → i < length keys → IsSome (slice_index_or slots (slice_index_or keys i 0) None)
  pub ascend : Ascend keys
