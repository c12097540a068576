-- The records that calls of machine code leave (docs/EMBEDDING.md, "Machine code")
use Rattle.std.specs.Prelude.{◌≡◌, ℕ, ◌+◌, ◌<◌, List, Some, false, length, slice_get, slice_range}
use Rattle.operations.specs.Bytes.{le_bytes}
use Rattle.helpers.specs.declared.effects.Who.{Who}
use Rattle.helpers.specs.declared.effects.Sent.{Sent}
use Rattle.helpers.specs.Effects.{Emitted}
use Rattle.helpers.specs.Helpers.{is_no_peer}
use Rattle.native.specs.Correct.{IsAt, Keeps}

-- a place has this message for another process
pub record IsSentAt (who : Who) (bytes : List ℕ) (place : ℕ) (sent : Sent) : Type 0 where
  pub peer : is_no_peer who sent.dst ≡ false
  pub dst_is : slice_range bytes place (place + 8) ≡ le_bytes 8 sent.dst
  pub payload_is : IsAt bytes place sent.payload

-- there are `count` of these, each in its place
pub record AreIn {A : Type 0} (Stands : ℕ → A → Type 0) (count : ℕ) (xs : List A) : Type 0 where
  pub size : length xs ≡ count
  pub each : (k : ℕ) (x : A) → slice_get xs k ≡ Some x → Stands k x

-- one of the first `count` places has none
pub record AreNotIn {A : Type 0} (Stands : ℕ → A → Type 0) (count : ℕ) : Type 0 where
  pub k : ℕ
  pub within : k < count
  pub none : (x : A) → ¬ Stands k x

-- a call with this identity left this record: these messages, each for another process, and outputs
pub record IsLeft (who : Who) (bytes : List ℕ) (e : Emitted) : Type 0 where
  pub keeps : Keeps who e bytes
  pub peers : (k : ℕ) (s : Sent) → slice_get e.sends k ≡ Some s → is_no_peer who s.dst ≡ false
