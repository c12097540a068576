-- The records that calls of machine code leave, and the reports of such calls (docs/EMBEDDING.md).
use Rattle.std.specs.Prelude.{◌≡◌, ℕ, ◌+◌, ◌^◌, ◌<◌, ◌≤◌, List, Some, length, slice_get, slice_range}
use Rattle.operations.specs.Bytes.{le_bytes, overwritten}
use Rattle.helpers.specs.declared.effects.Who.{Who}
use Rattle.helpers.specs.declared.effects.Sent.{Sent}
use Rattle.helpers.specs.Effects.{Emitted}
use Rattle.native.specs.Correct.{IsAt, Keeps}
use Rattle.c_runs.specs.declared.call_record.TheConstants.{PAYLOAD}
use Rattle.c_runs.specs.declared.refusal.ImageRefusal.{ImageRefusal}
use Rattle.c_runs.specs.declared.refusal.ImageRefusal.TheVariants.{Room, Record}
use Rattle.c_runs.specs.declared.report.TheConstants.{REPORT_LIMIT}
use Rattle.c_runs.specs.Exports.{Answers}
use Rattle.c_runs.specs.Layout.{report_bytes}

-- a place has this payload of 64 bytes
pub record IsPayloadAt (bytes : List ℕ) (place : ℕ) (payload : List ℕ) : Type 0 where
  pub is_at : IsAt bytes place payload
  pub plain : length payload ≡ PAYLOAD

-- a place has this send of such a payload, to a process whose number is one byte
pub record IsSentAt (bytes : List ℕ) (place : ℕ) (sent : Sent) : Type 0 where
  pub low : sent.dst < 2 ^ 8
  pub dst_is : slice_range bytes place (place + 8) ≡ le_bytes 8 sent.dst
  pub payload_is : IsPayloadAt bytes place sent.payload

-- there are `count` of these, each in its place
pub record AreIn {A : Type 0} (Stands : ℕ → A → Type 0) (count : ℕ) (xs : List A) : Type 0 where
  pub size : length xs ≡ count
  pub each : (k : ℕ) (x : A) → slice_get xs k ≡ Some x → Stands k x

-- one of the first `count` places has none
pub record AreNotIn {A : Type 0} (Stands : ℕ → A → Type 0) (count : ℕ) : Type 0 where
  pub k : ℕ
  pub within : k < count
  pub none : (x : A) → ¬ Stands k x

-- a call of form 1 left this record, after this many steps and with these effects
pub record IsLeft (bytes : List ℕ) (steps : ℕ) (e : Emitted) : Type 0 where
  pub who : Who
  pub keeps : Keeps who e bytes
  pub fits : steps < 2 ^ 64
  pub counted : slice_range bytes 16 24 ≡ le_bytes 8 steps
  pub sends : (k : ℕ) (s : Sent) → slice_get e.sends k ≡ Some s → (s.dst < 2 ^ 8) × (length s.payload ≡ PAYLOAD)
  pub outputs : (k : ℕ) (payload : List ℕ) → slice_get e.outputs k ≡ Some payload → length payload ≡ PAYLOAD

-- the report of the call that left this record and had this r0 was written to the front
pub record IsTold (r0 : ℕ) (bytes out written : List ℕ) : Type 0 where
  pub steps : ℕ
  pub effects : Emitted
  pub left : IsLeft bytes steps effects
  pub room : REPORT_LIMIT ≤ length out
  pub written_is : written ≡ overwritten out 0 (report_bytes r0 steps effects)

-- why it wasn't: the buffer is too short, or no call of form 1 leaves such bytes
abbrev pub IsUntold : List ℕ → List ℕ → ImageRefusal → Type 0
IsUntold bytes out Room = length out < REPORT_LIMIT
IsUntold bytes out Record = (REPORT_LIMIT ≤ length out) × ((steps : ℕ) (e : Emitted) → ¬ IsLeft bytes steps e)
IsUntold bytes out why = ⊥

-- the meaning of a code for the report of a record. A refusal leaves the buffer as it was
abbrev pub Reports : ℕ → ℕ → List ℕ → List ℕ → List ℕ → Type 0
Reports code r0 bytes out written =
    Answers code (IsTold r0 bytes out written) (λ why. IsUntold bytes out why × (written ≡ out))
