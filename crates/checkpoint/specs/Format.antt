-- The bytes of a checkpoint; numbers are little-endian.
use Rattle.std.specs.Prelude.{◌≡◌, ℕ, List, [], ◌∷◌, ◌++◌, length}
use Rattle.std.specs.Int.{w16, w32, to_le_bytes}
use Rattle.std.specs.List.{flat_map, remove}
use Rattle.checkpoint.specs.declared.form.CheckpointForm.{CheckpointForm}
use Rattle.checkpoint.specs.declared.form.CheckpointForm.TheVariants.{First, Second}
use Rattle.checkpoint.specs.Saved.{TheKept, TheSaved, Fits}

-- the magic of a form, "SBC1" or "SBC2"
abbrev pub magic : CheckpointForm → List ℕ
magic First = 0x53 ∷ 0x42 ∷ 0x43 ∷ 0x31 ∷ []
magic Second = 0x53 ∷ 0x42 ∷ 0x43 ∷ 0x32 ∷ []

-- a payload. In the second form its length comes first
abbrev pub payload_bytes : CheckpointForm → List ℕ → List ℕ
payload_bytes First payload = payload
payload_bytes Second payload = to_le_bytes w16 (length payload) ++ payload

-- what is kept for one destination: the first SSN, how many messages, and their payloads
abbrev pub kept_bytes : CheckpointForm → TheKept → List ℕ
kept_bytes form kept = to_le_bytes w32 kept.first ++ (to_le_bytes w32 (length kept.payloads) ++ flat_map (payload_bytes form) kept.payloads)

-- the length of the state, the number of processes, the process's own number, and how many receipts
abbrev pub number_bytes : TheSaved → List ℕ
number_bytes s = to_le_bytes w16 (length s.state) ++ (s.count ∷ s.me ∷ to_le_bytes w32 (length s.senders))

-- a checkpoint of a form: magic, numbers, the state, the sender of each receipt, and what is kept for each number but its own
abbrev pub bytes_of : CheckpointForm → TheSaved → List ℕ
bytes_of form s = magic form ++ (number_bytes s ++ (s.state ++ (s.senders ++ flat_map (kept_bytes form) (remove s.queues s.me))))

-- the bytes are the checkpoint of this saved process in this form
pub record IsCheckpoint (form : CheckpointForm) (s : TheSaved) (bytes : List ℕ) : Type 0 where
  pub fits : Fits form s
  pub bytes_are : bytes ≡ bytes_of form s
