-- Reading a checkpoint from left to right. A field gives a value and the bytes after it, or the first fault.
use Rattle.std.specs.Prelude.{◌≡◌, ℕ, zero, suc, ◌+◌, ◌-◌, List, [], ◌∷◌, length, take, drop, Result, Ok, Err, nat_lt, nat_eq, ◌==◌, ◌||◌}
use Rattle.std.specs.Prelude.{if◌then◌else◌}
use Rattle.std.specs.Int.{Width, w16, w32, byte_len, from_le_bytes}
use Rattle.std.specs.List.{list_all, insert}
use Rattle.std.specs.Cmp.Lexicographic.{pointwise}
use Rattle.limits.specs.declared.TheConstants.{PAYLOAD_BYTES, PROCESSES, RECEIPTS, SENDS, STATE_BYTES}
use Rattle.checkpoint.specs.declared.form.CheckpointForm.{CheckpointForm}
use Rattle.checkpoint.specs.declared.form.CheckpointForm.TheVariants.{First, Second}
use Rattle.checkpoint.specs.declared.fault.SavedFault.{SavedFault}
use Rattle.checkpoint.specs.declared.fault.SavedFault.TheVariants.{Magic, Length, Range}
use Rattle.checkpoint.specs.declared.fault.SavedError.{SavedError}
use Rattle.checkpoint.specs.declared.fault.SavedError.TheVariants as errors
use Rattle.checkpoint.specs.declared.fields.CheckpointHead.{CheckpointHead}
use Rattle.checkpoint.specs.Saved.{TheKept, TheSaved, nothing_kept, is_sender}
use Rattle.checkpoint.specs.Format.{magic}

infixl 10 ◌>>=◌
abbrev pub ◌>>=◌ : {A B : Type 0} → Result A SavedFault → (A → Result B SavedFault) → Result B SavedFault
(Ok x) >>= f = f x
(Err e) >>= f = Err e

-- an error is the one that reading gives, unless memory ran out
abbrev pub Fails : {Y : Type 0} → SavedError → Result Y SavedFault → Type 0
Fails errors.Memory read = Unit {0}
Fails (errors.Fault fault) read = read ≡ Err fault

-- what a function returned, seen by view, is what reading gives, unless memory ran out
abbrev pub Gives : {X Y : Type 0} → (X → Y) → Result X SavedError → Result Y SavedFault → Type 0
Gives view (Ok x) read = read ≡ Ok (view x)
Gives view (Err e) read = Fails e read

-- ---- fields

-- the first n bytes
abbrev pub bytes_at : ℕ → List ℕ → Result (List ℕ × List ℕ) SavedFault
bytes_at n bytes = if nat_lt (length bytes) n then Err Length else Ok (take n bytes, drop n bytes)

-- a number, if it is in a range
abbrev pub in_range : ℕ → ℕ → ℕ → List ℕ → Result (ℕ × List ℕ) SavedFault
in_range low high n rest = if nat_lt n low || nat_lt high n then Err Range else Ok (n, rest)

-- one byte, in a range
abbrev pub byte_at : ℕ → ℕ → List ℕ → Result (ℕ × List ℕ) SavedFault
byte_at low high [] = Err Length
byte_at low high (b ∷ rest) = in_range low high b rest

-- a little-endian number of some width, in a range
unfoldable pub number_at : Width → ℕ → ℕ → List ℕ → Result (ℕ × List ℕ) SavedFault
number_at w low high bytes = do
  found ← bytes_at (byte_len w) bytes
  in_range low high (from_le_bytes w found.0) found.1

-- the form with the magic at the front
unfoldable pub form_at : List ℕ → Result (CheckpointForm × List ℕ) SavedFault
form_at bytes = do
  found ← bytes_at 4 bytes
  if pointwise nat_eq found.0 (magic First) then Ok (First, found.1)
      else (if pointwise nat_eq found.0 (magic Second) then Ok (Second, found.1) else Err Magic)

-- the senders of the receipts, a byte each
unfoldable pub senders_at : ℕ → ℕ → ℕ → List ℕ → Result (List ℕ × List ℕ) SavedFault
senders_at me count received bytes = do
  senders ← bytes_at received bytes
  if list_all (is_sender me count) senders.0 then Ok senders else Err Range

-- 64 bytes, or a length and as many bytes
unfoldable pub payload_at : CheckpointForm → List ℕ → Result (List ℕ × List ℕ) SavedFault
payload_at First bytes = bytes_at 64 bytes
payload_at Second bytes = do
  len ← number_at w16 0 PAYLOAD_BYTES bytes
  bytes_at len.0 len.1

-- n fields of one kind
unfoldable pub times : {A : Type 0} → (List ℕ → Result (A × List ℕ) SavedFault) → ℕ → List ℕ → Result (List A × List ℕ) SavedFault
times field zero bytes = Ok ([], bytes)
times field (suc n) bytes = do
  first ← field bytes
  others ← times field n first.1
  Ok (first.0 ∷ others.0, others.1)

-- what is kept for one destination
unfoldable pub kept_at : CheckpointForm → List ℕ → Result (TheKept × List ℕ) SavedFault
kept_at form bytes = do
  first ← number_at w32 1 (SENDS + 1) bytes
  count ← number_at w32 0 (SENDS + 1 - first.0) first.1
  payloads ← times (payload_at form) count.0 count.1
  Ok (record { first = first.0; payloads = payloads.0 }, payloads.1)

-- ---- the whole

-- the fields up to the number of receipts
unfoldable pub head_at : List ℕ → Result (CheckpointHead × List ℕ) SavedFault
head_at bytes = do
  form ← form_at bytes
  state ← number_at w16 0 STATE_BYTES form.1
  count ← byte_at 1 PROCESSES state.1
  me ← byte_at 1 count.0 count.1
  received ← number_at w32 0 RECEIPTS me.1
  Ok (record { form = form.0; state = state.0; count = count.0; me = me.0; received = received.0 }, received.1)

-- the state, the receipts, and what is kept for each number but the process's own, for which nothing is kept
unfoldable pub body_at : CheckpointHead → List ℕ → Result (TheSaved × List ℕ) SavedFault
body_at head bytes = do
  state ← bytes_at head.state bytes
  senders ← senders_at head.me head.count head.received state.1
  queues ← times (kept_at head.form) head.count senders.1
  Ok (
    record {
      me = head.me;
      count = head.count;
      state = state.0;
      senders = senders.0;
      queues = insert queues.0 head.me nothing_kept;
    },
    queues.1,
  )

-- all of the bytes, with none left over
unfoldable pub reading : List ℕ → Result TheSaved SavedFault
reading bytes = do
  head ← head_at bytes
  saved ← body_at head.0 head.1
  if length saved.1 == 0 then Ok saved.0 else Err Length
