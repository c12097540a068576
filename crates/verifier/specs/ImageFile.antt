-- Image files: the bytes "SBI1", "SBI2" or "SBI3" by the form, two bytes with the state's length, two with the number of
-- slots, then the code; numbers are little-endian.
use Rattle.std.specs.Prelude.{◌≡◌, ◌≢◌, ◌<◌, ◌≤◌, ◌⊎◌, ℕ, ◌+◌, ◌*◌, ◌++◌, length, take, drop, List, [], ◌∷◌}
use Rattle.std.specs.Int.{w16, to_le_bytes, from_le_bytes}
use Rattle.std.specs.List.{AllByRecursion}
use Rattle.limits.specs.declared.TheConstants.{SLOTS, STATE_BYTES}
use Rattle.decode.specs.declared.insn.Insn.{Insn}
use Rattle.decode.specs.Slots.{slots, slots_of}
use Rattle.decode.specs.Encoding.{Fits, encoding}
use Rattle.decode.specs.declared.fault.EncodingRule.{EncodingRule}
use Rattle.decode.specs.First.{IsFirst}
use Rattle.decode.specs.Refusal as decoding
use Rattle.regtypes.specs.declared.image_form.ImageForm.TheVariants as two
use Rattle.regtypes.specs.declared.rule.Rule.{Rule as BrokenRule}
use Rattle.regtypes.specs.Typing.{Table, frame_at}
use Rattle.verifier.specs.declared.fault.HeaderFault.{HeaderFault}
use Rattle.verifier.specs.declared.fault.HeaderFault.TheVariants.{TooShort, Magic, StateLength, SlotCount, FileLength}
use Rattle.verifier.specs.declared.fault.ImageError.{ImageError}
use Rattle.verifier.specs.declared.fault.ImageError.TheVariants.{Memory, Header, Decode, Verify}
use Rattle.verifier.specs.declared.file_form.FileForm.{FileForm}
use Rattle.verifier.specs.declared.file_form.FileForm.TheVariants.{Sbi1, Sbi2, Sbi3}
use Rattle.verifier.specs.declared.header.Forms.{Forms}
use Rattle.verifier.specs.declared.header.Forms.TheVariants.{Flat, Span, Any}
use Rattle.verifier.specs.FileForm.{file_form_number}
use Rattle.verifier.specs.Fixpoint as one
use Rattle.verifier.specs.Least.{flat_form}
use Rattle.verifier.specs.Span.Typed as span
use Rattle.verifier.specs.Span.Typing.{span_form}

-- ---- the bytes

-- "SBI" and the form's number as a digit
abbrev pub magic : FileForm → List ℕ
magic form = 0x53 ∷ 0x42 ∷ 0x49 ∷ (0x30 + file_form_number form) ∷ []

-- the file with this form, this code and this length of the state
pub record IsFile (form : FileForm) (code : List Insn) (len : ℕ) (bytes : List ℕ) : Type 0 where
  pub bytes_are : bytes ≡ (magic form ++ (to_le_bytes w16 len ++ to_le_bytes w16 (slots code))) ++ encoding code
  pub fits : AllByRecursion Fits code
  pub state : len ≤ STATE_BYTES
  pub some : 0 < slots code
  pub short : slots code ≤ SLOTS

-- code has a typing in this form
abbrev pub IsTypable : FileForm → List Insn → ℕ → Type 0
IsTypable Sbi1 code len = (table : Table) × one.IsTyped (flat_form two.Sbi1 len (slots_of code)) (frame_at table)
IsTypable Sbi2 code len = (table : Table) × one.IsTyped (flat_form two.Sbi2 len (slots_of code)) (frame_at table)
IsTypable Sbi3 code len = span.IsTypable code len

-- code has no typing in this form, because this slot breaks this rule
abbrev pub IsFault : FileForm → List Insn → ℕ → BrokenRule → ℕ → Type 0
IsFault Sbi1 code len rule slot = one.IsFault (flat_form two.Sbi1 len (slots_of code)) rule slot
IsFault Sbi2 code len rule slot = one.IsFault (flat_form two.Sbi2 len (slots_of code)) rule slot
IsFault Sbi3 code len rule slot = one.IsFault (span_form len (slots_of code)) rule slot

-- ---- refusals

-- which forms a reader takes
abbrev pub IsTaken : Forms → FileForm → Type 0
IsTaken Flat form = form ≢ Sbi3
IsTaken Span form = form ≡ Sbi3
IsTaken Any form = Unit {0}

-- these four bytes are those of no form that the reader takes
abbrev pub IsOther : Forms → List ℕ → Type 0
IsOther forms begins = (form : FileForm) → IsTaken forms form → begins ≢ magic form

-- the number in the two bytes from the k-th on
abbrev pub field_at : ℕ → List ℕ → ℕ
field_at k bytes = from_le_bytes w16 (take 2 (drop k bytes))

-- what each fault finds in a file; bytes 4 and 5 are its state's length, bytes 6 and 7 the number of its slots
abbrev pub HasFault : Forms → List ℕ → HeaderFault → Type 0
HasFault forms bytes TooShort = length bytes < 8
HasFault forms bytes Magic = IsOther forms (take 4 bytes)
HasFault forms bytes StateLength = STATE_BYTES < field_at 4 bytes
HasFault forms bytes SlotCount = (field_at 6 bytes ≡ 0) ⊎ (SLOTS < field_at 6 bytes)
HasFault forms bytes FileLength = length bytes ≢ 8 + 8 * field_at 6 bytes

-- the header's fault for which bytes are refused: the first, in the order of their numbers
abbrev pub IsHeaderFault : Forms → List ℕ → HeaderFault → Type 0
IsHeaderFault forms bytes fault = IsFirst (HasFault forms bytes) (TooShort ∷ Magic ∷ StateLength ∷ SlotCount ∷ FileLength ∷ []) fault

-- the header has no fault, and the code after it breaks this rule of the encoding, at this slot
abbrev pub IsCodeFault : Forms → List ℕ → EncodingRule → ℕ → Type 0
IsCodeFault forms bytes rule slot = ((fault : HeaderFault) → ¬ HasFault forms bytes fault) × decoding.IsFault (drop 8 bytes) rule slot

-- why bytes are no image file of these forms; that memory ran out says nothing of them
abbrev pub IsUnread : Forms → List ℕ → ImageError → Type 0
IsUnread forms bytes Memory = Unit {0}
IsUnread forms bytes (Header fault) = IsHeaderFault forms bytes fault
IsUnread forms bytes (Decode rule slot) = IsCodeFault forms bytes rule slot
IsUnread forms bytes (Verify rule slot) = ⊥

-- why bytes are no file of typable code
abbrev pub IsRefusal : Forms → List ℕ → ImageError → Type 0
IsRefusal forms bytes (Verify rule slot) = (form : FileForm) × (code : List Insn) × (len : ℕ)
    × IsFile form code len bytes × IsFault form code len rule slot × IsTaken forms form
IsRefusal forms bytes error = IsUnread forms bytes error

-- a refused file has one cause that can be named, if memory doesn't run out
abbrev pub IsOneFileRefusal : Forms → Type 0
IsOneFileRefusal forms = (bytes : List ℕ) (e e' : ImageError)
    → IsRefusal forms bytes e → IsRefusal forms bytes e' → e ≢ Memory → e' ≢ Memory → e ≡ e'

-- code is written unless it has no slot or too many
abbrev pub IsUnwritten : List Insn → ImageError → Type 0
IsUnwritten is Memory = (0 < slots is) × (slots is ≤ 1024)
IsUnwritten is (Header fault) = (fault ≡ SlotCount) × ((slots is ≡ 0) ⊎ (1024 < slots is))
IsUnwritten is (Decode rule slot) = ⊥
IsUnwritten is (Verify rule slot) = ⊥
