-- The command `migrate` (docs/FORMATS.md, "Commands"), which takes images of any form.
use Rattle.std.specs.Prelude.{◌≡◌, ◌<◌, ◌≤◌, ◌⊎◌, ℕ, List, [], ◌∷◌, Some, drop, length, replicate, take}
use Rattle.limits.specs.declared.TheConstants.{FORM_1_BYTES, PAYLOAD_BYTES, STATE_BYTES}
use Rattle.helpers.specs.declared.effects.Who.{Who}
use Rattle.verifier.specs.declared.file_form.FileForm.{FileForm}
use Rattle.verifier.specs.declared.file_form.FileForm.TheVariants.{Sbi1, Sbi2, Sbi3}
use Rattle.verifier.specs.AnyFile.{IsFile, IsTypable}
use Rattle.interp.specs.Answer.{Handled, HasRun}
use Rattle.interp.specs.Image.{TheImage}
use Rattle.verifier.specs.declared.fault.HeaderFault.TheVariants.{StateLength}
use Rattle.image_commands.specs.Check.{IsUnaccepted}
use Rattle.image_commands.specs.Files.{Content}
use Rattle.image_commands.specs.declared.fault.Fault.{Fault}
use Rattle.image_commands.specs.declared.fault.Fault.TheVariants.{Header}

-- the bytes of a state that one call shows: as many as a handler of this form sees of a message
abbrev pub piece_bytes : FileForm → ℕ
piece_bytes Sbi1 = FORM_1_BYTES
piece_bytes Sbi2 = PAYLOAD_BYTES
piece_bytes Sbi3 = PAYLOAD_BYTES

-- bytes in pieces of this size, of which the last may be shorter. No bytes are one piece
abbrev pub ArePieces : ℕ → List ℕ → List (List ℕ) → Type 0
ArePieces size bytes [] = ⊥
ArePieces size bytes (piece ∷ []) = (length bytes ≤ size) × (piece ≡ bytes)
ArePieces size bytes (piece ∷ pieces) = (size < length bytes) × (piece ≡ take size bytes) × ArePieces size (drop size bytes) pieces

-- who is called: process 1 of one, by the outside
abbrev pub converter : Who
converter = record { me = 1; from = 0; count = 1 }

-- calls on these messages in their order take the handler's state from the first to the last; what they send and put out is dropped
abbrev pub LeadsTo : TheImage → List ℕ → List (List ℕ) → List ℕ → Type 0
LeadsTo image state [] last = last ≡ state
LeadsTo image state (message ∷ messages) last = (h : Handled) × HasRun image converter state message h × LeadsTo image h.state messages last

-- calls on the pieces of an old state take the handler's state from the first to the last
abbrev pub Converts : TheImage → List ℕ → List ℕ → List ℕ → Type 0
Converts image old state last = (pieces : List (List ℕ)) × ArePieces (piece_bytes image.form) old pieces × LeadsTo image state pieces last

-- the bytes are the file, of any form, of typable code
pub record IsImage (image : TheImage) (bytes : List ℕ) : Type 0 where
  pub file : IsFile image.form image.code image.len bytes
  pub typable : IsTypable image.form image.code image.len

-- the handler of the file makes the new state of the old one, which has at most 1,024 bytes. Its own state begins as zeros
pub record IsConverted (bytes old new : List ℕ) : Type 0 where
  pub image : TheImage
  pub loaded : IsImage image bytes
  pub short : length old ≤ STATE_BYTES
  pub converted : Converts image old (replicate image.len 0) new

-- the same of the old state in the file at the path
abbrev pub MakesState : Content → List ℕ → List ℕ → List ℕ → Type 0
MakesState content path bytes new = (old : List ℕ) → content path ≡ Some old → IsConverted bytes old new

-- why it makes none: the file is refused as an image, or is one, and the old state has more than 1,024 bytes
abbrev pub IsUnconverted : Content → List ℕ → List ℕ → Fault → Type 0
IsUnconverted content path bytes f = IsUnaccepted bytes f
    ⊎ ((f ≡ Header StateLength) × ((image : TheImage) × IsImage image bytes)
    × ((old : List ℕ) → content path ≡ Some old → STATE_BYTES < length old))
