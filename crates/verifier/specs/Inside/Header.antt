-- Headers field by field.
use Rattle.std.specs.Prelude.{◌≡◌, ◌<◌, ◌≤◌, ℕ, ◌*◌, ◌^◌, ◌++◌, length, List}
use Rattle.std.specs.Int.{w16, to_le_bytes}
use Rattle.limits.specs.declared.TheConstants.{SLOTS, STATE_BYTES}
use Rattle.verifier.specs.declared.file_form.FileForm.{FileForm}
use Rattle.verifier.specs.declared.header.FileHeader.{FileHeader}
use Rattle.verifier.specs.ImageFile.{magic}

-- the eight bytes of a header, if its magic has four
abbrev pub header_bytes : FileHeader → List ℕ
header_bytes h = h.magic ++ (to_le_bytes w16 h.state_len ++ to_le_bytes w16 h.slots)

-- the first eight bytes, and what follows them
pub record HasHeader (h : FileHeader) (rest bytes : List ℕ) : Type 0 where
  pub magic_len : length h.magic ≡ 4
  pub state_len : h.state_len < 2 ^ 16
  pub slots_len : h.slots < 2 ^ 16
  pub fields : bytes ≡ header_bytes h ++ rest

-- a header without a fault
pub record IsSound (form : FileForm) (h : FileHeader) (rest : List ℕ) : Type 0 where
  pub magic_is : h.magic ≡ magic form
  pub state : h.state_len ≤ STATE_BYTES
  pub some : 0 < h.slots
  pub short : h.slots ≤ SLOTS
  pub size : length rest ≡ 8 * h.slots
