-- Machine code of an opened image (docs/EMBEDDING.md).
use Rattle.std.specs.Prelude.{◌≡◌, ℕ, ◌<◌, ◌≤◌, List, Option, Some, None, length}
use Rattle.operations.specs.Bytes.{overwritten}
use Rattle.verifier.specs.declared.fault.ImageError.TheVariants.{Memory}
use Rattle.native.specs.AnyForm.{IsNativeOf}
use Rattle.interp.specs.Image.{TheImage}
use Rattle.c_runs.specs.declared.refusal.ImageRefusal.{ImageRefusal}
use Rattle.c_runs.specs.declared.refusal.ImageRefusal.TheVariants.{Image, Room, Handle}
use Rattle.c_runs.specs.Exports.{Answers}

-- why there is none: memory ran out
abbrev pub IsUnmade : ImageRefusal → Type 0
IsUnmade (Image Memory) = Unit {0}
IsUnmade why = ⊥

-- these bytes are machine code of the image, and `size` is their number
pub record IsCodeOf (image : TheImage) (size : ℕ) (code : List ℕ) : Type 0 where
  pub native : IsNativeOf image code
  pub size_is : size ≡ length code

-- machine code of the image was written to the front
pub record IsCompiled (image : TheImage) (out written : List ℕ) (size : ℕ) : Type 0 where
  pub code : List ℕ
  pub code_is : IsCodeOf image size code
  pub fits : length code ≤ length out
  pub written_is : written ≡ overwritten out 0 code

-- why it wasn't: it is longer than the buffer, or memory ran out
abbrev pub IsUncompiled : TheImage → List ℕ → ℕ → ℕ → ImageRefusal → Type 0
IsUncompiled image out was size Room = (code : List ℕ) × IsCodeOf image size code × (length out < length code)
IsUncompiled image out was size why = (size ≡ was) × IsUnmade why

-- the meaning of a code for compiling a handle's image. A refusal leaves the buffer as it was
abbrev pub Compiles : ℕ → Option TheImage → List ℕ → List ℕ → ℕ → ℕ → Type 0
Compiles code None out written was size =
    Answers code ⊥ (λ why. (why ≡ Handle) × (written ≡ out) × (size ≡ was))
Compiles code (Some image) out written was size =
    Answers code (IsCompiled image out written size) (λ why. IsUncompiled image out was size why × (written ≡ out))
