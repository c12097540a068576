-- Images that are opened once: the meaning of a handle, and the answers of calls by it (docs/EMBEDDING.md).
use Rattle.std.specs.Prelude.{◌≡◌, ℕ, List, Option, Some, None}
use Rattle.std.specs.Ptr.{Ptr, null_ptr}
use Rattle.std.specs.Global.{Global}
use Rattle.std.specs.Box.Ownership.{box_owns}
use Rattle.std.specs.contracts.impls.GlobalAllocator.TheImpl.{ghosts}
use mir.Syntax.{Ty}
use base.Fml.{Fml, feq}
use Rattle.interp.specs.Image.{TheImage}
use Rattle.c_runs.specs.contracts.handler.OpenHandler.{the_row}
use Rattle.c_runs.specs.Calls.{IsTypableFile}
use Rattle.c_runs.specs.Exports.{Answers, IsFileRefusal}

-- the heap
abbrev pub heap : Global
heap = record { memory = record { seal = tt } }

-- the right to give a block of the heap back
abbrev pub may_free : Ty → Ptr → Fml
may_free = ghosts.dealloc_token heap

-- a handle is null, which stands for no image and owns nothing, or the place of an image in a block of memory, with the right to give the
-- block back
abbrev pub owns_image : Ptr → Option TheImage → Fml
owns_image handle None = feq Ptr handle null_ptr
owns_image handle (Some image) = box_owns may_free the_row handle image

-- the meaning of a code for opening a file: 0 means that the handle stands for its image, any other number says why there is none
abbrev pub Opens : ℕ → List ℕ → Option TheImage → Type 0
Opens code file held =
    Answers code ((image : TheImage) × (held ≡ Some image) × IsTypableFile image file) (λ why. IsFileRefusal file why × (held ≡ None))

-- the length of the state, 0 for a null handle
abbrev pub state_len_of : Option TheImage → ℕ
state_len_of None = 0
state_len_of (Some image) = image.len
