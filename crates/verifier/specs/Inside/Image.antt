-- The fields of an image that no public clause shows.
use Rattle.std.specs.Prelude.{◌≡◌, ℕ, ◌+◌, ◌≤◌, List, length}
use Rattle.std.specs.List.{AllByRecursion}
use Rattle.limits.specs.declared.TheConstants.{PAYLOAD_BYTES, SLOTS, STACK_BYTES, STATE_BYTES}
use Rattle.decode.specs.declared.insn.Insn.{Insn}
use Rattle.decode.specs.Encoding.{Fits, encoding}
use Rattle.decode.specs.Slots.{slots_of}
use Rattle.dense.specs.declared.op.Op.{Op}
use Rattle.regtypes.specs.declared.image_form.ImageForm.{ImageForm}
use Rattle.regtypes.specs.Typing.{Table}
use Rattle.verifier.specs.Dense.{AreSparing, IsDense}
use Rattle.verifier.specs.Least.{IsLeastTyping}

-- the table is the least typing of the code, the operations are those of its instructions and write to the stack only
-- from `low` on, and the bytes are the code's encoding
abbrev pub IsImage : ImageForm → List Insn → List ℕ → ℕ → Table → List Op → List ℕ → ℕ → Type 0
IsImage form code bytes len table ops pool low =
    IsLeastTyping form (slots_of code) len table
    × (length (slots_of code) ≤ SLOTS) × (len ≤ STATE_BYTES)
    × IsDense (slots_of code) table len ops pool
    × (PAYLOAD_BYTES + len ≤ low) × (low ≤ PAYLOAD_BYTES + len + STACK_BYTES)
    × AreSparing (PAYLOAD_BYTES + len) low ops
    × AllByRecursion Fits code × (bytes ≡ encoding code)
