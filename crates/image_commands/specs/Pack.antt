-- The command `pack` (docs/FORMATS.md, "Commands").
use Rattle.std.specs.Prelude.{◌≡◌, ◌<◌, ◌≤◌, ◌*◌, ◌⊎◌, ℕ, Bool, true, false, List, Option, None, Some, length}
use Rattle.std.specs.Option.{unwrap_or}
use Rattle.limits.specs.declared.TheConstants.{SLOTS, STATE_BYTES}
use Rattle.elf.specs.Function.{IsFunction}
use Rattle.elf.specs.Object.{is_elf}
use Rattle.elf.specs.Refusal.{IsFaultOf}
use Rattle.elf.specs.declared.fault.ObjectFault.{ObjectFault}
use Rattle.elf.specs.declared.fault.ObjectFault.TheVariants.{State}
use Rattle.image_commands.specs.declared.pack.TheConstants.{OBJECT_BYTES}
use Rattle.decode.specs.Encoding.{encoding}
use Rattle.decode.specs.Refusal as decoding
use Rattle.decode.specs.declared.insn.Insn.{Insn}
use Rattle.verifier.specs.declared.file_form.FileForm.{FileForm}
use Rattle.verifier.specs.declared.file_form.FileForm.TheVariants.{Sbi1, Sbi3}
use Rattle.block_order.specs.Ordered.{IsFileOf}
use Rattle.block_order.specs.declared.blocks.Blocks.{Blocks}
use Rattle.verifier.specs.declared.fault.HeaderFault.TheVariants.{SlotCount}
use Rattle.image_commands.specs.declared.fault.Fault.{Fault}
use Rattle.image_commands.specs.declared.fault.Fault.TheVariants.{Usage, Header, Decode, Verify, Assemble, Object, NoState, Scenario}
use Rattle.image_commands.specs.declared.fault.Fault.TheVariants.{Memory, InputOutput}

-- the code is that of instructions of which these bytes are the file of this form, with a state of this length, and the blocks
-- stand so in it
pub record IsPacked (code : List ℕ) (state : ℕ) (form : FileForm) (bytes : List ℕ) (blocks : Blocks) : Type 0 where
  pub insns : List Insn
  pub encoded : code ≡ encoding insns
  pub file : IsFileOf form insns state bytes blocks

-- why code has no file: it has no slot or more than 1,024, or is no encoding; want of memory says nothing of it
abbrev pub IsUnpacked : List ℕ → Fault → Type 0
IsUnpacked code (Decode rule slot) = (length code ≤ 8 * SLOTS) × decoding.IsFault code rule slot
IsUnpacked code (Header fault) = (fault ≡ SlotCount) × ((length code ≡ 0) ⊎ (8 * SLOTS < length code))
IsUnpacked code Memory = Unit {0}
IsUnpacked code InputOutput = ⊥
IsUnpacked code (Assemble rule line) = ⊥
IsUnpacked code (Object fault) = ⊥
IsUnpacked code NoState = ⊥
IsUnpacked code (Scenario line) = ⊥
IsUnpacked code (Usage usage) = ⊥
IsUnpacked code (Verify rule slot) = ⊥

-- ---- the command

-- the state has the length that is asked for, if one is
abbrev pub IsLength : Option ℕ → ℕ → Type 0
IsLength None length = Unit {0}
IsLength (Some asked) length = length ≡ asked

-- the bytes are the file of what is in the source: of bare code, or of the function of this name of an object file. Bare code has no
-- length of its state, and is of form 1 if no other is asked for; an object file's is of form 3
abbrev pub IsFileBy : Bool → Option ℕ → Option FileForm → Option (List ℕ) → List ℕ → List ℕ → Blocks → Type 0
IsFileBy false state form name source bytes blocks =
    (length : ℕ) × (state ≡ Some length) × IsPacked source length (unwrap_or form Sbi1) bytes blocks
IsFileBy true state form name source bytes blocks =
    (length : ℕ) × IsLength state length × (code : List ℕ) × IsFunction source name code
    × IsPacked code length (unwrap_or form Sbi3) bytes blocks

-- the same; an object file is known by its first bytes
abbrev pub IsMade : Option ℕ → Option FileForm → Option (List ℕ) → List ℕ → List ℕ → Blocks → Type 0
IsMade state form name source bytes blocks = IsFileBy (is_elf source) state form name source bytes blocks

-- what is wrong with an object file of which no length of the state is known by this option
abbrev pub IsObjectFault : Option ℕ → Option (List ℕ) → List ℕ → ObjectFault → Type 0
IsObjectFault state name source (State length) = (state ≡ None) × (STATE_BYTES < length)
IsObjectFault state name source fault = IsFaultOf source name fault

-- the code of its function has no file
abbrev pub IsUnpackedFunction : Option (List ℕ) → List ℕ → Fault → Type 0
IsUnpackedFunction name source f = (code : List ℕ) × IsFunction source name code × IsUnpacked code f

-- why a source comes to no file; an object file has a limit too
abbrev pub IsUnfiledBy : Bool → Option ℕ → Option (List ℕ) → List ℕ → Fault → Type 0
IsUnfiledBy false state name source NoState = state ≡ None
IsUnfiledBy false state name source f = IsUnpacked source f
IsUnfiledBy true state name source NoState = state ≡ None
IsUnfiledBy true state name source (Object fault) = IsObjectFault state name source fault
IsUnfiledBy true state name source Memory = Unit {0}
IsUnfiledBy true state name source (Header fault) =
    ((fault ≡ SlotCount) × (OBJECT_BYTES < length source)) ⊎ IsUnpackedFunction name source (Header fault)
IsUnfiledBy true state name source f = IsUnpackedFunction name source f

-- the same; an object file is known by its first bytes
abbrev pub IsUnmade : Option ℕ → Option (List ℕ) → List ℕ → Fault → Type 0
IsUnmade state name source f = IsUnfiledBy (is_elf source) state name source f
