-- The command `asm` (docs/FORMATS.md, "Commands").
use Rattle.std.specs.Prelude.{◌≡◌, ◌<◌, ◌≤◌, ◌⊎◌, ℕ, List, [], length}
use Rattle.std.specs.Str.{IsUtf8}
use Rattle.assemble.specs.Refusal as assembling
use Rattle.assemble.specs.Text.{lines_of, spoken}
use Rattle.decode.specs.declared.insn.Insn.{Insn}
use Rattle.verifier.specs.declared.file_form.FileForm.{FileForm}
use Rattle.verifier.specs.AnyFile.{IsFile}
use Rattle.verifier.specs.declared.fault.HeaderFault.TheVariants.{SlotCount}
use Rattle.image_commands.specs.Judged.{IsJudged}
use Rattle.image_commands.specs.declared.fault.Fault.{Fault}
use Rattle.image_commands.specs.declared.fault.Fault.TheVariants.{Usage, Header, Decode, Verify, Assemble, Object, NoState, Scenario}
use Rattle.image_commands.specs.declared.fault.Fault.TheVariants.{Memory, InputOutput}
use Rattle.image_commands.specs.declared.judged.TheConstants.{TEXT_LIMIT}

-- the source is the text of code of which these bytes are the file of this form, with a state of this length
pub record IsAssembled (source : List ℕ) (state : ℕ) (form : FileForm) (bytes : List ℕ) : Type 0 where
  pub short : length source ≤ TEXT_LIMIT
  pub text : IsUtf8 source
  pub code : List Insn
  pub lines : assembling.AreLines (lines_of source) code
  pub file : IsFile form code state bytes

-- the source has more bytes than a text may have, and no line that ends within these is refused
pub record IsTooLong (source : List ℕ) : Type 0 where
  pub long : TEXT_LIMIT < length source
  pub head : List ℕ
  pub judged : IsJudged source head
  pub code : List Insn
  pub fine : assembling.AreLines (lines_of head) code

-- why a source comes to no file: a line that is refused, no instruction, too many bytes, or no text; want of memory says nothing of it
abbrev pub IsUnassembled : List ℕ → Fault → Type 0
IsUnassembled source (Assemble rule line) = assembling.IsFault source rule line
IsUnassembled source (Header fault) = (fault ≡ SlotCount) × ((spoken (lines_of source) ≡ []) ⊎ IsTooLong source)
IsUnassembled source InputOutput = (head : List ℕ) × IsJudged source head × ¬ IsUtf8 head
IsUnassembled source Memory = Unit {0}
IsUnassembled source (Object fault) = ⊥
IsUnassembled source NoState = ⊥
IsUnassembled source (Scenario line) = ⊥
IsUnassembled source (Usage usage) = ⊥
IsUnassembled source (Decode rule slot) = ⊥
IsUnassembled source (Verify rule slot) = ⊥
