-- What a fault shows and how the program ends with it (docs/FORMATS.md, "Faults").
use Rattle.std.specs.Prelude.{◌≡◌, ◌⊎◌, ℕ, Bool, true, false, List, [], ◌++◌, Option, Some, codes, decimal}
use Rattle.std.specs.Io.KnownBytes.{Appends}
use Rattle.std.specs.String.{string_bytes}
use Rattle.assemble.specs.Refusal as assembling
use Rattle.assemble.specs.declared.fault.AsmError.{AsmError}
use Rattle.assemble.specs.declared.fault.AsmError.TheVariants as text
use Rattle.cli.specs.declared.refusal.UsageRefusal.{UsageRefusal}
use Rattle.cli.specs.declared.refusal.UsageRefusal.TheVariants as refusal
use Rattle.decode.specs.Refusal.{rule_number}
use Rattle.decode.specs.declared.fault.DecodeError.{DecodeError}
use Rattle.decode.specs.declared.fault.DecodeError.TheVariants as code
use Rattle.elf.specs.Refusal.{fault_number}
use Rattle.elf.specs.declared.fault.ObjectError.{ObjectError}
use Rattle.elf.specs.declared.fault.ObjectError.TheVariants as object
use Rattle.elf.specs.declared.fault.ObjectFault.{ObjectFault}
use Rattle.elf.specs.declared.fault.ObjectFault.TheVariants.{Reference, Call}
use Rattle.image_commands.specs.declared.fault.TheConstants.{NO_STATE}
use Rattle.regtypes.specs.Rules as rules
use Rattle.scenario.specs.declared.scenario.ScenarioError.{ScenarioError}
use Rattle.scenario.specs.declared.scenario.ScenarioError.TheVariants as scenario
use Rattle.verifier.specs.FaultNumbers.{header_fault_number}
use Rattle.verifier.specs.declared.fault.ImageError.{ImageError}
use Rattle.verifier.specs.declared.fault.ImageError.TheVariants as image
use Rattle.image_commands.specs.Files.{Content}
use Rattle.image_commands.specs.declared.fault.Fault.{Fault}
use Rattle.image_commands.specs.declared.fault.Fault.TheVariants.{Usage, Header, Decode, Verify, Assemble, Object, NoState, Scenario}
use Rattle.image_commands.specs.declared.fault.Fault.TheVariants.{Memory, InputOutput}
use Rattle.image_commands.specs.declared.files.Failure.{Failure}
use Rattle.image_commands.specs.declared.files.Failure.TheVariants as failure

-- the exit status
abbrev pub status_of : Fault → ℕ
status_of (Usage usage) = 2
status_of (Header fault) = 3
status_of (Decode rule slot) = 3
status_of (Verify rule slot) = 3
status_of (Assemble rule line) = 3
status_of (Object fault) = 3
status_of NoState = 2
status_of (Scenario line) = 4
status_of Memory = 5
status_of InputOutput = 6

-- the slot that a fault of an object file names
abbrev pub slot_text : ObjectFault → List ℕ
slot_text (Reference slot is_call table symbol) = codes " at slot " ++ decimal slot
slot_text (Call slot) = codes " at slot " ++ decimal slot
slot_text fault = []

-- the text on standard error: one line, or the text on usage
abbrev pub fault_text : Fault → List ℕ
fault_text (Usage usage) = string_bytes usage.text
fault_text (Header fault) = codes "load refused " ++ decimal (header_fault_number fault) ++ codes "\n"
fault_text (Decode rule slot) =
    codes "decode refused " ++ decimal (rule_number rule) ++ codes " at slot " ++ decimal slot ++ codes "\n"
fault_text (Verify rule slot) =
    codes "verify refused V" ++ decimal (rules.rule_number rule) ++ codes " at slot " ++ decimal slot ++ codes "\n"
fault_text (Assemble rule line) =
    codes "asm refused " ++ decimal (assembling.rule_number rule) ++ codes " at line " ++ decimal line ++ codes "\n"
fault_text (Object fault) = codes "object refused " ++ decimal (fault_number fault) ++ slot_text fault ++ codes "\n"
fault_text NoState = NO_STATE.now
fault_text (Scenario line) = codes "scenario refused at line " ++ decimal line ++ codes "\n"
fault_text Memory = codes "memory\n"
fault_text InputOutput = codes "input or output\n"

-- ---- the fault that an error of a part is

-- the fault of a command line: the text on usage, or want of memory
abbrev pub fault_of_refusal : UsageRefusal → Fault
fault_of_refusal (refusal.Usage usage) = Usage usage
fault_of_refusal refusal.Memory = Memory

-- the fault of a file or stream: it can't be read or written, or want of memory
abbrev pub fault_of_failure : Failure → Fault
fault_of_failure failure.Memory = Memory
fault_of_failure (failure.InputOutput reason) = InputOutput

-- the fault of an image file: that of its header, of its code's bytes or of its typing, or want of memory
abbrev pub fault_of_image : ImageError → Fault
fault_of_image image.Memory = Memory
fault_of_image (image.Header fault) = Header fault
fault_of_image (image.Decode rule slot) = Decode rule slot
fault_of_image (image.Verify rule slot) = Verify rule slot

-- the fault of raw code: the rule that its first faulty instruction breaks and the slot, or want of memory
abbrev pub fault_of_code : DecodeError → Fault
fault_of_code code.Memory = Memory
fault_of_code (code.Fault rule slot) = Decode rule slot

-- the fault of an object file, or want of memory
abbrev pub fault_of_object : ObjectError → Fault
fault_of_object object.Memory = Memory
fault_of_object (object.Fault fault) = Object fault

-- the fault of an assembler text: the least rule that its first faulty line breaks, or want of memory
abbrev pub fault_of_text : AsmError → Fault
fault_of_text text.Memory = Memory
fault_of_text (text.Fault rule line) = Assemble rule line

-- a fault of a scenario: its first faulty line, 0 where it only lacks processes; or want of memory
abbrev pub IsFaultOfScenario : ScenarioError → Fault → Type 0
IsFaultOfScenario e Memory = Unit {0}
IsFaultOfScenario (scenario.Line line) (Scenario n) = n ≡ line
IsFaultOfScenario e f = ⊥

-- what is read from the file at the path comes to the fault: it is refused so, or, for input or output, a file or a stream has
-- failed; want of memory says nothing
abbrev pub FaultOf : Content → Bool → List ℕ → (List ℕ → Fault → Type 0) → Fault → Type 0
FaultOf content failed path refused (Usage usage) = ⊥
FaultOf content failed path refused Memory = Unit {0}
FaultOf content failed path refused InputOutput =
    (failed ≡ true) ⊎ ((bytes : List ℕ) → content path ≡ Some bytes → refused bytes InputOutput)
FaultOf content failed path refused f = (bytes : List ℕ) → content path ≡ Some bytes → refused bytes f

-- ---- how it is told

-- the fault was told in this text, with its status; or the stream for faults has failed, and left a status of its own
abbrev pub TellsText : Fault → List ℕ → Bool → Option (List ℕ) → Option (List ℕ) → ℕ → Type 0
TellsText f text failed err err' status =
    ((status ≡ status_of f) × Appends err err' text) ⊎ ((failed ≡ true) × ((status ≡ 5) ⊎ (status ≡ 6)))

-- the same in its line alone, or if hints are asked for in that line and a text below it
abbrev pub Tells : Bool → Fault → Bool → Option (List ℕ) → Option (List ℕ) → ℕ → Type 0
Tells false f failed err err' status = TellsText f (fault_text f) failed err err' status
Tells true f failed err err' status = (hints : List ℕ) × TellsText f (fault_text f ++ hints) failed err err' status
