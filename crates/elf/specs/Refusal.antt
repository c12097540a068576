-- Why an object file is refused.
use Rattle.std.specs.Prelude.{◌≡◌, ◌≢◌, ◌<◌, ◌≤◌, ◌⊎◌, ◌+◌, ◌*◌, ◌/◌, ◌-◌, ◌^◌, ℕ, suc, List, [], Option, None, Some, length, slice_index}
use Rattle.std.specs.Prelude.{slice_get, false}
use Rattle.limits.specs.declared.TheConstants.{SLOTS}
use Rattle.elf.specs.Object.{bytes_at, contents_of, functions_of, is_elf, number_at, relocation_at, row_place, section_at, section_count}
use Rattle.elf.specs.Object.{sizes_below, symbol_at}
use Rattle.elf.specs.Function.{IsCall, IsChosen, IsOnly, IsReference, IsText}
use Rattle.elf.specs.declared.fault.ObjectError.{ObjectError}
use Rattle.elf.specs.declared.fault.ObjectError.TheVariants.{Fault, Memory}
use Rattle.elf.specs.declared.fault.ObjectFault.{ObjectFault}
use Rattle.elf.specs.declared.fault.ObjectFault.TheVariants.{Kind, ByteOrder, Processor, Linked, Damaged, NoFunction, NoSuchFunction}
use Rattle.elf.specs.declared.fault.ObjectFault.TheVariants.{Several, Outside, Reference, Call, Slots, State}
use Rattle.elf.specs.declared.section.Section.{Section}
use Rattle.elf.specs.declared.symbol.Symbol.{Symbol}

-- the numbers of the faults
abbrev pub fault_number : ObjectFault → ℕ
fault_number Kind = 1
fault_number ByteOrder = 2
fault_number (Processor number) = 3
fault_number Linked = 4
fault_number Damaged = 5
fault_number NoFunction = 6
fault_number NoSuchFunction = 7
fault_number Several = 8
fault_number Outside = 9
fault_number (Reference slot is_call table symbol) = 10
fault_number (Call slot) = 11
fault_number (Slots slots) = 12
fault_number (State length) = 13

-- the row of a section doesn't lie in the file
abbrev pub IsRowOutside : List ℕ → ℕ → Type 0
IsRowOutside file index = length file < row_place file index + 64

-- the bytes of a section don't lie in the file
abbrev pub AreBytesOutside : List ℕ → Section → Type 0
AreBytesOutside file section = length file < section.offset + section.size

-- a table of symbols has its names in a section whose row isn't there, or one that begins at no place below 2^64
abbrev pub IsNameless : List ℕ → Section → Type 0
IsNameless file table =
    IsRowOutside file table.link ⊎ ((row : ℕ) × (row < table.size / 24) × (2 ^ 64 ≤ (symbol_at file table row).name))

-- a section has its row or its bytes outside of the file, those up to it have more bytes than the file, or it is a table of symbols
-- without names
abbrev pub IsBadSection : List ℕ → ℕ → Type 0
IsBadSection file index =
    IsRowOutside file index
    ⊎ ((length file < sizes_below file (suc index))
    ⊎ ((((section_at file index).kind ≢ 8) × AreBytesOutside file (section_at file index))
    ⊎ (((section_at file index).kind ≡ 2) × IsNameless file (section_at file index))))

-- a section of the file is bad
abbrev pub IsDamaged : List ℕ → Type 0
IsDamaged file = (index : ℕ) × (index < section_count file) × IsBadSection file index

-- what a fault says of the code of a function; if it is damage, the file is damaged, or the function's section lies outside of it
abbrev pub IsBroken : List ℕ → Symbol → ObjectFault → Type 0
IsBroken file symbol Damaged =
    IsDamaged file ⊎ (IsRowOutside file symbol.section ⊎ AreBytesOutside file (section_at file symbol.section))
IsBroken file symbol Outside = (section_at file symbol.section).size < symbol.value + symbol.size
IsBroken file symbol (Slots slots) = (8 * SLOTS < symbol.size) × (slots ≡ symbol.size / 8)
IsBroken file symbol (Reference slot is_call table number) =
    (index row : ℕ) × (index < section_count file) × IsReference file symbol (section_at file index) row
    × (slot ≡ (relocation_at file (section_at file index) row - symbol.value) / 8)
IsBroken file symbol (Call slot) = IsCall (bytes_at symbol.value symbol.size (contents_of (section_at file symbol.section) file)) slot
IsBroken file symbol fault = ⊥

-- what a fault says of a file
abbrev pub IsFaultOf : List ℕ → Option (List ℕ) → ObjectFault → Type 0
IsFaultOf file name Kind =
    (length file < 64) ⊎ ((is_elf file ≡ false) ⊎ ((slice_index file 4 ≢ 2) ⊎ (slice_index file 6 ≢ 1)))
IsFaultOf file name ByteOrder = slice_index file 5 ≢ 1
IsFaultOf file name (Processor number) = (number ≡ number_at 2 18 file) × (number ≢ 247)
IsFaultOf file name Linked = number_at 2 16 file ≢ 1
IsFaultOf file name Damaged =
    IsDamaged file ⊎ ((symbol : Symbol) × IsChosen file name (functions_of file) symbol × IsBroken file symbol Damaged)
IsFaultOf file name NoFunction = functions_of file ≡ []
IsFaultOf file name NoSuchFunction = (asked : List ℕ) × (name ≡ Some asked)
    × ((k : ℕ) (other : Symbol) → slice_get (functions_of file) k ≡ Some other → ¬ IsText file other.name asked)
IsFaultOf file name Several = (name ≡ None) × ((symbol : Symbol) → ¬ IsOnly (functions_of file) symbol)
IsFaultOf file name (State length) = ⊥
IsFaultOf file name fault = (symbol : Symbol) × IsChosen file name (functions_of file) symbol × IsBroken file symbol fault

-- the same of an error; want of memory says nothing
abbrev pub IsRefusal : List ℕ → Option (List ℕ) → ObjectError → Type 0
IsRefusal file name Memory = Unit {0}
IsRefusal file name (Fault fault) = IsFaultOf file name fault
