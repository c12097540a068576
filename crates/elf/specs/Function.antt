-- The function of an object file, and its code.
use Rattle.std.specs.Prelude.{◌≡◌, ◌<◌, ◌≤◌, ◌⊎◌, ◌+◌, ◌*◌, ◌/◌, ℕ, List, [], ◌∷◌, Option, None, Some, length, filter, not, slice_index}
use Rattle.std.specs.Prelude.{slice_get, true}
use Rattle.limits.specs.declared.TheConstants.{SLOTS}
use Rattle.elf.specs.Object.{bytes_at, contents_of, functions_of, is_elf, number_at, relocation_at, relocation_size, section_at}
use Rattle.elf.specs.Object.{section_count}
use Rattle.elf.specs.declared.section.Section.{Section}
use Rattle.elf.specs.declared.symbol.Symbol.{Symbol}

-- an ELF file; of 64 bits [ELFCLASS64], the lowest byte first [ELFDATA2LSB], version 1; of BPF [EM_BPF]; not linked [ET_REL]
pub record IsObject (file : List ℕ) : Type 0 where
  pub long : 64 ≤ length file
  pub magic : is_elf file ≡ true
  pub class : slice_index file 4 ≡ 2
  pub order : slice_index file 5 ≡ 1
  pub version : slice_index file 6 ≡ 1
  pub processor : number_at 2 18 file ≡ 247
  pub linking : number_at 2 16 file ≡ 1

-- the text at a place of a file: it is there, and a zero after it
pub record IsText (file : List ℕ) (at : ℕ) (text : List ℕ) : Type 0 where
  pub within : at + length text < length file
  pub bytes : bytes_at at (length text) file ≡ text
  pub end : slice_index file (at + length text) ≡ 0

-- the first of these symbols that has this name
pub record IsNamed (file name : List ℕ) (symbols : List Symbol) (symbol : Symbol) : Type 0 where
  pub at : ℕ
  pub there : slice_get symbols at ≡ Some symbol
  pub named : IsText file symbol.name name
  pub first : (k : ℕ) (other : Symbol) → k < at → slice_get symbols k ≡ Some other → ¬ IsText file other.name name

-- those that other files see
abbrev pub globals : List Symbol → List Symbol
globals symbols = filter (λ s. not s.is_local) symbols

-- the only one, or the only one that isn't static
abbrev pub IsOnly : List Symbol → Symbol → Type 0
IsOnly symbols symbol = (symbols ≡ symbol ∷ []) ⊎ (globals symbols ≡ symbol ∷ [])

-- the function that is asked for by this name, or without a name
abbrev pub IsChosen : List ℕ → Option (List ℕ) → List Symbol → Symbol → Type 0
IsChosen file (Some name) symbols symbol = IsNamed file name symbols symbol
IsChosen file None symbols symbol = IsOnly symbols symbol

-- the row of a section refers to a symbol from within this one
abbrev pub IsReference : List ℕ → Symbol → Section → ℕ → Type 0
IsReference file symbol section row =
    ((section.kind ≡ 9) ⊎ (section.kind ≡ 4)) × (section.info ≡ symbol.section) × (row < section.size / relocation_size section)
    × (symbol.value ≤ relocation_at file section row) × (relocation_at file section row < symbol.value + symbol.size)

-- the slot calls a function of the file: the opcode is that of a call, and the source register is 1 (RFC 9669 section 4.3.2)
abbrev pub IsCall : List ℕ → ℕ → Type 0
IsCall code slot = (8 * slot + 8 ≤ length code) × (slice_index code (8 * slot) ≡ 0x85) × (slice_index code (8 * slot + 1) / 16 ≡ 1)

-- the code of a function: its bytes, which lie in its section, and are complete by themselves
pub record IsCode (file : List ℕ) (symbol : Symbol) (code : List ℕ) : Type 0 where
  pub within : symbol.value + symbol.size ≤ (section_at file symbol.section).size
  pub bytes : code ≡ bytes_at symbol.value symbol.size (contents_of (section_at file symbol.section) file)
  pub size : length code ≡ symbol.size
  pub short : length code ≤ 8 * SLOTS
  pub apart : (index row : ℕ) → index < section_count file → ¬ IsReference file symbol (section_at file index) row
  pub complete : (slot : ℕ) → ¬ IsCall code slot

-- the code of the function that is asked for
pub record IsFunction (file : List ℕ) (name : Option (List ℕ)) (code : List ℕ) : Type 0 where
  pub object : IsObject file
  pub symbol : Symbol
  pub chosen : IsChosen file name (functions_of file) symbol
  pub own : IsCode file symbol code
