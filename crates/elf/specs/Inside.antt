-- What the functions of this crate say to one another.
use Rattle.std.specs.Prelude.{◌≡◌, ◌≤◌, ◌⊎◌, ◌/◌, ◌-◌, ◌^◌, ℕ, List, Some, slice_get}
use Rattle.elf.specs.Function.{IsCall, IsReference, IsText}
use Rattle.elf.specs.Object.{relocation_at, symbol_in}
use Rattle.elf.specs.Refusal.{AreBytesOutside, IsDamaged, IsNameless}
use Rattle.elf.specs.declared.fault.ObjectError.{ObjectError}
use Rattle.elf.specs.declared.fault.ObjectError.TheVariants.{Fault, Memory}
use Rattle.elf.specs.declared.fault.ObjectFault.{ObjectFault}
use Rattle.elf.specs.declared.fault.ObjectFault.TheVariants.{Damaged, Call, Reference}
use Rattle.elf.specs.declared.section.Section.{Section}
use Rattle.elf.specs.declared.symbol.Symbol.{Symbol}

-- memory ran out, or the file is damaged
abbrev pub IsUnread : List ℕ → ObjectError → Type 0
IsUnread file Memory = Unit {0}
IsUnread file (Fault fault) = (fault ≡ Damaged) × IsDamaged file

-- memory ran out, the file is damaged, or the name of a row's symbol begins at no place below 2^64
abbrev pub IsUnreadRow : List ℕ → ℕ → List ℕ → ObjectError → Type 0
IsUnreadRow file names row Memory = Unit {0}
IsUnreadRow file names row (Fault fault) = (fault ≡ Damaged) × (IsDamaged file ⊎ (2 ^ 64 ≤ (symbol_in names row).name))

-- memory ran out, the file is damaged, or this table of symbols is
abbrev pub IsUnreadTable : List ℕ → Section → ObjectError → Type 0
IsUnreadTable file table Memory = Unit {0}
IsUnreadTable file table (Fault fault) =
    (fault ≡ Damaged) × (IsDamaged file ⊎ ((table.kind ≡ 2) × (AreBytesOutside file table ⊎ IsNameless file table)))

-- no symbol of these has the name
abbrev pub IsUnnamed : List ℕ → List ℕ → List Symbol → Type 0
IsUnnamed file name symbols = (k : ℕ) (other : Symbol) → slice_get symbols k ≡ Some other → ¬ IsText file other.name name

-- the section doesn't lie in the file, or a row of it refers to a symbol from within this one
abbrev pub HasReference : List ℕ → Symbol → Section → ObjectFault → Type 0
HasReference file symbol section Damaged = AreBytesOutside file section
HasReference file symbol section (Reference slot is_call table number) =
    (row : ℕ) × IsReference file symbol section row × (slot ≡ (relocation_at file section row - symbol.value) / 8)
HasReference file symbol section fault = ⊥

-- a slot calls a function of the file
abbrev pub CallsAt : List ℕ → ObjectFault → Type 0
CallsAt code (Call slot) = IsCall code slot
CallsAt code fault = ⊥
