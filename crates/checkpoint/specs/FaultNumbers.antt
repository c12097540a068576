-- The numbers of the faults of a checkpoint.
use Rattle.std.specs.Prelude.{ℕ}
use Rattle.checkpoint.specs.declared.fault.SavedFault.{SavedFault}
use Rattle.checkpoint.specs.declared.fault.SavedFault.TheVariants.{Magic, Length, Range}

-- the number of a fault, 1 to 3, in the order of docs/FORMATS.md
abbrev pub fault_number : SavedFault → ℕ
fault_number Magic = 1
fault_number Length = 2
fault_number Range = 3
