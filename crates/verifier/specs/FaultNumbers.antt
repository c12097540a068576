-- The numbers of the faults of a header.
use Rattle.std.specs.Prelude.{ℕ}
use Rattle.verifier.specs.declared.fault.HeaderFault.{HeaderFault}
use Rattle.verifier.specs.declared.fault.HeaderFault.TheVariants.{TooShort, Magic, StateLength, SlotCount, FileLength}

-- the number N of a fault in `load refused N` (docs/FORMATS.md, "Image file `SBI1` or `SBI2`")
abbrev pub header_fault_number : HeaderFault → ℕ
header_fault_number TooShort = 1
header_fault_number Magic = 2
header_fault_number StateLength = 3
header_fault_number SlotCount = 4
header_fault_number FileLength = 5
