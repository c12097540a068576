-- The results of reading a part of a line.
use Rattle.std.specs.Prelude.{Result, Ok, Err}
use Rattle.assemble.specs.declared.fault.TextFault.{TextFault}
use Rattle.assemble.specs.declared.fault.TextFault.TheVariants.{Shape, Range}

-- Ok: the value has this shape and fits; Range: some value has this shape and doesn't fit; Shape: no value has it
abbrev pub Reads : {V : Type 0} → (V → Type 0) → (V → Type 0) → Result V TextFault → Type 0
Reads IsWritten Fits (Ok v) = IsWritten v × Fits v
Reads {V = V} IsWritten Fits (Err Range) = (v : V) × IsWritten v × (¬ Fits v)
Reads {V = V} IsWritten Fits (Err Shape) = (v : V) → ¬ IsWritten v

-- both values, or the lesser of the faults
abbrev pub both_of : {A B : Type 0} → Result A TextFault → Result B TextFault → Result (A × B) TextFault
both_of (Ok a) (Ok b) = Ok (a, b)
both_of (Ok a) (Err e) = Err e
both_of (Err Shape) y = Err Shape
both_of (Err Range) (Ok b) = Err Range
both_of (Err Range) (Err e) = Err e
