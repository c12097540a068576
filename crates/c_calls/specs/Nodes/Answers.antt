-- The answers of the exports (docs/EMBEDDING.md, "A node").
use Rattle.std.specs.Prelude.{◌≡◌, ◌⊎◌, ℕ, Option, Some, None, Result, MatchResult}
use Rattle.process.specs.Process.{TheProcess}
use Rattle.c_calls.specs.declared.nodes.fault.NodeFault.{NodeFault}
use Rattle.c_calls.specs.declared.nodes.fault.NodeFault.TheVariants.{Memory, Handle, Image, Room, Absent, Bytes, Unready, Limit, Left}

-- the code of a fault, 15 to 24
abbrev pub fault_number : NodeFault → ℕ
fault_number Memory = 15
fault_number Handle = 16
fault_number Image = 17
fault_number Room = 19
fault_number Absent = 20
fault_number (Bytes f) = 21
fault_number Unready = 22
fault_number Limit = 23
fault_number Left = 24

-- the meaning of a code, with what the handle held before and holds now: 0 means that this was done, any other number says why it was not
abbrev pub Answers : ℕ → Option TheProcess → Option TheProcess → (Option TheProcess → Option TheProcess → Type 0)
    → (Option TheProcess → Option TheProcess → NodeFault → Type 0) → Type 0
Answers code old new done refused = ((code ≡ 0) × done old new) ⊎ ((why : NodeFault) × (code ≡ fault_number why) × refused old new why)

-- the same of a result
abbrev pub Results : Result (Unit {0}) NodeFault → Option TheProcess → Option TheProcess
    → (Option TheProcess → Option TheProcess → Type 0) → (Option TheProcess → Option TheProcess → NodeFault → Type 0)
    → Type 0
Results result old new done refused = MatchResult result (λ u. done old new) (refused old new)

-- writes the number of the fault if bytes are refused, and nothing otherwise
abbrev pub written : NodeFault → ℕ → ℕ
written (Bytes f) was = f
written other was = was

-- the meaning of a code when bytes are handed in, with the number of their fault before and after
abbrev pub AnswersOfBytes : ℕ → Option TheProcess → Option TheProcess → ℕ → ℕ → (Option TheProcess → Option TheProcess → Type 0)
    → (Option TheProcess → Option TheProcess → NodeFault → Type 0)
    → Type 0
AnswersOfBytes code old new was fault done refused =
    Answers code old new (λ o n. done o n × (fault ≡ was)) (λ o n why. refused o n why × (fault ≡ written why was))

-- the handle is open, and this holds of its process before and after
abbrev pub OfBoth : Option TheProcess → Option TheProcess → (TheProcess → TheProcess → Type 0) → Type 0
OfBoth old new holds = (p p' : TheProcess) × (old ≡ Some p) × (new ≡ Some p') × holds p p'

-- the handle is open and unchanged, and this holds of its process
abbrev pub OfSame : Option TheProcess → Option TheProcess → (TheProcess → Type 0) → Type 0
OfSame old new holds = (p : TheProcess) × (old ≡ Some p) × (new ≡ old) × holds p

-- the handle is closed, and stays so
abbrev pub StaysClosed : Option TheProcess → Option TheProcess → Type 0
StaysClosed old new = (old ≡ None) × (new ≡ None)
