-- The registers that the machine code of form 3 keeps for its caller.
use Rattle.std.specs.Prelude.{ℕ, List}
use Rattle.decode.specs.declared.insn.Insn.{Insn}
use Rattle.helpers.specs.declared.effects.Who.{Who}
use Rattle.x86.specs.Machine.{State}
use Rattle.native.specs.Worked.{KeepsCallers}
use Rattle.native.specs.Correct.{IsReturned}
use Rattle.native.specs.SpanCorrect.{IsHandledIn}

-- after each return the registers that belong to the caller are unchanged since the call
abbrev pub ReturnsToC : Type 0
ReturnsToC =
    (code : List Insn) (who : Who) (m len : ℕ) (c last : State)
    → IsReturned who (IsHandledIn code who m len c.array last.array) c last → KeepsCallers c last
