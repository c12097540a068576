-- Where an instruction leads.
use Rattle.decode.specs.declared.insn.Insn.{Insn}
use Rattle.decode.specs.declared.insn.Insn.TheVariants.{Jump, JumpLong, JumpIf, Exit}
use Rattle.decode.specs.declared.flow.Flow.{Flow}
use Rattle.decode.specs.declared.flow.Flow.TheVariants.{Ends, Leaps, Forks, Falls}
use Rattle.decode.specs.Slots.{size_of}

-- distances count slots from the next slot (RFC 9669 section 4.3)
abbrev pub flow_of : Insn → Flow
flow_of (Jump offset) = Leaps offset
flow_of (JumpLong distance) = Leaps distance
flow_of (JumpIf condition width dst o offset) = Forks offset
flow_of Exit = Ends
flow_of i = Falls (size_of i)
