use Rattle.std.proofs.Common.{refl}
use Rattle.operations.specs.Bits.{word_of_bits}
use Rattle.x86.specs.declared.instruction.Instr.TheVariants as instr
use Rattle.x86.proofs.rows.forms_are_as_observed.Goals as goal

pub returns-clause-moves : goal.returns-clause-moves
returns-clause-moves c = refl

pub returns-clause-arithmetic : goal.returns-clause-arithmetic
unfolding word_of_bits
returns-clause-arithmetic c = refl

pub returns-clause-comparisons : goal.returns-clause-comparisons
unfolding word_of_bits
returns-clause-comparisons c = refl

pub returns-clause-shifts : goal.returns-clause-shifts
returns-clause-shifts c = refl

pub returns-clause-quotients : goal.returns-clause-quotients
returns-clause-quotients c = refl

pub returns-clause-signs : goal.returns-clause-signs
returns-clause-signs c = refl

pub returns-clause-memory : goal.returns-clause-memory
returns-clause-memory c = refl

pub returns-clause-jumps : goal.returns-clause-jumps
unfolding word_of_bits
returns-clause-jumps c = refl

pub returns-clause-short_jumps : goal.returns-clause-short_jumps
unfolding word_of_bits
returns-clause-short_jumps c = refl

pub returns-clause-program : goal.returns-clause-program
returns-clause-program c = (
  instr.Jump 6,
  (refl, (refl, (refl, (refl, (refl, tt))))),
  (instr.Jump 0xfffffff5, (refl, (refl, (refl, (refl, (refl, tt))))), (instr.MovImm 0 5, (refl, (refl, (refl, (refl, (refl, tt))))), (instr.Return, (refl, tt), (refl, refl)))),
)

pub returns-clause-short_program : goal.returns-clause-short_program
returns-clause-short_program c = (
  instr.JumpShort 6,
  (refl, (refl, tt)),
  (instr.JumpShort 0xf8, (refl, (refl, tt)), (instr.MovImm 0 6, (refl, (refl, (refl, (refl, (refl, tt))))), (instr.Return, (refl, tt), (refl, refl)))),
)
