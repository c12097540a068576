use Rattle.std.proofs.Common.{refl, sym, ◌∙◌, arith}
use Rattle.std.proofs.lemmas.Bool.{false≢true}
use Rattle.decode.proofs.SlotLemmas.{length-slots_of}
use Rattle.block_order.proofs.writer.span_file.Goals as goal

pub breaks_v1-requires-clause-slots : goal.breaks_v1-requires-clause-slots
breaks_v1-requires-clause-slots c = omega (arith, c.requires.file.short, length-slots_of c.args.code.now)

pub breaks_v1-requires-clause-fits : goal.breaks_v1-requires-clause-fits
breaks_v1-requires-clause-fits c = c.requires.file.fits

pub returns-in-Ok-false-clause-written : goal.returns-in-Ok-false-clause-written
returns-in-Ok-false-clause-written c = record {
  written = c.args.code.now;
  file = c.requires.file;
  stands = (refl, λ back. false≢true (sym c.in-Ok-false.field-0-test ∙ c.in-Ok-false.ensures.1 back.0));
}

pub file_in-requires-clause-state : goal.file_in-requires-clause-state
file_in-requires-clause-state c = c.requires.state

pub file_in-requires-clause-file : goal.file_in-requires-clause-file
file_in-requires-clause-file c = c.requires.file

pub file_in-requires-clause-breaks : goal.file_in-requires-clause-breaks
file_in-requires-clause-breaks c = c.in-Ok-true.ensures.0 c.in-Ok-true.field-0-test

pub file_in-requires-clause-order : goal.file_in-requires-clause-order
file_in-requires-clause-order c = c.in-Ok.ensures

pub returns-in-Ok-clause-written : goal.returns-in-Ok-clause-written
returns-in-Ok-clause-written c = c.file_in.ensures.written

pub returns-in-Ok-clause-refused : goal.returns-in-Ok-clause-refused
returns-in-Ok-clause-refused c = c.file_in.ensures.refused

pub returns-in-Err-clause-refused : goal.returns-in-Err-clause-refused
returns-in-Err-clause-refused c = (c.requires.file.some, c.requires.file.short)

pub returns-in-Err-order_blocks-clause-refused : goal.returns-in-Err-order_blocks-clause-refused
returns-in-Err-order_blocks-clause-refused c = (c.requires.file.some, c.requires.file.short)
