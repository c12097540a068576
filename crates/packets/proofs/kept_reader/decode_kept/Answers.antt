use Rattle.std.proofs.Common.{arith}
use Rattle.packets.proofs.KeptLemmas.{is_found, is_refused, is_read}
use Rattle.packets.proofs.kept_reader.decode_kept.Goals as goal

pub returns-clause-found : goal.returns-clause-found
returns-clause-found c = is_found c.args.bytes.now c.kept_of.result (λ i. omega (arith, c.type_inv.bytes i)) c.kept_of.ensures

pub returns-clause-only : goal.returns-clause-only
returns-clause-only c = λ p is. is_read c.args.bytes.now c.kept_of.result p c.kept_of.ensures is

pub returns-clause-refused : goal.returns-clause-refused
returns-clause-refused c = is_refused c.args.bytes.now c.kept_of.result (λ i. omega (arith, c.type_inv.bytes i)) c.kept_of.ensures
