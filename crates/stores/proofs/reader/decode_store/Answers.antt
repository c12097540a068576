use Rattle.std.proofs.Common.{arith}
use Rattle.stores.proofs.StoreLemmas.{is_found, is_refused, is_read}
use Rattle.stores.proofs.reader.decode_store.Goals as goal

pub returns-clause-found : goal.returns-clause-found
returns-clause-found c = is_found c.args.bytes.now c.store_of.result (λ i. omega (arith, c.type_inv.bytes i)) c.store_of.ensures

pub returns-clause-only : goal.returns-clause-only
returns-clause-only c = λ s is. is_read c.args.bytes.now c.store_of.result s c.store_of.ensures is

pub returns-clause-refused : goal.returns-clause-refused
returns-clause-refused c = is_refused c.args.bytes.now c.store_of.result (λ i. omega (arith, c.type_inv.bytes i)) c.store_of.ensures
