use Rattle.std.proofs.Common.{arith}
use Rattle.stores.proofs.StoreLemmas.{well}
use Rattle.stores.proofs.reader.store_of.Goals as goal

pub to_store-requires-clause-some : goal.to_store-requires-clause-some
to_store-requires-clause-some c = (well c.args.bytes.now c.in_ok-stored.stored (λ i. omega (arith, c.type_inv.bytes i)) c.in_ok-stored.ensures).0

pub to_store-requires-clause-few : goal.to_store-requires-clause-few
to_store-requires-clause-few c = (well c.args.bytes.now c.in_ok-stored.stored (λ i. omega (arith, c.type_inv.bytes i)) c.in_ok-stored.ensures).1

pub to_store-requires-clause-logs : goal.to_store-requires-clause-logs
to_store-requires-clause-logs c = (well c.args.bytes.now c.in_ok-stored.stored (λ i. omega (arith, c.type_inv.bytes i)) c.in_ok-stored.ensures).2

pub to_store-requires-clause-range : goal.to_store-requires-clause-range
to_store-requires-clause-range c = (well c.args.bytes.now c.in_ok-stored.stored (λ i. omega (arith, c.type_inv.bytes i)) c.in_ok-stored.ensures).3
