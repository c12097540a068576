use Rattle.std.proofs.Common.{arith}
use Rattle.packets.specs.Format.{IsLong}
use Rattle.node.proofs.Preservation.{by-place}
use Rattle.node.proofs.suspension.put_numbers.Goals as goal

pub returns-clause-long : goal.returns-clause-long
returns-clause-long c = by-place IsLong c.args.numbers.now 0 (λ d. omega (arith, c.type_inv.numbers d))
