use Rattle.std.proofs.Common.{[], ◌∷◌}
use Rattle.native.specs.Quotient.{divisor_test}
use Rattle.native.proofs.Emitted.{where_ok, some_then}
use Rattle.native.proofs.quotient.write_divisor.Goals as goal

pub returns : goal.returns
returns c = where_ok c.write_divisor_test.result c.write_divisor_test.ensures (some_then c.args.code.now.items c.write_all.new.code.items c.write_divisor_test.new.code.items (c.args.first ∷ []) (divisor_test c.args.width 0 c.args.past) c.in_ok-write_all.ensures)
