use Rattle.native.specs.Openings as specs
use Rattle.native.proofs.Emitted.{where_ok, six_then}
use Rattle.native.proofs.saved.write_restoring.Goals as goal

pub returns : goal.returns
returns c = where_ok c.pop_if-6.result c.pop_if-6.ensures (six_then c.args.code.now.items c.pop_if.new.code.items c.pop_if-2.new.code.items c.pop_if-3.new.code.items c.pop_if-4.new.code.items c.pop_if-5.new.code.items c.pop_if-6.new.code.items (specs.pop_if c.args.saved.r15 15) (specs.pop_if c.args.saved.r14 14) (specs.pop_if c.args.saved.r13 13) (specs.pop_if c.args.saved.r12 12) (specs.pop_if c.args.saved.rbp 5) (specs.pop_if c.args.saved.rbx 3) c.in_ok-pop_if.ensures c.in_ok-pop_if-2.ensures c.in_ok-pop_if-3.ensures c.in_ok-pop_if-4.ensures c.in_ok-pop_if-5.ensures)
