use Rattle.native.specs.Openings as specs
use Rattle.native.proofs.Emitted.{where_ok, six_then}
use Rattle.native.proofs.saved.write_saving.Goals as goal

pub returns : goal.returns
returns c = where_ok c.push_if-6.result c.push_if-6.ensures (six_then c.args.code.now.items c.push_if.new.code.items c.push_if-2.new.code.items c.push_if-3.new.code.items c.push_if-4.new.code.items c.push_if-5.new.code.items c.push_if-6.new.code.items (specs.push_if c.args.saved.rbx 3) (specs.push_if c.args.saved.rbp 5) (specs.push_if c.args.saved.r12 12) (specs.push_if c.args.saved.r13 13) (specs.push_if c.args.saved.r14 14) (specs.push_if c.args.saved.r15 15) c.in_ok-push_if.ensures c.in_ok-push_if-2.ensures c.in_ok-push_if-3.ensures c.in_ok-push_if-4.ensures c.in_ok-push_if-5.ensures)
