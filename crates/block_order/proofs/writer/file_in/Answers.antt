use Rattle.std.proofs.Common.{subst}
use Rattle.block_order.specs.Order.{IsMoved, IsForward, IsOrder}
use Rattle.block_order.specs.declared.order.BlockOrder.{BlockOrder}
use Rattle.block_order.proofs.writer.file_in.Goals as goal

-- what the order that was found is known to be
moved : (c : goal.After-placed-1) → ¬ IsForward c.args.code.now × IsMoved c.args.code.now c.in-Moved.placed
moved c = subst (λ (o : BlockOrder). IsOrder c.args.code.now o) c.in-Moved.is c.requires.order

pub moved_file-requires-clause-state : goal.moved_file-requires-clause-state
moved_file-requires-clause-state c = c.requires.state

pub moved_file-requires-clause-some : goal.moved_file-requires-clause-some
moved_file-requires-clause-some c = c.requires.file.some

pub moved_file-requires-clause-short : goal.moved_file-requires-clause-short
moved_file-requires-clause-short c = c.requires.file.short

pub moved_file-requires-clause-breaks : goal.moved_file-requires-clause-breaks
moved_file-requires-clause-breaks c = c.requires.breaks

pub moved_file-requires-clause-back : goal.moved_file-requires-clause-back
moved_file-requires-clause-back c = (moved c).0

pub moved_file-requires-clause-moved : goal.moved_file-requires-clause-moved
moved_file-requires-clause-moved c = (moved c).1

pub returns-in-Moved-clause-written : goal.returns-in-Moved-clause-written
returns-in-Moved-clause-written c = c.moved_file.ensures.written

pub returns-in-Moved-clause-refused : goal.returns-in-Moved-clause-refused
returns-in-Moved-clause-refused c = c.moved_file.ensures.refused
