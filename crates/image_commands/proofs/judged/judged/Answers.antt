use Rattle.std.proofs.Common.{inl, inr, refl, sym, arith, length-take-le}
use Rattle.image_commands.proofs.judged.judged.Goals as goal
use Rattle.image_commands.specs.declared.judged.TheConstants.{TEXT_LIMIT}

pub slice_bounds-whole_lines-end : goal.slice_bounds-whole_lines-end
slice_bounds-whole_lines-end c = sym (length-take-le TEXT_LIMIT c.args.source.now (omega arith))

pub returns-then-source-le-TEXT_LIMIT : goal.returns-then-source-le-TEXT_LIMIT
returns-then-source-le-TEXT_LIMIT c = inl (omega arith, refl)

pub returns-else-source-le-TEXT_LIMIT : goal.returns-else-source-le-TEXT_LIMIT
returns-else-source-le-TEXT_LIMIT c = inr (omega arith, c.whole_lines.ensures)
