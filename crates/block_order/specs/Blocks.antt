-- What is said of the blocks of an image's code (docs/FORMATS.md, "What is said of blocks").
use Rattle.std.specs.Prelude.{ℕ, List, [], ◌++◌, codes, decimal}
use Rattle.block_order.specs.declared.blocks.Blocks.{Blocks}
use Rattle.block_order.specs.declared.blocks.Blocks.TheVariants.{Kept, Moved, Loops, Unknown}

-- a line, or nothing for blocks that are as given
abbrev pub blocks_text : Blocks → List ℕ
blocks_text Kept = []
blocks_text Moved = codes "the blocks stand in another order, in which each jump goes forward; slots are counted in it\n"
blocks_text (Loops from to) = codes "slot " ++ (decimal from ++ (codes " jumps back to slot " ++ (decimal to
    ++ codes " in a loop, which is refused by V1: give it a known length, and put unrolled above it\n")))
blocks_text Unknown = codes "V1 refuses the code, and no order of its blocks was found in which each jump goes forward\n"
