use Rattle.std.proofs.Common.{◌≡◌, subst, sym}
use Rattle.std.specs.Fmt.{HasWritten}
use Rattle.block_order.specs.Blocks.{blocks_text}
use Rattle.block_order.specs.declared.blocks.Blocks.TheVariants.{Loops}
use Rattle.block_order.proofs.blocks.BlocksDisplay.fmt.Goals as goal

pub returns-in-Loops-clause-writes : goal.returns-in-Loops-clause-writes
returns-in-Loops-clause-writes g c = λ plain ok.
    let is : c.args.self.now ≡ Loops c.in-Loops.from c.in-Loops.to = c.in-Loops.is in
    let wrote : HasWritten {W = g.row.W.Denot} g.W.Write.write_str_gives c.args.f.now (blocks_text (Loops c.in-Loops.from c.in-Loops.to)) c.writeln.new.self =
    c.writeln.ensures.writes plain ok in
    subst (λ b. HasWritten {W = g.row.W.Denot} g.W.Write.write_str_gives c.args.f.now (blocks_text b) c.writeln.new.self) (sym is) wrote
