use Rattle.std.proofs.Common.{ap, ◌∙◌, w16, to_z, of_z}
use Rattle.std.specs.Option.{option_or}
use Rattle.spans.specs.Frame.{kind_at}
use Rattle.listing.proofs.Words.{none_yet, one_more}
use Rattle.listing.proofs.flaw.first_word.Goals as goal

pub loop-word-init : goal.loop-word-init
loop-word-init c = none_yet c.args.flaw (kind_at c.args.frame.now.kinds) c.args.reach (to_z w16 (of_z w16 c.args.offset)) c.args.bytes

pub loop-word-preserved : goal.loop-word-preserved
loop-word-preserved c =
    one_more c.args.flaw (kind_at c.args.frame.now.kinds) c.args.reach (to_z w16 (of_z w16 c.args.offset)) c.args.bytes c.loop-word.word c.loop-word.found _ c.loop-word.invariant (c.or-found.ensures ∙ ap (option_or c.loop-word.found) c.flawed_cell.ensures)
