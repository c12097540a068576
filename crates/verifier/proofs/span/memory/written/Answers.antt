use Rattle.std.proofs.Common.{◌≡◌, sym, Some, subst, w16, to_z, of_z}
use Rattle.std.proofs.lemmas.Int.{to_z-of_z}
use Rattle.spans.specs.Access.{whole_word}
use Rattle.verifier.proofs.Spans.Words.{word_within}
use Rattle.verifier.proofs.span.memory.written.Goals as goal

pub with_cell-requires : goal.with_cell-requires
with_cell-requires c =
    let e : to_z w16 (of_z w16 c.args.offset) ≡ c.args.offset = to_z-of_z w16 c.args.offset c.ranges.offset in
    let at = subst (λ o. Some c.in-Some.cell ≡ whole_word c.args.reach o c.args.bytes) e c.in-Some.ensures in
    word_within c.args.reach c.args.offset c.args.bytes c.in-Some.cell c.requires.some c.requires.inside (sym at)
