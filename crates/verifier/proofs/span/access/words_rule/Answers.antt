use Rattle.std.proofs.Common.{sym, ap, ◌∙◌, w16, to_z, of_z}
use Rattle.spans.specs.Frame.{kind_at}
use Rattle.verifier.specs.Span.Rules.{lesser}
use Rattle.verifier.proofs.Spans.Erasure.{words_none, words_one, words_skip}
use Rattle.verifier.proofs.span.access.words_rule.Goals as goal
use Rattle.verifier.proofs.span.access.words_rule.Goals.{then-is_reached, else-is_reached}

pub loop-word-init : goal.loop-word-init
loop-word-init c = words_none (kind_at c.args.frame.now.kinds) c.args.reach (to_z w16 (of_z w16 c.args.offset)) c.args.bytes

pub loop-word-preserved : goal.loop-word-preserved
loop-word-preserved c =
    let f = kind_at c.args.frame.now.kinds in
    let z = to_z w16 (of_z w16 c.args.offset) in
    let i = c.loop-word.word in
    let h = c.loop-word.invariant in
    elim c.if-is_reached.branch [
      | then-is_reached w ↦ words_one f c.args.reach z c.args.bytes i c.loop-word.rule c.if-is_reached.rule (sym c.is_reached.ensures ∙ w.if-is_reached.true) h (w.rule-is ∙ w.lesser-rule.ensures ∙ ap (lesser c.loop-word.rule) w.number_rule.ensures)
      | else-is_reached w ↦ words_skip f c.args.reach z c.args.bytes i c.if-is_reached.rule (sym c.is_reached.ensures ∙ w.if-is_reached.false) (w.rule-is ∙ h)
    ]
