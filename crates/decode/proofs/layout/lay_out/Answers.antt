use Rattle.std.proofs.Common.{◌≡◌, List, Option, Some, None, ◌++◌, ◌∷◌, [], ap, ◌∙◌, append_assoc}
use Rattle.std.proofs.lemmas.List.{take_all}
use Rattle.decode.specs.declared.insn.Insn.{Insn}
use Rattle.decode.specs.Slots.{slots_of}
use Rattle.decode.proofs.Layouts.{laid_more, laid_wide, laid_narrow, follows_taken}
use Rattle.decode.proofs.layout.lay_out.Goals as goal
use Rattle.decode.proofs.layout.lay_out.Goals.{then-is_wide+in_ok-push-2, else-is_wide}

pub loop-insn-preserved : goal.loop-insn-preserved
loop-insn-preserved c =
    let code = c.args.code.now in
    let slots = c.loop-insn.slots.items in
    let n = c.loop-insn.insn-index in
    let i = c.insn-item.result in
    elim c.if-is_wide.branch [
      | then-is_wide+in_ok-push-2 w ↦ (
          let e : c.if-is_wide.slots.items ≡ (slots ++ Some i ∷ []) ++ None ∷ [] = cc (w.in_ok-push-2.ensures.items, c.in_ok-push.ensures.items) in
          laid_more code slots c.if-is_wide.slots.items n i _ c.loop-insn-test.true c.insn-item.is c.loop-insn.invariant (e ∙ append_assoc slots (Some i ∷ []) (None ∷ []) ∙ ap (λ (b : List (Option Insn)). slots ++ b) (laid_wide i w.if-is_wide.ensures)))
      | else-is_wide w ↦ (
          let e : c.if-is_wide.slots.items ≡ slots ++ Some i ∷ [] = cc (c.in_ok-push.ensures.items) in
          laid_more code slots c.if-is_wide.slots.items n i _ c.loop-insn-test.true c.insn-item.is c.loop-insn.invariant (e ∙ ap (λ (b : List (Option Insn)). slots ++ b) (laid_narrow i w.if-is_wide.ensures)))
    ]

pub returns-clause-follows : goal.returns-clause-follows
returns-clause-follows c = follows_taken c.args.code.now c.loop-insn.slots.items c.loop-insn.insn-index c.loop-insn.invariant

pub returns-clause-slots : goal.returns-clause-slots
returns-clause-slots c = c.loop-insn.invariant ∙ ap slots_of (take_all c.loop-insn.insn-index c.args.code.now c.loop-insn-test.false)

pub loop-insn-init : goal.loop-insn-init
loop-insn-init c = c.new-slots.ensures.items
