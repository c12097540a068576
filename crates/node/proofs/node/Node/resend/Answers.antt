use Rattle.std.proofs.Common.{rules, ◌≡◌, ◌<◌, ◌+◌, ◌-◌, true, false, refl, sym, ap, ◌∙◌, subst, arith}
use Rattle.std.specs.Prelude.{is_none}
use Rattle.std.proofs.lemmas.Grind.{common_steps}
use Rattle.node.specs.Queue.{number_of}
use Rattle.node.specs.Node.{TheNode, log_at}
use Rattle.node.specs.Transmission.{delivers, resends}
use Rattle.node.proofs.Sendings.{OnlyPosts, only-then, resends-step}
use Rattle.node.proofs.Posts.{sent-all, sent-most}
use Rattle.node.proofs.node.Node.resend.Goals as goal
use Rattle.node.proofs.node.Node.resend.Goals.{then-is_none, else-is_none}

pub loop-before-preserved : goal.loop-before-preserved
loop-before-preserved c =
    let to = c.args.to in
    let s = c.loop-before.self in
    let at = c.loop-before.before in
    let last = c.released_span-first.result.1 in
    let left = c.loop-before.left in
    let i = c.loop-before.invariant in
    let inside : at < last = omega arith in
    let some : 0 < left = omega arith in
    elim c.if-is_none.branch [
      | then-is_none w ↦
          let none : is_none (number_of (at + 1) (log_at s.logs to)) ≡ true = first_of (search rules, grind (arith, common_steps)) in
          let new : c.if-is_none.self ≡ delivers to (at + 1) s = w.self-is ∙ w.deliver.ensures in
          let fewer : c.if-is_none.left ≡ left - 1 = omega (arith, w.left-is) in
          let P : TheNode → Type 0 = λ z. OnlyPosts c.args.self.now z in
          record {
            rest = ap (λ z. resends to (at + 1) (last - (at + 1)) z c.if-is_none.self) fewer ∙ ap (resends to (at + 1) (last - (at + 1)) (left - 1)) new ∙ sym (resends-step to at last left s inside some true none) ∙ i.rest;
            only = subst P (sym new) (only-then c.args.self.now s (delivers to (at + 1) s) i.only refl);
          }
      | else-is_none w ↦
          let none : is_none (number_of (at + 1) (log_at s.logs to)) ≡ false = first_of (search rules, grind (arith, common_steps)) in
          let same : c.if-is_none.self ≡ s = w.self-is in
          let as_many : c.if-is_none.left ≡ left = w.left-is in
          let P : TheNode → Type 0 = λ z. OnlyPosts c.args.self.now z in
          record {
            rest = ap (λ z. resends to (at + 1) (last - (at + 1)) z c.if-is_none.self) as_many ∙ ap (resends to (at + 1) (last - (at + 1)) left) same ∙ sym (resends-step to at last left s inside some false none) ∙ i.rest;
            only = subst P (sym same) i.only;
          }
    ]

pub returns-then-left-eq0 : goal.returns-then-left-eq0
returns-then-left-eq0 c = sent-most c.args.to c.loop-before.before (c.released_span-first.result.1 - c.loop-before.before) c.loop-before.left c.loop-before.self c.args.self.now c.if-left-eq0.true c.loop-before.invariant.rest

pub returns : goal.returns
returns c = sent-all c.args.to c.loop-before.before c.released_span-first.result.1 c.loop-before.left c.loop-before.self c.args.self.now c.loop-before-test.false c.loop-before.invariant.rest
