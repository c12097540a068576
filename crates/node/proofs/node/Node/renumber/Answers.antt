use Rattle.std.proofs.Common.{◌≡◌, ◌<◌, ◌+◌, ◌-◌, length, true, false, refl, sym, ap, ◌∙◌, subst, arith}
use Rattle.node.specs.Node.{TheNode, tells, covered_of}
use Rattle.node.specs.Transmission.{renumbers, is_told_at}
use Rattle.node.proofs.Sendings.{OnlyPosts, only-then, renumbers-step}
use Rattle.rsn.specs.Receipts.{numbers_of}
use Rattle.node.proofs.Posts.{posts-peer, posts-covered, posts-known, beyond-covered, told-place, told-all, told-most}
use Rattle.node.proofs.node.Node.renumber.Goals as goal
use Rattle.node.proofs.node.Node.renumber.Goals.{then-not-is_told_at, else-not-is_told_at}

pub loop-place-preserved : goal.loop-place-preserved
loop-place-preserved c =
    let to = c.args.to in
    let s = c.loop-place.self in
    let at = c.loop-place.place in
    let last = c.told_span-first.result.1 in
    let left = c.loop-place.left in
    let i = c.loop-place.invariant in
    let inside : at < last = omega arith in
    let some : 0 < left = omega arith in
    elim c.if-not-is_told_at.branch [
      | then-not-is_told_at w ↦
          let told : is_told_at to at s ≡ false = sym c.is_told_at.ensures ∙ w.if-not-is_told_at.true in
          let covered : covered_of to s ≡ covered_of to c.args.self.now = ap (covered_of to) i.only in
          let ssn : c.told_span-first.result.2 + at + 1 ≡ covered_of to s + at + 1 = omega (arith, covered, c.told_span-first.ensures.covered) in
          let new : c.if-not-is_told_at.self ≡ tells to (covered_of to s + at + 1) s = w.self-is ∙ w.tell.ensures ∙ ap (λ z. tells to z s) ssn in
          let fewer : c.if-not-is_told_at.left ≡ left - 1 = omega (arith, w.left-is) in
          let P : TheNode → Type 0 = λ z. OnlyPosts c.args.self.now z in
          record {
            rest = ap (λ z. renumbers to (at + 1) (last - (at + 1)) z c.if-not-is_told_at.self) fewer ∙ ap (renumbers to (at + 1) (last - (at + 1)) (left - 1)) new ∙ sym (renumbers-step to at last left s inside some false told) ∙ i.rest;
            only = subst P (sym new) (only-then c.args.self.now s (tells to (covered_of to s + at + 1) s) i.only refl);
          }
      | else-not-is_told_at w ↦
          let told : is_told_at to at s ≡ true = sym c.is_told_at.ensures ∙ w.if-not-is_told_at.false in
          let same : c.if-not-is_told_at.self ≡ s = w.self-is in
          let as_many : c.if-not-is_told_at.left ≡ left = w.left-is in
          let P : TheNode → Type 0 = λ z. OnlyPosts c.args.self.now z in
          record {
            rest = ap (λ z. renumbers to (at + 1) (last - (at + 1)) z c.if-not-is_told_at.self) as_many ∙ ap (renumbers to (at + 1) (last - (at + 1)) left) same ∙ sym (renumbers-step to at last left s inside some true told) ∙ i.rest;
            only = subst P (sym same) i.only;
          }
    ]

pub is_told_at-requires-clause-to : goal.is_told_at-requires-clause-to
is_told_at-requires-clause-to c = (posts-peer c.args.self.now c.loop-place.self c.args.to c.loop-place.invariant.only c.requires).0

pub is_told_at-requires-clause-known : goal.is_told_at-requires-clause-known
is_told_at-requires-clause-known c = posts-known c.args.self.now c.loop-place.self c.args.to c.loop-place.place c.told_span-first.result.1 c.loop-place.invariant.only c.loop-place-test.true c.told_span-first.ensures.last

pub tell-requires-clause-to : goal.tell-requires-clause-to
tell-requires-clause-to c = posts-peer c.args.self.now c.loop-place.self c.args.to c.loop-place.invariant.only c.requires

pub tell-requires-clause-above : goal.tell-requires-clause-above
tell-requires-clause-above c =
    beyond-covered c.loop-place.place c.told_span-first.result.2 (covered_of c.args.to c.loop-place.self) (posts-covered c.args.self.now c.loop-place.self c.args.to c.told_span-first.result.2 c.loop-place.invariant.only c.told_span-first.ensures.covered)

pub tell-requires-clause-known : goal.tell-requires-clause-known
tell-requires-clause-known c =
    let s = c.loop-place.self in
    let to = c.args.to in
    told-place c.told_span-first.result.2 (covered_of to s) c.loop-place.place (length (numbers_of to s.receipts)) (posts-covered c.args.self.now s to c.told_span-first.result.2 c.loop-place.invariant.only c.told_span-first.ensures.covered)
    (posts-known c.args.self.now s to c.loop-place.place c.told_span-first.result.1 c.loop-place.invariant.only c.loop-place-test.true c.told_span-first.ensures.last)

pub returns-then-left-eq0 : goal.returns-then-left-eq0
returns-then-left-eq0 c = told-most c.args.to c.loop-place.place (c.told_span-first.result.1 - c.loop-place.place) c.loop-place.left c.loop-place.self c.args.self.now c.if-left-eq0.true c.loop-place.invariant.rest

pub returns : goal.returns
returns c = told-all c.args.to c.loop-place.place c.told_span-first.result.1 c.loop-place.left c.loop-place.self c.args.self.now c.loop-place-test.false c.loop-place.invariant.rest
