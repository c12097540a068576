use Rattle.std.proofs.Common.{◌≡◌, sym, ◌∙◌, subst, arith, Some, None}
use Rattle.std.specs.Prelude.{slice_set}
use Rattle.regtypes.specs.declared.frame.Frame.{Frame}
use Rattle.regtypes.specs.Frame.{Leq}
use Rattle.regtypes.specs.Typing.{frame_at}
use Rattle.verifier.specs.Inside.Pass.{Merged}
use Rattle.verifier.proofs.LeastTypings.{merged_set, frame_is}
use Rattle.regtypes.proofs.Monotone.{Leq-refl}
use Rattle.verifier.proofs.judgement.merge.Goals as goal
use Rattle.verifier.proofs.judgement.merge.Goals.{in-Some, in-None}

pub returns : goal.returns
returns c =
    let t = c.args.table.now in
    let f = c.args.frame.now in
    elim c.match-table-to.branch [
      | in-Some w ↦ (
          let at : frame_at t c.args.to ≡ Some w.in-Some.had = frame_is t c.args.to ∙ w.in-Some.is in
          let keeps = λ (g : Frame) (e : frame_at t c.args.to ≡ Some g). let q : w.in-Some.had ≡ g = cc in subst (λ (x : Frame). Leq x w.join.result) q w.join.ensures.first in
          subst (λ x. Merged t c.args.to f (slice_set t c.args.to x)) (sym w.table-is) (merged_set t c.args.to f w.join.result c.requires.within (omega arith) (let l = w.join.ensures.second.low in omega (arith, l, c.requires.short)) w.join.ensures.second keeps (λ k a b. w.join.ensures.least k (b w.in-Some.had at) a)))
      | in-None w ↦ (
          let at : frame_at t c.args.to ≡ None = frame_is t c.args.to ∙ w.in-None.is in
          let keeps = λ (g : Frame) (e : frame_at t c.args.to ≡ Some g). let q : Leq g f = cc in q in
          subst (λ x. Merged t c.args.to f (slice_set t c.args.to x)) (sym w.table-is) (merged_set t c.args.to f c.args.frame.now c.requires.within c.requires.whole c.requires.short (Leq-refl f) keeps (λ k a b. a)))
    ]
