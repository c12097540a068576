use Rattle.std.proofs.Common.{◌≡◌, ◌+◌, ◌++◌, length, reverse, Some, sym, ap, ◌∙◌, subst, arith, length-append}
use Rattle.std.specs.Prelude.{slice_get, slice_set}
use Rattle.std.proofs.lemmas.List.{reverse-append, reverse-reverse, length-reverse}
use Rattle.std.proofs.lemmas.Option.{slice_get-get_or}
use Rattle.native.specs.declared.task.SlotTask.TheVariants as task
use Rattle.native.specs.Laid.{IsPiece}
use Rattle.native.specs.Pending.{pending_in}
use Rattle.native.specs.Saved.{saved_for}
use Rattle.native.specs.SlotTasks.{task_at}
use Rattle.native.specs.Written.{IsLaidFrom}
use Rattle.native.proofs.Native.{laid_next, stacks_next}
use Rattle.native.proofs.image_code.lay_slot.Goals as goal

pub returns : goal.returns
returns c =
    let a = c.args in
    let tasks = a.tasks.now in
    let o = a.opening in
    let slot = a.slot in
    let tails = a.tails.now.items in
    let old = a.back.now.items in
    let piece = c.write_piece.new.piece.items in
    let u = task_at tasks slot in
    let found : slice_get tasks slot ≡ Some u = slice_get-get_or tasks slot task.Dead c.requires.within in
    let p1 : IsPiece tasks a.pending.now tails a.saved slot u piece = subst (λ ts. IsPiece tasks a.pending.now ts a.saved slot u piece) c.as_slice.ensures.value c.in_ok-write_piece.ensures in
    let p2 : IsPiece tasks (pending_in tasks) tails a.saved slot u piece = subst (λ v. IsPiece tasks v tails a.saved slot u piece) c.requires.pending p1 in
    let p : IsPiece tasks (pending_in tasks) tails (saved_for o tasks) slot u piece = subst (λ v. IsPiece tasks (pending_in tasks) tails v slot u piece) c.requires.saved p2 in
    let e : c.extend_from_slice.new.self.items ≡ old ++ reverse piece = c.in_ok-extend_from_slice.ensures.items ∙ ap (λ x. old ++ x) (c.as_slice-2.ensures.value ∙ c.reverse.ensures.items) in
    let r : reverse c.extend_from_slice.new.self.items ≡ piece ++ reverse old = ap reverse e ∙ reverse-append old (reverse piece) ∙ ap (λ x. x ++ reverse old) (reverse-reverse piece) in
    let n1 = c.len.ensures ∙ c.extend_from_slice.new.self.ok.0 ∙ ap length e ∙ length-append old (reverse piece) in
    let n : c.len.result ≡ length piece + length (reverse old) = omega (arith, n1, length-reverse old, length-reverse piece) in
    let laid = c.requires.laid in
    let done : IsLaidFrom o tasks (slice_set tails slot (length piece + length (reverse old))) (piece ++ reverse old) slot = record {
      laid = laid_next tasks (pending_in tasks) tails (saved_for o tasks) (reverse old) piece slot u found laid.laid p;
      stacks = stacks_next o tasks tails (reverse old) piece slot c.requires.within p laid.stacks;
    } in
    subst (λ cs. IsLaidFrom o tasks (slice_set tails slot c.len.result) cs slot) (sym r)
    (subst (λ m. IsLaidFrom o tasks (slice_set tails slot m) (piece ++ reverse old) slot) (sym n) done)
