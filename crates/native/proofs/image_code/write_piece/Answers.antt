use Rattle.std.proofs.Common.{◌≡◌, ◌≤◌, ◌++◌, true, false, length, sym, ap, ◌∙◌, subst}
use Rattle.std.proofs.lemmas.Bool.{true≢false}
use Rattle.native.specs.Code.{codes}
use Rattle.native.specs.Fusion.{fused, is_covered}
use Rattle.native.specs.SlotTasks.{task_at}
use Rattle.native.specs.Tasks.{is_eligible}
use Rattle.native.proofs.Lengths.{slot_short}
use Rattle.native.proofs.image_code.write_piece.Goals as goal

pub returns : goal.returns
returns c =
    let a = c.args in
    let tasks = a.tasks.now in
    let x = c.in_ok-emit.ensures in
    let bytes : c.emit.new.code.items ≡ codes x.0 = x.2 ∙ ap (λ l. l ++ codes x.0) c.requires.empty in
    let own : is_covered tasks a.slot ≡ false = sym c.is_covered.ensures ∙ c.if-is_covered.false in
    let fit : is_eligible a.slot (task_at tasks a.slot) ≡ true = ap (is_eligible a.slot) (sym c.task_at-task.ensures) ∙ sym c.is_eligible.ensures ∙ c.if-not-is_eligible.false in
    record {
      short = subst (λ l. length l ≤ 1000) (sym bytes) (slot_short (fused tasks a.slot) tasks a.pending.now a.tails.now a.saved a.slot (task_at tasks a.slot) x.0 x.1);
      serves = λ mine eligible. (x.0, x.1, bytes);
      covered = λ yes. absurd (true≢false (sym yes ∙ own));
      none = λ no. absurd (true≢false (sym fit ∙ no));
    }
