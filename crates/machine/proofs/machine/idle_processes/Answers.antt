use Rattle.std.proofs.Common.{◌≡◌, ◌≤◌, ◌+◌, ◌++◌, ◌∷◌, [], suc, length, take, sym, ap, ◌∙◌, subst, arith, slice_index_or}
use Rattle.std.proofs.lemmas.List.{take_more}
use Rattle.limits.specs.declared.TheConstants.{STATE_BYTES}
use Rattle.session_process.specs.Process.{idle_process}
use Rattle.machine.specs.Openings.{AreIdle}
use Rattle.machine.proofs.Openings.{idle-push}
use Rattle.machine.proofs.machine.idle_processes.Goals as goal

pub loop-len-preserved : goal.loop-len-preserved
loop-len-preserved c =
    let xs = c.args.lengths.now in
    let k = c.loop-len.len-index in
    let ps = c.loop-len.processes.items in
    let prefix = take k xs in
    let len = slice_index_or xs k 0 in
    let me : c.len.result + 1 ≡ suc (length prefix) = omega (arith, c.len.ensures, c.loop-len.invariant.count) in
    let is : c.in_ok-new.field-0 ≡ idle_process (suc (length prefix)) (length xs) len = c.in_ok-new.ensures ∙ ap (λ j. idle_process j (length xs) len) me in
    let short : len ≤ STATE_BYTES = c.requires.short k 0 c.loop-len-test.true in
    let items = c.in_ok-push.ensures.items ∙ ap (λ x. ps ++ x ∷ []) is in
    subst (λ l. AreIdle (length xs) l c.push.new.self.items) (sym (take_more xs k 0 c.loop-len-test.true))
    (subst (AreIdle (length xs) (prefix ++ len ∷ [])) (sym items) (idle-push (length xs) prefix len ps short c.loop-len.invariant))
