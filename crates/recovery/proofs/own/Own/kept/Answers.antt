use Rattle.std.proofs.Common.{rules, ◌≡◌, ℕ, ◌+◌, suc, List, Bool, false, map, replicate, ap, ◌∙◌, subst, arith}
use Rattle.std.specs.Prelude.{Some, slice_get}
use Rattle.std.proofs.lemmas.Grind.{common_steps}
use Rattle.std.proofs.lemmas.List.{length-set, length-replicate, length-map}
use Rattle.packets.specs.declared.kept.KeptLog.{KeptLog}
use Rattle.node.specs.Queue.{no_queue}
use Rattle.recovery.specs.Own.{with_own, queue_of}
use Rattle.recovery.proofs.Preservation.{can-come, log-room, own-long, counts-low, from-own}
use Rattle.recovery.proofs.own.Own.kept.Goals as goal

pub queues-requires-clause-room : goal.queues-requires-clause-room
queues-requires-clause-room c i l e =
    let P : List KeptLog → Type 0 = λ xs. slice_get xs i ≡ Some l in
    log-room c.args.kept.now i l c.requires.kept (subst P c.as_slice-3.ensures e)

pub invariant_of-result : goal.invariant_of-result
invariant_of-result c =
    let k = c.args.kept.now in
    let t = can-come k c.requires.kept in
    let covered : c.in_ok-covered.covered.items ≡ with_own 0 k.me k.counts = first_of (search rules, grind (arith, common_steps)) in
    let logs : c.in_ok-logs.logs.items ≡ with_own no_queue k.me (map queue_of k.logs) = first_of (search rules, grind (arith, common_steps)) in
    let heard : c.resize.new.self.items ≡ replicate (k.count + 1) 0 = first_of (search rules, grind (arith, common_steps)) in
    let lost : c.resize-2.new.self.items ≡ replicate (k.count + 1) false = first_of (search rules, grind (arith, common_steps)) in
    rw (covered, logs, heard, lost) (record {
      allowed = c.requires.limits;
      inside = t.some;
      within = t.own;
      few = t.few;
      wide = own-long 0 k.me k.counts (omega (arith, t.own, t.counts_are)) ∙ ap suc t.counts_are;
      heard_wide = length-set (replicate (k.count + 1) 0) 0 1 ∙ length-replicate {A = ℕ} (k.count + 1) 0 ∙ (let e : k.count + 1 ≡ suc k.count = omega arith in e);
      lost_wide = length-replicate {A = Bool} (k.count + 1) false ∙ (let e : k.count + 1 ≡ suc k.count = omega arith in e);
      logs_wide = own-long no_queue k.me (map queue_of k.logs) (omega (arith, t.own, t.logs_are, length-map k.logs queue_of)) ∙ ap suc (length-map k.logs queue_of ∙ t.logs_are);
      counts = λ q. counts-low k q c.requires.kept;
      young = t.young;
      alive = c.requires.life;
      covers = from-own k c.requires.kept;
    })
