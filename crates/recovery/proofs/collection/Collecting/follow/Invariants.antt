use Rattle.std.proofs.Common.{◌≡◌, ◌≤◌, ◌+◌, ℕ, List, ◌++◌, length, map}
use Rattle.std.specs.Prelude.{slice_index_or}
use Rattle.world.specs.declared.message.Message.{Message}
use Rattle.world.specs.History.{count_of}
use Rattle.node.specs.declared.job.OpenJob.{OpenJob}
use Rattle.node.specs.Node.{IsPeer}
use Rattle.node.specs.Stands.{Each, job_of}
use Rattle.recovery.specs.Plan.{IsCovered, Follows, told_under}
use Rattle.recovery.proofs.collection.Collecting.follow.Given as goal

abbrev pub invariant-loop-behind : goal.invariant-loop-behind
invariant-loop-behind l = record {
  follows : (h : List Message) → IsCovered l.self.own.base l.self.own.count l.self.own.covered h → Follows (told_under l.self.told l.self.own.count) h (map job_of l.plan.items);
  counts : (h : List Message) → IsCovered l.self.own.base l.self.own.count l.self.own.covered h → (q : ℕ) → q ≤ l.self.own.count → slice_index_or l.counts.items q 0 ≡ count_of q (h ++ map job_of l.plan.items);
  many : length l.plan.items ≡ l.behind;
  senders : Each (λ (j : OpenJob). IsPeer l.self.own.me l.self.own.count j.sender) l.plan.items;
  wide : length l.counts.items ≡ l.self.own.count + 1;
  low : (q : ℕ) → slice_index_or l.counts.items q 0 ≤ l.base + l.behind;
}
