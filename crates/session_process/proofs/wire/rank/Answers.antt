use Rattle.std.proofs.Common.{rules, arith}
use Rattle.std.specs.Prelude.{nat_lt}
use Rattle.std.proofs.lemmas.List.Sorted.{IsPartitionPoint-from_clause}
use Rattle.session_process.proofs.WireLemmas.{ascend-partitioned, is-below, is-above}
use Rattle.session_process.proofs.wire.rank.Goals as goal

pub returns-clause-below : goal.returns-clause-below
returns-clause-below c =
    let point = IsPartitionPoint-from_clause (λ k. nat_lt k c.args.key) c.args.keys.now c.partition_point.result c.partition_point.ensures.partitioned (ascend-partitioned c.args.key c.args.keys.now c.requires) (λ a r q k. search rules) in
    λ i h. is-below (point.0 i 0 (omega arith) h)

pub returns-clause-above : goal.returns-clause-above
returns-clause-above c =
    let point = IsPartitionPoint-from_clause (λ k. nat_lt k c.args.key) c.args.keys.now c.partition_point.result c.partition_point.ensures.partitioned (ascend-partitioned c.args.key c.args.keys.now c.requires) (λ a r q k. search rules) in
    λ i h m. is-above (point.1 i 0 h m)
