use Rattle.std.proofs.Common.{◌+◌, ◌<◌, ℕ}
use Rattle.std.specs.Prelude.{slice_index}
use Rattle.decode.specs.Slots.{insn_at}
use Rattle.block_order.specs.Order.{Leads}
use Rattle.block_order.proofs.walk.is_walk.Given as goal

abbrev pub invariant-loop-k : goal.invariant-loop-k
invariant-loop-k l = (j : ℕ) → j + 1 < l.k → Leads (insn_at l.slots) (slice_index l.walk j) (slice_index l.walk (j + 1))
