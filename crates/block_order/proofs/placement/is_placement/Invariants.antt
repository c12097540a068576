use Rattle.std.proofs.Common.{◌≡◌, ◌<◌, ℕ, Some}
use Rattle.decode.specs.Slots.{insn_at}
use Rattle.block_order.specs.Placement.{Stands, place_at}
use Rattle.block_order.proofs.placement.is_placement.Given as goal

abbrev pub invariant-loop-slot : goal.invariant-loop-slot
invariant-loop-slot l = (k : ℕ) → k < l.slot → (m : ℕ) → place_at l.places k ≡ Some m → Stands (insn_at l.code) (insn_at l.other) (place_at l.places) k m
