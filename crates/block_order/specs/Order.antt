-- The result for the order of blocks.
use Rattle.std.specs.Prelude.{◌≡◌, ◌⊎◌, ℕ, ◌+◌, ◌-◌, ◌<◌, ◌≤◌, pos, ◌+ℤ◌, ◌≤ℤ◌, List, length, slice_index, Some}
use Rattle.std.specs.List.{AllByRecursion}
use Rattle.limits.specs.declared.TheConstants.{SLOTS}
use Rattle.decode.specs.declared.insn.Insn.{Insn}
use Rattle.decode.specs.Slots.{insn_at, slots, slots_of}
use Rattle.decode.specs.declared.flow.Flow.{Flow}
use Rattle.decode.specs.declared.flow.Flow.TheVariants.{Ends, Leaps, Forks, Falls}
use Rattle.decode.specs.Flow.{flow_of}
use Rattle.spans.specs.Typing.{Code}
use Rattle.decode.specs.Distance.{distance}
use Rattle.block_order.specs.Placement.{IsPlacement, place_at}
use Rattle.block_order.specs.declared.arrangement.Placed.{Placed}
use Rattle.block_order.specs.declared.order.BlockOrder.{BlockOrder}
use Rattle.block_order.specs.declared.order.BlockOrder.TheVariants.{Forward, Moved, Loops, Unknown}

-- the instruction that begins at each slot
abbrev pub code_of : List Insn → Code
code_of is = insn_at (slots_of is)

-- an instruction goes on to a later slot, if it jumps
abbrev pub GoesForward : Insn → Type 0
GoesForward i = pos 0 ≤ℤ distance i

-- each jump goes to a later slot
abbrev pub IsForward : List Insn → Type 0
IsForward is = AllByRecursion GoesForward is

-- an instruction at slot s leads to slot t
abbrev pub LeadsBy : ℕ → Flow → ℕ → Type 0
LeadsBy s Ends t = ⊥
LeadsBy s (Leaps d) t = pos (s + 1) +ℤ d ≡ pos t
LeadsBy s (Forks d) t = (pos (s + 1) +ℤ d ≡ pos t) ⊎ (t ≡ s + 1)
LeadsBy s (Falls n) t = t ≡ s + n

-- slot s leads to slot t
abbrev pub Leads : Code → ℕ → ℕ → Type 0
Leads code s t = (i : Insn) × (code s ≡ Some i) × LeadsBy s (flow_of i) t

-- each of these slots leads to the next one
abbrev pub IsWalk : Code → List ℕ → Type 0
IsWalk code walk = (k : ℕ) → k + 1 < length walk → Leads code (slice_index walk k) (slice_index walk (k + 1))

-- ways lead from slot 0 to `to`, and from there to `from`, which jumps back to `to`
pub record IsLoop (code : Code) (from to : ℕ) : Type 0 where
  pub walk : List ℕ
  pub leads : IsWalk code walk
  pub place : ℕ
  pub within : place < length walk
  pub starts : slice_index walk 0 ≡ 0
  pub comes : slice_index walk place ≡ to
  pub ends : slice_index walk (length walk - 1) ≡ from
  pub back : Leads code from to
  pub behind : to ≤ from

-- the instructions that a call can come to, in another order, in which each jump goes forward, with as many slots as
-- code may have
pub record IsMoved (code : List Insn) (moved : Placed) : Type 0 where
  pub placed : IsPlacement (code_of code) (code_of moved.insns.items) (place_at moved.places.items)
  pub forward : IsForward moved.insns.items
  pub some : 0 < slots moved.insns.items
  pub short : slots moved.insns.items ≤ SLOTS

-- each jump already goes forward; or there is another order in which it does; or there is a loop; or no order was found
abbrev pub IsOrder : List Insn → BlockOrder → Type 0
IsOrder code Forward = IsForward code
IsOrder code (Moved moved) = ¬ IsForward code × IsMoved code moved
IsOrder code (Loops from to) = ¬ IsForward code × IsLoop (code_of code) from to
IsOrder code Unknown = ¬ IsForward code
