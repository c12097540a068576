-- Code whose instructions are at other slots, as far as a call can see.
use Rattle.std.specs.Prelude.{◌≡◌, ◌⊎◌, ℕ, ◌+◌, ℤ, pos, ◌+ℤ◌, List, Option, Some, None, slice_get}
use Rattle.std.specs.Option.{unwrap_or}
use Rattle.decode.specs.declared.insn.Insn.{Insn}
use Rattle.decode.specs.declared.insn.Insn.TheVariants.{Jump}
use Rattle.decode.specs.Distance.{with_distance}
use Rattle.decode.specs.declared.flow.Flow.{Flow}
use Rattle.decode.specs.declared.flow.Flow.TheVariants.{Ends, Leaps, Forks, Falls}
use Rattle.decode.specs.Flow.{flow_of}
use Rattle.spans.specs.Typing.{Code}

-- the place of each slot's instruction in the other code; None for one that is left out
abbrev pub Places : Type 0
Places = ℕ → Option ℕ

-- the same as a list
abbrev pub place_at : List (Option ℕ) → ℕ → Option ℕ
place_at places s = unwrap_or (slice_get places s) None

-- slot n of the other code leads to the place of slot t: it is that place, or has a jump to it
abbrev pub Arrives : Code → Places → ℕ → ℕ → Type 0
Arrives other at n t =
    (at t ≡ Some n) ⊎ ((m : ℕ) × (d : ℤ) × (at t ≡ Some m) × (other n ≡ Some (Jump d)) × (pos (n + 1) +ℤ d ≡ pos m))

-- two jumps, from slot s by d and from slot m of the other code by e, lead to slots of which the second arrives at the
-- first
pub record ArrivesBy (other : Code) (at : Places) (s : ℕ) (d : ℤ) (m : ℕ) (e : ℤ) : Type 0 where
  pub target : ℕ
  pub leads : pos (s + 1) +ℤ d ≡ pos target
  pub moved : ℕ
  pub leads_there : pos (m + 1) +ℤ e ≡ pos moved
  pub arrives : Arrives other at moved target

-- each way out of slot s arrives where it led, from slot m of the other code with the distance e
abbrev pub WaysArrive : Code → Places → ℕ → Flow → ℕ → ℤ → Type 0
WaysArrive other at s Ends m e = Unit {0}
WaysArrive other at s (Leaps d) m e = ArrivesBy other at s d m e
WaysArrive other at s (Forks d) m e = ArrivesBy other at s d m e × Arrives other at (m + 1) (s + 1)
WaysArrive other at s (Falls n) m e = Arrives other at (m + n) (s + n)

-- the instruction at slot s is at slot m of the other code, perhaps with another distance, and its ways arrive
pub record Stands (code other : Code) (at : Places) (s m : ℕ) : Type 0 where
  pub insn : Insn
  pub there : code s ≡ Some insn
  pub by : ℤ
  pub moved : other m ≡ Some (with_distance insn by)
  pub ways : WaysArrive other at s (flow_of insn) m by

-- slot 0 is at slot 0, and each instruction that has a place is there with its ways
pub record IsPlacement (code other : Code) (at : Places) : Type 0 where
  pub start : at 0 ≡ Some 0
  pub each : (s m : ℕ) → at s ≡ Some m → Stands code other at s m
