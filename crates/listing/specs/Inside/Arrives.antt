-- Why an unset register is unset at a slot.
use Rattle.std.specs.Prelude.{◌≡◌, ◌≢◌, ◌<◌, ◌+◌, ◌⊎◌, ℕ, pos, ◌+ℤ◌, Option, Some, None}
use Rattle.decode.specs.declared.flow.Flow.{Flow}
use Rattle.decode.specs.declared.flow.Flow.TheVariants as flow
use Rattle.regtypes.specs.declared.frame.Kind.{Kind}
use Rattle.regtypes.specs.declared.frame.Kind.TheVariants as kind
use Rattle.listing.specs.declared.study.Study.{Study}
use Rattle.listing.specs.declared.why.Arrival.{Arrival}
use Rattle.listing.specs.declared.why.Arrival.TheVariants.{Unset, Reason}
use Rattle.listing.specs.declared.why.UnsetCause.{UnsetCause}
use Rattle.listing.specs.declared.why.UnsetCause.TheVariants.{Unknown}
use Rattle.listing.specs.Why.{Calls, Clash, IsReason, Leaves, Passes}

-- an instruction at slot p, with this flow, can lead to slot t
abbrev pub LeadsTo : Flow → ℕ → ℕ → Type 0
LeadsTo flow.Ends p t = ⊥
LeadsTo (flow.Leaps d) p t = pos (p + 1) +ℤ d ≡ pos t
LeadsTo (flow.Forks d) p t = (pos (p + 1) +ℤ d ≡ pos t) ⊎ (t ≡ p + 1)
LeadsTo (flow.Falls n) p t = t ≡ p + n

-- the register arrives at a slot without a value, or for this reason
abbrev pub Arrives : Study → ℕ → ℕ → Arrival → Type 0
Arrives s r at (Unset p) = (p < at) × Leaves s r p at kind.Unset × ¬ Calls s r p
Arrives s r at (Reason why) = IsReason s r why at

-- a slot that leads there leaves this kind in the register, and it isn't unset
abbrev pub IsSet : Study → ℕ → ℕ → Option (ℕ × Kind) → Type 0
IsSet s r at None = Unit {0}
IsSet s r at (Some x) = Leaves s r x.0 at x.1 × (x.1 ≢ kind.Unset)

-- a kind is set, and agrees with what was found before it, unless a reason was found
abbrev pub GoesWith : Option (ℕ × Kind) → UnsetCause → Kind → Type 0
GoesWith None why k = ⊥
GoesWith (Some x) why k = (k ≢ kind.Unset) × (why ≡ Unknown → ¬ Clash x.1 k)

-- all that the slots below n pass on to a slot agrees with what was found
abbrev pub GoTogether : Study → ℕ → ℕ → ℕ → Option (ℕ × Kind) → UnsetCause → Type 0
GoTogether s r at n set why = (p : ℕ) (k : Kind) → p < n → Passes s r p at k → GoesWith set why k
