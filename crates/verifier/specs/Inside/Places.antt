-- Places that an access or a helper may use.
use Rattle.std.specs.Prelude.{◌≡◌, ℕ, true, ℤ, ◌+ℤ◌}
use Rattle.regtypes.specs.declared.frame.Region.TheVariants.{Message, State, Stack}
use Rattle.regtypes.specs.declared.frame.Kind.{Kind}
use Rattle.regtypes.specs.declared.frame.Kind.TheVariants as kind
use Rattle.regtypes.specs.Rules.{lie_inside, region_len}

-- the n bytes at the offset from this place are in their region, if the message has at least `low` bytes
abbrev pub IsInside : ℕ → ℕ → Kind → ℤ → ℕ → Type 0
IsInside low len kind.Unset offset n = ⊥
IsInside low len kind.Num offset n = ⊥
IsInside low len kind.Len offset n = ⊥
IsInside low len (kind.Place r k) offset n = lie_inside (region_len low len r) n (k +ℤ offset) ≡ true

-- a register of this kind holds a place that may be written
abbrev pub IsWritable : Kind → Type 0
IsWritable kind.Unset = ⊥
IsWritable kind.Num = ⊥
IsWritable kind.Len = ⊥
IsWritable (kind.Place Message k) = ⊥
IsWritable (kind.Place State k) = Unit {0}
IsWritable (kind.Place Stack k) = Unit {0}
