-- The steps of a release.
use Rattle.std.specs.Prelude.{◌≡◌, ℕ, ◌+◌, ◌<◌, ◌≤◌, ◌∷◌, length, slice_index_or, slice_set, Bool, true, false}
use Rattle.std.specs.List.{All}
use Rattle.send_gate.specs.declared.gate.Held.{Held}
use Rattle.send_gate.specs.Gate.{TheGate}

-- one step of a release: the first send leaves if it is in the run
abbrev pub ReleasesNext : Bool → ℕ → TheGate → TheGate → Type 0
ReleasesNext true k old new =
    (h : Held) × (old.waiting ≡ h ∷ new.waiting) × (h.rsn ≤ k) × (h.dst < length old.released)
    × (new.released ≡ slice_set old.released h.dst (slice_index_or old.released h.dst 0 + 1))
ReleasesNext false k old new = (new ≡ old) × All (λ (h : Held). k < h.rsn) old.waiting
