-- What effects send to whom
use Rattle.std.specs.Prelude.{ℕ, List, [], ◌∷◌, ◌==◌, if◌then◌else◌}
use Rattle.helpers.specs.declared.effects.Sent.{Sent}
use Rattle.helpers.specs.Effects.{Emitted}
use Rattle.world.specs.History.{Payload}

-- the payloads for one destination
abbrev pub payloads_to : ℕ → List Sent → List Payload
payloads_to d [] = []
payloads_to d (x ∷ xs) = if x.dst == d then x.payload ∷ payloads_to d xs else payloads_to d xs

-- the payloads for one destination. Those for the outside are the outputs
abbrev pub emitted_to : ℕ → Emitted → List Payload
emitted_to d e = if d == 0 then e.outputs else payloads_to d e.sends
