-- Two tests at once.
use Rattle.std.proofs.Common.{◌≡◌, Bool, true, false, refl}
use Rattle.std.specs.Prelude.{◌&&◌}
use Rattle.std.proofs.lemmas.Bool.{false≢true}

pub parts : (t u : Bool) → (t && u) ≡ true → (t ≡ true) × (u ≡ true)
parts true u h = (refl, h)
parts false u h = absurd (false≢true h)

pub both : (t u : Bool) → t ≡ true → u ≡ true → (t && u) ≡ true
both true true h k = refl
both true false h k = k
both false u h k = h
