-- Outputs in order
use Rattle.std.specs.Prelude.{◌≡◌, ◌⊎◌, ℕ, suc, ◌<◌, ◌≤◌, List, [], ◌∷◌, ◌++◌, map, Bool, true}
use Rattle.node.specs.Stands.{Each, InOrderFrom}
use Rattle.stores.specs.declared.change.Output.{Output}
use Rattle.gateway.specs.Stands.{shown_as}

-- the output of p with this SSN is among these
abbrev pub IsOut : ℕ → ℕ → List Output → Type 0
IsOut p ssn [] = ⊥
IsOut p ssn (o ∷ os) = ((o.process ≡ p) × (o.ssn ≡ ssn)) ⊎ IsOut p ssn os

-- all outputs of p from 1 to this SSN are among these
abbrev pub AllOut : ℕ → ℕ → List Output → Type 0
AllOut p last outputs = (ssn : ℕ) → 0 < ssn → ssn ≤ last → IsOut p ssn outputs

-- after these outputs, this one is the next of its process, or one of them again: all before it are among them
abbrev pub LeavesNoGap : List Output → Output → Type 0
LeavesNoGap before o = (last : ℕ) × ((o.ssn ≡ suc last) × AllOut o.process last before)

-- this holds of each output and those before it
abbrev pub NoGap : List Output → Type 0
NoGap outputs = (before after : List Output) (o : Output) → before ++ o ∷ after ≡ outputs → LeavesNoGap before o

-- the SSNs of each process's outputs follow one another without a gap, and all outputs before the first were given before
pub record GoOn (before outputs : List Output) : Type 0 where
  pub from : ℕ → ℕ
  pub out : (p : ℕ) → AllOut p (from p) before
  pub ordered : InOrderFrom from (map shown_as outputs)

-- the outputs of each process have greater SSNs than those before
abbrev pub AreBehind : List Output → List Output → Type 0
AreBehind before outputs = Each (λ (o : Output). Each (λ (old : Output). old.process ≡ o.process → old.ssn < o.ssn) before) outputs

-- two outputs of a durable process with the same SSN are the same
abbrev pub SayTheSame : (ℕ → Bool) → List Output → Type 0
SayTheSame durable outputs = Each (λ (a : Output). Each (λ (b : Output). durable a.process ≡ true → a.process ≡ b.process → a.ssn ≡ b.ssn
    → a.payload ≡ b.payload) outputs) outputs
