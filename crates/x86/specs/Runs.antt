-- Runs of code.
use Rattle.std.specs.Prelude.{◌≡◌, ℕ, List}
use Rattle.x86.specs.Machine.{State, Runs}

-- two runs of code from one place and state return in one state
abbrev pub RunOneWay : Type 0
RunOneWay = (code : List ℕ) (n m place : ℕ) (c last last' : State) → Runs code n place c last → Runs code m place c last' → last ≡ last'
