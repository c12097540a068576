-- What the laws ask of handlers
use Rattle.std.specs.Prelude.{◌≡◌, ℕ, List, [], ◌∷◌, ◌++◌}
use Rattle.world.specs.declared.message.Message.{Message}
use Rattle.world.specs.Handlers.{Handlers}

-- the first list is a beginning of the second
abbrev pub Begins : {X : Type 0} → List X → List X → Type 0
Begins {X} xs ys = (rest : List X) × (xs ++ rest ≡ ys)

-- a process that received nothing has sent nothing
abbrev pub Starts : Handlers → Type 0
Starts f = (p d : ℕ) → f.sends p [] d ≡ []

-- after one more message a process has still sent what it sent before, in the same order, and perhaps more at the end
abbrev pub Grows : Handlers → Type 0
Grows f = (p : ℕ) (h : List Message) (m : Message) (d : ℕ) → Begins (f.sends p h d) (f.sends p (h ++ m ∷ []) d)
