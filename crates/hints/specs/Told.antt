-- What is noted of a run.
use Rattle.std.specs.Prelude.{◌≡◌, ℕ, List, ◌++◌, String}
use Rattle.std.specs.declared.alloc.Global.{Global}
use Rattle.std.specs.String.{string_bytes}

-- the note has what it had, and then some more
abbrev pub IsAdded : String Global → String Global → Type 0
IsAdded old new = (more : List ℕ) × (string_bytes new ≡ string_bytes old ++ more)
