-- What workers do to a session
use Rattle.std.specs.Prelude.{◌≡◌, List, [], ◌∷◌, ◌++◌, length, take, Bool, true, ◌&&◌}
use Rattle.world.specs.declared.entry.Entry.{Entry}
use Rattle.world.specs.World.{World}
use Rattle.world.specs.Calls.{after}
use Rattle.world.specs.Useful.{may_call}
use Rattle.sessions.specs.Journal.{TheSession, is_exact, world_at}

-- whether each of these entries is a call that a worker may make at that point: a free or a useful one
abbrev pub are_allowed : World → List Entry → Bool
are_allowed w [] = true
are_allowed w (e ∷ es) = may_call w 1 e.call && are_allowed (after w e.call e.answer) es

-- a session of the same images, whose journal continues the earlier one with calls that a worker may make. None of these is a crash
-- or a recovery alone, so if failures came one at a time before, they still do
pub record Continues (before after : TheSession) : Type 0 where
  pub images : after.images ≡ before.images
  pub more : List Entry
  pub entries : after.entries ≡ before.entries ++ more
  pub allowed : are_allowed (world_at before) more ≡ true
  pub exact : is_exact after ≡ is_exact before

-- the second journal begins with the first
abbrev pub Begins : List Entry → List Entry → Type 0
Begins es fs = take (length es) fs ≡ es
