-- A run, as its picture shows it.
use Rattle.std.specs.Prelude.{ℕ, List, Option}
use Rattle.world.specs.declared.entry.Entry.{Entry}
use Rattle.world.specs.declared.message.Message.{Message}
use Rattle.world.specs.History.{Payload}

-- a moment is an accepted call or a refused order: its line in the scenario, and the number of the refusal
abbrev pub Moment : Type 0
Moment = ℕ × Option ℕ

-- the entries, the moments, for each entry the payload that it put on the wire, and the outputs that were shown
pub record TheRun : Type 0 where
  pub entries : List Entry
  pub moments : List Moment
  pub sent : List (Option Payload)
  pub shown : List Message
