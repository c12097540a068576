-- Which entries have columns (docs/FORMATS.md, "Picture").
use Rattle.std.specs.Prelude.{ℕ, ◌+◌, ◌==◌, ◌&&◌, Bool, false, not, List, [], ◌∷◌, ◌++◌, Option, Some, None, slice_get, slice_index_or}
use Rattle.std.specs.Prelude.{if◌then◌else◌}
use Rattle.std.specs.List.{fold, list_any}
use Rattle.std.specs.Option.{option_map, option_map_or}
use Rattle.std.specs.Set.{remove_key}
use Rattle.world.specs.declared.call.Call.{Call}
use Rattle.world.specs.declared.call.Call.TheVariants as call
use Rattle.world.specs.declared.answer.Answer.{Answer}
use Rattle.world.specs.declared.answer.Answer.TheVariants as answer
use Rattle.world.specs.declared.entry.Entry.{Entry}
use Rattle.world.specs.History.{Payload}
use Rattle.diagram.specs.declared.columns.Column.{Column}
use Rattle.diagram.specs.Run.{Moment, TheRun}

-- whether this key is among the keys
abbrev pub has_key : List ℕ → ℕ → Bool
has_key keys key = list_any (λ k. key == k) keys

-- the keys, with one more
abbrev pub with_key : List ℕ → ℕ → List ℕ
with_key keys key = if has_key keys key then keys else keys ++ key ∷ []

-- the keys of the messages on the wire, after a call. A message that goes on the wire gets a key, and so does a copy of a message.
-- A message that is lost or arrives loses its key, which another packet may get
abbrev pub keys_with : List ℕ → Call → Answer → List ℕ
keys_with keys (call.Transmit from to ssn) (answer.Placed key) = with_key keys key
keys_with keys (call.Copy old) (answer.Placed key) = if has_key keys old then with_key keys key else keys
keys_with keys (call.Lose key) a = remove_key (λ k. key == k) keys
keys_with keys (call.Arrive key) a = remove_key (λ k. key == k) keys
keys_with keys c a = keys

-- the keys of the messages on the wire, after an entry
abbrev pub keys_after : List ℕ → Entry → List ℕ
keys_after keys e = keys_with keys e.call e.answer

-- the call copies, loses or hands over a packet that isn't one of these messages: a number or an acknowledgement
abbrev pub moves_other : List ℕ → Call → Bool
moves_other keys (call.Copy key) = not (has_key keys key)
moves_other keys (call.Lose key) = not (has_key keys key)
moves_other keys (call.Arrive key) = not (has_key keys key)
moves_other keys c = false

-- how many outputs an entry shows
abbrev pub outputs_in : Answer → ℕ
outputs_in (answer.Shown ssn) = 1
outputs_in a = 0

-- the payload of an entry's message, after this many entries and outputs: of the output that it shows, or the message that it puts
-- on the wire
abbrev pub text_of : TheRun → ℕ → ℕ → Answer → Option Payload
text_of run place outputs (answer.Shown ssn) = option_map (λ m. m.payload) (slice_get run.shown outputs)
text_of run place outputs a = slice_index_or run.sent place None

-- the column of an entry with this payload, or of an order that was refused after place entries
abbrev pub column : Moment → ℕ → Option Payload → Column
column m place text = record { line = m.0; place = place; refused = m.1; text = text }

-- how far the columns have come: how many entries came, how many outputs these showed, the keys of the messages on the wire, and
-- the columns
pub record TheColumnState : Type 0 where
  pub place : ℕ
  pub outputs : ℕ
  pub keys : List ℕ
  pub columns : List Column

-- no moment yet
abbrev pub unmoved : TheColumnState
unmoved = record { place = 0; outputs = 0; keys = []; columns = [] }

-- each entry has a column, unless only messages are shown and it moves another packet
abbrev pub has_column : Bool → List ℕ → Entry → Bool
has_column only keys e = not (only && moves_other keys e.call)

-- one entry more
abbrev pub behind_entry : Bool → TheRun → Moment → TheColumnState → Entry → TheColumnState
behind_entry only run m s e = record {
  place = s.place + 1;
  outputs = s.outputs + outputs_in e.answer;
  keys = keys_after s.keys e;
  columns = s.columns ++ (if has_column only s.keys e then column m s.place (text_of run s.place s.outputs e.answer) ∷ [] else []);
}

-- one moment more: a refused order gets a column, and an accepted call is the next entry, if there is one
abbrev pub behind : Bool → TheRun → TheColumnState → Moment → TheColumnState
behind only run s (line, Some n) = record s { columns = s.columns ++ column (line, Some n) s.place None ∷ [] }
behind only run s (line, None) = option_map_or (λ e. behind_entry only run (line, None) s e) (slice_get run.entries s.place) s

-- the columns of a run
abbrev pub columns : Bool → TheRun → List Column
columns only run = (fold (behind only run) unmoved run.moments).columns
