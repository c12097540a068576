-- The mark and labels of an entry, in its column and on its process's line (docs/FORMATS.md, "Picture").
use Rattle.std.specs.Prelude.{◌≡◌, ℕ, ◌+◌, List, [], ◌∷◌, ◌++◌, codes, decimal, length, nat_le, slice_get, take, Option, Some, None}
use Rattle.std.specs.Prelude.{if◌then◌else◌}
use Rattle.std.specs.Option.{option_map_or}
use Rattle.world.specs.declared.call.Call.{Call}
use Rattle.world.specs.declared.call.Call.TheVariants as call
use Rattle.world.specs.declared.answer.Answer.{Answer}
use Rattle.world.specs.declared.answer.Answer.TheVariants as answer
use Rattle.world.specs.declared.entry.Entry.{Entry}
use Rattle.world.specs.History.{Payload}
use Rattle.scenario.specs.Hex.{hex_text}
use Rattle.diagram.specs.declared.label.Side.TheVariants.{Above, Below, Beyond}
use Rattle.diagram.specs.declared.columns.Column.{Column}
use Rattle.diagram.specs.Label.{far_side, label_text}
use Rattle.diagram.specs.Page.{column_place, line_place}

-- a shape, in a column at a height
abbrev pub shape_at : List ℕ → ℕ → ℕ → List ℕ
shape_at shape column height =
    codes "<use href='#" ++ (shape
    ++ (codes "' x='" ++ (decimal (column_place column) ++ (codes "' y='" ++ (decimal height ++ codes "'/>\n")))))

-- a shape on the line of a process, or of the outside (0)
abbrev pub shape_text : List ℕ → ℕ → ℕ → List ℕ
shape_text shape column line = shape_at shape column (line_place line)

-- the first four bytes, and two dots if there are more
abbrev pub first_bytes : List ℕ → List ℕ
first_bytes payload = if nat_le (length payload) 4 then hex_text payload else hex_text (take 4 payload) ++ codes ".."

-- the number in the answer of a checkpoint, a trim, a crash or a recovery
abbrev pub number_in : Answer → ℕ
number_in (answer.Saved n) = n
number_in (answer.Trimmed n) = n
number_in (answer.Crashed n) = n
number_in (answer.Kept n) = n
number_in a = 0

-- a text, if the process is one of n or the outside
abbrev pub on_line : ℕ → ℕ → List ℕ → List ℕ
on_line n p text = if nat_le p n then text else []

-- the mark of an input: the number of its feed, and its process
abbrev pub input_mark : ℕ → ℕ → ℕ → List ℕ
input_mark column to feed =
    shape_text (codes "input") column 0 ++ label_text (codes "t") Above column 0 (codes "in " ++ decimal feed)
    ++ label_text (codes "t") Below column 0 (codes "for " ++ decimal to)

-- the mark of a call with the number in its answer, in a picture of n processes. Calls that move packets have no mark
abbrev pub call_mark : ℕ → ℕ → Call → ℕ → List ℕ
call_mark n column (call.Input to feed payload) k = input_mark column to feed
    ++ label_text (codes "b") Beyond column 0 (first_bytes payload)
call_mark n column (call.Checkpoint p) k =
    on_line n p (shape_text (codes "saved") column p ++ label_text (codes "t") Above column p (codes "save " ++ decimal k))
call_mark n column (call.Trim p) k =
    on_line n p (shape_text (codes "trim") column p ++ label_text (codes "t") Above column p (codes "trim " ++ decimal k))
call_mark n column (call.Crash p) k =
    on_line n p (shape_text (codes "crash") column p ++ label_text (codes "c") Above column p (codes "crash")
    ++ label_text (codes "t") Below column p (codes "inc " ++ decimal k))
call_mark n column (call.Recover p) k =
    on_line n p (shape_text (codes "recover") column p ++ label_text (codes "r") Above column p (codes "recover")
    ++ label_text (codes "t") Below column p (codes "kept " ++ decimal k))
call_mark n column (call.RecoverAlone p) k =
    on_line n p (shape_text (codes "recover") column p ++ label_text (codes "r") Above column p (codes "alone")
    ++ label_text (codes "t") Below column p (codes "kept " ++ decimal k))
call_mark n column c k = []

-- the mark of an entry
abbrev pub entry_mark : ℕ → ℕ → Entry → List ℕ
entry_mark n column e = call_mark n column e.call (number_in e.answer)

-- the first bytes of a message where it begins, if both lines are there, and of an output also where it is shown
abbrev pub text_mark : ℕ → ℕ → Call → Option Payload → List ℕ
text_mark n column c None = []
text_mark n column (call.Transmit from to ssn) (Some x) =
    on_line n from (on_line n to (label_text (codes "b") (far_side from to) column from (first_bytes x)))
text_mark n column (call.Arrive key) (Some x) = label_text (codes "b") Beyond column 0 (first_bytes x)
text_mark n column c (Some x) = []

-- a number above a column, in a style and at a height
abbrev pub number_text : List ℕ → ℕ → ℕ → ℕ → List ℕ
number_text style column height number =
    codes "<text class='"
    ++ (style ++ (codes "' x='"
    ++ (decimal (column_place column) ++ (codes "' y='" ++ (decimal height ++ (codes "'>" ++ (decimal number ++ codes "</text>\n")))))))

-- the number of an entry, from 1, its mark, and the first bytes of its message
abbrev pub numbered_mark : ℕ → ℕ → ℕ → Option Payload → Entry → List ℕ
numbered_mark n column place text e = number_text (codes "place") column 18 (place + 1) ++ entry_mark n column e
    ++ text_mark n column e.call text

-- the number, mark and bytes of the entry at a place, if there is one
abbrev pub place_mark : ℕ → List Entry → ℕ → ℕ → Option Payload → List ℕ
place_mark n entries column place text = option_map_or (λ e. numbered_mark n column place text e) (slice_get entries place) []

-- a refused order: a shape where entries have their number, and the number of the refusal
abbrev pub refused_mark : ℕ → ℕ → List ℕ
refused_mark column number = shape_at (codes "refused") column 14 ++ number_text (codes "c") column 43 number

-- an entry, or a refused order
abbrev pub shown_mark : ℕ → List Entry → ℕ → ℕ → Option Payload → Option ℕ → List ℕ
shown_mark n entries column place text None = place_mark n entries column place text
shown_mark n entries column place text (Some number) = refused_mark column number

-- the marks of a column: the number of its line in the scenario, and what it shows
abbrev pub column_mark : ℕ → List Entry → ℕ → Column → List ℕ
column_mark n entries column c = number_text (codes "place") column 30 c.line ++ shown_mark n entries column c.place c.text c.refused

-- the marks of these columns, of which the first has this number
abbrev pub marks_from : ℕ → List Entry → ℕ → List Column → List ℕ
marks_from n entries column [] = []
marks_from n entries column (c ∷ cs) = column_mark n entries column c ++ marks_from n entries (column + 1) cs

-- the text has this part
abbrev pub HasPart : List ℕ → List ℕ → Type 0
HasPart part text = (before after : List ℕ) × (text ≡ before ++ part ++ after)
