-- Labels: words near a line, in an entry's column (docs/FORMATS.md, "Picture").
use Rattle.std.specs.Prelude.{ℕ, ◌+◌, ◌*◌, ◌%◌, ◌==◌, List, ◌++◌, codes, decimal, nat_lt, if◌then◌else◌}
use Rattle.diagram.specs.declared.label.Side.{Side}
use Rattle.diagram.specs.declared.label.Side.TheVariants.{Above, Below, Beyond, Beneath}
use Rattle.diagram.specs.Page.{column_place}

-- the height of a label near a line: above or below the line, or beyond or beneath the labels there. In odd columns it is further
-- out, so that labels in neighbouring columns can be read
abbrev pub label_place : Side → ℕ → ℕ → ℕ
label_place Above column line = if column % 2 == 0 then 86 + line * 78 else 75 + line * 78
label_place Below column line = if column % 2 == 0 then 122 + line * 78 else 133 + line * 78
label_place Beyond column line = if column % 2 == 0 then 64 + line * 78 else 53 + line * 78
label_place Beneath column line = if column % 2 == 0 then 144 + line * 78 else 155 + line * 78

-- the place of a label about a packet between two lines: the outer place on the side that is away from the other line
abbrev pub far_side : ℕ → ℕ → Side
far_side line other = if nat_lt other line then Beneath else Beyond

-- a label: words in a style, in a column near a line
abbrev pub label_text : List ℕ → Side → ℕ → ℕ → List ℕ → List ℕ
label_text style side column line words =
    codes "<text class='" ++ style ++ codes "' x='" ++ decimal (column_place column) ++ codes "' y='"
    ++ decimal (label_place side column line)
    ++ codes "'>" ++ words ++ codes "</text>\n"
