-- How large a picture is, and where its columns and lines are.
use Rattle.std.specs.Prelude.{ℕ, ◌+◌, ◌*◌, ◌/◌, min, max, List, ◌++◌, codes, decimal}

-- the place of a column: 24 pixels for each, and 140 after every 50 columns. All columns from 2^32 - 1 on have the same place
abbrev pub column_place : ℕ → ℕ
column_place column = 190 + min column 4294967295 * 24 + min column 4294967295 / 50 * 140

-- the width for this many columns, and at least that of the legend
abbrev pub page_width : ℕ → ℕ
page_width columns = max (column_place columns + 44) 900

-- the height of the line of a process, or of the outside (0)
abbrev pub line_place : ℕ → ℕ
line_place number = 100 + number * 78

-- the height for the lines of this many processes, at most 255, and the legend
abbrev pub page_height : ℕ → ℕ
page_height processes = line_place (min processes 255) + 60 + 132

-- the start of an svg element of this size
abbrev pub head_text : ℕ → ℕ → List ℕ
head_text width height = codes "<svg xmlns='http://www.w3.org/2000/svg' width='" ++ (decimal width ++ (codes "' height='" ++ (decimal height
    ++ (codes "' viewBox='0 0 " ++ (decimal width ++ (codes " " ++ (decimal height ++ codes "'>\n")))))))
