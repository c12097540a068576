-- Which texts are pictures.
use Rattle.std.specs.Prelude.{◌≡◌, ℕ, Bool, List, ◌++◌, codes, length, min}
use Rattle.diagram.specs.Columns.{columns}
use Rattle.diagram.specs.Run.{TheRun}
use Rattle.diagram.specs.Marks.{HasPart, marks_from}
use Rattle.diagram.specs.Page.{head_text, page_height, page_width}

-- one element svg, as large as this many processes and the columns of the entries and refused orders need. It has the marks of each
-- of these, in its column and on its line
abbrev pub IsPicture : ℕ → TheRun → Bool → List ℕ → Type 0
IsPicture processes run only text =
    record {
      inside : List ℕ;
      whole : text ≡ head_text (page_width (length (columns only run))) (page_height processes) ++ inside ++ codes "</svg>\n";
      marks : HasPart (marks_from (min processes 255) run.entries 0 (columns only run)) inside;
    }
