-- The text of a picture, part by part.
use Rattle.std.proofs.Common.{◌≡◌, ◌∙◌, ℕ, Bool, List, [], ◌++◌, ap, ap₂, codes, length, min}
use Rattle.diagram.specs.Columns.{columns}
use Rattle.diagram.specs.Marks.{HasPart, marks_from}
use Rattle.diagram.specs.Page.{head_text, page_height, page_width}
use Rattle.diagram.specs.Picture.{IsPicture}
use Rattle.diagram.specs.Run.{TheRun}

-- the inner text is between the beginning and the end
pub enclosed : (processes : ℕ) (run : TheRun) (only : Bool) (width height : ℕ) (start begun filled text inside : List ℕ) → start ≡ []
    → width ≡ page_width (length (columns only run)) → height ≡ page_height processes
    → begun ≡ start ++ head_text width height → filled ≡ begun ++ inside → text ≡ filled ++ codes "</svg>\n"
    → HasPart (marks_from (min processes 255) run.entries 0 (columns only run)) inside → IsPicture processes run only text
enclosed processes run only width height start begun filled text inside none wide high first second third marked = record {
  inside = inside;
  whole = third ∙ ap (λ (t : List ℕ). t ++ codes "</svg>\n")
      (second ∙ ap (λ (t : List ℕ). t ++ inside) (first ∙ ap (λ (t : List ℕ). t ++ head_text width height) none ∙ ap₂ head_text wide high));
  marks = marked;
}
