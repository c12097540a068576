-- What one pass over code finds.
use Rattle.std.specs.Prelude.{◌≡◌, ℕ, List, Option, None, length, unwrap_or, slice_get}
use Rattle.std.specs.Option.{option_map}
use Rattle.std.specs.Global.{Box}
use Rattle.decode.specs.declared.insn.Insn.{Insn}
use Rattle.decode.specs.Slots.{slots_of}
use Rattle.regtypes.specs.declared.frame.Frame.{Frame}
use Rattle.regtypes.specs.declared.image_form.ImageForm.{ImageForm}
use Rattle.regtypes.specs.declared.image_form.ImageForm.TheVariants.{Sbi2}
use Rattle.regtypes.specs.Typing.{frame_at}
use Rattle.spans.specs.declared.cells.Cells.{Cells}
use Rattle.verifier.specs.declared.file_form.FileForm.{FileForm}
use Rattle.verifier.specs.declared.file_form.FileForm.TheVariants.{Sbi3}
use Rattle.verifier.specs.FileForm.{file_form_of}
use Rattle.verifier.specs.Verdict as flat
use Rattle.verifier.specs.Span.Typing.{table_of}
use Rattle.verifier.specs.Span.Verdict as spans
use Rattle.listing.specs.declared.study.Study.{Study}
use Rattle.listing.specs.declared.study.Table.{Table}
use Rattle.listing.specs.declared.study.Table.TheVariants as table
use Rattle.listing.specs.declared.view.View.{View}
use Rattle.listing.specs.declared.view.View.TheVariants.{Flat, Spans}

-- what is known at a slot, if a path reaches it
abbrev pub view_at : Table → ℕ → Option View
view_at (table.Flat t) s = option_map Flat (frame_at t.items s)
view_at (table.Spans t) s = option_map (λ (b : Box Cells). Spans b.value) (unwrap_or (slice_get t.items s) None)

-- what is known there in forms 1 and 2
abbrev pub flat_at : Table → ℕ → Option Frame
flat_at (table.Flat t) s = frame_at t.items s
flat_at (table.Spans t) s = None

-- the form of the file
abbrev pub form_of : ImageForm → Table → FileForm
form_of form (table.Flat t) = file_form_of form
form_of form (table.Spans t) = Sbi3

-- table and verdict are those of the verifier. Form 3 has the helpers of form 2
abbrev pub IsJudged : List Insn → Study → Table → Type 0
IsJudged code s (table.Flat t) = flat.IsJudged s.form code s.state_len t.items s.refusal
IsJudged code s (table.Spans t) = (s.form ≡ Sbi2) × spans.IsJudged code s.state_len (table_of t.items) s.refusal

-- the study of code of this form with a state of this length
pub record IsStudy (form : FileForm) (code : List Insn) (state : ℕ) (s : Study) : Type 0 where
  pub form_is : form_of s.form s.table ≡ form
  pub state_is : s.state_len ≡ state
  pub slots : s.slots.items ≡ slots_of code
  pub judged : IsJudged code s s.table
  pub counted : s.count ≡ length code
