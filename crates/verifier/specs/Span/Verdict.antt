-- What the verifier of form 3 answers.
use Rattle.std.specs.Prelude.{◌≡◌, ℕ, List, Option, None, length}
use Rattle.decode.specs.declared.insn.Insn.{Insn}
use Rattle.decode.specs.Slots.{slots_of}
use Rattle.regtypes.specs.declared.rule.Rule.{Rule}
use Rattle.spans.specs.Typing.{Table}
use Rattle.verifier.specs.Fixpoint as one
use Rattle.verifier.specs.declared.span.fault.SpanVerifyError.{SpanVerifyError}
use Rattle.verifier.specs.declared.span.fault.SpanVerifyError.TheVariants.{Memory, Fault}
use Rattle.verifier.specs.declared.span.pass.SpanFrames.{SpanFrames}
use Rattle.verifier.specs.Span.Typing.{span_form, table_of}

-- the table is the least typing of the code; if a slot breaks a rule, it is that of the slots below
abbrev pub IsJudged : List Insn → ℕ → Table → Option (Rule × ℕ) → Type 0
IsJudged code state table refusal = one.IsJudged (span_form state (slots_of code)) table refusal

-- the code slot by slot, and its least typing
pub record IsFramesOf (code : List Insn) (state : ℕ) (frames : SpanFrames) : Type 0 where
  pub slots_are : frames.slots.items ≡ slots_of code
  pub typing : one.IsLeast (span_form state (slots_of code)) (length (slots_of code)) (table_of frames.table.items)
  pub unrefused : frames.refusal ≡ None

-- why code gave no frames; that memory ran out says nothing of the code
abbrev pub IsWhy : List Insn → ℕ → SpanVerifyError → Type 0
IsWhy code state Memory = Unit {0}
IsWhy code state (Fault rule slot) = one.IsFault (span_form state (slots_of code)) rule slot
