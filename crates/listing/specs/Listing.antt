-- The listing of code (docs/FORMATS.md, "Listing").
use Rattle.std.specs.Prelude.{◌≡◌, ℕ, zero, suc, ◌==◌, nat_lt, ◌++◌, ◌∷◌, [], List, Option, Some, None, codes, decimal, length}
use Rattle.std.specs.Prelude.{slice_index_or, if◌then◌else◌}
use Rattle.limits.specs.declared.TheConstants.{REGISTERS}
use Rattle.assemble.specs.Text.{text_of}
use Rattle.decode.specs.declared.insn.Insn.{Insn}
use Rattle.decode.specs.Slots.{insn_at}
use Rattle.regtypes.specs.declared.rule.Rule.{Rule}
use Rattle.regtypes.specs.Rules.{rule_number}
use Rattle.spans.specs.declared.kind.SpanKind.{SpanKind}
use Rattle.spans.specs.declared.kind.SpanKind.TheVariants.{Unset}
use Rattle.verifier.specs.FileForm.{file_form_number}
use Rattle.listing.specs.declared.cause.RefusalCause.{RefusalCause}
use Rattle.listing.specs.declared.study.Study.{Study}
use Rattle.listing.specs.declared.view.View.{View}
use Rattle.listing.specs.declared.why.UnsetCause.{UnsetCause}
use Rattle.listing.specs.declared.why.UnsetCause.TheVariants.{Unknown, Never, Lost, Differs}
use Rattle.listing.specs.Cause.{cause_of}
use Rattle.listing.specs.Kinds.{register_kind}
use Rattle.listing.specs.Notes.{dead_text, stack_text}
use Rattle.listing.specs.Reads.{is_read}
use Rattle.listing.specs.Sentence.{advice, cause_text}
use Rattle.listing.specs.Study.{form_of, view_at}
use Rattle.listing.specs.View.{known}
use Rattle.listing.specs.Why.{AreWhys}

-- the texts of 0 to n - 1, one after the other
unfoldable pub texts_below : (ℕ → List ℕ) → ℕ → List ℕ
texts_below text zero = []
texts_below text (suc n) = texts_below text n ++ text n

-- ---- what is known

-- why a register is unset
abbrev pub why_text : UnsetCause → List ℕ
why_text Unknown = []
why_text Never = codes ": never set on a way that leads here"
why_text (Lost p) = codes ": lost behind the helper at slot " ++ decimal p
why_text (Differs p q t) = codes ": slots " ++ decimal p ++ codes " and " ++ decimal q
    ++ codes " leave different things in it where they meet, at slot " ++ decimal t

-- the reason after a register that is unset. Any other has none
abbrev pub reason_text : SpanKind → UnsetCause → List ℕ
reason_text Unset why = why_text why
reason_text k why = []

-- a register with what is known of it, if the instruction reads it
abbrev pub register_text : Study → List UnsetCause → Insn → View → ℕ → List ℕ
register_text s whys i v r = if is_read s.form i r then codes "    r" ++ decimal r ++ codes " " ++ register_kind s.state_len v r
    ++ reason_text (known v r) (slice_index_or whys r Unknown) ++ codes "\n" else []

-- what is known of what an instruction reads, first its registers in ascending order and then a word of the stack; or that no path
-- reaches it
abbrev pub known_text : Study → List UnsetCause → Insn → Option View → List ℕ
known_text s whys i None = codes "    no way leads here\n"
known_text s whys i (Some v) = texts_below (register_text s whys i v) REGISTERS ++ stack_text s.state_len v i

-- ---- slots

-- the broken rule, what breaks it, and what to do about that
abbrev pub broken_text : Study → Rule → ℕ → View → RefusalCause → List ℕ
broken_text s rule slot v cause = codes "    refused by V" ++ decimal (rule_number rule)
    ++ (codes ": " ++ cause_text (file_form_number (form_of s.form s.table)) (length s.slots.items) slot cause
    ++ (codes "\n    to do: " ++ advice v rule cause ++ codes "\n"))

-- the refusal, under the slot that is refused
abbrev pub refusal_text : Study → Rule → ℕ → Insn → Option View → List ℕ
refusal_text s rule slot i None = []
refusal_text s rule slot i (Some v) = broken_text s rule slot v (cause_of s.form s.state_len i v rule)

-- the lines under an instruction. Slots after the one that is refused have none
abbrev pub notes_text : Study → List UnsetCause → ℕ → Insn → Option View → Option (Rule × ℕ) → List ℕ
notes_text s whys slot i v None = known_text s [] i v ++ dead_text v i
notes_text s whys slot i v (Some (rule, at)) = if nat_lt slot at then known_text s [] i v ++ dead_text v i
    else if slot == at then known_text s whys i v ++ refusal_text s rule slot i v else []

-- the number of a slot, its instruction, and the lines under it. The second slot of an instruction of two slots has none
abbrev pub insn_text : Study → List UnsetCause → ℕ → Option Insn → List ℕ
insn_text s whys slot None = []
insn_text s whys slot (Some i) = decimal slot ++ codes ": " ++ text_of (i ∷ []) ++ notes_text s whys slot i (view_at s.table slot) s.refusal

-- the lines of a slot
abbrev pub slot_text : Study → List UnsetCause → ℕ → List ℕ
slot_text s whys slot = insn_text s whys slot (insn_at s.slots.items slot)

-- ---- the whole

-- the last line: the verdict, as check prints it
abbrev pub verdict_text : ℕ → Option (Rule × ℕ) → List ℕ
verdict_text count None = codes "accepted " ++ decimal count ++ codes " instructions\n"
verdict_text count (Some (rule, slot)) =
    codes "verify refused V" ++ decimal (rule_number rule) ++ (codes " at slot " ++ decimal slot ++ codes "\n")

-- the first line: the form of the image and the length of the state
abbrev pub head_text : Study → List ℕ
head_text s = codes "form " ++ decimal (file_form_number (form_of s.form s.table))
    ++ (codes ", " ++ decimal s.state_len ++ codes " bytes of state\n")

-- the first line, the slots in ascending order, the verdict
abbrev pub listing : Study → List UnsetCause → List ℕ
listing s whys = head_text s ++ texts_below (slot_text s whys) (length s.slots.items) ++ verdict_text s.count s.refusal

-- the text is the listing, with reasons that hold at the slot that is refused. In form 3 there are none
pub record IsListing (s : Study) (text : List ℕ) : Type 0 where
  pub whys : List UnsetCause
  pub reasons : (rule : Rule) (slot : ℕ) → s.refusal ≡ Some (rule, slot) → AreWhys s whys slot
  pub text_is : text ≡ listing s whys
