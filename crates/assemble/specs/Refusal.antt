-- Which texts are refused, and the rule and the line that are named (docs/FORMATS.md, "Assembler text").
use Rattle.std.specs.Prelude.{◌≡◌, ◌≢◌, ◌<◌, ◌≤◌, ◌+◌, ◌==◌, ℕ, ◌++◌, length, List, [], ◌∷◌, map, false}
use Rattle.std.specs.List.{AllByRecursion, before_first}
use Rattle.limits.specs.declared.TheConstants.{SLOTS}
use Rattle.decode.specs.Encoding.{Fits}
use Rattle.decode.specs.First.{IsFirst}
use Rattle.decode.specs.Slots.{slots, size_of}
use Rattle.decode.specs.declared.insn.Insn.{Insn}
use Rattle.assemble.specs.declared.fault.TextRule.{TextRule}
use Rattle.assemble.specs.declared.fault.TextRule.TheVariants as rule
use Rattle.assemble.specs.declared.fault.AsmError.{AsmError}
use Rattle.assemble.specs.declared.fault.AsmError.TheVariants.{Memory, Fault}
use Rattle.assemble.specs.Text.{parts_of, line_of, lines_of, spoken, is_silent}

-- the rules by number
abbrev pub rule_number : TextRule → ℕ
rule_number rule.Word = 1
rule_number rule.Shape = 2
rule_number rule.Range = 3
rule_number rule.Limit = 4

-- what each rule refuses in a line after n slots: no instruction has its word, which ends at the first space; no
-- instruction, with any numbers, has this line; none with numbers in range has it; none that leaves at most as many
-- slots as an image may have (docs/FORMATS.md, "Limits")
abbrev pub LineBreaks : ℕ → TextRule → List ℕ → Type 0
LineBreaks n rule.Word line = (i : Insn) → (parts_of i).0 ≢ before_first (λ c. c == 32) line
LineBreaks n rule.Shape line = (i : Insn) → line ≢ line_of i
LineBreaks n rule.Range line = (i : Insn) → Fits i → line ≢ line_of i
LineBreaks n rule.Limit line = (i : Insn) → Fits i → line ≡ line_of i → SLOTS < n + size_of i

-- the first rule that refuses the line; each rule refuses all that the one before it refuses
abbrev pub LineBreaksFirst : ℕ → TextRule → List ℕ → Type 0
LineBreaksFirst n r line = IsFirst (λ q. LineBreaks n q line) (rule.Word ∷ rule.Shape ∷ rule.Range ∷ rule.Limit ∷ []) r

-- the list whose lines these are; it has at most as many slots as an image may have
pub record AreLines (lines : List (List ℕ)) (is : List Insn) : Type 0 where
  pub fits : AllByRecursion Fits is
  pub written : spoken lines ≡ map line_of is
  pub limit : slots is ≤ SLOTS

-- the lines before this one are good, and this line breaks the rule
pub record IsFault (text : List ℕ) (r : TextRule) (number : ℕ) : Type 0 where
  pub before : List (List ℕ)
  pub line : List ℕ
  pub after : List (List ℕ)
  pub whole : lines_of text ≡ before ++ line ∷ after
  pub number_is : number ≡ length before + 1
  pub insns : List Insn
  pub fine : AreLines before insns
  pub speaks : is_silent line ≡ false
  pub broken : LineBreaksFirst (slots insns) r line

-- the error that a text gets, if memory does not run out
abbrev pub IsRefusal : List ℕ → AsmError → Type 0
IsRefusal text Memory = Unit {0}
IsRefusal text (Fault r number) = IsFault text r number
