-- The rest of a text while its lines are read.
use Rattle.std.specs.Prelude.{◌≡◌, ◌≤◌, ◌+◌, ℕ, ◌++◌, length, List, [], true, false, Option, Some, None, Result, Ok, Err}
use Rattle.std.specs.Borrow.{Bor}
use Rattle.limits.specs.declared.TheConstants.{SLOTS}
use Rattle.decode.specs.Encoding.{Fits}
use Rattle.decode.specs.Slots.{size_of}
use Rattle.decode.specs.declared.insn.Insn.{Insn}
use Rattle.assemble.specs.declared.fault.TextRule.{TextRule}
use Rattle.assemble.specs.Text.{line_of, lines_of, is_silent}
use Rattle.assemble.specs.Refusal.{AreLines, LineBreaksFirst}

-- the lines of the rest, if there is one
abbrev pub lines_left : Option (Bor (List ℕ)) → List (List ℕ)
lines_left None = []
lines_left (Some x) = lines_of x.now

-- the length of the rest, counting the end of the last line
abbrev pub left : Option (Bor (List ℕ)) → ℕ
left None = 0
left (Some x) = length x.now + 1

-- a line gives nothing, or an instruction for which there is room after n slots; or it is refused
abbrev pub ReadsAfter : ℕ → List ℕ → Result (Option Insn) TextRule → Type 0
ReadsAfter n line (Ok None) = is_silent line ≡ true
ReadsAfter n line (Ok (Some i)) = (is_silent line ≡ false) × Fits i × (line ≡ line_of i) × (n + size_of i ≤ SLOTS)
ReadsAfter n line (Err r) = (is_silent line ≡ false) × LineBreaksFirst n r line

-- the lines that were read
pub record HaveRead (text : List ℕ) (rest : Option (Bor (List ℕ))) (number : ℕ) (is : List Insn) : Type 0 where
  pub before : List (List ℕ)
  pub whole : lines_of text ≡ before ++ lines_left rest
  pub number_is : number ≡ length before
  pub fine : AreLines before is
