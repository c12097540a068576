-- What is wrong with what an instruction reads.
use Rattle.std.specs.Prelude.{ℕ, zero, suc, ◌+◌, ◌&&◌, Bool, true, false, List, [], ◌∷◌, Option, Some, None, ℤ, if◌then◌else◌}
use Rattle.std.specs.Option.{option_or}
use Rattle.decode.specs.declared.insn.Reg.{Reg}
use Rattle.decode.specs.declared.attributes.Access.{Access}
use Rattle.regtypes.specs.declared.frame.Region.TheVariants.{Stack}
use Rattle.spans.specs.declared.kind.Reach.{Reach}
use Rattle.spans.specs.declared.kind.SpanKind.{SpanKind}
use Rattle.spans.specs.declared.kind.SpanKind.TheVariants.{Unset, Num, Place}
use Rattle.spans.specs.Access.{is_reached}
use Rattle.spans.specs.Frame.{Frame}
use Rattle.listing.specs.declared.flaw.Flaw.{Flaw}
use Rattle.listing.specs.declared.flaw.Flaw.TheVariants.{Missing, Pointing, NotNumber}

-- whether a kind has the flaw: nothing is known, it is a place, or it is no number
abbrev pub has_flaw : Flaw → SpanKind → Bool
has_flaw Missing Unset = true
has_flaw Missing k = false
has_flaw Pointing (Place r s) = true
has_flaw Pointing k = false
has_flaw NotNumber (Num s) = false
has_flaw NotNumber k = true

-- whether a register has the flaw; if there is none, it hasn't
abbrev pub is_flawed : Flaw → Frame → Option Reg → Bool
is_flawed w f None = false
is_flawed w f (Some r) = has_flaw w (f r.number)

-- the first of these registers that has the flaw
abbrev pub first_flawed : Flaw → Frame → List (Option Reg) → Option Reg
first_flawed w f [] = None
first_flawed w f (r ∷ rs) = if is_flawed w f r then r else first_flawed w f rs

-- the cell, if an access may reach its word and it has the flaw
abbrev pub flawed_cell : Flaw → Frame → Reach → ℤ → ℕ → ℕ → Option ℕ
flawed_cell w f s o n c = if is_reached s o n c && has_flaw w (f c) then Some c else None

-- the first such cell among the first k words of the stack
unfoldable pub first_word : ℕ → Flaw → Frame → Reach → ℤ → ℕ → Option ℕ
first_word zero w f s o n = None
first_word (suc k) w f s o n = option_or (first_word k w f s o n) (flawed_cell w f s o n (11 + k))

-- the first such cell among all words, for an access through a base of this kind
abbrev pub flawed_word : Flaw → Frame → SpanKind → ℤ → ℕ → Option ℕ
flawed_word w f (Place Stack s) o n = first_word 64 w f s o n
flawed_word w f k o n = None

-- the first such cell for the access of an instruction, if it makes one
abbrev pub reached_word : Flaw → Frame → Option Access → Option ℕ
reached_word w f None = None
reached_word w f (Some x) = flawed_word w f (f x.base.number) x.offset x.bytes
