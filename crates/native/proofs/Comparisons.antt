-- Conditional jumps.
use Rattle.std.proofs.Common.{◌≡◌, ◌≢◌, ℕ, ◌-◌, ◌^◌, ◌<◌, Bool, true, cond, List, refl, ap, ◌∙◌, arith}
use Rattle.std.specs.Prelude.{not, ◌||◌, ◌==◌, nat_lt, nat_le, int_lt, int_le, ◌-ℤ◌, slice_index}
use Rattle.std.proofs.lemmas.Bool.Decides.{nat_tests}
use Rattle.decode.specs.declared.insn.Width.{Width}
use Rattle.decode.specs.declared.insn.Width.TheVariants.{W32, W64}
use Rattle.decode.specs.declared.insn.Condition.{Condition}
use Rattle.decode.specs.declared.insn.Condition.TheVariants as condition
use Rattle.decode.specs.declared.insn.Operand.{Operand}
use Rattle.decode.specs.declared.insn.Operand.TheVariants as operand
use Rattle.operations.specs.Words.{bits_of, low_of, signed_of}
use Rattle.operations.specs.Operations.{word_of, holds}
use Rattle.operations.specs.Conditions as conditions
use Rattle.x86.specs.declared.instruction.Alu.TheVariants as alu
use Rattle.x86.specs.declared.instruction.Instr.{Instr}
use Rattle.x86.specs.declared.instruction.Instr.TheVariants as instr
use Rattle.helpers.specs.declared.effects.Who.{Who}
use Rattle.helpers.specs.Effects.{Emitted}
use Rattle.x86.specs.Machine.{Value, Flags, State, Goes, Leaps, compared, tested, differ, difference, overflows, asks, operated, with_word, extended, act}
use Rattle.native.specs.Tasks.{is_word, operand_of}
use Rattle.native.specs.Code.{gpr, IsShort}
use Rattle.native.specs.Comparison.{cmp_code, test_code, compare_code, condition_of}
use Rattle.native.proofs.Agreement.{Agrees, reads_word}
use Rattle.native.proofs.Signed.{less_32, less_64, at_most_32, at_most_64, not_less, not_at_most}
use Rattle.native.proofs.Computations.{mod_small, word_register}

-- the flags' above is the order of words
above : (a b : ℕ) → not (nat_lt a b || (a == b)) ≡ nat_lt b a
above a b = grind (arith, nat_tests)

-- the flags' not below
above_equal : (a b : ℕ) → not (nat_lt a b) ≡ nat_le b a
above_equal a b = grind (arith, nat_tests)

-- the flags' below or equal
below_equal : (a b : ℕ) → (nat_lt a b || (a == b)) ≡ nat_le a b
below_equal a b = grind (arith, nat_tests)

-- the sign flag behind a comparison
abbrev pub sign : ℕ → ℕ → ℕ → Bool
sign n a b = nat_le (2 ^ (n - 1)) (difference n a b)

-- the overflow flag behind a comparison
abbrev pub over : ℕ → ℕ → ℕ → Bool
over n a b = overflows n (signed_of n a -ℤ signed_of n b)

-- by width
less : (w : Width) (a b : ℕ) → a < 2 ^ bits_of w → b < 2 ^ bits_of w → differ (sign (bits_of w) a b) (over (bits_of w) a b) ≡ int_lt (signed_of (bits_of w) a) (signed_of (bits_of w) b)
less W32 a b h k = less_32 a b h k
less W64 a b h k = less_64 a b h k

-- less or equal, of signed words
at_most : (w : Width) (a b : ℕ) → a < 2 ^ bits_of w → b < 2 ^ bits_of w → ((a == b) || int_lt (signed_of (bits_of w) a) (signed_of (bits_of w) b)) ≡ int_le (signed_of (bits_of w) a) (signed_of (bits_of w) b)
at_most W32 a b h k = at_most_32 a b h k
at_most W64 a b h k = at_most_64 a b h k

pub low_small : (w : Width) (a : ℕ) → a < 2 ^ 64 → low_of w a < 2 ^ bits_of w
low_small W32 a h = mod_small a (2 ^ 32) (omega arith)
low_small W64 a h = h

-- what is asked of the flags of a comparison is the condition
asked : (x : Condition) (w : Width) (a b : ℕ) → a < 2 ^ bits_of w → b < 2 ^ bits_of w → x ≢ condition.Set → asks (condition_of x) (nat_lt a b) (a == b) (sign (bits_of w) a b) (over (bits_of w) a b) ≡ conditions.compared x (bits_of w) a b
asked condition.Equal w a b h k n = refl
asked condition.NotEqual w a b h k n = refl
asked condition.Set w a b h k n = absurd (n refl)
asked condition.Greater w a b h k n = above a b
asked condition.GreaterEqual w a b h k n = above_equal a b
asked condition.Less w a b h k n = refl
asked condition.LessEqual w a b h k n = below_equal a b
asked condition.SignedGreater w a b h k n =
    ap (λ v. not ((a == b) || v)) (less w a b h k) ∙ ap not (at_most w a b h k) ∙ not_at_most (signed_of (bits_of w) a) (signed_of (bits_of w) b)
asked condition.SignedGreaterEqual w a b h k n = ap not (less w a b h k) ∙ not_less (signed_of (bits_of w) a) (signed_of (bits_of w) b)
asked condition.SignedLess w a b h k n = less w a b h k
asked condition.SignedLessEqual w a b h k n = ap (λ v. (a == b) || v) (less w a b h k) ∙ at_most w a b h k

module _ {who : Who} {saved : List Value} {c : State} {words mem : List ℕ} {e : Emitted} {count : ℕ} (a : Agrees who saved c words mem e count) where
  -- the flags that a comparison leaves, or AND
  abbrev pub flags_of : Condition → Width → ℕ → Operand → Flags
  flags_of condition.Set w d o = tested (bits_of w) (low_of w (slice_index words d)) (low_of w (operand_of words o))
  flags_of x w d o = compared (bits_of w) (low_of w (slice_index words d)) (low_of w (operand_of words o))

  abbrev Sets : Instr → Flags → Type 0
  Sets i f = act i c ≡ Goes (record c { flags = f })

  cmp_acts : (w : Width) (d : ℕ) (o : Operand) → d < 10 → IsShort o → is_word o ≡ true → Sets (cmp_code w (gpr d) o) (compared (bits_of w) (low_of w (slice_index words d)) (low_of w (operand_of words o)))
  cmp_acts w d (operand.Imm z) h s k =
      reads_word a d (λ p. operated alu.Cmp c w (gpr d) p (extended (word_of z))) h
      ∙ ap (λ q. operated alu.Cmp c w (gpr d) (slice_index words d) q) s
  cmp_acts w d (operand.Reg r) h s k =
      reads_word a d (λ p. with_word c (gpr r.number) (λ q. operated alu.Cmp c w (gpr d) p q)) h
      ∙ reads_word a r.number (λ q. operated alu.Cmp c w (gpr d) (slice_index words d) q) (word_register r.number k)

  test_acts : (w : Width) (d : ℕ) (o : Operand) → d < 10 → IsShort o → is_word o ≡ true → Sets (test_code w (gpr d) o) (tested (bits_of w) (low_of w (slice_index words d)) (low_of w (operand_of words o)))
  test_acts w d (operand.Imm z) h s k =
      reads_word a d (λ p. Goes (record c { flags = tested (bits_of w) (low_of w p) (low_of w (extended (word_of z))) })) h
      ∙ ap (λ q. Goes (record c { flags = tested (bits_of w) (low_of w (slice_index words d)) (low_of w q) })) s
  test_acts w d (operand.Reg r) h s k =
      reads_word a d (λ p. with_word c (gpr r.number) (λ q. Goes (record c { flags = tested (bits_of w) (low_of w p) (low_of w q) }))) h
      ∙ reads_word a r.number (λ q. Goes (record c { flags = tested (bits_of w) (low_of w (slice_index words d)) (low_of w q) })) (word_register r.number k)

  -- the comparison sets the flags that the condition asks
  pub compares : (x : Condition) (w : Width) (d : ℕ) (o : Operand) → d < 10 → IsShort o → is_word o ≡ true → act (compare_code x w d o) c ≡ Goes (record c { flags = flags_of x w d o })
  compares condition.Set w d o h s k = test_acts w d o h s k
  compares x w d o h s k = cmp_acts w d o h s k

  -- the jump goes where the condition says
  pub jumps : (x : Condition) (w : Width) (d : ℕ) (o : Operand) (k : ℕ) → slice_index words d < 2 ^ 64 → operand_of words o < 2 ^ 64 → act (instr.JumpIf (condition_of x) k) (record c { flags = flags_of x w d o }) ≡ cond (holds x w (slice_index words d) (operand_of words o)) (Leaps k) (Goes (record c { flags = flags_of x w d o }))
  jumps condition.Set w d o k h l = refl
  jumps x w d o k h l =
      ap (λ b. cond b (Leaps k) (Goes (record c { flags = flags_of x w d o }))) (asked x w (low_of w (slice_index words d)) (low_of w (operand_of words o)) (low_small w (slice_index words d) h) (low_small w (operand_of words o) l) (λ q. cc))
