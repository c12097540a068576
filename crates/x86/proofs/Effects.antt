-- Only plain instructions do something.
use Rattle.std.proofs.Common.{◌≡◌, ◌≢◌, ℕ, ◌+◌, ◌-◌, ◌*◌, ◌%◌, ◌^◌, ◌<◌, Bool, true, false, cond, List, [], ◌∷◌, length, refl, arith}
use Rattle.std.specs.Prelude.{◌&&◌, ◌==◌, not, nat_lt, nat_le, slice_range}
use Rattle.std.proofs.lemmas.Bool.Decides.{nat_tests}
use Rattle.decode.specs.declared.insn.Width.TheVariants.{W32, W64}
use Rattle.decode.specs.declared.insn.Size.{Size}
use Rattle.decode.specs.declared.insn.Size.TheVariants as size
use Rattle.decode.specs.Encoding.{bytes_in, loaded, extension_offset, extension_width}
use Rattle.operations.specs.Words.{bits_of, low_of, extended_from}
use Rattle.operations.specs.Bytes.{le_value, le_bytes, overwritten}
use Rattle.operations.specs.ByteSwap.{reversed}
use Rattle.operations.specs.Operations.{sign_extension_of}
use Rattle.x86.specs.declared.instruction.Instr.{Instr}
use Rattle.x86.specs.declared.instruction.Instr.TheVariants as instr
use Rattle.x86.specs.Machine.{Value, Word, At, Block, State, Outcome, Goes, Stuck, by_outcome, extended, is_named, value, with_value, word_or_stuck, with_word, put, behind, block, reach, written, tested, operated, computed, popped, shifts, divides, divides_signed, low_swapped, reads, writes, act}
use Rattle.x86.specs.Readings.{IsNumberOf, IsPlain}
use Rattle.x86.proofs.Plain.{clip, plain}

-- it isn't stuck
abbrev pub Does : Outcome → Type 0
Does o = by_outcome o (λ d. Unit {0}) (λ d. Unit {0}) (Unit {0}) ⊥

-- one of the registers that are named
abbrev IsOne : ℕ → Type 0
IsOne r = (r < 16) × (r ≢ 4)

if_does : (b : Bool) (o : Outcome) → Does (cond b o Stuck) → (b ≡ true) × Does o
if_does true o d = (refl, d)
if_does false o d = absurd d

one_by : (a b : Bool) (r : ℕ) → nat_lt r 16 ≡ a → (r == 4) ≡ b → (a && not b) ≡ true → IsOne r
one_by true false r p q e = (grind (arith, nat_tests), grind (arith, nat_tests))
one_by true true r p q e = absurd cc
one_by false b r p q e = absurd cc

named : (r : ℕ) → is_named r ≡ true → IsOne r
named r e = one_by (nat_lt r 16) (r == 4) r refl refl e

value_does : (c : State) (r : ℕ) (go : Value → Outcome) → Does (with_value c r go) → IsOne r × Does (go (value c r))
value_does c r go d = let x = if_does (is_named r) (go (value c r)) d in (named r x.0, x.1)

word_is : (v : Value) (go : ℕ → Outcome) → Does (word_or_stuck v go) → (n : ℕ) × Does (go n)
word_is (Word n) go d = (n, d)
word_is (At b o) go d = absurd d

word_does : (c : State) (r : ℕ) (go : ℕ → Outcome) → Does (with_word c r go) → IsOne r × ((n : ℕ) × Does (go n))
word_does c r go d =
    let x = value_does c r (λ v. word_or_stuck v go) d in (x.0, word_is (value c r) go x.1)

put_does : (c : State) (r : ℕ) (v : Value) → Does (put c r v) → IsOne r
put_does c r v d = named r (if_does (is_named r) _ d).0

reach_does : (c : State) (v : Value) (n : ℕ) (go : Block → ℕ → Outcome) → Does (reach c v n go) → (b : Block) × (o : ℕ) × Does (go b o)
reach_does c (Word a) n go d = absurd d
reach_does c (At b o) n go d = (b, o, (if_does (nat_le (o + n) (length (block c b))) (go b o) d).1)

reads_does : (c : State) (base disp n : ℕ) (go : List ℕ → Outcome) → Does (reads c base disp n go) → IsOne base × ((bs : List ℕ) × Does (go bs))
reads_does c base disp n go d =
    let at = λ (b : Block) (o : ℕ). go (slice_range (block c b) o (o + n)) in
    let x = value_does c base (λ v. reach c (behind v (extended disp)) n at) d in
    let y = reach_does c (behind (value c base) (extended disp)) n at x.1 in
    (x.0, (slice_range (block c y.0) y.1 (y.1 + n), y.2))

writes_does : (c : State) (base disp n : ℕ) (bs : List ℕ) → Does (writes c base disp n bs) → IsOne base
writes_does c base disp n bs d =
    (value_does c base (λ v. reach c (behind v (extended disp)) n (λ b o. written c b (overwritten (block c b) o bs))) d).0

pop_does : (c : State) (r : ℕ) (vs : List Value) → Does (popped c r vs) → IsOne r
pop_does c r [] d = absurd d
pop_does c r (v ∷ vs) d = put_does (record c { pushed = vs }) r v d

clip_number : (s : Size) (v : ℕ) → IsNumberOf s (clip s v)
clip_number size.Byte v = omega arith
clip_number size.Half v = omega arith
clip_number size.Word v = omega arith
clip_number size.Double v = omega arith

pub plain_is : (i : Instr) (c : State) → Does (act i c) → IsPlain (plain i)
plain_is (instr.Mov W64 to from) c d =
    let x = value_does c from (put c to) d in ((put_does c to (value c from) x.1).0, x.0.0)
plain_is (instr.Mov W32 to from) c d =
    let x = word_does c from (λ a. put c to (Word (a % 2 ^ 32))) d in ((put_does c to (Word (x.1.0 % 2 ^ 32)) x.1.1).0, x.0.0)
plain_is (instr.MovImm to imm) c d = ((put_does c to (Word (imm % 2 ^ 32)) d).0, omega arith)
plain_is (instr.MovSigned to imm) c d = ((put_does c to (Word (extended imm)) d).0, omega arith)
plain_is (instr.MovWide to imm) c d = ((put_does c to (Word (imm % 2 ^ 64)) d).0, omega arith)
plain_is (instr.MovSx e to from) c d =
    let go = λ (n : ℕ). Word (extended_from (extension_offset e) (bits_of (extension_width e)) n) in
    let x = word_does c from (λ n. put c to (go n)) d in
    ((put_does c to (go x.1.0) x.1.1).0, x.0.0)
plain_is (instr.MovZx to from) c d =
    let x = word_does c from (λ n. put c to (Word (n % 2 ^ 16))) d in ((put_does c to (Word (x.1.0 % 2 ^ 16)) x.1.1).0, x.0.0)
plain_is (instr.Alu op w to from) c d =
    let x = word_does c to (λ a. with_word c from (λ b. operated op c w to a b)) d in
    let y = word_does c from (λ b. operated op c w to x.1.0 b) x.1.1 in
    (x.0.0, y.0.0)
plain_is (instr.AluImm op w to imm) c d =
    let x = word_does c to (λ a. operated op c w to a (extended imm)) d in (x.0.0, omega arith)
plain_is (instr.Test w a b) c d =
    let done = λ (x y : ℕ). Goes (record c { flags = tested (bits_of w) (low_of w x) (low_of w y) }) in
    let x = word_does c a (λ x. with_word c b (λ y. done x y)) d in
    let y = word_does c b (λ y. done x.1.0 y) x.1.1 in
    (x.0.0, y.0.0)
plain_is (instr.TestImm w a imm) c d =
    let x = word_does c a (λ x. Goes (record c { flags = tested (bits_of w) (low_of w x) (low_of w (extended imm)) })) d in (x.0.0, omega arith)
plain_is (instr.Mul w to from) c d =
    let x = word_does c to (λ a. with_word c from (λ b. computed c to (low_of w a * low_of w b % 2 ^ bits_of w))) d in
    let y = word_does c from (λ b. computed c to (low_of w x.1.0 * low_of w b % 2 ^ bits_of w)) x.1.1 in
    (x.0.0, y.0.0)
plain_is (instr.MulImm w to from imm) c d =
    let go = λ (a : ℕ). low_of w a * low_of w (extended imm) % 2 ^ bits_of w in
    let x = word_does c from (λ a. computed c to (go a)) d in
    ((named to (if_does (is_named to) _ x.1.1).0).0, x.0.0, omega arith)
plain_is (instr.Neg w to) c d =
    (word_does c to (λ a. computed c to ((2 ^ bits_of w - low_of w a) % 2 ^ bits_of w)) d).0.0
plain_is (instr.Shift op w to count) c d =
    let x = word_does c to (λ a. shifts op c w to a (count % bits_of w)) d in (x.0.0, omega arith)
plain_is (instr.ShiftBy op w to) c d =
    (word_does c to (λ a. with_word c 1 (λ k. shifts op c w to a (k % bits_of w))) d).0.0
plain_is (instr.SwapLow to) c d = (word_does c to (λ a. computed c to (low_swapped a)) d).0.0
plain_is (instr.Swap W32 to) c d = (word_does c to (λ a. put c to (Word (reversed 4 a))) d).0.0
plain_is (instr.Swap W64 to) c d = (word_does c to (λ a. put c to (Word (reversed 8 a))) d).0.0
plain_is (instr.Div w by) c d =
    let x = word_does c 0 (λ a. with_word c 2 (λ e. with_word c by (λ b. divides c w a e b))) d in
    let y = word_does c 2 (λ e. with_word c by (λ b. divides c w x.1.0 e b)) x.1.1 in
    (word_does c by (λ b. divides c w x.1.0 y.1.0 b) y.1.1).0.0
plain_is (instr.SignedDiv w by) c d =
    let go = λ (a e b : ℕ). divides_signed c (bits_of w) (low_of w a) (low_of w e) (low_of w b) in
    let x = word_does c 0 (λ a. with_word c 2 (λ e. with_word c by (λ b. go a e b))) d in
    let y = word_does c 2 (λ e. with_word c by (λ b. go x.1.0 e b)) x.1.1 in
    (word_does c by (λ b. go x.1.0 y.1.0 b) y.1.1).0.0
plain_is (instr.Load s to base disp) c d =
    let x = reads_does c base disp (bytes_in s) (λ bs. put c to (Word (le_value bs))) d in
    ((put_does c to (Word (le_value x.1.0)) x.1.1).0, x.0.0, omega arith)
plain_is (instr.LoadSx s to base disp) c d =
    let x = reads_does c base disp (bytes_in (loaded s)) (λ bs. put c to (Word (sign_extension_of s (le_value bs)))) d in
    ((put_does c to (Word (sign_extension_of s (le_value x.1.0))) x.1.1).0, x.0.0, omega arith)
plain_is (instr.Store s base disp from) c d =
    let x = word_does c from (λ n. writes c base disp (bytes_in s) (le_bytes (bytes_in s) n)) d in
    ((writes_does c base disp (bytes_in s) (le_bytes (bytes_in s) x.1.0) x.1.1).0, omega arith, x.0.0)
plain_is (instr.StoreImm s base disp imm) c d =
    let x = writes_does c base disp (bytes_in s) (le_bytes (bytes_in s) (extended imm)) d in
    (x.0, omega arith, clip_number s imm)
plain_is (instr.LoadLong base disp) c d =
    let x = reads_does c base disp 16 (λ bs. Goes (record c { long = bs })) d in (x.0.0, omega arith)
plain_is (instr.StoreLong base disp) c d =
    let x = if_does (length c.long == 16) (writes c base disp 16 c.long) d in
    ((writes_does c base disp 16 c.long x.1).0, omega arith)
plain_is (instr.Lea to base disp) c d =
    let x = value_does c base (λ v. put c to (behind v (extended disp))) d in
    ((put_does c to (behind (value c base) (extended disp)) x.1).0, x.0.0, omega arith)
plain_is (instr.LeaBy to base index disp) c d =
    let x = value_does c base (λ v. with_word c index (λ n. put c to (behind (behind v n) (extended disp)))) d in
    let y = word_does c index (λ n. put c to (behind (behind (value c base) n) (extended disp))) x.1 in
    ((put_does c to (behind (behind (value c base) y.1.0) (extended disp)) y.1.1).0, x.0.0, y.0.0, y.0.1, omega arith)
plain_is (instr.Jump distance) c d = omega arith
plain_is (instr.JumpIf x distance) c d = omega arith
plain_is (instr.JumpShort distance) c d = omega arith
plain_is (instr.JumpIfShort x distance) c d = omega arith
plain_is (instr.Push r) c d = (value_does c r (λ v. Goes (record c { pushed = v ∷ c.pushed })) d).0.0
plain_is (instr.Pop r) c d = (pop_does c r c.pushed d).0
plain_is i c d = tt
