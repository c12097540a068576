-- The bytes of a number whose bytes are reversed.
use Rattle.std.proofs.Common.{◌≡◌, ℕ, zero, suc, ◌+◌, ◌-◌, ◌*◌, ◌/◌, ◌%◌, ◌^◌, ◌<◌, inl, inr, refl, sym, ap, ◌∙◌, arith}
use Rattle.std.proofs.Math.Nat.{div-div-eq-div-mul, div-one, mul-add-div_right, one-le-pow}
use Rattle.std.proofs.lemmas.Nat.{div-mul-add, pow-add}
use Rattle.std.proofs.lemmas.Bool.{cases_lt}
use Rattle.std.specs.Int.{byte_at}
use Rattle.operations.specs.ByteSwap.{reversed}
use Rattle.operations.proofs.Bounds.{reversed_below}

-- byte i of a number, by one rule for all
abbrev byte_of : ℕ → ℕ → ℕ
byte_of a i = a / 256 ^ i % 256

power-pos : (n : ℕ) → 0 < 256 ^ n
power-pos n = omega (arith, one-le-pow n 256 (omega arith))

power-suc : (n : ℕ) → 256 ^ (1 + n) ≡ 256 * 256 ^ n
power-suc n = pow-add 256 1 n

regroup : (high p q : ℕ) → high * (p * (256 * q)) ≡ high * p * 256 * q
regroup high p q = grind arith

-- a byte below the highest does not see it
byte_of-below : (high low n i : ℕ) → i < n → byte_of (high * 256 ^ n + low) i ≡ byte_of low i
byte_of-below high low n i h =
    let parts : n ≡ n - i - 1 + (1 + i) = omega arith in
    let split : high * 256 ^ n ≡ high * 256 ^ (n - i - 1) * 256 * 256 ^ i =
    ap (λ k. high * 256 ^ k) parts ∙ ap (λ x. high * x) (pow-add 256 (n - i - 1) (1 + i) ∙ ap (λ x. 256 ^ (n - i - 1) * x) (power-suc i)) ∙ regroup high (256 ^ (n - i - 1)) (256 ^ i) in
    ap (λ x. (x + low) / 256 ^ i % 256) split ∙ ap (λ x. x % 256) (mul-add-div_right (power-pos i) (high * 256 ^ (n - i - 1) * 256) low) ∙ omega arith

-- the next byte of a number is the byte of what stands above its lowest
byte_of-above : (a i : ℕ) → byte_of (a / 256) i ≡ byte_of a (1 + i)
byte_of-above a i = ap (λ x. x % 256) (div-div-eq-div-mul a 256 (256 ^ i)) ∙ ap (λ x. a / x % 256) (sym (power-suc i))

byte_of-lowest : (a : ℕ) → byte_of a 0 ≡ a % 256
byte_of-lowest a = ap (λ x. x % 256) (div-one a)

byte_of-reversed : (n a i : ℕ) → i < n → byte_of (reversed n a) i ≡ byte_of a (n - 1 - i)
byte_of-reversed zero a i h = absurd (omega arith)
byte_of-reversed (suc n) a i h = elim (cases_lt i n) [ inl l ↦ lower l (byte_of-reversed n (a / 256) i l) | inr g ↦ highest (omega arith) ]
  where
    lower : i < n → byte_of (reversed n (a / 256)) i ≡ byte_of (a / 256) (n - 1 - i) → byte_of (reversed (suc n) a) i ≡ byte_of a (suc n - 1 - i)
    lower l rest =
        let next : 1 + (n - 1 - i) ≡ suc n - 1 - i = omega arith in
        byte_of-below (a % 256) (reversed n (a / 256)) n i l ∙ rest ∙ byte_of-above a (n - 1 - i) ∙ ap (byte_of a) next

    highest : i ≡ n → byte_of (reversed (suc n) a) i ≡ byte_of a (suc n - 1 - i)
    highest e =
        let last : 0 ≡ suc n - 1 - i = omega arith in
        ap (byte_of (reversed (suc n) a)) e ∙ ap (λ x. x % 256) (div-mul-add (a % 256) (256 ^ n) (reversed n (a / 256)) (reversed_below n (a / 256))) ∙ omega arith ∙ sym (byte_of-lowest a) ∙ ap (byte_of a) last

byte_at-is : (i a : ℕ) → byte_at i a ≡ byte_of a i
byte_at-is zero a = sym (byte_of-lowest a)
byte_at-is (suc i) a = refl

pub byte_at-reversed : (n a i : ℕ) → i < n → byte_at i (reversed n a) ≡ byte_at (n - 1 - i) a
byte_at-reversed n a i h = byte_at-is i (reversed n a) ∙ byte_of-reversed n a i h ∙ sym (byte_at-is (n - 1 - i) a)
