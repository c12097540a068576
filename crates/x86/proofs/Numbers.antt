-- Numbers read back.
use Rattle.std.proofs.Common.{◌≡◌, ℕ, ◌+◌, ◌-◌, ◌*◌, ◌/◌, ◌%◌, ◌^◌, ◌<◌, ◌≤◌, Bool, true, false, nat_eq, nat_lt, nat_le, List, ◌++◌, Some, sym, ap, ◌∙◌, arith, ⊎_elim}
use Rattle.std.specs.Prelude.{◌||◌, if◌then◌else◌, ◌==◌, ◌≢◌}
use Rattle.std.proofs.lemmas.Bool.{cases_lt, ne_eqb}
use Rattle.std.proofs.lemmas.Bool.Decides.{Decides-ltb}
use borrow.Author.Tests.{leb-true}
use Rattle.operations.specs.Bytes.{le_bytes}
use Rattle.x86.specs.Encoding.{is_small}
use Rattle.x86.specs.Readings.{two_bytes, four_bytes, eight_bytes, spread}

-- of two bytes
pub read_two : (v : ℕ) (rest : List ℕ) → v < 2 ^ 16 → two_bytes (le_bytes 2 v ++ rest) ≡ Some (v, rest)
read_two v rest h =
    let a = v / 256 in
    let e : v % 256 + 2 ^ 8 * (a % 256) ≡ v = omega arith in
    ap (λ n. Some (n, rest)) e

low_four : (v : ℕ) (rest : List ℕ) → four_bytes (le_bytes 4 v ++ rest) ≡ Some (v % 2 ^ 32, rest)
low_four v rest =
    let a = v / 256 in
    let b = a / 256 in
    let c = b / 256 in
    let e : v % 256 + 2 ^ 8 * (a % 256) + 2 ^ 16 * (b % 256 + 2 ^ 8 * (c % 256)) ≡ v % 2 ^ 32 = omega arith in
    ap (λ n. Some (n, rest)) e

-- of four
pub read_four : (v : ℕ) (rest : List ℕ) → v < 2 ^ 32 → four_bytes (le_bytes 4 v ++ rest) ≡ Some (v, rest)
read_four v rest h =
    let e : v % 2 ^ 32 ≡ v = omega arith in
    low_four v rest ∙ ap (λ n. Some (n, rest)) e

-- of eight
pub read_eight : (v : ℕ) (rest : List ℕ) → v < 2 ^ 64 → eight_bytes (le_bytes 8 v ++ rest) ≡ Some (v, rest)
read_eight v rest h =
    let a = v / 256 in
    let b = a / 256 in
    let c = b / 256 in
    let d = c / 256 in
    let e = d / 256 in
    let f = e / 256 in
    let g = f / 256 in
    let low : v % 256 + 2 ^ 8 * (a % 256) + 2 ^ 16 * (b % 256 + 2 ^ 8 * (c % 256)) + 2 ^ 32 * d ≡ v = omega arith in
    let high : d % 256 + 2 ^ 8 * (e % 256) + 2 ^ 16 * (f % 256 + 2 ^ 8 * (g % 256)) ≡ d = omega arith in
    let all : v % 256 + 2 ^ 8 * (a % 256) + 2 ^ 16 * (b % 256 + 2 ^ 8 * (c % 256)) + 2 ^ 32 * (d % 256 + 2 ^ 8 * (e % 256) + 2 ^ 16 * (f % 256 + 2 ^ 8 * (g % 256))) ≡ v = omega arith in
    ap (λ n. Some (n, rest)) all

-- ---- tests

pub is_less : (a b : ℕ) → a < b → nat_lt a b ≡ true
is_less a b h = (Decides-ltb a b).1 h

pub not_less : (a b : ℕ) → b ≤ a → nat_lt a b ≡ false
not_less a b h = grind (arith, Decides-ltb a b)

-- a test for a number that it is, and for one that it isn't
pub equal : {A : Type 0} (n k : ℕ) (x y : A) → n ≡ k → nat_eq k k ≡ true → (if n == k then x else y) ≡ x
equal n k x y e t = ap (λ m. if m == k then x else y) e ∙ ap (λ b. if b then x else y) t

pub other : {A : Type 0} (n k : ℕ) (x y : A) → n ≢ k → (if n == k then x else y) ≡ y
other n k x y e = ap (λ b. if b then x else y) (ne_eqb n k e)

spread_low : (b : ℕ) → b < 128 → spread b ≡ b
spread_low b h = ap (λ (t : Bool). if t then b else b + (2 ^ 32 - 2 ^ 8)) (is_less b 128 h)

spread_high : (b : ℕ) → 128 ≤ b → spread b ≡ b + (2 ^ 32 - 2 ^ 8)
spread_high b h = ap (λ (t : Bool). if t then b else b + (2 ^ 32 - 2 ^ 8)) (not_less b 128 h)

-- a number that its low byte gives by its sign lies at either end
small_ends : (v : ℕ) → v < 2 ^ 32 → is_small v ≡ true → 128 ≤ v → 2 ^ 32 - 128 ≤ v
small_ends v h s k =
    let e : v % 2 ^ 32 ≡ v = omega arith in
    let t : nat_lt (v % 2 ^ 32) 128 ≡ false = not_less (v % 2 ^ 32) 128 (omega arith) in
    let u : nat_le (2 ^ 32 - 128) (v % 2 ^ 32) ≡ true = ap (λ (b : Bool). b || nat_le (2 ^ 32 - 128) (v % 2 ^ 32)) (sym t) ∙ s in
    let w : 2 ^ 32 - 128 ≤ v % 2 ^ 32 = leb-true (2 ^ 32 - 128) (v % 2 ^ 32) u in
    omega arith

-- a byte whose sign gives a number of 32 bits
pub spread_small : (v : ℕ) → v < 2 ^ 32 → is_small v ≡ true → spread (v % 256) ≡ v
spread_small v h s = ⊎_elim
    (λ (low : v < 128). let e : v % 256 ≡ v = omega arith in spread_low (v % 256) (omega arith) ∙ e)
    (λ (high : 128 ≤ v). let k = small_ends v h s high in let e : v % 256 + (2 ^ 32 - 2 ^ 8) ≡ v = omega arith in spread_high (v % 256) (omega arith) ∙ e)
    (cases_lt v 128)
