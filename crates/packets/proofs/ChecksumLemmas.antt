-- What the table gives is what the division of eight bits gives
use Rattle.std.proofs.Common.{◌≡◌, ℕ, zero, suc, ◌+◌, ◌*◌, ◌/◌, ◌%◌, ◌^◌, ◌<◌, Bool, true, cond, eqb, ◌&&◌, List, [], ◌∷◌, length, get_or, replicate, take, drop, ◌++◌, refl, sym, ap, ◌∙◌, zero-add, add-zero, inl, inr, ◌⊎◌, arith}
use Rattle.std.specs.Prelude.{bit_xor, bit_and}
use Rattle.std.specs.List.{fold, flat_map}
use Rattle.std.specs.Simd.{first_chunks}
use Rattle.std.specs.Int.Bits.{xor_assoc, xor_self, xor_zero_r}
use Rattle.std.proofs.lemmas.Bool.{cases_lt, eqb-true}
use Rattle.std.proofs.lemmas.List.{take-append-drop, drop-drop}
use Rattle.std.proofs.lemmas.List.Concat.{flat_map-append}
use Rattle.std.proofs.lemmas.List.Sums.{fold-append}
use Rattle.std.proofs.lemmas.Nat.{xor_comm, xor_shr, xor_mod, xor_block, shr-shr, shr_split, and_mask}
use Rattle.std.proofs.Math.Nat.{div-one, mod-lt, pow-suc, mul_assoc}
use Rattle.packets.specs.declared.table.TheConstants.{TABLE, SECOND, THIRD, FOURTH, FIFTH, SIXTH, SEVENTH, EIGHTH}
use Rattle.packets.specs.Checksum.{polynomial, next_remainder, bits, byte_bits}

zeros : ℕ → List ℕ
zeros n = replicate n 0

is_bit : (n : ℕ) → (n % 2 ≡ 0) ⊎ (n % 2 ≡ 1)
is_bit n =
    let small : n % 2 < 2 = mod-lt n (omega arith) in
    elim (cases_lt (n % 2) 1) [
      | inl h ↦ inl (omega arith)
      | inr h ↦ inr (omega arith)
    ]

turned : (x y : ℕ) → bit_xor (bit_xor x y) polynomial ≡ bit_xor (bit_xor x polynomial) y
turned x y = xor_assoc x y polynomial ∙ ap (λ (z : ℕ). bit_xor x z) (xor_comm y polynomial) ∙ sym (xor_assoc x polynomial y)

picked : (s t x y : ℕ) → (s ≡ 0) ⊎ (s ≡ 1) → (t ≡ 0) ⊎ (t ≡ 1) → cond (eqb (bit_xor s t) 0) (bit_xor x y) (bit_xor (bit_xor x y) polynomial) ≡ bit_xor (cond (eqb s t) x (bit_xor x polynomial)) y
picked s t x y (inl a) (inl b) = rw (a, b) refl
picked s t x y (inl a) (inr b) = rw (a, b) (turned x y)
picked s t x y (inr a) (inl b) = rw (a, b) (turned x y)
picked s t x y (inr a) (inr b) = rw (a, b) refl

-- a bit that was added before
absorbs_one : (r b : ℕ) → next_remainder (bit_xor r b) 0 ≡ bit_xor (next_remainder r (b % 2)) (b / 2)
absorbs_one r b =
    let low : bit_xor r b % 2 ≡ bit_xor (r % 2) (b % 2) = xor_mod r b 1 in
    let high : bit_xor r b / 2 ≡ bit_xor (r / 2) (b / 2) = xor_shr r b 1 in
    rw (low, high) (picked (r % 2) (b % 2) (r / 2) (b / 2) (is_bit r) (is_bit b))

-- bits that were added before
absorbs : (n r b : ℕ) → fold next_remainder (bit_xor r b) (zeros n) ≡ bit_xor (fold next_remainder r (bits n b)) (b / 2 ^ n)
unfolding zeros
absorbs zero r b = ap (λ (z : ℕ). bit_xor r z) (sym (div-one b))
absorbs (suc n) r b =
    let halved : b / 2 / 2 ^ n ≡ b / 2 ^ suc n = shr-shr b 1 n ∙ ap (λ (k : ℕ). b / 2 ^ k) (omega arith) in
    ap (λ (x : ℕ). fold next_remainder x (zeros n)) (absorbs_one r b) ∙ absorbs n (next_remainder r (b % 2)) (b / 2)
    ∙ ap (λ (z : ℕ). bit_xor (fold next_remainder (next_remainder r (b % 2)) (bits n (b / 2))) z) halved

-- ---- the tables

left : ℕ → ℕ
left i = fold next_remainder i (replicate 8 0)

twice : ℕ → ℕ
twice i = left (left i)

thrice : ℕ → ℕ
thrice i = left (twice i)

four_times : ℕ → ℕ
four_times i = left (thrice i)

five_times : ℕ → ℕ
five_times i = left (four_times i)

six_times : ℕ → ℕ
six_times i = left (five_times i)

seven_times : ℕ → ℕ
seven_times i = left (six_times i)

eight_times : ℕ → ℕ
eight_times i = left (seven_times i)

agrees : (ℕ → ℕ) → ℕ → List ℕ → Bool
agrees f i [] = true
agrees f i (t ∷ ts) = eqb t (f i) && agrees f (suc i) ts

both : (a b : Bool) → (a && b) ≡ true → (a ≡ true) × (b ≡ true)
both true true e = (refl, refl)
both true b e = (refl, e)
both a b e = absurd cc

agreed : (f : ℕ → ℕ) (i k : ℕ) (ts : List ℕ) → agrees f i ts ≡ true → k < length ts → get_or ts k 0 ≡ f (i + k)
unfolding agrees
agreed f i k [] e lt = absurd (omega arith)
agreed f i zero (t ∷ ts) e lt = eqb-true t (f i) (both (eqb t (f i)) (agrees f (suc i) ts) e).0 ∙ ap f (sym (add-zero i))
agreed f i (suc k) (t ∷ ts) e lt = agreed f (suc i) k ts (both (eqb t (f i)) (agrees f (suc i) ts) e).1 (omega arith) ∙ (let moved : suc i + k ≡ i + suc k = omega arith in ap f moved)

first_agrees : agrees left 0 TABLE ≡ true
unfolding agrees left
first_agrees = refl

second_agrees : agrees twice 0 SECOND ≡ true
unfolding agrees left twice
second_agrees = refl

third_agrees : agrees thrice 0 THIRD ≡ true
unfolding agrees left twice thrice
third_agrees = refl

fourth_agrees : agrees four_times 0 FOURTH ≡ true
unfolding agrees left twice thrice four_times
fourth_agrees = refl

fifth_agrees : agrees five_times 0 FIFTH ≡ true
unfolding agrees left twice thrice four_times five_times
fifth_agrees = refl

sixth_agrees : agrees six_times 0 SIXTH ≡ true
unfolding agrees left twice thrice four_times five_times six_times
sixth_agrees = refl

seventh_agrees : agrees seven_times 0 SEVENTH ≡ true
unfolding agrees left twice thrice four_times five_times six_times seven_times
seventh_agrees = refl

eighth_agrees : agrees eight_times 0 EIGHTH ≡ true
unfolding agrees left twice thrice four_times five_times six_times seven_times eight_times
eighth_agrees = refl

-- a table has at each place what it agrees with
looked_up_in : (f : ℕ → ℕ) (ts : List ℕ) → agrees f 0 ts ≡ true → (i : ℕ) → i < length ts → get_or ts i 0 ≡ f i
looked_up_in f ts e i lt = agreed f 0 i ts e lt ∙ ap f (zero-add i)

-- ---- a byte

whole : (c : ℕ) → bit_xor (c % 256) (c / 256 * 256) ≡ c
whole c =
    let low : c % 256 < 2 ^ 8 = mod-lt c (omega arith) in
    ap (λ (x : ℕ). bit_xor x (c / 256 * 256)) (omega arith) ∙ ap (λ (y : ℕ). bit_xor (0 * 2 ^ 8 + c % 256) y) (omega arith)
    ∙ xor_block 8 0 (c / 256) (c % 256) 0 low (omega arith)
    ∙ ap (λ (y : ℕ). c / 256 * 256 + y) (xor_zero_r (c % 256)) ∙ shr_split c 8

no_bits : (n m : ℕ) → bits n (m * 2 ^ n) ≡ replicate n 0
no_bits zero m = refl
no_bits (suc n) m =
    let twice : m * 2 ^ suc n ≡ m * 2 ^ n * 2 = ap (λ (x : ℕ). m * x) (pow-suc 2 n) ∙ sym (mul_assoc m (2 ^ n) 2) in
    let even : m * 2 ^ suc n % 2 ≡ 0 = omega (arith, twice) in
    let half : m * 2 ^ suc n / 2 ≡ m * 2 ^ n = omega (arith, twice) in
    rw (even, half) (ap (λ (bs : List ℕ). 0 ∷ bs) (no_bits n m))

-- eight bits of no message: what the low byte leaves, and the others moved
apart : (c : ℕ) → left c ≡ bit_xor (left (c % 256)) (c / 256)
unfolding left zeros
apart c =
    ap (λ (x : ℕ). fold next_remainder x (replicate 8 0)) (sym (whole c)) ∙ absorbs 8 (c % 256) (c / 256 * 256)
    ∙ ap (λ (bs : List ℕ). bit_xor (fold next_remainder (c % 256) bs) (c / 256 * 256 / 2 ^ 8)) (no_bits 8 (c / 256))
    ∙ ap (λ (y : ℕ). bit_xor (fold next_remainder (c % 256) (replicate 8 0)) y) (omega arith)

-- the division by the bits of a byte, which is added before
added : (r b : ℕ) → b < 256 → fold next_remainder r (byte_bits b) ≡ left (bit_xor r b)
unfolding left zeros byte_bits
added r b lt =
    let none : b / 2 ^ 8 ≡ 0 = omega arith in
    sym (absorbs 8 r b ∙ ap (λ (z : ℕ). bit_xor (fold next_remainder r (bits 8 b)) z) none ∙ xor_zero_r _)

-- what is above the low byte of a sum with a byte
above : (r b : ℕ) → b < 256 → bit_xor r b / 256 ≡ r / 256
above r b lt =
    let none : b / 2 ^ 8 ≡ 0 = omega arith in
    xor_shr r b 8 ∙ ap (λ (z : ℕ). bit_xor (r / 2 ^ 8) z) none ∙ xor_zero_r (r / 2 ^ 8)

-- where a byte is looked up
place : ℕ → ℕ → ℕ
place r b = bit_and (bit_xor r b) 255

place_low : (r b : ℕ) → place r b ≡ bit_xor r b % 256
unfolding place
place_low r b = and_mask (bit_xor r b) 8

place_lt : (r b : ℕ) → place r b < 256
place_lt r b = let low : bit_xor r b % 256 < 256 = mod-lt _ (omega arith) in rw (place_low r b) low

-- one byte: what its place leaves, and the others moved
one_byte : (r b : ℕ) → b < 256 → fold next_remainder r (byte_bits b) ≡ bit_xor (left (place r b)) (r / 256)
one_byte r b lt = added r b lt ∙ apart (bit_xor r b) ∙ ap (λ (z : ℕ). bit_xor (left (bit_xor r b % 256)) z) (above r b lt) ∙ ap (λ (z : ℕ). bit_xor (left z) (r / 256)) (sym (place_low r b))

-- a step by the table is eight steps of the division, by the bits of a byte
pub behind_byte : (r b : ℕ) → b < 256 → bit_xor (get_or TABLE (bit_and (bit_xor r b) 255) 0) (r / 2 ^ 8) ≡ fold next_remainder r (byte_bits b)
unfolding place
behind_byte r b lt = ap (λ (z : ℕ). bit_xor z (r / 256)) (looked_up_in _ _ first_agrees (place r b) (place_lt r b)) ∙ sym (one_byte r b lt)

-- ---- eight bytes

summed : (s t x y : ℕ) → (s ≡ 0) ⊎ (s ≡ 1) → (t ≡ 0) ⊎ (t ≡ 1) → cond (eqb (bit_xor s t) 0) (bit_xor x y) (bit_xor (bit_xor x y) polynomial) ≡ bit_xor (cond (eqb s 0) x (bit_xor x polynomial)) (cond (eqb t 0) y (bit_xor y polynomial))
summed s t x y (inl a) (inl b) = rw (a, b) refl
summed s t x y (inl a) (inr b) = rw (a, b) (xor_assoc x y polynomial)
summed s t x y (inr a) (inl b) = rw (a, b) (turned x y)
summed s t x y (inr a) (inr b) =
    let gone : bit_xor (bit_xor y polynomial) polynomial ≡ y = xor_assoc y polynomial polynomial ∙ ap (bit_xor y) (xor_self polynomial) ∙ xor_zero_r y in
    rw (a, b) (sym (xor_assoc x polynomial (bit_xor y polynomial) ∙ ap (bit_xor x) (xor_comm polynomial (bit_xor y polynomial) ∙ gone)))

sum_one : (x y : ℕ) → next_remainder (bit_xor x y) 0 ≡ bit_xor (next_remainder x 0) (next_remainder y 0)
sum_one x y =
    let low : bit_xor x y % 2 ≡ bit_xor (x % 2) (y % 2) = xor_mod x y 1 in
    let high : bit_xor x y / 2 ≡ bit_xor (x / 2) (y / 2) = xor_shr x y 1 in
    rw (low, high) (summed (x % 2) (y % 2) (x / 2) (y / 2) (is_bit x) (is_bit y))

sum_many : (n x y : ℕ) → fold next_remainder (bit_xor x y) (replicate n 0) ≡ bit_xor (fold next_remainder x (replicate n 0)) (fold next_remainder y (replicate n 0))
sum_many zero x y = refl
sum_many (suc n) x y = ap (λ (z : ℕ). fold next_remainder z (replicate n 0)) (sum_one x y) ∙ sum_many n (next_remainder x 0) (next_remainder y 0)

left_sum : (x y : ℕ) → left (bit_xor x y) ≡ bit_xor (left x) (left y)
unfolding left
left_sum x y = sum_many 8 x y

-- one byte, behind which u is added
one_more : (u r b : ℕ) → b < 256 → fold next_remainder (bit_xor u r) (byte_bits b) ≡ bit_xor (bit_xor (left u) (left (place r b))) (r / 256)
one_more u r b lt = added (bit_xor u r) b lt ∙ ap left (xor_assoc u r b) ∙ left_sum u (bit_xor r b) ∙ ap (bit_xor (left u)) (sym (added r b lt) ∙ one_byte r b lt) ∙ sym (xor_assoc (left u) (left (place r b)) (r / 256))

-- four places looked up by themselves are four steps
module _ (r a b c d : ℕ) where
  behind_four : r < 2 ^ 32 → a < 256 → b < 256 → c < 256 → d < 256 →
      bit_xor (bit_xor (bit_xor (four_times (place r a)) (thrice (place (r / 2 ^ 8) b))) (twice (place (r / 2 ^ 16) c))) (left (place (r / 2 ^ 24) d))
      ≡ fold next_remainder (fold next_remainder (fold next_remainder (fold next_remainder r (byte_bits a)) (byte_bits b)) (byte_bits c)) (byte_bits d)
  unfolding twice thrice four_times
  behind_four small la lb lc ld =
      let p = place r a in
      let q = place (r / 2 ^ 8) b in
      let s = place (r / 2 ^ 16) c in
      let t = place (r / 2 ^ 24) d in
      let two : r / 2 ^ 8 / 256 ≡ r / 2 ^ 16 = shr-shr r 8 8 in
      let three : r / 2 ^ 16 / 256 ≡ r / 2 ^ 24 = shr-shr r 16 8 in
      let none : r / 2 ^ 24 / 256 ≡ 0 = omega arith in
      let u2 = bit_xor (twice p) (left q) in
      let u3 = bit_xor (bit_xor (thrice p) (twice q)) (left s) in
      let e1 : fold next_remainder r (byte_bits a) ≡ bit_xor (left p) (r / 2 ^ 8) = one_byte r a la in
      let e2 : fold next_remainder (bit_xor (left p) (r / 2 ^ 8)) (byte_bits b) ≡ bit_xor u2 (r / 2 ^ 16) = one_more (left p) (r / 2 ^ 8) b lb ∙ ap (bit_xor u2) two in
      let e3 : fold next_remainder (bit_xor u2 (r / 2 ^ 16)) (byte_bits c) ≡ bit_xor u3 (r / 2 ^ 24) =
      one_more u2 (r / 2 ^ 16) c lc ∙ ap (λ (z : ℕ). bit_xor (bit_xor z (left s)) (r / 2 ^ 16 / 256)) (left_sum (twice p) (left q)) ∙ ap (bit_xor u3) three in
      let sums : left u3 ≡ bit_xor (bit_xor (four_times p) (thrice q)) (twice s) = left_sum (bit_xor (thrice p) (twice q)) (left s) ∙ ap (λ (z : ℕ). bit_xor z (twice s)) (left_sum (thrice p) (twice q)) in
      let all = bit_xor (bit_xor (bit_xor (four_times p) (thrice q)) (twice s)) (left t) in
      let e4 : fold next_remainder (bit_xor u3 (r / 2 ^ 24)) (byte_bits d) ≡ all =
      one_more u3 (r / 2 ^ 24) d ld ∙ ap (λ (z : ℕ). bit_xor (bit_xor z (left t)) (r / 2 ^ 24 / 256)) sums ∙ ap (bit_xor all) none ∙ xor_zero_r all in
      rw (e1, e2, e3) (sym e4)

-- a byte behind all of a remainder
by_itself : (u b : ℕ) → b < 256 → fold next_remainder u (byte_bits b) ≡ bit_xor (left u) (left b)
by_itself u b lt = added u b lt ∙ left_sum u b

-- of two sums
left_two : (w x y z : ℕ) → left (bit_xor (bit_xor (bit_xor w x) y) z) ≡ bit_xor (bit_xor (bit_xor (left w) (left x)) (left y)) (left z)
left_two w x y z =
    left_sum (bit_xor (bit_xor w x) y) z ∙ ap (λ (v : ℕ). bit_xor v (left z)) (left_sum (bit_xor w x) y ∙ ap (λ (v : ℕ). bit_xor v (left y)) (left_sum w x))

-- behind four bytes more
module _ (w x y z : ℕ) where
  moved_on : four_times (bit_xor (bit_xor (bit_xor (four_times w) (thrice x)) (twice y)) (left z)) ≡ bit_xor (bit_xor (bit_xor (eight_times w) (seven_times x)) (six_times y)) (five_times z)
  unfolding twice thrice four_times five_times six_times seven_times eight_times
  moved_on =
      ap thrice (left_two (four_times w) (thrice x) (twice y) (left z)) ∙ ap twice (left_two (five_times w) (four_times x) (thrice y) (twice z))
      ∙ ap left (left_two (six_times w) (five_times x) (four_times y) (thrice z)) ∙ left_two (seven_times w) (six_times x) (five_times y) (four_times z)

-- four more bytes
module _ (u a b c d : ℕ) where
  four_more : a < 256 → b < 256 → c < 256 → d < 256 →
      fold next_remainder (fold next_remainder (fold next_remainder (fold next_remainder u (byte_bits a)) (byte_bits b)) (byte_bits c)) (byte_bits d)
      ≡ bit_xor (bit_xor (bit_xor (bit_xor (four_times u) (four_times a)) (thrice b)) (twice c)) (left d)
  unfolding twice thrice four_times
  four_more la lb lc ld =
      let e1 : fold next_remainder u (byte_bits a) ≡ bit_xor (left u) (left a) = by_itself u a la in
      let u2 = bit_xor (bit_xor (twice u) (twice a)) (left b) in
      let e2 : fold next_remainder (bit_xor (left u) (left a)) (byte_bits b) ≡ u2 = by_itself (bit_xor (left u) (left a)) b lb ∙ ap (λ (v : ℕ). bit_xor v (left b)) (left_sum (left u) (left a)) in
      let s2 : left u2 ≡ bit_xor (bit_xor (thrice u) (thrice a)) (twice b) = left_sum (bit_xor (twice u) (twice a)) (left b) ∙ ap (λ (v : ℕ). bit_xor v (twice b)) (left_sum (twice u) (twice a)) in
      let u3 = bit_xor (bit_xor (bit_xor (thrice u) (thrice a)) (twice b)) (left c) in
      let e3 : fold next_remainder u2 (byte_bits c) ≡ u3 = by_itself u2 c lc ∙ ap (λ (v : ℕ). bit_xor v (left c)) s2 in
      let e4 : fold next_remainder u3 (byte_bits d) ≡ bit_xor (bit_xor (bit_xor (bit_xor (four_times u) (four_times a)) (thrice b)) (twice c)) (left d) =
      by_itself u3 d ld ∙ ap (λ (v : ℕ). bit_xor v (left d)) (left_two (thrice u) (thrice a) (twice b) (left c)) in
      rw (e1, e2, e3) e4

-- eight places looked up by themselves are eight steps
module _ (r a b c d e f g h : ℕ) where
  looked_up : ℕ
  looked_up =
      bit_xor (bit_xor (bit_xor (bit_xor (bit_xor (bit_xor (bit_xor (get_or EIGHTH (bit_and (bit_xor r a) 255) 0) (get_or SEVENTH (bit_and (bit_xor (r / 2 ^ 8) b) 255) 0)) (get_or SIXTH (bit_and (bit_xor (r / 2 ^ 16) c) 255) 0)) (get_or FIFTH (bit_and (bit_xor (r / 2 ^ 24) d) 255) 0)) (get_or FOURTH e 0)) (get_or THIRD f 0)) (get_or SECOND g 0)) (get_or TABLE h 0)

  halfway : ℕ
  halfway = fold next_remainder (fold next_remainder (fold next_remainder (fold next_remainder r (byte_bits a)) (byte_bits b)) (byte_bits c)) (byte_bits d)

  behind_eight : r < 2 ^ 32 → a < 256 → b < 256 → c < 256 → d < 256 → e < 256 → f < 256 → g < 256 → h < 256 →
      looked_up ≡ fold next_remainder (fold next_remainder (fold next_remainder (fold next_remainder halfway (byte_bits e)) (byte_bits f)) (byte_bits g)) (byte_bits h)
  unfolding place looked_up halfway
  behind_eight small la lb lc ld le lf lg lh =
      let p = place r a in
      let q = place (r / 2 ^ 8) b in
      let s = place (r / 2 ^ 16) c in
      let t = place (r / 2 ^ 24) d in
      let sum : ℕ → ℕ = λ v. bit_xor (bit_xor (bit_xor (bit_xor v (four_times e)) (thrice f)) (twice g)) (left h) in
      let there : four_times halfway ≡ bit_xor (bit_xor (bit_xor (eight_times p) (seven_times q)) (six_times s)) (five_times t) =
      ap four_times (sym (behind_four r a b c d small la lb lc ld)) ∙ moved_on p q s t in
      rw (looked_up_in _ _ eighth_agrees p (place_lt r a), looked_up_in _ _ seventh_agrees q (place_lt (r / 2 ^ 8) b), looked_up_in _ _ sixth_agrees s (place_lt (r / 2 ^ 16) c), looked_up_in _ _ fifth_agrees t (place_lt (r / 2 ^ 24) d), looked_up_in _ _ fourth_agrees e le, looked_up_in _ _ third_agrees f lf, looked_up_in _ _ second_agrees g lg, looked_up_in _ _ first_agrees h lh)
      (sym (four_more halfway e f g h le lf lg lh ∙ ap sum there))

-- a list of eight
pub behind_list : (r : ℕ) (w : List ℕ) → r < 2 ^ 32 → length w ≡ 8 → ((i : ℕ) → get_or w i 0 < 256) →
    bit_xor (bit_xor (bit_xor (bit_xor (bit_xor (bit_xor (bit_xor (get_or EIGHTH (bit_and (bit_xor r (get_or w 0 0)) 255) 0) (get_or SEVENTH (bit_and (bit_xor (r / 2 ^ 8) (get_or w 1 0)) 255) 0)) (get_or SIXTH (bit_and (bit_xor (r / 2 ^ 16) (get_or w 2 0)) 255) 0)) (get_or FIFTH (bit_and (bit_xor (r / 2 ^ 24) (get_or w 3 0)) 255) 0)) (get_or FOURTH (get_or w 4 0) 0)) (get_or THIRD (get_or w 5 0) 0)) (get_or SECOND (get_or w 6 0) 0)) (get_or TABLE (get_or w 7 0) 0)
    ≡ fold next_remainder r (flat_map byte_bits w)
unfolding looked_up halfway
behind_list r [] small is lt = absurd (omega (arith, is))
behind_list r (a ∷ []) small is lt = absurd (omega (arith, is))
behind_list r (a ∷ b ∷ []) small is lt = absurd (omega (arith, is))
behind_list r (a ∷ b ∷ c ∷ []) small is lt = absurd (omega (arith, is))
behind_list r (a ∷ b ∷ c ∷ d ∷ []) small is lt = absurd (omega (arith, is))
behind_list r (a ∷ b ∷ c ∷ d ∷ e ∷ []) small is lt = absurd (omega (arith, is))
behind_list r (a ∷ b ∷ c ∷ d ∷ e ∷ f ∷ []) small is lt = absurd (omega (arith, is))
behind_list r (a ∷ b ∷ c ∷ d ∷ e ∷ f ∷ g ∷ []) small is lt = absurd (omega (arith, is))
behind_list r (a ∷ b ∷ c ∷ d ∷ e ∷ f ∷ g ∷ h ∷ []) small is lt =
    let bytes = flat_map byte_bits in
    let one = fold next_remainder r (byte_bits a) in
    let two = fold next_remainder one (byte_bits b) in
    let three = fold next_remainder two (byte_bits c) in
    let four = fold next_remainder three (byte_bits d) in
    let five = fold next_remainder four (byte_bits e) in
    let six = fold next_remainder five (byte_bits f) in
    let seven = fold next_remainder six (byte_bits g) in
    behind_eight r a b c d e f g h small (lt 0) (lt 1) (lt 2) (lt 3) (lt 4) (lt 5) (lt 6) (lt 7)
    ∙ sym (fold-append next_remainder r (byte_bits a) (bytes (b ∷ c ∷ d ∷ e ∷ f ∷ g ∷ h ∷ []))
    ∙ fold-append next_remainder one (byte_bits b) (bytes (c ∷ d ∷ e ∷ f ∷ g ∷ h ∷ []))
    ∙ fold-append next_remainder two (byte_bits c) (bytes (d ∷ e ∷ f ∷ g ∷ h ∷ []))
    ∙ fold-append next_remainder three (byte_bits d) (bytes (e ∷ f ∷ g ∷ h ∷ []))
    ∙ fold-append next_remainder four (byte_bits e) (bytes (f ∷ g ∷ h ∷ []))
    ∙ fold-append next_remainder five (byte_bits f) (bytes (g ∷ h ∷ []))
    ∙ fold-append next_remainder six (byte_bits g) (bytes (h ∷ []))
    ∙ fold-append next_remainder seven (byte_bits h) [])
behind_list r (a ∷ b ∷ c ∷ d ∷ e ∷ f ∷ g ∷ h ∷ k ∷ w) small is lt = absurd (omega (arith, is))

-- words, and the bytes behind them
pub in_words : (r n : ℕ) (xs : List ℕ) → fold next_remainder (fold next_remainder r (flat_map (flat_map byte_bits) (first_chunks 8 n xs))) (flat_map byte_bits (drop (n * 8) xs)) ≡ fold next_remainder r (flat_map byte_bits xs)
in_words r zero xs = refl
in_words r (suc n) xs =
    let word = flat_map byte_bits (take 8 xs) in
    let rest = flat_map (flat_map byte_bits) (first_chunks 8 n (drop 8 xs)) in
    let moved : drop (suc n * 8) xs ≡ drop (n * 8) (drop 8 xs) = sym (drop-drop (n * 8) 8 xs ∙ ap (λ (k : ℕ). drop k xs) (omega arith)) in
    let parts : flat_map byte_bits xs ≡ word ++ flat_map byte_bits (drop 8 xs) = ap (flat_map byte_bits) (sym (take-append-drop 8 xs)) ∙ flat_map-append byte_bits (take 8 xs) (drop 8 xs) in
    rw (moved, fold-append next_remainder r word rest, parts, fold-append next_remainder r word (flat_map byte_bits (drop 8 xs))) (in_words (fold next_remainder r word) n (drop 8 xs))
