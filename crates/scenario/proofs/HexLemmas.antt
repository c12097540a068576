-- Bytes and their pairs of digits.
use Rattle.std.proofs.Common.{◌≡◌, ◌≢◌, ◌<◌, ◌+◌, ◌*◌, ◌/◌, ◌%◌, ℕ, zero, suc, List, [], ◌∷◌, ◌++◌, length, take, set, get_or, Option, Some, None, refl, sym, ap, subst, ◌∙◌, arith, append_assoc}
use Rattle.std.specs.Prelude.{codes}
use Rattle.std.specs.Char.{digit_char}
use Rattle.std.specs.List.{AllByRecursion}
use Rattle.std.proofs.lemmas.List.{take_more, take_more_set}
use Rattle.std.proofs.lemmas.List.Concat.{flat_map-append}
use Rattle.scenario.specs.Hex.{IsPayload, hex_text, pair_text, pairs_text}
use Rattle.scenario.specs.Inside.Reads.{Reads}

-- two digits a byte
pub pairs_length : (v : List ℕ) → length (pairs_text v) ≡ 2 * length v
pairs_length [] = refl
pairs_length (b ∷ rest) = omega (arith, pairs_length rest)

-- the first digit of a byte's pair is its high half
pub pairs_high : (v : List ℕ) (i : ℕ) → i < length v → get_or (pairs_text v) (2 * i) 0 ≡ digit_char (get_or v i 0 / 16)
pairs_high [] i lt = absurd (omega arith)
pairs_high (b ∷ rest) zero lt = refl
pairs_high (b ∷ rest) (suc i) lt =
    let two : 2 * suc i ≡ suc (suc (2 * i)) = omega arith in
    ap (λ k. get_or (pairs_text (b ∷ rest)) k 0) two ∙ pairs_high rest i (omega arith)

-- the second is its low half
pub pairs_low : (v : List ℕ) (i : ℕ) → i < length v → get_or (pairs_text v) (2 * i + 1) 0 ≡ digit_char (get_or v i 0 % 16)
pairs_low [] i lt = absurd (omega arith)
pairs_low (b ∷ rest) zero lt = refl
pairs_low (b ∷ rest) (suc i) lt =
    let two : 2 * suc i + 1 ≡ suc (suc (2 * i + 1)) = omega arith in
    ap (λ k. get_or (pairs_text (b ∷ rest)) k 0) two ∙ pairs_low rest i (omega arith)

-- each of the bytes is small
pub small_at : (v : List ℕ) (i : ℕ) → AllByRecursion (λ b. b < 256) v → get_or v i 0 < 256
small_at [] i h = omega arith
small_at (b ∷ rest) zero h = h.0
small_at (b ∷ rest) (suc i) h = small_at rest i h.1

all_push : (v : List ℕ) (b : ℕ) → AllByRecursion (λ c. c < 256) v → b < 256 → AllByRecursion (λ c. c < 256) (v ++ b ∷ [])
all_push [] b h lt = (lt, tt)
all_push (c ∷ cs) b h lt = (h.0, all_push cs b h.1 lt)

module _ (text bytes : List ℕ) (i high low : ℕ) (inside : 2 * i + 1 < length text) (room : i < length bytes) (small_high : high < 16) (small_low : low < 16) where
  abbrev byte : ℕ
  byte = high * 16 + low

  taken : take (i + 1) (set bytes i byte) ≡ take i bytes ++ byte ∷ []
  taken = take_more_set bytes i byte room

  -- one more byte
  pub pairs_more : take (2 * i) text ≡ pairs_text (take i bytes) → get_or text (2 * i) 0 ≡ digit_char high → get_or text (2 * i + 1) 0 ≡ digit_char low
      → take (2 * (i + 1)) text ≡ pairs_text (take (i + 1) (set bytes i byte))
  pairs_more before first second =
      let count : 2 * (i + 1) ≡ 2 * i + 1 + 1 = omega arith in
      let left : high ≡ byte / 16 = omega arith in
      let right : low ≡ byte % 16 = omega arith in
      ap (λ n. take n text) count
      ∙ take_more text (2 * i + 1) 0 inside
      ∙ ap (λ x. x ++ get_or text (2 * i + 1) 0 ∷ []) (take_more text (2 * i) 0 (omega arith))
      ∙ append_assoc (take (2 * i) text) (get_or text (2 * i) 0 ∷ []) (get_or text (2 * i + 1) 0 ∷ [])
      ∙ (λ k. before k ++ (first ∙ ap digit_char left) k ∷ (second ∙ ap digit_char right) k ∷ [])
      ∙ sym (flat_map-append pair_text (take i bytes) (byte ∷ []))
      ∙ ap pairs_text (sym taken)

  -- and each of them is small
  pub small_more : AllByRecursion (λ c. c < 256) (take i bytes) → AllByRecursion (λ c. c < 256) (take (i + 1) (set bytes i byte))
  small_more h = subst (λ (x : List ℕ). AllByRecursion (λ c. c < 256) x) (sym taken) (all_push (take i bytes) byte h (omega arith))

-- what has some bytes, and isn't `-`
pub hex_reads : (text : List ℕ) (r : Option (List ℕ)) → text ≢ codes "-" → text ≢ [] → Reads pairs_text IsPayload text r → Reads hex_text IsPayload text r
hex_reads text (Some []) other some h = absurd (some h.0)
hex_reads text (Some (b ∷ rest)) other some h = h
hex_reads text None other some none = by
  where
    by : (v : List ℕ) → IsPayload v → text ≢ hex_text v
    by [] fits is = other is
    by (b ∷ rest) fits is = none (b ∷ rest) fits is

-- no payload is written as an empty text
pub none_empty : (v : List ℕ) → [] ≢ hex_text v
none_empty [] e = absurd cc
none_empty (b ∷ rest) e = absurd cc
