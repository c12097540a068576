-- Fields of a fixed length, read at once
use Rattle.std.proofs.Common.{◌≡◌, ℕ, ◌+◌, ◌-◌, ◌<◌, ◌≤◌, ◌≢◌, List, length, take, drop, Ok, Err, inl, inr, refl, ap, ◌∙◌, sym, arith}
use Rattle.std.proofs.Math.Seq.{take-length}
use Rattle.std.proofs.lemmas.Bool.{cases_lt, lt-ltb, le-ltb, eq-eqb, ne_eqb}
use Rattle.std.proofs.lemmas.List.{length-drop, drop-drop}
use Rattle.byteorder.specs.Endian.{little_number}
use Rattle.byteorder.specs.Numbers.{little_from-take}
use Rattle.packets.specs.declared.fault.PacketFault.TheVariants.{Fields}
use Rattle.packets.specs.Inside.Reader.{Reader, number_at, both, whole}

-- what is left behind so many bytes, as a slice has it
pub rest_is : (n : ℕ) (bytes : List ℕ) → take (length bytes - n) (drop n bytes) ≡ drop n bytes
rest_is n bytes = ap (λ (m : ℕ). take m (drop n bytes)) (sym (length-drop n bytes)) ∙ take-length (drop n bytes)

-- what reads n bytes, and tells of them just this
pub record Fixed {A : Type 0} (n : ℕ) (read : Reader A) (value : List ℕ → A) : Type 0 where
  pub none : (bytes : List ℕ) → length bytes < n → read bytes ≡ Err Fields
  pub some : (bytes : List ℕ) → n ≤ length bytes → read bytes ≡ Ok (value bytes, drop n bytes)

pub one : (n : ℕ) → Fixed n (number_at n) (little_number n)
unfolding number_at
one n = record {
  none = λ bytes lt. rw (lt-ltb _ _ lt) refl;
  some = λ bytes le. rw (le-ltb _ _ le, little_from-take 0 n n bytes (omega arith)) refl;
}

-- a number of eight bytes before it
one_and : {A : Type 0} (n : ℕ) (read : Reader A) (value : List ℕ → A) → Fixed n read value → Fixed (8 + n) (both (number_at 8) read) (λ bytes. (little_number 8 bytes, value (drop 8 bytes)))
one_and n read value next = record {
  none = λ bytes lt.
      elim (cases_lt (length bytes) 8) [
        | inl few ↦ rw ((one 8).none bytes few) refl
        | inr le ↦ rw ((one 8).some bytes le, next.none (drop 8 bytes) (omega (arith, lt, length-drop 8 bytes))) refl
      ];
  some = λ bytes le. rw ((one 8).some bytes (omega (arith, le)), next.some (drop 8 bytes) (omega (arith, le, length-drop 8 bytes)), drop-drop n 8 bytes) refl;
}

pub two : Fixed 16 (both (number_at 8) (number_at 8)) (λ bytes. (little_number 8 bytes, little_number 8 (drop 8 bytes)))
two = one_and 8 (number_at 8) (little_number 8) (one 8)

pub three : Fixed 24 (both (number_at 8) (both (number_at 8) (number_at 8))) (λ bytes. (little_number 8 bytes, (little_number 8 (drop 8 bytes), little_number 8 (drop 8 (drop 8 bytes)))))
three = one_and 16 (both (number_at 8) (number_at 8)) (λ bytes. (little_number 8 bytes, little_number 8 (drop 8 bytes))) two

-- these, and nothing behind them
pub not_alone : {A : Type 0} {n : ℕ} {read : Reader A} {value : List ℕ → A} → Fixed n read value → (bytes : List ℕ) → length bytes ≢ n → whole read bytes ≡ Err Fields
not_alone {A} {n} is bytes ne =
    elim (cases_lt (length bytes) n) [
      | inl few ↦ rw (is.none bytes few) refl
      | inr le ↦ rw (is.some bytes le, ne_eqb (length (drop n bytes)) 0 (omega (arith, ne, le, length-drop n bytes))) refl
    ]

pub alone : {A : Type 0} {n : ℕ} {read : Reader A} {value : List ℕ → A} → Fixed n read value → (bytes : List ℕ) → length bytes ≡ n → whole read bytes ≡ Ok (value bytes)
alone {A} {n} is bytes e = rw (is.some bytes (omega (arith, e)), eq-eqb (length (drop n bytes)) 0 (omega (arith, e, length-drop n bytes))) refl
