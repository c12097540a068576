-- Readers that read just what is spelled
use Rattle.std.proofs.Common.{◌≡◌, ℕ, zero, suc, ◌+◌, ◌^◌, ◌<◌, ◌≤◌, Bool, true, false, cond, ltb, eqb, List, [], ◌∷◌, ◌++◌, length, get_or, take, drop, Ok, Err, refl, sym, ap, subst, ◌∙◌, append_assoc, arith, inl, inr}
use Rattle.std.specs.Int.{w16, w32, w64, from_le_bytes}
use Rattle.std.specs.List.{flat_map, AllByRecursion}
use Rattle.std.proofs.lemmas.Bool.{cases_lt, ltb-false, le-ltb, eqb-true}
use Rattle.std.proofs.lemmas.List.{take_at, drop_at, take-append-drop, length-append, length-take, get_or-drop, get_or-take, get_or_past, append-nil, nil_from_length}
use Rattle.std.proofs.lemmas.Nat.{le_bytes_2, le_bytes_4, le_bytes_8}
use Rattle.byteorder.specs.Endian.{little_bytes, little_number}
use Rattle.byteorder.specs.Numbers.{little_number-reads_back, little_from-lt, length-bytes_low_first}
use Rattle.packets.specs.declared.page.LoggedMessage.{LoggedMessage}
use Rattle.packets.specs.declared.page.Pair.{Pair}
use Rattle.packets.specs.declared.fault.PacketFault.{PacketFault}
use Rattle.packets.specs.declared.fault.PacketFault.TheVariants.{Fields}
use Rattle.packets.specs.Format.{short_bytes, long_bytes, IsLong, IsPayload, IsEntry, IsPair, IsPage, payload_bytes, entry_bytes, pair_bytes, page_bytes}
use Rattle.packets.specs.Kept.{word_bytes}
use Rattle.packets.specs.Inside.Reader.{◌>>=◌, Reader, bytes_at, byte_at, number_at, payload_at, both, times, counted_at, entry_at, pair_at, whole}
pub use Rattle.packets.proofs.Steps.{done, broken, ok_is, err_is, not_both, bind_ok, bind_err, guard_ok, passed_ok, passed, cond_err}

abbrev pub IsBytes : List ℕ → Type 0
IsBytes bytes = (i : ℕ) → get_or bytes i 0 < 256

pub IsBytes-drop : (n : ℕ) (bytes : List ℕ) → IsBytes bytes → IsBytes (drop n bytes)
IsBytes-drop n bytes h i = rw get_or-drop (h (n + i))

pub IsBytes-take : (n : ℕ) (bytes : List ℕ) → IsBytes bytes → IsBytes (take n bytes)
IsBytes-take n bytes h i =
    elim (cases_lt i n) [
      | inl lt ↦ rw (get_or-take n bytes i 0 lt) (h i)
      | inr le ↦ rw (get_or_past (take n bytes) i 0 (omega (arith, length-take n bytes))) (omega arith)
    ]

-- ---- what a reader takes

pub record Takes (A : Type 0) (P : A → Type 0) (spell : A → List ℕ) (bytes : List ℕ) (x : A × List ℕ) : Type 0 where
  pub fits : P x.0
  pub parts : bytes ≡ spell x.0 ++ x.1
  pub rest : IsBytes x.1

-- reading takes just what is spelled, of values with P
pub record Codec (A : Type 0) (P : A → Type 0) (spell : A → List ℕ) (read : Reader A) : Type 0 where
  pub takes : (bytes : List ℕ) (x : A × List ℕ) → IsBytes bytes → read bytes ≡ Ok x → Takes A P spell bytes x
  pub again : (a : A) (rest : List ℕ) → P a → read (spell a ++ rest) ≡ Ok (a, rest)
  pub fails : (bytes : List ℕ) (f : PacketFault) → read bytes ≡ Err f → f ≡ Fields

-- ---- bytes

bytes_takes : (n : ℕ) (bytes : List ℕ) (x : List ℕ × List ℕ) → IsBytes bytes → bytes_at n bytes ≡ Ok x → (bytes ≡ x.0 ++ x.1) × IsBytes x.1 × (length x.0 ≡ n) × IsBytes x.0
bytes_takes n bytes x fits e =
    let g = guard_ok (ltb (length bytes) n) Fields (take n bytes, drop n bytes) x e in
    let long : n ≤ length bytes = ltb-false _ _ g.0 in
    let len : length (take n bytes) ≡ n = omega (arith, length-take n bytes) in
    subst (λ (p : List ℕ × List ℕ). (bytes ≡ p.0 ++ p.1) × IsBytes p.1 × (length p.0 ≡ n) × IsBytes p.0) g.1 (sym (take-append-drop n bytes), IsBytes-drop n bytes fits, len, IsBytes-take n bytes fits)

bytes_fails : (n : ℕ) (bytes : List ℕ) (f : PacketFault) → bytes_at n bytes ≡ Err f → f ≡ Fields
bytes_fails n bytes f e =
    elim (cond_err (ltb (length bytes) n) Fields (Ok (take n bytes, drop n bytes)) f e) [
      | inl h ↦ sym h.1
      | inr h ↦ absurd (not_both (take n bytes, drop n bytes) f h.1)
    ]

bytes_again : (n : ℕ) (text rest : List ℕ) → length text ≡ n → bytes_at n (text ++ rest) ≡ Ok (text, rest)
bytes_again n text rest len =
    let long : ltb (length (text ++ rest)) n ≡ false = le-ltb _ _ (omega (arith, length-append text rest, len)) in
    rw (long, take_at text rest n len, drop_at text rest n len) refl

-- so many bytes are read just as they stand
pub bytes_codec : (n : ℕ) → Codec (List ℕ) (λ text. length text ≡ n) (λ text. text) (bytes_at n)
bytes_codec n = record {
  takes = λ bytes x fits e. (let t = bytes_takes n bytes x fits e in record { fits = t.2; parts = t.0; rest = t.1 });
  again = λ text rest len. bytes_again n text rest len;
  fails = bytes_fails n;
}

-- a byte is read just as it stands
pub byte_codec : Codec ℕ (λ b. b < 256) (λ b. b ∷ []) byte_at
byte_codec = record {
  takes = byte_takes;
  again = λ b rest h. refl;
  fails = byte_fails;
}
  where
    byte_fails : (bytes : List ℕ) (f : PacketFault) → byte_at bytes ≡ Err f → f ≡ Fields
    byte_fails [] f e = sym (err_is {A = ℕ × List ℕ} Fields f e)
    byte_fails (b ∷ rest) f e = absurd cc

    byte_takes : (bytes : List ℕ) (x : ℕ × List ℕ) → IsBytes bytes → byte_at bytes ≡ Ok x → Takes ℕ (λ b. b < 256) (λ b. b ∷ []) bytes x
    byte_takes [] x fits e = absurd cc
    byte_takes (b ∷ rest) x fits e =
        subst (λ (p : ℕ × List ℕ). Takes ℕ (λ c. c < 256) (λ c. c ∷ []) (b ∷ rest) p) (ok_is (b, rest) x e)
        (record { fits = fits 0; parts = refl; rest = λ i. fits (suc i) })

-- ---- numbers

-- bytes are those of their number
abbrev pub Back : ℕ → Type 0
Back n = (bytes : List ℕ) → length bytes ≡ n → IsBytes bytes → little_bytes n (little_number n bytes) ≡ bytes

pub back_2 : Back 2
back_2 bytes len fits = let same : little_number 2 bytes ≡ from_le_bytes w16 bytes = omega arith in le_bytes_2 bytes (little_number 2 bytes) len fits same

-- four bytes are those of their number
pub back_4 : Back 4
back_4 bytes len fits = let same : little_number 4 bytes ≡ from_le_bytes w32 bytes = omega arith in le_bytes_4 bytes (little_number 4 bytes) len fits same

back_8 : Back 8
back_8 bytes len fits = let same : little_number 8 bytes ≡ from_le_bytes w64 bytes = omega arith in le_bytes_8 bytes (little_number 8 bytes) len fits same

-- a number is read back from its bytes
pub number_again : (n x : ℕ) → x < 256 ^ n → little_number n (little_bytes n x) ≡ x
number_again n x lt = ap (λ (bytes : List ℕ). little_number n bytes) (sym (append-nil (little_bytes n x))) ∙ little_number-reads_back n x [] lt

pub number_codec : (n : ℕ) → Back n → Codec ℕ (λ x. x < 256 ^ n) (λ x. little_bytes n x) (number_at n)
unfolding number_at
number_codec n back = record {
  takes = λ bytes x fits e.
      let b = bind_ok (bytes_at n bytes) (λ found. Ok (little_number n found.0, found.1)) x e in
      let t = bytes_takes n bytes b.0 fits b.1 in
      let here : Takes ℕ (λ x. x < 256 ^ n) (λ x. little_bytes n x) bytes (little_number n b.0.0, b.0.1) =
      record { fits = little_from-lt 0 n b.0.0 t.3; parts = t.0 ∙ ap (λ (text : List ℕ). text ++ b.0.1) (sym (back b.0.0 t.2 t.3)); rest = t.1 } in
      subst (λ (p : ℕ × List ℕ). Takes ℕ (λ x. x < 256 ^ n) (λ x. little_bytes n x) bytes p) (ok_is (little_number n b.0.0, b.0.1) x b.2) here;
  again = λ x rest lt. rw (bytes_again n (little_bytes n x) rest (length-bytes_low_first 0 n x)) (ap (λ (y : ℕ). done (y, rest)) (number_again n x lt));
  fails = λ bytes f e.
      elim (bind_err (bytes_at n bytes) (λ found. Ok (little_number n found.0, found.1)) f e) [
        | inl h ↦ bytes_fails n bytes f h
        | inr h ↦ absurd (not_both (little_number n h.0.0, h.0.1) f h.2)
      ];
}

-- a number of two bytes
pub short_codec : Codec ℕ (λ x. x < 256 ^ 2) (λ x. short_bytes x) (number_at 2)
unfolding short_bytes
short_codec = number_codec 2 back_2

-- a number of eight bytes
pub word_codec : Codec ℕ (λ x. IsLong x) (λ x. long_bytes x) (number_at 8)
unfolding long_bytes
word_codec = number_codec 8 back_8

-- ---- one behind the other

-- two things one behind the other, where each is read just as it is spelled
pub both_codec : (A B : Type 0) (P : A → Type 0) (Q : B → Type 0) (s : A → List ℕ) (t : B → List ℕ) (r : Reader A) (q : Reader B) → Codec A P s r → Codec B Q t q
    → Codec (A × B) (λ x. P x.0 × Q x.1) (λ x. s x.0 ++ t x.1) (both r q)
both_codec A B P Q s t r q one two = record {
  takes = λ bytes x fits e.
      let a = bind_ok (r bytes) (λ y. q y.1 >>= λ z. Ok ((y.0, z.0), z.1)) x e in
      let b = bind_ok (q a.0.1) (λ z. Ok ((a.0.0, z.0), z.1)) x a.2 in
      let ta = one.takes bytes a.0 fits a.1 in
      let tb = two.takes a.0.1 b.0 ta.rest b.1 in
      let here : Takes (A × B) (λ y. P y.0 × Q y.1) (λ y. s y.0 ++ t y.1) bytes ((a.0.0, b.0.0), b.0.1) =
      record { fits = (ta.fits, tb.fits); parts = ta.parts ∙ ap (λ (text : List ℕ). s a.0.0 ++ text) tb.parts ∙ sym (append_assoc (s a.0.0) (t b.0.0) b.0.1); rest = tb.rest } in
      subst (λ (p : (A × B) × List ℕ). Takes (A × B) (λ y. P y.0 × Q y.1) (λ y. s y.0 ++ t y.1) bytes p) (ok_is ((a.0.0, b.0.0), b.0.1) x b.2) here;
  again = λ x rest h. ap (both r q) (append_assoc (s x.0) (t x.1) rest) ∙ rw (one.again x.0 (t x.1 ++ rest) h.0, two.again x.1 rest h.1) refl;
  fails = λ bytes f e.
      elim (bind_err (r bytes) (λ y. q y.1 >>= λ z. Ok ((y.0, z.0), z.1)) f e) [
        | inl h ↦ one.fails bytes f h
        | inr h ↦ elim (bind_err (q h.0.1) (λ z. Ok ((h.0.0, z.0), z.1)) f h.2) [
          | inl g ↦ two.fails h.0.1 f g
          | inr g ↦ absurd (not_both ((h.0.0, g.0.0), g.0.1) f g.2)
        ]
      ];
}

-- the same values in another form
pub mapped_codec : (A B : Type 0) (P : A → Type 0) (s : A → List ℕ) (r : Reader A) (f : A → B) (g : B → A) → ((a : A) → g (f a) ≡ a) → ((b : B) → f (g b) ≡ b) → Codec A P s r
    → Codec B (λ b. P (g b)) (λ b. s (g b)) (λ bytes. r bytes >>= λ x. Ok (f x.0, x.1))
mapped_codec A B P s r f g gf fg one = record {
  takes = λ bytes x fits e.
      let a = bind_ok (r bytes) (λ y. Ok (f y.0, y.1)) x e in
      let ta = one.takes bytes a.0 fits a.1 in
      let here : Takes B (λ b. P (g b)) (λ b. s (g b)) bytes (f a.0.0, a.0.1) =
      record { fits = subst P (sym (gf a.0.0)) ta.fits; parts = ta.parts ∙ ap (λ (y : A). s y ++ a.0.1) (sym (gf a.0.0)); rest = ta.rest } in
      subst (λ (p : B × List ℕ). Takes B (λ b. P (g b)) (λ b. s (g b)) bytes p) (ok_is (f a.0.0, a.0.1) x a.2) here;
  again = λ b rest h. rw (one.again (g b) rest h) (ap (λ (y : B). done (y, rest)) (fg b));
  fails = λ bytes e d.
      elim (bind_err (r bytes) (λ y. Ok (f y.0, y.1)) e d) [
        | inl h ↦ one.fails bytes e h
        | inr h ↦ absurd (not_both (f h.0.0, h.0.1) e h.2)
      ];
}

-- ---- payloads, entries and pairs

-- a payload behind its length
pub payload_codec : Codec (List ℕ) (λ p. IsPayload p) (λ p. payload_bytes p) payload_at
unfolding payload_at
payload_codec = record {
  takes = λ bytes x fits e.
      let a = bind_ok (number_at 2 bytes) (λ len. cond (ltb 256 len.0) (Err Fields) (bytes_at len.0 len.1)) x e in
      let ta = short_codec.takes bytes a.0 fits a.1 in
      let g = passed (ltb 256 a.0.0) Fields (bytes_at a.0.0 a.0.1) x a.2 in
      let tb = bytes_takes a.0.0 a.0.1 x ta.rest g.1 in
      let small : a.0.0 ≤ 256 = ltb-false _ _ g.0 in
      record {
        fits = omega (arith, tb.2, small);
        parts = ta.parts ∙ ap (λ (text : List ℕ). short_bytes a.0.0 ++ text) tb.0 ∙ sym (append_assoc (short_bytes a.0.0) x.0 x.1) ∙ ap (λ (n : ℕ). (short_bytes n ++ x.0) ++ x.1) (sym tb.2);
        rest = tb.1;
      };
  again = λ p rest h.
      let small : ltb 256 (length p) ≡ false = le-ltb _ _ h in
      let room : length p < 256 ^ 2 = omega (arith, h) in
      ap payload_at (append_assoc (short_bytes (length p)) p rest) ∙ rw (short_codec.again (length p) (p ++ rest) room, small) (bytes_again (length p) p rest refl);
  fails = λ bytes f e.
      elim (bind_err (number_at 2 bytes) (λ len. cond (ltb 256 len.0) (Err Fields) (bytes_at len.0 len.1)) f e) [
        | inl h ↦ short_codec.fails bytes f h
        | inr h ↦ elim (cond_err (ltb 256 h.0.0) Fields (bytes_at h.0.0 h.0.1) f h.2) [
          | inl g ↦ sym g.1
          | inr g ↦ bytes_fails h.0.0 h.0.1 f g.1
        ]
      ];
}

-- an entry: its two numbers, and its payload
pub entry_codec : Codec LoggedMessage (λ e. IsEntry e) (λ e. entry_bytes e) entry_at
unfolding entry_at
entry_codec = mapped_codec (ℕ × (ℕ × List ℕ)) LoggedMessage (λ x. IsLong x.0 × (IsLong x.1.0 × IsPayload x.1.1)) (λ x. long_bytes x.0 ++ (long_bytes x.1.0 ++ payload_bytes x.1.1))
    (both (number_at 8) (both (number_at 8) payload_at)) (λ x. record { number = x.0; ssn = x.1.0; payload = x.1.1 }) (λ e. (e.number, (e.ssn, e.payload))) (λ x. refl) (λ e. refl)
    (both_codec ℕ (ℕ × List ℕ) (λ n. IsLong n) (λ x. IsLong x.0 × IsPayload x.1) (λ n. long_bytes n) (λ x. long_bytes x.0 ++ payload_bytes x.1) (number_at 8) (both (number_at 8) payload_at) word_codec
    (both_codec ℕ (List ℕ) (λ n. IsLong n) (λ p. IsPayload p) (λ n. long_bytes n) (λ p. payload_bytes p) (number_at 8) payload_at word_codec payload_codec))

-- two numbers of eight bytes
pub two_words : Codec (ℕ × ℕ) (λ x. IsLong x.0 × IsLong x.1) (λ x. long_bytes x.0 ++ long_bytes x.1) (both (number_at 8) (number_at 8))
two_words = both_codec ℕ ℕ (λ n. IsLong n) (λ n. IsLong n) (λ n. long_bytes n) (λ n. long_bytes n) (number_at 8) (number_at 8) word_codec word_codec

-- a pair of an SSN and a number
pub pair_codec : Codec Pair (λ p. IsPair p) (λ p. pair_bytes p) pair_at
unfolding pair_at
pair_codec = mapped_codec (ℕ × ℕ) Pair (λ x. IsLong x.0 × IsLong x.1) (λ x. long_bytes x.0 ++ long_bytes x.1) (both (number_at 8) (number_at 8)) (λ x. record { ssn = x.0; number = x.1 }) (λ p. (p.ssn, p.number))
    (λ x. refl) (λ p. refl) two_words

-- a word, and what follows it
pub word_then : (B : Type 0) (Q : B → Type 0) (t : B → List ℕ) (q : Reader B) → Codec B Q t q → Codec (ℕ × B) (λ x. IsLong x.0 × Q x.1) (λ x. long_bytes x.0 ++ t x.1) (both (number_at 8) q)
word_then B Q t q = both_codec ℕ B (λ n. IsLong n) Q (λ n. long_bytes n) t (number_at 8) q word_codec

-- ---- pages

times_takes : (A : Type 0) (P : A → Type 0) (s : A → List ℕ) (r : Reader A) → Codec A P s r → (n : ℕ) (bytes : List ℕ) (x : List A × List ℕ) → IsBytes bytes → times r n bytes ≡ Ok x
    → Takes (List A) (λ xs. (length xs ≡ n) × AllByRecursion P xs) (λ xs. flat_map s xs) bytes x
unfolding times
times_takes A P s r one zero bytes x fits e =
    let here : Takes (List A) (λ xs. (length xs ≡ 0) × AllByRecursion P xs) (λ xs. flat_map s xs) bytes ([], bytes) = record { fits = (refl, tt); parts = refl; rest = fits } in
    subst (λ (p : List A × List ℕ). Takes (List A) (λ xs. (length xs ≡ 0) × AllByRecursion P xs) (λ xs. flat_map s xs) bytes p) (ok_is ([], bytes) x e) here
times_takes A P s r one (suc n) bytes x fits e =
    let a = bind_ok (r bytes) (λ first. times r n first.1 >>= λ others. Ok (first.0 ∷ others.0, others.1)) x e in
    let b = bind_ok (times r n a.0.1) (λ others. Ok (a.0.0 ∷ others.0, others.1)) x a.2 in
    let ta = one.takes bytes a.0 fits a.1 in
    let tb = times_takes A P s r one n a.0.1 b.0 ta.rest b.1 in
    let here : Takes (List A) (λ xs. (length xs ≡ suc n) × AllByRecursion P xs) (λ xs. flat_map s xs) bytes (a.0.0 ∷ b.0.0, b.0.1) =
    record { fits = (ap suc tb.fits.0, (ta.fits, tb.fits.1)); parts = ta.parts ∙ ap (λ (text : List ℕ). s a.0.0 ++ text) tb.parts ∙ sym (append_assoc (s a.0.0) (flat_map s b.0.0) b.0.1); rest = tb.rest } in
    subst (λ (p : List A × List ℕ). Takes (List A) (λ xs. (length xs ≡ suc n) × AllByRecursion P xs) (λ xs. flat_map s xs) bytes p) (ok_is (a.0.0 ∷ b.0.0, b.0.1) x b.2) here

times_again : (A : Type 0) (P : A → Type 0) (s : A → List ℕ) (r : Reader A) → Codec A P s r → (xs : List A) (rest : List ℕ) → AllByRecursion P xs → times r (length xs) (flat_map s xs ++ rest) ≡ Ok (xs, rest)
unfolding times
times_again A P s r one [] rest all = refl
times_again A P s r one (x ∷ xs) rest all =
    ap (times r (suc (length xs))) (append_assoc (s x) (flat_map s xs) rest) ∙ rw (one.again x (flat_map s xs ++ rest) all.0, times_again A P s r one xs rest all.1) refl

times_fails : (A : Type 0) (P : A → Type 0) (s : A → List ℕ) (r : Reader A) → Codec A P s r → (n : ℕ) (bytes : List ℕ) (f : PacketFault) → times r n bytes ≡ Err f → f ≡ Fields
unfolding times
times_fails A P s r one zero bytes f e = absurd (not_both {A = List A × List ℕ} ([], bytes) f e)
times_fails A P s r one (suc n) bytes f e =
    elim (bind_err (r bytes) (λ first. times r n first.1 >>= λ others. Ok (first.0 ∷ others.0, others.1)) f e) [
      | inl h ↦ one.fails bytes f h
      | inr h ↦ elim (bind_err (times r n h.0.1) (λ others. Ok (h.0.0 ∷ others.0, others.1)) f h.2) [
        | inl g ↦ times_fails A P s r one n h.0.1 f g
        | inr g ↦ absurd (not_both (h.0.0 ∷ g.0.0, g.0.1) f g.2)
      ]
    ]

-- so many things, where one is read just as it is spelled
pub times_codec : (n : ℕ) (A : Type 0) (P : A → Type 0) (s : A → List ℕ) (r : Reader A) → Codec A P s r → Codec (List A) (λ xs. (length xs ≡ n) × AllByRecursion P xs) (λ xs. flat_map s xs) (times r n)
times_codec n A P s r one = record {
  takes = times_takes A P s r one n;
  again = λ xs rest h. subst (λ (m : ℕ). times r m (flat_map s xs ++ rest) ≡ Ok (xs, rest)) h.0 (times_again A P s r one xs rest h.1);
  fails = times_fails A P s r one n;
}

-- a count of some width, and as many things
pub counted_codec : (w : ℕ) (count : ℕ → List ℕ) → Codec ℕ (λ n. n < 256 ^ w) count (number_at w) → (A : Type 0) (P : A → Type 0) (s : A → List ℕ) (r : Reader A) → Codec A P s r
    → Codec (List A) (λ xs. (length xs < 256 ^ w) × AllByRecursion P xs) (λ xs. count (length xs) ++ flat_map s xs) (counted_at w r)
unfolding counted_at
counted_codec w count number A P s r one = record {
  takes = λ bytes x fits e.
      let a = bind_ok (number_at w bytes) (λ n. times r n.0 n.1) x e in
      let ta = number.takes bytes a.0 fits a.1 in
      let tb = times_takes A P s r one a.0.0 a.0.1 x ta.rest a.2 in
      record {
        fits = (subst (λ (n : ℕ). n < 256 ^ w) (sym tb.fits.0) ta.fits, tb.fits.1);
        parts = ta.parts ∙ ap (λ (text : List ℕ). count a.0.0 ++ text) tb.parts ∙ sym (append_assoc (count a.0.0) (flat_map s x.0) x.1) ∙ ap (λ (n : ℕ). (count n ++ flat_map s x.0) ++ x.1) (sym tb.fits.0);
        rest = tb.rest;
      };
  again = λ xs rest h.
      ap (λ (bytes : List ℕ). number_at w bytes >>= λ n. times r n.0 n.1) (append_assoc (count (length xs)) (flat_map s xs) rest) ∙ rw (number.again (length xs) (flat_map s xs ++ rest) h.0) (times_again A P s r one xs rest h.1);
  fails = λ bytes f e.
      elim (bind_err (number_at w bytes) (λ n. times r n.0 n.1) f e) [
        | inl h ↦ number.fails bytes f h
        | inr h ↦ times_fails A P s r one h.0.0 h.0.1 f h.2
      ];
}

-- a count, and as many things
pub page_codec : (A : Type 0) (P : A → Type 0) (s : A → List ℕ) (r : Reader A) → Codec A P s r → Codec (List A) (λ xs. IsPage P xs) (λ xs. page_bytes s xs) (counted_at 2 r)
page_codec A P s r one = counted_codec 2 (λ n. short_bytes n) short_codec A P s r one

-- a number of four bytes
pub quad_codec : Codec ℕ (λ n. n < 256 ^ 4) (λ n. word_bytes n) (number_at 4)
unfolding word_bytes
quad_codec = number_codec 4 back_4

-- a count of four bytes, and as many things
pub quads_codec : (A : Type 0) (P : A → Type 0) (s : A → List ℕ) (r : Reader A) → Codec A P s r
    → Codec (List A) (λ xs. (length xs < 2 ^ 32) × AllByRecursion P xs) (λ xs. word_bytes (length xs) ++ flat_map s xs) (counted_at 4 r)
quads_codec A P s r one = counted_codec 4 (λ n. word_bytes n) quad_codec A P s r one

-- ---- all of the bytes

-- where all of the bytes are read, they are those of what is read
pub whole_found : (A : Type 0) (P : A → Type 0) (s : A → List ℕ) (r : Reader A) → Codec A P s r → (bytes : List ℕ) (a : A) → IsBytes bytes → whole r bytes ≡ Ok a → P a × (bytes ≡ s a)
whole_found A P s r one bytes a fits e =
    let b = bind_ok (r bytes) (λ x. cond (eqb (length x.1) 0) (Ok x.0) (Err Fields)) a e in
    let g = passed_ok (eqb (length b.0.1) 0) Fields b.0.0 a b.2 in
    let t = one.takes bytes b.0 fits b.1 in
    let none : b.0.1 ≡ [] = nil_from_length b.0.1 (eqb-true (length b.0.1) 0 g.0) in
    subst (λ (y : A). P y × (bytes ≡ s y)) g.1 (t.fits, t.parts ∙ ap (λ (rest : List ℕ). s b.0.0 ++ rest) none ∙ append-nil (s b.0.0))

-- the bytes of a thing alone are read as it
pub whole_again : (A : Type 0) (P : A → Type 0) (s : A → List ℕ) (r : Reader A) → Codec A P s r → (a : A) → P a → whole r (s a) ≡ Ok a
whole_again A P s r one a h = ap (λ (bytes : List ℕ). whole r bytes) (sym (append-nil (s a))) ∙ rw (one.again a [] h) refl

-- where the bytes aren't just such a thing, the fault is `Fields`
pub whole_fails : (A : Type 0) (P : A → Type 0) (s : A → List ℕ) (r : Reader A) → Codec A P s r → (bytes : List ℕ) (f : PacketFault) → whole r bytes ≡ Err f → f ≡ Fields
whole_fails A P s r one bytes f e =
    elim (bind_err (r bytes) (λ x. cond (eqb (length x.1) 0) (Ok x.0) (Err Fields)) f e) [
      | inl h ↦ one.fails bytes f h
      | inr h ↦ left_over (eqb (length h.0.1) 0) h.0.0 h.2
    ]
  where
    left_over : (b : Bool) (x : A) → cond b (Ok x) (Err Fields) ≡ Err f → f ≡ Fields
    left_over true x g = absurd cc
    left_over false x g = sym (err_is {A = A} Fields f g)
