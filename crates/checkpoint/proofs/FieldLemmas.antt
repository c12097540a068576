-- A field that is read is the field that was written, and what was written is read again
use Rattle.std.proofs.Common.{◌≡◌, ℕ, suc, ◌+◌, ◌^◌, ◌<◌, ◌≤◌, Bool, true, false, cond, ltb, List, [], ◌∷◌, ◌++◌, length, get_or, take, drop, Result, Ok, Err, refl, sym, ap, subst, ◌∙◌, append_assoc, arith, inl, inr, ◌⊎◌}
use Rattle.std.specs.Prelude.{◌||◌, nat_lt, nat_eq}
use Rattle.std.specs.Int.{Width, w16, w32, byte_len, from_le_bytes, to_le_bytes}
use Rattle.std.specs.List.{list_all}
use Rattle.std.specs.Cmp.Lexicographic.{pointwise, same_text}
use Rattle.std.proofs.lemmas.Bool.{cases_lt, ltb-false, le-ltb}
use Rattle.std.proofs.lemmas.List.{take_at, drop_at, take-append-drop, length-append, length-take, length-drop, get_or-drop, get_or-take, get_or_past}
use Rattle.std.proofs.lemmas.Nat.{le_bytes_2, le_bytes_4, from_le_bytes-to_le_bytes_2, from_le_bytes-to_le_bytes_4}
use Rattle.checkpoint.specs.declared.form.CheckpointForm.{CheckpointForm}
use Rattle.checkpoint.specs.declared.form.CheckpointForm.TheVariants.{First, Second}
use Rattle.checkpoint.specs.declared.fault.SavedFault.{SavedFault}
use Rattle.checkpoint.specs.declared.fault.SavedFault.TheVariants.{Magic, Length, Range}
use Rattle.checkpoint.specs.Saved.{PayloadFits, is_sender}
use Rattle.checkpoint.specs.Format.{magic, payload_bytes}
use Rattle.checkpoint.specs.Reader.{◌>>=◌, bytes_at, in_range, byte_at, number_at, form_at, senders_at, payload_at}

-- each number is a byte's
abbrev pub IsBytes : List ℕ → Type 0
IsBytes bytes = (i : ℕ) → get_or bytes i 0 < 256

IsBytes-drop : (n : ℕ) (bytes : List ℕ) → IsBytes bytes → IsBytes (drop n bytes)
IsBytes-drop n bytes h i = rw get_or-drop (h (n + i))

IsBytes-take : (n : ℕ) (bytes : List ℕ) → IsBytes bytes → IsBytes (take n bytes)
IsBytes-take n bytes h i =
    elim (cases_lt i n) [
      | inl lt ↦ rw (get_or-take n bytes i 0 lt) (h i)
      | inr le ↦ rw (get_or_past (take n bytes) i 0 (omega (arith, length-take n bytes))) (omega arith)
    ]

-- ---- steps

-- the value of a step that did not fail
pub bind_ok : {A B : Type 0} (r : Result A SavedFault) (f : A → Result B SavedFault) (y : B) → (r >>= f) ≡ Ok y → (x : A) × (r ≡ Ok x) × (f x ≡ Ok y)
bind_ok (Ok x) f y e = (x, refl, e)
bind_ok (Err d) f y e = absurd cc

-- a test that did not fail
guard_ok : {A : Type 0} (b : Bool) (d : SavedFault) (x y : A) → cond b (Err d) (Ok x) ≡ Ok y → (b ≡ false) × (x ≡ y)
guard_ok true d x y e = absurd cc
guard_ok false d x y e = (refl, cc)

-- and one that had to pass
pub passed_ok : {A : Type 0} (b : Bool) (d : SavedFault) (x y : A) → cond b (Ok x) (Err d) ≡ Ok y → (b ≡ true) × (x ≡ y)
passed_ok true d x y e = (refl, cc)
passed_ok false d x y e = absurd cc

neither : (a b : Bool) → (a || b) ≡ false → (a ≡ false) × (b ≡ false)
neither false false e = (refl, refl)
neither false true e = absurd cc
neither true b e = absurd cc

abbrev done : {A : Type 0} → A → Result A SavedFault
done x = Ok x

pub ok_is : {A : Type 0} (x y : A) → done x ≡ done y → x ≡ y
ok_is x y e = cc

-- what a reader took from the front
pub record Takes (bytes text rest : List ℕ) : Type 0 where
  pub parts : bytes ≡ text ++ rest
  pub rest_fits : IsBytes rest

-- what two readers took one after the other is what both took
pub Takes-then : (a x b y c : List ℕ) → Takes a x b → Takes b y c → Takes a (x ++ y) c
Takes-then a x b y c p q = record { parts = p.parts ∙ ap (λ (t : List ℕ). x ++ t) q.parts ∙ sym (append_assoc x y c); rest_fits = q.rest_fits }

-- ---- bytes

-- bytes that are read are the front, as many as were asked for
pub bytes_takes : (n : ℕ) (bytes : List ℕ) (x : List ℕ × List ℕ) → IsBytes bytes → bytes_at n bytes ≡ Ok x → Takes bytes x.0 x.1 × (length x.0 ≡ n) × IsBytes x.0
bytes_takes n bytes x fits e =
    let g = guard_ok (ltb (length bytes) n) Length (take n bytes, drop n bytes) x e in
    let long : n ≤ length bytes = ltb-false _ _ g.0 in
    let len : length (take n bytes) ≡ n = omega (arith, length-take n bytes) in
    let here : Takes bytes (take n bytes) (drop n bytes) = record { parts = sym (take-append-drop n bytes); rest_fits = IsBytes-drop n bytes fits } in
    subst (λ (p : List ℕ × List ℕ). Takes bytes p.0 p.1 × (length p.0 ≡ n) × IsBytes p.0) g.1 (here, len, IsBytes-take n bytes fits)

-- and a front of that length is what is read
pub bytes_again : (n : ℕ) (text rest : List ℕ) → length text ≡ n → bytes_at n (text ++ rest) ≡ Ok (text, rest)
bytes_again n text rest len =
    let long : ltb (length (text ++ rest)) n ≡ false = le-ltb _ _ (omega (arith, length-append text rest, len)) in
    rw (long, take_at text rest n len, drop_at text rest n len) refl

-- ---- numbers

range_takes : (low high n : ℕ) (rest : List ℕ) (x : ℕ × List ℕ) → in_range low high n rest ≡ Ok x → ((n, rest) ≡ x) × (low ≤ n) × (n ≤ high)
range_takes low high n rest x e =
    let g = guard_ok (nat_lt n low || nat_lt high n) Range (n, rest) x e in
    let two = neither (nat_lt n low) (nat_lt high n) g.0 in
    (g.1, ltb-false _ _ two.0, ltb-false _ _ two.1)

range_again : (low high n : ℕ) (rest : List ℕ) → low ≤ n → n ≤ high → in_range low high n rest ≡ Ok (n, rest)
range_again low high n rest least most =
    let one : nat_lt n low ≡ false = le-ltb _ _ least in
    let two : nat_lt high n ≡ false = le-ltb _ _ most in
    rw (one, two) refl

-- a byte that is read is in range
pub byte_takes : (low high : ℕ) (bytes : List ℕ) (x : ℕ × List ℕ) → IsBytes bytes → byte_at low high bytes ≡ Ok x → Takes bytes (x.0 ∷ []) x.1 × (low ≤ x.0) × (x.0 ≤ high)
byte_takes low high [] x fits e = absurd cc
byte_takes low high (b ∷ rest) x fits e =
    let r = range_takes low high b rest x e in
    let here : Takes (b ∷ rest) (b ∷ []) rest = record { parts = refl; rest_fits = λ i. fits (suc i) } in
    subst (λ (p : ℕ × List ℕ). Takes (b ∷ rest) (p.0 ∷ []) p.1 × (low ≤ p.0) × (p.0 ≤ high)) r.0 (here, r.1, r.2)

-- and one in range is read
pub byte_again : (low high n : ℕ) (rest : List ℕ) → low ≤ n → n ≤ high → byte_at low high (n ∷ rest) ≡ Ok (n, rest)
byte_again low high n rest least most = range_again low high n rest least most

-- numbers below the limit, and bytes of this width, spell each other
pub record IsWide (w : Width) (limit : ℕ) : Type 0 where
  pub len : (n : ℕ) → length (to_le_bytes w n) ≡ byte_len w
  pub back : (bytes : List ℕ) → length bytes ≡ byte_len w → IsBytes bytes → to_le_bytes w (from_le_bytes w bytes) ≡ bytes
  pub again : (n : ℕ) → n < limit → from_le_bytes w (to_le_bytes w n) ≡ n

pub wide16 : IsWide w16 (2 ^ 16)
wide16 = record {
  len = λ n. refl;
  back = λ bytes len fits. le_bytes_2 bytes _ len fits refl;
  again = λ n lt. from_le_bytes-to_le_bytes_2 n lt;
}

pub wide32 : IsWide w32 (2 ^ 32)
wide32 = record {
  len = λ n. refl;
  back = λ bytes len fits. le_bytes_4 bytes _ len fits refl;
  again = λ n lt. from_le_bytes-to_le_bytes_4 n lt;
}

-- a number that is read was spelled so, and is in range
pub number_takes : (w : Width) (limit : ℕ) (wide : IsWide w limit) (low high : ℕ) (bytes : List ℕ) (x : ℕ × List ℕ) → IsBytes bytes → number_at w low high bytes ≡ Ok x → Takes bytes (to_le_bytes w x.0) x.1 × (low ≤ x.0) × (x.0 ≤ high)
unfolding number_at
number_takes w limit wide low high bytes x fits e =
    let b = bind_ok (bytes_at (byte_len w) bytes) (λ found. in_range low high (from_le_bytes w found.0) found.1) x e in
    let t = bytes_takes (byte_len w) bytes b.0 fits b.1 in
    let r = range_takes low high (from_le_bytes w b.0.0) b.0.1 x b.2 in
    let front : to_le_bytes w (from_le_bytes w b.0.0) ≡ b.0.0 = wide.back b.0.0 t.1 t.2 in
    let here : Takes bytes (to_le_bytes w (from_le_bytes w b.0.0)) b.0.1 = subst (λ (text : List ℕ). Takes bytes text b.0.1) (sym front) t.0 in
    subst (λ (p : ℕ × List ℕ). Takes bytes (to_le_bytes w p.0) p.1 × (low ≤ p.0) × (p.0 ≤ high)) r.0 (here, r.1, r.2)

-- and one in range, spelled so, is read
pub number_again : (w : Width) (limit : ℕ) (wide : IsWide w limit) (low high n : ℕ) (rest : List ℕ) → low ≤ n → n ≤ high → n < limit → number_at w low high (to_le_bytes w n ++ rest) ≡ Ok (n, rest)
unfolding number_at
number_again w limit wide low high n rest least most lt =
    ap (λ (r : Result (List ℕ × List ℕ) SavedFault). r >>= λ found. in_range low high (from_le_bytes w found.0) found.1) (bytes_again (byte_len w) (to_le_bytes w n) rest (wide.len n))
    ∙ ap (λ m. in_range low high m rest) (wide.again n lt) ∙ range_again low high n rest least most

-- ---- the form, receipts and payloads

form_chosen : (a b : Bool) (rest : List ℕ) (x : CheckpointForm × List ℕ) → cond a (Ok (First, rest)) (cond b (Ok (Second, rest)) (Err Magic)) ≡ Ok x → ((a ≡ true) × ((First, rest) ≡ x)) ⊎ ((b ≡ true) × ((Second, rest) ≡ x))
form_chosen true b rest x e = inl (refl, ok_is (First, rest) x e)
form_chosen false true rest x e = inr (refl, ok_is (Second, rest) x e)
form_chosen false false rest x e = absurd cc

pub form_takes : (bytes : List ℕ) (x : CheckpointForm × List ℕ) → IsBytes bytes → form_at bytes ≡ Ok x → Takes bytes (magic x.0) x.1
unfolding form_at
form_takes bytes x fits e =
    let b = bind_ok (bytes_at 4 bytes) (λ found. cond (pointwise nat_eq found.0 (magic First)) (Ok (First, found.1)) (cond (pointwise nat_eq found.0 (magic Second)) (Ok (Second, found.1)) (Err Magic))) x e in
    let t = bytes_takes 4 bytes b.0 fits b.1 in
    let at = λ (form : CheckpointForm) (same : b.0.0 ≡ magic form) (is : (form, b.0.1) ≡ x). subst (λ (p : CheckpointForm × List ℕ). Takes bytes (magic p.0) p.1) is (subst (λ (text : List ℕ). Takes bytes text b.0.1) same t.0) in
    elim (form_chosen (pointwise nat_eq b.0.0 (magic First)) (pointwise nat_eq b.0.0 (magic Second)) b.0.1 x b.2) [
      | inl h ↦ at First (same_text b.0.0 (magic First) (sym h.0)) h.1
      | inr h ↦ at Second (same_text b.0.0 (magic Second) (sym h.0)) h.1
    ]

pub form_again : (form : CheckpointForm) (rest : List ℕ) → form_at (magic form ++ rest) ≡ Ok (form, rest)
unfolding form_at
form_again First rest = rw (bytes_again 4 (magic First) rest refl) refl
form_again Second rest = rw (bytes_again 4 (magic Second) rest refl) refl

-- receipts that are read are as many as were asked for, each of a sender of this process
pub senders_takes : (me count received : ℕ) (bytes : List ℕ) (x : List ℕ × List ℕ) → IsBytes bytes → senders_at me count received bytes ≡ Ok x → Takes bytes x.0 x.1 × (length x.0 ≡ received) × (list_all (is_sender me count) x.0 ≡ true)
unfolding senders_at
senders_takes me count received bytes x fits e =
    let b = bind_ok (bytes_at received bytes) (λ senders. cond (list_all (is_sender me count) senders.0) (Ok senders) (Err Range)) x e in
    let t = bytes_takes received bytes b.0 fits b.1 in
    let p = passed_ok (list_all (is_sender me count) b.0.0) Range b.0 x b.2 in
    subst (λ (y : List ℕ × List ℕ). Takes bytes y.0 y.1 × (length y.0 ≡ received) × (list_all (is_sender me count) y.0 ≡ true)) p.1 (t.0, t.1, p.0)

pub senders_again : (me count : ℕ) (senders rest : List ℕ) → list_all (is_sender me count) senders ≡ true → senders_at me count (length senders) (senders ++ rest) ≡ Ok (senders, rest)
unfolding senders_at
senders_again me count senders rest all = rw (bytes_again (length senders) senders rest refl, all) refl

-- a payload that is read was spelled so in this form, and fits it
pub payload_takes : (form : CheckpointForm) (bytes : List ℕ) (x : List ℕ × List ℕ) → IsBytes bytes → payload_at form bytes ≡ Ok x → Takes bytes (payload_bytes form x.0) x.1 × PayloadFits form x.0
unfolding payload_at
payload_takes First bytes x fits e = let t = bytes_takes 64 bytes x fits e in (t.0, t.1)
payload_takes Second bytes x fits e =
    let b = bind_ok (number_at w16 0 256 bytes) (λ len. bytes_at len.0 len.1) x e in
    let t = number_takes w16 (2 ^ 16) wide16 0 256 bytes b.0 fits b.1 in
    let u = bytes_takes b.0.0 b.0.1 x t.0.rest_fits b.2 in
    let whole = Takes-then bytes (to_le_bytes w16 b.0.0) b.0.1 x.0 x.1 t.0 u.0 in
    (subst (λ (n : ℕ). Takes bytes (to_le_bytes w16 n ++ x.0) x.1) (sym u.1) whole, omega (arith, u.1, t.2))

-- a payload that was read and what is left are no longer than the bytes
bytes_short : (n : ℕ) (bytes : List ℕ) (x : List ℕ × List ℕ) → bytes_at n bytes ≡ Ok x → length x.0 + length x.1 ≤ length bytes
bytes_short n bytes x e =
    let g = guard_ok (ltb (length bytes) n) Length (take n bytes, drop n bytes) x e in
    subst (λ (p : List ℕ × List ℕ). length p.0 + length p.1 ≤ length bytes) g.1 (omega (arith, length-take n bytes, length-drop n bytes))

number_short : (w : Width) (low high : ℕ) (bytes : List ℕ) (x : ℕ × List ℕ) → number_at w low high bytes ≡ Ok x → length x.1 ≤ length bytes
unfolding number_at
number_short w low high bytes x e =
    let b = bind_ok (bytes_at (byte_len w) bytes) (λ found. in_range low high (from_le_bytes w found.0) found.1) x e in
    let r = range_takes low high (from_le_bytes w b.0.0) b.0.1 x b.2 in
    subst (λ (p : ℕ × List ℕ). length p.1 ≤ length bytes) r.0 (omega (arith, bytes_short (byte_len w) bytes b.0 b.1))

pub payload_short : (form : CheckpointForm) (bytes : List ℕ) (x : List ℕ × List ℕ) → payload_at form bytes ≡ Ok x → length x.0 + length x.1 ≤ length bytes
unfolding payload_at
payload_short First bytes x e = bytes_short 64 bytes x e
payload_short Second bytes x e =
    let b = bind_ok (number_at w16 0 256 bytes) (λ len. bytes_at len.0 len.1) x e in
    omega (arith, number_short w16 0 256 bytes b.0 b.1, bytes_short b.0.0 b.0.1 x b.2)

-- and one that fits, spelled so, is read
pub payload_again : (form : CheckpointForm) (payload rest : List ℕ) → PayloadFits form payload → payload_at form (payload_bytes form payload ++ rest) ≡ Ok (payload, rest)
unfolding payload_at
payload_again First payload rest fits = bytes_again 64 payload rest fits
payload_again Second payload rest fits =
    ap (λ bytes. number_at w16 0 256 bytes >>= λ len. bytes_at len.0 len.1) (append_assoc (to_le_bytes w16 (length payload)) payload rest)
    ∙ rw (number_again w16 (2 ^ 16) wide16 0 256 (length payload) (payload ++ rest) (omega arith) fits (omega arith)) (bytes_again (length payload) payload rest refl)
