-- The laws of kept bytes: what is read is written so, what is written so is read, and a refusal is the first fault
use Rattle.std.proofs.Common.{◌≡◌, ℕ, suc, ◌-◌, ◌<◌, ◌≤◌, true, false, List, [], ◌∷◌, ◌++◌, length, take, drop, Result, Ok, Err, refl, sym, ap, subst, ◌∙◌, arith, inl, inr}
use Rattle.std.specs.Prelude.{◌||◌, nat_lt, IfOk, IfErr, slice_index, slice_index_or}
use Rattle.std.specs.List.{flat_map}
use Rattle.std.proofs.lemmas.Bool.{ltb-false, ltb-true, le-ltb}
use Rattle.std.proofs.lemmas.List.{length-append}
use Rattle.byteorder.specs.Numbers.{length-bytes_low_first}
use Rattle.packets.specs.declared.kept.Kept.{Kept}
use Rattle.packets.specs.declared.kept_reader.KeptHead.{KeptHead}
use Rattle.packets.specs.declared.kept_fault.KeptFault.{KeptFault}
use Rattle.packets.specs.declared.kept_fault.KeptFault.TheVariants.{Short, Magic, Checksum, Count, Own, State, Fields, Range}
use Rattle.packets.specs.declared.kept_fault.KeptError.{KeptError}
use Rattle.packets.specs.declared.kept_fault.KeptError.TheVariants as errors
use Rattle.packets.specs.Format.{short_bytes, long_bytes, checksum_bytes}
use Rattle.packets.specs.Faults.{fields_of}
use Rattle.packets.specs.Kept.{kept_magic, log_bytes, kept_fields, kept_unsealed, kept_bytes, kept_in_range, KeptFits, IsKept}
use Rattle.packets.specs.KeptFaults.{kept_fault_number, state_length, SpellsKept, HasKeptFault, IsFirstKept, IsKeptReason, ReadsKept, IsOneKept}
use Rattle.packets.specs.Inside.Reader.{or_fault}
use Rattle.packets.specs.Inside.KeptReader.{GivesKept, kept_at, kept_fields_at, kept_head_at, kept_reading}
use Rattle.packets.proofs.Codecs.{IsBytes, IsBytes-drop, IsBytes-take, back_2, number_again}
use Rattle.packets.proofs.Steps.{done, ok_is, or_ok, or_err, passed, cond_err}
use Rattle.packets.proofs.Sealing.{Numbered, AreOfSeal, AreSteps, sealed_again, first_refused, found_in, whole_text}
use Rattle.packets.proofs.Sealing as sealing
use Rattle.packets.proofs.WholeLemmas.{neither, either, count_wrong, eight}
use Rattle.packets.proofs.KeptCodecs.{IsKeptBody, kept_found, kept_again_at}

-- ---- faults before others

faults_by : Numbered kept_fault_number
faults_by = record {
  at = λ n. slice_index_or (Range ∷ Short ∷ Magic ∷ Checksum ∷ Count ∷ Own ∷ State ∷ Fields ∷ []) n Range;
  again = elim [ Short ↦ refl | Magic ↦ refl | Checksum ↦ refl | Count ↦ refl | Own ↦ refl | State ↦ refl | Fields ↦ refl | Range ↦ refl ];
  last = omega arith;
}

seal : AreOfSeal kept_fault_number HasKeptFault Short Magic Checksum 20 kept_magic
seal = record { by = faults_by; first = refl; second = refl; third = refl; short_is = λ bytes. (λ h. h, λ h. h); magic_is = λ bytes. (λ h. h, λ h. h); checksum_is = λ bytes. (λ h. h, λ h. h) }

abbrev Clear : ℕ → List ℕ → Type 0
Clear = sealing.Clear kept_fault_number HasKeptFault

clear_more : (f : KeptFault) (bytes : List ℕ) → Clear (kept_fault_number f) bytes → ¬ HasKeptFault f bytes → Clear (suc (kept_fault_number f)) bytes
clear_more = sealing.clear_more kept_fault_number HasKeptFault faults_by

-- bytes with this fault and none before it
as_first : (d f : KeptFault) (bytes : List ℕ) → d ≡ f → HasKeptFault d bytes → Clear (kept_fault_number d) bytes → IsFirstKept f bytes
as_first = sealing.as_first_of kept_fault_number HasKeptFault

-- ---- the head

record Headed (bytes : List ℕ) (h : KeptHead) : Type 0 where
  few : slice_index bytes 5 ≤ 15
  some : 1 ≤ slice_index bytes 4
  own : slice_index bytes 4 ≤ slice_index bytes 5
  short : state_length bytes ≤ 1024
  me_is : h.me ≡ slice_index bytes 4
  count_is : h.count ≡ slice_index bytes 5
  state_is : h.state_len ≡ state_length bytes

headed : (bytes : List ℕ) (h : KeptHead) → kept_head_at bytes ≡ Ok h → Headed bytes h
unfolding kept_head_at
headed bytes h e =
    let me = slice_index bytes 4 in
    let n = slice_index bytes 5 in
    let len = state_length bytes in
    let a = passed (nat_lt n 1 || nat_lt 15 n) Count _ h e in
    let b = passed (nat_lt me 1 || nat_lt n me) Own _ h a.1 in
    let c = passed (nat_lt 1024 len) State _ h b.1 in
    let a2 = neither (nat_lt n 1) (nat_lt 15 n) a.0 in
    let b2 = neither (nat_lt me 1) (nat_lt n me) b.0 in
    let h1 : KeptHead = record { me = me; count = n; state_len = len } in
    let here : Headed bytes h1 = record {
      few = ltb-false _ _ a2.1;
      some = ltb-false _ _ b2.0;
      own = ltb-false _ _ b2.1;
      short = ltb-false _ _ c.0;
      me_is = refl;
      count_is = refl;
      state_is = refl;
    } in
    subst (λ (g : KeptHead). Headed bytes g) (ok_is h1 h c.1) here

headed_clear : (bytes : List ℕ) (h : KeptHead) → Headed bytes h → Clear 4 bytes → Clear 7 bytes
headed_clear bytes h s clear =
    clear_more State bytes (clear_more Own bytes (clear_more Count bytes clear (λ no. no (omega (arith, s.some, s.own), s.few))) (λ no. no (s.some, s.own))) (λ far. omega (arith, far, s.short))

own_wrong : (me n : ℕ) → (nat_lt me 1 || nat_lt n me) ≡ true → ¬ ((1 ≤ me) × (me ≤ n))
own_wrong me n e ok =
    elim (either (nat_lt me 1) (nat_lt n me) e) [
      | inl h ↦ let lt : me < 1 = ltb-true _ _ h in omega (arith, lt, ok.0)
      | inr h ↦ let lt : n < me = ltb-true _ _ h in omega (arith, lt, ok.1)
    ]

headed_refused : (bytes : List ℕ) (f : KeptFault) → Clear 4 bytes → kept_head_at bytes ≡ Err f → IsFirstKept f bytes
unfolding kept_head_at
headed_refused bytes f clear e =
    let me = slice_index bytes 4 in
    let n = slice_index bytes 5 in
    let len = state_length bytes in
    elim (cond_err (nat_lt n 1 || nat_lt 15 n) Count _ f e) [
      | inl h ↦ as_first Count f bytes h.1 (count_wrong n h.0) clear
      | inr a ↦
          let a2 = neither (nat_lt n 1) (nat_lt 15 n) a.0 in
          let c4 : Clear 5 bytes = clear_more Count bytes clear (λ no. no (ltb-false _ _ a2.0, ltb-false _ _ a2.1)) in
          elim (cond_err (nat_lt me 1 || nat_lt n me) Own _ f a.1) [
            | inl h ↦ as_first Own f bytes h.1 (own_wrong me n h.0) c4
            | inr b ↦
                let b2 = neither (nat_lt me 1) (nat_lt n me) b.0 in
                let c5 : Clear 6 bytes = clear_more Own bytes c4 (λ no. no (ltb-false _ _ b2.0, ltb-false _ _ b2.1)) in
                elim (cond_err (nat_lt 1024 len) State _ f b.1) [
                  | inl h ↦ as_first State f bytes h.1 (ltb-true _ _ h.0) c5
                  | inr c ↦ let no : done (let g : KeptHead = record { me = me; count = n; state_len = len } in g) ≡ Err f = c.1 in absurd cc
                ]
          ]
    ]

-- ---- the fields

spelled : (bytes : List ℕ) (h : KeptHead) (k : Kept) → Headed bytes h → IsKeptBody h (fields_of bytes) k → SpellsKept k bytes
spelled bytes h k t is = record { me = is.me ∙ t.me_is; count = is.count ∙ t.count_is; state = is.state ∙ t.state_is; room = is.room; fields = is.spelled }

read_again : (bytes : List ℕ) (h : KeptHead) (k : Kept) → Headed bytes h → SpellsKept k bytes → kept_at h (fields_of bytes) ≡ Ok k
read_again bytes h k t is =
    kept_again_at h (fields_of bytes) k (record { me = is.me ∙ sym t.me_is; count = is.count ∙ sym t.count_is; state = is.state ∙ sym t.state_is; room = is.room; spelled = is.fields })

steps : AreSteps kept_fault_number HasKeptFault Short Magic Checksum Fields Range 20 kept_magic kept_head_at (λ h fields. or_fault Fields (kept_at h fields)) kept_in_range Headed SpellsKept
steps = record {
  seal = seal;
  next = refl;
  headed = headed;
  clear = headed_clear;
  refused = headed_refused;
  spelled = λ bytes h k t fits e. spelled bytes h k t (kept_found h (fields_of bytes) k fits (or_ok Fields (kept_at h (fields_of bytes)) k e));
  again = λ bytes h k t is. ap (or_fault Fields) (read_again bytes h k t is);
  fails = λ bytes h f e. or_err Fields (kept_at h bytes) f e;
  fields_is = λ bytes. (λ h. h, λ h. h);
  range_is = λ bytes. (λ h. h, λ h. h);
}

-- the fault of bytes that are refused is the first that they have
refused : (bytes : List ℕ) (f : KeptFault) → IsBytes bytes → kept_reading bytes ≡ Err f → IsFirstKept f bytes
unfolding kept_reading kept_fields_at
refused = first_refused steps (λ h k. k)

-- ---- what is read is written so

two_there : (bytes : List ℕ) → 8 ≤ length bytes → take 2 (drop 6 bytes) ≡ slice_index bytes 6 ∷ slice_index bytes 7 ∷ []
two_there [] le = absurd (omega arith)
two_there (a ∷ []) le = absurd (omega arith)
two_there (a ∷ b ∷ []) le = absurd (omega arith)
two_there (a ∷ b ∷ c ∷ []) le = absurd (omega arith)
two_there (a ∷ b ∷ c ∷ d ∷ []) le = absurd (omega arith)
two_there (a ∷ b ∷ c ∷ d ∷ e ∷ []) le = absurd (omega arith)
two_there (a ∷ b ∷ c ∷ d ∷ e ∷ f ∷ []) le = absurd (omega arith)
two_there (a ∷ b ∷ c ∷ d ∷ e ∷ f ∷ g ∷ []) le = absurd (omega arith)
two_there (a ∷ b ∷ c ∷ d ∷ e ∷ f ∷ g ∷ h ∷ rest) le = refl

-- the two bytes of the state's length
state_bytes : (bytes : List ℕ) → IsBytes bytes → 8 ≤ length bytes → short_bytes (state_length bytes) ≡ slice_index bytes 6 ∷ slice_index bytes 7 ∷ []
unfolding short_bytes
state_bytes bytes fits le =
    let two = two_there bytes le in
    back_2 (take 2 (drop 6 bytes)) (ap length two) (IsBytes-take 2 (drop 6 bytes) (IsBytes-drop 6 bytes fits)) ∙ two

text_of : (bytes : List ℕ) (k : Kept) → IsBytes bytes → 20 ≤ length bytes → take 4 bytes ≡ kept_magic → SpellsKept k bytes → take (length bytes - 4) bytes ≡ kept_unsealed k
text_of bytes k fits long magical is =
    let m = length bytes - 4 - 8 in
    let cut : length bytes - 4 ≡ suc (suc (suc (suc (suc (suc (suc (suc m))))))) = omega (arith, long) in
    let state : short_bytes (length k.state) ≡ slice_index bytes 6 ∷ slice_index bytes 7 ∷ [] = ap short_bytes is.state ∙ state_bytes bytes fits (omega (arith, long)) in
    ap (λ (n : ℕ). take n bytes) cut ∙ eight bytes m (omega (arith, long))
    ∙ ap (λ (x : List ℕ). x ++ (slice_index bytes 4 ∷ slice_index bytes 5 ∷ slice_index bytes 6 ∷ slice_index bytes 7 ∷ take m (drop 8 bytes))) magical
    ∙ ap (λ (x : List ℕ). kept_magic ++ (slice_index bytes 4 ∷ slice_index bytes 5 ∷ slice_index bytes 6 ∷ slice_index bytes 7 ∷ x)) is.fields
    ∙ ap (λ (x : List ℕ). kept_magic ++ (slice_index bytes 4 ∷ slice_index bytes 5 ∷ (x ++ kept_fields k))) (sym state)
    ∙ ap (λ (n : ℕ). kept_magic ++ (n ∷ slice_index bytes 5 ∷ (short_bytes (length k.state) ++ kept_fields k))) (sym is.me)
    ∙ ap (λ (n : ℕ). kept_magic ++ (k.me ∷ n ∷ (short_bytes (length k.state) ++ kept_fields k))) (sym is.count)

fits_of : (bytes : List ℕ) (h : KeptHead) (k : Kept) → Headed bytes h → SpellsKept k bytes → kept_in_range k ≡ true → KeptFits k
fits_of bytes h k t is range = record {
  few = omega (arith, is.count, t.few);
  some = omega (arith, is.me, t.some);
  own = omega (arith, is.me, is.count, t.own);
  state = omega (arith, is.state, t.short);
  room = is.room;
  range = range;
}

-- bytes that are read as what is kept of a process are its bytes
found : (bytes : List ℕ) (k : Kept) → IsBytes bytes → kept_reading bytes ≡ Ok k → IsKept k bytes
unfolding kept_reading kept_fields_at
found bytes k fits e =
    let a = found_in steps (λ h k. k) bytes k fits e in
    let text : take (length bytes - 4) bytes ≡ kept_unsealed a.body = text_of bytes a.body fits a.sealed.long a.sealed.magical a.spelled in
    subst (λ (l : Kept). IsKept l bytes) a.is
    (record { fits = fits_of bytes a.head a.body a.headed a.spelled a.range; bytes_are = whole_text 20 kept_magic bytes (fields_of bytes) (kept_unsealed a.body) (omega arith) fits a.sealed text })

-- ---- what is written so is read

long_length : (n : ℕ) → length (long_bytes n) ≡ 8
unfolding long_bytes
long_length n = length-bytes_low_first 0 8 n

some_fields : (k : Kept) → 8 ≤ length (kept_fields k)
some_fields k =
    let rest = flat_map long_bytes k.counts ++ (k.state ++ flat_map log_bytes k.logs) in
    omega (arith, length-append (long_bytes k.length) rest, long_length k.length)

fields_again : (k : Kept) → kept_fields_at (kept_bytes k) ≡ Ok (kept_fields k)
unfolding kept_fields_at checksum_bytes short_bytes
fields_again k = sealed_again Short Magic Checksum 20 kept_magic (kept_unsealed k) (kept_fields k) refl refl (omega arith) (omega (arith, some_fields k))

head_again : (k : Kept) → KeptFits k → kept_head_at (kept_bytes k) ≡ Ok (record { me = k.me; count = k.count; state_len = length k.state })
unfolding kept_head_at short_bytes
head_again k fits =
    let a : nat_lt k.count 1 ≡ false = le-ltb _ _ (omega (arith, fits.some, fits.own)) in
    let b : nat_lt 15 k.count ≡ false = le-ltb _ _ fits.few in
    let c : nat_lt k.me 1 ≡ false = le-ltb _ _ fits.some in
    let d : nat_lt k.count k.me ≡ false = le-ltb _ _ fits.own in
    let len : state_length (kept_bytes k) ≡ length k.state = number_again 2 (length k.state) (omega (arith, fits.state)) in
    let e : nat_lt 1024 (length k.state) ≡ false = le-ltb _ _ fits.state in
    rw (a, b, c, d, len, e) refl

-- the bytes that are kept of a process are read as that
reading_again : (k : Kept) (bytes : List ℕ) → IsKept k bytes → kept_reading bytes ≡ Ok k
unfolding kept_reading
reading_again k bytes is =
    let h : KeptHead = record { me = k.me; count = k.count; state_len = length k.state } in
    let body : kept_at h (kept_fields k) ≡ Ok k = kept_again_at h (kept_fields k) k (record { me = refl; count = refl; state = refl; room = is.fits.room; spelled = refl }) in
    ap kept_reading is.bytes_are ∙ rw (fields_again k, head_again k is.fits, body, is.fits.range) refl

pub one_kept : IsOneKept
one_kept k l bytes a b = ok_is k l (sym (reading_again k bytes a) ∙ reading_again l bytes b)

-- ---- results

pub is_found : (bytes : List ℕ) (r : Result Kept KeptError) → IsBytes bytes → GivesKept (λ (x : Kept). x) r (kept_reading bytes) → IfOk r (λ k. IsKept k bytes)
is_found bytes (Ok k) fits e = found bytes k fits e
is_found bytes (Err d) fits e = tt

pub is_refused : (bytes : List ℕ) (r : Result Kept KeptError) → IsBytes bytes → GivesKept (λ (x : Kept). x) r (kept_reading bytes) → IfErr r (λ d. IsKeptReason d bytes)
is_refused bytes (Ok k) fits e = tt
is_refused bytes (Err errors.Memory) fits e = tt
is_refused bytes (Err (errors.Fault f)) fits e = refused bytes f fits e

pub is_read : (bytes : List ℕ) (r : Result Kept KeptError) (k : Kept) → GivesKept (λ (x : Kept). x) r (kept_reading bytes) → IsKept k bytes → ReadsKept r k
is_read bytes (Ok q) k e is = ok_is q k (sym e ∙ reading_again k bytes is)
is_read bytes (Err errors.Memory) k e is = tt
is_read bytes (Err (errors.Fault f)) k e is = let no : done k ≡ Err f = sym (reading_again k bytes is) ∙ e in absurd cc
