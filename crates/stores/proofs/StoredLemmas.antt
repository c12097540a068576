-- The laws of the fields of a store: what is read is written so, what is written so is read, and a refusal is the first fault
use Rattle.std.proofs.Common.{◌≡◌, ℕ, suc, ◌-◌, ◌≤◌, true, false, List, [], ◌∷◌, ◌++◌, length, take, drop, Ok, Err, refl, sym, ap, subst, ◌∙◌, arith, inl, inr}
use Rattle.std.specs.Prelude.{not, ◌||◌, nat_lt, nat_eq, slice_index, slice_index_or}
use Rattle.std.specs.List.{flat_map}
use Rattle.std.specs.Cmp.Lexicographic.{pointwise, same_text, other_text}
use Rattle.std.proofs.lemmas.Bool.{ltb-false, le-ltb}
use Rattle.std.proofs.lemmas.List.{length-append}
use Rattle.byteorder.specs.Numbers.{length-bytes_low_first}
use Rattle.packets.specs.Format.{checksum_bytes}
use Rattle.packets.specs.Kept.{word_bytes}
use Rattle.packets.specs.Faults.{fields_of}
use Rattle.packets.proofs.Codecs.{IsBytes}
use Rattle.packets.proofs.Steps.{done, ok_is, or_ok, or_err, passed, cond_err}
use Rattle.packets.proofs.Sealing.{Numbered, AreOfSeal, AreSteps, sealed_again, first_refused, found_in, whole_text, turned, turned_back}
use Rattle.packets.proofs.Sealing as sealing
use Rattle.packets.proofs.WholeLemmas.{neither, count_wrong, eight}
use Rattle.stores.specs.declared.stored.StoredStore.{StoredStore}
use Rattle.stores.specs.declared.store_fault.StoreFault.{StoreFault}
use Rattle.stores.specs.declared.store_fault.StoreFault.TheVariants.{Short, Magic, Checksum, Count, Zeros, Fields, Range}
use Rattle.stores.specs.Format.{store_magic, head_bytes, log_bytes, output_bytes, stored_bytes, stored_unsealed, sealed_bytes}
use Rattle.stores.specs.Faults.{StoredHasRoom, stored_in_range, store_fault_number, three_of, SpellsStored, HasStoreFault, IsFirstFault}
use Rattle.packets.specs.Inside.Reader.{or_fault}
use Rattle.stores.specs.Inside.Reader.{stored_at, store_fields_at, count_at, store_reading}
use Rattle.stores.proofs.StoredCodecs.{IsStoredBody, stored_found, stored_again}

-- ---- faults before others

faults_by : Numbered store_fault_number
faults_by = record {
  at = λ n. slice_index_or (Range ∷ Short ∷ Magic ∷ Checksum ∷ Count ∷ Zeros ∷ Fields ∷ []) n Range;
  again = elim [ Short ↦ refl | Magic ↦ refl | Checksum ↦ refl | Count ↦ refl | Zeros ↦ refl | Fields ↦ refl | Range ↦ refl ];
  last = omega arith;
}

seal : AreOfSeal store_fault_number HasStoreFault Short Magic Checksum 16 store_magic
seal = record { by = faults_by; first = refl; second = refl; third = refl; short_is = λ bytes. (λ h. h, λ h. h); magic_is = λ bytes. (λ h. h, λ h. h); checksum_is = λ bytes. (λ h. h, λ h. h) }

abbrev Clear : ℕ → List ℕ → Type 0
Clear = sealing.Clear store_fault_number HasStoreFault

clear_more : (f : StoreFault) (bytes : List ℕ) → Clear (store_fault_number f) bytes → ¬ HasStoreFault f bytes → Clear (suc (store_fault_number f)) bytes
clear_more = sealing.clear_more store_fault_number HasStoreFault faults_by

-- bytes with this fault and none before it
as_first : (d f : StoreFault) (bytes : List ℕ) → d ≡ f → HasStoreFault d bytes → Clear (store_fault_number d) bytes → IsFirstFault f bytes
as_first = sealing.as_first_of store_fault_number HasStoreFault

-- ---- the head

abbrev zeros : List ℕ
zeros = 0 ∷ 0 ∷ 0 ∷ []

record Counted (bytes : List ℕ) (n : ℕ) : Type 0 where
  some : 1 ≤ slice_index bytes 4
  few : slice_index bytes 4 ≤ 15
  zeros_are : three_of bytes ≡ zeros
  count_is : n ≡ slice_index bytes 4

counted : (bytes : List ℕ) (n : ℕ) → count_at bytes ≡ Ok n → Counted bytes n
unfolding count_at
counted bytes n e =
    let k = slice_index bytes 4 in
    let a = passed (nat_lt k 1 || nat_lt 15 k) Count _ n e in
    let b = passed (not (pointwise nat_eq (three_of bytes) zeros)) Zeros _ n a.1 in
    let a2 = neither (nat_lt k 1) (nat_lt 15 k) a.0 in
    record {
      some = ltb-false _ _ a2.0;
      few = ltb-false _ _ a2.1;
      zeros_are = same_text (three_of bytes) zeros (sym (turned _ b.0));
      count_is = sym (ok_is k n b.1);
    }

counted_clear : (bytes : List ℕ) (n : ℕ) → Counted bytes n → Clear 4 bytes → Clear 6 bytes
counted_clear bytes n s clear = clear_more Zeros bytes (clear_more Count bytes clear (λ no. no (s.some, s.few))) (λ no. no s.zeros_are)

counted_refused : (bytes : List ℕ) (f : StoreFault) → Clear 4 bytes → count_at bytes ≡ Err f → IsFirstFault f bytes
unfolding count_at
counted_refused bytes f clear e =
    let k = slice_index bytes 4 in
    elim (cond_err (nat_lt k 1 || nat_lt 15 k) Count _ f e) [
      | inl h ↦ as_first Count f bytes h.1 (count_wrong k h.0) clear
      | inr a ↦
          let a2 = neither (nat_lt k 1) (nat_lt 15 k) a.0 in
          let c4 : Clear 5 bytes = clear_more Count bytes clear (λ no. no (ltb-false _ _ a2.0, ltb-false _ _ a2.1)) in
          elim (cond_err (not (pointwise nat_eq (three_of bytes) zeros)) Zeros _ f a.1) [
            | inl h ↦ as_first Zeros f bytes h.1 (other_text (three_of bytes) zeros (sym (turned_back _ h.0))) c4
            | inr b ↦ let no : done k ≡ Err f = b.1 in absurd cc
          ]
    ]

-- ---- the fields

spelled : (bytes : List ℕ) (n : ℕ) (r : StoredStore) → Counted bytes n → IsStoredBody n (fields_of bytes) r → SpellsStored r bytes
spelled bytes n r t is = record { heads_are = is.heads_are ∙ t.count_is; logs_are = is.logs_are ∙ t.count_is; room = is.room; fields = is.spelled }

read_again : (bytes : List ℕ) (n : ℕ) (r : StoredStore) → Counted bytes n → SpellsStored r bytes → stored_at n (fields_of bytes) ≡ Ok r
read_again bytes n r t is = stored_again n (fields_of bytes) r (record { heads_are = is.heads_are ∙ sym t.count_is; logs_are = is.logs_are ∙ sym t.count_is; room = is.room; spelled = is.fields })

steps : AreSteps store_fault_number HasStoreFault Short Magic Checksum Fields Range 16 store_magic count_at (λ n fields. or_fault Fields (stored_at n fields)) stored_in_range Counted SpellsStored
steps = record {
  seal = seal;
  next = refl;
  headed = counted;
  clear = counted_clear;
  refused = counted_refused;
  spelled = λ bytes n r t fits e. spelled bytes n r t (stored_found n (fields_of bytes) r fits (or_ok Fields (stored_at n (fields_of bytes)) r e));
  again = λ bytes n r t is. ap (or_fault Fields) (read_again bytes n r t is);
  fails = λ bytes n f e. or_err Fields (stored_at n bytes) f e;
  fields_is = λ bytes. (λ h. h, λ h. h);
  range_is = λ bytes. (λ h. h, λ h. h);
}

-- the fault of bytes that are refused is the first that they have
pub refused : (bytes : List ℕ) (f : StoreFault) → IsBytes bytes → store_reading bytes ≡ Err f → IsFirstFault f bytes
unfolding store_reading store_fields_at
refused = first_refused steps (λ n r. r)

-- ---- what is read is written so

-- the bytes are those of these fields, which are in their ranges
pub record IsSealed (r : StoredStore) (bytes : List ℕ) : Type 0 where
  pub some : 1 ≤ length r.heads
  pub few : length r.heads ≤ 15
  pub logs_are : length r.logs ≡ length r.heads
  pub room : StoredHasRoom r
  pub range : stored_in_range r ≡ true
  pub bytes_are : bytes ≡ sealed_bytes r

text_of : (bytes : List ℕ) (r : StoredStore) → 16 ≤ length bytes → take 4 bytes ≡ store_magic → three_of bytes ≡ zeros → SpellsStored r bytes → take (length bytes - 4) bytes ≡ stored_unsealed r
text_of bytes r long magical three is =
    let m = length bytes - 4 - 8 in
    let cut : length bytes - 4 ≡ suc (suc (suc (suc (suc (suc (suc (suc m))))))) = omega (arith, long) in
    ap (λ (n : ℕ). take n bytes) cut ∙ eight bytes m (omega (arith, long))
    ∙ ap (λ (x : List ℕ). x ++ (slice_index bytes 4 ∷ slice_index bytes 5 ∷ slice_index bytes 6 ∷ slice_index bytes 7 ∷ take m (drop 8 bytes))) magical
    ∙ ap (λ (x : List ℕ). store_magic ++ (slice_index bytes 4 ∷ slice_index bytes 5 ∷ slice_index bytes 6 ∷ slice_index bytes 7 ∷ x)) is.fields
    ∙ ap (λ (x : List ℕ). store_magic ++ (slice_index bytes 4 ∷ (x ++ stored_bytes r))) three
    ∙ ap (λ (n : ℕ). store_magic ++ (n ∷ 0 ∷ 0 ∷ 0 ∷ stored_bytes r)) (sym is.heads_are)

-- bytes that are read as the fields of a store are theirs
pub found : (bytes : List ℕ) (r : StoredStore) → IsBytes bytes → store_reading bytes ≡ Ok r → IsSealed r bytes
unfolding store_reading store_fields_at
found bytes r fits e =
    let a = found_in steps (λ n r. r) bytes r fits e in
    let is = a.spelled in
    let text : take (length bytes - 4) bytes ≡ stored_unsealed a.body = text_of bytes a.body a.sealed.long a.sealed.magical a.headed.zeros_are is in
    subst (λ (m : StoredStore). IsSealed m bytes) a.is (record {
      some = omega (arith, is.heads_are, a.headed.some);
      few = omega (arith, is.heads_are, a.headed.few);
      logs_are = is.logs_are ∙ sym is.heads_are;
      room = is.room;
      range = a.range;
      bytes_are = whole_text 16 store_magic bytes (fields_of bytes) (stored_unsealed a.body) (omega arith) fits a.sealed text;
    })

-- ---- what is written so is read

word_length : (n : ℕ) → length (word_bytes n) ≡ 4
unfolding word_bytes
word_length n = length-bytes_low_first 0 4 n

some_fields : (r : StoredStore) → 4 ≤ length (stored_bytes r)
some_fields r =
    let heads = flat_map head_bytes r.heads in
    let logs = flat_map log_bytes r.logs in
    let count = word_bytes (length r.outputs) in
    let outputs = flat_map output_bytes r.outputs in
    omega (arith, length-append heads (logs ++ (count ++ outputs)), length-append logs (count ++ outputs), length-append count outputs, word_length (length r.outputs))

fields_again : (r : StoredStore) → store_fields_at (sealed_bytes r) ≡ Ok (stored_bytes r)
unfolding store_fields_at checksum_bytes
fields_again r = sealed_again Short Magic Checksum 16 store_magic (stored_unsealed r) (stored_bytes r) refl refl (omega arith) (omega (arith, some_fields r))

count_again : (r : StoredStore) → 1 ≤ length r.heads → length r.heads ≤ 15 → count_at (sealed_bytes r) ≡ Ok (length r.heads)
unfolding count_at
count_again r some few =
    let a : nat_lt (length r.heads) 1 ≡ false = le-ltb _ _ some in
    let b : nat_lt 15 (length r.heads) ≡ false = le-ltb _ _ few in
    rw (a, b) refl

-- the bytes of the fields of a store are read as these
pub reading_again : (r : StoredStore) (bytes : List ℕ) → IsSealed r bytes → store_reading bytes ≡ Ok r
unfolding store_reading
reading_again r bytes is =
    let body : stored_at (length r.heads) (stored_bytes r) ≡ Ok r = stored_again (length r.heads) (stored_bytes r) r (record { heads_are = refl; logs_are = is.logs_are; room = is.room; spelled = refl }) in
    ap store_reading is.bytes_are ∙ rw (fields_again r, count_again r is.some is.few, body, is.range) refl
