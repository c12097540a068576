-- Records read: one more send or output, what a call of form 1 left, and what none did.
use Rattle.std.proofs.Common.{◌≡◌, ℕ, zero, suc, ◌+◌, ◌*◌, ◌/◌, ◌%◌, ◌^◌, ◌<◌, ◌≤◌, List, [], ◌∷◌, ◌++◌, length, get_or, Some, refl, sym, ap, ap₂, ◌∙◌, subst, ⊎_elim, arith, length-append}
use Rattle.std.proofs.lemmas.Bool.{cases_lt}
use Rattle.std.specs.Prelude.{slice_get, slice_range}
use Rattle.std.proofs.lemmas.Option.{slice_get_within, slice_get-get_or}
use Rattle.helpers.specs.declared.effects.Sent.{Sent}
use Rattle.helpers.specs.Effects.{Emitted}
use Rattle.operations.specs.Bytes.{le_value, le_bytes}
use Rattle.c_runs.specs.CallRecord.{IsPayloadAt, IsSentAt, AreIn, AreNotIn, IsLeft}

-- a number of one byte is read back
byte_back : (n : ℕ) → n < 256 → le_value (le_bytes 8 n) ≡ n
byte_back n h =
    let z : n / 256 ≡ 0 = omega arith in
    let m : n % 256 ≡ n = omega arith in
    let k : n + 0 ≡ n = omega arith in
    ap₂ (λ r q. r + 256 * le_value (le_bytes 7 q)) m z ∙ k

-- ---- one more

-- the element behind others
at_last : {A : Type 0} (xs : List A) (y x : A) → slice_get (xs ++ y ∷ []) (length xs) ≡ Some x → x ≡ y
at_last [] y x e = sym (cc)
at_last (z ∷ xs) y x e = at_last xs y x e

in_front : {A : Type 0} (xs : List A) (y x : A) (k : ℕ) → k < length xs → slice_get (xs ++ y ∷ []) k ≡ Some x → slice_get xs k ≡ Some x
in_front [] y x k h e = absurd (omega arith)
in_front (z ∷ xs) y x zero h e = e
in_front (z ∷ xs) y x (suc k) h e = in_front xs y x k (omega arith) e

-- one more, in the place behind
pub one_more : {A : Type 0} (Stands : ℕ → A → Type 0) (count : ℕ) (xs : List A) (y : A) → AreIn Stands count xs → Stands count y → AreIn Stands (count + 1) (xs ++ y ∷ [])
one_more Stands count xs y a s = record {
  size = omega (arith, length-append xs (y ∷ []), a.size);
  each = λ k x g.
      let within = slice_get_within (xs ++ y ∷ []) k x g in
      let size = length-append xs (y ∷ []) in
      ⊎_elim (λ (h : k < length xs). a.each k x (in_front xs y x k h g))
      (λ (h : length xs ≤ k).
      let e : k ≡ length xs = omega arith in
      let same : x ≡ y = at_last xs y x (subst (λ j. slice_get (xs ++ y ∷ []) j ≡ Some x) e g) in
      subst (λ j. Stands j x) (sym (e ∙ a.size)) (subst (λ z. Stands count z) (sym same) s))
      (cases_lt k (length xs));
}

-- ---- whole records

module _ (bytes : List ℕ) where
  -- what is read was left
  pub some_left : (s o me from steps : ℕ) (ss : List Sent) (os : List (List ℕ)) → length bytes ≡ 4416 → s ≤ 8 → o ≤ 8
      → slice_range bytes 0 8 ≡ le_bytes 8 s → slice_range bytes 8 16 ≡ le_bytes 8 o → me ≡ le_value (slice_range bytes 24 32) → me < 256
      → from ≡ le_value (slice_range bytes 32 40) → from < 256 → steps < 2 ^ 64 → slice_range bytes 16 24 ≡ le_bytes 8 steps
      → AreIn (λ k. IsSentAt bytes (64 + 272 * k)) s ss → AreIn (λ k. IsPayloadAt bytes (2240 + 272 * k)) o os
      → IsLeft bytes steps (record { sends = ss; outputs = os })
  some_left s o me from steps ss os whole ls lo es eo em lm ef lf fits counted a b =
      let ns = a.size in
      let nb = b.size in
      record {
        who = record { me = me; from = from; count = le_value (slice_range bytes 40 48) };
        keeps = record {
          whole = whole;
          me_fits = lm;
          from_fits = lf;
          me = sym em;
          from = sym ef;
          count = refl;
          few_sends = omega arith;
          few_outputs = omega arith;
          sent = es ∙ ap (le_bytes 8) (sym ns);
          output = eo ∙ ap (le_bytes 8) (sym nb);
          sends = λ k x g. let i = a.each k x g in (i.dst_is, i.payload_is.is_at);
          outputs = λ k x g. let i = b.each k x g in i.is_at;
        };
        fits = fits;
        counted = counted;
        sends = λ k x g. let i = a.each k x g in (i.low, i.payload_is.plain);
        outputs = λ k x g. let i = b.each k x g in i.plain;
      }

  -- as many sends as the first word says, as many outputs as the second
  sends_are : (s steps : ℕ) (e : Emitted) → s ≡ le_value (slice_range bytes 0 8) → IsLeft bytes steps e → s ≡ length e.sends
  sends_are s steps e es l = let few = l.keeps.few_sends in es ∙ ap le_value l.keeps.sent ∙ byte_back (length e.sends) (omega arith)

  outputs_are : (o steps : ℕ) (e : Emitted) → o ≡ le_value (slice_range bytes 8 16) → IsLeft bytes steps e → o ≡ length e.outputs
  outputs_are o steps e eo l = let few = l.keeps.few_outputs in eo ∙ ap le_value l.keeps.output ∙ byte_back (length e.outputs) (omega arith)

  -- where a place says nothing that a send can be, or an output, no call left the record
  pub no_sends : (s : ℕ) → s ≡ le_value (slice_range bytes 0 8) → AreNotIn (λ k. IsSentAt bytes (64 + 272 * k)) s → (steps : ℕ) (e : Emitted) → ¬ IsLeft bytes steps e
  no_sends s es a steps e l =
      let n = sends_are s steps e es l in
      let within = a.within in
      let x : Sent = get_or e.sends a.k (record { dst = 0; payload = [] }) in
      let g : slice_get e.sends a.k ≡ Some x = slice_get-get_or e.sends a.k (record { dst = 0; payload = [] }) (omega arith) in
      let f = l.keeps.sends a.k x g in
      let w = l.sends a.k x g in
      a.none x (record { low = w.0; dst_is = f.0; payload_is = record { is_at = f.1; plain = w.1 } })

  pub no_outputs : (o : ℕ) → o ≡ le_value (slice_range bytes 8 16) → AreNotIn (λ k. IsPayloadAt bytes (2240 + 272 * k)) o → (steps : ℕ) (e : Emitted) → ¬ IsLeft bytes steps e
  no_outputs o eo a steps e l =
      let n = outputs_are o steps e eo l in
      let within = a.within in
      let x : List ℕ = get_or e.outputs a.k [] in
      let g : slice_get e.outputs a.k ≡ Some x = slice_get-get_or e.outputs a.k [] (omega arith) in
      a.none x (record { is_at = l.keeps.outputs a.k x g; plain = l.outputs a.k x g })
