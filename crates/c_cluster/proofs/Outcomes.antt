-- Records read: one more message or output, what a call left, and what none did
use Rattle.std.proofs.Common.{◌≡◌, ℕ, zero, suc, ◌+◌, ◌*◌, ◌/◌, ◌%◌, ◌<◌, ◌≤◌, List, [], ◌∷◌, ◌++◌, length, get_or, Some, sym, ap, ◌∙◌, subst, ⊎_elim, arith, length-append}
use Rattle.std.proofs.lemmas.Bool.{cases_lt}
use Rattle.std.specs.Prelude.{slice_get, slice_range}
use Rattle.std.proofs.lemmas.Option.{slice_get_within, slice_get-get_or}
use Rattle.helpers.specs.declared.effects.Who.{Who}
use Rattle.helpers.specs.declared.effects.Sent.{Sent}
use Rattle.helpers.specs.Effects.{Emitted}
use Rattle.operations.specs.Bytes.{le_value, le_bytes}
use Rattle.native.specs.Correct.{IsAt}
use Rattle.c_cluster.specs.Nodes.Outcome.{IsSentAt, AreIn, AreNotIn, IsLeft}

-- ---- numbers

one_more_byte : (k n : ℕ) → le_value (le_bytes k (n / 256)) ≡ n / 256 → le_value (le_bytes (suc k) n) ≡ n
one_more_byte k n e = ap (λ q. n % 256 + 256 * q) e ∙ (omega arith)

-- a number of two bytes is read back
number_back : (n : ℕ) → n < 65536 → le_value (le_bytes 8 n) ≡ n
number_back n h =
    let a = n / 256 in
    let z : a / 256 ≡ 0 = omega arith in
    one_more_byte 7 n (one_more_byte 6 a (ap (λ q. le_value (le_bytes 6 q)) z ∙ sym z))

-- ---- one more

-- the element behind others
at_last : {A : Type 0} (xs : List A) (y x : A) → slice_get (xs ++ y ∷ []) (length xs) ≡ Some x → x ≡ y
at_last [] y x e = sym (cc)
at_last (z ∷ xs) y x e = at_last xs y x e

in_front : {A : Type 0} (xs : List A) (y x : A) (k : ℕ) → k < length xs → slice_get (xs ++ y ∷ []) k ≡ Some x → slice_get xs k ≡ Some x
in_front [] y x k h e = absurd (omega arith)
in_front (z ∷ xs) y x zero h e = e
in_front (z ∷ xs) y x (suc k) h e = in_front xs y x k (omega arith) e

-- one more, in the place behind
pub one_more : {A : Type 0} (Stands : ℕ → A → Type 0) (count : ℕ) (xs : List A) (y : A) → AreIn Stands count xs → Stands count y → AreIn Stands (count + 1) (xs ++ y ∷ [])
one_more Stands count xs y a s = record {
  size = omega (arith, length-append xs (y ∷ []), a.size);
  each = λ k x g.
      let within = slice_get_within (xs ++ y ∷ []) k x g in
      let size = length-append xs (y ∷ []) in
      ⊎_elim (λ (h : k < length xs). a.each k x (in_front xs y x k h g))
      (λ (h : length xs ≤ k).
      let e : k ≡ length xs = omega arith in
      let same : x ≡ y = at_last xs y x (subst (λ j. slice_get (xs ++ y ∷ []) j ≡ Some x) e g) in
      subst (λ j. Stands j x) (sym (e ∙ a.size)) (subst (λ z. Stands count z) (sym same) s))
      (cases_lt k (length xs));
}

-- ---- whole records

module _ (who : Who) (bytes : List ℕ) where
  -- what is read was left
  pub some_left : (s o : ℕ) (e : Emitted) → length bytes ≡ 4416 → s ≤ 8 → o ≤ 8 → who.me < 256 → who.from < 256
      → slice_range bytes 0 8 ≡ le_bytes 8 s → slice_range bytes 8 16 ≡ le_bytes 8 o
      → le_value (slice_range bytes 24 32) ≡ who.me → le_value (slice_range bytes 32 40) ≡ who.from → le_value (slice_range bytes 40 48) ≡ who.count
      → AreIn (λ k. IsSentAt who bytes (64 + 272 * k)) s e.sends → AreIn (λ k. IsAt bytes (2240 + 272 * k)) o e.outputs → IsLeft who bytes e
  some_left s o e whole ls lo lm lf es eo em ef ec a b =
      let ns = a.size in
      let nb = b.size in
      record {
        keeps = record {
          whole = whole;
          me_fits = lm;
          from_fits = lf;
          me = em;
          from = ef;
          count = ec;
          few_sends = omega arith;
          few_outputs = omega arith;
          sent = es ∙ ap (le_bytes 8) (sym ns);
          output = eo ∙ ap (le_bytes 8) (sym nb);
          sends = λ k x g. let i = a.each k x g in (i.dst_is, i.payload_is);
          outputs = λ k x g. b.each k x g;
        };
        peers = λ k x g. (a.each k x g).peer;
      }

  -- as many messages as the first word says, as many outputs as the second
  sends_are : (s : ℕ) (e : Emitted) → s ≡ le_value (slice_range bytes 0 8) → IsLeft who bytes e → s ≡ length e.sends
  sends_are s e es l = let few = l.keeps.few_sends in es ∙ ap le_value l.keeps.sent ∙ number_back (length e.sends) (omega arith)

  outputs_are : (o : ℕ) (e : Emitted) → o ≡ le_value (slice_range bytes 8 16) → IsLeft who bytes e → o ≡ length e.outputs
  outputs_are o e eo l = let few = l.keeps.few_outputs in eo ∙ ap le_value l.keeps.output ∙ number_back (length e.outputs) (omega arith)

  -- where a place says nothing that a message can be, or an output, no call left it
  pub no_sends : (s : ℕ) → s ≡ le_value (slice_range bytes 0 8) → AreNotIn (λ k. IsSentAt who bytes (64 + 272 * k)) s → (e : Emitted) → ¬ IsLeft who bytes e
  no_sends s es a e l =
      let n = sends_are s e es l in
      let within = a.within in
      let x : Sent = get_or e.sends a.k (record { dst = 0; payload = [] }) in
      let g : slice_get e.sends a.k ≡ Some x = slice_get-get_or e.sends a.k (record { dst = 0; payload = [] }) (omega arith) in
      let f = l.keeps.sends a.k x g in
      a.none x (record { peer = l.peers a.k x g; dst_is = f.0; payload_is = f.1 })

  pub no_outputs : (o : ℕ) → o ≡ le_value (slice_range bytes 8 16) → AreNotIn (λ k. IsAt bytes (2240 + 272 * k)) o → (e : Emitted) → ¬ IsLeft who bytes e
  no_outputs o eo a e l =
      let n = outputs_are o e eo l in
      let within = a.within in
      let x : List ℕ = get_or e.outputs a.k [] in
      let g : slice_get e.outputs a.k ≡ Some x = slice_get-get_or e.outputs a.k [] (omega arith) in
      a.none x (l.keeps.outputs a.k x g)
