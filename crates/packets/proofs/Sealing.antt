-- Bytes between a magic and a checksum, whatever their faults are called: what is read of them, and which fault comes first.
use Rattle.std.proofs.Common.{◌≡◌, ℕ, suc, ◌+◌, ◌-◌, ◌^◌, ◌<◌, ◌≤◌, Bool, true, false, cond, eqb, List, ◌++◌, length, take, drop, Result, Ok, Err, refl, sym, ap, subst, ◌∙◌, arith, inl, inr, ◌↔◌}
use Rattle.std.specs.Prelude.{◌≢◌, not, nat_lt, nat_eq}
use Rattle.std.specs.Cmp.Lexicographic.{pointwise, same_text, other_text}
use Rattle.std.proofs.lemmas.Bool.{ltb-false, ltb-true, le-ltb, eqb-true, eqb-false, eq-eqb, cases_lt}
use Rattle.std.proofs.lemmas.List.{take_at, drop_at, take-append-drop, length-append, length-take}
use Rattle.byteorder.specs.Endian.{little_bytes, little_number}
use Rattle.packets.specs.Checksum.{crc32c}
use Rattle.packets.specs.Faults.{fields_of, IsSummed, IsFirstOf}
use Rattle.packets.specs.Format.{checksum_bytes}
use Rattle.packets.specs.Inside.Reader.{and_then, sealed_fields, in_steps}
use Rattle.packets.proofs.Codecs.{IsBytes, IsBytes-drop, IsBytes-take, back_4, number_again}
use Rattle.packets.proofs.Steps.{done, ok_is, bind_ok, bind_err, passed, passed_ok, passed_err, cond_err}

-- ---- faults before others

-- each fault by its number, from 1
pub record Numbered {F : Type 0} (number : F → ℕ) : Type 0 where
  pub at : ℕ → F
  pub again : (f : F) → at (number f) ≡ f
  pub last : 0 < number (at 0)

-- no fault below this number
abbrev pub Clear : {F : Type 0} → (F → ℕ) → (F → List ℕ → Type 0) → ℕ → List ℕ → Type 0
Clear {F} number Has n bytes = (g : F) → number g < n → ¬ Has g bytes

module _ {F : Type 0} (number : F → ℕ) (Has : F → List ℕ → Type 0) (by : Numbered number) where
  pub clear_none : (bytes : List ℕ) → Clear number Has 1 bytes
  clear_none bytes g lt =
      let zero_is : number g ≡ 0 = omega arith in
      let is : by.at 0 ≡ g = ap by.at (sym zero_is) ∙ by.again g in
      let none : number (by.at 0) ≡ 0 = ap number is ∙ zero_is in
      absurd (omega (arith, none, by.last))

  pub clear_more : (f : F) (bytes : List ℕ) → Clear number Has (number f) bytes → ¬ Has f bytes → Clear number Has (suc (number f)) bytes
  clear_more f bytes clear absent g lt =
      elim (cases_lt (number g) (number f)) [
        | inl below ↦ clear g below
        | inr le ↦
            let same : number f ≡ number g = omega arith in
            let is : f ≡ g = sym (by.again f) ∙ ap by.at same ∙ by.again g in
            subst (λ (h : F). ¬ Has h bytes) is absent
      ]

-- bytes with this fault and none before it
pub as_first_of : {F : Type 0} (number : F → ℕ) (Has : F → List ℕ → Type 0) (d f : F) (bytes : List ℕ) → d ≡ f → Has d bytes → Clear number Has (number d) bytes → IsFirstOf number Has f bytes
as_first_of {F} number Has d f bytes same holds clear = subst (λ (g : F). IsFirstOf number Has g bytes) same (record { holds = holds; first = clear })

-- ---- magic and checksum

-- the parts of bytes with this magic, of which there are at least so many
pub record Sealed (least : ℕ) (magic bytes fields : List ℕ) : Type 0 where
  pub long : least ≤ length bytes
  pub magical : take 4 bytes ≡ magic
  pub summed : IsSummed bytes
  pub fields_are : fields ≡ fields_of bytes

-- three faults of an order are those of the length, the magic and the checksum
pub record AreOfSeal {F : Type 0} (number : F → ℕ) (Has : F → List ℕ → Type 0) (short magic checksum : F) (least : ℕ) (m : List ℕ) : Type 0 where
  pub by : Numbered number
  pub first : number short ≡ 1
  pub second : number magic ≡ 2
  pub third : number checksum ≡ 3
  pub short_is : (bytes : List ℕ) → Has short bytes ↔ (length bytes < least)
  pub magic_is : (bytes : List ℕ) → Has magic bytes ↔ (take 4 bytes ≢ m)
  pub checksum_is : (bytes : List ℕ) → Has checksum bytes ↔ (¬ IsSummed bytes)

pub turned : (b : Bool) → not b ≡ false → b ≡ true
turned true e = refl
turned false e = absurd cc

pub turned_back : (b : Bool) → not b ≡ true → b ≡ false
turned_back true e = absurd cc
turned_back false e = refl

pub crc_fits : (bytes : List ℕ) → crc32c bytes < 256 ^ 4
unfolding crc32c
crc_fits bytes = omega arith

module _ {F : Type 0} (short magic checksum : F) (least : ℕ) (m : List ℕ) where
  pub sealed_as : (bytes fields : List ℕ) → sealed_fields short magic checksum least m bytes ≡ Ok fields → Sealed least m bytes fields
  sealed_as bytes fields e =
      let a = passed (nat_lt (length bytes) least) short _ fields e in
      let b = passed (not (pointwise nat_eq (take 4 bytes) m)) magic _ fields a.1 in
      let c = passed (not (eqb (little_number 4 (drop (length bytes - 4) bytes)) (crc32c (take (length bytes - 4) bytes)))) checksum _ fields b.1 in
      record {
        long = ltb-false _ _ a.0;
        magical = same_text (take 4 bytes) m (sym (turned _ b.0));
        summed = eqb-true _ _ (turned _ c.0);
        fields_are = sym (ok_is (fields_of bytes) fields c.1);
      }

  -- what was sealed so is read as its fields
  pub sealed_again : (u body : List ℕ) → pointwise nat_eq (take 4 (u ++ little_bytes 4 (crc32c u))) m ≡ true → drop 8 (u ++ little_bytes 4 (crc32c u)) ≡ body ++ little_bytes 4 (crc32c u)
      → length u ≡ length body + 8 → least ≤ length body + 12 → sealed_fields short magic checksum least m (u ++ little_bytes 4 (crc32c u)) ≡ Ok body
  sealed_again u body magical behind size enough =
      let sum = little_bytes 4 (crc32c u) in
      let bytes = u ++ sum in
      let len : length bytes ≡ length body + 12 = omega (arith, length-append u sum, size) in
      let cut : length u ≡ length bytes - 4 = omega (arith, len, size) in
      let inner : length body ≡ length bytes - 4 - 8 = omega (arith, len) in
      let long : nat_lt (length bytes) least ≡ false = le-ltb _ _ (omega (arith, len, enough)) in
      let front : take (length bytes - 4) bytes ≡ u = take_at u sum (length bytes - 4) cut in
      let back : drop (length bytes - 4) bytes ≡ sum = drop_at u sum (length bytes - 4) cut in
      let summed : eqb (little_number 4 (drop (length bytes - 4) bytes)) (crc32c (take (length bytes - 4) bytes)) ≡ true =
      eq-eqb _ _ (ap (λ (x : List ℕ). little_number 4 x) back ∙ number_again 4 (crc32c u) (crc_fits u) ∙ ap crc32c (sym front)) in
      let text : fields_of bytes ≡ body = ap (take (length bytes - 4 - 8)) behind ∙ take_at body sum (length bytes - 4 - 8) inner in
      rw (long, magical, summed, text) refl

module _ {F : Type 0} (number : F → ℕ) (Has : F → List ℕ → Type 0) (short magic checksum : F) (least : ℕ) (m : List ℕ) (is : AreOfSeal number Has short magic checksum least m) where
  one_more : (n : ℕ) (f : F) (bytes : List ℕ) → number f ≡ n → Clear number Has n bytes → ¬ Has f bytes → Clear number Has (suc n) bytes
  one_more n f bytes e clear absent = subst (λ (k : ℕ). Clear number Has (suc k) bytes) e (clear_more number Has is.by f bytes (subst (λ (k : ℕ). Clear number Has k bytes) (sym e) clear) absent)

  first_here : (n : ℕ) (d f : F) (bytes : List ℕ) → number d ≡ n → d ≡ f → Has d bytes → Clear number Has n bytes → IsFirstOf number Has f bytes
  first_here n d f bytes e same holds clear = as_first_of number Has d f bytes same holds (subst (λ (k : ℕ). Clear number Has k bytes) (sym e) clear)

  pub sealed_clear : (bytes fields : List ℕ) → Sealed least m bytes fields → Clear number Has 4 bytes
  sealed_clear bytes fields s =
      one_more 3 checksum bytes is.third
      (one_more 2 magic bytes is.second
      (one_more 1 short bytes is.first (clear_none number Has is.by bytes) (λ h. let l = (is.short_is bytes).0 h in omega (arith, l, s.long)))
      (λ h. (is.magic_is bytes).0 h s.magical))
      (λ h. (is.checksum_is bytes).0 h s.summed)

  -- the fault of bytes that are no sealed ones is the first that they have
  pub sealed_refused : (bytes : List ℕ) (f : F) → sealed_fields short magic checksum least m bytes ≡ Err f → IsFirstOf number Has f bytes
  sealed_refused bytes f e =
      let none = clear_none number Has is.by bytes in
      elim (cond_err (nat_lt (length bytes) least) short _ f e) [
        | inl h ↦ first_here 1 short f bytes is.first h.1 ((is.short_is bytes).1 (ltb-true _ _ h.0)) none
        | inr a ↦
            let long : least ≤ length bytes = ltb-false _ _ a.0 in
            let c1 = one_more 1 short bytes is.first none (λ h. let l = (is.short_is bytes).0 h in omega (arith, l, long)) in
            elim (cond_err (not (pointwise nat_eq (take 4 bytes) m)) magic _ f a.1) [
              | inl h ↦ first_here 2 magic f bytes is.second h.1 ((is.magic_is bytes).1 (other_text (take 4 bytes) m (sym (turned_back _ h.0)))) c1
              | inr b ↦
                  let c2 = one_more 2 magic bytes is.second c1 (λ h. (is.magic_is bytes).0 h (same_text (take 4 bytes) m (sym (turned _ b.0)))) in
                  elim (cond_err (not (eqb (little_number 4 (drop (length bytes - 4) bytes)) (crc32c (take (length bytes - 4) bytes)))) checksum _ f b.1) [
                    | inl h ↦ first_here 3 checksum f bytes is.third h.1 ((is.checksum_is bytes).1 (eqb-false _ _ (turned_back _ h.0))) c2
                    | inr c ↦ let no : done {F = F} (fields_of bytes) ≡ Err f = c.1 in absurd cc
                  ]
            ]
      ]

-- ---- steps

-- a head and fields of which each step says what was read, and each fault what could not be
pub record AreSteps {F H B : Type 0} (number : F → ℕ) (Has : F → List ℕ → Type 0) (short magic checksum fields range : F) (least : ℕ) (m : List ℕ) (head : List ℕ → Result H F) (body : H → List ℕ → Result B F)
    (fine : B → Bool) (Headed : List ℕ → H → Type 0) (Spells : B → List ℕ → Type 0) : Type 0 where
  pub seal : AreOfSeal number Has short magic checksum least m
  pub next : number range ≡ suc (number fields)
  pub headed : (bytes : List ℕ) (h : H) → head bytes ≡ Ok h → Headed bytes h
  pub clear : (bytes : List ℕ) (h : H) → Headed bytes h → Clear number Has 4 bytes → Clear number Has (number fields) bytes
  pub refused : (bytes : List ℕ) (f : F) → Clear number Has 4 bytes → head bytes ≡ Err f → IsFirstOf number Has f bytes
  pub spelled : (bytes : List ℕ) (h : H) (b : B) → Headed bytes h → IsBytes (fields_of bytes) → body h (fields_of bytes) ≡ Ok b → Spells b bytes
  pub again : (bytes : List ℕ) (h : H) (b : B) → Headed bytes h → Spells b bytes → body h (fields_of bytes) ≡ Ok b
  pub fails : (bytes : List ℕ) (h : H) (f : F) → body h bytes ≡ Err f → fields ≡ f
  pub fields_is : (bytes : List ℕ) → Has fields bytes ↔ ((b : B) → ¬ Spells b bytes)
  pub range_is : (bytes : List ℕ) → Has range bytes ↔ ((b : B) → Spells b bytes → fine b ≢ true)

-- what bytes are read as
pub record Steps {H B V : Type 0} (least : ℕ) (m : List ℕ) (value : H → B → V) (fine : B → Bool) (Headed : List ℕ → H → Type 0) (Spells : B → List ℕ → Type 0) (bytes : List ℕ) (v : V) : Type 0 where
  pub head : H
  pub body : B
  pub is : value head body ≡ v
  pub sealed : Sealed least m bytes (fields_of bytes)
  pub headed : Headed bytes head
  pub spelled : Spells body bytes
  pub range : fine body ≡ true

fields_fit : (bytes : List ℕ) → IsBytes bytes → IsBytes (fields_of bytes)
fields_fit bytes fits = IsBytes-take _ (drop 8 bytes) (IsBytes-drop 8 bytes fits)

module _ {F H B V : Type 0} {number : F → ℕ} {Has : F → List ℕ → Type 0} {short magic checksum fields range : F} {least : ℕ} {m : List ℕ} {head : List ℕ → Result H F} {body : H → List ℕ → Result B F} {fine : B → Bool}
    {Headed : List ℕ → H → Type 0} {Spells : B → List ℕ → Type 0} (s : AreSteps number Has short magic checksum fields range least m head body fine Headed Spells) (value : H → B → V) where
  abbrev finish : H → B → Result V F
  finish h b = cond (fine b) (Ok (value h b)) (Err range)

  abbrev read : List ℕ → Result V F
  read bytes = in_steps (sealed_fields short magic checksum least m bytes) (head bytes) body value fine range

  -- the fault of bytes that are refused is the first that they have
  pub first_refused : (bytes : List ℕ) (f : F) → IsBytes bytes → read bytes ≡ Err f → IsFirstOf number Has f bytes
  first_refused bytes f fits e =
      elim (bind_err (sealed_fields short magic checksum least m bytes) (λ x. and_then (head bytes) (λ h. and_then (body h x) (finish h))) f e) [
        | inl a ↦ sealed_refused number Has short magic checksum least m s.seal bytes f a
        | inr a ↦
            let t = sealed_as short magic checksum least m bytes a.0 a.1 in
            let c4 = sealed_clear number Has short magic checksum least m s.seal bytes a.0 t in
            elim (bind_err (head bytes) (λ h. and_then (body h a.0) (finish h)) f a.2) [
              | inl b ↦ s.refused bytes f c4 b
              | inr b ↦
                  let h = s.headed bytes b.0 b.1 in
                  let c = s.clear bytes b.0 h c4 in
                  let same : body b.0 (fields_of bytes) ≡ body b.0 a.0 = ap (body b.0) (sym t.fields_are) in
                  elim (bind_err (body b.0 a.0) (finish b.0) f b.2) [
                    | inl d ↦
                        let none : (x : B) → ¬ Spells x bytes = λ x is. (let no : done x ≡ Err f = sym (s.again bytes b.0 x h is) ∙ same ∙ d in absurd cc) in
                        as_first_of number Has fields f bytes (s.fails a.0 b.0 f d) ((s.fields_is bytes).1 none) c
                    | inr d ↦
                        let out = passed_err (fine d.0) range (value b.0 d.0) f d.2 in
                        let here : Spells d.0 bytes = s.spelled bytes b.0 d.0 h (fields_fit bytes fits) (same ∙ d.1) in
                        let wrong : (x : B) → Spells x bytes → fine x ≢ true = λ x is good.
                        (let is_it : x ≡ d.0 = ok_is x d.0 (sym (s.again bytes b.0 x h is) ∙ same ∙ d.1) in
                        let no : true ≡ false = sym good ∙ ap fine is_it ∙ out.0 in
                        absurd cc) in
                        let before : Clear number Has (suc (number fields)) bytes = clear_more number Has s.seal.by fields bytes c (λ no. (s.fields_is bytes).0 no d.0 here) in
                        as_first_of number Has range f bytes out.1 ((s.range_is bytes).1 wrong) (subst (λ (n : ℕ). Clear number Has n bytes) (sym s.next) before)
                  ]
            ]
      ]

  -- what bytes that are accepted are read as
  pub found_in : (bytes : List ℕ) (v : V) → IsBytes bytes → read bytes ≡ Ok v → Steps least m value fine Headed Spells bytes v
  found_in bytes v fits e =
      let a = bind_ok (sealed_fields short magic checksum least m bytes) (λ x. and_then (head bytes) (λ h. and_then (body h x) (finish h))) v e in
      let b = bind_ok (head bytes) (λ h. and_then (body h a.0) (finish h)) v a.2 in
      let c = bind_ok (body b.0 a.0) (finish b.0) v b.2 in
      let g = passed_ok (fine c.0) range (value b.0 c.0) v c.2 in
      let t = sealed_as short magic checksum least m bytes a.0 a.1 in
      let h = s.headed bytes b.0 b.1 in
      record {
        head = b.0;
        body = c.0;
        is = g.1;
        sealed = record { long = t.long; magical = t.magical; summed = t.summed; fields_are = refl };
        headed = h;
        spelled = s.spelled bytes b.0 c.0 h (fields_fit bytes fits) (ap (body b.0) (sym t.fields_are) ∙ c.1);
        range = g.0;
      }

-- bytes are what was sealed, if all but their checksum is
pub whole_text : (least : ℕ) (m bytes fields text : List ℕ) → 12 ≤ least → IsBytes bytes → Sealed least m bytes fields → take (length bytes - 4) bytes ≡ text → bytes ≡ text ++ checksum_bytes text
unfolding checksum_bytes
whole_text least m bytes fields text enough fits s front =
    let n = length bytes - 4 in
    let four : length (drop n bytes) ≡ 4 = omega (arith, length-append (take n bytes) (drop n bytes), ap length (take-append-drop n bytes), length-take n bytes, s.long, enough) in
    let last : drop n bytes ≡ checksum_bytes text = sym (back_4 (drop n bytes) four (IsBytes-drop n bytes fits)) ∙ ap (λ (x : ℕ). little_bytes 4 x) (s.summed ∙ ap crc32c front) in
    sym (take-append-drop n bytes) ∙ rw (front, last) refl
