-- Bytes have one fault at most.
use Rattle.std.proofs.Common.{◌≡◌, ℕ, List, [], ◌∷◌, ◌++◌, refl, sym, ap, subst, ◌∙◌, append_assoc, inl, inr}
use Rattle.std.specs.Prelude.{slice_get}
use Rattle.std.specs.List.{AllByRecursion, flat_map}
use Rattle.decode.specs.declared.insn.Insn.{Insn}
use Rattle.decode.specs.declared.word.Word.{Word}
use Rattle.decode.specs.declared.fault.EncodingRule.{EncodingRule}
use Rattle.decode.specs.Layout.{IsWord, word_bytes}
use Rattle.decode.specs.Encoding.{Fits, encoding, insn_bytes}
use Rattle.decode.specs.Slots.{slots}
use Rattle.decode.specs.Refusal.{Breaks, order, IsBrokenAt, IsFault}
use Rattle.decode.proofs.Firsts.{first_once}
use Rattle.decode.proofs.Once.{word_once, insn_once, HeadBroken, not_broken, starts, never, whole_slots}

words_once : (ws vs : List Word) → AllByRecursion IsWord ws → AllByRecursion IsWord vs → flat_map word_bytes ws ≡ flat_map word_bytes vs → ws ≡ vs
words_once [] [] sw sv e = refl
words_once [] (v ∷ vs) sw sv e = absurd cc
words_once (w ∷ ws) [] sw sv e = absurd cc
words_once (w ∷ ws) (v ∷ vs) sw sv e =
    let first = word_once w v (flat_map word_bytes ws) (flat_map word_bytes vs) sw.0 sv.0 e in
    let rest = words_once ws vs sw.1 sv.1 first.1 in
    cc (first.0, rest)

regroup : (i : Insn) (is : List Insn) (rest : List ℕ) → encoding (i ∷ is) ++ rest ≡ insn_bytes i ++ (encoding is ++ rest)
regroup i is rest = ap (λ (x : List ℕ). x ++ rest) (starts i is) ∙ append_assoc (insn_bytes i) (encoding is) rest

abbrev Each : List Insn → Type 0
Each is = AllByRecursion Fits is

abbrev AreWords : List Word → Type 0
AreWords ws = AllByRecursion IsWord ws

one_place : (is js : List Insn) (r s : EncodingRule) (w v : Word) (ws vs : List Word) → Each is → Each js → AreWords (w ∷ ws) → AreWords (v ∷ vs) → encoding is ++ flat_map word_bytes (w ∷ ws) ≡ encoding js ++ flat_map word_bytes (v ∷ vs) → HeadBroken r (w ∷ ws) → HeadBroken s (v ∷ vs) → (is ≡ js) × (flat_map word_bytes (w ∷ ws) ≡ flat_map word_bytes (v ∷ vs))
one_place [] [] r s w v ws vs fi fj sw sv e a b = (refl, e)
one_place [] (j ∷ js) r s w v ws vs fi fj sw sv e a b = absurd (not_broken j (encoding js ++ flat_map word_bytes (v ∷ vs)) r w ws fj.0 sw (sym (e ∙ regroup j js (flat_map word_bytes (v ∷ vs)))) a)
one_place (i ∷ is) [] r s w v ws vs fi fj sw sv e a b = absurd (not_broken i (encoding is ++ flat_map word_bytes (w ∷ ws)) s v vs fi.0 sv (sym (regroup i is (flat_map word_bytes (w ∷ ws))) ∙ e) b)
one_place (i ∷ is) (j ∷ js) r s w v ws vs fi fj sw sv e a b =
    let x = flat_map word_bytes (w ∷ ws) in
    let y = flat_map word_bytes (v ∷ vs) in
    let once = insn_once i j (encoding is ++ x) (encoding js ++ y) fi.0 fj.0 (sym (regroup i is x) ∙ e ∙ regroup j js y) in
    let rest = one_place is js r s w v ws vs fi.1 fj.1 sw sv once.1 a b in
    (cc (once.0, rest.0), rest.1)

one_head : (q r : EncodingRule) (v : Word) (vs : List Word) → HeadBroken q (v ∷ vs) → HeadBroken r (v ∷ vs) → q ≡ r
one_head q r v vs a b = first_once (λ s. Breaks s v (slice_get vs 0)) order q r a b

pub one_fault : (bytes : List ℕ) (q r : EncodingRule) (m n : ℕ) → IsFault bytes q m → IsFault bytes r n → (q ≡ r) × (m ≡ n)
one_fault bytes q r m n (inl a) (inl b) = (a.0 ∙ sym b.0, a.1 ∙ sym b.1)
one_fault bytes q r m n (inl a) (inr b) = absurd (a.2 b.0)
one_fault bytes q r m n (inr a) (inl b) = absurd (b.2 a.0)
one_fault bytes q r m n (inr (_, a)) (inr (_, b)) =
    let place = one_place a.before b.before q r a.word b.word a.rest b.rest a.fits b.fits a.sizes b.sizes (sym a.whole ∙ b.whole) a.broken b.broken in
    let same = words_once (a.word ∷ a.rest) (b.word ∷ b.rest) a.sizes b.sizes place.1 in
    (one_head q r b.word b.rest (subst (HeadBroken q) same a.broken) b.broken, a.slot_is ∙ ap slots place.0 ∙ sym b.slot_is)

pub no_fault : (is : List Insn) (r : EncodingRule) (n : ℕ) → AllByRecursion Fits is → IsFault (encoding is) r n → ⊥
no_fault is r n fits (inl uneven) = uneven.2 (whole_slots is)
no_fault is r n fits (inr (_, at)) = never at.before is r at.word at.rest at.fits fits at.sizes (sym at.whole) at.broken
