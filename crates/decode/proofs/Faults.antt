-- What a slot does not break, and where bytes are broken.
use Rattle.std.proofs.Common.{◌≡◌, ◌≢◌, ◌⊎◌, ℕ, zero, suc, ◌+◌, ◌*◌, ◌%◌, ◌/◌, ◌<◌, List, [], ◌∷◌, ◌++◌, length, get_or, Option, Some, None, refl, sym, ap, subst, ◌∙◌, append_assoc, inl, inr, arith}
use Rattle.std.specs.Prelude.{slice_get}
use Rattle.std.specs.List.{AllByRecursion, flat_map}
use Rattle.std.specs.Int.{w16, w32, to_le_bytes, from_le_bytes}
use Rattle.std.proofs.lemmas.Nat.{le_bytes_2, le_bytes_4}
use Rattle.std.proofs.lemmas.Grind.{flat_map-append}
use Rattle.decode.specs.declared.insn.ByteOrder.TheVariants.{Little, Big, Swap}
use Rattle.decode.specs.declared.insn.SwapBits.{SwapBits}
use Rattle.decode.specs.declared.insn.SwapBits.TheVariants.{Bits16, Bits32, Bits64}
use Rattle.decode.specs.declared.word.Word.{Word}
use Rattle.decode.specs.declared.insn.Insn.{Insn}
use Rattle.decode.specs.declared.insn.Reg.{Reg}
use Rattle.decode.specs.declared.fault.EncodingRule.TheVariants.{Register, Width}
use Rattle.decode.specs.declared.fault.EncodingRule.{EncodingRule}
use Rattle.decode.specs.First.{IsFirst}
use Rattle.decode.specs.Layout.{IsWord, word_bytes}
use Rattle.decode.specs.Encoding.{Fits, encoding, insn_bytes, swap_imm}
use Rattle.decode.specs.Refusal.{Breaks, IsBrokenAt, order}
use Rattle.decode.specs.Slots.{slots}
use Rattle.decode.proofs.SlotLemmas.{slots-append}

-- the fields name registers
pub named : (w : Word) (next : Option Word) (dst src : Reg) → dst.number ≡ w.dst → src.number ≡ w.src → ¬ Breaks Register w next
named w next dst src is_dst is_src (inl above) = let d = dst.in_range in absurd (omega arith)
named w next dst src is_dst is_src (inr above) = let s = src.in_range in absurd (omega arith)

-- a byte swap of no width, opcode by opcode and width by width
abbrev pub Widthless : Word → Type 0
Widthless w = ((w.opcode ≡ 0xd4) ⊎ ((w.opcode ≡ 0xdc) ⊎ (w.opcode ≡ 0xd7))) × (w.imm ≢ 16) × (w.imm ≢ 32) × (w.imm ≢ 64)

no_bits : (n : ℕ) → n ≢ 16 → n ≢ 32 → n ≢ 64 → (bits : SwapBits) → n ≢ swap_imm bits
no_bits n a b c Bits16 = a
no_bits n a b c Bits32 = b
no_bits n a b c Bits64 = c

-- a slot whose byte swap has no width breaks the rule of widths
pub no_width : (w : Word) (next : Option Word) → Widthless w → Breaks Width w next
no_width w next (inl e, a, b, c) = ((Little, e), no_bits w.imm a b c)
no_width w next (inr (inl e), a, b, c) = ((Big, e), no_bits w.imm a b c)
no_width w next (inr (inr e), a, b, c) = ((Swap, e), no_bits w.imm a b c)

-- and no other slot does
pub sized : (w : Word) (next : Option Word) → (¬ Widthless w) → ¬ Breaks Width w next
sized w next fine ((Little, e), none) = fine (inl e, none Bits16, none Bits32, none Bits64)
sized w next fine ((Big, e), none) = fine (inr (inl e), none Bits16, none Bits32, none Bits64)
sized w next fine ((Swap, e), none) = fine (inr (inr e), none Bits16, none Bits32, none Bits64)

-- ---- bytes as slots

abbrev pub IsBytes : List ℕ → Type 0
IsBytes bytes = (i : ℕ) → get_or bytes i 0 < 256

abbrev pub AreWords : List ℕ → Type 0
AreWords bytes = (ws : List Word) × AllByRecursion IsWord ws × (bytes ≡ flat_map word_bytes ws)

cons_words : (a b c d e f g h : ℕ) (rest : List ℕ) → IsBytes (a ∷ b ∷ c ∷ d ∷ e ∷ f ∷ g ∷ h ∷ rest) → AreWords rest → AreWords (a ∷ b ∷ c ∷ d ∷ e ∷ f ∷ g ∷ h ∷ rest)
cons_words a b c d e f g h rest is (ws, sizes, whole) =
    let w : Word = record { opcode = a; dst = b % 16; src = b / 16; offset = from_le_bytes w16 (c ∷ d ∷ []); imm = from_le_bytes w32 (e ∷ f ∷ g ∷ h ∷ []) } in
    let low : to_le_bytes w16 w.offset ≡ c ∷ d ∷ [] = le_bytes_2 (c ∷ d ∷ []) w.offset refl (λ i. two i) refl in
    let high : to_le_bytes w32 w.imm ≡ e ∷ f ∷ g ∷ h ∷ [] = le_bytes_4 (e ∷ f ∷ g ∷ h ∷ []) w.imm refl (λ i. four i) refl in
    let registers : w.dst + w.src * 16 ≡ b = omega arith in
    let word : word_bytes w ≡ a ∷ b ∷ c ∷ d ∷ e ∷ f ∷ g ∷ h ∷ [] = λ i. a ∷ registers i ∷ (low i ++ high i) in
    let size : IsWord w = record { dst = omega arith; src = omega (arith, is 1); offset = omega (arith, is 2, is 3); imm = omega (arith, is 4, is 5, is 6, is 7) } in
    (w ∷ ws, (size, sizes), ap (λ (x : List ℕ). a ∷ b ∷ c ∷ d ∷ e ∷ f ∷ g ∷ h ∷ x) whole ∙ ap (λ (x : List ℕ). x ++ flat_map word_bytes ws) (sym word))
  where
    two : (i : ℕ) → get_or (c ∷ d ∷ []) i 0 < 256
    two zero = is 2
    two (suc zero) = is 3
    two (suc (suc i)) = omega arith

    four : (i : ℕ) → get_or (e ∷ f ∷ g ∷ h ∷ []) i 0 < 256
    four zero = is 4
    four (suc zero) = is 5
    four (suc (suc zero)) = is 6
    four (suc (suc (suc zero))) = is 7
    four (suc (suc (suc (suc i)))) = omega arith

-- whole slots of bytes are words
pub are_words : (k : ℕ) (bytes : List ℕ) → IsBytes bytes → length bytes ≡ 8 * k → AreWords bytes
are_words zero [] is e = ([], tt, refl)
are_words zero (a ∷ rest) is e = absurd (omega arith)
are_words (suc k) (a ∷ b ∷ c ∷ d ∷ e ∷ f ∷ g ∷ h ∷ rest) is long =
    cons_words a b c d e f g h rest is (are_words k rest (λ i. is (suc (suc (suc (suc (suc (suc (suc (suc i))))))))) (omega arith))
are_words (suc k) bytes is long = absurd (omega arith)

-- the first slot of the bytes is broken
pub starts_broken : (bytes after : List ℕ) (w : Word) (r : EncodingRule) → IsWord w → bytes ≡ word_bytes w ++ after → (words : AreWords after)
    → IsFirst (λ q. Breaks q w (slice_get words.0 0)) order r → IsBrokenAt bytes r 0
starts_broken bytes after w r size fields (ws, sizes, whole) broken =
    record { before = []; fits = tt; slot_is = refl; word = w; rest = ws; sizes = (size, sizes); whole = fields ∙ ap (λ (x : List ℕ). word_bytes w ++ x) whole; broken = broken }

-- it is the last
pub alone_broken : (bytes after : List ℕ) (w : Word) (r : EncodingRule) → IsWord w → bytes ≡ word_bytes w ++ after → length after ≡ 0
    → IsFirst (λ q. Breaks q w None) order r → IsBrokenAt bytes r 0
alone_broken bytes [] w r size fields last broken = starts_broken bytes [] w r size fields ([], tt, refl) broken
alone_broken bytes (a ∷ after) w r size fields last broken = absurd (omega arith)

tail_bytes : (w : Word) (rest : List ℕ) → IsBytes (word_bytes w ++ rest) → IsBytes rest
tail_bytes w rest is i = is (suc (suc (suc (suc (suc (suc (suc (suc i))))))))

-- another follows
pub followed_broken : (bytes after last : List ℕ) (w s : Word) (r : EncodingRule) → IsBytes bytes → length bytes % 8 ≡ 0 → IsWord w → bytes ≡ word_bytes w ++ after
    → IsWord s → after ≡ word_bytes s ++ last → IsFirst (λ q. Breaks q w (Some s)) order r → IsBrokenAt bytes r 0
followed_broken bytes after last w s r is even size fields size' fields' broken =
    let whole : bytes ≡ word_bytes w ++ (word_bytes s ++ last) = fields ∙ ap (λ (x : List ℕ). word_bytes w ++ x) fields' in
    let counted = ap length whole in
    let is_last : IsBytes last = tail_bytes s last (tail_bytes w (word_bytes s ++ last) (subst IsBytes whole is)) in
    let (ws, sizes, e) = are_words (length last / 8) last is_last (omega arith) in
    starts_broken bytes after w r size fields (s ∷ ws, (size', sizes), fields' ∙ ap (λ (x : List ℕ). word_bytes s ++ x) e) broken

-- what stands before a broken slot
pub all_append : (is js : List Insn) → AllByRecursion Fits is → AllByRecursion Fits js → AllByRecursion Fits (is ++ js)
all_append [] js fi fj = fj
all_append (i ∷ is) js fi fj = (fi.0, all_append is js fi.1 fj)

-- a rule broken after whole instructions is broken in all of the bytes, as many slots later
pub broken_later : (bytes rest : List ℕ) (is : List Insn) (r : EncodingRule) (slot : ℕ) → AllByRecursion Fits is → slot ≡ slots is → bytes ≡ encoding is ++ rest → IsBrokenAt rest r 0 → IsBrokenAt bytes r slot
broken_later bytes rest is r slot fits slot_is so_far b =
    let words = flat_map word_bytes (b.word ∷ b.rest) in
    record {
      before = is ++ b.before;
      fits = all_append is b.before fits b.fits;
      slot_is = omega (arith, slot_is, slots-append is b.before, b.slot_is);
      word = b.word;
      rest = b.rest;
      sizes = b.sizes;
      whole = so_far ∙ ap (λ (x : List ℕ). encoding is ++ x) b.whole ∙ sym (append_assoc (encoding is) (encoding b.before) words) ∙ ap (λ (x : List ℕ). x ++ words) (sym (flat_map-append insn_bytes is b.before));
      broken = b.broken;
    }
