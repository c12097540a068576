-- What is judged of a source by its first bytes, and that a fault that is found there is the source's.
use Rattle.std.proofs.Common.{◌≡◌, ◌≤◌, ◌<◌, ◌∙◌, ℕ, Bool, true, false, List, [], ◌∷◌, ◌++◌, length, take, drop, nat_le, refl, sym, ap, subst, inl, inr, arith, cond, slice_index_or, suc, length-take-le, take_all, take-append-drop, append_assoc, true≢false, ◌==◌, zero}
use Rattle.std.proofs.lemmas.Bool.{leb-true, leb-false}
use Rattle.std.proofs.lemmas.List.Splits.{length-slice_split}
use Rattle.std.proofs.Math.Seq.{drop-cons}
use Rattle.std.specs.List.{onto_first, slice_split}
use Rattle.assemble.specs.Refusal as assembling
use Rattle.assemble.specs.Text.{is_silent, lines_of}
use Rattle.assemble.specs.declared.fault.TextRule.{TextRule}
use Rattle.image_commands.specs.Judged.{AreWholeLines, IsJudged, IsLastFeed}
use Rattle.image_commands.specs.declared.asm.TheConstants.{SOURCE_LIMIT}
use Rattle.image_commands.specs.declared.judged.TheConstants.{TEXT_LIMIT}

-- ---- beginnings

-- what is read with a limit is all, or has as many bytes as the limit
pub read_whole : (n : ℕ) (bytes whole : List ℕ) → bytes ≡ take (suc n) whole → length bytes ≤ n → bytes ≡ whole
read_whole n bytes whole is short = go (nat_le (length whole) (suc n)) refl
  where
    go : (b : Bool) → nat_le (length whole) (suc n) ≡ b → bytes ≡ whole
    go true le = is ∙ take_all (suc n) whole (leb-true (length whole) (suc n) le)
    go false gt =
        let more : suc n < length whole = leb-false (length whole) (suc n) gt in
        absurd (omega (arith, short, ap length is, length-take-le (suc n) whole (omega (arith, more))))

-- fewer bytes than were read are a beginning of the whole
pub fewer : (n : ℕ) (bytes whole : List ℕ) → bytes ≡ take (suc n) whole → take n bytes ≡ take n whole
fewer n bytes whole is = ap (take n) is ∙ less n whole
  where
    less : (m : ℕ) (xs : List ℕ) → take m (take (suc m) xs) ≡ take m xs
    less zero xs = refl
    less (suc m) [] = refl
    less (suc m) (x ∷ xs) = ap (λ ys. x ∷ ys) (less m xs)

-- a file of whose beginning more than n bytes were read has more than n
pub longer : (n : ℕ) (bytes whole : List ℕ) → bytes ≡ take (suc n) whole → n < length bytes → n < length whole
longer n bytes whole is long = go (nat_le (length whole) n) refl
  where
    go : (b : Bool) → nat_le (length whole) n ≡ b → n < length whole
    go true le = absurd (omega (arith, long, ap length (is ∙ take_all (suc n) whole (omega (arith, leb-true (length whole) n le))), leb-true (length whole) n le))
    go false gt = leb-false (length whole) n gt

-- what is judged of the bytes that were read is what is judged of the source
pub judged_by_read : (bytes whole head : List ℕ) → bytes ≡ take SOURCE_LIMIT whole → IsJudged bytes head → IsJudged whole head
judged_by_read bytes whole head is (inl all) =
    let same : bytes ≡ whole = read_whole TEXT_LIMIT bytes whole is all.0 in
    inl (subst (λ (b : List ℕ). length b ≤ TEXT_LIMIT) same all.0, all.1 ∙ same)
judged_by_read bytes whole head is (inr part) =
    inr (longer TEXT_LIMIT bytes whole is part.0, subst (λ (b : List ℕ). AreWholeLines b head) (fewer TEXT_LIMIT bytes whole is) part.1)

-- ---- lines

onto_more : {X : Type 0} → (y : X) (ls ms : List (List X)) → 0 < length ls → onto_first y (ls ++ ms) ≡ onto_first y ls ++ ms
onto_more y [] ms some = absurd (omega arith)
onto_more y (l ∷ ls) ms some = refl

some_parts : {X : Type 0} → (p : X → Bool) (xs : List X) → 0 < length (slice_split p xs)
some_parts p xs = omega (arith, length-slice_split p xs)

split_parts : {X : Type 0} → (p : X → Bool) (xs : List X) (y : X) (ys : List X) → p y ≡ true → slice_split p (xs ++ y ∷ ys) ≡ slice_split p xs ++ slice_split p ys
split_parts p [] y ys is = ap (λ b. cond b ([] ∷ slice_split p ys) (onto_first y (slice_split p ys))) is
split_parts p (x ∷ xs) y ys is =
    ap (λ r. cond (p x) ([] ∷ r) (onto_first x r)) (split_parts p xs y ys is) ∙ both (p x)
  where
    both : (b : Bool) → cond b ([] ∷ (slice_split p xs ++ slice_split p ys)) (onto_first x (slice_split p xs ++ slice_split p ys))
        ≡ cond b ([] ∷ slice_split p xs) (onto_first x (slice_split p xs)) ++ slice_split p ys
    both true = refl
    both false = onto_more x (slice_split p xs) (slice_split p ys) (some_parts p xs)

-- a text is cut at a line feed
cut_at : (bytes : List ℕ) (place : ℕ) → place < length bytes → slice_index_or bytes place 0 ≡ 10 → bytes ≡ take place bytes ++ 10 ∷ drop (suc place) bytes
cut_at bytes place within feed =
    sym (take-append-drop place bytes) ∙ ap (λ r. take place bytes ++ r) (drop-cons bytes place 0 within ∙ ap (λ c. c ∷ drop (suc place) bytes) feed)

-- the lines of a source are those that end in its beginning, and others behind them
lines_behind : (n : ℕ) (whole : List ℕ) (end : ℕ) → IsLastFeed (take n whole) end
    → lines_of whole ≡ lines_of (take end (take n whole)) ++ lines_of (drop (suc end) (take n whole) ++ drop n whole)
lines_behind n whole end feed =
    let b = take n whole in
    let cut : whole ≡ take end b ++ 10 ∷ (drop (suc end) b ++ drop n whole) =
    sym (take-append-drop n whole) ∙ ap (λ r. r ++ drop n whole) (cut_at b end feed.within feed.feed)
    ∙ append_assoc (take end b) (10 ∷ drop (suc end) b) (drop n whole) in
    ap lines_of cut ∙ split_parts (λ c. c == 10) (take end b) 10 (drop (suc end) b ++ drop n whole) refl

-- more lines behind a fault leave it
fault_before : (whole head : List ℕ) (rest : List (List ℕ)) (rule : TextRule) (line : ℕ) → lines_of whole ≡ lines_of head ++ rest
    → assembling.IsFault head rule line → assembling.IsFault whole rule line
fault_before whole head rest rule line lines f = record {
  before = f.before;
  line = f.line;
  after = f.after ++ rest;
  whole = lines ∙ ap (λ ls. ls ++ rest) f.whole ∙ append_assoc f.before (f.line ∷ f.after) rest;
  number_is = f.number_is;
  insns = f.insns;
  fine = f.fine;
  speaks = f.speaks;
  broken = f.broken;
}

-- an empty text has no fault
no_fault : (before : List (List ℕ)) (line : List ℕ) (after : List (List ℕ)) → [] ∷ [] ≡ before ++ line ∷ after → is_silent line ≡ false → ⊥
no_fault [] line after is speaks =
    let empty : [] ≡ line = cc in
    true≢false (subst (λ (l : List ℕ). is_silent l ≡ false) (sym empty) speaks)
no_fault (x ∷ []) line after is speaks = absurd (cc)
no_fault (x ∷ y ∷ ys) line after is speaks = absurd (cc)

-- a fault in what is judged is one of the source
pub fault_of_judged : (whole head : List ℕ) (rule : TextRule) (line : ℕ) → IsJudged whole head → assembling.IsFault head rule line → assembling.IsFault whole rule line
fault_of_judged whole head rule line (inl all) f = subst (λ (t : List ℕ). assembling.IsFault t rule line) all.1 f
fault_of_judged whole head rule line (inr (long, inl (end, is, feed))) f =
    fault_before whole (take end (take TEXT_LIMIT whole)) (lines_of (drop (suc end) (take TEXT_LIMIT whole) ++ drop TEXT_LIMIT whole)) rule line
    (lines_behind TEXT_LIMIT whole end feed) (subst (λ (t : List ℕ). assembling.IsFault t rule line) is f)
fault_of_judged whole head rule line (inr (long, inr (is, none))) f =
    let g = subst (λ (t : List ℕ). assembling.IsFault t rule line) is f in
    absurd (no_fault g.before g.line g.after g.whole g.speaks)
