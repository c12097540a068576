-- Loads and stores grow with frames.
use Rattle.std.proofs.Common.{◌≡◌, ℕ, ◌+◌, ◌-◌, ◌*◌, ◌/◌, ◌%◌, ◌<◌, ◌≤◌, Bool, true, false, Option, Some, None, ℤ, pos, negsuc, ◌+ℤ◌, ◌≤ℤ◌, ◌<ℤ◌, refl, sym, ap, ◌∙◌, subst, arith}
use Rattle.std.specs.Prelude.{nat_lt, nat_le, ◌&&◌, ◌==◌, if◌then◌else◌, int_lt, int_le}
use Rattle.std.proofs.lemmas.Bool.{false≢true}
use Rattle.std.proofs.lemmas.Bool.Decides.{nat_tests}
use Rattle.std.proofs.lemmas.Int.{ints}
use Rattle.regtypes.specs.declared.frame.Region.{Region}
use Rattle.regtypes.specs.declared.frame.Region.TheVariants.{Message, State, Stack}
use Rattle.spans.specs.Span.{Within, whole}
use Rattle.spans.specs.Frame.{Frame, IsFrame, IsKind, SpanKind, Leq, LeqKind, Num, Place, Reach, Unset, WithinReach, is_num, is_set, with_kind}
use Rattle.spans.specs.Access.{AreNumbers, IsReadable, IsWritable, MayLoad, MayStore, cell_at, is_inside, is_reached, loaded_kind, stored_frame, whole_word, wiped, word_kind, written_frame}
use Rattle.spans.proofs.Tests.{parts, both}

-- what a weaker frame allows to load a stronger one allows, and gives no less
abbrev LoadsGrow : Type 0
LoadsGrow =
    (state : ℕ) (f g : Frame) (a b : SpanKind) (o : ℤ) (n : ℕ) → IsFrame f → IsKind a → Leq f g → LeqKind a b → MayLoad state g b o n
    → MayLoad state f a o n × LeqKind (loaded_kind f a o n) (loaded_kind g b o n)

-- and so for stores
abbrev StoresGrow : Type 0
StoresGrow =
    (state : ℕ) (f g : Frame) (k h a b : SpanKind) (o : ℤ) (n : ℕ) → IsFrame f → IsKind k → IsKind a → Leq f g → LeqKind k h → LeqKind a b → MayStore state g h b o n
    → MayStore state f k a o n × Leq (stored_frame f k a o n) (stored_frame g h b o n)

-- bytes that lie inside from each of some distances do from each of fewer
pub is_inside-grows : (len : ℕ) (s t : Reach) (o : ℤ) (n : ℕ) → WithinReach s t → is_inside len t o n ≡ true → is_inside len s o n ≡ true
is_inside-grows len s t o n l e =
    let p = parts (int_le (pos 0) (t.lo +ℤ o)) (int_le (t.hi +ℤ o +ℤ pos n) (pos len)) e in
    both (int_le (pos 0) (s.lo +ℤ o)) (int_le (s.hi +ℤ o +ℤ pos n) (pos len)) (grind (arith, ints, p.0, l.0)) (grind (arith, ints, p.1, l.1))

-- the four tests of `is_reached`
pub record Reaches (s : Reach) (o : ℤ) (n c : ℕ) : Type 0 where
  pub some : 0 < n
  pub cell : 11 ≤ c
  pub begins : pos (8 * (c - 11)) <ℤ (s.hi +ℤ o +ℤ pos n)
  pub ends : (s.lo +ℤ o) <ℤ pos (8 * (c - 11) + 8)

-- a word of the stack that is found reached passes each of the four tests
pub reaches : (s : Reach) (o : ℤ) (n c : ℕ) → is_reached s o n c ≡ true → Reaches s o n c
reaches s o n c e =
    let one = parts (nat_lt 0 n) (nat_le 11 c && (int_lt (pos (8 * (c - 11))) (s.hi +ℤ o +ℤ pos n) && int_lt (s.lo +ℤ o) (pos (8 * (c - 11) + 8)))) e in
    let two = parts (nat_le 11 c) (int_lt (pos (8 * (c - 11))) (s.hi +ℤ o +ℤ pos n) && int_lt (s.lo +ℤ o) (pos (8 * (c - 11) + 8))) one.1 in
    let three = parts (int_lt (pos (8 * (c - 11))) (s.hi +ℤ o +ℤ pos n)) (int_lt (s.lo +ℤ o) (pos (8 * (c - 11) + 8))) two.1 in
    record { some = grind (arith, nat_tests, one.0); cell = grind (arith, nat_tests, two.0); begins = grind (arith, ints, three.0); ends = grind (arith, ints, three.1) }

-- and one that passes the four is found reached
pub reached_by : (s : Reach) (o : ℤ) (n c : ℕ) → Reaches s o n c → is_reached s o n c ≡ true
reached_by s o n c r =
    both (nat_lt 0 n) _ (grind (arith, nat_tests, r.some)) (both (nat_le 11 c) _ (grind (arith, nat_tests, r.cell)) (both (int_lt (pos (8 * (c - 11))) (s.hi +ℤ o +ℤ pos n)) (int_lt (s.lo +ℤ o) (pos (8 * (c - 11) + 8))) (grind (arith, ints, r.begins)) (grind (arith, ints, r.ends))))

further : (x u v o n : ℤ) → x <ℤ (u +ℤ o +ℤ n) → u ≤ℤ v → x <ℤ (v +ℤ o +ℤ n)
further x u v o n h k = grind (arith, ints)

is_reached-grows : (s t : Reach) (o : ℤ) (n c : ℕ) → WithinReach s t → is_reached s o n c ≡ true → is_reached t o n c ≡ true
is_reached-grows s t o n c l e =
    let r = reaches s o n c e in
    reached_by t o n c (record { some = r.some; cell = r.cell; begins = further (pos (8 * (c - 11))) s.hi t.hi o (pos n) r.begins l.1; ends = grind (arith, ints, r.ends, l.0) })

-- the place of a whole word
record IsWord (s : Reach) (o : ℤ) (n c : ℕ) : Type 0 where
  alone : s.hi ≤ℤ s.lo
  eight : n ≡ 8
  at : cell_at (s.lo +ℤ o) ≡ Some c

word_is : (s : Reach) (o : ℤ) (n c : ℕ) → whole_word s o n ≡ Some c → IsWord s o n c
word_is s o n c e = by_test (int_le s.hi s.lo && n == 8) refl e
  where
    by_test : (t : Bool) → (int_le s.hi s.lo && n == 8) ≡ t → (if t then cell_at (s.lo +ℤ o) else None) ≡ Some c → IsWord s o n c
    by_test true q h = let p = parts (int_le s.hi s.lo) (n == 8) q in record { alone = grind (arith, ints, p.0); eight = grind (arith, nat_tests, p.1); at = h }
    by_test false q h = cc

whole_word_of : (s : Reach) (o : ℤ) (n c : ℕ) → IsWord s o n c → whole_word s o n ≡ Some c
whole_word_of s o n c w =
    ap (λ t. if t then cell_at (s.lo +ℤ o) else None) (both (int_le s.hi s.lo) (n == 8) (grind (arith, ints, w.alone)) (grind (arith, nat_tests, w.eight))) ∙ w.at

-- where a wider reach is one word, a narrower one is the same
whole_word-same : (s t : Reach) (o : ℤ) (n c : ℕ) → s.lo ≤ℤ s.hi → WithinReach s t → whole_word t o n ≡ Some c → whole_word s o n ≡ Some c
whole_word-same s t o n c i l e =
    let w = word_is t o n c e in
    let here : t.lo ≡ s.lo = grind (arith, ints, w.alone, l.0, l.1) in
    whole_word_of s o n c (record { alone = grind (arith, ints, w.alone, l.0, l.1); eight = w.eight; at = ap (λ z. cell_at (z +ℤ o)) (sym here) ∙ w.at })

aligned_at : (z : ℤ) (c : ℕ) → cell_at z ≡ Some c → (11 ≤ c) × (z ≡ pos (8 * (c - 11)))
aligned_at (pos p) c e = by_test (p % 8 == 0) refl e
  where
    by_test : (t : Bool) → (p % 8 == 0) ≡ t → (if t then Some (11 + p / 8) else None) ≡ Some c → (11 ≤ c) × (pos p ≡ pos (8 * (c - 11)))
    by_test true q h =
        let there : 11 + p / 8 ≡ c = cc in
        let none : p % 8 ≡ 0 = grind (arith, nat_tests, q) in
        let n : p ≡ 8 * (c - 11) = omega arith in
        (omega arith, ap pos n)
    by_test false q h = cc
aligned_at (negsuc p) c e = cc

-- a word that a narrower reach has alone is one that the wider one may reach
pub whole_word-is_reached : (s t : Reach) (o : ℤ) (n c : ℕ) → s.lo ≤ℤ s.hi → WithinReach s t → whole_word s o n ≡ Some c → (n ≡ 8) × (is_reached t o n c ≡ true)
whole_word-is_reached s t o n c i l e =
    let w = word_is s o n c e in
    let a = aligned_at (s.lo +ℤ o) c w.at in
    let eight : n ≡ 8 = w.eight in
    let wide : pos n ≡ pos 8 = ap pos eight in
    (eight, reached_by t o n c (record { some = omega arith; cell = a.0; begins = grind (arith, ints, a.1, l.1, wide, w.alone, i); ends = grind (arith, ints, a.1, l.0) }))

set-grows : (a b : SpanKind) → LeqKind a b → is_set b ≡ true → is_set a ≡ true
set-grows a Unset l h = cc
set-grows Unset (Num t) l h = absurd l
set-grows (Num s) (Num t) l h = refl
set-grows (Place r s) (Num t) l h = refl
set-grows Unset (Place q t) l h = absurd l
set-grows (Num s) (Place q t) l h = refl
set-grows (Place r s) (Place q t) l h = refl

-- what is known to be a number is one where more is known
pub num-grows : (a b : SpanKind) → LeqKind a b → is_num b ≡ true → is_num a ≡ true
num-grows a Unset l h = cc
num-grows Unset (Num t) l h = absurd l
num-grows (Num s) (Num t) l h = refl
num-grows (Place r s) (Num t) l h = absurd l
num-grows a (Place q t) l h = cc

-- where the words that an access reaches are numbers, they are where more is known, from fewer distances
pub numbers-grow : (f g : Frame) (s t : Reach) (o : ℤ) (n : ℕ) → Leq f g → WithinReach s t → AreNumbers g t o n → AreNumbers f s o n
numbers-grow f g s t o n l m h c r = num-grows (f c) (g c) (l c) (h c (is_reached-grows s t o n c m r))

num_is_set : (k : SpanKind) → is_num k ≡ true → is_set k ≡ true
num_is_set Unset h = cc
num_is_set (Num s) h = refl
num_is_set (Place r s) h = refl

-- a number is a word
num-whole : (k : SpanKind) (n : ℕ) → n ≡ 8 → IsKind k → is_num k ≡ true → LeqKind k (Num (whole (8 * n)))
num-whole Unset n e i h = cc
num-whole (Num s) n e i h = subst (λ m. Within s (whole (8 * m))) (sym e) (omega arith, omega (arith, i.words))
num-whole (Place r s) n e i h = cc

-- loads of the stack, by what the two accesses are
stack-loads : (f g : Frame) (s t : Reach) (o : ℤ) (n : ℕ) (v w : Option ℕ) → IsFrame f → s.lo ≤ℤ s.hi → Leq f g → WithinReach s t → whole_word s o n ≡ v → whole_word t o n ≡ w → IsReadable w g t o n → IsReadable v f s o n × LeqKind (word_kind v f n) (word_kind w g n)
stack-loads f g s t o n v (Some c) i k l m ev ew h =
    subst (λ u. IsReadable u f s o n × LeqKind (word_kind u f n) (g c)) (sym (whole_word-same s t o n c k m ew) ∙ ev) (set-grows (f c) (g c) (l c) h, l c)
stack-loads f g s t o n None None i k l m ev ew h = (numbers-grow f g s t o n l m h, (omega arith, omega arith))
stack-loads f g s t o n (Some c) None i k l m ev ew h =
    let r = whole_word-is_reached s t o n c k m ev in
    let number : is_num (f c) ≡ true = num-grows (f c) (g c) (l c) (h c r.1) in
    (num_is_set (f c) number, num-whole (f c) n r.0 (i c) number)

place-loads : (state : ℕ) (f g : Frame) (q : Region) (s t : Reach) (o : ℤ) (n : ℕ) → IsFrame f → s.lo ≤ℤ s.hi → Leq f g → WithinReach s t → MayLoad state g (Place q t) o n → MayLoad state f (Place q s) o n × LeqKind (loaded_kind f (Place q s) o n) (loaded_kind g (Place q t) o n)
place-loads state f g Message s t o n i k l m h = (is_inside-grows 512 s t o n m h, (omega arith, omega arith))
place-loads state f g State s t o n i k l m h = (is_inside-grows state s t o n m h, (omega arith, omega arith))
place-loads state f g Stack s t o n i k l m h =
    let r = stack-loads f g s t o n (whole_word s o n) (whole_word t o n) i k l m refl refl h.1 in
    ((is_inside-grows 512 s t o n m h.0, r.0), r.1)

pub loads-grow : LoadsGrow
loads-grow state f g a Unset o n i k l m h = absurd h
loads-grow state f g a (Num t) o n i k l m h = absurd h
loads-grow state f g Unset (Place q t) o n i k l m h = absurd m
loads-grow state f g (Num s) (Place q t) o n i k l m h = absurd m
loads-grow state f g (Place r s) (Place q t) o n i k l m h =
    subst (λ r. MayLoad state f (Place r s) o n × LeqKind (loaded_kind f (Place r s) o n) (loaded_kind g (Place q t) o n)) (sym m.0) (place-loads state f g q s t o n i k l m.1 h)

-- ---- stores

-- where frame and kind say more, the frame with the kind in a cell does
pub with_kind-grows : (f g : Frame) (c : ℕ) (k h : SpanKind) → Leq f g → LeqKind k h → Leq (with_kind f c k) (with_kind g c h)
with_kind-grows f g c k h l m d = by_test (d == c)
  where
    by_test : (t : Bool) → LeqKind (if t then k else f d) (if t then h else g d)
    by_test true = m
    by_test false = l d

wiped-grows : (f g : Frame) (s t : Reach) (o : ℤ) (n : ℕ) → IsFrame f → Leq f g → WithinReach s t → AreNumbers g t o n → Leq (wiped f s o n) (wiped g t o n)
wiped-grows f g s t o n i l m h c = by_tests (is_reached s o n c) (is_reached t o n c) (is_reached-grows s t o n c m) (h c)
  where
    by_tests : (u v : Bool) → (u ≡ true → v ≡ true) → (v ≡ true → is_num (g c) ≡ true) → LeqKind (if u then Num (whole 64) else f c) (if v then Num (whole 64) else g c)
    by_tests true true k r = (omega arith, omega arith)
    by_tests true false k r = absurd (false≢true (k refl))
    by_tests false true k r = num-whole (f c) 8 refl (i c) (num-grows (f c) (g c) (l c) (r refl))
    by_tests false false k r = l c

-- one word of the narrower reach, and the words of the wider one
whole_word-wiped : (f g : Frame) (k h : SpanKind) (t : Reach) (o : ℤ) (n c : ℕ) → IsFrame f → IsKind k → Leq f g → LeqKind k h → is_num h ≡ true → is_reached t o n c ≡ true → AreNumbers g t o n → Leq (with_kind f c k) (wiped g t o n)
whole_word-wiped f g k h t o n c i ik l lk number r all d = by_tests (d == c) (is_reached t o n d) (λ e. subst (λ x. is_reached t o n x ≡ true) (sym (equal d c e)) r) (all d)
  where
    equal : (d c : ℕ) → (d == c) ≡ true → d ≡ c
    equal d c e = grind (arith, nat_tests)

    by_tests : (u v : Bool) → (u ≡ true → v ≡ true) → (v ≡ true → is_num (g d) ≡ true) → LeqKind (if u then k else f d) (if v then Num (whole 64) else g d)
    by_tests true true p q = num-whole k 8 refl ik (num-grows k h lk number)
    by_tests true false p q = absurd (false≢true (p refl))
    by_tests false true p q = num-whole (f d) 8 refl (i d) (num-grows (f d) (g d) (l d) (q refl))
    by_tests false false p q = l d

stack-stores : (f g : Frame) (k h : SpanKind) (s t : Reach) (o : ℤ) (n : ℕ) (v w : Option ℕ) → IsFrame f → IsKind k → s.lo ≤ℤ s.hi → Leq f g → LeqKind k h → WithinReach s t → whole_word s o n ≡ v → whole_word t o n ≡ w → IsWritable w g h t o n → IsWritable v f k s o n × Leq (written_frame v f k s o n) (written_frame w g h t o n)
stack-stores f g k h s t o n v (Some c) i ik ip l lk m ev ew e =
    subst (λ u. IsWritable u f k s o n × Leq (written_frame u f k s o n) (with_kind g c h)) (sym (whole_word-same s t o n c ip m ew) ∙ ev) (set-grows k h lk e, with_kind-grows f g c k h l lk)
stack-stores f g k h s t o n None None i ik ip l lk m ev ew e =
    ((num-grows k h lk e.0, numbers-grow f g s t o n l m e.1), wiped-grows f g s t o n i l m e.1)
stack-stores f g k h s t o n (Some c) None i ik ip l lk m ev ew e =
    (num_is_set k (num-grows k h lk e.0), whole_word-wiped f g k h t o n c i ik l lk e.0 (whole_word-is_reached s t o n c ip m ev).1 e.1)

place-stores : (state : ℕ) (f g : Frame) (k h : SpanKind) (q : Region) (s t : Reach) (o : ℤ) (n : ℕ) → IsFrame f → IsKind k → s.lo ≤ℤ s.hi → Leq f g → LeqKind k h → WithinReach s t → MayStore state g h (Place q t) o n → MayStore state f k (Place q s) o n × Leq (stored_frame f k (Place q s) o n) (stored_frame g h (Place q t) o n)
place-stores state f g k h Message s t o n i ik ip l lk m e = absurd e
place-stores state f g k h State s t o n i ik ip l lk m e = ((is_inside-grows state s t o n m e.0, num-grows k h lk e.1), l)
place-stores state f g k h Stack s t o n i ik ip l lk m e =
    let r = stack-stores f g k h s t o n (whole_word s o n) (whole_word t o n) i ik ip l lk m refl refl e.1 in
    ((is_inside-grows 512 s t o n m e.0, r.0), r.1)

pub stores-grow : StoresGrow
stores-grow state f g k h a Unset o n i ik ia l lk la e = absurd e
stores-grow state f g k h a (Num t) o n i ik ia l lk la e = absurd e
stores-grow state f g k h Unset (Place q t) o n i ik ia l lk la e = absurd la
stores-grow state f g k h (Num s) (Place q t) o n i ik ia l lk la e = absurd la
stores-grow state f g k h (Place r s) (Place q t) o n i ik ia l lk la e =
    subst (λ r. MayStore state f k (Place r s) o n × Leq (stored_frame f k (Place r s) o n) (stored_frame g h (Place q t) o n)) (sym la.0) (place-stores state f g k h q s t o n i ik ia l lk la.1 e)
