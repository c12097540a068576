-- Loads, stores and payloads of forms 1 and 2 are ones of form 3.
use Rattle.std.proofs.Common.{◌≡◌, ℕ, zero, suc, ◌+◌, ◌≤◌, Bool, true, false, Option, Some, None, ℤ, pos, negsuc, ◌+ℤ◌, ◌≤ℤ◌, refl, sym, ap, subst, ⊎_elim, inl, inr, ◌⊎◌, arith}
use Rattle.std.specs.Prelude.{int_le, ◌&&◌, ◌||◌, not, if◌then◌else◌}
use Rattle.std.proofs.lemmas.Bool.{false≢true}
use Rattle.std.proofs.lemmas.Bool.Decides.{nat_tests}
use Rattle.std.proofs.lemmas.Int.{ints}
use Rattle.regtypes.specs.declared.frame.Region.{Region}
use Rattle.regtypes.specs.declared.frame.Region.TheVariants.{Message, State, Stack}
use Rattle.regtypes.specs.declared.frame.Kind.{Kind as FlatKind}
use Rattle.regtypes.specs.declared.frame.Kind.TheVariants as flat
use Rattle.regtypes.specs.Frame.{is_num as is_flat_num}
use Rattle.regtypes.specs.Rules.{has_bytes, is_in_message, is_message, is_sized, is_unset, lie_inside, moved, region_len}
use Rattle.regtypes.proofs.Monotone.{both_parts, not_false}
use Rattle.spans.specs.declared.kind.SpanKind.{SpanKind}
use Rattle.spans.specs.declared.kind.SpanKind.TheVariants.{Unset, Num, Place}
use Rattle.spans.specs.declared.kind.Reach.{Reach}
use Rattle.spans.specs.Span.{whole}
use Rattle.spans.specs.Frame.{Frame, IsKind, Leq, LeqKind, at_place, is_num, is_set}
use Rattle.spans.specs.Access.{AreNumbers, IsReadable, IsWritable, MayLoad, MayStore, is_inside, is_reached, loaded_kind, region_size, stored_frame, whole_word, wiped, word_kind, written_frame}
use Rattle.spans.specs.Ways.{HasPayload, HasSized}
use Rattle.spans.proofs.Tests.{both}
use Rattle.spans.proofs.Access.{whole_word-is_reached}
use Rattle.spans.proofs.Order.{LeqKind-refl, Leq-refl}
use Rattle.verifier.proofs.Spans.Exact.{reached-within}
use Rattle.verifier.specs.Span.FlatFrames.{read_kind}
use Rattle.verifier.proofs.Spans.FlatFrames.{IsAnyStack, any_word, below, stays}

-- ---- bytes inside a region

-- a region of form 3 has all bytes that it has at least in forms 1 and 2
no_less : (low state : ℕ) (r : Region) → low ≤ 256 → region_len low state r ≤ region_size state r
no_less low state Message h = omega arith
no_less low state State h = omega arith
no_less low state Stack h = omega arith

inside_at : (len size n m : ℕ) (z : ℤ) → len ≤ size → m ≤ n → lie_inside len n z ≡ true → (int_le (pos 0) z && int_le (z +ℤ pos m) (pos size)) ≡ true
inside_at len size n m (pos a) h l e = let k : a + n ≤ len = grind (arith, nat_tests) in both (int_le (pos 0) (pos a)) (int_le (pos a +ℤ pos m) (pos size)) (grind (arith, ints)) (grind (arith, ints))
inside_at len size n m (negsuc a) h l e = cc

inside : (low state : ℕ) (r : Region) (k o : ℤ) (n m : ℕ) → low ≤ 256 → m ≤ n → lie_inside (region_len low state r) n (k +ℤ o) ≡ true → is_inside (region_size state r) (at_place k) o m ≡ true
inside low state r k o n m h l e = inside_at (region_len low state r) (region_size state r) n m (k +ℤ o) (no_less low state r h) l e

-- ---- words of the stack

module _ (f : Frame) (any : IsAnyStack f) (s : Reach) (o : ℤ) (n : ℕ) (in_stack : is_inside 512 s o n ≡ true) where
  -- a word that an access reaches is any number
  word : (c : ℕ) → is_reached s o n c ≡ true → f c ≡ Num (whole 64)
  word c r = let b = reached-within s o n c in_stack r in any c b.0 b.1

  are_numbers : AreNumbers f s o n
  are_numbers c r = ap is_num (word c r)

-- the cell of a whole word is one of the 64
whole_is : (f : Frame) → IsAnyStack f → (s : Reach) (o : ℤ) (n c : ℕ) → s.lo ≤ℤ s.hi → is_inside 512 s o n ≡ true → whole_word s o n ≡ Some c → f c ≡ Num (whole 64)
whole_is f any s o n c l i e = word f any s o n i c (whole_word-is_reached s s o n c l (LeqKind-refl (Place Stack s)).1 e).1

-- ---- loads

read_in_stack : (f : Frame) → IsAnyStack f → (s : Reach) (o : ℤ) (n : ℕ) → s.lo ≤ℤ s.hi → is_inside 512 s o n ≡ true → (w : Option ℕ) → whole_word s o n ≡ w → IsReadable w f s o n × (is_num (word_kind w f n) ≡ true)
read_in_stack f any s o n l i None e = (are_numbers f any s o n i, refl)
read_in_stack f any s o n l i (Some c) e = let k = whole_is f any s o n c l i e in (ap is_set k, ap is_num k)

place_loads : (low state : ℕ) (f : Frame) → IsAnyStack f → low ≤ 256 → (r : Region) (k o : ℤ) (n : ℕ) → lie_inside (region_len low state r) n (k +ℤ o) ≡ true → MayLoad state f (Place r (at_place k)) o n × (is_num (loaded_kind f (Place r (at_place k)) o n) ≡ true)
place_loads low state f any h Message k o n e = (inside low state Message k o n n h (omega arith) e, refl)
place_loads low state f any h State k o n e = (inside low state State k o n n h (omega arith) e, refl)
place_loads low state f any h Stack k o n e =
    let i = inside low state Stack k o n n h (omega arith) e in
    let r = read_in_stack f any (at_place k) o n (stays k) i (whole_word (at_place k) o n) refl in
    ((i, r.0), r.1)

-- what forms 1 and 2 let be the base of an access
pub record IsBase (low state : ℕ) (k : FlatKind) (o : ℤ) (n : ℕ) : Type 0 where
  pub set : is_unset k ≡ false
  pub place : is_flat_num k ≡ false
  pub inside : not (has_bytes low state n (moved o k)) ≡ false

-- a load through what is read as a place may be made, and gives a number
pub may_load : (low state : ℕ) (f : Frame) → IsAnyStack f → low ≤ 256 → (k : FlatKind) (o : ℤ) (n : ℕ) → IsBase low state k o n → MayLoad state f (read_kind k) o n × (is_num (loaded_kind f (read_kind k) o n) ≡ true)
may_load low state f any h flat.Unset o n b = absurd (false≢true (sym b.set))
may_load low state f any h flat.Num o n b = absurd (false≢true (sym b.place))
may_load low state f any h flat.Len o n b = absurd (false≢true (sym b.place))
may_load low state f any h (flat.Place r k) o n b = place_loads low state f any h r k o n (not_false (lie_inside (region_len low state r) n (k +ℤ o)) b.inside)

-- ---- stores

over_all : (f : Frame) → IsAnyStack f → (s : Reach) (o : ℤ) (n : ℕ) → is_inside 512 s o n ≡ true → Leq (wiped f s o n) f
over_all f any s o n i d = by_test (is_reached s o n d) (word f any s o n i d)
  where
    by_test : (t : Bool) → (t ≡ true → f d ≡ Num (whole 64)) → LeqKind (if t then Num (whole 64) else f d) (f d)
    by_test true q = subst (LeqKind (Num (whole 64))) (sym (q refl)) (LeqKind-refl (Num (whole 64)))
    by_test false q = LeqKind-refl (f d)

num_is_set : (k : SpanKind) → is_num k ≡ true → is_set k ≡ true
num_is_set Unset h = cc
num_is_set (Num s) h = refl
num_is_set (Place r s) h = cc

write_in_stack : (f : Frame) → IsAnyStack f → (x : SpanKind) → is_num x ≡ true → IsKind x → (s : Reach) (o : ℤ) (n : ℕ) → s.lo ≤ℤ s.hi → is_inside 512 s o n ≡ true → (w : Option ℕ) → whole_word s o n ≡ w → IsWritable w f x s o n × Leq (written_frame w f x s o n) f
write_in_stack f any x h ix s o n l i None e = ((h, are_numbers f any s o n i), over_all f any s o n i)
write_in_stack f any x h ix s o n l i (Some c) e = (num_is_set x h, below f c x (subst (LeqKind x) (sym (whole_is f any s o n c l i e)) (any_word x h ix)))

place_stores : (low state : ℕ) (f : Frame) → IsAnyStack f → low ≤ 256 → (x : SpanKind) → is_num x ≡ true → IsKind x → (r : Region) (k o : ℤ) (n : ℕ) → is_in_message (flat.Place r k) ≡ false → lie_inside (region_len low state r) n (k +ℤ o) ≡ true → MayStore state f x (Place r (at_place k)) o n × Leq (stored_frame f x (Place r (at_place k)) o n) f
place_stores low state f any h x num ix Message k o n m e = cc
place_stores low state f any h x num ix State k o n m e = ((inside low state State k o n n h (omega arith) e, num), Leq-refl f)
place_stores low state f any h x num ix Stack k o n m e =
    let i = inside low state Stack k o n n h (omega arith) e in
    let r = write_in_stack f any x num ix (at_place k) o n (stays k) i (whole_word (at_place k) o n) refl in
    ((i, r.0), r.1)

-- a store of a number through what is read as a place may be made, and nothing that is known is lost
pub may_store : (low state : ℕ) (f : Frame) → IsAnyStack f → low ≤ 256 → (x : SpanKind) → is_num x ≡ true → IsKind x → (k : FlatKind) (o : ℤ) (n : ℕ) → is_in_message k ≡ false → IsBase low state k o n → MayStore state f x (read_kind k) o n × Leq (stored_frame f x (read_kind k) o n) f
may_store low state f any h x num ix flat.Unset o n m b = absurd (false≢true (sym b.set))
may_store low state f any h x num ix flat.Num o n m b = absurd (false≢true (sym b.place))
may_store low state f any h x num ix flat.Len o n m b = absurd (false≢true (sym b.place))
may_store low state f any h x num ix (flat.Place r k) o n m b = place_stores low state f any h x num ix r k o n m (not_false (lie_inside (region_len low state r) n (k +ℤ o)) b.inside)

-- ---- payloads

payload_at : (low state : ℕ) (f : Frame) → IsAnyStack f → low ≤ 256 → (r : Region) (k : ℤ) (n m : ℕ) → m ≤ n → lie_inside (region_len low state r) n k ≡ true → HasPayload state f (Place r (at_place k)) m
payload_at low state f any h r k n m l e =
    let i = inside low state r k (pos 0) n m h l (subst (λ z. lie_inside (region_len low state r) n z ≡ true) (sym (no_further k)) e) in
    (i, λ q. are_numbers f any (at_place k) (pos 0) m (subst (λ x. is_inside (region_size state x) (at_place k) (pos 0) m ≡ true) q i))
  where
    no_further : (z : ℤ) → (z +ℤ pos 0) ≡ z
    no_further z = grind (arith, ints)

-- a place with bytes in its region is one with as many or fewer of them in form 3
pub has_payload : (low state : ℕ) (f : Frame) → IsAnyStack f → low ≤ 256 → (k : FlatKind) (n m : ℕ) → m ≤ n → has_bytes low state n k ≡ true → HasPayload state f (read_kind k) m
has_payload low state f any h flat.Unset n m l e = cc
has_payload low state f any h flat.Num n m l e = cc
has_payload low state f any h flat.Len n m l e = cc
has_payload low state f any h (flat.Place r k) n m l e = payload_at low state f any h r k n m l e

-- 256 bytes from the message's first byte on
whole_message : (state : ℕ) (f : Frame) (k : FlatKind) → is_message k ≡ true → HasPayload state f (read_kind k) 256
whole_message state f flat.Unset e = cc
whole_message state f flat.Num e = cc
whole_message state f flat.Len e = cc
whole_message state f (flat.Place State z) e = cc
whole_message state f (flat.Place Stack z) e = cc
whole_message state f (flat.Place Message (pos zero)) e = (refl, λ q. cc)
whole_message state f (flat.Place Message (pos (suc n))) e = cc
whole_message state f (flat.Place Message (negsuc n)) e = cc

either : (a b : Bool) → (a || b) ≡ true → (a ≡ true) ⊎ (b ≡ true)
either true b h = inl refl
either false b h = inr h

pub has_sized : (low state : ℕ) (f : Frame) → IsAnyStack f → low ≤ 256 → (k c : FlatKind) → is_sized low state k c ≡ true → HasSized state f (read_kind k) (read_kind c)
has_sized low state f any h k flat.Unset e = cc
has_sized low state f any h k flat.Num e = has_payload low state f any h k 256 256 (omega arith) (⊎_elim (λ x. x) (λ x. let y = (both_parts (is_message k) false x).1 in cc) (either (has_bytes low state 256 k) (is_message k && false) e))
has_sized low state f any h k flat.Len e = ⊎_elim (λ x. has_payload low state f any h k 256 256 (omega arith) x) (λ x. whole_message state f k (both_parts (is_message k) true x).0) (either (has_bytes low state 256 k) (is_message k && true) e)
has_sized low state f any h k (flat.Place r z) e = cc
