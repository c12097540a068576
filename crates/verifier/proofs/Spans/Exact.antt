-- Which rules are broken is what the definition of form 3 says.
use Rattle.std.proofs.Common.{◌≡◌, ℕ, zero, suc, ◌+◌, ◌-◌, ◌*◌, ◌<◌, ◌≤◌, Bool, true, false, Option, Some, None, ℤ, pos, ◌+ℤ◌, ◌<ℤ◌, ◌≤ℤ◌, refl, sym, ap, ◌∙◌, subst, ⊎_elim, arith}
use Rattle.std.specs.Prelude.{Result, Ok, Err, int_le, min, if◌then◌else◌}
use Rattle.std.specs.Result.{result_err, result_unwrap_or}
use Rattle.std.proofs.lemmas.Bool.{cases_eq, false≢true}
use Rattle.std.proofs.lemmas.Int.{ints}
use Rattle.decode.specs.declared.insn.Reg.{Reg}
use Rattle.decode.specs.declared.insn.Width.{Width}
use Rattle.decode.specs.declared.insn.Width.TheVariants.{W64}
use Rattle.decode.specs.declared.insn.Condition.{Condition}
use Rattle.decode.specs.declared.insn.Operand.{Operand}
use Rattle.decode.specs.declared.insn.Operand.TheVariants as operand
use Rattle.decode.specs.declared.insn.Insn.TheVariants.{Alu, MovSx, Neg, End, Jump, JumpLong, JumpIf, Call, Exit, Load, LoadSx, StoreReg, StoreImm, Wide}
use Rattle.decode.specs.Encoding.{bytes_in, loaded, extension_offset, extension_width}
use Rattle.operations.specs.Words.{bits_of}
use Rattle.regtypes.specs.declared.frame.Region.TheVariants.{Message, State, Stack}
use Rattle.regtypes.specs.declared.rule.Rule.{Rule}
use Rattle.regtypes.specs.declared.rule.Rule.TheVariants.{V5, V6, V7, V9}
use Rattle.spans.specs.declared.kind.Reach.{Reach}
use Rattle.spans.specs.declared.kind.SpanKind.{SpanKind}
use Rattle.spans.specs.declared.kind.SpanKind.TheVariants.{Unset, Num, Place}
use Rattle.spans.specs.declared.span.Span.{Span}
use Rattle.spans.specs.Span.{whole}
use Rattle.spans.specs.Narrowing.{opposite}
use Rattle.spans.specs.Frame.{Frame, is_num, is_set, with_kind}
use Rattle.spans.specs.Access.{AreNumbers, IsReadable, IsWritable, MayLoad, MayStore, is_inside, is_reached, whole_word}
use Rattle.spans.specs.Ways.{alu_form, operand_kind, result_kind, from_span, extended_span, way, Ways, Gives, HasPayload, HasSized, HasArguments}
use Rattle.spans.proofs.Tests.{parts}
use Rattle.spans.proofs.Access.{reaches}
use Rattle.verifier.specs.Span.Rules.{lesser, unless, number_rule, value_rule, words_rule, read_rule, load_rule, write_rule, store_rule, argument_rule, payload_rule, sized_rule, call_rule, exit_rule}
use Rattle.verifier.specs.Span.Ways.{gives, compares}
use Rattle.verifier.specs.Span.Exactness.{IsExact}

-- ---- two rules

broken : {A : Type 0} {x : A} → Some x ≡ None → ⊥
broken e = cc

failed : {A : Type 0} {x : A} {r : Rule} → Err r ≡ Ok x → ⊥
failed e = cc

pub neither : (a b : Option Rule) → lesser a b ≡ None → (a ≡ None) × (b ≡ None)
neither None b e = (refl, e)
neither (Some r) None e = cc
neither (Some r) (Some q) e = cc

pub both : (a b : Option Rule) → a ≡ None → b ≡ None → lesser a b ≡ None
both None b e h = h
both (Some r) b e h = cc

holds : (t : Bool) (r : Rule) → unless t r ≡ None → t ≡ true
holds true r e = refl
holds false r e = absurd (broken e)

unbroken : (t : Bool) (r : Rule) → t ≡ true → unless t r ≡ None
unbroken true r e = refl
unbroken false r e = absurd (false≢true e)

-- ---- kinds

is_number : (k : SpanKind) → number_rule k ≡ None → (s : Span) × (k ≡ Num s)
is_number Unset e = absurd (broken e)
is_number (Num s) e = (s, refl)
is_number (Place r s) e = absurd (broken e)

number-none : (k : SpanKind) (s : Span) → k ≡ Num s → number_rule k ≡ None
number-none k s e = ap number_rule e

num-is : (k : SpanKind) → number_rule k ≡ None → is_num k ≡ true
num-is Unset e = absurd (broken e)
num-is (Num s) e = refl
num-is (Place r s) e = absurd (broken e)

is-num : (k : SpanKind) → is_num k ≡ true → number_rule k ≡ None
is-num Unset e = absurd (false≢true e)
is-num (Num s) e = refl
is-num (Place r s) e = absurd (false≢true e)

set-is : (k : SpanKind) → value_rule k ≡ None → is_set k ≡ true
set-is Unset e = absurd (broken e)
set-is (Num s) e = refl
set-is (Place r s) e = refl

is-set : (k : SpanKind) → is_set k ≡ true → value_rule k ≡ None
is-set Unset e = absurd (false≢true e)
is-set (Num s) e = refl
is-set (Place r s) e = refl

-- ---- arithmetic

abbrev Known : Result SpanKind Rule → Type 0
Known k = (h : SpanKind) × (k ≡ Ok h)

known : (k : Result SpanKind Rule) → result_err k ≡ None → Known k
known (Ok h) e = (h, refl)
known (Err r) e = absurd (broken e)

span-known : (make : Span → Span) (k : SpanKind) → number_rule k ≡ None → Known (from_span make k)
span-known make Unset e = absurd (broken e)
span-known make (Num s) e = (_, refl)
span-known make (Place r s) e = absurd (broken e)

known-span : (make : Span → Span) (k : SpanKind) → Known (from_span make k) → number_rule k ≡ None
known-span make Unset k = absurd (failed k.1)
known-span make (Num s) k = refl
known-span make (Place r s) k = absurd (failed k.1)

-- ---- words of the stack

-- of the first w words those that are reached are numbers
abbrev Numbers : ℕ → Frame → Reach → ℤ → ℕ → Type 0
Numbers w f s o n = (v : ℕ) → v < w → is_reached s o n (11 + v) ≡ true → is_num (f (11 + v)) ≡ true

one-word : (t : Bool) (k : SpanKind) → (if t then number_rule k else None) ≡ None → t ≡ true → is_num k ≡ true
one-word true k e h = num-is k e
one-word false k e h = cc

word-one : (t : Bool) (k : SpanKind) → (t ≡ true → is_num k ≡ true) → (if t then number_rule k else None) ≡ None
word-one true k h = is-num k (h refl)
word-one false k h = refl

words-are : (w : ℕ) (f : Frame) (s : Reach) (o : ℤ) (n : ℕ) → words_rule w f s o n ≡ None → Numbers w f s o n
unfolding words_rule
words-are zero f s o n e v l r = absurd (omega arith)
words-are (suc w) f s o n e v l r = last (neither (words_rule w f s o n) (if is_reached s o n (11 + w) then number_rule (f (11 + w)) else None) e) (λ h. words-are w f s o n h v)
  where
    last : (words_rule w f s o n ≡ None) × ((if is_reached s o n (11 + w) then number_rule (f (11 + w)) else None) ≡ None) → (words_rule w f s o n ≡ None → v < w → is_reached s o n (11 + v) ≡ true → is_num (f (11 + v)) ≡ true) → is_num (f (11 + v)) ≡ true
    last h below = ⊎_elim (λ (q : v ≡ w). subst (λ x. is_num (f (11 + x)) ≡ true) (sym q) (one-word (is_reached s o n (11 + w)) (f (11 + w)) h.1 (subst (λ x. is_reached s o n (11 + x) ≡ true) q r))) (λ q. below h.0 (omega (arith, q)) r) (cases_eq v w)

are-words : (w : ℕ) (f : Frame) (s : Reach) (o : ℤ) (n : ℕ) → Numbers w f s o n → words_rule w f s o n ≡ None
unfolding words_rule
are-words zero f s o n h = refl
are-words (suc w) f s o n h =
    both (words_rule w f s o n) (if is_reached s o n (11 + w) then number_rule (f (11 + w)) else None) (are-words w f s o n (λ v l. h v (omega (arith, l)))) (word-one (is_reached s o n (11 + w)) (f (11 + w)) (h w (omega arith)))

at-most : (x y : ℤ) → int_le x y ≡ true → x ≤ℤ y
at-most x y e = grind (arith, ints)

under : (m : ℕ) (x : ℤ) → pos m <ℤ x → x ≤ℤ pos 512 → m < 512
under m x h k = omega (arith, ints)

-- an access inside the stack reaches none but its 64 words
pub reached-within : (s : Reach) (o : ℤ) (n c : ℕ) → is_inside 512 s o n ≡ true → is_reached s o n c ≡ true → (11 ≤ c) × (c < 75)
reached-within s o n c i e =
    let r = reaches s o n c e in
    let p = parts (int_le (pos 0) (s.lo +ℤ o)) (int_le (s.hi +ℤ o +ℤ pos n) (pos 512)) i in
    let m = under (8 * (c - 11)) (s.hi +ℤ o +ℤ pos n) r.begins (at-most (s.hi +ℤ o +ℤ pos n) (pos 512) p.1) in
    let a = r.cell in
    (a, omega (arith, a, m))

numbers-all : (f : Frame) (s : Reach) (o : ℤ) (n : ℕ) → is_inside 512 s o n ≡ true → words_rule 64 f s o n ≡ None → AreNumbers f s o n
numbers-all f s o n i e c r =
    let b = reached-within s o n c i r in
    let at : 11 + (c - 11) ≡ c = omega (arith, b.0) in
    let h = words-are 64 f s o n e (c - 11) (omega (arith, b.0, b.1)) (subst (λ x. is_reached s o n x ≡ true) (sym at) r) in
    subst (λ x. is_num (f x) ≡ true) at h

all-numbers : (f : Frame) (s : Reach) (o : ℤ) (n : ℕ) → AreNumbers f s o n → words_rule 64 f s o n ≡ None
all-numbers f s o n h = are-words 64 f s o n (λ v l r. h (11 + v) r)

-- ---- loads and stores

inner-of : (t : Bool) (inner : Option Rule) (r : Rule) → (if t then inner else Some r) ≡ None → (t ≡ true) × (inner ≡ None)
inner-of true inner r e = (refl, e)
inner-of false inner r e = absurd (broken e)

of-inner : (t : Bool) (inner : Option Rule) (r : Rule) → t ≡ true → inner ≡ None → (if t then inner else Some r) ≡ None
of-inner true inner r e h = h
of-inner false inner r e h = cc

readable : (word : Option ℕ) (f : Frame) (s : Reach) (o : ℤ) (n : ℕ) → is_inside 512 s o n ≡ true → read_rule word f s o n ≡ None → IsReadable word f s o n
readable (Some c) f s o n i e = set-is (f c) e
readable None f s o n i e = numbers-all f s o n i e

read-none : (word : Option ℕ) (f : Frame) (s : Reach) (o : ℤ) (n : ℕ) → IsReadable word f s o n → read_rule word f s o n ≡ None
read-none (Some c) f s o n h = is-set (f c) h
read-none None f s o n h = all-numbers f s o n h

pub may-load : (state : ℕ) (f : Frame) (k : SpanKind) (o : ℤ) (n : ℕ) → load_rule state f k o n ≡ None → MayLoad state f k o n
may-load state f Unset o n e = absurd (broken e)
may-load state f (Num s) o n e = absurd (broken e)
may-load state f (Place Message s) o n e = holds (is_inside 512 s o n) V6 e
may-load state f (Place State s) o n e = holds (is_inside state s o n) V6 e
may-load state f (Place Stack s) o n e =
    let h = inner-of (is_inside 512 s o n) (read_rule (whole_word s o n) f s o n) V6 e in
    (h.0, readable (whole_word s o n) f s o n h.0 h.1)

load-none : (state : ℕ) (f : Frame) (k : SpanKind) (o : ℤ) (n : ℕ) → MayLoad state f k o n → load_rule state f k o n ≡ None
load-none state f Unset o n h = absurd h
load-none state f (Num s) o n h = absurd h
load-none state f (Place Message s) o n h = unbroken (is_inside 512 s o n) V6 h
load-none state f (Place State s) o n h = unbroken (is_inside state s o n) V6 h
load-none state f (Place Stack s) o n h =
    of-inner (is_inside 512 s o n) (read_rule (whole_word s o n) f s o n) V6 h.0 (read-none (whole_word s o n) f s o n h.1)

writable : (word : Option ℕ) (f : Frame) (k : SpanKind) (s : Reach) (o : ℤ) (n : ℕ) → is_inside 512 s o n ≡ true → write_rule word f k s o n ≡ None → IsWritable word f k s o n
writable (Some c) f k s o n i e = set-is k e
writable None f k s o n i e =
    let h = neither (number_rule k) (words_rule 64 f s o n) e in
    (num-is k h.0, numbers-all f s o n i h.1)

write-none : (word : Option ℕ) (f : Frame) (k : SpanKind) (s : Reach) (o : ℤ) (n : ℕ) → IsWritable word f k s o n → write_rule word f k s o n ≡ None
write-none (Some c) f k s o n h = is-set k h
write-none None f k s o n h = both (number_rule k) (words_rule 64 f s o n) (is-num k h.0) (all-numbers f s o n h.1)

pub may-store : (state : ℕ) (f : Frame) (k a : SpanKind) (o : ℤ) (n : ℕ) → store_rule state f k a o n ≡ None → MayStore state f k a o n
may-store state f k Unset o n e = absurd (broken e)
may-store state f k (Num s) o n e = let h = (neither (value_rule k) (Some V5) e).1 in cc
may-store state f k (Place Message s) o n e = let h = (neither (number_rule k) (Some (if is_inside 512 s o n then V7 else V6)) e).1 in cc
may-store state f k (Place State s) o n e =
    let h = neither (number_rule k) (unless (is_inside state s o n) V6) e in
    (holds (is_inside state s o n) V6 h.1, num-is k h.0)
may-store state f k (Place Stack s) o n e = inside (is_inside 512 s o n) refl e
  where
    inside : (t : Bool) → is_inside 512 s o n ≡ t → (if t then write_rule (whole_word s o n) f k s o n else lesser (number_rule k) (Some V6)) ≡ None → (is_inside 512 s o n ≡ true) × IsWritable (whole_word s o n) f k s o n
    inside true q h = (q, writable (whole_word s o n) f k s o n q h)
    inside false q h = let x = (neither (number_rule k) (Some V6) h).1 in cc

store-none : (state : ℕ) (f : Frame) (k a : SpanKind) (o : ℤ) (n : ℕ) → MayStore state f k a o n → store_rule state f k a o n ≡ None
store-none state f k Unset o n h = absurd h
store-none state f k (Num s) o n h = absurd h
store-none state f k (Place Message s) o n h = absurd h
store-none state f k (Place State s) o n h =
    both (number_rule k) (unless (is_inside state s o n) V6) (is-num k h.1) (unbroken (is_inside state s o n) V6 h.0)
store-none state f k (Place Stack s) o n h =
    ap (λ t. if t then write_rule (whole_word s o n) f k s o n else lesser (number_rule k) (Some V6)) h.0 ∙ write-none (whole_word s o n) f k s o n h.1

-- ---- helpers

wanted : (r : Option Rule) → argument_rule r ≡ None → r ≡ None
wanted None e = refl
wanted (Some r) e = absurd (broken e)

has-payload : (state : ℕ) (f : Frame) (k : SpanKind) (n : ℕ) → payload_rule state f k n ≡ None → HasPayload state f k n
has-payload state f Unset n e = absurd (broken e)
has-payload state f (Num s) n e = absurd (broken e)
has-payload state f (Place Message s) n e = (holds (is_inside 512 s (pos 0) n) V9 e, λ q. cc)
has-payload state f (Place State s) n e = (holds (is_inside state s (pos 0) n) V9 e, λ q. cc)
has-payload state f (Place Stack s) n e =
    let h = inner-of (is_inside 512 s (pos 0) n) (argument_rule (words_rule 64 f s (pos 0) n)) V9 e in
    (h.0, λ q. numbers-all f s (pos 0) n h.0 (wanted (words_rule 64 f s (pos 0) n) h.1))

payload-none : (state : ℕ) (f : Frame) (k : SpanKind) (n : ℕ) → HasPayload state f k n → payload_rule state f k n ≡ None
payload-none state f Unset n h = absurd h
payload-none state f (Num s) n h = absurd h
payload-none state f (Place Message s) n h = unbroken (is_inside 512 s (pos 0) n) V9 h.0
payload-none state f (Place State s) n h = unbroken (is_inside state s (pos 0) n) V9 h.0
payload-none state f (Place Stack s) n h =
    of-inner (is_inside 512 s (pos 0) n) (argument_rule (words_rule 64 f s (pos 0) n)) V9 h.0 (ap argument_rule (all-numbers f s (pos 0) n (h.1 refl)))

has-sized : (state : ℕ) (f : Frame) (p k : SpanKind) → sized_rule state f p k ≡ None → HasSized state f p k
has-sized state f p Unset e = absurd (broken e)
has-sized state f p (Place r s) e = absurd (broken e)
has-sized state f p (Num s) e = has-payload state f p (min s.hi 256) e

sized-none : (state : ℕ) (f : Frame) (p k : SpanKind) → HasSized state f p k → sized_rule state f p k ≡ None
sized-none state f p Unset h = absurd h
sized-none state f p (Place r s) h = absurd h
sized-none state f p (Num s) h = payload-none state f p (min s.hi 256) h

pub has-arguments : (state : ℕ) (f : Frame) (z : ℤ) → call_rule state f z ≡ None → HasArguments state f z
has-arguments state f (pos (suc zero)) e =
    let h = neither (argument_rule (number_rule (f 1))) (payload_rule state f (f 2) 64) e in
    (num-is (f 1) (wanted (number_rule (f 1)) h.0), has-payload state f (f 2) 64 h.1)
has-arguments state f (pos (suc (suc zero))) e = has-payload state f (f 1) 64 e
has-arguments state f (pos (suc (suc (suc zero)))) e = tt
has-arguments state f (pos (suc (suc (suc (suc zero))))) e = tt
has-arguments state f (pos (suc (suc (suc (suc (suc zero)))))) e =
    let h = neither (argument_rule (number_rule (f 1))) (sized_rule state f (f 2) (f 3)) e in
    (num-is (f 1) (wanted (number_rule (f 1)) h.0), has-sized state f (f 2) (f 3) h.1)
has-arguments state f (pos (suc (suc (suc (suc (suc (suc zero))))))) e = has-sized state f (f 1) (f 2) e
has-arguments state f z e = cc

call-none : (state : ℕ) (f : Frame) (z : ℤ) → HasArguments state f z → call_rule state f z ≡ None
call-none state f (pos (suc zero)) h =
    both (argument_rule (number_rule (f 1))) (payload_rule state f (f 2) 64) (ap argument_rule (is-num (f 1) h.0)) (payload-none state f (f 2) 64 h.1)
call-none state f (pos (suc (suc zero))) h = payload-none state f (f 1) 64 h
call-none state f (pos (suc (suc (suc zero)))) h = refl
call-none state f (pos (suc (suc (suc (suc zero))))) h = refl
call-none state f (pos (suc (suc (suc (suc (suc zero)))))) h =
    both (argument_rule (number_rule (f 1))) (sized_rule state f (f 2) (f 3)) (ap argument_rule (is-num (f 1) h.0)) (sized-none state f (f 2) (f 3) h.1)
call-none state f (pos (suc (suc (suc (suc (suc (suc zero))))))) h = sized-none state f (f 1) (f 2) h
call-none state f z h = absurd h

at-exit : (k : SpanKind) → exit_rule k ≡ None → is_num k ≡ true
at-exit Unset e = absurd (broken e)
at-exit (Num s) e = refl
at-exit (Place r s) e = absurd (broken e)

exit-none : (k : SpanKind) → is_num k ≡ true → exit_rule k ≡ None
exit-none Unset e = absurd (false≢true e)
exit-none (Num s) e = refl
exit-none (Place r s) e = absurd (false≢true e)

-- ---- instructions

gives-known : (k : Result SpanKind Rule) (f : Frame) (dst : Reg) → Known k → Gives k f dst (Some (gives k f dst), None)
gives-known k f dst h = (h.0, h.1, ap (λ x. (Some (with_kind f dst.number (result_unwrap_or x Unset)), None)) h.1)

known-gives : (k : Result SpanKind Rule) (f : Frame) (dst : Reg) (w : Ways) → Gives k f dst w → Known k × (w ≡ (Some (gives k f dst), None))
known-gives k f dst w g = ((g.0, g.1), g.2 ∙ sym (ap (λ x. (Some (with_kind f dst.number (result_unwrap_or x Unset)), None)) g.1))

spans : (state : ℕ) (f : Frame) (dst : Reg) (make : Span → Span) (k : SpanKind) → (number_rule k ≡ None → Gives (from_span make k) f dst (Some (gives (from_span make k) f dst), None)) × ((w : Ways) → Gives (from_span make k) f dst w → (number_rule k ≡ None) × (w ≡ (Some (gives (from_span make k) f dst), None)))
spans state f dst make k =
    ((λ e. gives-known (from_span make k) f dst (span-known make k e)), (λ w g. let h = known-gives (from_span make k) f dst w g in (known-span make k h.0, h.1)))

-- two numbers are compared
same : (condition : Condition) (width : Width) (dst : Reg) (o : Operand) (f : Frame) (a b : Span) → f dst.number ≡ Num a → operand_kind width o f ≡ Num b → compares (f dst.number) (operand_kind width o f) condition width dst o f ≡ (way (opposite condition) width dst o f a b, way (Some condition) width dst o f a b)
same condition width dst o f a b p q =
    ap (λ x. compares x (operand_kind width o f) condition width dst o f) p ∙ ap (λ y. compares (Num a) y condition width dst o f) q

compared : (condition : Condition) (width : Width) (dst : Reg) (o : Operand) (f : Frame) (x y : SpanKind) → f dst.number ≡ x → operand_kind width o f ≡ y → (number_rule x ≡ None) × (number_rule y ≡ None) → (a b : Span) × (f dst.number ≡ Num a) × (operand_kind width o f ≡ Num b) × (compares (f dst.number) (operand_kind width o f) condition width dst o f ≡ (way (opposite condition) width dst o f a b, way (Some condition) width dst o f a b))
compared condition width dst o f Unset y p q h = absurd (broken h.0)
compared condition width dst o f (Place r s) y p q h = absurd (broken h.0)
compared condition width dst o f (Num a) Unset p q h = absurd (broken h.1)
compared condition width dst o f (Num a) (Place r s) p q h = absurd (broken h.1)
compared condition width dst o f (Num a) (Num b) p q h = (a, b, p, q, same condition width dst o f a b p q)

pub exact : IsExact
exact state (Alu op width dst o) f =
    let k = result_kind (alu_form op width o) (f dst.number) (operand_kind width o f) in
    ((λ e. gives-known k f dst (known k e)), (λ w g. let h = known-gives k f dst w g in (ap result_err h.0.1, h.1)))
exact state (MovSx x dst src) f = spans state f dst (extended_span (extension_offset x) (bits_of (extension_width x))) (f src.number)
exact state (Neg width dst) f = spans state f dst (λ s. whole 64) (f dst.number)
exact state (End order bits dst) f = spans state f dst (λ s. whole 64) (f dst.number)
exact state (Wide dst value) f = ((λ e. (_, refl, refl)), (λ w g. (refl, (known-gives _ f dst w g).1)))
exact state (Jump offset) f = ((λ e. refl), (λ w h. (refl, h)))
exact state (JumpLong distance) f = ((λ e. refl), (λ w h. (refl, h)))
exact state (JumpIf condition width dst o offset) f =
    let rules = neither (number_rule (f dst.number)) (number_rule (operand_kind width o f)) in
    ((λ e. compared condition width dst o f (f dst.number) (operand_kind width o f) refl refl (rules e)), (λ w h. (both (number_rule (f dst.number)) (number_rule (operand_kind width o f)) (ap number_rule h.2) (ap number_rule h.3), h.4 ∙ sym (same condition width dst o f h.0 h.1 h.2 h.3))))
exact state (Call helper) f = ((λ e. (has-arguments state f helper e, refl)), (λ w h. (call-none state f helper h.0, h.1)))
exact state Exit f = ((λ e. (at-exit (f 0) e, refl)), (λ w h. (exit-none (f 0) h.0, h.1)))
exact state (Load size dst src offset) f =
    ((λ e. (may-load state f (f src.number) offset (bytes_in size) e, refl)), (λ w h. (load-none state f (f src.number) offset (bytes_in size) h.0, h.1)))
exact state (LoadSx size dst src offset) f =
    ((λ e. (may-load state f (f src.number) offset (bytes_in (loaded size)) e, refl)), (λ w h. (load-none state f (f src.number) offset (bytes_in (loaded size)) h.0, h.1)))
exact state (StoreReg size dst src offset) f =
    ((λ e. (may-store state f (f src.number) (f dst.number) offset (bytes_in size) e, refl)), (λ w h. (store-none state f (f src.number) (f dst.number) offset (bytes_in size) h.0, h.1)))
exact state (StoreImm size dst offset imm) f =
    let k = operand_kind W64 (operand.Imm imm) f in
    ((λ e. (may-store state f k (f dst.number) offset (bytes_in size) e, refl)), (λ w h. (store-none state f k (f dst.number) offset (bytes_in size) h.0, h.1)))
