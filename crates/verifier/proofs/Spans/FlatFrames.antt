-- Frames of forms 1 and 2, read as frames of form 3.
use Rattle.std.proofs.Common.{◌≡◌, ◌≢◌, ℕ, zero, suc, ◌+◌, ◌<◌, ◌≤◌, Bool, true, false, List, length, drop, ℤ, pos, ◌≤ℤ◌, refl, sym, ap, ◌∙◌, subst, arith}
use Rattle.std.specs.Prelude.{slice_set, nat_lt, ◌==◌, ◌&&◌, if◌then◌else◌}
use Rattle.std.proofs.lemmas.Bool.Decides.{nat_tests}
use Rattle.std.proofs.lemmas.Int.{ints}
use Rattle.std.proofs.lemmas.List.{get_or-set_same, get_or-set_other, get_or-drop}
use Rattle.decode.specs.declared.insn.Reg.{Reg}
use Rattle.regtypes.specs.declared.frame.Region.TheVariants.{Message, State, Stack}
use Rattle.regtypes.specs.declared.frame.Kind.{Kind as FlatKind}
use Rattle.regtypes.specs.declared.frame.Kind.TheVariants as flat
use Rattle.regtypes.specs.declared.image_form.ImageForm.{ImageForm}
use Rattle.regtypes.specs.declared.image_form.ImageForm.TheVariants.{Sbi1, Sbi2}
use Rattle.regtypes.specs.Frame.{kind_at, LeqKind as FlatLeqKind, entry_frame as flat_entry, entry_kinds}
use Rattle.regtypes.specs.Ways.{after_helper}
use Rattle.spans.specs.Span.{span, whole}
use Rattle.spans.specs.declared.kind.SpanKind.{SpanKind}
use Rattle.spans.specs.declared.kind.SpanKind.TheVariants.{Unset, Num, Place}
use Rattle.spans.specs.Frame.{Frame, IsFrame, IsKind, Leq, LeqKind, at_place, entry_frame, with_kind}
use Rattle.spans.specs.Frame as spans
use Rattle.spans.specs.Ways.{behind_helper}
use Rattle.spans.proofs.Order.{LeqKind-refl}
use Rattle.verifier.specs.Span.FlatFrames.{read_cell, read_frame, read_kind}
use Rattle.verifier.specs.Span.FlatLaws.{IsOrderKept}

-- the frame of registers of which this is known
abbrev pub read_kinds : List FlatKind → Frame
read_kinds kinds c = read_cell c (kind_at kinds c)

-- ---- kinds

any-is : IsKind (Num (whole 64))
any-is = record { some = omega arith; words = omega arith }

-- one place alone is a reach
pub stays : (z : ℤ) → z ≤ℤ z
stays z = grind (arith, ints)

read_kind-is : (k : FlatKind) → IsKind (read_kind k)
read_kind-is flat.Unset = tt
read_kind-is flat.Num = any-is
read_kind-is flat.Len = record { some = omega arith; words = omega arith }
read_kind-is (flat.Place r k) = stays k

read_kind-kept : (a b : FlatKind) → FlatLeqKind a b → LeqKind (read_kind a) (read_kind b)
read_kind-kept a flat.Unset l = tt
read_kind-kept flat.Unset flat.Num l = cc
read_kind-kept flat.Num flat.Num l = (omega arith, omega arith)
read_kind-kept flat.Len flat.Num l = (omega arith, omega arith)
read_kind-kept (flat.Place r k) flat.Num l = cc
read_kind-kept a flat.Len l = subst (λ k. LeqKind (read_kind k) (read_kind flat.Len)) (sym l) (LeqKind-refl (read_kind flat.Len))
read_kind-kept a (flat.Place r k) l = subst (λ x. LeqKind (read_kind x) (read_kind (flat.Place r k))) (sym l) (LeqKind-refl (read_kind (flat.Place r k)))

-- a number that is a word is any word
pub any_word : (k : SpanKind) → spans.is_num k ≡ true → IsKind k → LeqKind k (Num (whole 64))
any_word Unset h i = cc
any_word (Num s) h i = (omega arith, omega (arith, i.words))
any_word (Place r s) h i = cc

-- ---- frames

pub read_frame-is : (kinds : List FlatKind) → IsFrame (read_kinds kinds)
read_frame-is kinds c = by_tests (nat_lt c 11) (nat_lt c 75)
  where
    by_tests : (t u : Bool) → IsKind (if t then read_kind (kind_at kinds c) else if u then Num (whole 64) else Unset)
    by_tests true u = read_kind-is (kind_at kinds c)
    by_tests false true = any-is
    by_tests false false = tt

pub order_kept : IsOrderKept
order_kept f g l c = by_test (nat_lt c 11) (if nat_lt c 75 then Num (whole 64) else Unset)
  where
    by_test : (t : Bool) (k : SpanKind) → LeqKind (if t then read_kind (kind_at f.kinds c) else k) (if t then read_kind (kind_at g.kinds c) else k)
    by_test true k = read_kind-kept (kind_at f.kinds c) (kind_at g.kinds c) (l.kinds c)
    by_test false k = LeqKind-refl k

-- a register is what is known of it
pub register : (kinds : List FlatKind) (r : Reg) → read_kinds kinds r.number ≡ read_kind (kind_at kinds r.number)
register kinds r =
    let i = r.in_range in
    let t : nat_lt r.number 11 ≡ true = grind (arith, nat_tests) in
    ap (λ (b : Bool). if b then read_kind (kind_at kinds r.number) else if nat_lt r.number 75 then Num (whole 64) else Unset) t

-- each word of the stack is any number
abbrev pub IsAnyStack : Frame → Type 0
IsAnyStack f = (c : ℕ) → 11 ≤ c → c < 75 → f c ≡ Num (whole 64)

pub any_stack : (kinds : List FlatKind) → IsAnyStack (read_kinds kinds)
any_stack kinds c l h =
    let t : nat_lt c 11 ≡ false = grind (arith, nat_tests) in
    let u : nat_lt c 75 ≡ true = grind (arith, nat_tests) in
    ap (λ (b : Bool). if b then read_kind (kind_at kinds c) else if nat_lt c 75 then Num (whole 64) else Unset) t
    ∙ ap (λ (b : Bool). if b then Num (whole 64) else Unset) u

-- ---- what is written

-- a kind that says no less than what a cell has
pub below : (f : Frame) (c : ℕ) (k : SpanKind) → LeqKind k (f c) → Leq (with_kind f c k) f
below f c k l d = by_test (d == c) (λ q. equal d c q)
  where
    equal : (d c : ℕ) → (d == c) ≡ true → d ≡ c
    equal d c q = grind (arith, nat_tests)

    by_test : (t : Bool) → (t ≡ true → d ≡ c) → LeqKind (if t then k else f d) (f d)
    by_test true q = subst (λ x. LeqKind k (f x)) (sym (q refl)) l
    by_test false q = LeqKind-refl (f d)

-- a register gets what is read as no less
pub written : (kinds : List FlatKind) (r : Reg) (k : SpanKind) (x : FlatKind) → length kinds ≡ 11 → LeqKind k (read_kind x) → Leq (with_kind (read_kinds kinds) r.number k) (read_kinds (slice_set kinds r.number x))
written kinds r k x n l c = by_test (c == r.number) here there
  where
    is : (c == r.number) ≡ true → c ≡ r.number
    is e = grind (arith, nat_tests)

    is_not : (c == r.number) ≡ false → c ≢ r.number
    is_not e = grind (arith, nat_tests)

    at_r : read_kinds (slice_set kinds r.number x) r.number ≡ read_kind x
    at_r =
        let i = r.in_range in
        register (slice_set kinds r.number x) r ∙ ap read_kind (get_or-set_same kinds r.number x flat.Unset (omega arith))

    here : (c == r.number) ≡ true → LeqKind k (read_kinds (slice_set kinds r.number x) c)
    here e = subst (λ z. LeqKind k (read_kinds (slice_set kinds r.number x) z)) (sym (is e)) (subst (LeqKind k) (sym at_r) l)

    there : (c == r.number) ≡ false → LeqKind (read_kinds kinds c) (read_kinds (slice_set kinds r.number x) c)
    there e =
        subst (λ z. LeqKind (read_kinds kinds c) (read_cell c z)) (sym (get_or-set_other kinds r.number c x flat.Unset (is_not e))) (LeqKind-refl (read_kinds kinds c))

    by_test : (t : Bool) → (t ≡ true → LeqKind k (read_kinds (slice_set kinds r.number x) c)) → (t ≡ false → LeqKind (read_kinds kinds c) (read_kinds (slice_set kinds r.number x) c)) → LeqKind (if t then k else read_kinds kinds c) (read_kinds (slice_set kinds r.number x) c)
    by_test true h d = h refl
    by_test false h d = d refl

-- ---- helpers

past_helper : (f : Frame) (c : ℕ) → 6 ≤ c → behind_helper f c ≡ f c
past_helper f c h =
    let t : (c == 0) ≡ false = grind (arith, nat_tests) in
    let u : nat_lt c 6 ≡ false = grind (arith, nat_tests) in
    ap (λ (b : Bool). if b then Num (span 0 15) else if nat_lt c 6 then Unset else f c) t ∙ ap (λ (b : Bool). if b then Unset else f c) u

-- what a helper leaves says no less
pub helped : (kinds : List FlatKind) → Leq (behind_helper (read_kinds kinds)) (read_kinds (after_helper kinds))
helped kinds zero = (omega arith, omega arith)
helped kinds (suc zero) = tt
helped kinds (suc (suc zero)) = tt
helped kinds (suc (suc (suc zero))) = tt
helped kinds (suc (suc (suc (suc zero)))) = tt
helped kinds (suc (suc (suc (suc (suc zero))))) = tt
helped kinds (suc (suc (suc (suc (suc (suc q)))))) =
    let c = suc (suc (suc (suc (suc (suc q))))) in
    let m : 6 + q ≡ c = omega arith in
    let e : kind_at kinds c ≡ kind_at (drop 6 kinds) q = subst (λ z. kind_at kinds z ≡ kind_at (drop 6 kinds) q) m (sym (get_or-drop 6 kinds q flat.Unset)) in
    subst (λ z. LeqKind z (read_cell c (kind_at (drop 6 kinds) q))) (sym (past_helper (read_kinds kinds) c (omega arith))) (subst (λ z. LeqKind (read_kinds kinds c) (read_cell c z)) e (LeqKind-refl (read_kinds kinds c)))

-- ---- the entry

-- behind the registers stand the words of the stack
past_entry : (d : ℕ) → 11 ≤ d → LeqKind (entry_frame d) (read_cell d flat.Unset)
past_entry d h =
    by_tests (d == 1) (d == 2) (d == 3) (d == 10) (nat_lt 10 d) (nat_lt d 75) (nat_lt d 11) (grind (arith, nat_tests)) (grind (arith, nat_tests)) (grind (arith, nat_tests)) (grind (arith, nat_tests)) (grind (arith, nat_tests)) (grind (arith, nat_tests))
  where
    by_tests : (p q r s t u v : Bool) → p ≡ false → q ≡ false → r ≡ false → s ≡ false → t ≡ true → v ≡ false → LeqKind (if p then Place Message (at_place (pos 0)) else if q then Place State (at_place (pos 0)) else if r then Num (span 0 256) else if s then Place Stack (at_place (pos 512)) else if t && u then Num (whole 64) else Unset) (if v then Unset else if u then Num (whole 64) else Unset)
    by_tests false false false false true true false a b c d e f = (omega arith, omega arith)
    by_tests false false false false true false false a b c d e f = tt
    by_tests true q r s t u v a b c d e f = cc
    by_tests false true r s t u v a b c d e f = cc
    by_tests false false true s t u v a b c d e f = cc
    by_tests false false false true t u v a b c d e f = cc
    by_tests false false false false false u v a b c d e f = cc
    by_tests false false false false true u true a b c d e f = cc

-- the frame as a call begins says no less than that of form 1 or 2, whose r3 has this kind
entered_with : (third : FlatKind) → LeqKind (Num (span 0 256)) (read_kind third) → Leq entry_frame (read_kinds (entry_kinds third))
entered_with third l zero = tt
entered_with third l (suc zero) = LeqKind-refl (entry_frame 1)
entered_with third l (suc (suc zero)) = LeqKind-refl (entry_frame 2)
entered_with third l (suc (suc (suc zero))) = l
entered_with third l (suc (suc (suc (suc zero)))) = tt
entered_with third l (suc (suc (suc (suc (suc zero))))) = tt
entered_with third l (suc (suc (suc (suc (suc (suc zero)))))) = tt
entered_with third l (suc (suc (suc (suc (suc (suc (suc zero))))))) = tt
entered_with third l (suc (suc (suc (suc (suc (suc (suc (suc zero)))))))) = tt
entered_with third l (suc (suc (suc (suc (suc (suc (suc (suc (suc zero))))))))) = tt
entered_with third l (suc (suc (suc (suc (suc (suc (suc (suc (suc (suc zero)))))))))) = LeqKind-refl (entry_frame 10)
entered_with third l (suc (suc (suc (suc (suc (suc (suc (suc (suc (suc (suc q))))))))))) = past_entry (suc (suc (suc (suc (suc (suc (suc (suc (suc (suc (suc q))))))))))) (omega arith)

pub entered : (form : ImageForm) → Leq entry_frame (read_frame (flat_entry form))
entered Sbi1 = entered_with flat.Unset tt
entered Sbi2 = entered_with flat.Len (omega arith, omega arith)
