-- Calls of code in another order.
use Rattle.std.proofs.Common.{◌≡◌, ℕ, zero, suc, ◌+◌, ◌≤◌, List, Option, Some, None, ℤ, pos, ◌+ℤ◌, Bool, true, false, cond, inl, inr, refl, sym, ap, ◌∙◌, subst, arith}
use Rattle.std.specs.Prelude.{unsigned_abs}
use Rattle.decode.specs.declared.insn.Insn.{Insn}
use Rattle.decode.specs.declared.insn.Insn.TheVariants.{Alu, MovSx, Neg, End, Jump, JumpLong, JumpIf, Call, Exit, Load, LoadSx, StoreReg, StoreImm, Wide}
use Rattle.decode.specs.Slots.{size_of}
use Rattle.operations.specs.Operations.{holds}
use Rattle.decode.specs.Flow.{flow_of}
use Rattle.spans.specs.Configuration.{At, Configuration, Number, Value}
use Rattle.spans.specs.Step.{Ends, Fault, Goes, Leaps, Outcome, answers, branches, ends_with, gives_value, goes_on, operand_value, step}
use Rattle.spans.specs.Typing.{Code, target}
use Rattle.spans.specs.Calls.{Last, Replies, Request, after, call_by, call_from, more, noted, replied, request}
use Rattle.block_order.specs.Placement.{Arrives, ArrivesBy, IsPlacement, Places, WaysArrive}
use Rattle.decode.specs.Distance.{with_distance}
use Rattle.block_order.specs.Laws.{AreMovedRunsKept, EndsAs}
use Rattle.block_order.specs.Order.{code_of}

-- ---- the same instruction with another distance does the same

size-same : (i : Insn) (e : ℤ) → size_of (with_distance i e) ≡ size_of i
size-same (Alu op width dst o) e = refl
size-same (MovSx x dst src) e = refl
size-same (Neg width dst) e = refl
size-same (End order bits dst) e = refl
size-same (Wide dst value) e = refl
size-same (Jump offset) e = refl
size-same (JumpLong far) e = refl
size-same (JumpIf condition width dst o offset) e = refl
size-same (Call helper) e = refl
size-same Exit e = refl
size-same (Load size dst src offset) e = refl
size-same (LoadSx size dst src offset) e = refl
size-same (StoreReg size dst src offset) e = refl
size-same (StoreImm size dst offset imm) e = refl

step-same : (state a : ℕ) (i : Insn) (e : ℤ) (c : Configuration) → step state a (with_distance i e) c ≡ step state a i c
step-same state a (Alu op width dst o) e c = refl
step-same state a (MovSx x dst src) e c = refl
step-same state a (Neg width dst) e c = refl
step-same state a (End order bits dst) e c = refl
step-same state a (Wide dst value) e c = refl
step-same state a (Jump offset) e c = refl
step-same state a (JumpLong far) e c = refl
step-same state a (JumpIf condition width dst o offset) e c = refl
step-same state a (Call helper) e c = refl
step-same state a Exit e c = refl
step-same state a (Load size dst src offset) e c = refl
step-same state a (LoadSx size dst src offset) e c = refl
step-same state a (StoreReg size dst src offset) e c = refl
step-same state a (StoreImm size dst offset imm) e c = refl

request-same : (state : ℕ) (c : Configuration) (i : Insn) (e : ℤ) → request state c (with_distance i e) ≡ request state c i
request-same state c (Alu op width dst o) e = refl
request-same state c (MovSx x dst src) e = refl
request-same state c (Neg width dst) e = refl
request-same state c (End order bits dst) e = refl
request-same state c (Wide dst value) e = refl
request-same state c (Jump offset) e = refl
request-same state c (JumpLong far) e = refl
request-same state c (JumpIf condition width dst o offset) e = refl
request-same state c (Call helper) e = refl
request-same state c Exit e = refl
request-same state c (Load size dst src offset) e = refl
request-same state c (LoadSx size dst src offset) e = refl
request-same state c (StoreReg size dst src offset) e = refl
request-same state c (StoreImm size dst offset imm) e = refl

-- ---- where a step goes on

-- what a step needs of the ways out of its instruction
abbrev Lands : Code → Places → ℕ → Insn → ℕ → Insn → Outcome → Type 0
Lands other at s i m j (Goes d) = Arrives other at (m + size_of i) (s + size_of i)
Lands other at s i m j (Leaps d) = Arrives other at (target m j) (target s i)
Lands other at s i m j Ends = Unit {0}
Lands other at s i m j Fault = Unit {0}

jumped : (other : Code) (at : Places) (s m : ℕ) (d e : ℤ) → ArrivesBy other at s d m e → Arrives other at (unsigned_abs (pos (m + 1) +ℤ e)) (unsigned_abs (pos (s + 1) +ℤ d))
jumped other at s m d e h =
    let to : h.target ≡ unsigned_abs (pos (s + 1) +ℤ d) = sym (ap unsigned_abs h.leads) in
    let moved : h.moved ≡ unsigned_abs (pos (m + 1) +ℤ e) = sym (ap unsigned_abs h.leads_there) in
    subst (λ n. Arrives other at n (unsigned_abs (pos (s + 1) +ℤ d))) moved (subst (λ t. Arrives other at h.moved t) to h.arrives)

given : (other : Code) (at : Places) (s m : ℕ) (i j : Insn) (c : Configuration) (r : ℕ) (v : Option Value) → Arrives other at (m + size_of i) (s + size_of i) → Lands other at s i m j (gives_value c r v)
given other at s m i j c r None h = tt
given other at s m i j c r (Some w) h = h

went_on : (other : Code) (at : Places) (s m : ℕ) (i j : Insn) (v : Option Configuration) → Arrives other at (m + size_of i) (s + size_of i) → Lands other at s i m j (goes_on v)
went_on other at s m i j None h = tt
went_on other at s m i j (Some d) h = h

was_answered : (other : Code) (at : Places) (s m : ℕ) (i j : Insn) (c : Configuration) (a : ℕ) (v : Option (List ℕ)) → Arrives other at (m + size_of i) (s + size_of i) → Lands other at s i m j (answers c a v)
was_answered other at s m i j c a None h = tt
was_answered other at s m i j c a (Some bytes) h = h

ended : (other : Code) (at : Places) (s m : ℕ) (i j : Insn) (v : Option Value) → Lands other at s i m j (ends_with v)
ended other at s m i j None = tt
ended other at s m i j (Some (Number x)) = tt
ended other at s m i j (Some (At r k)) = tt

chosen : (other : Code) (at : Places) (s m : ℕ) (i j : Insn) (c : Configuration) (b : Bool) → Arrives other at (m + size_of i) (s + size_of i) → Arrives other at (target m j) (target s i)
    → Lands other at s i m j (cond b (Leaps c) (Goes c))
chosen other at s m i j c true h g = g
chosen other at s m i j c false h g = h

branched : (other : Code) (at : Places) (s m : ℕ) (i j : Insn) (c : Configuration) (u v : Option Value) (test : ℕ → ℕ → Bool) → Arrives other at (m + size_of i) (s + size_of i) → Arrives other at (target m j) (target s i)
    → Lands other at s i m j (branches c u v test)
branched other at s m i j c (Some (Number x)) (Some (Number y)) test h g = chosen other at s m i j c (test x y) h g
branched other at s m i j c (Some (Number x)) (Some (At r k)) test h g = tt
branched other at s m i j c (Some (Number x)) None test h g = tt
branched other at s m i j c (Some (At r k)) v test h g = tt
branched other at s m i j c None v test h g = tt

lands : (other : Code) (at : Places) (s m : ℕ) (i : Insn) (e : ℤ) (state a : ℕ) (c : Configuration) → WaysArrive other at s (flow_of i) m e → Lands other at s i m (with_distance i e) (step state a i c)
lands other at s m (Alu op width dst o) e state a c h = given other at s m (Alu op width dst o) (Alu op width dst o) c _ _ h
lands other at s m (MovSx x dst src) e state a c h = given other at s m (MovSx x dst src) (MovSx x dst src) c _ _ h
lands other at s m (Neg width dst) e state a c h = given other at s m (Neg width dst) (Neg width dst) c _ _ h
lands other at s m (End order bits dst) e state a c h = given other at s m (End order bits dst) (End order bits dst) c _ _ h
lands other at s m (Wide dst value) e state a c h = h
lands other at s m (Jump offset) e state a c h = jumped other at s m offset e h
lands other at s m (JumpLong far) e state a c h = jumped other at s m far e h
lands other at s m (JumpIf condition width dst o offset) e state a c h =
    branched other at s m (JumpIf condition width dst o offset) (JumpIf condition width dst o e) c (c.cells dst.number) (operand_value width o c) (holds condition width) h.1 (jumped other at s m offset e h.0)
lands other at s m (Call helper) e state a c h = was_answered other at s m (Call helper) (Call helper) c a _ h
lands other at s m Exit e state a c h = ended other at s m Exit Exit (c.cells 0)
lands other at s m (Load size dst src offset) e state a c h = given other at s m (Load size dst src offset) (Load size dst src offset) c _ _ h
lands other at s m (LoadSx size dst src offset) e state a c h = given other at s m (LoadSx size dst src offset) (LoadSx size dst src offset) c _ _ h
lands other at s m (StoreReg size dst src offset) e state a c h = went_on other at s m (StoreReg size dst src offset) (StoreReg size dst src offset) _ h
lands other at s m (StoreImm size dst offset imm) e state a c h = went_on other at s m (StoreImm size dst offset imm) (StoreImm size dst offset imm) _ h

-- ---- a jump between

hop : (state : ℕ) (other : Code) (reply : Replies) (f u m : ℕ) (d : ℤ) (c : Configuration) (q : List Request) → other u ≡ Some (Jump d) → pos (u + 1) +ℤ d ≡ pos m
    → call_from state other reply (suc f) u c q ≡ more (call_from state other reply f m c q)
hop state other reply f u m d c q there leads =
    ap (call_by state reply (call_from state other reply f) u c q) there ∙ ap (λ z. more (call_from state other reply f (unsigned_abs z) c q)) leads

-- ---- from the code to the other

abbrev twice : ℕ → ℕ
twice k = k + k

abbrev once : ℕ → ℕ
once k = k

-- one end as another does also if both calls are changed, if that holds of two that ended, of two that failed, and of one that is tired
pub ends-by : (within now : ℕ → ℕ) (f g : Last → Last)
    → ((k j r x : ℕ) (q p : List Request) (c d : Configuration) → EndsAs within (Last.Ended k r q c) (Last.Ended j x p d) → EndsAs now (f (Last.Ended k r q c)) (g (Last.Ended j x p d)))
    → EndsAs now (f Last.Failed) (g Last.Failed) → ((m : Last) → EndsAs now (f Last.Tired) (g m)) → (l m : Last) → EndsAs within l m → EndsAs now (f l) (g m)
ends-by within now f g ended failed tired (Last.Ended k r q c) (Last.Ended j x p d) h = ended k j r x q p c d h
ends-by within now f g ended failed tired (Last.Ended k r q c) Last.Failed h = absurd h
ends-by within now f g ended failed tired (Last.Ended k r q c) Last.Tired h = absurd h
ends-by within now f g ended failed tired Last.Failed Last.Failed h = failed
ends-by within now f g ended failed tired Last.Failed (Last.Ended k r q c) h = absurd h
ends-by within now f g ended failed tired Last.Failed Last.Tired h = absurd h
ends-by within now f g ended failed tired Last.Tired m h = tired m

more-ends : (l m : Last) → EndsAs twice l m → EndsAs twice (more l) (more m)
more-ends = ends-by twice twice more more (λ k j r x q p c d e. (omega (arith, e.0), e.1, e.2, e.3)) tt (λ m. tt)

hop-ends : (l m : Last) → EndsAs twice l m → EndsAs twice (more l) (more (more m))
hop-ends = ends-by twice twice more (λ m. more (more m)) (λ k j r x q p c d e. (omega (arith, e.0), e.1, e.2, e.3)) tt (λ m. tt)

-- from where slot t stands on, with so much fuel, the other code's call ends as the code's
abbrev GoesAs : ℕ → Code → Code → Places → Replies → ℕ → ℕ → Configuration → List Request → Type 0
GoesAs state code other at reply n t d q =
    (f m : ℕ) → n + n ≤ f → at t ≡ Some m → EndsAs twice (call_from state code reply n t d q) (call_from state other reply f m d q)

arrive-ends : (state : ℕ) (code other : Code) (at : Places) (reply : Replies) (n f u t : ℕ) (d : Configuration) (q : List Request)
    → suc (n + n) ≤ f → Arrives other at u t → GoesAs state code other at reply n t d q
    → EndsAs twice (more (call_from state code reply n t d q)) (more (call_from state other reply f u d q))
arrive-ends state code other at reply n f u t d q l (inl e) go = more-ends (call_from state code reply n t d q) (call_from state other reply f u d q) (go f u (omega arith) e)
arrive-ends state code other at reply n zero u t d q l (inr w) go = absurd (omega (arith, l))
arrive-ends state code other at reply n (suc f) u t d q l (inr w) go =
    subst (λ z. EndsAs twice (more (call_from state code reply n t d q)) (more z)) (sym (hop state other reply f u w.0 w.1 d q w.3 w.4))
    (hop-ends (call_from state code reply n t d q) (call_from state other reply f w.0 d q) (go f w.0 (omega (arith, l)) w.2))

after-ends : (state : ℕ) (code other : Code) (at : Places) (reply : Replies) (n f s m : ℕ) (i j : Insn) (c : Configuration) (q : List Request) (o : Outcome)
    → suc (n + n) ≤ f → size_of j ≡ size_of i → Lands other at s i m j o → ((t : ℕ) (d : Configuration) → GoesAs state code other at reply n t d q)
    → EndsAs twice (after (λ t d. call_from state code reply n t d q) s i c q o) (after (λ t d. call_from state other reply f t d q) m j c q o)
after-ends state code other at reply n f s m i j c q (Goes d) l z h go =
    subst (λ k. EndsAs twice (more (call_from state code reply n (s + size_of i) d q)) (more (call_from state other reply f (m + k) d q))) (sym z)
    (arrive-ends state code other at reply n f (m + size_of i) (s + size_of i) d q l h (go (s + size_of i) d))
after-ends state code other at reply n f s m i j c q (Leaps d) l z h go =
    arrive-ends state code other at reply n f (target m j) (target s i) d q l h (go (target s i) d)
after-ends state code other at reply n f s m i j c q Ends l z h go = (omega arith, refl, refl, refl)
after-ends state code other at reply n f s m i j c q Fault l z h go = tt

ends_as : (state : ℕ) (code other : Code) (at : Places) (reply : Replies) (n : ℕ) → IsPlacement code other at
    → (t : ℕ) (d : Configuration) (q : List Request) → GoesAs state code other at reply n t d q
ends_as state code other at reply zero placed s c q f m l e = tt
ends_as state code other at reply (suc n) placed s c q zero m l e = absurd (omega (arith, l))
ends_as state code other at reply (suc n) placed s c q (suc f) m l e =
    let h = placed.each s m e in
    let r = request state c h.insn in
    let j = with_distance h.insn h.by in
    let o = step state (replied reply q r) h.insn c in
    let less : suc (n + n) ≤ f = omega (arith, l) in
    subst (λ z. EndsAs twice (call_by state reply (call_from state code reply n) s c q z) (call_by state reply (call_from state other reply f) m c q (other m))) (sym h.there)
    (subst (λ z. EndsAs twice (call_by state reply (call_from state code reply n) s c q (Some h.insn)) (call_by state reply (call_from state other reply f) m c q z)) (sym h.moved)
    (subst (λ z. EndsAs twice (after (λ t d. call_from state code reply n t d (noted q r)) s h.insn c (noted q r) o) (after (λ t d. call_from state other reply f t d (noted q z)) m j c (noted q z) (step state (replied reply q z) j c))) (sym (request-same state c h.insn h.by))
    (subst (λ z. EndsAs twice (after (λ t d. call_from state code reply n t d (noted q r)) s h.insn c (noted q r) o) (after (λ t d. call_from state other reply f t d (noted q r)) m j c (noted q r) z)) (sym (step-same state (replied reply q r) h.insn h.by c))
    (after-ends state code other at reply n f s m h.insn j c (noted q r) o less (size-same h.insn h.by) (lands other at s m h.insn h.by state (replied reply q r) c h.ways)
    (λ t d. ends_as state code other at reply n placed t d (noted q r))))))

-- ---- and back

more-back : (l m : Last) → EndsAs once l m → EndsAs once (more l) (more m)
more-back = ends-by once once more more (λ k j r x q p c d e. (omega (arith, e.0), e.1, e.2, e.3)) tt (λ m. tt)

hop-back : (l m : Last) → EndsAs once l m → EndsAs once (more (more l)) (more m)
hop-back = ends-by once once (λ l. more (more l)) more (λ k j r x q p c d e. (omega (arith, e.0), e.1, e.2, e.3)) tt (λ m. tt)

-- the other way round, of calls of at most b steps
abbrev ComesBack : ℕ → Code → Code → Places → Replies → ℕ → List Request → Type 0
ComesBack state code other at reply b q =
    (n f t m : ℕ) (d : Configuration) → n ≤ b → n ≤ f → at t ≡ Some m
    → EndsAs once (call_from state other reply n m d q) (call_from state code reply f t d q)

arrive-back : (state : ℕ) (code other : Code) (at : Places) (reply : Replies) (b n f u t : ℕ) (d : Configuration) (q : List Request)
    → n ≤ b → n ≤ f → Arrives other at u t → ComesBack state code other at reply b q
    → EndsAs once (more (call_from state other reply n u d q)) (more (call_from state code reply f t d q))
arrive-back state code other at reply b n f u t d q l k (inl e) go = more-back (call_from state other reply n u d q) (call_from state code reply f t d q) (go n f t u d l k e)
arrive-back state code other at reply b zero f u t d q l k (inr w) go = tt
arrive-back state code other at reply b (suc n) f u t d q l k (inr w) go =
    subst (λ z. EndsAs once (more z) (more (call_from state code reply f t d q))) (sym (hop state other reply n u w.0 w.1 d q w.3 w.4))
    (hop-back (call_from state other reply n w.0 d q) (call_from state code reply f t d q) (go n f t w.0 d (omega (arith, l)) (omega (arith, k)) w.2))

after-back : (state : ℕ) (code other : Code) (at : Places) (reply : Replies) (b n f s m : ℕ) (i j : Insn) (c : Configuration) (q : List Request) (o : Outcome)
    → n ≤ b → n ≤ f → size_of j ≡ size_of i → Lands other at s i m j o → ComesBack state code other at reply b q
    → EndsAs once (after (λ t d. call_from state other reply n t d q) m j c q o) (after (λ t d. call_from state code reply f t d q) s i c q o)
after-back state code other at reply b n f s m i j c q (Goes d) l k z h go =
    subst (λ x. EndsAs once (more (call_from state other reply n (m + x) d q)) (more (call_from state code reply f (s + size_of i) d q))) (sym z)
    (arrive-back state code other at reply b n f (m + size_of i) (s + size_of i) d q l k h go)
after-back state code other at reply b n f s m i j c q (Leaps d) l k z h go =
    arrive-back state code other at reply b n f (target m j) (target s i) d q l k h go
after-back state code other at reply b n f s m i j c q Ends l k z h go = (omega arith, refl, refl, refl)
after-back state code other at reply b n f s m i j c q Fault l k z h go = tt

comes_back : (state : ℕ) (code other : Code) (at : Places) (reply : Replies) (b : ℕ) → IsPlacement code other at → (q : List Request) → ComesBack state code other at reply b q
comes_back state code other at reply b placed q zero f s m c l k e = tt
comes_back state code other at reply zero placed q (suc n) f s m c l k e = absurd (omega (arith, l))
comes_back state code other at reply (suc b) placed q (suc n) zero s m c l k e = absurd (omega (arith, k))
comes_back state code other at reply (suc b) placed q (suc n) (suc f) s m c l k e =
    let h = placed.each s m e in
    let r = request state c h.insn in
    let j = with_distance h.insn h.by in
    let o = step state (replied reply q r) h.insn c in
    let fewer : n ≤ b = omega (arith, l) in
    let enough : n ≤ f = omega (arith, k) in
    subst (λ z. EndsAs once (call_by state reply (call_from state other reply n) m c q (other m)) (call_by state reply (call_from state code reply f) s c q z)) (sym h.there)
    (subst (λ z. EndsAs once (call_by state reply (call_from state other reply n) m c q z) (call_by state reply (call_from state code reply f) s c q (Some h.insn))) (sym h.moved)
    (subst (λ z. EndsAs once (after (λ t d. call_from state other reply n t d (noted q z)) m j c (noted q z) (step state (replied reply q z) j c)) (after (λ t d. call_from state code reply f t d (noted q r)) s h.insn c (noted q r) o)) (sym (request-same state c h.insn h.by))
    (subst (λ z. EndsAs once (after (λ t d. call_from state other reply n t d (noted q r)) m j c (noted q r) z) (after (λ t d. call_from state code reply f t d (noted q r)) s h.insn c (noted q r) o)) (sym (step-same state (replied reply q r) h.insn h.by c))
    (after-back state code other at reply b n f s m h.insn j c (noted q r) o fewer enough (size-same h.insn h.by) (lands other at s m h.insn h.by state (replied reply q r) c h.ways)
    (comes_back state code other at reply b placed (noted q r))))))

pub moved-runs-kept : AreMovedRunsKept
moved-runs-kept code other at state n reply c q h = (
  ends_as state (code_of code) (code_of other) at reply n h 0 c q (n + n) 0 (omega arith) h.start,
  comes_back state (code_of code) (code_of other) at reply n h q n n 0 0 c (omega arith) (omega arith) h.start,
)
