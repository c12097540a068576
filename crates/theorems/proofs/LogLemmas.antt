-- What is sent after a longer history, and the test of a log entry
use Rattle.std.proofs.Common.{◌≡◌, ℕ, zero, suc, ◌<◌, ◌≤◌, List, [], ◌∷◌, length, take, Bool, true, false, refl, sym, ap, subst, arith}
use Rattle.std.specs.Prelude.{Option, Some, None, slice_get, nat_le, if◌then◌else◌, ◌==◌, nat_lt, not, ◌&&◌}
use Rattle.std.proofs.lemmas.Bool.Decides.{nat_tests}
use Rattle.world.specs.declared.message.Message.{Message}
use Rattle.world.specs.History.{Payload, nth, count_of}
use Rattle.world.specs.Phases.{is_down}
use Rattle.world.specs.Handlers.{Handlers}
use Rattle.world.specs.World.{World}
use Rattle.world.specs.Logs.{payloads, sent, is_entry, length_of}
use Rattle.theorems.specs.Growth.{Begins, Grows}
use Rattle.theorems.specs.Invariants.Secured.{Safe}
use Rattle.theorems.specs.Kept.{IsEntry}
use Rattle.theorems.specs.Invariants.Sound.{Sound}
use Rattle.theorems.specs.Invariants.Exact.{Exact}
use Rattle.theorems.proofs.ListLemmas.{take-next, get-before, nth-prefix, nth-within, begins-self, begins-trans, begins-length}
use Rattle.theorems.proofs.HistoryLemmas.{above}

-- what is sent after one message more begins with what was sent before
sends-next : (f : Handlers) → Grows f → (p : ℕ) (h : List Message) (d k : ℕ) → Begins (f.sends p (take k h) d) (f.sends p (take (suc k) h) d)
sends-next f g p h d k = split (slice_get h k) refl
  where
    past : (ys : List Message) (i : ℕ) → slice_get ys i ≡ None → take (suc i) ys ≡ take i ys
    past [] zero e = refl
    past [] (suc i) e = refl
    past (y ∷ ys) zero e = absurd (cc)
    past (y ∷ ys) (suc i) e = ap (λ us. y ∷ us) (past ys i e)

    split : (o : Option Message) → slice_get h k ≡ o → Begins (f.sends p (take k h) d) (f.sends p (take (suc k) h) d)
    split None e = rw (past h k e) (begins-self _)
    split (Some x) e = rw (take-next h k x e) (g p (take k h) x d)

-- and so after any longer history
sends-prefix : (f : Handlers) → Grows f → (p : ℕ) (h : List Message) (d j k : ℕ) → j ≤ k → Begins (f.sends p (take j h) d) (f.sends p (take k h) d)
sends-prefix f g p h d j zero l = let e : j ≡ 0 = omega arith in rw e (begins-self _)
sends-prefix f g p h d j (suc k) l = split (nat_le j k) refl (sends-prefix f g p h d j k)
  where
    split : (b : Bool) → nat_le j k ≡ b → (j ≤ k → Begins (f.sends p (take j h) d) (f.sends p (take k h) d)) → Begins (f.sends p (take j h) d) (f.sends p (take (suc k) h) d)
    split true e less = begins-trans _ _ _ (less (grind (arith, nat_tests))) (sends-next f g p h d k)
    split false e less = let same : j ≡ suc k = grind (arith, nat_tests) in rw same (begins-self _)

-- more messages of a history send what its first j messages send, and perhaps more after it
pub payloads-prefix : (w : World) → Grows w.handlers → (s : ℕ) (h : List Message) (d j k : ℕ) → j ≤ k → Begins (payloads w s (take j h) d) (payloads w s (take k h) d)
payloads-prefix w g s h d j k l = split (s == 0)
  where
    split : (b : Bool) → Begins (if b then w.inputs d else w.handlers.sends s (take j h) d) (if b then w.inputs d else w.handlers.sends s (take k h) d)
    split true = begins-self _
    split false = sends-prefix w.handlers g s h d j k l

-- the same number of two lists of which one is a prefix of the other
pub payloads-agree : (w : World) → Grows w.handlers → (s : ℕ) (h : List Message) (d j k i : ℕ) (x : Payload) → nth (payloads w s (take j h) d) i ≡ Some x → i ≤ length (payloads w s (take k h) d) → nth (payloads w s (take k h) d) i ≡ Some x
payloads-agree w g s h d j k i x e l = split (nat_le j k) refl
  where
    here : {X : Type 0} (xs ys : List X) (m : ℕ) (y : X) → Begins xs ys → nth ys m ≡ Some y → m ≤ length xs → nth xs m ≡ Some y
    here xs ys zero y b e l = absurd (cc)
    here {X} xs ys (suc m) y b e l = let P : List X → Type 0 = λ zs. slice_get zs m ≡ Some y in get-before xs b.0 m y (omega arith) (subst P (sym b.1) e)

    split : (b : Bool) → nat_le j k ≡ b → nth (payloads w s (take k h) d) i ≡ Some x
    split true f = nth-prefix _ _ i x (payloads-prefix w g s h d j k (grind (arith, nat_tests))) e
    split false f = here _ _ i x (payloads-prefix w g s h d k j (grind (arith, nat_tests))) e l

-- what a test of a log entry says
pub entry-when : (w : World) (s d i : ℕ) → is_entry w s d i ≡ true → IsEntry w s d i
entry-when w s d i e = split (is_down (w.phase s)) refl e
  where
    split : (b : Bool) → is_down (w.phase s) ≡ b → (not b && nat_lt (w.trims s d) i && nat_le i (length (sent w s d))) ≡ true → IsEntry w s d i
    split true f e = absurd (cc)
    split false f e = record { live = f; above = grind (arith, nat_tests); within = grind (arith, nat_tests) }

-- and each log entry passes it
pub entry-test : (w : World) (s d i : ℕ) → IsEntry w s d i → is_entry w s d i ≡ true
entry-test w s d i h = rw h.live (let a : w.trims s d < i = h.above in let b : i ≤ length (sent w s d) = h.within in grind (arith, nat_tests))

-- a received message after the checkpoint is an entry of its sender's log, if that has its whole history
pub entry-of : (w : World) → Sound w → Exact w → (p k : ℕ) (x : Message) → slice_get (w.history p) k ≡ Some x → w.saved p ≤ k → is_down (w.phase x.sender) ≡ false → length_of w x.sender ≡ length (w.history x.sender)
    → IsEntry w x.sender p x.ssn
entry-of w s h p k x e after live whole =
    let next = s.received p k x e in
    let a : w.trims x.sender p ≤ count_of x.sender (take (w.saved p) (w.history p)) = s.covered p next.target x.sender in
    let b : count_of x.sender (take (w.saved p) (w.history p)) < x.ssn = above w.count p (w.history p) (s.received p) k x e (w.saved p) after in
    let is : Safe w p x = h.received p k x e in
    let c : x.ssn ≤ length (payloads w x.sender (take is.upto (w.history x.sender)) p) = (nth-within _ x.ssn x.payload is.sends).1 in
    let u : is.upto ≤ length (w.history x.sender) = is.secured.within in
    let d : length (payloads w x.sender (take is.upto (w.history x.sender)) p) ≤ length (sent w x.sender p) = begins-length _ _ (payloads-prefix w s.grows x.sender (w.history x.sender) p is.upto (length_of w x.sender) (omega arith)) in
    record { live = live; above = omega arith; within = omega arith }
