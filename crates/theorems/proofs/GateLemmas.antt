-- What each change leaves gated
use Rattle.std.proofs.Common.{◌≡◌, ℕ, suc, ◌<◌, ◌≤◌, List, [], ◌∷◌, ◌++◌, length, take, max, Bool, true, false, refl, sym, ap, ◌∙◌, arith, length-append}
use Rattle.std.specs.Prelude.{nat_le, if◌then◌else◌, ◌==◌}
use Rattle.std.proofs.lemmas.Bool.Decides.{nat_tests}
use Rattle.world.specs.declared.message.Message.{Message}
use Rattle.world.specs.History.{Payload}
use Rattle.world.specs.Phases.{Phase, Up, Busy, Down, is_up}
use Rattle.world.specs.Handlers.{Handlers}
use Rattle.world.specs.World.{World, put, opening}
use Rattle.world.specs.Logs.{payloads, sent_in_all, run_to, run_of}
use Rattle.world.specs.Calls.{input, acknowledge, commit, checkpoint, crash, keep, phase_with, released_with, ready}
use Rattle.theorems.specs.Growth.{Grows, Starts}
use Rattle.theorems.specs.Invariants.Sound.{Sound}
use Rattle.theorems.specs.Invariants.Gated.{sent_by_run, Gated}
use Rattle.theorems.proofs.Changes.{choose}
use Rattle.theorems.proofs.Tests.{is_at_most}
use Rattle.theorems.proofs.ListLemmas.{take-all, take-push, begins-length}
use Rattle.theorems.proofs.LogLemmas.{payloads-prefix}
use Rattle.theorems.proofs.RunLemmas.{run_to-is, run_to-whole, run_to-more, run_to-ends}
use Rattle.theorems.proofs.Recoveries.{gathered}

pub opens-gated : (n : ℕ) (f : Handlers) → Starts f → Gated (opening n f)
opens-gated n f starts p d a u = split (p == 0)
  where
    split : (b : Bool) → 0 ≡ length (if b then [] else f.sends p [] d)
    split true = refl
    split false = rw (starts p d) refl

-- what a process sends doesn't rest on the inputs
payloads-inside : (w : World) (p : ℕ) (h : List Message) (d : ℕ) → 0 < p → payloads w p h d ≡ w.handlers.sends p h d
payloads-inside w p h d a = let e : (p == 0) ≡ false = grind (arith, nat_tests) in rw e refl

pub gated-input : (w : World) (d feed : ℕ) (x : Payload) → Gated w → Gated (input w d feed x)
gated-input w d feed x h p e a u =
    h p e a u ∙ ap length (payloads-inside w p (take (run_of w p) (w.history p)) e a ∙ sym (payloads-inside (input w d feed x) p (take (run_of w p) (w.history p)) e a))

-- no process comes up
pub gated-phase : (w : World) (p : ℕ) (x : Phase) → (is_up x ≡ true → is_up (w.phase p) ≡ true) → Gated w → Gated (record w { phase = put w.phase p x })
gated-phase w p x back h q d = choose p (λ j b. 0 < j → is_up (if b then x else w.phase j) ≡ true → w.released j d ≡ sent_by_run w j d) (λ a u. h p d a (back u)) (λ j _. h j d) q

-- one comes up, when all that it received is acknowledged
pub gated-ready : (w : World) (p : ℕ) (rs : List ℕ) → ((m : ℕ) → 0 < m → m ≤ length (w.history p) → w.acknowledged p m ≡ true) → Gated w → Gated (ready w p rs)
gated-ready w p rs all h q d =
    choose p (λ j b. 0 < j → is_up (if b then phase_with rs else w.phase j) ≡ true → (if b then released_with w p rs else w.released j) d ≡ sent_by_run w j d) (now rs) (λ j _. h j d) q
  where
    now : (qs : List ℕ) → 0 < p → is_up (phase_with qs) ≡ true → released_with w p qs d ≡ sent_by_run w p d
    now [] a u = rw (run_to-whole (w.acknowledged p) (length (w.history p)) all, take-all (w.history p)) refl
    now (r ∷ rs) a u = absurd (cc)

pub gated-acknowledge : (w : World) (key r k : ℕ) → Grows w.handlers → Gated w → Gated (acknowledge w key r k)
gated-acknowledge w key r k g h q d =
    choose r (λ j b. 0 < j → is_up (w.phase j) ≡ true → (if b then (λ d. max (w.released r d) (length (payloads w r (take (run_to (put (w.acknowledged r) k true) (length (w.history r))) (w.history r)) d))) else w.released j) d
    ≡ length (payloads w j (take (run_to (if b then put (w.acknowledged r) k true else w.acknowledged j) (length (w.history j))) (w.history j)) d)) now (λ j _. h j d) q
  where
    n : ℕ
    n = run_to (put (w.acknowledged r) k true) (length (w.history r))

    now : 0 < r → is_up (w.phase r) ≡ true → max (w.released r d) (length (payloads w r (take n (w.history r)) d)) ≡ length (payloads w r (take n (w.history r)) d)
    now a u =
        let more : run_of w r ≤ n = run_to-more (w.acknowledged r) (put (w.acknowledged r) k true) (length (w.history r)) (choose k (λ i c. w.acknowledged r i ≡ true → (if c then true else w.acknowledged r i) ≡ true) (λ _. refl) (λ i _ f. f)) in
        let less : length (payloads w r (take (run_of w r) (w.history r)) d) ≤ length (payloads w r (take n (w.history r)) d) = begins-length _ _ (payloads-prefix w g r (w.history r) d (run_of w r) n more) in
        let old : w.released r d ≡ length (payloads w r (take (run_of w r) (w.history r)) d) = h r d a u in
        omega arith

-- what is received now isn't acknowledged
pub gated-commit : (w : World) (p : ℕ) (m : Message) (new : ℕ) → w.phase p ≡ Busy m → Sound w → Gated w → Gated (commit w p m new)
gated-commit w p m new busy s h q d =
    choose p (λ j b. 0 < j → is_up (if b then Up else w.phase j) ≡ true
    → w.released j d ≡ length (payloads w j (take (run_to (w.acknowledged j) (length (if b then w.history p ++ m ∷ [] else w.history j))) (if b then w.history p ++ m ∷ [] else w.history j)) d)) now (λ j _. h j d) q
  where
    beyond : (b : Bool) → w.acknowledged p (suc (length (w.history p))) ≡ b → b ≡ false
    beyond true e = absurd (let l : suc (length (w.history p)) ≤ length (w.history p) = s.acknowledged p _ e in omega arith)
    beyond false e = refl

    same : take (run_to (w.acknowledged p) (length (w.history p ++ m ∷ []))) (w.history p ++ m ∷ []) ≡ take (run_of w p) (w.history p)
    same =
        let one : length (w.history p ++ m ∷ []) ≡ suc (length (w.history p)) = omega (arith, length-append {A = Message}) in
        let ends : run_to (w.acknowledged p) (suc (length (w.history p))) ≡ run_of w p = run_to-ends (w.acknowledged p) (length (w.history p)) (beyond _ refl) in
        rw (one, ends) (take-push (w.history p) (m ∷ []) (run_of w p) (run_to-is (w.acknowledged p) (length (w.history p))).0)

    now : 0 < p → is_up Up ≡ true → w.released p d ≡ length (payloads w p (take (run_to (w.acknowledged p) (length (w.history p ++ m ∷ []))) (w.history p ++ m ∷ [])) d)
    now a u = rw same (h p d a (rw busy refl))

pub gated-checkpoint : (w : World) (p : ℕ) → Gated w → Gated (checkpoint w p)
gated-checkpoint w p h q d =
    choose p (λ j b. 0 < j → is_up (w.phase j) ≡ true → (if b then sent_in_all w p else w.released j) d
    ≡ length (payloads w j (take (run_to (if b then (λ k. nat_le k (length (w.history p))) else w.acknowledged j) (length (w.history j))) (w.history j)) d)) now (λ j _. h j d) q
  where
    now : 0 < p → is_up (w.phase p) ≡ true → sent_in_all w p d ≡ length (payloads w p (take (run_to (λ k. nat_le k (length (w.history p))) (length (w.history p))) (w.history p)) d)
    now a u = rw (run_to-whole (λ k. nat_le k (length (w.history p))) (length (w.history p)) (λ m b c. is_at_most m _ c), take-all (w.history p)) refl

pub gated-crash : (w : World) (p : ℕ) → Gated w → Gated (crash w p)
gated-crash w p h q d =
    choose p (λ j b. 0 < j → is_up (if b then Down else w.phase j) ≡ true → (if b then (λ _. 0) else w.released j) d
    ≡ length (payloads w j (take (run_to (if b then (λ _. false) else w.acknowledged j) (length (w.history j))) (w.history j)) d)) (λ a u. absurd (cc)) (λ j _. h j d) q

pub gated-keep : (w : World) (p k : ℕ) → w.phase p ≡ Down → Gated w → Gated (keep w p k)
gated-keep w p k down h q d =
    choose p (λ j b. 0 < j → is_up (w.phase j) ≡ true → w.released j d
    ≡ length (payloads w j (take (run_to (if b then (λ m. nat_le m k) else w.acknowledged j) (length (if b then gathered w p k else w.history j))) (if b then gathered w p k else w.history j)) d))
    (λ a u. absurd (let f : is_up Down ≡ true = rw down at u in cc)) (λ j _. h j d) q
