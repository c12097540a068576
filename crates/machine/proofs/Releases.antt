-- What an acknowledgement releases
use Rattle.std.proofs.Common.{◌≡◌, ◌≢◌, ℕ, zero, suc, ◌+◌, ◌-◌, ◌<◌, ◌≤◌, List, [], ◌∷◌, length, max, set, get_or, Bool, true, false, refl, sym, ap, ◌∙◌, arith}
use Rattle.std.specs.Prelude.{if◌then◌else◌, ◌==◌, nat_lt, nat_le, cond}
use Rattle.std.specs.List.{filter}
use Rattle.std.proofs.lemmas.Bool.Decides.{nat_tests}
use Rattle.std.proofs.lemmas.List.{get_or-set_same, get_or-set_other}
use Rattle.std.proofs.lemmas.List.Sums.{sum_by-cons}
use Rattle.limits.specs.declared.TheConstants.{PARTIES}
use Rattle.rsn.specs.Receipts.{run_of}
use Rattle.rsn.proofs.ReceiptLemmas.{run_of-bound}
use Rattle.send_gate.specs.declared.gate.Held.{Held}
use Rattle.send_gate.specs.Gate.{TheGate, count_to, Releases}
use Rattle.world.specs.World.{put}
use Rattle.world.specs.Logs.{run_to}
use Rattle.theorems.proofs.RunLemmas.{run_to-is, run_to-most}
use Rattle.machine.specs.Simulation.{Holds}

-- Sends by their position

-- those up to n are those up to r, and of the others those up to n
pub count_to-split : (d r n : ℕ) → r ≤ n → (hs : List Held) → count_to d (filter (λ (h : Held). nat_le h.rsn n) hs) ≡ count_to d (filter (λ (h : Held). nat_le h.rsn r) hs) + count_to d (filter (λ (h : Held). nat_le h.rsn n) (filter (λ (h : Held). nat_lt r h.rsn) hs))
count_to-split d r n l [] = refl
count_to-split d r n l (h ∷ hs) = by_position (nat_le h.rsn r) refl (nat_le h.rsn n) refl (count_to-split d r n l hs)
  where
    count_to-cons : (g : Held) (gs : List Held) → count_to d (g ∷ gs) ≡ cond (g.dst == d) 1 0 + count_to d gs
    count_to-cons g gs = sum_by-cons (λ (x : Held). cond (x.dst == d) 1 0) g gs

    upto : ℕ → List Held → List Held
    upto k gs = filter (λ (x : Held). nat_le x.rsn k) gs

    above : List Held → List Held
    above gs = filter (λ (x : Held). nat_lt r x.rsn) gs

    Splits : List Held → Type 0
    Splits gs = count_to d (upto n gs) ≡ count_to d (upto r gs) + count_to d (upto n (above gs))

    by_position : (b : Bool) → nat_le h.rsn r ≡ b → (c : Bool) → nat_le h.rsn n ≡ c → Splits hs → Splits (h ∷ hs)
    by_position true e true f before =
        let g : nat_lt r h.rsn ≡ false = grind (arith, nat_tests) in
        rw (e, f, g) (omega (arith, before, count_to-cons h (upto n hs), count_to-cons h (upto r hs)))
    by_position true e false f before = absurd (grind (arith, nat_tests))
    by_position false e true f before =
        let g : nat_lt r h.rsn ≡ true = grind (arith, nat_tests) in
        rw (e, f, g) (rw f (omega (arith, before, count_to-cons h (upto n hs), count_to-cons h (upto n (above hs)))))
    by_position false e false f before =
        let g : nat_lt r h.rsn ≡ true = grind (arith, nat_tests) in
        rw (e, f, g) (rw f before)

-- Runs

run_of-true : (bs : List Bool) (k : ℕ) → k < run_of bs → get_or bs k false ≡ true
run_of-true [] k h = absurd (omega arith)
run_of-true (true ∷ bs) zero h = refl
run_of-true (true ∷ bs) (suc k) h = run_of-true bs k (omega arith)
run_of-true (false ∷ bs) k h = absurd (omega arith)

run_of-false : (bs : List Bool) → run_of bs < length bs → get_or bs (run_of bs) false ≡ false
run_of-false [] h = refl
run_of-false (true ∷ bs) h = run_of-false bs (omega arith)
run_of-false (false ∷ bs) h = refl

-- the run of flags is that of the numbers that they stand for
pub run_of-run_to : (bs : List Bool) (f : ℕ → Bool) (n : ℕ) → length bs ≡ n → ((k : ℕ) → k < n → get_or bs k false ≡ f (suc k)) → run_of bs ≡ run_to f n
run_of-run_to bs f n e same = by_end (nat_lt (run_of bs) (run_to f n)) refl
  where
    within : run_of bs ≤ n
    within = omega (arith, run_of-bound bs, e)

    holds : (m : ℕ) → 0 < m → m ≤ run_of bs → f m ≡ true
    holds zero a b = absurd (omega arith)
    holds (suc m) a b = sym (same m (omega (arith, within))) ∙ run_of-true bs m (omega arith)

    least : run_of bs ≤ run_to f n
    least = run_to-most f n (run_of bs) within holds

    by_end : (b : Bool) → nat_lt (run_of bs) (run_to f n) ≡ b → run_of bs ≡ run_to f n
    by_end false t = grind (arith, nat_tests, least)
    by_end true t =
        let is = run_to-is f n in
        let more : run_of bs < run_to f n = grind (arith, nat_tests) in
        let inside : run_of bs < n = omega (arith, more, is.0) in
        let on : f (suc (run_of bs)) ≡ true = is.1 (suc (run_of bs)) (omega arith) (omega arith) in
        let off : f (suc (run_of bs)) ≡ false = sym (same (run_of bs) inside) ∙ run_of-false bs (omega (arith, inside, e)) in
        absurd (cc)

-- one more number is acknowledged
pub flags-set : (bs : List Bool) (f : ℕ → Bool) (n k : ℕ) → length bs ≡ n → 0 < k → k ≤ n → ((j : ℕ) → j < n → get_or bs j false ≡ f (suc j)) → (j : ℕ) → j < n → get_or (set bs (k - 1) true) j false ≡ put f k true (suc j)
flags-set bs f n k e a b same j h = by_place (suc j == k) refl
  where
    by_place : (c : Bool) → (suc j == k) ≡ c → get_or (set bs (k - 1) true) j false ≡ (if c then true else f (suc j))
    by_place true t =
        let at : j ≡ k - 1 = grind (arith, nat_tests) in
        ap (λ i. get_or (set bs (k - 1) true) i false) at ∙ get_or-set_same bs (k - 1) true false (omega (arith, e))
    by_place false t =
        let apart : j ≢ k - 1 = grind (arith, nat_tests) in
        get_or-set_other bs (k - 1) j true false apart ∙ same j h

-- a gate that released up to a later run
pub holds-released : (old new : TheGate) (d run now n released : ℕ) (sent_by : ℕ → ℕ) → d < PARTIES → run ≤ now → now ≤ n → Holds d old run n released sent_by → Releases now old new → Holds d new now n (max released (sent_by now)) sent_by
holds-released old new d run now n released sent_by small more within h r =
    let after : max released (sent_by now) ≡ released + count_to d (filter (λ (x : Held). nat_le x.rsn now) old.waiting) = omega (arith, h.waits now more within) in
    record {
      released_is = omega (arith, r.1 d small, h.released_is, after);
      waits = λ k on upto. rw (r.0) (omega (arith, after, h.waits k (omega arith) upto, count_to-split d now k on old.waiting));
    }
