-- The peers that a process waits for
use Rattle.std.proofs.Common.{◌≡◌, ◌≢◌, ℕ, zero, suc, ◌<◌, ◌≤◌, List, [], ◌∷◌, Bool, true, false, refl, sym, ap, ◌∙◌, arith}
use Rattle.std.specs.Prelude.{not, ◌&&◌, ◌||◌, ◌==◌, if◌then◌else◌}
use Rattle.std.proofs.lemmas.Bool.Decides.{nat_tests}
use Rattle.world.specs.Phases.{Resync, is_up, is_replaying, todo_of, has, without, those}
use Rattle.world.specs.Calls.{phase_with}
use Rattle.cluster.specs.Overlap.{restores_anew}
use Rattle.recovery.proofs.Lists.{either}

pub not-off : (b : Bool) → b ≡ false → not b ≡ true
not-off true e = absurd (cc)
not-off false e = refl

pub both-off : (b : Bool) → (b && false) ≡ false
both-off true = refl
both-off false = refl

-- those that pass a test, without one
pub without-those : (f g : ℕ → Bool) (n r : ℕ) → ((q : ℕ) → q ≢ r → g q ≡ f q) → g r ≡ false → without (those f n) r ≡ those g n
without-those f g zero r same off = refl
without-those f g (suc k) r same off = split (f (suc k)) refl (suc k == r) refl (without-those f g k r same off)
  where
    split : (b : Bool) → f (suc k) ≡ b → (t : Bool) → (suc k == r) ≡ t → without (those f k) r ≡ those g k → without (if b then suc k ∷ those f k else those f k) r ≡ (if g (suc k) then suc k ∷ those g k else those g k)
    split true e true t rest =
        let at : suc k ≡ r = grind (arith, nat_tests) in
        let none : g (suc k) ≡ false = ap g at ∙ off in
        rw (t, none) rest
    split true e false t rest =
        let other : suc k ≢ r = grind (arith, nat_tests) in
        let is : g (suc k) ≡ true = same (suc k) other ∙ e in
        rw (t, is) (ap (λ l. suc k ∷ l) rest)
    split false e true t rest =
        let at : suc k ≡ r = grind (arith, nat_tests) in
        let none : g (suc k) ≡ false = ap g at ∙ off in
        rw none rest
    split false e false t rest =
        let other : suc k ≢ r = grind (arith, nat_tests) in
        let none : g (suc k) ≡ false = same (suc k) other ∙ e in
        rw none rest

-- those that pass one of two tests that are the same of processes
pub those-same : (f g : ℕ → Bool) (n : ℕ) → ((q : ℕ) → 0 < q → q ≤ n → f q ≡ g q) → those f n ≡ those g n
those-same f g zero same = refl
those-same f g (suc k) same =
    let head : f (suc k) ≡ g (suc k) = same (suc k) (omega arith) (omega arith) in
    rw (head, those-same f g k (λ q some low. same q some (omega (arith, low)))) refl

-- who is among those that pass
has-past : (f : ℕ → Bool) (n q : ℕ) → n < q → has (those f n) q ≡ false
has-past f zero q l = refl
has-past f (suc k) q l =
    let apart : (q == suc k) ≡ false = grind (arith, nat_tests) in
    let rest : has (those f k) q ≡ false = has-past f k q (omega (arith, l)) in
    either (λ (ps : List ℕ). has ps q ≡ false) (f (suc k)) (suc k ∷ those f k) (those f k) (rw apart rest) rest

pub has-is : (f : ℕ → Bool) (n q : ℕ) → 0 < q → q ≤ n → has (those f n) q ≡ f q
has-is f zero q some low = absurd (omega (arith, some, low))
has-is f (suc k) q some low = split (f (suc k)) refl (q == suc k) refl (has-is f k q some)
  where
    split : (b : Bool) → f (suc k) ≡ b → (t : Bool) → (q == suc k) ≡ t → (q ≤ k → has (those f k) q ≡ f q) → has (if b then suc k ∷ those f k else those f k) q ≡ f q
    split true e true t rest = let same : q ≡ suc k = grind (arith, nat_tests) in rw t (sym (ap f same ∙ e))
    split false e true t rest = let same : q ≡ suc k = grind (arith, nat_tests) in has-past f k q (omega (arith, same)) ∙ sym (ap f same ∙ e)
    split b e false t rest =
        let other : q ≢ suc k = grind (arith, nat_tests) in
        let is : has (those f k) q ≡ f q = rest (omega (arith, other, low)) in
        either (λ (ps : List ℕ). has ps q ≡ f q) b (suc k ∷ those f k) (those f k) (rw t is) is

-- none passes
pub those-none : (f : ℕ → Bool) (n : ℕ) → ((q : ℕ) → f q ≡ false) → those f n ≡ []
those-none f zero none = refl
those-none f (suc k) none = rw (none (suc k)) (those-none f k none)

pub todo-is : (ps : List ℕ) → todo_of (phase_with ps) ≡ ps
todo-is [] = refl
todo-is (r ∷ rs) = refl

pub not-replaying : (ps : List ℕ) → is_replaying (phase_with ps) ≡ false
not-replaying [] = refl
not-replaying (r ∷ rs) = refl

-- as long as it waits for one, it isn't up
pub waits-on : (ps : List ℕ) (q : ℕ) → has ps q ≡ true → is_up (phase_with ps) ≡ false
waits-on [] q e = absurd (cc)
waits-on (r ∷ rs) q e = refl

-- one of those that pass g is waited for anew, and the others pass f
pub anew-is : (f g : ℕ → Bool) (n r : ℕ) → 0 < r → r ≤ n → g r ≡ true → ((q : ℕ) → q ≢ r → g q ≡ f q) → restores_anew n (phase_with (those f n)) r ≡ phase_with (those g n)
anew-is f g n r some low on same =
    let all : those (λ q. (q == r) || has (todo_of (phase_with (those f n))) q) n ≡ those g n =
    those-same (λ q. (q == r) || has (todo_of (phase_with (those f n))) q) g n (λ q above under. each q above under (q == r) refl) in
    rw (not-replaying (those f n), all) (sym (resyncs (those g n) (has-is g n r some low ∙ on)))
  where
    each : (q : ℕ) → 0 < q → q ≤ n → (b : Bool) → (q == r) ≡ b → ((q == r) || has (todo_of (phase_with (those f n))) q) ≡ g q
    each q above under true e = let at : q ≡ r = grind (arith, nat_tests) in rw e (sym (ap g at ∙ on))
    each q above under false e =
        let other : q ≢ r = grind (arith, nat_tests) in
        rw (e, todo-is (those f n)) (has-is f n q above under ∙ sym (same q other))

    resyncs : (ps : List ℕ) → has ps r ≡ true → phase_with ps ≡ Resync ps
    resyncs [] e = absurd (cc)
    resyncs (q ∷ qs) e = refl
