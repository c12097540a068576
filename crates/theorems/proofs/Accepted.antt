-- What is known if a call is accepted
use Rattle.std.proofs.Common.{◌≡◌, ◌≢◌, ℕ, suc, ◌<◌, ◌≤◌, List, [], ◌∷◌, Bool, true, false, refl, arith}
use Rattle.std.specs.Prelude.{Some, None, nat_lt, nat_le, not, ◌&&◌, if◌then◌else◌, ◌==◌}
use Rattle.std.proofs.lemmas.Bool.Decides.{nat_tests}
use Rattle.world.specs.Phases.{Up, is_up}
use Rattle.world.specs.World.{World, is_inside}
use Rattle.world.specs.Logs.{released_to}
use Rattle.world.specs.Answers.{Next, Known, Ahead, verdict_of}
use Rattle.world.specs.Refusals.{least, causes, refusal_of, others_up}
use Rattle.world.specs.declared.call.Call.TheVariants.{Transmit, Checkpoint}
use Rattle.theorems.specs.Invariants.Sound.{Sound}
use Rattle.theorems.proofs.Tests.{not-below, different, not-false, neither, any_below-none}
use Rattle.theorems.proofs.PhaseLemmas.{up-phase}

-- if no refusal is least, no cause holds
abbrev pub AllFalse : List (Bool × ℕ) → Type 0
AllFalse [] = Unit {0}
AllFalse (c ∷ cs) = (c.0 ≡ false) × AllFalse cs

-- of a call that isn't refused, the test of each cause is false
pub clear : (cs : List (Bool × ℕ)) → least cs ≡ None → AllFalse cs
clear [] e = tt
clear (c ∷ cs) e = split c.0 refl e (clear cs)
  where
    split : (b : Bool) → c.0 ≡ b → (if b then Some c.1 else least cs) ≡ None → (least cs ≡ None → AllFalse cs) → (c.0 ≡ false) × AllFalse cs
    split true t e more = absurd (cc)
    split false t e more = (t, more e)

-- what isn't refused as no such process is one of the processes
pub inside-is : (w : World) (p : ℕ) → not (is_inside w p) ≡ false → (0 < p) × (p ≤ w.count)
inside-is w p e = (grind (arith, nat_tests), grind (arith, nat_tests))

pub verdict-next : (n i : ℕ) → verdict_of n i ≡ Next → i ≡ suc n
verdict-next n i e = split (i == suc n) refl e
  where
    split : (b : Bool) → (i == suc n) ≡ b → (if b then Next else (if nat_lt n i then Ahead else Known)) ≡ Next → i ≡ suc n
    split true t e = grind (arith, nat_tests)
    split false t e = other (nat_lt n i) e
      where
        other : (b : Bool) → (if b then Ahead else Known) ≡ Next → i ≡ suc n
        other true e = absurd (cc)
        other false e = absurd (cc)

-- if a transmission isn't refused, its ends are there and differ, and the message is released
pub transmits : (room : ℕ) (w : World) (p d i : ℕ) → refusal_of w room (Transmit p d i) ≡ None → (p ≤ w.count) × (d ≤ w.count) × (p ≢ d) × (i ≤ released_to w p d)
transmits room w p d i free =
    let a = clear (causes w room (Transmit p d i)) free in
    let n = neither (nat_lt w.count p) (nat_lt w.count d) a.0 in
    let x : nat_lt w.count p ≡ false = n.0 in
    let y : nat_lt w.count d ≡ false = n.1 in
    let z : (p == d) ≡ false = a.1.1.0 in
    let u : nat_lt (released_to w p d) i ≡ false = a.1.1.1.0 in
    (not-below w.count p x, not-below w.count d y, different p d z, not-below (released_to w p d) i u)

-- a process whose checkpoint isn't refused is up, and no job of it is open
pub checkpoints : (room : ℕ) (w : World) (p : ℕ) → refusal_of w room (Checkpoint p) ≡ None → w.phase p ≡ Up
checkpoints room w p free = let a = clear (causes w room (Checkpoint p)) free in up-phase (w.phase p) (not-false (is_up (w.phase p)) a.1.0) a.1.1.0

-- if all processes but p are up, so is each number but p, also above the count
pub others-are : (w : World) (p : ℕ) → others_up w p ≡ true → Sound w → (q : ℕ) → q ≢ p → is_up (w.phase q) ≡ true
others-are w p e s q ne = split (nat_le q w.count) refl
  where
    both-false : (a b : Bool) → (not a && not b) ≡ false → a ≡ false → b ≡ true
    both-false true b e f = absurd (cc)
    both-false false true e f = refl
    both-false false false e f = absurd (cc)

    none : (b : Bool) → not b ≡ true → b ≡ false
    none true e = absurd (cc)
    none false e = refl

    split : (b : Bool) → nat_le q w.count ≡ b → is_up (w.phase q) ≡ true
    split true t = both-false (q == p) (is_up (w.phase q)) (any_below-none (λ a. not (a == p) && not (is_up (w.phase a))) (suc w.count) q (none _ e) (grind (arith, nat_tests))) (grind (arith, nat_tests))
    split false t = rw (s.outside q (λ _. grind (arith, nat_tests))) refl
