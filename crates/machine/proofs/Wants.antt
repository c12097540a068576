-- What a receiver wants, as the machine's fields tell it
use Rattle.std.proofs.Common.{◌≡◌, ◌≢◌, ℕ, zero, suc, ◌+◌, ◌-◌, ◌<◌, ◌≤◌, List, length, Bool, true, false, refl, sym, ap, ◌∙◌, arith, true≢false}
use Rattle.std.specs.Prelude.{if◌then◌else◌, ◌==◌, ◌&&◌, ◌||◌, not, nat_lt, Option, Some, None, slice_index_or}
use Rattle.std.proofs.lemmas.Bool.Decides.{nat_tests}
use Rattle.rsn.specs.Receipts.{numbers_from, numbers_of, judged, run_of, acknowledged_of}
use Rattle.rsn.specs.declared.receipts.Judgement.{Judgement}
use Rattle.rsn.specs.declared.receipts.Judgement.TheVariants.{Next, Duplicate, Early}
use Rattle.world.specs.declared.message.Message.{Message}
use Rattle.world.specs.History.{count_of, rsn_of}
use Rattle.world.specs.Phases.{is_up}
use Rattle.world.specs.World.{World}
use Rattle.world.specs.Useful.{wants, works_on, is_unacknowledged}
use Rattle.session_process.specs.declared.mode.Mode.{Mode}
use Rattle.session_process.specs.declared.mode.Mode.TheVariants as modes
use Rattle.session_process.specs.Mode.{is_live}
use Rattle.machine.specs.Work.{phase_of}
use Rattle.machine.specs.Simulation.{TheMachine, StandsAt, Stands, process_at, is_up_at}
use Rattle.machine.specs.Choice.{next_ssn}
use Rattle.machine.proofs.ReceiptLemmas.{senders, length-numbers, rsn_from-numbers}
use Rattle.rsn.proofs.ReceiptLemmas.{numbers_from-above, numbers_from-within, flag-at}
use Rattle.machine.proofs.NumberLemmas.{run_of-ends, rsn_from-none}
use Rattle.machine.proofs.Status.{at_process, up_at, held-live, is_live-at}

-- the number that a judgement tells
abbrev pub known_as : Judgement → Option ℕ
known_as Next = None
known_as (Duplicate k) = Some k
known_as Early = None

-- a judgement's number is one of those
pub known-within : (s i : ℕ) (xs : List ℕ) (k : ℕ) → Duplicate k ≡ judged (numbers_from s 0 xs) i → (1 ≤ k) × (k ≤ length xs)
known-within s i xs k e = by_place (nat_lt (i - 1) (length (numbers_from s 0 xs))) refl (i - 1 == length (numbers_from s 0 xs)) e
  where
    by_place : (b : Bool) → nat_lt (i - 1) (length (numbers_from s 0 xs)) ≡ b → (c : Bool) → Duplicate k ≡ (if b then Duplicate (slice_index_or (numbers_from s 0 xs) (i - 1) 0) else (if c then Next else Early)) → (1 ≤ k) × (k ≤ length xs)
    by_place true l c f =
        let at : k ≡ slice_index_or (numbers_from s 0 xs) (i - 1) 0 = cc in
        let inside : i - 1 < length (numbers_from s 0 xs) = grind (arith, nat_tests) in
        (omega (arith, at, numbers_from-above s 0 xs (i - 1) inside), omega (arith, at, numbers_from-within s 0 xs (i - 1) inside))
    by_place false l true f = absurd (cc)
    by_place false l false f = absurd (cc)

next-is : (w : World) (from to : ℕ) → 0 < to → next_ssn w from to ≡ suc (count_of from (w.history to))
next-is w from zero h = absurd (omega arith)
next-is w from (suc to) h = refl

-- whether a number is acknowledged
pub flag-is : (m : TheMachine) (w : World) (s : Stands m w) (to : ℕ) (inside : 0 < to) (within : to ≤ length m.processes) (k : ℕ) → 1 ≤ k → k ≤ length (process_at m to).receipts.senders
    → slice_index_or (process_at m to).receipts.acknowledged (k - 1) false ≡ w.acknowledged to k
flag-is m w s to inside within k low high =
    let back : suc (k - 1) ≡ k = omega arith in
    (at_process m w s to inside within).acknowledged_is (k - 1) (omega (arith, low, high)) ∙ ap (w.acknowledged to) back

-- what the receipts of a process that is up tell of a sender's message
module _ (m : TheMachine) (w : World) (s : Stands m w) (from to : ℕ) (inside : 0 < to) (within : to ≤ length m.processes) (up : is_up_at m to ≡ true) where
  at : StandsAt (length m.processes) to (process_at m to) (w.handlers.state to) (w.handlers.sends to) (w.history to) (w.phase to) (w.incarnation to) (w.acknowledged to) (w.saved to) (w.saved_trims to)
  at = at_process m w s to inside within

  abbrev numbers : List ℕ
  numbers = numbers_of from (process_at m to).receipts

  numbers_are : numbers ≡ numbers_from from 0 (senders (w.history to))
  numbers_are = ap (numbers_from from 0) (at.senders ∙ ap senders (held-live _ _ _ (is_live-at m to inside up)))

  count : length numbers ≡ count_of from (w.history to)
  count = ap length numbers_are ∙ length-numbers from 0 (w.history to)

  -- the next of a sender
  pub next-at : length (numbers_of from (process_at m to).receipts) + 1 ≡ next_ssn w from to
  next-at = omega (arith, count, next-is w from to inside)

  module _ (i : ℕ) (first : 0 < i) where
    known : i - 1 < length numbers → rsn_of (w.history to) from i ≡ Some (slice_index_or numbers (i - 1) 0)
    known below = rsn_from-numbers 0 (λ _. 0) from i (w.history to) at.in_order first (omega (arith, count, below)) ∙ ap (λ ns. Some (slice_index_or ns (i - 1) 0)) (sym numbers_are)

    unknown : length numbers ≤ i - 1 → rsn_of (w.history to) from i ≡ None
    unknown above = rsn_from-none 0 (λ _. 0) from i (w.history to) at.in_order (omega (arith, count, above))

    -- the number of a message is what the judgement tells
    pub number-is : rsn_of (w.history to) from i ≡ known_as (judged numbers i)
    number-is = by_place (nat_lt (i - 1) (length numbers)) refl (i - 1 == length numbers)
      where
        by_place : (b : Bool) → nat_lt (i - 1) (length numbers) ≡ b → (c : Bool) → rsn_of (w.history to) from i ≡ known_as (if b then Duplicate (slice_index_or numbers (i - 1) 0) else (if c then Next else Early))
        by_place true e c = known (grind (arith, nat_tests))
        by_place false e true = unknown (grind (arith, nat_tests))
        by_place false e false = unknown (grind (arith, nat_tests))

    -- one that isn't acknowledged is one of the sender's, and is behind its run
    pub unacknowledged : is_unacknowledged (w.acknowledged to) (rsn_of (w.history to) from i) ≡ true → (i ≤ length numbers) × (run_of (acknowledged_of from (process_at m to).receipts) < i)
    unacknowledged e = by_place (nat_lt (i - 1) (length numbers)) refl
      where
        open_flag : (b : Bool) → not b ≡ true → b ≡ false
        open_flag true f = absurd (cc)
        open_flag false f = refl

        by_place : (b : Bool) → nat_lt (i - 1) (length numbers) ≡ b → (i ≤ length numbers) × (run_of (acknowledged_of from (process_at m to).receipts) < i)
        by_place true l =
            let below : i - 1 < length numbers = grind (arith, nat_tests) in
            let x = slice_index_or numbers (i - 1) 0 in
            let low : 0 < x = numbers_from-above from 0 (process_at m to).receipts.senders (i - 1) below in
            let high : x ≤ 0 + length (process_at m to).receipts.senders = numbers_from-within from 0 (process_at m to).receipts.senders (i - 1) below in
            let flag : w.acknowledged to x ≡ false = open_flag (w.acknowledged to x) (rw (known below) at e) in
            let open_at : slice_index_or (process_at m to).receipts.acknowledged (x - 1) false ≡ false = flag-is m w s to inside within x (omega arith) (omega arith) ∙ flag in
            let run = run_of-ends (acknowledged_of from (process_at m to).receipts) (i - 1) (flag-at numbers (process_at m to).receipts.acknowledged (i - 1) below ∙ open_at) in
            (omega (arith, below), omega (arith, run))
        by_place false l = let none = unknown (grind (arith, nat_tests)) in absurd (true≢false (sym (rw none at e)))

-- What a receiver wants

wants-inside : (w : World) (from to i : ℕ) → 0 < to → wants w from to i ≡ (is_up (w.phase to) && ((not (works_on (w.phase to) from i) && (i == suc (count_of from (w.history to)))) || is_unacknowledged (w.acknowledged to) (rsn_of (w.history to) from i)))
wants-inside w from zero i h = absurd (omega arith)
wants-inside w from (suc to) i h = refl

or_false : (a b : Bool) → b ≡ true → ((not a && b) || false) ≡ not a
or_false true b e = refl
or_false false b e = rw e refl

neither_or : (a b c : Bool) → b ≡ false → ((not a && b) || c) ≡ c
neither_or true b c e = refl
neither_or false b c e = rw e refl

works_on-phase_of : (n : ℕ) (t : Mode) (o : Option Message) (from i : ℕ) → is_live t ≡ true → works_on (phase_of n t o) from i ≡ works_on (phase_of 0 modes.Live o) from i
works_on-phase_of n modes.Live None from i e = refl
works_on-phase_of n modes.Live (Some x) from i e = refl
works_on-phase_of n modes.Down o from i e = absurd (true≢false (sym e))
works_on-phase_of n (modes.Replaying plan alone) o from i e = absurd (true≢false (sym e))
works_on-phase_of n (modes.Resync peers) o from i e = absurd (true≢false (sym e))

module _ (m : TheMachine) (w : World) (s : Stands m w) (from to i : ℕ) (inside : 0 < to) (within : to ≤ length m.processes) (up_to : is_up_at m to ≡ true) (first : 0 < i) where
  up : is_up (w.phase to) ≡ true
  up = up_at m w s to within up_to

  -- the next of its sender isn't wanted only by a process that works on it
  pub wants-next : i ≡ next_ssn w from to → wants w from to i ≡ not (works_on (phase_of 0 modes.Live (process_at m to).working) from i)
  wants-next e =
      let at : i ≡ suc (count_of from (w.history to)) = e ∙ next-is w from to inside in
      let same : (i == suc (count_of from (w.history to))) ≡ true = grind (arith, nat_tests) in
      let none : rsn_of (w.history to) from i ≡ None = rsn_from-none 0 (λ _. 0) from i (w.history to) (at_process m w s to inside within).in_order (omega (arith, at)) in
      wants-inside w from to i inside
      ∙ rw (up, none) (or_false (works_on (w.phase to) from i) (i == suc (count_of from (w.history to))) same)
      ∙ ap (λ q. not (works_on q from i)) (at_process m w s to inside within).phase_is
      ∙ ap not (works_on-phase_of (length m.processes) (process_at m to).mode (process_at m to).working from i (is_live-at m to inside up_to))

  -- another is wanted where its number isn't acknowledged
  pub wants-other : i ≢ next_ssn w from to → wants w from to i ≡ is_unacknowledged (w.acknowledged to) (rsn_of (w.history to) from i)
  wants-other e =
      let apart : i ≢ suc (count_of from (w.history to)) = λ f. e (f ∙ sym (next-is w from to inside)) in
      let differ : (i == suc (count_of from (w.history to))) ≡ false = grind (arith, nat_tests) in
      wants-inside w from to i inside
      ∙ rw up (neither_or (works_on (w.phase to) from i) (i == suc (count_of from (w.history to))) (is_unacknowledged (w.acknowledged to) (rsn_of (w.history to) from i)) differ)
