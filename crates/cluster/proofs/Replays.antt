-- A message is replayed, and the last one
use Rattle.std.proofs.Common.{◌≡◌, ◌≢◌, ℕ, suc, ◌+◌, ◌<◌, ◌≤◌, List, [], ◌∷◌, length, Bool, true, false, refl, sym, ap, ◌∙◌, subst, arith}
use Rattle.std.specs.Prelude.{None, not, ◌&&◌, ◌||◌, ◌==◌, nat_lt, if◌then◌else◌}
use Rattle.std.proofs.lemmas.Bool.Decides.{nat_tests}
use Rattle.world.specs.declared.call.Call.TheVariants.{Finish, ReplayBegin}
use Rattle.world.specs.declared.answer.Answer.TheVariants.{Started, Replayed}
use Rattle.world.specs.Phases.{Phase, Replaying, is_up, is_down, is_busy, is_working, has}
use Rattle.world.specs.World.{World, put, is_inside}
use Rattle.world.specs.Logs.{length_in, sent_in_all}
use Rattle.world.specs.Bounds.{open_jobs}
use Rattle.world.specs.Calls.{phase_with, released_with, peers, replay, replay_begin, finish, with_open_job}
use Rattle.theorems.specs.Invariants.Exact.{is_restored}
use Rattle.theorems.specs.Invariants.Sound.{Replays as ReplaysPhase}
use Rattle.theorems.proofs.Changes.{choose, at-itself}
use Rattle.theorems.proofs.PhaseLemmas.{with-down, with-length, with-restored}
use Rattle.theorems.proofs.Replays.{has-those}
use Rattle.theorems.proofs.TidyLemmas.{sent-more}
use Rattle.theorems.proofs.ListLemmas.{take-all}
use Rattle.cluster.specs.Cluster.{Cluster, runs}
use Rattle.cluster.specs.Rules.{Replays, May, does, goes_on}
use Rattle.cluster.specs.Inside.Journals.{IsStep, entry, Leads}
use Rattle.cluster.specs.Inside.Agrees.{Beside, world, is_answered, Agrees}
use Rattle.cluster.specs.Inside.Simulation.{IsJournalOf}
use Rattle.cluster.proofs.Worlds.{Lawful, leads-by}
use Rattle.cluster.proofs.CountLemmas.{put-put}
use Rattle.cluster.proofs.Facts.{runs-live, true-not-false, none-so-far}
use Rattle.cluster.proofs.Turns.{Turn, agrees-turn}
use Rattle.cluster.proofs.Wires.{step-of, leads-one, below-self}

-- who restores its numbers has no job open
pub with-busy : (rs : List ℕ) → is_busy (phase_with rs) ≡ false
with-busy [] = refl
with-busy (r ∷ rs) = refl

-- nor one on what it replays
pub with-working : (rs : List ℕ) → is_working (phase_with rs) ≡ false
with-working [] = refl
with-working (r ∷ rs) = refl

-- each other process is a peer
pub is-peer : (w : World) (p q : ℕ) → 0 < q → q ≤ w.count → q ≢ p → has (peers w p false) q ≡ true
is-peer w p q a z n = has-those (λ x. not (x == p) && (not false || is_up (w.phase x))) w.count q a z (let t : (q == p) ≡ false = grind (arith, nat_tests) in rw t refl)

-- what is released with these peers is no less than before
pub released-more : (w : World) (p : ℕ) (rs : List ℕ) → ((d : ℕ) → w.released p d ≤ sent_in_all w p d) → (q r : ℕ) → w.released q r ≤ put w.released p (released_with w p rs) q r
released-more w p [] l q r = choose p (λ j t. w.released j r ≤ (if t then sent_in_all w p else w.released j) r) (l r) (λ j _. omega arith) q
released-more w p (x ∷ rs) l q r = choose p (λ j t. w.released j r ≤ (if t then w.released p else w.released j) r) (omega arith) (λ j _. omega arith) q

pub step-replays : (c : Cluster) (b : Beside) (p j : ℕ) → Agrees c b → Lawful (world c b) → May c (Replays p j) → IsJournalOf (world c b) (does c (Replays p j))
step-replays c b p j h l may = split (nat_lt (c.world.saved p + suc j) (length (c.world.history p))) refl
  where
    at : c.world.phase p ≡ Replaying j false false
    at = may.2

    b' : Beside
    b' = record b { started = b.started + 1 }

    begun : World
    begun = record (world c b) { phase = put c.world.phase p (Replaying j true false); started = b.started + 1 }

    begins : IsStep (world c b) (entry (ReplayBegin p) (Started (b.started + 1)))
    begins = step-of (world c b) (ReplayBegin p) (Started (b.started + 1)) (open_jobs (world c b) + 1 + 1) (inside may.0.0 may.0.1, (rw at refl, (rw at refl, (below-self (open_jobs (world c b) + 1 + 1), tt)))) refl refl
      where
        inside : 0 < p → p ≤ c.world.count → not (is_inside (world c b) p) ≡ false
        inside a z = grind (arith, nat_tests)

    there_ : replay_begin (world c b) p ≡ begun
    there_ = ap (λ x. record (world c b) { phase = put c.world.phase p (with_open_job x); started = b.started + 1 }) at

    here : begun.phase p ≡ Replaying j true false
    here = at-itself p (λ t. (if t then Replaying j true false else c.world.phase p) ≡ Replaying j true false) refl

    finishes : IsStep begun (entry (Finish p) (Replayed (c.world.saved p + j + 1)))
    finishes = step-of begun (Finish p) (Replayed (c.world.saved p + j + 1)) 0 (rw (inside may.0.0 may.0.1, here) refl, tt) (rw here refl) refl
      where
        inside : 0 < p → p ≤ c.world.count → is_inside begun p ≡ true
        inside a z = grind (arith, nat_tests)

    leads-to : (v : World) → replay begun p j false ≡ v → Leads (world c b) v
    leads-to v e =
        leads-by (world c b) v (entry (ReplayBegin p) (Started (b.started + 1))) begins
        (let P : World → Type 0 = λ u. Leads u v in subst P (sym there_) (leads-one begun v (Finish p) (Replayed (c.world.saved p + j + 1)) finishes (ap (λ x. finish begun p x (Replayed (c.world.saved p + j + 1))) here ∙ e)))

    ran : runs (c.stage p) ≡ true
    ran = runs-live _ may.1

    blank : (q ssn : ℕ) → c.world.numbers p q ssn ≡ None
    blank q ssn = h.numbered.partly p q ssn (rw at refl) ∙ none-so-far c p q ssn (h.numbered.begins p q (rw at refl))

    -- it turns to a phase in which it has no answer of a node
    turn : (x : Phase) → is_down x ≡ false → is_busy x ≡ false → is_working x ≡ false → ((q : ℕ) → (q == 0) ≡ false → q ≤ c.world.count → q ≢ p → is_restored x q ≡ true → ⊥)
        → length_in (c.world.history p) (c.world.saved p) (c.world.phase p) ≤ length_in (c.world.history p) (c.world.saved p) x → Turn c b p x
    turn x live busy working none forth =
        record {
          node = may.0;
          stage = may.1;
          was = rw at refl;
          live = live;
          busy = busy;
          working = working;
          obeys = λ q a n o y f. obeys q a n o y (q == 0) refl f;
          clears = λ q a n e f. absurd (clears q a n e (q == 0) refl f);
          less = λ q _. rw at refl;
          again = λ _. rw at refl;
          blank = λ q ssn _ _. blank q ssn;
          forth = forth;
        }
      where
        obeys : (q : ℕ) → q ≤ c.world.count → q ≢ p → runs (c.stage q) ≡ true → c.heard q p ≡ c.world.incarnation p → (t : Bool) → (q == 0) ≡ t → (if t then c.greeted p else is_restored x q) ≡ true → c.resumed q p ≡ true
        obeys q a n o y true z f = (h.hearing.heard q p a may.0.1 n o).obeyed y (rw z f)
        obeys q a n o y false z f = absurd (none q z a n f)

        clears : (q : ℕ) → q ≤ c.world.count → q ≢ p → is_answered c p q ≡ false → (t : Bool) → (q == 0) ≡ t → (if t then c.greeted p else is_restored x q) ≡ true → ⊥
        clears q a n e true z f = true-not-false f (let P : Bool → Type 0 = λ t. (if t then c.greeted p else is_restored (c.world.phase p) q) ≡ false in subst P z e)
        clears q a n e false z f = none q z a n f

    beside : (d : Cluster) → Agrees d b → Agrees d b'
    beside d a = record { phases = a.phases; stages = a.stages; trimmed = a.trimmed; untrimmed = a.untrimmed; numbered = a.numbered; hearing = a.hearing; wired = a.wired; parcels = a.parcels }

    split : (t : Bool) → nat_lt (c.world.saved p + suc j) (length (c.world.history p)) ≡ t → IsJournalOf (world c b) (if t then record c { world = record c.world { phase = put c.world.phase p (Replaying (suc j) false false) } } else goes_on c p (peers c.world p false))
    split true e =
        record {
          beside = b';
          leads = leads-to (world (record c { world = record c.world { phase = put c.world.phase p (Replaying (suc j) false false) } }) b')
              (rw e (ap (λ (f : ℕ → Phase). record (world c b) { phase = f; started = b.started + 1 }) (put-put c.world.phase p (Replaying j true false) (Replaying (suc j) false false))));
          agrees = beside (record c { world = record c.world { phase = put c.world.phase p (Replaying (suc j) false false) } }) (agrees-turn c b p (Replaying (suc j) false false) c.world.released l.sound.grows (λ q r. omega arith)
              (turn (Replaying (suc j) false false) refl refl refl (λ q z a n f. cc) (rw at (omega arith))) h);
        }
    split false e =
        record {
          beside = b';
          leads = leads-to (world (goes_on c p (peers c.world p false)) b')
              (rw e (ap (λ (f : ℕ → Phase). record (world c b) { phase = f; released = put c.world.released p (released_with c.world p (peers c.world p false)); started = b.started + 1 }) (put-put c.world.phase p (Replaying j true false) (phase_with (peers c.world p false)))));
          agrees = beside (goes_on c p (peers c.world p false)) (agrees-turn c b p (phase_with (peers c.world p false)) (put c.world.released p (released_with c.world p (peers c.world p false))) l.sound.grows
              (released-more c.world p (peers c.world p false) (λ d. let x : c.world.released p d ≤ _ = (l.tidy p).gated d in let y = sent-more c.world l.sound.grows p (c.world.history p) d (length_in (c.world.history p) (c.world.saved p) (c.world.phase p)) (length (c.world.history p)) short in rw (take-all (c.world.history p)) at (most x y)))
              (turn (phase_with (peers c.world p false)) (with-down (peers c.world p false)) (with-busy (peers c.world p false)) (with-working (peers c.world p false)) (λ q z a n f. true-not-false (is-peer c.world p q (grind (arith, nat_tests)) a n) (with-restored (peers c.world p false) q f))
              (rw (with-length (peers c.world p false) (c.world.history p) (c.world.saved p)) short)) h);
        }
      where
        short : length_in (c.world.history p) (c.world.saved p) (c.world.phase p) ≤ length (c.world.history p)
        short = let x : ReplaysPhase (c.world.saved p) (length (c.world.history p)) (Replaying j false false) = rw at at (l.sound.replays p) in rw at (omega arith)

        most : {x y z : ℕ} → x ≤ y → y ≤ z → x ≤ z
        most a b = omega arith
