-- What a recovery keeps
use Rattle.std.specs.Prelude.{◌≡◌, ℕ, suc, ◌+◌, ◌-◌, ◌<◌, ◌≤◌, List, [], ◌∷◌, ◌++◌, length, Bool, true, false, take, ◌==◌, if◌then◌else◌}
use Rattle.world.specs.declared.entry.Entry.{Entry}
use Rattle.world.specs.declared.call.Call.{Call}
use Rattle.world.specs.declared.call.Call.TheVariants.{Finish, Crash, Recover}
use Rattle.world.specs.declared.answer.Answer.{Answer}
use Rattle.world.specs.declared.answer.Answer.TheVariants.{Committed, Replayed, Kept}
use Rattle.world.specs.Phases.{is_down}
use Rattle.world.specs.World.{World}
use Rattle.world.specs.Logs.{length_of, state_of}
use Rattle.world.specs.Plan.{gather}
use Rattle.world.specs.Answers.{MayAnswer}
use Rattle.world.specs.Handlers.{Handlers}
use Rattle.world.specs.Legal.{world_of}
use Rattle.theorems.specs.Kept.{IsKept}

-- if a recovery of p may be answered by k, the run ends at k, and checkpoint and plan are the first k messages, as p received them
abbrev pub RecoversKept : World → Type 0
RecoversKept w = (p k : ℕ) → MayAnswer w (Recover p) (Kept k) →
    record {
      kept : IsKept w p k;
      within : k ≤ length (w.history p);
      plan : gather w p (take (w.saved p) (w.history p)) (k - w.saved p) ≡ take k (w.history p);
    }

-- in v, p wasn't down and its numbers 1 to run were acknowledged. If it is down in the later w, at least as many are kept
abbrev pub RunIsKept : World → World → Type 0
RunIsKept v w = (p run k : ℕ) → is_down (v.phase p) ≡ false → run ≤ length (v.history p)
    → ((m : ℕ) → 0 < m → m ≤ run → v.acknowledged p m ≡ true) → is_down (w.phase p) ≡ true → IsKept w p k → run ≤ k

-- in v, p was down and k messages were kept. If its length is k in the later w, its state is the one that it had after its first k
-- messages
abbrev pub StateIsKept : World → World → Type 0
StateIsKept v w = (p k : ℕ) → is_down (v.phase p) ≡ true → IsKept v p k → length_of w p ≡ k
    → state_of w p ≡ v.handlers.state p (take k (v.history p))

-- the entry of a recovery of p that keeps k messages
abbrev pub recovery : ℕ → ℕ → ℕ → Entry
recovery worker p k = record { worker = worker; call = Recover p; answer = Kept k }

-- whether an entry finishes a replayed call of p
abbrev pub is_replayed : ℕ → Call → Answer → Bool
is_replayed p (Finish q) (Replayed n) = q == p
is_replayed p call answer = false

-- how many of these entries finish a replayed call of p
abbrev pub replayed : ℕ → List Entry → ℕ
replayed p [] = 0
replayed p (e ∷ es) = if is_replayed p e.call e.answer then suc (replayed p es) else replayed p es

-- whether p crashes or receives one more message in an entry
abbrev pub moves_on : ℕ → Call → Answer → Bool
moves_on p (Crash q) answer = q == p
moves_on p (Finish q) (Committed n key) = q == p
moves_on p call answer = false

-- p neither crashes nor receives one more message in these entries
abbrev pub IsReturning : ℕ → List Entry → Type 0
IsReturning p [] = Unit {0}
IsReturning p (e ∷ es) = (moves_on p e.call e.answer ≡ false) × IsReturning p es

-- p recovered in v with k messages, and w came after more entries, in which it neither crashed nor received another message. Each
-- replayed call made it one message longer than its checkpoint, with the state that it had then, and no more are replayed than
-- there are. After the last one its length is k, and its state the one that it had
abbrev pub ReplaysBack : World → World → ℕ → ℕ → List Entry → Type 0
ReplaysBack v w p k more =
    IsReturning p more → record {
      most : v.saved p + replayed p more ≤ k;
      each : (length_of w p ≡ v.saved p + replayed p more)
          × (state_of w p ≡ v.handlers.state p (take (v.saved p + replayed p more) (v.history p)));
      all : replayed p more ≡ k - v.saved p → (length_of w p ≡ k) × (state_of w p ≡ v.handlers.state p (take k (v.history p)));
    }

-- p recovers in v, the answer is k, and more entries lead to w. The run ends at k, w still has these messages, and the replay
-- brings back length and state. Whenever the length of p is k, its state is the one that it had after them
abbrev pub RecoversExactly : World → World → ℕ → ℕ → List Entry → Type 0
RecoversExactly v w p k more =
    record {
      kept : IsKept v p k;
      within : k ≤ length (w.history p);
      same : take k (w.history p) ≡ take k (v.history p);
      replays : ReplaysBack v w p k more;
      state : length_of w p ≡ k → state_of w p ≡ v.handlers.state p (take k (v.history p));
    }

-- the same of the journal with these entries before the recovery, and more after it
abbrev pub ComesBackExactly : ℕ → Handlers → List Entry → List Entry → ℕ → ℕ → ℕ → Type 0
ComesBackExactly n f es more worker p k =
    RecoversExactly (world_of n f es) (world_of n f (es ++ recovery worker p k ∷ more)) p k more
