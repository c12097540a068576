-- A process goes on
use Rattle.std.proofs.Common.{◌≡◌, ◌≢◌, ℕ, ◌≤◌, List, [], true, sym, ◌∙◌, subst, arith}
use Rattle.cluster.specs.Cluster.{Cluster}
use Rattle.cluster.specs.Overlap.{Event, after_events}
use Rattle.cluster.specs.Exact.{Steps}
use Rattle.cluster.proofs.Goes.{own-events}
use Rattle.packets.specs.declared.kept.Kept.{Kept}
use Rattle.packets.specs.Kept.{IsKept}
use Rattle.node.specs.Stands.{Each, GoesTo, doer, IsAct}
use Rattle.node.specs.Kept.{IsKeptOf}
use Rattle.node.proofs.Beside.{Same}
use Rattle.node.proofs.Beside as beside
use Rattle.recovery.proofs.Others as recovery
use Rattle.recovery.proofs.RestorationOthers as restoring
use Rattle.node_laws.specs.Inside.Process.{Process, Up, Covered, Collects, Replays, Replayed, Restores, Killed, StandsAs, IsStoredOf, is_exact}
use Rattle.node_laws.specs.Inside.System.{AreStoredOf}
use Rattle.node_laws.proofs.Events.{stored-along}
use Rattle.node_laws.proofs.Along.{along, kept-same, keeping-same, kept-own}

-- p stands as this process, these bytes are what is stored of it, and no incarnation above this one was opened
pub record Has (process : Process) (bytes : List ℕ) (life : ℕ) (c : Cluster) (p : ℕ) : Type 0 where
  pub stands : StandsAs process c p
  pub stored : AreStoredOf bytes process c p
  pub lives : c.stored p ≤ life

-- by events of its own p goes to where that holds; if it is exact then, they are acts
pub record Moves (p : ℕ) (new : Process) (bytes : List ℕ) (life : ℕ) (c : Cluster) : Type 0 where
  pub events : List Event
  pub run : Steps c events
  pub by : Each (λ (e : Event). doer e ≡ p) events
  pub acts : is_exact new ≡ true → Each IsAct events
  pub has : Has new bytes life (after_events c events) p

-- what is stored of a process that isn't told of a checkpoint
abbrev pub IsPlain : Process → ℕ → Type 0
IsPlain new p = (k : Kept) (d : Cluster) → IsKeptOf k d p → IsStoredOf k new d p

-- where no event changes what is stored durably
pub moves-own : (p : ℕ) (new : Process) (bytes : List ℕ) (life : ℕ) (c : Cluster) (k : Kept) → IsPlain new p → IsKept k bytes → IsKeptOf k c p → c.stored p ≤ life → GoesTo (is_exact new) p (λ d. StandsAs new d p) c → Moves p new bytes life c
moves-own p new bytes life c k plain are kept low g =
    record {
      events = g.events;
      run = g.run;
      by = own-events p g.events g.by;
      acts = g.acts;
      has = record {
        stands = g.stands;
        stored = (k, (are, plain k (after_events c g.events) (kept-own k c p g.events g.by kept)));
        lives = (let e : (after_events c g.events).stored p ≡ c.stored p = stored-along c p g.events g.by in omega (arith, e, low));
      };
    }

-- where nothing happens
pub moves-none : (p : ℕ) (new : Process) (bytes : List ℕ) (life : ℕ) (c : Cluster) → StandsAs new c p → AreStoredOf bytes new c p → c.stored p ≤ life → Moves p new bytes life c
moves-none p new bytes life c s are low = record { events = []; run = tt; by = tt; acts = λ e. tt; has = record { stands = s; stored = are; lives = low } }

-- ---- beside others

dead-same : (c d : Cluster) (p : ℕ) → Same c d p → StandsAs Killed c p → StandsAs Killed d p
dead-same c d p e s = ((s.0.0, subst (λ k. p ≤ k) e.count s.0.1), sym e.stage ∙ s.1)

-- it stands after the events of another
stands-still : (process : Process) (p q : ℕ) (es : List Event) (c : Cluster) → q ≢ p → Each (λ (e : Event). doer e ≡ q) es → StandsAs process c p → StandsAs process (after_events c es) p
stands-still (Up n) p q es c other by s = beside.stands-after n p q es c other by s
stands-still (Covered n) p q es c other by s = (s.0, beside.stands-after n p q es c other by s.1)
stands-still (Collects n) p q es c other by s = recovery.others-stand n p q es c other by s
stands-still (Replays n) p q es c other by s = recovery.replaying-stands n p q es c other by s
stands-still (Replayed n) p q es c other by s = restoring.replayed-stands n p q es c other by s
stands-still (Restores n) p q es c other by s = restoring.restoring-stands n p q es c other by s
stands-still Killed p q es c other by s = along (λ d. StandsAs Killed d p) p q es c (λ a b e h. dead-same a b p e h) other by s

-- and what is stored of it is what it was
is-stored-still : (k : Kept) (process : Process) (p q : ℕ) (es : List Event) (c : Cluster) → q ≢ p → Each (λ (e : Event). doer e ≡ q) es → IsStoredOf k process c p → IsStoredOf k process (after_events c es) p
is-stored-still k (Covered n) p q es c other by s = along (λ d. IsStoredOf k (Covered n) d p) p q es c (λ a b e h. (((h.0.0.0, subst (λ m. p ≤ m) e.count h.0.0.1), sym e.stage ∙ h.0.1), keeping-same k a b p e h.1)) other by s
is-stored-still k x p q es c other by s = along (λ d. IsKeptOf k d p) p q es c (λ a b e h. kept-same k a b p e h) other by s

-- all that holds of p still does
pub has-still : (process : Process) (bytes : List ℕ) (life p q : ℕ) (es : List Event) (c : Cluster) → q ≢ p → Each (λ (e : Event). doer e ≡ q) es → Has process bytes life c p → Has process bytes life (after_events c es) p
has-still process bytes life p q es c other by s =
    record {
      stands = stands-still process p q es c other by s.stands;
      stored = (s.stored.0, (s.stored.1.0, is-stored-still s.stored.0 process p q es c other by s.stored.1.1));
      lives = along (λ d. d.stored p ≤ life) p q es c (λ a b e h. subst (λ m. m ≤ life) e.stored h) other by s.lives;
    }
