-- What follows along a run
use Rattle.std.proofs.Common.{◌≡◌, ℕ, ◌≤◌, List, [], ◌∷◌, ◌++◌, length, take, Bool, true, false, refl, sym, ap, ◌∙◌, subst, arith}
use Rattle.std.specs.Prelude.{Some, None, ◌||◌, ◌==◌, if◌then◌else◌}
use Rattle.world.specs.declared.message.Message.{Message}
use Rattle.world.specs.Handlers.{Handlers}
use Rattle.world.specs.Phases.{is_busy}
use Rattle.world.specs.Logs.{payloads}
use Rattle.theorems.specs.Growth.{Begins, Grows}
use Rattle.theorems.proofs.ListLemmas.{take-all, nth-prefix, begins-self, begins-trans}
use Rattle.theorems.proofs.LogLemmas.{payloads-prefix}
use Rattle.cluster.specs.Cluster.{Cluster, durable_opening}
use Rattle.cluster.specs.Parcels.{Delivery}
use Rattle.cluster.specs.Rules.{Puts}
use Rattle.cluster.specs.Overlap.{Event, Acts, Might, goes, kept_sends, Events, after_events}
use Rattle.cluster.specs.DurablePromises.{lasts, Stays, DurableKeep, CheckpointsStay, AllDurableKeep}
use Rattle.cluster.proofs.Firm.{Firm}
use Rattle.cluster.proofs.Growth.{Continues}
use Rattle.cluster.proofs.DurableGrowth.{goes-continue, goes-durable, goes-sends}
use Rattle.cluster.proofs.Progress.{IsSafe, goes-firm}

-- of the durable nodes, and the gateway
abbrev pub IsFirm : Cluster → Type 0
IsFirm c = Firm (lasts c.durable) c

-- all of it holds at the opening
pub opens-firm : (n : ℕ) (f : Handlers) (durable : ℕ → Bool) → Grows f → Firm (lasts durable) (durable_opening n f durable)
opens-firm n f durable g =
    record {
      grows = g;
      within = λ p. omega arith;
      parcels = λ p d x i. absurd (i);
      jobs = λ d m e. absurd (let t : false ≡ true = ap is_busy e in cc);
      numbers = λ s d ssn m e. absurd (let t : None ≡ Some m = e in cc);
      told = λ p q. tt;
      own = λ p. refl;
      received = λ p d l. record { each = λ i m e s. absurd (let t : None ≡ Some m = e in cc); order = (kept_sends (durable_opening n f durable) p d, refl) };
      shown = λ p l. record { each = λ i m e s. absurd (let t : None ≡ Some m = e in cc); order = (kept_sends (durable_opening n f durable) p 0, refl) };
    }

-- the gateway keeps its inputs
might-last : (c : Cluster) (e : Event) → Might c e → IsSafe (lasts c.durable) c e
might-last c (Acts exact (Puts p d (Delivery i ssn x))) may = split (p == 0) may.0.3.2 may.1
  where
    split : (b : Bool) → ssn ≤ (if b then length (c.world.inputs d) else c.world.released p d) → (c.durable p ≡ true → ssn ≤ length (if b then c.world.inputs d else c.world.handlers.sends p (take (c.world.saved p) (c.world.history p)) d))
        → (b || c.durable p) ≡ true → ssn ≤ length (if b then c.world.inputs d else c.world.handlers.sends p (take (c.world.saved p) (c.world.history p)) d)
    split true l k e = l
    split false l k e = k e
might-last c other may = tt

-- and after each event
pub step-firm : (c : Cluster) (e : Event) → IsFirm c → Might c e → IsFirm (goes c e)
step-firm c e h may =
    let P : (ℕ → Bool) → Type 0 = λ d. Firm (lasts d) (goes c e) in
    subst P (sym (goes-durable c e)) (goes-firm (lasts c.durable) c h e may (might-last c e may))

events-firm : (c : Cluster) (es : List Event) → IsFirm c → Events c es → IsFirm (after_events c es)
events-firm c [] h r = h
events-firm c (e ∷ es) h r = events-firm (goes c e) es (step-firm c e h r.0) r.1

events-durable : (c : Cluster) (es : List Event) → (after_events c es).durable ≡ c.durable
events-durable c [] = refl
events-durable c (e ∷ es) = events-durable (goes c e) es ∙ goes-durable c e

-- so it holds after each run
run-firm : (n : ℕ) (f : Handlers) (durable : ℕ → Bool) (es : List Event) → Grows f → Events (durable_opening n f durable) es → Firm (lasts durable) (after_events (durable_opening n f durable) es)
run-firm n f durable es g r =
    let P : (ℕ → Bool) → Type 0 = λ d. Firm (lasts d) (after_events (durable_opening n f durable) es) in
    subst P (events-durable (durable_opening n f durable) es) (events-firm (durable_opening n f durable) es (opens-firm n f durable g) r)

pub durable-keep : DurableKeep
durable-keep n f durable es p g r l = let h = run-firm n f durable es g r in record { received = λ d. h.received p d l; shown = h.shown p l }

events-stay : (c : Cluster) (es : List Event) (p : ℕ) → IsFirm c → Events c es → Stays c (after_events c es) p
events-stay c [] p h r = record { messages = begins-self _; sends = λ d. begins-self _ }
events-stay c (e ∷ es) p h r =
    let t : Stays (goes c e) (after_events (goes c e) es) p = events-stay (goes c e) es p (step-firm c e h r.0) r.1 in
    let k : Continues c (goes c e) = goes-continue c e h.within in
    record { messages = begins-trans _ _ _ (k.messages p) t.messages; sends = λ d. begins-trans _ _ _ (goes-sends c e h.grows h.within p d) (t.sends d) }

-- a run of two parts, taken apart
events-append : (c : Cluster) (es more : List Event) → Events c (es ++ more)
    → Events c es × Events (after_events c es) more × (after_events c (es ++ more) ≡ after_events (after_events c es) more)
events-append c [] more r = (tt, r, refl)
events-append c (e ∷ es) more r = let t = events-append (goes c e) es more r.1 in ((r.0, t.0), t.1, t.2)

pub checkpoints-stay : CheckpointsStay
checkpoints-stay n f durable es more p g r =
    let t = events-append (durable_opening n f durable) es more r in
    let P : Cluster → Type 0 = λ v. Stays (after_events (durable_opening n f durable) es) v p in
    subst P (sym t.2) (events-stay (after_events (durable_opening n f durable) es) more p (events-firm (durable_opening n f durable) es (opens-firm n f durable g) t.0) t.1)

-- a checkpoint covers a beginning of what was received
kept-whole : (c : Cluster) → Grows c.world.handlers → (p d : ℕ) → c.world.saved p ≤ length (c.world.history p) → Begins (kept_sends c p d) (payloads c.world p (c.world.history p) d)
kept-whole c g p d within =
    let P : List Message → Type 0 = λ h. Begins (kept_sends c p d) (payloads c.world p h d) in
    subst P (take-all (c.world.history p)) (payloads-prefix c.world g p (c.world.history p) d (c.world.saved p) (length (c.world.history p)) within)

pub all-durable-keep : AllDurableKeep
all-durable-keep n f es g r =
    let c : Cluster = after_events (durable_opening n f (λ _. true)) es in
    let h : Firm (lasts (λ _. true)) c = run-firm n f (λ _. true) es g r in
    let all : (p : ℕ) → lasts (λ _. true) p ≡ true = λ p. every (p == 0) in
    let whole : (p d : ℕ) → Begins (kept_sends c p d) (payloads c.world p (c.world.history p) d) = λ p d. kept-whole c h.grows p d (h.within p) in (
      record {
        received = λ p i m e. nth-prefix _ _ m.ssn m.payload (whole m.sender p) ((h.received m.sender p (all m.sender)).each i m e refl);
        shown = λ i m e. nth-prefix _ _ m.ssn m.payload (whole m.sender 0) ((h.shown m.sender (all m.sender)).each i m e refl);
      },
      λ p. begins-trans _ _ _ (h.shown p (all p)).order (whole p 0),
    )
  where
    every : (b : Bool) → (b || true) ≡ true
    every true = refl
    every false = refl
