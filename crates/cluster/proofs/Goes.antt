-- A process goes on by events of its own
use Rattle.std.proofs.Common.{zero, ◌≡◌, refl, sym, subst, List, [], ◌∷◌, ◌++◌, Bool, true, false, ℕ}
use Rattle.std.specs.Prelude.{Some, None}
use Rattle.cluster.specs.Parcels.{Body, Delivery, Restored}
use Rattle.cluster.specs.Cluster.{Cluster}
use Rattle.cluster.specs.Rules.{Act, Arrives, Keeps, Opens, MayTake, May, Run, after_run}
use Rattle.cluster.specs.Overlap.{Event, Acts, Loses, IsKept, goes, after_events}
use Rattle.cluster.specs.Exact.{IsTold, MayStep, Steps, acts_of, bare, StepsAreEvents}
use Rattle.cluster.specs.Goes.{Each, actor, doer, own_act, own_event, IsAct, GoesTo}
use Rattle.cluster.proofs.Settings.{does-knowing}

-- to do nothing
pub goes-self : (b : Bool) (p : ℕ) (P : Cluster → Type 0) (c : Cluster) → P c → GoesTo b p P c
goes-self b p P c h = record { events = []; run = tt; by = tt; acts = λ e. tt; stands = h }

-- one event
pub goes-one : (b : Bool) (p : ℕ) (P : Cluster → Type 0) (c : Cluster) (e : Event) → MayStep c e → own_event e ≡ Some p → (b ≡ true → IsAct e) → P (goes c e) → GoesTo b p P c
goes-one b p P c e may by act h = record { events = e ∷ []; run = (may, tt); by = (by, tt); acts = λ t. (act t, tt); stands = h }

-- one act
pub goes-act : (b : Bool) (p : ℕ) (P : Cluster → Type 0) (c : Cluster) (a : Act) → May c a → IsKept c a → IsTold c (Acts true a) → own_act a ≡ Some p → P (goes c (Acts true a)) → GoesTo b p P c
goes-act b p P c a may kept told by h = goes-one b p P c (Acts true a) ((may, kept), told) by (λ t. tt) h

-- events after events
pub steps-on : (c : Cluster) (es more : List Event) → Steps c es → Steps (after_events c es) more → Steps c (es ++ more) × (after_events c (es ++ more) ≡ after_events (after_events c es) more)
steps-on c [] more r q = (q, refl)
steps-on c (e ∷ es) more r q = let t = steps-on (goes c e) es more r.1 q in ((r.0, t.0), t.1)

all-append : {X : Type 0} (P : X → Type 0) (xs ys : List X) → Each P xs → Each P ys → Each P (xs ++ ys)
all-append P [] ys h g = g
all-append P (x ∷ xs) ys h g = (h.0, all-append P xs ys h.1 g)

pub goes-then : (b : Bool) (p : ℕ) (P Q : Cluster → Type 0) (c : Cluster) → GoesTo b p P c → ((d : Cluster) → P d → GoesTo b p Q d) → GoesTo b p Q c
goes-then b p P Q c g more =
    let m = more (after_events c g.events) g.stands in
    let both = steps-on c g.events m.events g.run m.run in
    record {
      events = g.events ++ m.events;
      run = both.0;
      by = all-append (λ (e : Event). own_event e ≡ Some p) g.events m.events g.by m.by;
      acts = λ t. all-append IsAct g.events m.events (g.acts t) (m.acts t);
      stands = subst Q (sym both.1) m.stands;
    }

-- where no more acts are owed
pub goes-any : (a b : Bool) (p : ℕ) (P : Cluster → Type 0) (c : Cluster) → (b ≡ true → a ≡ true) → GoesTo a p P c → GoesTo b p P c
goes-any a b p P c less g = record { events = g.events; run = g.run; by = g.by; acts = λ t. g.acts (less t); stands = g.stands }

-- an act of its own that leaves what is stored durably is an act of its own
pub own-actor : (p : ℕ) (a : Act) → own_act a ≡ Some p → actor a ≡ p
own-actor p (Keeps q) e = absurd (cc (e))
own-actor p (Opens q n) e = absurd (cc (e))
own-actor p act e = cc (e)

pub own-doer : (p : ℕ) (e : Event) → own_event e ≡ Some p → doer e ≡ p
own-doer p (Acts exact a) own = own-actor p a own
own-doer p event own = cc (own)

pub own-events : (p : ℕ) (es : List Event) → Each (λ (e : Event). own_event e ≡ Some p) es → Each (λ (e : Event). doer e ≡ p) es
own-events p [] by = tt
own-events p (e ∷ es) by = (own-doer p e by.0, own-events p es by.1)

-- an act that may happen may happen whatever nodes know of failures
bare-takes : (c : Cluster) (p d : ℕ) (x : Body) → MayTake c p d x → MayTake (bare c) p d x
bare-takes c p d (Restored i j n s (Some u) f) may = may
bare-takes c zero d (Restored i j n s None f) may = may
bare-takes c p zero (Delivery i ssn x) may = may
bare-takes c p d x may = may

bare-may : (c : Cluster) (a : Act) → May c a → May (bare c) a
bare-may c (Arrives p d x) may = (may.0, bare-takes c p d x may.1)
bare-may c act may = may

-- events that are acts are a run of acts
pub acts-run : (c : Cluster) (es : List Event) → Each IsAct es → Steps c es → Run (bare c) (acts_of es) × (after_run (bare c) (acts_of es) ≡ bare (after_events c es))
acts-run c [] are r = (tt, refl)
acts-run c (Acts exact a ∷ es) are r =
    let P : Cluster → Type 0 = λ d. Run d (acts_of es) × (after_run d (acts_of es) ≡ bare (after_events (goes c (Acts exact a)) es)) in
    let t = subst P (sym (does-knowing c (λ _. false) (λ _. true) (λ _ _. false) [] a)) (acts-run (goes c (Acts exact a)) es are.1 r.1) in
    ((bare-may c a r.0.0.0, t.0), t.1)
acts-run c (Loses q p i j k ∷ es) are r = acts-run (goes c (Loses q p i j k)) es are.1 r.1
acts-run c (event ∷ es) are r = absurd are.0

-- a run of the whole rules is one of events
pub steps-are-events : StepsAreEvents
steps-are-events c [] r = tt
steps-are-events c (e ∷ es) r = (r.0.0, steps-are-events (goes c e) es r.1)
