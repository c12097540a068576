-- What is kept of a process that comes back stays that
use Rattle.std.proofs.Common.{◌≡◌, ◌≢◌, ℕ, List, [], ◌∷◌, Bool, refl, true, ap}
use Rattle.std.specs.Prelude.{Some, None, if◌then◌else◌}
use Rattle.theorems.proofs.Changes.{at-itself}
use Rattle.cluster.specs.Parcels.{Flagged}
use Rattle.cluster.specs.Cluster.{Cluster, Dead}
use Rattle.cluster.specs.Rules.{Act, Keeps, Dies, Opens, does}
use Rattle.cluster.specs.Overlap.{Event, Acts, Loses, exact_after, lost_after, said_after, goes, after_events}
use Rattle.packets.specs.declared.kept.Kept.{Kept}
use Rattle.node.proofs.Preservation.{kept-stays}
use Rattle.node.specs.Stands.{Each, own_act, own_event, IsAct}
use Rattle.recovery.specs.Stands.{IsKeptOf, StandsCollecting, GoesTo, Reopens}
use Rattle.recovery.specs.Beside.{ComesBackAgain}

-- whatever is known of failures
known : (k : Kept) (p : ℕ) (c : Cluster) (exact : ℕ → Bool) (lost : ℕ → ℕ → Bool) (said : List Flagged) → IsKeptOf k c p → IsKeptOf k (record c { exact = exact; lost = lost; said = said }) p
known k p c exact lost said s = record { me = s.me; count = s.count; saved = s.saved; many = s.many; state = s.state; counts = s.counts; logs = s.logs }

act-stays : (k : Kept) (p : ℕ) (b : Bool) (a : Act) (c : Cluster) → a ≢ Keeps p → IsKeptOf k c p → IsKeptOf k (goes c (Acts b a)) p
act-stays k p b a c other s = known k p (does c a) (exact_after c.exact (Acts b a)) (lost_after c.lost (Acts b a)) (said_after c (Acts b a)) (kept-stays k p (a ∷ []) c (other, tt) s)

-- acts of its own that are no checkpoint
kept-after : (k : Kept) (p : ℕ) (es : List Event) (c : Cluster) → Each IsAct es → Each (λ (e : Event). own_event e ≡ Some p) es → IsKeptOf k c p → IsKeptOf k (after_events c es) p
kept-after k p [] c are own s = s
kept-after k p (Acts exact a ∷ es) c are own s =
    let other : a ≢ Keeps p = λ f. (let none : own_act a ≡ None = ap own_act f in let is : own_act a ≡ Some p = own.0 in absurd (cc)) in
    kept-after k p es (goes c (Acts exact a)) are.1 own.1 (act-stays k p exact a c other s)
kept-after k p (Loses q r i j m ∷ es) c are own s = kept-after k p es (goes c (Loses q r i j m)) are.1 own.1 (known k p c c.exact c.lost (said_after c (Loses q r i j m)) s)
kept-after k p (event ∷ es) c are own s = absurd are.0

-- so the calls of one that comes back leave what is kept of it
pub kept-along : (k : Kept) (p : ℕ) (P : Cluster → Type 0) (c : Cluster) → IsKeptOf k c p → GoesTo true p P c → GoesTo true p (λ d. P d × IsKeptOf k d p) c
kept-along k p P c s g =
    record { events = g.events; run = g.run; by = g.by; acts = g.acts; stands = (g.stands, kept-after k p g.events c (g.acts refl) g.by s) }

-- nor does it change when p is opened
pub kept-reopened : (k : Kept) (p life : ℕ) (P : Cluster → Type 0) (c : Cluster) → IsKeptOf k c p → Reopens p life P c → Reopens p life (λ d. P d × IsKeptOf k d p) c
kept-reopened k p life P c s r =
    record { skipped = r.skipped; opens = r.opens; incarnation = r.incarnation; goes = kept-along k p P (goes c (Acts true (Opens p r.skipped))) (act-stays k p true (Opens p r.skipped) c (λ e. absurd (cc)) s) r.goes }

pub comes-again : ComesBackAgain
comes-again k life n c revives durable inside alive early s =
    let me = k.me in
    let dead : Cluster = does c (Dies me) in
    let kept : IsKeptOf k dead me = kept-stays k me (Dies me ∷ []) c ((λ e. absurd (cc)), tt) s in (
      (inside, alive),
      kept-reopened k me life (λ e. StandsCollecting n e me) dead kept
          (revives dead durable (at-itself me (λ b. (if b then Dead else c.stage me) ≡ Dead) refl) early kept inside),
    )
