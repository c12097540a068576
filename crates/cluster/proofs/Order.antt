-- What each node received, and what was shown, has each sender's messages in the order of their SSN
use Rattle.std.proofs.Common.{◌≡◌, inl, inr, ℕ, zero, suc, ◌+◌, ◌-◌, ◌<◌, List, [], ◌∷◌, ◌++◌, length, take, refl, subst, arith}
use Rattle.std.specs.Prelude.{Option, Some, None, slice_get, nat_lt, if◌then◌else◌}
use Rattle.world.specs.declared.message.Message.{Message}
use Rattle.world.specs.History.{count_of}
use Rattle.world.specs.Phases.{Busy}
use Rattle.world.specs.Plan.{if_next, pushed}
use Rattle.world.specs.World.{put}
use Rattle.theorems.proofs.Changes.{choose}
use Rattle.theorems.proofs.ListLemmas.{get-push, get-take, take-all, take-push, take-take}
use Rattle.cluster.specs.Parcels.{Delivery, Restored}
use Rattle.cluster.specs.Cluster.{Cluster, durable_opening}
use Rattle.cluster.specs.Rules.{Act, Arrives, Works, Replays, Recovers, May, does, message, plan, told_by, kept_by}
use Rattle.cluster.proofs.Growth.{either-way}
use Rattle.cluster.specs.Overlap.{Event, Acts, Doubts, Might, goes, Events, after_events}
use Rattle.cluster.specs.DurablePromises.{InOrder, AlwaysInOrder}
use Rattle.cluster.proofs.Firsts.{if_next-is}
use Rattle.cluster.proofs.DurablePromised.{IsFirm, opens-firm, step-firm}

none-in-order : InOrder []
none-in-order i m e = absurd (let t : None ≡ Some m = e in cc)

-- one message more, which is its sender's next
order-push : (h : List Message) (m : Message) → m.ssn ≡ suc (count_of m.sender h) → InOrder h → InOrder (h ++ m ∷ [])
order-push h m next o i x e = elim (get-push h m i x e) [ inl t ↦ before t.0 t.1 | inr t ↦ last t.0 t.1 ]
  where
    before : i < length h → slice_get h i ≡ Some x → x.ssn ≡ suc (count_of x.sender (take i (h ++ m ∷ [])))
    before l t = rw (take-push h (m ∷ []) i (omega arith)) (o i x t)

    last : i ≡ length h → m ≡ x → x.ssn ≡ suc (count_of x.sender (take i (h ++ m ∷ [])))
    last l t =
        let P : Message → Type 0 = λ y. y.ssn ≡ suc (count_of y.sender h) in
        rw l (rw (take-push h (m ∷ []) (length h) (omega arith)) (rw (take-all h) (subst P t next)))

-- the first of these messages
order-take : (h : List Message) (k : ℕ) → InOrder h → InOrder (take k h)
order-take h k o i x e = let t = get-take h k i x e in let l : i < k = t.0 in rw (take-take h i k (omega arith)) (o i x t.1)

-- what a plan takes is its sender's next
order-plan : (f : ℕ → Option Message) (h : List Message) (k : ℕ) → InOrder h → InOrder (plan f h k)
order-plan f h zero o = o
order-plan f h (suc k) o = more (if_next (plan f h k) (f (suc (length (plan f h k))))) refl (order-plan f h k o)
  where
    more : (m : Option Message) → if_next (plan f h k) (f (suc (length (plan f h k)))) ≡ m → InOrder (plan f h k) → InOrder (pushed (plan f h k) m)
    more None e r = r
    more (Some x) e r = order-push (plan f h k) x (if_next-is _ _ x e).1 r

-- all of a cluster's
abbrev Ordered : Cluster → Type 0
Ordered c = ((p : ℕ) → InOrder (c.world.history p)) × InOrder c.world.shown

-- an act leaves it so, if the open jobs are on messages that are their senders' next
does-order : (c : Cluster) (a : Act) → ((d : ℕ) (m : Message) → c.world.phase d ≡ Busy m → m.ssn ≡ suc (count_of m.sender (c.world.history d))) → May c a → Ordered c → Ordered (does c a)
does-order c (Arrives q p (Restored i j n s (Some u) f)) jobs may o = o
does-order c (Arrives p zero (Delivery i ssn x)) jobs may o = (o.0, order-push c.world.shown (message p ssn x) may.1.1 o.1)
does-order c (Works p m) jobs may o = (choose p (λ j t. InOrder (if t then c.world.history p ++ m ∷ [] else c.world.history j)) (order-push (c.world.history p) m (jobs p m may.2) (o.0 p)) (λ j _. o.0 j), o.1)
does-order c (Replays p j) jobs may o = either-way (nat_lt (c.world.saved p + suc j) (length (c.world.history p))) _ _ Ordered o o
does-order c (Recovers p k) jobs may o =
    let kept : (q : ℕ) → InOrder (put c.world.history p (kept_by c p k) q) = choose p (λ j t. InOrder (if t then kept_by c p k else c.world.history j)) (order-plan (told_by c p) (take (c.world.saved p) (c.world.history p)) (k - c.world.saved p) (order-take (c.world.history p) (c.world.saved p) (o.0 p))) (λ j _. o.0 j) in
    either-way (nat_lt (c.world.saved p) k) _ _ Ordered (kept, o.1) (kept, o.1)
does-order c (Arrives zero p (Restored i j n s None f)) jobs may o = o
does-order c act jobs may o = o

goes-order : (c : Cluster) (e : Event) → IsFirm c → Might c e → Ordered c → Ordered (goes c e)
goes-order c (Acts exact a) h may o = does-order c a (λ d m e. (h.jobs d m e).1) may.0 o
goes-order c (Doubts q p (Restored i j n s (Some u) f)) h may o = o
goes-order c (Doubts zero p (Restored i j n s None f)) h may o = o
goes-order c (Doubts (suc q) p (Restored i j n s None f)) h may o = o
goes-order c (Doubts q p x) h may o = absurd (may.0)
goes-order c other h may o = o

events-order : (c : Cluster) (es : List Event) → IsFirm c → Events c es → Ordered c → Ordered (after_events c es)
events-order c [] h r o = o
events-order c (e ∷ es) h r o = events-order (goes c e) es (step-firm c e h r.0) r.1 (goes-order c e h r.0 o)

pub always-in-order : AlwaysInOrder
always-in-order n f durable es g r = events-order (durable_opening n f durable) es (opens-firm n f durable g) r (λ p. none-in-order, none-in-order)
