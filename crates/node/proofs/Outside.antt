-- The gateway beside nodes: what it sees of a cluster
use Rattle.std.proofs.Common.{◌≡◌, ℕ, zero, suc, ◌<◌, ◌+◌, List, [], ◌∷◌, length, Bool, true, false, refl, ◌∙◌, arith}
use Rattle.std.specs.Prelude.{None, Some, ◌==◌, nat_lt, if◌then◌else◌}
use Rattle.std.proofs.lemmas.Bool.Decides.{nat_tests}
use Rattle.world.specs.World.{put}
use Rattle.world.specs.Calls.{peers}
use Rattle.world.specs.Phases.{Replaying}
use Rattle.cluster.specs.Parcels.{Restored, Parcel, Flagged, Said, In}
use Rattle.cluster.specs.Cluster.{Cluster}
use Rattle.cluster.specs.Rules.{Act, Input, Arrives, Replays, Recovers, does, goes_on, taken_back}
use Rattle.cluster.specs.Overlap.{Event, Acts, Lacks, Doubts, loss, cut, goes, after_events}
use Rattle.node.specs.Stands.{Each, actor, doer}
use Rattle.node.proofs.Beside.{Same, same-event}

-- the gateway of c has what that of g has, and all that was put out and said in g was so in c
pub record SameOutside (g c : Cluster) : Type 0 where
  pub count : g.world.count ≡ c.world.count
  pub handlers : g.world.handlers ≡ c.world.handlers
  pub stage : g.stage 0 ≡ c.stage 0
  pub greeted : g.greeted 0 ≡ c.greeted 0
  pub phase : g.world.phase 0 ≡ c.world.phase 0
  pub life : g.world.incarnation 0 ≡ c.world.incarnation 0
  pub history : g.world.history 0 ≡ c.world.history 0
  pub trims : (k : ℕ) → g.world.trims 0 k ≡ c.world.trims 0 k
  pub numbers : (k : ℕ) → g.world.numbers 0 k ≡ c.world.numbers 0 k
  pub heard : (k : ℕ) → g.heard 0 k ≡ c.heard 0 k
  pub resumed : (k : ℕ) → g.resumed 0 k ≡ c.resumed 0 k
  pub inputs : (k : ℕ) → g.world.inputs k ≡ c.world.inputs k
  pub shown : g.world.shown ≡ c.world.shown
  pub parcels : (x : Parcel) → In x g.parcels → In x c.parcels
  pub exact : g.exact 0 ≡ c.exact 0
  pub said : (x : Flagged) → Said x g.said → Said x c.said

pub outside-self : (c : Cluster) → SameOutside c c
outside-self c = record { count = refl; handlers = refl; stage = refl; greeted = refl; phase = refl; life = refl; history = refl; trims = λ k. refl; numbers = λ k. refl; heard = λ k. refl; resumed = λ k. refl; inputs = λ k. refl; shown = refl; parcels = λ x i. i; exact = refl; said = λ x i. i }

-- what events of nodes leave of the gateway, besides what they leave of each other
record Left (c d : Cluster) : Type 0 where
  inputs : (k : ℕ) → c.world.inputs k ≡ d.world.inputs k
  shown : c.world.shown ≡ d.world.shown

left : (c : Cluster) (a : Act) → (0 == actor a) ≡ false → Left c (does c a)
left c (Input d x) e = absurd (cc)
left c (Arrives q zero x) e = absurd (cc)
left c (Arrives r (suc q) (Restored i j n s (Some u) f)) e = record { inputs = λ k. refl; shown = refl }
left c (Arrives zero (suc q) (Restored i j n s None f)) e = record { inputs = λ k. refl; shown = refl }
left c (Replays q j) e = by_end (nat_lt (c.world.saved q + suc j) (length (c.world.history q)))
  where
    by_end : (b : Bool) → Left c (if b then record c { world = record c.world { phase = put c.world.phase q (Replaying (suc j) false false) } } else goes_on c q (peers c.world q false))
    by_end true = record { inputs = λ k. refl; shown = refl }
    by_end false = record { inputs = λ k. refl; shown = refl }
left c (Recovers q k) e = by_end (nat_lt (c.world.saved q) k)
  where
    by_end : (b : Bool) → Left c (if b then record (taken_back c q k) { world = record (taken_back c q k).world { phase = put c.world.phase q (Replaying 0 false false) } } else goes_on (taken_back c q k) q (peers c.world q false))
    by_end true = record { inputs = λ k. refl; shown = refl }
    by_end false = record { inputs = λ k. refl; shown = refl }
left c act e = record { inputs = λ k. refl; shown = refl }

left-event : (c : Cluster) (e : Event) → (0 == doer e) ≡ false → Left c (goes c e)
left-event c (Acts exact a) o = let l = left c a o in record { inputs = l.inputs; shown = l.shown }
left-event c (Lacks q p i j k) o = let l = left c (Arrives q p (loss i j k)) o in record { inputs = l.inputs; shown = l.shown }
left-event c (Doubts q p x) o = let l = left c (Arrives q p (cut c p q x)) o in record { inputs = l.inputs; shown = l.shown }
left-event c e o = record { inputs = λ k. refl; shown = refl }

-- an event of a node
outside-event : (g c : Cluster) (e : Event) → (0 == doer e) ≡ false → SameOutside g c → SameOutside g (goes c e)
outside-event g c e other h =
    let s : Same c (goes c e) 0 = same-event c e 0 other in
    let l : Left c (goes c e) = left-event c e other in
    record {
      count = h.count ∙ s.count;
      handlers = h.handlers ∙ s.handlers;
      stage = h.stage ∙ s.stage;
      greeted = h.greeted ∙ s.greeted;
      phase = h.phase ∙ s.phase;
      life = h.life ∙ s.life;
      history = h.history ∙ s.history;
      trims = λ k. h.trims k ∙ s.trims k;
      numbers = λ k. h.numbers k ∙ s.numbers k;
      heard = λ k. h.heard k ∙ s.heard k;
      resumed = λ k. h.resumed k ∙ s.resumed k;
      inputs = λ k. h.inputs k ∙ l.inputs k;
      shown = h.shown ∙ l.shown;
      parcels = λ x i. s.parcels x (h.parcels x i);
      exact = h.exact ∙ s.exact;
      said = λ x i. s.said x (h.said x i);
    }

-- a node's events leave the gateway as it is
pub outside-still : (g c : Cluster) (p : ℕ) (es : List Event) → 0 < p → Each (λ (e : Event). doer e ≡ p) es → SameOutside g c → SameOutside g (after_events c es)
outside-still g c p [] some by h = h
outside-still g c p (e ∷ es) some by h =
    let other : (0 == doer e) ≡ false = (let f : doer e ≡ p = by.0 in grind (arith, nat_tests)) in
    outside-still g (goes c e) p es some by.1 (outside-event g c e other h)
