-- Acts of others leave what a node stands for
use Rattle.std.proofs.Common.{zero, ◌≡◌, inr, ℕ, suc, ◌≤◌, ◌+◌, List, [], ◌∷◌, length, Bool, true, false, refl, sym, ap, ◌∙◌, subst, arith}
use Rattle.std.specs.Prelude.{None, Some, ◌==◌, nat_lt, if◌then◌else◌}
use Rattle.std.proofs.lemmas.Bool.Decides.{nat_tests}
use Rattle.world.specs.World.{put}
use Rattle.world.specs.Phases.{Replaying}
use Rattle.world.specs.Calls.{peers}
use Rattle.cluster.specs.Parcels.{Delivery, Number, Acknowledgement, Ask, Told, Resume, Restored, Saved, Parcel, Flagged, Said, In}
use Rattle.cluster.specs.Cluster.{Cluster}
use Rattle.cluster.specs.Rules.{Act, Input, Puts, Arrives, Works, Replays, Recovers, Keeps, Opens, does, after_run, goes_on, taken_back}
use Rattle.cluster.specs.Overlap.{Event, Acts, Meets, Loses, Lacks, Leaves, Doubts, loss, cut, moves, goes, exact_after, lost_after}
use Rattle.node.specs.Node.{TheNode}
use Rattle.node.specs.Stands.{Stands, actor, doer}
use Rattle.cluster.proofs.Settings.{does-count}
use Rattle.node.specs.Beside.{OthersStand}
use Rattle.packets.proofs.Outgoing.{said-more}
use Rattle.node.proofs.Sent.{all-still}

-- of p the cluster d has what c has, and all that was put out in c
pub record Same (c d : Cluster) (p : ℕ) : Type 0 where
  pub count : c.world.count ≡ d.world.count
  pub handlers : c.world.handlers ≡ d.world.handlers
  pub stage : c.stage p ≡ d.stage p
  pub greeted : c.greeted p ≡ d.greeted p
  pub phase : c.world.phase p ≡ d.world.phase p
  pub life : c.world.incarnation p ≡ d.world.incarnation p
  pub history : c.world.history p ≡ d.world.history p
  pub saved : c.world.saved p ≡ d.world.saved p
  pub acknowledged : c.world.acknowledged p ≡ d.world.acknowledged p
  pub released : c.world.released p ≡ d.world.released p
  pub trims : (k : ℕ) → c.world.trims p k ≡ d.world.trims p k
  pub numbers : (k : ℕ) → c.world.numbers p k ≡ d.world.numbers p k
  pub heard : (k : ℕ) → c.heard p k ≡ d.heard p k
  pub resumed : (k : ℕ) → c.resumed p k ≡ d.resumed p k
  pub told : (k : ℕ) → c.told p k ≡ d.told p k
  pub restoring : (k : ℕ) → c.restoring p k ≡ d.restoring p k
  pub stored : c.stored p ≡ d.stored p
  pub saved_trims : (k : ℕ) → c.world.saved_trims p k ≡ d.world.saved_trims p k
  pub parcels : (x : Parcel) → In x c.parcels → In x d.parcels
  pub durable : c.durable ≡ d.durable
  pub exact : c.exact p ≡ d.exact p
  pub lost : (k : ℕ) → c.lost p k ≡ d.lost p k
  pub said : (x : Flagged) → Said x c.said → Said x d.said

-- an act of another node changes none of it
pub same : (c : Cluster) (a : Act) (p : ℕ) → (p == actor a) ≡ false → Same c (does c a) p
same c (Input d x) p e = record { count = refl; handlers = refl; stage = refl; greeted = refl; phase = refl; life = refl; history = refl; saved = refl; acknowledged = refl; released = refl; trims = λ k. refl; numbers = λ k. refl; heard = λ k. refl; resumed = λ k. refl; told = λ k. refl; restoring = λ k. refl; stored = refl; saved_trims = λ k. refl; parcels = λ x i. i; durable = refl; exact = refl; lost = λ k. refl; said = λ x i. i }
same c (Puts q d x) p e = record { count = refl; handlers = refl; stage = refl; greeted = refl; phase = refl; life = refl; history = refl; saved = refl; acknowledged = refl; released = refl; trims = λ k. refl; numbers = λ k. refl; heard = λ k. refl; resumed = λ k. refl; told = λ k. refl; restoring = λ k. refl; stored = refl; saved_trims = λ k. refl; parcels = λ x i. inr i; durable = refl; exact = refl; lost = λ k. refl; said = λ x i. i }
same c (Arrives q (suc d) (Delivery i ssn x)) p e = record { count = refl; handlers = refl; stage = refl; greeted = refl; phase = rw e refl; life = refl; history = refl; saved = refl; acknowledged = refl; released = refl; trims = λ k. refl; numbers = λ k. refl; heard = λ k. refl; resumed = λ k. refl; told = λ k. refl; restoring = λ k. refl; stored = refl; saved_trims = λ k. refl; parcels = λ x i. i; durable = refl; exact = refl; lost = λ k. refl; said = λ x i. i }
same c (Arrives q zero (Delivery i ssn x)) p e = record { count = refl; handlers = refl; stage = refl; greeted = refl; phase = refl; life = refl; history = refl; saved = refl; acknowledged = refl; released = refl; trims = λ k. refl; numbers = λ k. refl; heard = λ k. refl; resumed = λ k. refl; told = λ k. refl; restoring = λ k. refl; stored = refl; saved_trims = λ k. refl; parcels = λ x i. i; durable = refl; exact = refl; lost = λ k. refl; said = λ x i. i }
same c (Works q m) p e = record { count = refl; handlers = refl; stage = refl; greeted = refl; phase = rw e refl; life = refl; history = rw e refl; saved = refl; acknowledged = refl; released = refl; trims = λ k. refl; numbers = λ k. refl; heard = λ k. refl; resumed = λ k. refl; told = λ k. refl; restoring = λ k. refl; stored = refl; saved_trims = λ k. refl; parcels = λ x i. i; durable = refl; exact = refl; lost = λ k. refl; said = λ x i. i }
same c (Replays q j) p e = by_end (nat_lt (c.world.saved q + suc j) (length (c.world.history q)))
  where
    by_end : (b : Bool) → Same c (if b then record c { world = record c.world { phase = put c.world.phase q (Replaying (suc j) false false) } } else goes_on c q (peers c.world q false)) p
    by_end true = record { count = refl; handlers = refl; stage = refl; greeted = refl; phase = rw e refl; life = refl; history = refl; saved = refl; acknowledged = refl; released = refl; trims = λ k. refl; numbers = λ k. refl; heard = λ k. refl; resumed = λ k. refl; told = λ k. refl; restoring = λ k. refl; stored = refl; saved_trims = λ k. refl; parcels = λ x i. i; durable = refl; exact = refl; lost = λ k. refl; said = λ x i. i }
    by_end false = record { count = refl; handlers = refl; stage = refl; greeted = refl; phase = rw e refl; life = refl; history = refl; saved = refl; acknowledged = refl; released = rw e refl; trims = λ k. refl; numbers = λ k. refl; heard = λ k. refl; resumed = λ k. refl; told = λ k. refl; restoring = λ k. refl; stored = refl; saved_trims = λ k. refl; parcels = λ x i. i; durable = refl; exact = refl; lost = λ k. refl; said = λ x i. i }
same c (Arrives r s (Number i ssn k)) p e = record { count = refl; handlers = refl; stage = refl; greeted = refl; phase = refl; life = refl; history = refl; saved = refl; acknowledged = refl; released = refl; trims = λ k. refl; numbers = λ k. rw e refl; heard = λ k. refl; resumed = λ k. refl; told = λ k. refl; restoring = λ k. refl; stored = refl; saved_trims = λ k. refl; parcels = λ x i. inr i; durable = refl; exact = refl; lost = λ k. refl; said = λ x i. i }
same c (Arrives s r (Acknowledgement i k)) p e = record { count = refl; handlers = refl; stage = refl; greeted = refl; phase = refl; life = refl; history = refl; saved = refl; acknowledged = rw e refl; released = rw e refl; trims = λ k. refl; numbers = λ k. refl; heard = λ k. refl; resumed = λ k. refl; told = λ k. refl; restoring = λ k. refl; stored = refl; saved_trims = λ k. refl; parcels = λ x i. i; durable = refl; exact = refl; lost = λ k. refl; said = λ x i. i }
same c (Arrives d s (Saved n)) p e = record { count = refl; handlers = refl; stage = refl; greeted = refl; phase = refl; life = refl; history = refl; saved = refl; acknowledged = refl; released = refl; trims = λ k. rw e refl; numbers = λ k. refl; heard = λ k. refl; resumed = λ k. refl; told = λ k. refl; restoring = λ k. refl; stored = refl; saved_trims = λ k. refl; parcels = λ x i. i; durable = refl; exact = refl; lost = λ k. refl; said = λ x i. i }
same c (Arrives r q (Ask i k)) p e = record { count = refl; handlers = refl; stage = refl; greeted = refl; phase = refl; life = refl; history = refl; saved = refl; acknowledged = refl; released = refl; trims = λ k. refl; numbers = λ k. refl; heard = λ k. rw e refl; resumed = λ k. rw e refl; told = λ k. rw e refl; restoring = λ k. refl; stored = refl; saved_trims = λ k. refl; parcels = λ x i. i; durable = refl; exact = refl; lost = λ k. refl; said = λ x i. i }
same c (Arrives r q (Told i j k u f)) p e = record { count = refl; handlers = refl; stage = refl; greeted = refl; phase = refl; life = refl; history = refl; saved = refl; acknowledged = refl; released = refl; trims = λ k. refl; numbers = λ k. refl; heard = λ k. rw e refl; resumed = λ k. refl; told = λ k. rw e refl; restoring = λ k. refl; stored = refl; saved_trims = λ k. refl; parcels = λ x i. i; durable = refl; exact = refl; lost = λ k. refl; said = λ x i. i }
same c (Recovers q k) p e = by_end (nat_lt (c.world.saved q) k)
  where
    by_end : (b : Bool) → Same c (if b then record (taken_back c q k) { world = record (taken_back c q k).world { phase = put c.world.phase q (Replaying 0 false false) } } else goes_on (taken_back c q k) q (peers c.world q false)) p
    by_end true = record { count = refl; handlers = refl; stage = rw e refl; greeted = rw e refl; phase = rw e refl; life = rw e refl; history = rw e refl; saved = refl; acknowledged = rw e refl; released = rw e refl; trims = λ k. rw e refl; numbers = λ k. rw e refl; heard = λ k. refl; resumed = λ k. rw e refl; told = λ k. rw e refl; restoring = λ k. rw e refl; stored = refl; saved_trims = λ k. refl; parcels = λ x i. i; durable = refl; exact = refl; lost = λ k. refl; said = λ x i. i }
    by_end false = record { count = refl; handlers = refl; stage = rw e refl; greeted = rw e refl; phase = rw e refl; life = rw e refl; history = rw e refl; saved = refl; acknowledged = rw e refl; released = rw e refl; trims = λ k. rw e refl; numbers = λ k. rw e refl; heard = λ k. refl; resumed = λ k. rw e refl; told = λ k. rw e refl; restoring = λ k. rw e refl; stored = refl; saved_trims = λ k. refl; parcels = λ x i. i; durable = refl; exact = refl; lost = λ k. refl; said = λ x i. i }
same c (Arrives r q (Resume i k s)) p e = record { count = refl; handlers = refl; stage = refl; greeted = refl; phase = refl; life = refl; history = refl; saved = refl; acknowledged = refl; released = refl; trims = λ k. refl; numbers = λ k. rw e refl; heard = λ k. refl; resumed = λ k. rw e refl; told = λ k. refl; restoring = λ k. refl; stored = refl; saved_trims = λ k. refl; parcels = λ x i. i; durable = refl; exact = refl; lost = λ k. refl; said = λ x i. i }
same c (Arrives r q (Restored i j n s (Some u) f)) p e = record { count = refl; handlers = refl; stage = refl; greeted = refl; phase = refl; life = refl; history = refl; saved = refl; acknowledged = refl; released = refl; trims = λ k. rw e refl; numbers = λ k. rw e refl; heard = λ k. rw e refl; resumed = λ k. refl; told = λ k. refl; restoring = λ k. rw e refl; stored = refl; saved_trims = λ k. refl; parcels = λ x i. i; durable = refl; exact = refl; lost = λ k. refl; said = λ x i. i }
same c (Arrives (suc r) q (Restored i j n s None f)) p e = record { count = refl; handlers = refl; stage = refl; greeted = refl; phase = rw e refl; life = refl; history = refl; saved = refl; acknowledged = refl; released = rw e refl; trims = λ k. rw e refl; numbers = λ k. rw e refl; heard = λ k. rw e refl; resumed = λ k. refl; told = λ k. refl; restoring = λ k. refl; stored = refl; saved_trims = λ k. refl; parcels = λ x i. i; durable = refl; exact = refl; lost = λ k. refl; said = λ x i. i }
same c (Arrives zero q (Restored i j n s None f)) p e = record { count = refl; handlers = refl; stage = refl; greeted = rw e refl; phase = refl; life = refl; history = refl; saved = refl; acknowledged = refl; released = refl; trims = λ k. rw e refl; numbers = λ k. refl; heard = λ k. refl; resumed = λ k. refl; told = λ k. refl; restoring = λ k. refl; stored = refl; saved_trims = λ k. refl; parcels = λ x i. i; durable = refl; exact = refl; lost = λ k. refl; said = λ x i. i }
same c (Keeps q) p e = record { count = refl; handlers = refl; stage = refl; greeted = refl; phase = refl; life = refl; history = refl; saved = rw e refl; acknowledged = rw e refl; released = rw e refl; trims = λ k. refl; numbers = λ k. refl; heard = λ k. refl; resumed = λ k. refl; told = λ k. refl; restoring = λ k. refl; stored = refl; saved_trims = λ k. rw e refl; parcels = λ x i. i; durable = refl; exact = refl; lost = λ k. refl; said = λ x i. i }
same c (Opens q n) p e = record { count = refl; handlers = refl; stage = rw e refl; greeted = refl; phase = refl; life = refl; history = refl; saved = refl; acknowledged = refl; released = refl; trims = λ k. refl; numbers = λ k. refl; heard = λ k. rw e refl; resumed = λ k. rw e refl; told = λ k. rw e refl; restoring = λ k. refl; stored = rw e refl; saved_trims = λ k. refl; parcels = λ x i. i; durable = refl; exact = refl; lost = λ k. refl; said = λ x i. i }
same c other p e = record { count = refl; handlers = refl; stage = rw e refl; greeted = refl; phase = refl; life = refl; history = refl; saved = refl; acknowledged = refl; released = refl; trims = λ k. refl; numbers = λ k. refl; heard = λ k. refl; resumed = λ k. refl; told = λ k. refl; restoring = λ k. refl; stored = refl; saved_trims = λ k. refl; parcels = λ x i. i; durable = refl; exact = refl; lost = λ k. refl; said = λ x i. i }

-- nor does an event of another, but for what is known of failures
same-moves : (c : Cluster) (e : Event) (p : ℕ) → (p == doer e) ≡ false → Same c (moves c e) p
same-moves c (Acts exact a) p e = same c a p e
same-moves c (Meets q r i k) p e = record { count = refl; handlers = refl; stage = refl; greeted = refl; phase = rw e refl; life = refl; history = refl; saved = refl; acknowledged = refl; released = refl; trims = λ k. refl; numbers = λ k. rw e refl; heard = λ k. rw e refl; resumed = λ k. rw e refl; told = λ k. refl; restoring = λ k. rw e refl; stored = refl; saved_trims = λ k. refl; parcels = λ x i. i; durable = refl; exact = refl; lost = λ k. refl; said = λ x i. i }
same-moves c (Loses q r i j k) p e = record { count = refl; handlers = refl; stage = refl; greeted = refl; phase = refl; life = refl; history = refl; saved = refl; acknowledged = refl; released = refl; trims = λ k. refl; numbers = λ k. refl; heard = λ k. refl; resumed = λ k. refl; told = λ k. refl; restoring = λ k. refl; stored = refl; saved_trims = λ k. refl; parcels = λ x i. i; durable = refl; exact = refl; lost = λ k. refl; said = λ x i. i }
same-moves c (Lacks q r i j k) p e = same c (Arrives q r (loss i j k)) p e
same-moves c (Leaves q r) p e = record { count = refl; handlers = refl; stage = refl; greeted = refl; phase = rw e refl; life = refl; history = refl; saved = refl; acknowledged = refl; released = rw e refl; trims = λ k. refl; numbers = λ k. refl; heard = λ k. refl; resumed = λ k. refl; told = λ k. refl; restoring = λ k. refl; stored = refl; saved_trims = λ k. refl; parcels = λ x i. i; durable = refl; exact = refl; lost = λ k. refl; said = λ x i. i }
same-moves c (Doubts q r x) p e = same c (Arrives q r (cut c r q x)) p e

exact-same : (f : ℕ → Bool) (e : Event) (p : ℕ) → (p == doer e) ≡ false → f p ≡ exact_after f e p
exact-same f (Acts exact (Arrives q d (Told i j k u g))) p o = rw o refl
exact-same f (Acts exact (Arrives q d (Restored i j n r u g))) p o = rw o refl
exact-same f (Acts exact (Opens q n)) p o = rw o refl
exact-same f (Meets q r i k) p o = rw o refl
exact-same f (Lacks q r i j k) p o = rw o refl
exact-same f (Doubts q r x) p o = rw o refl
exact-same f e p o = refl

lost-same : (f : ℕ → ℕ → Bool) (e : Event) (p k : ℕ) → (p == doer e) ≡ false → f p k ≡ lost_after f e p k
lost-same f (Acts exact (Arrives q d (Told i j n u g))) p k o = rw o refl
lost-same f (Acts exact (Arrives q d (Ask i n))) p k o = rw o refl
lost-same f (Acts exact (Opens q n)) p k o = rw o refl
lost-same f (Lacks q r i j n) p k o = rw o refl
lost-same f e p k o = refl

-- nor that
pub same-event : (c : Cluster) (e : Event) (p : ℕ) → (p == doer e) ≡ false → Same c (goes c e) p
same-event c e p o =
    let s = same-moves c e p o in
    record { count = s.count; handlers = s.handlers; stage = s.stage; greeted = s.greeted; phase = s.phase; life = s.life; history = s.history; saved = s.saved; acknowledged = s.acknowledged; released = s.released; trims = s.trims; numbers = s.numbers; heard = s.heard; resumed = s.resumed; told = s.told; restoring = s.restoring; stored = s.stored; saved_trims = s.saved_trims; parcels = s.parcels; durable = s.durable; exact = exact-same c.exact e p o; lost = λ k. lost-same c.lost e p k o; said = said-more c e }

-- so the node stands
stands-same : (n : TheNode) (c d : Cluster) (p : ℕ) → Same c d p → Stands n c p → Stands n d p
stands-same n c d p e s =
    record {
      me = s.me;
      count = s.count ∙ e.count;
      inside = (s.inside.0, subst (λ k. p ≤ k) e.count s.inside.1);
      stage = sym e.stage ∙ s.stage;
      greeted = sym e.greeted ∙ s.greeted;
      phase = sym e.phase ∙ s.phase;
      works = rw (sym e.history) s.works;
      life = sym e.life ∙ s.life;
      state = rw (sym e.handlers, sym e.history) s.state;
      saved = sym e.saved ∙ s.saved;
      durable = λ t. s.durable (ap (λ (f : ℕ → Bool). f p) e.durable ∙ t);
      exact = sym e.exact ∙ s.exact;
      received = rw (sym e.history, sym e.acknowledged) s.received;
      waits = rw (sym e.history, sym e.acknowledged) s.waits;
      logs = λ k l o. rw (sym e.handlers, sym e.history, sym (e.trims k), sym (e.numbers k)) (s.logs k (subst (λ m. k ≤ m) (sym e.count) l) o);
      gates = λ k l o. rw (sym e.handlers, sym e.history, sym e.released, sym e.saved) (s.gates k (subst (λ m. k ≤ m) (sym e.count) l) o);
      free = λ k. rw (sym e.handlers, sym e.history, sym e.released, sym e.acknowledged, sym e.saved) (s.free k);
      heard = λ q l. rw (sym (e.heard q)) (s.heard q (subst (λ m. q ≤ m) (sym e.count) l));
      resumed = λ q l. rw (sym (e.resumed q)) (s.resumed q (subst (λ m. q ≤ m) (sym e.count) l));
      out = all-still c d p n.out e.count e.parcels e.said s.out;
    }

-- and after the events of another
pub stands-after : OthersStand
stands-after n p q [] c other by s = s
stands-after n p q (e ∷ es) c other by s =
    let apart : (p == doer e) ≡ false = (let f : doer e ≡ q = by.0 in grind (arith, nat_tests)) in
    stands-after n p q es (goes c e) other by.1 (stands-same n c (goes c e) p (same-event c e p apart) s)

pub count-after : (c : Cluster) (acts : List Act) → (after_run c acts).world.count ≡ c.world.count
count-after c [] = refl
count-after c (a ∷ acts) = count-after (does c a) acts ∙ does-count c a
