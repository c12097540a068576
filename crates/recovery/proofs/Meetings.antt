-- What one that comes back does for another that comes back at the same time
use Rattle.std.proofs.Common.{◌≡◌, ◌≢◌, inl, ℕ, zero, suc, ◌+◌, ◌<◌, ◌≤◌, List, [], ◌∷◌, length, take, Bool, true, false, refl, sym, ap, ◌∙◌, subst, arith}
use Rattle.std.specs.Prelude.{None, not, slice_index_or, slice_set, ◌&&◌, ◌==◌, nat_lt, if◌then◌else◌}
use Rattle.std.proofs.lemmas.Bool.Decides.{nat_tests}
use Rattle.std.proofs.lemmas.List.{get_or-set_same, get_or-set_other}
use Rattle.world.specs.declared.message.Message.{Message}
use Rattle.world.specs.Phases.{Phase, Replaying}
use Rattle.world.specs.Calls.{phase_with, peers}
use Rattle.theorems.proofs.Changes.{at-itself}
use Rattle.theorems.proofs.Tests.{both}
use Rattle.cluster.specs.Parcels.{Body, Ask, Parcel, In, parcel}
use Rattle.cluster.specs.Cluster.{Cluster, Live, is_well}
use Rattle.cluster.specs.Overlap.{Event, Meets, Loses, goes, after_events, restores_anew}
use Rattle.cluster.specs.Exact.{MayStep}
use Rattle.packets.specs.Packet.{in_range}
use Rattle.packets.specs.declared.packet.Body as bodies
use Rattle.packets.specs.declared.packet.Body.TheVariants as packets
use Rattle.packets.specs.declared.packet.NodePacket.{NodePacket}
use Rattle.packets.specs.Says.{WasSaid}
use Rattle.node.specs.Queue.{no_queue, forgotten_above}
use Rattle.node.specs.Node.{log_at}
use Rattle.node.specs.Stands.{Each, KeepsOf, doer, sent_by}
use Rattle.node.proofs.Beside.{same-event}
use Rattle.cluster.proofs.Goes.{goes-self, goes-one, goes-then, goes-any}
use Rattle.recovery.specs.Own.{TheOwn, is_for}
use Rattle.recovery.specs.Overlap.{heard_of, tells_loss, meets, asked_by, heard, handed}
use Rattle.recovery.specs.Replays.{TheReplaying, is_over}
use Rattle.recovery.specs.Replayed.{TheReplayed, IsHanded as ReplayedIsHanded, StandsReplayed}
use Rattle.recovery.specs.Stands.{HasOwn, IsHeldBack, IsSaid, GoesTo}
use Rattle.recovery.specs.StandsAtReplay.{StandsReplaying, IsHanded, phase_of}
use Rattle.recovery.specs.RestorationStands.{IsKnown}
use Rattle.recovery.proofs.Left.{anew-is}
use Rattle.recovery.proofs.Lists.{at-changed, either}
use Rattle.recovery.proofs.Notes.{each-none, keeps-forgotten}
use Rattle.recovery.proofs.Posts.{own-with, own-lost, may-lose, for-own, replaying-own, replayed-own}

-- a place with a flag is inside
pub inside-off : (xs : List Bool) (i : ℕ) → slice_index_or xs i true ≡ false → i < length xs
inside-off [] i e = absurd (cc)
inside-off (x ∷ xs) zero e = omega arith
inside-off (x ∷ xs) (suc i) e = let l : i < length xs = inside-off xs i e in omega (arith, l)

-- a flag that is off stays so, where it isn't set to on
pub off-set : (xs : List Bool) (r q : ℕ) (b : Bool) → (q ≡ r → b ≡ false) → slice_index_or xs q true ≡ false → slice_index_or (slice_set xs r b) q true ≡ false
off-set xs r q b off there = split (q == r) refl
  where
    split : (t : Bool) → (q == r) ≡ t → slice_index_or (slice_set xs r b) q true ≡ false
    split true e =
        let same : q ≡ r = grind (arith, nat_tests) in
        let P : ℕ → Type 0 = λ z. slice_index_or (slice_set xs z b) q true ≡ false in
        subst P same (get_or-set_same xs q b true (inside-off xs q there) ∙ off same)
    split false e =
        let apart : q ≢ r = grind (arith, nat_tests) in
        get_or-set_other xs r q b true apart ∙ there

-- what was asked
pub was-asked : (c : Cluster) (from to i k : ℕ) → IsSaid c from to (packets.Ask i k) → In (parcel from to (Ask i k)) c.parcels
was-asked c from to i k said =
    let was : WasSaid c from to (packets.Ask i k) = said.1 refl in
    let same : was.0 ≡ Ask i k = cc (was.1) in
    let P : Body → Type 0 = λ b. In (parcel from to b) c.parcels in
    subst P same was.2

-- what holds of both branches holds of the one that is taken
pub by-own : (P : TheOwn → Type 0) (b : Bool) (x y : TheOwn) → (b ≡ true → P x) → (b ≡ false → P y) → P (if b then x else y)
by-own P true x y f g = f refl
by-own P false x y f g = g refl

-- what was sent stays so
sent-after : (es : List Event) (c : Cluster) (x : Parcel) → In x c.parcels → In x (after_events c es).parcels
sent-after [] c x i = i
sent-after (e ∷ es) c x i = let other : (suc (doer e) == doer e) ≡ false = grind (arith, nat_tests) in sent-after es (goes c e) x ((same-event c e (suc (doer e)) other).parcels x i)

pub goes-sent : (b : Bool) (p : ℕ) (P : Cluster → Type 0) (c : Cluster) (x : Parcel) → In x c.parcels → GoesTo b p P c → GoesTo b p (λ d. P d × In x d.parcels) c
goes-sent b p P c x i g = record { events = g.events; run = g.run; by = g.by; acts = g.acts; stands = (g.stands, sent-after g.events c x i) }

-- with such an own part it says to a peer that asked that all is lost
abbrev pub Tells : (TheOwn → Cluster → Type 0) → ℕ → ℕ → Type 0
Tells S p count = (q i k : ℕ) (m : TheOwn) (d : Cluster) → S m d → m.count ≡ count → q ≤ count → In (parcel q p (Ask i k)) d.parcels → i ≡ heard_of q m → GoesTo true p (S (tells_loss q i k m)) d

-- the incarnation that it just heard
pub heard-now : (xs : List ℕ) (q i count : ℕ) → length xs ≡ suc count → q ≤ count → i ≡ slice_index_or (slice_set xs q i) q 0
heard-now xs q i count wide low = sym (get_or-set_same xs q i 0 (omega (arith, wide, low)))

-- it answers an Ask
module _ (S : TheOwn → Cluster → Type 0) (p : ℕ) (o : TheOwn) (c : Cluster) (tells : Tells S p o.count) (wide : length o.heard ≡ suc o.count) where
  pub asks : (q i k : ℕ) → q ≤ o.count → In (parcel q p (Ask i k)) c.parcels → (nat_lt (heard_of q o) i ≡ false → S o c) → (nat_lt (heard_of q o) i ≡ true → GoesTo false p (S (meets q i o)) c) → GoesTo (asked_by q i k o).exact p (S (asked_by q i k o)) c
  asks q i k low given still met =
      let met_one : TheOwn = meets q i o in
      by-own (λ m. GoesTo m.exact p (S m) c) (nat_lt i (heard_of q o)) o (tells_loss q i k (if nat_lt (heard_of q o) i then meets q i o else o))
      (λ e. goes-self o.exact p (S o) c (still (let older : nat_lt (heard_of q o) i ≡ false = grind (arith, nat_tests) in older)))
      (λ z. by-own (λ m. GoesTo m.exact p (S (tells_loss q i k m)) c) (nat_lt (heard_of q o) i) (meets q i o) o
      (λ e. goes-then false p (λ d. S met_one d × In (parcel q p (Ask i k)) d.parcels) (S (tells_loss q i k met_one)) c (goes-sent false p (S met_one) c (parcel q p (Ask i k)) given (met e))
      (λ d t. goes-any true false p (S (tells_loss q i k met_one)) d (λ y. refl) (tells q i k met_one d t.0 refl low t.1 (heard-now o.heard q i o.count wide low))))
      (λ e. let same : i ≡ heard_of q o = grind (arith, nat_tests) in goes-any true o.exact p (S (tells_loss q i k o)) c (λ y. refl) (tells q i k o c (still e) refl low given same)))

-- and drops anything else
module _ (S : TheOwn → Cluster → Type 0) (o : TheOwn) (c : Cluster) (tells : Tells S o.me o.count) (wide : length o.heard ≡ suc o.count) (here : S o c)
    (met : (q i k : ℕ) → 0 < q → q ≤ o.count → q ≢ o.me → In (parcel q o.me (Ask i k)) c.parcels → heard_of q o < i → GoesTo false o.me (S (meets q i o)) c) where
  hears : (from : ℕ) (x : bodies.Body) → from ≤ o.count → from ≢ o.me → IsSaid c from o.me x → GoesTo (heard from x o).exact o.me (S (heard from x o)) c
  hears from (packets.Ask i k) low other said =
      let given = was-asked c from o.me i k said in
      asks S o.me o c tells wide from i k low given (λ e. here) (λ e. met from i k said.0 low other given (let l : heard_of from o < i = grind (arith, nat_tests) in l))
  hears from x low other said = goes-self o.exact o.me (S o) c here

  pub hands : (x : NodePacket) → IsSaid c x.from x.to x.body → GoesTo (handed x o).exact o.me (S (handed x o)) c
  hands x said =
      by-own (λ m. GoesTo m.exact o.me (S m) c) (is_for o x && in_range x.body) (heard x.from x.body o) o
      (λ e. let it = for-own o x (both (is_for o x) (in_range x.body) e).0 in
      let P : ℕ → Type 0 = λ z. IsSaid c x.from z x.body in
      hears x.from x.body it.1.0 it.1.1 (subst P it.0 said))
      (λ e. goes-self o.exact o.me (S o) c here)

-- what changes where it hears of a newer incarnation of a peer
module _ (c : Cluster) (p from i k : ℕ) where
  abbrev met : Cluster
  met = goes c (Meets p from i k)

  pub phase-met : (x : Phase) → restores_anew c.world.count (c.world.phase p) from ≡ x → met.world.phase p ≡ x
  phase-met x e = at-itself p (λ t. (if t then restores_anew c.world.count (c.world.phase p) from else c.world.phase p) ≡ x) e

  pub numbers-met : (d ssn : ℕ) → (d ≢ from → c.world.numbers p d ssn ≡ None) → met.world.numbers p d ssn ≡ None
  numbers-met d ssn none = at-itself p (λ t. (if t && (d == from) then (λ _. None) else c.world.numbers p d) ssn ≡ None) (split (d == from) refl)
    where
      split : (b : Bool) → (d == from) ≡ b → (if b then (λ _. None) else c.world.numbers p d) ssn ≡ None
      split true e = refl
      split false e = none (let apart : d ≢ from = grind (arith, nat_tests) in apart)

  pub resumed-met : (q : ℕ) → c.resumed p q ≡ true → met.resumed p q ≡ true
  resumed-met q is = at-itself p (λ t. (if t && (q == from) then true else c.resumed p q) ≡ true) (either (λ (z : Bool). z ≡ true) (q == from) true (c.resumed p q) refl is)

  restoring-met : (q : ℕ) → c.restoring p q ≡ 0 → met.restoring p q ≡ 0
  restoring-met q is = at-itself p (λ t. (if t && (q == from) then 0 else c.restoring p q) ≡ 0) (either (λ (z : ℕ). z ≡ 0) (q == from) 0 (c.restoring p q) refl is)

module _ (o : TheOwn) (c : Cluster) (p from i k : ℕ) (h : List Message) (s : HasOwn o c p h (c.world.trims p) (c.world.numbers p)) (low : from ≤ o.count) (other : from ≢ o.me) (wide : (length o.heard ≡ suc o.count) × (length o.logs ≡ suc o.count)) where
  from-in : from ≤ c.world.count
  from-in = let e = s.count in omega (arith, low, e)

  apart : from ≢ p
  apart e = other (e ∙ sym s.me)

  pub may-meet : In (parcel from p (Ask i k)) c.parcels → c.stage p ≡ Live → is_well c p ≡ false → heard_of from o < i → MayStep c (Meets p from i k)
  may-meet given live unwell newer = ((given, (live, unwell), (let e = s.heard from from-in in omega (arith, e, newer))), tt)

  logs-met : Each IsKnown (log_at o.logs from).numbers → (d : ℕ) → d ≤ c.world.count → d ≢ p → KeepsOf (log_at (meets from i o).logs d) (c.world.trims p d) (c.world.handlers.sends p h d) ((met c p from i k).world.numbers p d)
  logs-met known d l e =
      at-itself p (λ t. KeepsOf (log_at (meets from i o).logs d) (c.world.trims p d) (c.world.handlers.sends p h d) (if t && (d == from) then (λ _. None) else c.world.numbers p d))
      (at-changed (λ z x y. KeepsOf x (c.world.trims p z) (c.world.handlers.sends p h z) y) o.logs no_queue (c.world.numbers p) from (forgotten_above 0 (log_at o.logs from)) (λ _. None) d (omega (arith, low, wide.1))
      (keeps-forgotten (log_at o.logs from) (c.world.trims p from) (c.world.handlers.sends p h from) (c.world.numbers p from) known (s.logs from from-in apart)) (s.logs d l e))

  held-met : (d : ℕ) → d ≤ c.world.count → d ≢ p → IsHeldBack (log_at (meets from i o).logs d) (length h) o.base (sent_by c.world.handlers p h d)
  held-met d l e =
      at-changed (λ z x (y : Unit {0}). IsHeldBack x (length h) o.base (sent_by c.world.handlers p h z)) o.logs no_queue (λ z. tt) from (forgotten_above 0 (log_at o.logs from)) tt d (omega (arith, low, wide.1))
      (let t = s.held from from-in apart in record { released_is = t.released_is; shut = record { within = t.shut.within; waits = t.shut.waits } }) (s.held d l e)

  heard-met : (q : ℕ) → q ≤ c.world.count → (met c p from i k).heard p q ≡ slice_index_or (slice_set o.heard from i) q 0
  heard-met q l = at-itself p (λ t. (if t && (q == from) then i else c.heard p q) ≡ slice_index_or (slice_set o.heard from i) q 0)
      (at-changed (λ z x y. y ≡ x) o.heard 0 (c.heard p) from i i q (omega (arith, low, wide.0)) refl (s.heard q l))

  exact-met : (met c p from i k).exact p ≡ false
  exact-met = at-itself p (λ t. (if t then false else c.exact p) ≡ false) refl

  pub own-met : Each IsKnown (log_at o.logs from).numbers → HasOwn (meets from i o) (met c p from i k) p h (c.world.trims p) ((met c p from i k).world.numbers p)
  own-met known = own-with o c (met c p from i k) p h refl refl refl refl (λ x j. j) (λ f j. j) s (logs-met known) held-met heard-met exact-met s.lost (λ e. absurd (let f : false ≡ true = e in cc)) s.greets s.out

  -- one that has no RSNs yet has none to forget, and waits for that peer already
  own-none : ((d ssn : ℕ) → c.world.numbers p d ssn ≡ None) → HasOwn (meets from i o) (met c p from i k) p h (c.world.trims p) ((met c p from i k).world.numbers p)
  own-none none = let t = s.logs from from-in apart in own-met (each-none (log_at o.logs from).numbers (λ j l. t.numbers_are j (omega (arith, l, t.as_many)) ∙ none from (suc ((log_at o.logs from).dropped + j))))

  peers-met : 0 < from → restores_anew c.world.count (phase_with (peers c.world p false)) from ≡ phase_with (peers c.world p false)
  peers-met some = anew-is (λ q. not (q == p) && true) (λ q. not (q == p) && true) c.world.count from some from-in (let e : (from == p) ≡ false = (let f = apart in grind (arith, nat_tests)) in rw e refl) (λ q e. refl)

-- one that replays
module _ (n : TheReplaying) (wide : (length n.own.heard ≡ suc n.own.count) × (length n.own.logs ≡ suc n.own.count)) (c : Cluster) (s : StandsReplaying n c n.own.me) where
  abbrev me : ℕ
  me = n.own.me

  abbrev ReplayingWith : TheOwn → Cluster → Type 0
  ReplayingWith o d = StandsReplaying (record n { own = o }) d me

  replaying-met : (q i k : ℕ) → 0 < q → q ≤ n.own.count → q ≢ me → In (parcel q me (Ask i k)) c.parcels → heard_of q n.own < i → GoesTo false me (ReplayingWith (meets q i n.own)) c
  replaying-met q i k some low other given newer =
      let h = take (n.own.base + n.done) (c.world.history me) in
      let others = peers c.world me false in
      let unwell : is_well c me ≡ false = (let g : c.greeted me ≡ false = s.greeted in rw (s.stage, g) refl) in
      goes-one false me (ReplayingWith (meets q i n.own)) c (Meets me q i k) (may-meet n.own c me q i k h s.own low other wide given s.stage unwell newer) refl (λ e. absurd (let f : false ≡ true = e in cc))
      (record {
        stage = s.stage;
        greeted = s.greeted;
        phase = phase-met c me q i k (phase_of n others) (ap (λ x. restores_anew c.world.count x q) s.phase ∙ either (λ (x : Phase). restores_anew c.world.count x q ≡ x) (is_over n) (phase_with others) (Replaying n.done false false) (peers-met n.own c me q i k h s.own low other wide some) refl);
        life = s.life;
        own = own-none n.own c me q i k h s.own low other wide s.numbers;
        behind = s.behind;
        received = s.received;
        acknowledged = s.acknowledged;
        numbers = λ d ssn. numbers-met c me q i k d ssn (λ e. s.numbers d ssn);
        resumed = λ d. resumed-met c me q i k d (s.resumed d);
        restoring = λ d. restoring-met c me q i k d (s.restoring d);
        shut = s.shut;
        released = s.released;
      })

  replaying-tells : Tells ReplayingWith me n.own.count
  replaying-tells q i k m d t count low given is =
      let unwell : is_well d me ≡ false = (let g : d.greeted me ≡ false = t.greeted in rw (t.stage, g) refl) in
      goes-one true me (ReplayingWith (tells_loss q i k m)) d (Loses me q i m.life k) (may-lose m d me q i k t.own (omega (arith, low, count)) given is (inl ((t.stage, unwell), sym t.life))) refl (λ e. tt)
      (replaying-own (record n { own = m }) d me (own-lost m d me q i k t.own) t)

  pub replaying-goes : (x : NodePacket) → IsSaid c x.from x.to x.body → GoesTo (handed x n.own).exact me (ReplayingWith (handed x n.own)) c
  replaying-goes = hands ReplayingWith n.own c replaying-tells wide.0 s replaying-met

pub replaying-handed : (n : TheReplaying) (x : NodePacket) → (length n.own.heard ≡ suc n.own.count) × (length n.own.logs ≡ suc n.own.count) → IsHanded x n (record n { own = handed x n.own })
replaying-handed n x wide c s said = replaying-goes n wide c s x said

-- one that has replayed all
module _ (n : TheReplayed) (wide : (length n.own.heard ≡ suc n.own.count) × (length n.own.logs ≡ suc n.own.count)) (c : Cluster) (s : StandsReplayed n c n.own.me) where
  abbrev own_number : ℕ
  own_number = n.own.me

  abbrev ReplayedWith : TheOwn → Cluster → Type 0
  ReplayedWith o d = StandsReplayed (record n { own = o }) d own_number

  replayed-met : (q i k : ℕ) → 0 < q → q ≤ n.own.count → q ≢ own_number → In (parcel q own_number (Ask i k)) c.parcels → heard_of q n.own < i → GoesTo false own_number (ReplayedWith (meets q i n.own)) c
  replayed-met q i k some low other given newer =
      let p = own_number in
      let h = c.world.history p in
      let unwell : is_well c p ≡ false = (let g : c.greeted p ≡ false = s.greeted in rw (s.stage, g) refl) in
      goes-one false p (ReplayedWith (meets q i n.own)) c (Meets p q i k) (may-meet n.own c p q i k h s.own low other wide given s.stage unwell newer) refl (λ e. absurd (let f : false ≡ true = e in cc))
      (record {
        stage = s.stage;
        greeted = s.greeted;
        phase = phase-met c p q i k (phase_with (peers c.world p false)) (ap (λ x. restores_anew c.world.count x q) s.phase ∙ peers-met n.own c p q i k h s.own low other wide some);
        life = s.life;
        own = own-none n.own c p q i k h s.own low other wide s.numbers;
        received = s.received;
        acknowledged = s.acknowledged;
        numbers = λ d ssn. numbers-met c p q i k d ssn (λ e. s.numbers d ssn);
        resumed = λ d. resumed-met c p q i k d (s.resumed d);
        restoring = λ d. restoring-met c p q i k d (s.restoring d);
        released = s.released;
      })

  replayed-tells : Tells ReplayedWith own_number n.own.count
  replayed-tells q i k m d t count low given is =
      let p = own_number in
      let unwell : is_well d p ≡ false = (let g : d.greeted p ≡ false = t.greeted in rw (t.stage, g) refl) in
      goes-one true p (ReplayedWith (tells_loss q i k m)) d (Loses p q i m.life k) (may-lose m d p q i k t.own (omega (arith, low, count)) given is (inl ((t.stage, unwell), sym t.life))) refl (λ e. tt)
      (replayed-own (record n { own = m }) d p (own-lost m d p q i k t.own) t)

  pub replayed-goes : (x : NodePacket) → IsSaid c x.from x.to x.body → GoesTo (handed x n.own).exact own_number (ReplayedWith (handed x n.own)) c
  replayed-goes = hands ReplayedWith n.own c replayed-tells wide.0 s replayed-met

pub replayed-handed : (n : TheReplayed) (x : NodePacket) → (length n.own.heard ≡ suc n.own.count) × (length n.own.logs ≡ suc n.own.count) → ReplayedIsHanded x n (record n { own = handed x n.own })
replayed-handed n x wide c s said = replayed-goes n wide c s x said
