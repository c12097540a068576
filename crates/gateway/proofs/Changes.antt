-- The gateway stands where a change is an act of its own
use Rattle.std.proofs.Common.{◌≡◌, ◌≢◌, inl, inr, ℕ, suc, ◌+◌, ◌-◌, ◌<◌, ◌≤◌, List, [], ◌∷◌, ◌++◌, length, map, take, drop, min, max, Bool, true, false, refl, sym, ap, ◌∙◌, subst, arith, append_assoc}
use Rattle.std.specs.List.{AllByRecursion}
use Rattle.std.specs.Prelude.{Option, Some, slice_index_or, ◌==◌, nat_lt, nat_le, if◌then◌else◌}
use Rattle.std.proofs.lemmas.Bool.Decides.{nat_tests}
use Rattle.std.proofs.lemmas.List.{map-append, take-append-drop}
use Rattle.world.specs.declared.message.Message.{Message}
use Rattle.world.specs.History.{Payload, count_of}
use Rattle.world.specs.World.{put}
use Rattle.world.specs.Calls.{up_to}
use Rattle.world.specs.Logs.{is_entry}
use Rattle.theorems.proofs.Changes.{at-itself}
use Rattle.cluster.specs.Parcels.{Delivery, Number, Acknowledgement, Ask, Resume, Saved, Parcel, parcel, In}
use Rattle.world.specs.Phases.{Up}
use Rattle.cluster.specs.Cluster.{Cluster}
use Rattle.cluster.specs.Rules.{Input, Arrives, May, IsNode}
use Rattle.cluster.proofs.Goes.{goes-act}
use Rattle.packets.specs.Says.{PutOut}
use Rattle.packets.specs.declared.packet.Body.TheVariants as packets
use Rattle.packets.specs.declared.packet.NodePacket.{NodePacket}
use Rattle.stores.specs.declared.change.Output.{Output}
use Rattle.stores.specs.declared.change.Change.{Change}
use Rattle.stores.specs.declared.change.Change.TheVariants as changes
use Rattle.stores.specs.declared.peer.Logged.{Logged}
use Rattle.stores.specs.Peer.{ThePeer, no_entry, last_of, is_kept, appended, recorded, dropped_first, hears, forgets, shows}
use Rattle.stores.specs.Store.{TheStore, IsOf, peer_at, with_peer}
use Rattle.gateway.specs.Gateway.{TheGateway, peer_of, posts, happens}
use Rattle.gateway.specs.Calls.{obeyed}
use Rattle.gateway.specs.Stands.{Stands, KeepsOf, EndsWith, Goes, shown_as}
use Rattle.stores.proofs.Peers.{each-peer, same-part, as-many, each-twice, twice-many}
use Rattle.gateway.proofs.Preservation.{kept-within, sent-size, kept-appended, kept-numbered, kept-dropped, kept-forgot}
use Rattle.gateway.proofs.Steps.{takes-here, out-posted, stays, stands-with, stands-waiting}

pub node-is : (g : TheGateway) (c : Cluster) (p : ℕ) → Stands g c → IsOf p g.store → IsNode c p
node-is g c p s o = (o.some, omega (arith, o.low, s.count))

-- what isn't of the process is as it was
pub apart-is : (q p : ℕ) → q ≢ p → (q == p) ≡ false
apart-is q p ne = grind (arith, nat_tests)

module _ (g : TheGateway) (c : Cluster) (p : ℕ) (new : ThePeer) (o : IsOf p g.store) (s : Stands g c) where
  abbrev store : TheStore
  store = with_peer p new g.store

  pub count-still : length store.peers ≡ c.world.count
  count-still = as-many g.store p new ∙ s.count

  pub shown-still : new.shown ≡ (peer_of p g).shown → (q : ℕ) → IsNode c q → (peer_at q store).shown ≡ count_of q c.world.shown
  shown-still e q n = same-part (λ (z : ThePeer). z.shown) g.store p q new o n.0 e ∙ s.shown q n

  pub heard-still : new.heard ≡ (peer_of p g).heard → (q : ℕ) → IsNode c q → c.heard 0 q ≡ (peer_at q store).heard
  heard-still e q n = s.heard q n ∙ sym (same-part (λ (z : ThePeer). z.heard) g.store p q new o n.0 e)

  pub resumed-still : new.resumed ≡ (peer_of p g).resumed → (q : ℕ) → IsNode c q → c.resumed 0 q ≡ (peer_at q store).resumed
  resumed-still e q n = s.resumed q n ∙ sym (same-part (λ (z : ThePeer). z.resumed) g.store p q new o n.0 e)

  -- it has other logs, and the rest is as it was
  stands-logs : {ks : List Change} {packets : List NodePacket} {trims : ℕ → ℕ → ℕ} {numbers : ℕ → ℕ → ℕ → Option ℕ} {inputs : ℕ → List Payload} {parcels : List Parcel}
      → new.shown ≡ (peer_of p g).shown → new.heard ≡ (peer_of p g).heard → new.resumed ≡ (peer_of p g).resumed
      → ((q : ℕ) → IsNode c q → KeepsOf (peer_at q store) (trims 0 q) (inputs q) (numbers 0 q)) → AllByRecursion (PutOut (record c { parcels = parcels }) 0) packets
      → Stands (record g { store = with_peer p new g.store; changes = ks; out = packets }) (record c { parcels = parcels; world = record c.world { trims = trims; numbers = numbers; inputs = inputs } })
  stands-logs shown heard resumed logs out = stands-with g c s count-still logs (shown-still shown) s.outputs (heard-still heard) (resumed-still resumed) out

-- a log whose messages and numbers are as they were
kept-same : (y z : ThePeer) (d : ℕ) (xs : List Payload) (numbers : ℕ → Option ℕ) → y.dropped ≡ z.dropped → y.entries ≡ z.entries → KeepsOf z d xs numbers → KeepsOf y d xs numbers
kept-same y z d xs numbers e f k =
    record {
      before = k.before;
      many = k.many ∙ sym e;
      joined = ap (λ (es : List Logged). k.before ++ map (λ (x : Logged). x.payload) es) f ∙ k.joined;
      dropped_is = k.dropped_is ∙ sym e;
      numbers_are = λ i l. ap (λ (es : List Logged). (slice_index_or es i no_entry).number) f ∙ k.numbers_are i (subst (λ (es : List Logged). i < length es) f l) ∙ ap (λ n. numbers (suc (n + i))) (sym e);
      beyond = λ i l. k.beyond i (let same : length y.entries ≡ length z.entries = ap length f in omega (arith, l, same, e));
    }

-- an input
pub goes-input : (g : TheGateway) (c : Cluster) (p : ℕ) (x : Payload) → IsOf p g.store → Stands g c → Goes (happens (changes.Input p x) g) c
goes-input g c p x o s = goes-act true 0 (Stands (happens (changes.Input p x) g)) c (Input p x) node tt tt refl (stands-logs g c p (appended x (peer_of p g)) o s refl refl refl logs s.out)
  where
    node : IsNode c p
    node = node-is g c p s o

    logs : (q : ℕ) → IsNode c q → KeepsOf (peer_at q (with_peer p (appended x (peer_of p g)) g.store)) (c.world.trims 0 q) (put c.world.inputs p (c.world.inputs p ++ x ∷ []) q) (c.world.numbers 0 q)
    logs q n = each-peer (λ z y. KeepsOf y (c.world.trims 0 z) (put c.world.inputs p (c.world.inputs p ++ x ∷ []) z) (c.world.numbers 0 z)) g.store p q (appended x (peer_of p g)) o n.0
        (at-itself p (λ t. KeepsOf (appended x (peer_of p g)) (c.world.trims 0 p) (if t then c.world.inputs p ++ x ∷ [] else c.world.inputs p) (c.world.numbers 0 p)) (kept-appended (peer_of p g) (c.world.trims 0 p) (c.world.inputs p) x (c.world.numbers 0 p) (s.logs p node)))
        (λ apart. rw (apart-is q p apart) (s.logs q n))

-- a number is recorded, and acknowledged
pub goes-numbered : (g : TheGateway) (c : Cluster) (p i ssn k : ℕ) → IsOf p g.store → Stands g c → In (parcel p 0 (Number i ssn k)) c.parcels → i ≡ (peer_of p g).heard → is_kept ssn (peer_of p g) ≡ true
    → Goes (posts p (packets.Acknowledgement i k) (happens (changes.Numbered p ssn k) g)) c
goes-numbered g c p i ssn k o s given heard kept = goes-act true 0 (Stands (posts p (packets.Acknowledgement i k) (happens (changes.Numbered p ssn k) g))) c (Arrives p 0 (Number i ssn k)) may tt tt refl
    (stands-logs g c p (recorded ssn k (peer_of p g)) o s refl refl refl logs (out-posted (happens (changes.Numbered p ssn k) g) c (record c { parcels = parcel 0 p (Acknowledgement i k) ∷ c.parcels }) p (packets.Acknowledgement i k) refl (λ y a. inr a) (λ y a. a)
    (count-still g c p (recorded ssn k (peer_of p g)) o s) (Acknowledgement i k, refl, inl refl, tt) s.out))
  where
    node : IsNode c p
    node = node-is g c p s o

    entry : is_entry c.world 0 p ssn ≡ true
    entry =
        let l = s.logs p node in
        let w = kept-within (peer_of p g) ssn kept in
        let size : length (c.world.inputs p) ≡ last_of (peer_of p g) = sent-size (peer_of p g) (c.world.trims 0 p) (c.world.inputs p) (c.world.numbers 0 p) l in
        let above : nat_lt (c.world.trims 0 p) ssn ≡ true = (let a : c.world.trims 0 p < ssn = omega (arith, w.0, l.dropped_is) in grind (arith, nat_tests)) in
        let within : nat_le ssn (length (c.world.inputs p)) ≡ true = (let b : ssn ≤ length (c.world.inputs p) = omega (arith, w.1, size) in grind (arith, nat_tests)) in
        rw (s.phase, above, within) refl

    may : May c (Arrives p 0 (Number i ssn k))
    may = (given, (takes-here g c s, heard ∙ sym (s.heard p node), entry))

    logs : (q : ℕ) → IsNode c q → KeepsOf (peer_at q (with_peer p (recorded ssn k (peer_of p g)) g.store)) (c.world.trims 0 q) (c.world.inputs q) (if q == p then put (c.world.numbers 0 p) ssn (Some k) else c.world.numbers 0 q)
    logs q n = each-peer (λ z y. KeepsOf y (c.world.trims 0 z) (c.world.inputs z) (if z == p then put (c.world.numbers 0 p) ssn (Some k) else c.world.numbers 0 z)) g.store p q (recorded ssn k (peer_of p g)) o n.0
        (at-itself p (λ t. KeepsOf (recorded ssn k (peer_of p g)) (c.world.trims 0 p) (c.world.inputs p) (if t then put (c.world.numbers 0 p) ssn (Some k) else c.world.numbers 0 p)) (kept-numbered (peer_of p g) (c.world.trims 0 p) (c.world.inputs p) (c.world.numbers 0 p) ssn k kept (s.logs p node)))
        (λ apart. rw (apart-is q p apart) (s.logs q n))

-- how many are dropped, and how many have been then
abbrev many_dropped : ThePeer → ℕ → ℕ
many_dropped z k = min (min k (last_of z) - z.dropped) (length z.entries)

abbrev trims_dropped : Cluster → ℕ → ℕ → ℕ
trims_dropped c p k = max (c.world.trims 0 p) (min k (length (c.world.inputs p)))

-- what is covered for good is dropped
pub goes-dropped : (g : TheGateway) (c : Cluster) (p k : ℕ) → IsOf p g.store → Stands g c → In (parcel p 0 (Saved k)) c.parcels → (peer_of p g).dropped < min k (last_of (peer_of p g))
    → Goes (happens (changes.Dropped p (min k (last_of (peer_of p g)))) g) c
goes-dropped g c p k o s given some = goes-act true 0 (Stands (happens (changes.Dropped p (min k (last_of (peer_of p g)))) g)) c (Arrives p 0 (Saved k)) (given, takes-here g c s) tt tt refl
    (stands-logs g c p (dropped_first (many_dropped (peer_of p g) k) (peer_of p g)) o s refl refl refl logs s.out)
  where
    node : IsNode c p
    node = node-is g c p s o

    trims-are : (trims_dropped c p k) ≡ (peer_of p g).dropped + (many_dropped (peer_of p g) k)
    trims-are =
        let l = s.logs p node in
        let size : length (c.world.inputs p) ≡ (peer_of p g).dropped + length (peer_of p g).entries = sent-size (peer_of p g) (c.world.trims 0 p) (c.world.inputs p) (c.world.numbers 0 p) l in
        omega (arith, size, l.dropped_is, some)

    dropped : KeepsOf (dropped_first (many_dropped (peer_of p g) k) (peer_of p g)) (trims_dropped c p k) (c.world.inputs p) (c.world.numbers 0 p)
    dropped =
        let l = s.logs p node in
        let few : (many_dropped (peer_of p g) k) ≤ length (peer_of p g).entries = omega arith in
        kept-dropped (peer_of p g) (many_dropped (peer_of p g) k) (trims_dropped c p k) (c.world.inputs p) (c.world.numbers 0 p) few trims-are (subst (λ z. KeepsOf (peer_of p g) z (c.world.inputs p) (c.world.numbers 0 p)) l.dropped_is l)

    logs : (q : ℕ) → IsNode c q → KeepsOf (peer_at q (with_peer p (dropped_first (many_dropped (peer_of p g) k) (peer_of p g)) g.store)) (if q == p then (trims_dropped c p k) else c.world.trims 0 q) (c.world.inputs q) (c.world.numbers 0 q)
    logs q n = each-peer (λ z y. KeepsOf y (if z == p then (trims_dropped c p k) else c.world.trims 0 z) (c.world.inputs z) (c.world.numbers 0 z)) g.store p q (dropped_first (many_dropped (peer_of p g) k) (peer_of p g)) o n.0
        (at-itself p (λ t. KeepsOf (dropped_first (many_dropped (peer_of p g) k) (peer_of p g)) (if t then (trims_dropped c p k) else c.world.trims 0 p) (c.world.inputs p) (c.world.numbers 0 p)) dropped)
        (λ apart. rw (apart-is q p apart) (s.logs q n))

-- how many of a process are shown, with one more
abbrev tally : Bool → ℕ
tally b = if b then 1 else 0

count-push : (q : ℕ) (h : List Message) (m : Message) → count_of q (h ++ m ∷ []) ≡ count_of q h + tally (m.sender == q)
count-push q [] m = omega arith
count-push q (n ∷ h) m = let e : count_of q (h ++ m ∷ []) ≡ count_of q h + tally (m.sender == q) = count-push q h m in omega (arith, e)

ends-push : (o : Output) (os : List Output) (h : List Message) → EndsWith os h → EndsWith (os ++ o ∷ []) (h ++ shown_as o ∷ [])
ends-push o os h e =
    record {
      before = e.before;
      joined = ap (λ l. e.before ++ l) (map-append shown_as os (o ∷ [])) ∙ sym (append_assoc e.before (map shown_as os) (shown_as o ∷ [])) ∙ ap (λ l. l ++ shown_as o ∷ []) e.joined;
    }

-- an output is shown
pub goes-shown : (g : TheGateway) (c : Cluster) (i : ℕ) (x : Output) → IsOf x.process g.store → Stands g c → In (parcel x.process 0 (Delivery i x.ssn x.payload)) c.parcels → i ≡ (peer_of x.process g).heard
    → x.ssn ≡ suc (peer_of x.process g).shown → Goes (happens (changes.Shown x) g) c
goes-shown g c i x o s given heard next = goes-act true 0 (Stands (happens (changes.Shown x) g)) c (Arrives x.process 0 (Delivery i x.ssn x.payload)) may tt tt refl
    (stands-with g c s (count-still g c x.process (shows x.ssn (peer_of x.process g)) o s) logs shown (ends-push x g.store.outputs c.world.shown s.outputs) (heard-still g c x.process (shows x.ssn (peer_of x.process g)) o s refl) (resumed-still g c x.process (shows x.ssn (peer_of x.process g)) o s refl) s.out)
  where
    node : IsNode c x.process
    node = node-is g c x.process s o

    may : May c (Arrives x.process 0 (Delivery i x.ssn x.payload))
    may = (given, (heard ∙ sym (s.heard x.process node), next ∙ ap suc (s.shown x.process node)))

    logs : (q : ℕ) → IsNode c q → KeepsOf (peer_at q (with_peer x.process (shows x.ssn (peer_of x.process g)) g.store)) (c.world.trims 0 q) (c.world.inputs q) (c.world.numbers 0 q)
    logs q n = each-peer (λ z y. KeepsOf y (c.world.trims 0 z) (c.world.inputs z) (c.world.numbers 0 z)) g.store x.process q (shows x.ssn (peer_of x.process g)) o n.0
        (kept-same (shows x.ssn (peer_of x.process g)) (peer_of x.process g) (c.world.trims 0 x.process) (c.world.inputs x.process) (c.world.numbers 0 x.process) refl refl (s.logs x.process node)) (λ apart. s.logs q n)

    shown : (q : ℕ) → IsNode c q → (peer_at q (with_peer x.process (shows x.ssn (peer_of x.process g)) g.store)).shown ≡ count_of q (c.world.shown ++ shown_as x ∷ [])
    shown q n = each-peer (λ z y. y.shown ≡ count_of z (c.world.shown ++ shown_as x ∷ [])) g.store x.process q (shows x.ssn (peer_of x.process g)) o n.0
        (let e = count-push x.process c.world.shown (shown_as x) in
        let one : tally (x.process == x.process) ≡ 1 = at-itself x.process (λ t. tally t ≡ 1) refl in
        let was : (peer_of x.process g).shown ≡ count_of x.process c.world.shown = s.shown x.process node in
        omega (arith, e, one, was, next))
        (λ apart. let e = count-push q c.world.shown (shown_as x) in
        let off : (x.process == q) ≡ false = apart-is x.process q (λ f. apart (sym f)) in
        let none : tally (x.process == q) ≡ 0 = ap tally off in
        let was : (peer_of q g).shown ≡ count_of q c.world.shown = s.shown q n in
        omega (arith, e, none, was))

ends-taken : (k : ℕ) (os : List Output) (h : List Message) → EndsWith os h → EndsWith (drop k os) h
ends-taken k os h e =
    record {
      before = e.before ++ map shown_as (take k os);
      joined = append_assoc e.before (map shown_as (take k os)) (map shown_as (drop k os)) ∙ ap (λ l. e.before ++ l) (sym (map-append shown_as (take k os) (drop k os)) ∙ ap (map shown_as) (take-append-drop k os)) ∙ e.joined;
    }

-- outputs are taken: that is no act
pub goes-taken : (g : TheGateway) (c : Cluster) (k : ℕ) → Stands g c → Goes (happens (changes.Taken k) g) c
goes-taken g c k s = stays (happens (changes.Taken k) g) c (stands-with g c s s.count s.logs s.shown (ends-taken k g.store.outputs c.world.shown s.outputs) s.heard s.resumed s.out)

-- nor is it when its host asks what happened
pub goes-asked : (g : TheGateway) (c : Cluster) → Stands g c → Goes (record g { changes = [] }) c
goes-asked g c s = stays (record g { changes = [] }) c (stands-waiting g c s s.out)

-- a newer incarnation is heard of
pub goes-heard : (g : TheGateway) (c : Cluster) (p i k : ℕ) → IsOf p g.store → Stands g c → In (parcel p 0 (Ask i k)) c.parcels → (peer_of p g).heard < i → Goes (happens (changes.Heard p i false) g) c
goes-heard g c p i k o s given newer = goes-act true 0 (Stands (happens (changes.Heard p i false) g)) c (Arrives p 0 (Ask i k)) (given, (omega (arith, s.heard p node, newer), inl (takes-here g c s))) tt tt refl
    (stands-with g c s (count-still g c p (hears i false (peer_of p g)) o s) logs (shown-still g c p (hears i false (peer_of p g)) o s refl) s.outputs heard resumed s.out)
  where
    node : IsNode c p
    node = node-is g c p s o

    logs : (q : ℕ) → IsNode c q → KeepsOf (peer_at q (with_peer p (hears i false (peer_of p g)) g.store)) (c.world.trims 0 q) (c.world.inputs q) (c.world.numbers 0 q)
    logs q n = each-peer (λ z y. KeepsOf y (c.world.trims 0 z) (c.world.inputs z) (c.world.numbers 0 z)) g.store p q (hears i false (peer_of p g)) o n.0
        (kept-same (hears i false (peer_of p g)) (peer_of p g) (c.world.trims 0 p) (c.world.inputs p) (c.world.numbers 0 p) refl refl (s.logs p node)) (λ apart. s.logs q n)

    heard : (q : ℕ) → IsNode c q → (if q == p then i else c.heard 0 q) ≡ (peer_at q (with_peer p (hears i false (peer_of p g)) g.store)).heard
    heard q n = each-peer (λ z y. (if z == p then i else c.heard 0 z) ≡ y.heard) g.store p q (hears i false (peer_of p g)) o n.0
        (at-itself p (λ t. (if t then i else c.heard 0 p) ≡ i) refl) (λ apart. rw (apart-is q p apart) (s.heard q n))

    resumed : (q : ℕ) → IsNode c q → (if q == p then false else c.resumed 0 q) ≡ (peer_at q (with_peer p (hears i false (peer_of p g)) g.store)).resumed
    resumed q n = each-peer (λ z y. (if z == p then false else c.resumed 0 z) ≡ y.resumed) g.store p q (hears i false (peer_of p g)) o n.0
        (at-itself p (λ t. (if t then false else c.resumed 0 p) ≡ false) refl) (λ apart. rw (apart-is q p apart) (s.resumed q n))

-- a Resume is obeyed: numbers above what is kept are forgotten
pub goes-obeyed : (g : TheGateway) (c : Cluster) (p i k n : ℕ) → IsOf p g.store → Stands g c → In (parcel p 0 (Resume i k n)) c.parcels → i ≡ (peer_of p g).heard → (peer_of p g).resumed ≡ false → Goes (obeyed p i k g) c
goes-obeyed g c p i k n o s given last fresh =
    goes-act true 0 (Stands (obeyed p i k g)) c (Arrives p 0 (Resume i k n)) (given, (takes-here g c s, last ∙ sym (s.heard p node), s.resumed p node ∙ fresh, (λ m busy. absurd (let up : c.world.phase 0 ≡ Up = s.phase in cc)))) tt tt refl
    (stands-with g c s (twice-many g.store p (forgets k (peer_of p g)) (hears i true) o ∙ s.count) logs shown s.outputs heard resumed s.out)
  where
    node : IsNode c p
    node = node-is g c p s o

    logs : (q : ℕ) → IsNode c q → KeepsOf (peer_of q (obeyed p i k g)) (c.world.trims 0 q) (c.world.inputs q) (if q == p then (λ ssn. up_to k (c.world.numbers 0 p ssn)) else c.world.numbers 0 q)
    logs q m = each-twice g.store p (forgets k (peer_of p g)) (hears i true) o (λ z y. KeepsOf y (c.world.trims 0 z) (c.world.inputs z) (if z == p then (λ ssn. up_to k (c.world.numbers 0 p ssn)) else c.world.numbers 0 z)) q m.0
        (at-itself p (λ t. KeepsOf (hears i true (forgets k (peer_of p g))) (c.world.trims 0 p) (c.world.inputs p) (if t then (λ ssn. up_to k (c.world.numbers 0 p ssn)) else c.world.numbers 0 p))
        (kept-same (hears i true (forgets k (peer_of p g))) (forgets k (peer_of p g)) (c.world.trims 0 p) (c.world.inputs p) (λ ssn. up_to k (c.world.numbers 0 p ssn)) refl refl (kept-forgot (peer_of p g) k (c.world.trims 0 p) (c.world.inputs p) (c.world.numbers 0 p) (s.logs p node))))
        (λ apart. rw (apart-is q p apart) (s.logs q m))

    shown : (q : ℕ) → IsNode c q → (peer_of q (obeyed p i k g)).shown ≡ count_of q c.world.shown
    shown q m = each-twice g.store p (forgets k (peer_of p g)) (hears i true) o (λ z y. y.shown ≡ count_of z c.world.shown) q m.0 (s.shown p node) (λ apart. s.shown q m)

    heard : (q : ℕ) → IsNode c q → c.heard 0 q ≡ (peer_of q (obeyed p i k g)).heard
    heard q m = each-twice g.store p (forgets k (peer_of p g)) (hears i true) o (λ z y. c.heard 0 z ≡ y.heard) q m.0 (s.heard p node ∙ sym last) (λ apart. s.heard q m)

    resumed : (q : ℕ) → IsNode c q → (if q == p then true else c.resumed 0 q) ≡ (peer_of q (obeyed p i k g)).resumed
    resumed q m = each-twice g.store p (forgets k (peer_of p g)) (hears i true) o (λ z y. (if z == p then true else c.resumed 0 z) ≡ y.resumed) q m.0
        (at-itself p (λ t. (if t then true else c.resumed 0 p) ≡ true) refl) (λ apart. rw (apart-is q p apart) (s.resumed q m))
