-- A packet is handed to the gateway
use Rattle.std.proofs.Common.{◌≡◌, ◌≢◌, ℕ, suc, ◌+◌, ◌<◌, ◌≤◌, List, length, min, true, false, refl, sym, ap, subst, arith}
use Rattle.std.specs.Prelude.{Some, not, ◌&&◌, ◌||◌, ◌==◌, nat_lt, nat_le, if◌then◌else◌}
use Rattle.std.proofs.lemmas.Bool.Decides.{nat_tests}
use Rattle.theorems.proofs.Tests.{both, neither, not-false}
use Rattle.cluster.specs.Parcels.{Body, Delivery, Number, Ask, Resume, Saved, Parcel, parcel, In}
use Rattle.packets.specs.Packet.{in_range}
use Rattle.packets.specs.declared.packet.Body as bodies
use Rattle.packets.specs.declared.packet.Body.TheVariants as packets
use Rattle.packets.specs.declared.packet.NodePacket.{NodePacket}
use Rattle.stores.specs.declared.change.Output.{Output}
use Rattle.stores.specs.declared.change.Change.TheVariants as changes
use Rattle.stores.specs.Peer.{ThePeer, last_of, is_kept, shows, hears, forgets}
use Rattle.stores.specs.Store.{IsOf}
use Rattle.gateway.specs.Gateway.{TheGateway, peer_of, posts, happens}
use Rattle.gateway.specs.Calls.{is_for, is_next, says_shown, arrived, recorded_by, dropped_by, told_of, asked, obeyed, restores, resumed_by, told, handed}
use Rattle.packets.specs.Says.{Says}
use Rattle.cluster.proofs.Goes.{goes-then}
use Rattle.gateway.specs.Stands.{Stands, Owes, IsHanded}
use Rattle.gateway.proofs.Changes.{goes-shown, goes-numbered, goes-dropped, goes-heard, goes-obeyed}
use Rattle.gateway.proofs.Replies.{tells, restoring}
use Rattle.stores.proofs.Peers.{here-is, as-many, inside, twice-here, twice-inside}
use Rattle.gateway.proofs.Transmission.{saying-shown}
use Rattle.gateway.proofs.Steps.{stays, owes-then, by-if}

-- where a process says this to it
abbrev Told : ℕ → Body → TheGateway → TheGateway → Type 0
Told p b old new = Owes (λ c. In (parcel p 0 b) c.parcels) old new

ignores : (p : ℕ) (b : Body) (g : TheGateway) → Told p b g g
ignores p b g c s given = stays g c s

arrives : (i : ℕ) (x : Output) (g : TheGateway) → IsOf x.process g.store → Told x.process (Delivery i x.ssn x.payload) g (arrived i x g)
arrives i x g o =
    by-if (Told x.process (Delivery i x.ssn x.payload) g) (not (i == (peer_of x.process g).heard) || nat_lt ((peer_of x.process g).shown + 1) x.ssn) g (says_shown x.process (if is_next x g then happens (changes.Shown x) g else g)) (λ e. ignores x.process (Delivery i x.ssn x.payload) g)
    (λ e. by-if (λ z. Told x.process (Delivery i x.ssn x.payload) g (says_shown x.process z)) (is_next x g) (happens (changes.Shown x) g) g (λ f. shown (neither (not (i == (peer_of x.process g).heard)) (nat_lt ((peer_of x.process g).shown + 1) x.ssn) e) f)
    (λ f. owes-then (λ c. In (parcel x.process 0 (Delivery i x.ssn x.payload)) c.parcels) g g (says_shown x.process g) (ignores x.process (Delivery i x.ssn x.payload) g) (saying-shown g x.process o)))
  where
    shown : (not (i == (peer_of x.process g).heard) ≡ false) × (nat_lt ((peer_of x.process g).shown + 1) x.ssn ≡ false) → is_next x g ≡ true → Told x.process (Delivery i x.ssn x.payload) g (says_shown x.process (happens (changes.Shown x) g))
    shown t f =
        let here : (i == (peer_of x.process g).heard) ≡ true = not-false (i == (peer_of x.process g).heard) t.0 in
        let heard : i ≡ (peer_of x.process g).heard = grind (arith, nat_tests) in
        let next : x.ssn ≡ suc (peer_of x.process g).shown = (let same : x.ssn ≡ (peer_of x.process g).shown + 1 = grind (arith, nat_tests) in omega (arith, same)) in
        owes-then (λ c. In (parcel x.process 0 (Delivery i x.ssn x.payload)) c.parcels) g (happens (changes.Shown x) g) (says_shown x.process (happens (changes.Shown x) g)) (λ c s given. goes-shown g c i x o s given heard next)
        (saying-shown (happens (changes.Shown x) g) x.process (record { some = o.some; low = (let l : x.process ≤ length g.store.peers = o.low in omega (arith, l, as-many g.store x.process (shows x.ssn (peer_of x.process g)))) }))

records : (p i ssn k : ℕ) (g : TheGateway) → IsOf p g.store → Told p (Number i ssn k) g (recorded_by p i ssn k g)
records p i ssn k g o =
    by-if (Told p (Number i ssn k) g) ((i == (peer_of p g).heard) && is_kept ssn (peer_of p g)) (posts p (packets.Acknowledgement i k) (happens (changes.Numbered p ssn k) g)) g
    (λ e. let t = both (i == (peer_of p g).heard) (is_kept ssn (peer_of p g)) e in
    let here = t.0 in
    let heard : i ≡ (peer_of p g).heard = grind (arith, nat_tests) in
    (λ c s given. goes-numbered g c p i ssn k o s given heard t.1))
    (λ e. ignores p (Number i ssn k) g)

drops : (p k : ℕ) (g : TheGateway) → IsOf p g.store → Told p (Saved k) g (dropped_by p k g)
drops p k g o =
    by-if (Told p (Saved k) g) (nat_le (min k (last_of (peer_of p g))) (peer_of p g).dropped) g (happens (changes.Dropped p (min k (last_of (peer_of p g)))) g) (λ e. ignores p (Saved k) g)
    (λ e. let some : (peer_of p g).dropped < min k (last_of (peer_of p g)) = grind (arith, nat_tests) in
    (λ c s given. goes-dropped g c p k o s given some))

-- one that comes back asks
asks : (p i k : ℕ) (g : TheGateway) → IsOf p g.store → Told p (Ask i k) g (asked p i k g)
asks p i k g o =
    by-if (Told p (Ask i k) g) (nat_lt i (peer_of p g).heard) g (posts p (told_of p i k g) (if i == (peer_of p g).heard then g else happens (changes.Heard p i false) g)) (λ e. ignores p (Ask i k) g)
    (λ e. by-if (λ z. Told p (Ask i k) g (posts p (told_of p i k g) z)) (i == (peer_of p g).heard) g (happens (changes.Heard p i false) g)
    (λ f c s given. (let heard : i ≡ (peer_of p g).heard = grind (arith, nat_tests) in tells g g c p i k o o s refl refl heard))
    (λ f c s given.
    let newer : (peer_of p g).heard < i = (let a : (peer_of p g).heard ≤ i = grind (arith, nat_tests) in let b : i ≢ (peer_of p g).heard = grind (arith, nat_tests) in omega (arith, a, b)) in
    let m : TheGateway = happens (changes.Heard p i false) g in
    let there : peer_of p m ≡ hears i false (peer_of p g) = here-is g.store p (hears i false (peer_of p g)) o in
    goes-then true 0 (Stands m) (Stands (posts p (told_of p i k g) m)) c (goes-heard g c p i k o s given newer)
    (λ d t. tells g m d p i k o (inside g.store p (hears i false (peer_of p g)) o) t (ap (λ (z : ThePeer). z.dropped) there) (ap (λ (z : ThePeer). z.entries) there) (ap (λ (z : ThePeer). z.heard) (sym there)))))

-- one resumes
resumes : (p i k n : ℕ) (g : TheGateway) → IsOf p g.store → Told p (Resume i k n) g (resumed_by p i k n g)
resumes p i k n g o =
    by-if (Told p (Resume i k n) g) (i == (peer_of p g).heard) (restores p i n (if (peer_of p g).resumed then g else obeyed p i k g)) g
    (λ e. (let heard : i ≡ (peer_of p g).heard = grind (arith, nat_tests) in
    by-if (λ z. Told p (Resume i k n) g (restores p i n z)) (peer_of p g).resumed g (obeyed p i k g)
    (λ f c s given. restoring g c p i n o s heard f)
    (λ f c s given. goes-then true 0 (Stands (obeyed p i k g)) (Stands (restores p i n (obeyed p i k g))) c (goes-obeyed g c p i k n o s given heard f)
    (λ d t. let there : peer_of p (obeyed p i k g) ≡ hears i true (forgets k (peer_of p g)) = twice-here g.store p (forgets k (peer_of p g)) (hears i true) o in
    restoring (obeyed p i k g) d p i n (twice-inside g.store p (forgets k (peer_of p g)) (hears i true) o) t (ap (λ (z : ThePeer). z.heard) (sym there)) (ap (λ (z : ThePeer). z.resumed) there)))))
    (λ e. ignores p (Resume i k n) g)

-- a packet says its body
said-is : (ps : List Parcel) (p : ℕ) (to : ℕ) (b d : Body) → to ≡ 0 → Some b ≡ Some d → In (parcel p to d) ps → In (parcel p 0 b) ps
said-is ps p to b d here e i =
    let same : d ≡ b = (cc) in
    subst (λ z. In (parcel p z b) ps) here (subst (λ z. In (parcel p to z) ps) same i)

told-so : (x : NodePacket) (g : TheGateway) → IsOf x.from g.store → x.to ≡ 0 → (b : bodies.Body) → x.body ≡ b → IsHanded x g (told x.from b g)
told-so x g o me (packets.Delivery i ssn y) e c s w = arrives i (record { process = x.from; ssn = ssn; payload = y }) g o c s (said-is c.parcels x.from x.to (Delivery i ssn y) w.0 me (subst (λ z. Says x.from z w.0) e w.1) w.2)
told-so x g o me (packets.Number i ssn k) e c s w = records x.from i ssn k g o c s (said-is c.parcels x.from x.to (Number i ssn k) w.0 me (subst (λ z. Says x.from z w.0) e w.1) w.2)
told-so x g o me (packets.Saved k) e c s w = drops x.from k g o c s (said-is c.parcels x.from x.to (Saved k) w.0 me (subst (λ z. Says x.from z w.0) e w.1) w.2)
told-so x g o me (packets.Ask i k) e c s w = asks x.from i k g o c s (said-is c.parcels x.from x.to (Ask i k) w.0 me (subst (λ z. Says x.from z w.0) e w.1) w.2)
told-so x g o me (packets.Resume i k n) e c s w = resumes x.from i k n g o c s (said-is c.parcels x.from x.to (Resume i k n) w.0 me (subst (λ z. Says x.from z w.0) e w.1) w.2)
told-so x g o me other e c s w = stays g c s

pub handed-so : (x : NodePacket) (g : TheGateway) → IsHanded x g (handed x g)
handed-so x g = by-if (IsHanded x g) (is_for g x) (told x.from x.body g) g (λ e. here (both ((x.count == length g.store.peers) && (x.to == 0) && nat_lt 0 x.from && nat_le x.from x.count) (in_range x.body) e)) (λ e c s w. stays g c s)
  where
    here : (((x.count == length g.store.peers) && (x.to == 0) && nat_lt 0 x.from && nat_le x.from x.count) ≡ true) × (in_range x.body ≡ true) → IsHanded x g (told x.from x.body g)
    here t =
        let a = both ((x.count == length g.store.peers) && (x.to == 0) && nat_lt 0 x.from) (nat_le x.from x.count) t.0 in
        let d = both ((x.count == length g.store.peers) && (x.to == 0)) (nat_lt 0 x.from) a.0 in
        let f = both (x.count == length g.store.peers) (x.to == 0) d.0 in
        let count : x.count ≡ length g.store.peers = (let u = f.0 in grind (arith, nat_tests)) in
        let me : x.to ≡ 0 = (let u = f.1 in grind (arith, nat_tests)) in
        let some : 0 < x.from = (let u = d.1 in grind (arith, nat_tests)) in
        let low : x.from ≤ x.count = (let u = a.1 in grind (arith, nat_tests)) in
        told-so x g (record { some = some; low = omega (arith, low, count) }) me x.body refl
