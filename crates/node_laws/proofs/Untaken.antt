-- The gateway, had some of the outputs that it handed out not been taken: it goes on as the gateway does
use Rattle.std.proofs.Common.{◌≡◌, inl, inr, ℕ, zero, suc, ◌+◌, List, [], ◌∷◌, ◌++◌, length, map, take, drop, Bool, true, false, refl, sym, ap, ◌∙◌, subst, append_assoc, append-nil}
use Rattle.std.specs.Prelude.{◌⊎◌, not, ◌&&◌, ◌||◌, ◌==◌, nat_lt, nat_le, min, if◌then◌else◌}
use Rattle.std.proofs.lemmas.List.{map-append}
use Rattle.packets.specs.declared.packet.Body as bodies
use Rattle.packets.specs.declared.packet.Body.TheVariants as packets
use Rattle.packets.specs.declared.packet.NodePacket.{NodePacket}
use Rattle.cluster.specs.Cluster.{Cluster}
use Rattle.stores.specs.declared.change.Output.{Output}
use Rattle.stores.specs.declared.change.Change.{Change}
use Rattle.stores.specs.declared.change.Change.TheVariants as changes
use Rattle.stores.specs.Peer.{last_of, is_kept}
use Rattle.stores.specs.Store.{applied}
use Rattle.gateway.specs.Gateway.{TheGateway, peer_of, posts, happens, delivers, unnumbered, delivers_each, resent, ticked_to}
use Rattle.gateway.specs.Calls.{is_for, is_next, says_shown, arrived, recorded_by, dropped_by, told_of, asked, obeyed, restores, resumed_by, told, handed}
use Rattle.gateway.specs.Stands.{Stands, Goes, Acts, IsHanded, shown_as}
use Rattle.gateway.proofs.Changes.{goes-asked}
use Rattle.gateway.proofs.Transmission.{putting-in, ticking}
use Rattle.gateway.proofs.Steps.{stays, acts-self, stands-with, stands-waiting}
use Rattle.gateway.proofs.Handover.{handed-so}
use Rattle.node_laws.specs.HostSystem.{handed_out, untaken, Deals}
use Rattle.node_laws.proofs.HeldGateway.{HandsOut, IsQuietDeal, DealsSo, deals-so}

-- ---- it stands as the gateway does

-- with fewer of these
pub stands-fewer : (xs ys : List Output) (g : TheGateway) (c : Cluster) → Stands (untaken (xs ++ ys) g) c → Stands (untaken ys g) c
stands-fewer xs ys g c s =
    let last : List Output = ys ++ g.store.outputs in
    let joined : (s.outputs.before ++ map shown_as xs) ++ map shown_as last ≡ c.world.shown =
    append_assoc s.outputs.before (map shown_as xs) (map shown_as last)
    ∙ ap (λ z. s.outputs.before ++ z) (sym (map-append shown_as xs last) ∙ ap (map shown_as) (sym (append_assoc xs ys g.store.outputs)))
    ∙ s.outputs.joined in
    stands-with (untaken (xs ++ ys) g) c s s.count s.logs s.shown (record { before = s.outputs.before ++ map shown_as xs; joined = joined }) s.heard s.resumed s.out

-- with none
pub stands-taken : (outputs : List Output) (g : TheGateway) (c : Cluster) → Stands (untaken outputs g) c → Stands g c
stands-taken outputs g c s = stands-fewer outputs [] g c (subst (λ z. Stands (untaken z g) c) (sym (append-nil outputs)) s)

-- it goes where the other does, with fewer
pub goes-fewer : (xs ys : List Output) (g : TheGateway) (c : Cluster) → Goes (untaken (xs ++ ys) g) c → Goes (untaken ys g) c
goes-fewer xs ys g c w = record { events = w.events; run = w.run; by = w.by; acts = w.acts; stands = stands-fewer xs ys g _ w.stands }

pub goes-taken-out : (outputs : List Output) (g : TheGateway) (c : Cluster) → Goes (untaken outputs g) c → Goes g c
goes-taken-out outputs g c w = record { events = w.events; run = w.run; by = w.by; acts = w.acts; stands = stands-taken outputs g _ w.stands }

-- ---- each of its calls is one of the gateway

module _ (outputs : List Output) where
  abbrev U : TheGateway → TheGateway
  U g = untaken outputs g

  shows-so : (o : Output) (g : TheGateway) → happens (changes.Shown o) (U g) ≡ U (happens (changes.Shown o) g)
  shows-so o g = ap (λ os. record (happens (changes.Shown o) (U g)) { store = record (applied (changes.Shown o) g.store) { outputs = os } }) (append_assoc outputs g.store.outputs (o ∷ []))

  -- whichever it is
  both-so : (b : Bool) (x y m n : TheGateway) → x ≡ U m → y ≡ U n → (if b then x else y) ≡ U (if b then m else n)
  both-so true x y m n e f = e
  both-so false x y m n e f = f

  arrived-so : (i : ℕ) (o : Output) (g : TheGateway) → arrived i o (U g) ≡ U (arrived i o g)
  arrived-so i o g =
      let m : TheGateway = if is_next o g then happens (changes.Shown o) g else g in
      let n : TheGateway = if is_next o g then happens (changes.Shown o) (U g) else U g in
      let here : n ≡ U m = both-so (is_next o g) (happens (changes.Shown o) (U g)) (U g) (happens (changes.Shown o) g) g (shows-so o g) refl in
      both-so (not (i == (peer_of o.process g).heard) || nat_lt ((peer_of o.process g).shown + 1) o.ssn) (U g) (says_shown o.process n) g (says_shown o.process m) refl (ap (says_shown o.process) here)

  recorded-so : (p i ssn k : ℕ) (g : TheGateway) → recorded_by p i ssn k (U g) ≡ U (recorded_by p i ssn k g)
  recorded-so p i ssn k g =
      let m : TheGateway = posts p (packets.Acknowledgement i k) (happens (changes.Numbered p ssn k) g) in
      both-so ((i == (peer_of p g).heard) && is_kept ssn (peer_of p g)) (U m) (U g) m g refl refl

  dropped-so : (p k : ℕ) (g : TheGateway) → dropped_by p k (U g) ≡ U (dropped_by p k g)
  dropped-so p k g =
      let n : ℕ = min k (last_of (peer_of p g)) in
      let m : TheGateway = happens (changes.Dropped p n) g in
      both-so (nat_le n (peer_of p g).dropped) (U g) (U m) g m refl refl

  asked-so : (p i k : ℕ) (g : TheGateway) → asked p i k (U g) ≡ U (asked p i k g)
  asked-so p i k g =
      let h : TheGateway = happens (changes.Heard p i false) g in
      let m : TheGateway = if i == (peer_of p g).heard then g else h in
      let n : TheGateway = if i == (peer_of p g).heard then U g else U h in
      let here : n ≡ U m = both-so (i == (peer_of p g).heard) (U g) (U h) g h refl refl in
      both-so (nat_lt i (peer_of p g).heard) (U g) (posts p (told_of p i k g) n) g (posts p (told_of p i k g) m) refl (ap (posts p (told_of p i k g)) here)

  resumed-so : (p i k s : ℕ) (g : TheGateway) → resumed_by p i k s (U g) ≡ U (resumed_by p i k s g)
  resumed-so p i k s g =
      let h : TheGateway = obeyed p i k g in
      let m : TheGateway = if (peer_of p g).resumed then g else h in
      let n : TheGateway = if (peer_of p g).resumed then U g else U h in
      let here : n ≡ U m = both-so (peer_of p g).resumed (U g) (U h) g h refl refl in
      both-so (i == (peer_of p g).heard) (restores p i s n) (U g) (restores p i s m) g (ap (restores p i s) here) refl

  told-so : (p : ℕ) (b : bodies.Body) (g : TheGateway) → told p b (U g) ≡ U (told p b g)
  told-so p (packets.Delivery i ssn x) g = arrived-so i (record { process = p; ssn = ssn; payload = x }) g
  told-so p (packets.Number i ssn k) g = recorded-so p i ssn k g
  told-so p (packets.Saved k) g = dropped-so p k g
  told-so p (packets.Ask i k) g = asked-so p i k g
  told-so p (packets.Resume i k s) g = resumed-so p i k s g
  told-so p other g = refl

  pub handed-alike : (x : NodePacket) (g : TheGateway) → handed x (U g) ≡ U (handed x g)
  handed-alike x g = both-so (is_for g x) (told x.from x.body (U g)) (U g) (told x.from x.body g) g (told-so x.from x.body g) refl

  each-so : (p : ℕ) (ss : List ℕ) (g : TheGateway) → delivers_each p ss (U g) ≡ U (delivers_each p ss g)
  each-so p [] g = refl
  each-so p (s ∷ ss) g = each-so p ss (delivers p s g)

  ticked-so : (k : ℕ) (g : TheGateway) → ticked_to k (U g) ≡ U (ticked_to k g)
  ticked-so zero g = refl
  ticked-so (suc k) g =
      let m : TheGateway = ticked_to k g in
      ap (resent (suc k)) (ticked-so k g) ∙ each-so (suc k) (take m.tick (unnumbered (peer_of (suc k) m).dropped (peer_of (suc k) m).entries)) m

  -- and so is each deal by which nothing is handed out
  pub deals-alike : (g new : TheGateway) → IsQuietDeal g new → IsQuietDeal (U g) (U new)
  deals-alike g new (inl d) = inl (d.0, (d.1.0, (ap U d.1.1.0, record { some = d.1.1.1.some; low = d.1.1.1.low })))
  deals-alike g new (inr (inl e)) = inr (inl (ap U e ∙ sym (ticked-so (length g.store.peers) g)))
  deals-alike g new (inr (inr e)) = inr (inr (ap U e))

-- ---- what its calls owe

quiet-acts : (g new : TheGateway) → IsQuietDeal g new → Acts g new
quiet-acts g new (inl d) = subst (Acts g) (sym d.1.1.0) (putting-in g d.0 d.1.0 d.1.1.1)
quiet-acts g new (inr (inl e)) = subst (Acts g) (sym e) (ticking g)
quiet-acts g new (inr (inr e)) = subst (Acts g) (sym e) (λ c s u. goes-asked g c s)

-- an output that it hands out isn't taken yet, where it was waiting
pub handing-so : (outputs : List Output) (g new : TheGateway) → HandsOut g new → (ks : List Change) × (untaken (outputs ++ handed_out g new) new ≡ record (untaken outputs g) { changes = ks })
handing-so outputs g new h =
    let o : Output = h.output in
    let first : o ∷ drop 1 g.store.outputs ≡ g.store.outputs = ap (λ z. o ∷ drop 1 z) h.waited ∙ sym h.waited in
    let same : (outputs ++ o ∷ []) ++ drop 1 g.store.outputs ≡ outputs ++ g.store.outputs = append_assoc outputs (o ∷ []) (drop 1 g.store.outputs) ∙ ap (λ z. outputs ++ z) first in (
      g.changes ++ changes.Taken 1 ∷ [],
      ap (λ z. untaken (outputs ++ z) new) h.handed
          ∙ ap (untaken (outputs ++ o ∷ [])) h.is
          ∙ ap (λ os. record g { store = record g.store { outputs = os }; changes = g.changes ++ changes.Taken 1 ∷ [] }) same,
    )

-- whatever its host lets the gateway do
pub dealing : (outputs : List Output) (g new : TheGateway) → Deals g new → Acts (untaken outputs g) (untaken (outputs ++ handed_out g new) new)
dealing outputs g new d = by (deals-so g new d)
  where
    quiet : handed_out g new ≡ [] → Acts (untaken outputs g) (untaken outputs new) → Acts (untaken outputs g) (untaken (outputs ++ handed_out g new) new)
    quiet none a = subst (λ z. Acts (untaken outputs g) (untaken z new)) (sym (ap (λ z. outputs ++ z) none ∙ append-nil outputs)) a

    rests : handed_out g new ≡ [] → (new ≡ g) ⊎ IsQuietDeal g new → Acts (untaken outputs g) (untaken (outputs ++ handed_out g new) new)
    rests none (inl same) = quiet none (subst (λ z. Acts (untaken outputs g) (untaken outputs z)) (sym same) (acts-self (untaken outputs g)))
    rests none (inr q) = quiet none (quiet-acts (untaken outputs g) (untaken outputs new) (deals-alike outputs g new q))

    by : DealsSo g new → Acts (untaken outputs g) (untaken (outputs ++ handed_out g new) new)
    by (inl h) =
        let m = handing-so outputs g new h in
        subst (Acts (untaken outputs g)) (sym m.1) (λ c s u. stays (record (untaken outputs g) { changes = m.0 }) c (stands-waiting (untaken outputs g) c s s.out))
    by (inr r) = rests r.0 r.1

-- a packet that it is handed
pub handing : (outputs : List Output) (x : NodePacket) (g new : TheGateway) → new ≡ handed x g → IsHanded x (untaken outputs g) (untaken outputs new)
handing outputs x g new e = subst (IsHanded x (untaken outputs g)) (handed-alike outputs x g ∙ ap (untaken outputs) (sym e)) (handed-so x (untaken outputs g))
