-- What anyone has of a durable process is what is stored of it to be sent
use Rattle.std.proofs.Common.{◌≡◌, ℕ, suc, ◌<◌, List, [], ◌∷◌, ◌++◌, length, take, map, Bool, true, false, refl, sym, ap, ◌∙◌, subst, arith, append_assoc}
use Rattle.std.specs.Prelude.{Some, ◌==◌, ◌||◌, slice_get, if◌then◌else◌}
use Rattle.std.proofs.lemmas.Bool.Decides.{nat_tests}
use Rattle.theorems.specs.Growth.{Begins}
use Rattle.theorems.proofs.ListLemmas.{nth-prefix, begins-take, take-all, get-prefix, get-last}
use Rattle.world.specs.declared.message.Message.{Message}
use Rattle.world.specs.History.{Payload, nth}
use Rattle.world.specs.Handlers.{Handlers}
use Rattle.world.specs.Logs.{payloads}
use Rattle.cluster.specs.Parcels.{Delivery, In, parcel}
use Rattle.cluster.specs.Cluster.{Cluster}
use Rattle.cluster.specs.Overlap.{Event, after_events, goes, kept_sends}
use Rattle.cluster.specs.Exact.{Steps}
use Rattle.cluster.specs.DurablePromises.{lasts}
use Rattle.cluster.proofs.Firm.{Firm}
use Rattle.cluster.proofs.DurablePromised.{IsFirm, step-firm}
use Rattle.cluster.proofs.Goes.{own-events}
use Rattle.packets.specs.declared.packet.Body as bodies
use Rattle.packets.specs.declared.packet.Body.TheVariants as packets
use Rattle.packets.specs.declared.packet.NodePacket.{NodePacket}
use Rattle.packets.specs.Says.{WasSaid}
use Rattle.node.specs.Stands.{Each, InOrderFrom, doer}
use Rattle.node.proofs.Lists.{all-more}
use Rattle.recovery.specs.Overlap.{is_loss}
use Rattle.recovery.specs.Stands.{IsSent}
use Rattle.stores.specs.declared.change.Output.{Output}
use Rattle.gateway.specs.Gateway.{TheGateway}
use Rattle.gateway.specs.Stands.{EndsWith, Goes, shown_as}
use Rattle.node_laws.specs.Inside.Process.{Process}
use Rattle.node_laws.specs.Durable.{IsOf, IsSentBy, Knows}
use Rattle.node_laws.proofs.Along.{along}
use Rattle.node_laws.proofs.Events.{later-events}
use Rattle.node_laws.proofs.Messages.{messages, send-more}

-- what holds of each by its place holds of all
each-get : {X : Type 0} (P : X → Type 0) (xs : List X) → ((i : ℕ) (x : X) → slice_get xs i ≡ Some x → P x) → Each P xs
each-get P [] g = tt
each-get P (x ∷ xs) g = (g 0 x refl, each-get P xs (λ i y e. g (suc i) y e))

-- ---- along a run

events-firm : (c : Cluster) (es : List Event) → IsFirm c → Steps c es → IsFirm (after_events c es)
events-firm c [] h r = h
events-firm c (e ∷ es) h r = events-firm (goes c e) es (step-firm c e h r.0.0) r.1

-- events of the gateway leave what a checkpoint sends
sends-beside : (p d : ℕ) (c : Cluster) (es : List Event) → 0 < p → Each (λ (e : Event). doer e ≡ 0) es → kept_sends (after_events c es) p d ≡ kept_sends c p d
sends-beside p d c es some by =
    along (λ x. kept_sends x p d ≡ kept_sends c p d) p 0 es c
    (λ a b s e. let off : (p == 0) ≡ false = grind (arith, nat_tests) in let same : kept_sends b p d ≡ kept_sends a p d = rw (off, s.handlers, s.saved, s.history) refl in same ∙ e) (λ e. absurd (omega (arith, some, e))) by refl

-- so it is where the same are durable
pub firm-after : (D : ℕ → Bool) (c : Cluster) (es : List Event) → c.durable ≡ D → Firm (lasts D) c → Steps c es → Firm (lasts D) (after_events c es)
firm-after D c es same h r =
    let there : IsFirm (after_events c es) = events-firm c es (subst (λ d. Firm (lasts d) c) (sym same) h) r in
    subst (λ d. Firm (lasts d) (after_events c es)) ((later-events c es).durable ∙ same) there

-- ---- at a moment

-- this output is what its process's checkpoint sends, if it is durable
abbrev pub IsBorne : (ℕ → Bool) → Cluster → Output → Type 0
IsBorne D c o = D o.process ≡ true → nth (kept_sends c o.process 0) o.ssn ≡ Some o.payload

module _ (D : ℕ → Bool) (c : Cluster) (firm : Firm (lasts D) c) where
  lasting : (p : ℕ) → D p ≡ true → lasts D p ≡ true
  lasting p e = ap (λ b. (p == 0) || b) e ∙ always (p == 0)
    where
      always : (b : Bool) → (b || true) ≡ true
      always true = refl
      always false = refl

  -- the outputs that were shown last are so
  borne-from : (before : List Message) (os : List Output) → before ++ map shown_as os ≡ c.world.shown → Each (IsBorne D c) os
  borne-from before [] e = tt
  borne-from before (o ∷ os) e =
      let parts : (before ++ shown_as o ∷ []) ++ map shown_as os ≡ c.world.shown = append_assoc before (shown_as o ∷ []) (map shown_as os) ∙ e in
      let at : slice_get c.world.shown (length before) ≡ Some (shown_as o) =
      subst (λ z. slice_get z (length before) ≡ Some (shown_as o)) parts (get-prefix (before ++ shown_as o ∷ []) (map shown_as os) (length before) (shown_as o) (get-last before (shown_as o))) in
      (λ d. (firm.shown o.process (lasting o.process d)).each (length before) (shown_as o) at refl, borne-from (before ++ shown_as o ∷ []) os parts)

  pub borne : (os : List Output) → EndsWith os c.world.shown → Each (IsBorne D c) os
  borne os e = borne-from e.before os e.joined

  module _ (process : ℕ → Process) (some : (p : ℕ) → D p ≡ true → 0 < p) where
    abbrev F : Handlers
    F = c.world.handlers

    abbrev H : ℕ → List Message
    H p = messages (process p) c p

    -- what a checkpoint sends, all that is stored does
    pub sent : (p d ssn : ℕ) (x : Payload) → D p ≡ true → nth (kept_sends c p d) ssn ≡ Some x → nth (F.sends p (H p) d) ssn ≡ Some x
    sent p d ssn x is e =
        let low : 0 < p = some p is in
        let off : (p == 0) ≡ false = grind (arith, nat_tests) in
        let there : nth (payloads c.world p (H p) d) ssn ≡ Some x = nth-prefix _ _ ssn x (send-more (process p) c p d firm.grows (firm.within p)) e in
        subst (λ b. nth (if b then c.world.inputs d else F.sends p (H p) d) ssn ≡ Some x) off there

    -- so a packet says what is stored to be sent
    pub said : (x : NodePacket) → D x.from ≡ true → IsSent c x.from x → IsSentBy F x.from (H x.from) x
    said x is o = by x.body (λ e. (o.2 e).said)
      where
        by : (b : bodies.Body) → (is_loss b ≡ false → WasSaid c x.from x.to b) → IsOf (F.sends x.from (H x.from) x.to) b
        by (packets.Delivery i ssn y) said =
            let w = said refl in
            let same : w.0 ≡ Delivery i ssn y = cc (w.1) in
            let there : In (parcel x.from x.to (Delivery i ssn y)) c.parcels = subst (λ z. In (parcel x.from x.to z) c.parcels) same w.2 in
            sent x.from x.to ssn y is ((firm.parcels x.from x.to (Delivery i ssn y) there).1 (lasting x.from is))
        by other w = tt

    -- and what a process received is that
    pub knows : (p : ℕ) (h : List Message) → ((k : ℕ) → InOrderFrom (λ q. 0) (take k (c.world.history p))) → Begins h (c.world.history p) → Knows F D H p h
    knows p h ordered b =
        let all : take (length h) (c.world.history p) ≡ h = begins-take h (c.world.history p) b (length h) (omega arith) ∙ take-all h in
        record {
          ordered = subst (InOrderFrom (λ q. 0)) all (ordered (length h));
          known = each-get _ h (λ i m e is. sent m.sender p m.ssn m.payload is
              ((firm.received m.sender p (lasting m.sender is)).each i m (subst (λ z. slice_get z i ≡ Some m) b.1 (get-prefix h b.0 i m e)) refl));
        }

-- what the gateway has still to hand out, as far as it went ahead
pub borne-ahead : (D : ℕ → Bool) (c : Cluster) → ((p : ℕ) → D p ≡ true → 0 < p) → c.durable ≡ D → Firm (lasts D) c → (g : TheGateway) → Goes g c → Each (IsBorne D c) g.store.outputs
borne-ahead D c some same firm g w =
    let d : Cluster = after_events c w.events in
    all-more (IsBorne D d) (IsBorne D c) g.store.outputs (λ o b e. ap (λ xs. nth xs o.ssn) (sym (sends-beside o.process 0 c w.events (some o.process e) (own-events 0 w.events w.by))) ∙ b e)
    (borne D d (firm-after D c w.events same firm w.run) g.store.outputs w.stands.outputs)
