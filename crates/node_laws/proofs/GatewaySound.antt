-- What the gateway says of lives
use Rattle.std.proofs.Common.{◌≡◌, ℕ, true, false, sym, subst, inl, inr}
use Rattle.packets.specs.declared.packet.Body as bodies
use Rattle.packets.specs.declared.packet.Body.TheVariants as packets
use Rattle.packets.specs.declared.packet.NodePacket.{NodePacket}
use Rattle.packets.proofs.Reports.{lost-is}
use Rattle.stores.specs.Store.{TheStore}
use Rattle.gateway.specs.Gateway.{TheGateway, packet_of}
use Rattle.gateway.specs.Calls.{told_all, handed}
use Rattle.node_laws.specs.HostSystem.{Deals}
use Rattle.node_laws.proofs.Sound.{Says, IsSound, AreSound, exact-is}
use Rattle.node_laws.proofs.HeldGateway.{IsPlain, DealsSo, deals-so, AnswersSo}
use Rattle.node_laws.proofs.HeldGateway as held

module _ (lives : ℕ → ℕ) (back : ℕ → Type 0) where
  -- nothing is asked of its store
  abbrev Any : TheStore → Type 0
  Any s = Unit {0}

  plain : (to : ℕ) (b : bodies.Body) (g : TheGateway) → IsPlain b → IsSound lives back (packet_of g to b)
  plain to (packets.Delivery i ssn x) g p = tt
  plain to (packets.Acknowledgement i k) g p = tt
  plain to (packets.Saved k) g p = tt
  plain to other g p = absurd p

  -- what its host lets it do
  pub deals : (g new : TheGateway) → Deals g new → AreSound lives back g.out → AreSound lives back new.out
  deals g new d o = by (deals-so g new d)
    where
      by : DealsSo g new → AreSound lives back new.out
      by (inl h) = let P : TheGateway → Type 0 = λ z. AreSound lives back z.out in subst P (sym h.is) o
      by (inr q) = (held.quiet (IsSound lives back) plain Any (λ p z s e a. a) g new q.1 (record { out = o; store = tt })).out

  -- its pages are of one that is exact, in its only life
  answers : (p to : ℕ) (b : bodies.Body) (g : TheGateway) → lives 0 ≡ 1 → Says lives back p to b → AnswersSo (IsSound lives back) plain Any (λ q z s e a. a) p b g
  answers p to (packets.Ask i k) g one low = λ m. (low, λ w f. (lost-is (told_all p k g) true, (exact-is (told_all p k g) false, sym one)))
  answers p to (packets.Resume i k r) g one low = λ m. (low, λ w f. (exact-is true false, sym one))
  answers p to other g one h = tt

  pub hands : (x : NodePacket) (g : TheGateway) → lives 0 ≡ 1 → IsSound lives back x → AreSound lives back g.out → AreSound lives back (handed x g).out
  hands x g one h o = (held.hands (IsSound lives back) plain Any (λ p z s e a. a) x g (answers x.from x.to x.body g one h) (λ to of i ssn y is next t. tt) (record { out = o; store = tt })).out
