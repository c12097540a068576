-- The gateway at the opening
use Rattle.std.proofs.Common.{◌≡◌, ℕ, ◌-◌, ◌<◌, ◌≤◌, [], refl, sym, subst, arith}
use Rattle.std.specs.Prelude.{None, true}
use Rattle.std.proofs.lemmas.List.{get_or-replicate, length-replicate}
use Rattle.world.specs.Handlers.{Handlers}
use Rattle.cluster.specs.Cluster.{opening}
use Rattle.stores.specs.Peer.{ThePeer, no_peer}
use Rattle.gateway.specs.Gateway.{new_gateway, peer_of}
use Rattle.gateway.specs.Stands.{Stands, KeepsOf}

pub stands-opened : (count page tick : ℕ) (f : Handlers) → Stands (new_gateway count page tick) (opening count f)
stands-opened count page tick f =
    record {
      count = length-replicate count no_peer;
      stage = refl;
      greeted = refl;
      phase = refl;
      life = refl;
      history = refl;
      exact = refl;
      logs = λ p n. subst (λ z. KeepsOf z 0 [] (λ _. None)) (sym (none p n.0 n.1)) (record { before = []; many = refl; joined = refl; dropped_is = refl; numbers_are = λ i l. absurd (omega (arith, l)); beyond = λ i l. refl });
      shown = λ p n. subst (λ (z : ThePeer). z.shown ≡ 0) (sym (none p n.0 n.1)) refl;
      outputs = record { before = []; joined = refl };
      heard = λ p n. subst (λ (z : ThePeer). 1 ≡ z.heard) (sym (none p n.0 n.1)) refl;
      resumed = λ p n. subst (λ (z : ThePeer). true ≡ z.resumed) (sym (none p n.0 n.1)) refl;
      out = tt;
    }
  where
    none : (p : ℕ) → 0 < p → p ≤ count → peer_of p (new_gateway count page tick) ≡ no_peer
    none p some low = get_or-replicate count (p - 1) no_peer no_peer (omega (arith, some, low))
