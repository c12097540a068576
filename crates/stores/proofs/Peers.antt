-- What the gateway has of one process, where that of another changes
use Rattle.std.proofs.Common.{◌≡◌, ◌≢◌, ℕ, ◌-◌, ◌<◌, length, Bool, true, false, refl, sym, ap, ◌∙◌, subst, arith}
use Rattle.std.specs.Prelude.{◌==◌}
use Rattle.std.proofs.lemmas.Bool.Decides.{nat_tests}
use Rattle.std.proofs.lemmas.List.{get_or-set_same, get_or-set_other, length-set}
use Rattle.stores.specs.Peer.{ThePeer, no_peer}
use Rattle.stores.specs.Store.{TheStore, IsOf, peer_at, with_peer}

pub here-is : (s : TheStore) (p : ℕ) (new : ThePeer) → IsOf p s → peer_at p (with_peer p new s) ≡ new
here-is s p new o = get_or-set_same s.peers (p - 1) new no_peer (omega (arith, o.some, o.low))

pub there-is : (s : TheStore) (p q : ℕ) (new : ThePeer) → 0 < p → 0 < q → q ≢ p → peer_at q (with_peer p new s) ≡ peer_at q s
there-is s p q new some one apart = get_or-set_other s.peers (p - 1) (q - 1) new no_peer (λ e. apart (omega (arith, e, some, one)))

-- what holds of the new one and of the others holds of each
pub each-peer : (P : ℕ → ThePeer → Type 0) (s : TheStore) (p q : ℕ) (new : ThePeer) → IsOf p s → 0 < q → P p new → (q ≢ p → P q (peer_at q s)) → P q (peer_at q (with_peer p new s))
each-peer P s p q new o one here there = split (q == p) refl
  where
    split : (b : Bool) → (q == p) ≡ b → P q (peer_at q (with_peer p new s))
    split true e =
        let same : p ≡ q = grind (arith, nat_tests) in
        let Q : ℕ → Type 0 = λ z. P z (peer_at z (with_peer p new s)) in
        subst Q same (subst (P p) (sym (here-is s p new o)) here)
    split false e =
        let apart : q ≢ p = grind (arith, nat_tests) in
        subst (P q) (sym (there-is s p q new o.some one apart)) (there apart)

-- a part that is as before in the new one is as before in each
pub same-part : {X : Type 0} (F : ThePeer → X) (s : TheStore) (p q : ℕ) (new : ThePeer) → IsOf p s → 0 < q → F new ≡ F (peer_at p s) → F (peer_at q (with_peer p new s)) ≡ F (peer_at q s)
same-part F s p q new o one same = each-peer (λ z n. F n ≡ F (peer_at z s)) s p q new o one same (λ apart. refl)

pub as-many : (s : TheStore) (p : ℕ) (new : ThePeer) → length (with_peer p new s).peers ≡ length s.peers
as-many s p new = length-set s.peers (p - 1) new

-- a process is still one of those where something changes
pub inside : (s : TheStore) (p : ℕ) (new : ThePeer) → IsOf p s → IsOf p (with_peer p new s)
inside s p new o = record { some = o.some; low = omega (arith, o.low, as-many s p new) }

-- where the same one changes once more
module _ (s : TheStore) (p : ℕ) (mid : ThePeer) (f : ThePeer → ThePeer) (o : IsOf p s) where
  abbrev twice : TheStore
  twice = with_peer p (f (peer_at p (with_peer p mid s))) (with_peer p mid s)

  pub twice-inside : IsOf p twice
  twice-inside = inside (with_peer p mid s) p (f (peer_at p (with_peer p mid s))) (inside s p mid o)

  pub twice-here : peer_at p twice ≡ f mid
  twice-here = here-is (with_peer p mid s) p (f (peer_at p (with_peer p mid s))) (inside s p mid o) ∙ ap f (here-is s p mid o)

  pub twice-many : length twice.peers ≡ length s.peers
  twice-many = as-many (with_peer p mid s) p (f (peer_at p (with_peer p mid s))) ∙ as-many s p mid

  pub each-twice : (P : ℕ → ThePeer → Type 0) (q : ℕ) → 0 < q → P p (f mid) → (q ≢ p → P q (peer_at q s)) → P q (peer_at q twice)
  each-twice P q one here there =
      each-peer P (with_peer p mid s) p q (f (peer_at p (with_peer p mid s))) (inside s p mid o) one (subst (λ z. P p (f z)) (sym (here-is s p mid o)) here)
      (λ apart. subst (P q) (sym (there-is s p q mid o.some one apart)) (there apart))
