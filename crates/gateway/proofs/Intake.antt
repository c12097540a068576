-- The packet that is taken is the one that waited first
use Rattle.std.proofs.Common.{◌≡◌, List, [], ◌∷◌, sym, ap, subst, ◌∙◌}
use Rattle.std.specs.Prelude.{Option, Some, None, MatchOption}
use Rattle.packets.specs.declared.packet.NodePacket.{NodePacket}
use Rattle.gateway.specs.Gateway.{TheGateway}
use Rattle.gateway.specs.Stands.{Takes}

-- what holds of what there is
pub some-of : {X : Type 0} (o : Option X) (v : X) (A : Type 0) (P : X → Type 0) → o ≡ Some v → MatchOption o A P → P v
some-of None v A P e h = absurd (cc)
some-of (Some x) v A P e h = let same : x ≡ v = (cc) in subst P same h

pub takes-first : (o : Option NodePacket) (old new : TheGateway) (x : NodePacket) (rest : List NodePacket) → old.out ≡ x ∷ rest → Takes o old new → Takes (Some x) old new
takes-first None old new x rest e t = absurd (let g : [] ≡ x ∷ rest = sym t.0 ∙ e in cc)
takes-first (Some y) old new x rest e t =
    let g : y ∷ new.out ≡ x ∷ rest = sym (ap (λ (z : TheGateway). z.out) t.0) ∙ e in
    let same : y ≡ x = (cc) in
    subst (λ z. Takes (Some z) old new) same t
