-- Results, and what waits to be taken
use Rattle.std.proofs.Common.{◌≡◌, List, [], ◌∷◌, Option, Some, None, Result, Ok, Err, IfOk, OnOk, ap, subst, ◌∙◌}
use Rattle.std.specs.List.{AllByRecursion}
use Rattle.packets.specs.declared.packet.NodePacket.{NodePacket}
use Rattle.cluster.specs.Cluster.{Cluster}
use Rattle.packets.specs.Outbox.{Pops}
use Rattle.packets.specs.Says.{PutOut}
use Rattle.gateway.specs.Gateway.{TheGateway}
use Rattle.gateway.specs.Stands.{Stands, Takes}
use Rattle.gateway.proofs.Steps.{stands-waiting}

pub on-ok : {X E : Type 0} (r : Result X E) (P Q : Type 0) → (P → Q) → OnOk r P → OnOk r Q
on-ok (Ok x) P Q f h = f h
on-ok (Err e) P Q f h = tt

pub on-ok-two : {X E : Type 0} (r : Result X E) (P Q R : Type 0) → (P → Q → R) → OnOk r P → OnOk r Q → OnOk r R
on-ok-two (Ok x) P Q R f p q = f p q
on-ok-two (Err e) P Q R f p q = tt

pub if-ok : {X E : Type 0} (r : Result X E) (P Q : X → Type 0) → ((x : X) → P x → Q x) → IfOk r P → IfOk r Q
if-ok (Ok x) P Q f p = f x p
if-ok (Err e) P Q f p = tt

-- the first packet that waits leaves
pub takes-so : (o : Option NodePacket) (g : TheGateway) (rest : List NodePacket) → Pops o g.out rest → Takes o g (record g { out = rest })
takes-so None g rest e = (e.0, ap (λ xs. record g { out = xs }) e.1 ∙ ap (λ xs. record g { out = xs }) (let back : [] ≡ g.out = (cc) in back))
takes-so (Some x) g rest e = (ap (λ xs. record g { out = xs }) e, λ c s. taken c s (subst (AllByRecursion (PutOut c 0)) e s.out))
  where
    taken : (c : Cluster) → Stands g c → AllByRecursion (PutOut c 0) (x ∷ rest) → PutOut c 0 x × Stands (record g { out = rest }) c
    taken c s out = (out.0, stands-waiting g c s out.1)
