-- Options, and what waits to be taken
use Rattle.std.proofs.Common.{◌≡◌, List, [], ◌∷◌, Option, Some, None, Result, Ok, Err, OnOk, IfOk, is_some, false, refl, ap, subst, ◌∙◌}
use Rattle.packets.specs.declared.packet.NodePacket.{NodePacket}
use Rattle.cluster.specs.Cluster.{Cluster}
use Rattle.packets.specs.Outbox.{Pops}
use Rattle.node.specs.Node.{TheNode}
use Rattle.node.specs.Stands.{Each, Stands, PutOut, Takes}
use Rattle.node.proofs.StandsLemmas.{stands-with}

pub none-is : {X : Type 0} (o : Option X) → is_some o ≡ false → o ≡ None
none-is None e = refl
none-is (Some x) e = absurd (cc)

pub on-ok : {X E : Type 0} (r : Result X E) (P Q : Type 0) → (P → Q) → OnOk r P → OnOk r Q
on-ok (Ok x) P Q f h = f h
on-ok (Err e) P Q f h = tt

pub if-ok : {X E : Type 0} (r : Result X E) (P Q : X → Type 0) → ((x : X) → P x → Q x) → IfOk r P → IfOk r Q
if-ok (Ok x) P Q f h = f x h
if-ok (Err e) P Q f h = tt

pub if-both : {X E : Type 0} (r : Result X E) (P Q : X → Type 0) → IfOk r P → IfOk r Q → IfOk r (λ x. P x × Q x)
if-both (Ok x) P Q h g = (h, g)
if-both (Err e) P Q h g = tt

-- the first packet that waits leaves
pub takes-so : (o : Option NodePacket) (n : TheNode) (rest : List NodePacket) → Pops o n.out rest → Takes o n (record n { out = rest })
takes-so None n rest e = (e.0, ap (λ xs. record n { out = xs }) e.1 ∙ ap (λ xs. record n { out = xs }) (let back : [] ≡ n.out = (cc) in back))
takes-so (Some x) n rest e = (ap (λ xs. record n { out = xs }) e, λ c s. taken c s (subst (Each (PutOut c n.me)) e s.out))
  where
    taken : (c : Cluster) → Stands n c n.me → Each (PutOut c n.me) (x ∷ rest) → PutOut c n.me x × Stands (record n { out = rest }) c n.me
    taken c s out = (out.0, stands-with n c n.me s s.logs s.gates s.heard s.resumed out.1)
