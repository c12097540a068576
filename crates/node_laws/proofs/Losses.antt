-- A packet that says that all is lost is dropped
use Rattle.std.proofs.Common.{◌≡◌, ℕ, true, false, refl}
use Rattle.packets.specs.declared.packet.Body as bodies
use Rattle.packets.specs.declared.packet.Body.TheVariants as packets
use Rattle.packets.specs.declared.packet.NodePacket.{NodePacket}
use Rattle.node.specs.Node.{TheNode}
use Rattle.node.specs.Transmission.{ticked}
use Rattle.node.specs.Checkpoints.{froze}
use Rattle.node.specs.Calls as nodes
use Rattle.gateway.specs.Gateway.{TheGateway}
use Rattle.gateway.specs.Calls as outside
use Rattle.gateway.proofs.Steps.{by-if}
use Rattle.recovery.specs.Overlap.{is_loss}
use Rattle.node_laws.specs.Losses.{LossIsDropped}

told-node : (from : ℕ) (b : bodies.Body) (n : TheNode) → is_loss b ≡ true → nodes.told from b n ≡ n
told-node from (packets.Told i j k flags entries) n e = refl
told-node from (packets.Restored i j k s flags pairs) n e = refl
told-node from other n e = absurd (let z : false ≡ true = e in cc)

told-gateway : (from : ℕ) (b : bodies.Body) (g : TheGateway) → is_loss b ≡ true → outside.told from b g ≡ g
told-gateway from (packets.Told i j k flags entries) g e = refl
told-gateway from (packets.Restored i j k s flags pairs) g e = refl
told-gateway from (packets.Acknowledgement i k) g e = refl
told-gateway from other g e = absurd (let z : false ≡ true = e in cc)

pub loss-is-dropped : LossIsDropped
loss-is-dropped = (λ x n e. by-if (λ z. z ≡ n) (nodes.is_for n x) _ n (λ t. told-node x.from x.body n e) (λ t. refl), λ x g e. by-if (λ z. z ≡ g) (outside.is_for g x) _ g (λ t. told-gateway x.from x.body g e) (λ t. refl))

-- and one that waits for its checkpoint changes nothing
pub handed-rests : (x : NodePacket) (n : TheNode) → n.frozen ≡ true → nodes.handed x n ≡ n
handed-rests x n e = rw e refl

pub ticked-rests : (n : TheNode) → n.frozen ≡ true → ticked n ≡ n
ticked-rests n e = rw e refl

pub froze-rests : (n : TheNode) → n.frozen ≡ true → froze n ≡ n
froze-rests n e = rw e refl
