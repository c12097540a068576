-- A packet that says that all is lost is dropped
use Rattle.std.specs.Prelude.{◌≡◌, true}
use Rattle.packets.specs.declared.packet.NodePacket.{NodePacket}
use Rattle.node.specs.Node.{TheNode}
use Rattle.node.specs.Calls as nodes
use Rattle.recovery.specs.Overlap.{is_loss}
use Rattle.gateway.specs.Gateway.{TheGateway}
use Rattle.gateway.specs.Calls as outside

-- as their functions say, nodes that are up and the gateway drop a packet that says that all is lost
abbrev pub LossIsDropped : Type 0
LossIsDropped = ((x : NodePacket) (n : TheNode) → is_loss x.body ≡ true → nodes.handed x n ≡ n)
    × ((x : NodePacket) (g : TheGateway) → is_loss x.body ≡ true → outside.handed x g ≡ g)
