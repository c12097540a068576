-- A process as clauses see it
use Rattle.std.specs.Prelude.{ℕ, List, [], Bool, true, false}
use Rattle.verifier.specs.declared.any_image.AnyImage.{AnyImage}
use Rattle.packets.specs.declared.packet.NodePacket.{NodePacket}
use Rattle.recovery.specs.declared.lifecycle.Lifecycle.{Lifecycle}
use Rattle.recovery.specs.declared.lifecycle.Lifecycle.TheVariants.{Up, Collecting, Replaying, Replayed, Restoring, Passing}

-- the image of its handler; and its stage, with what it holds there
pub record TheProcess : Type 0 where
  pub image : AnyImage
  pub lifecycle : Lifecycle

-- it isn't between two stages
abbrev pub is_settled : Lifecycle → Bool
is_settled Passing = false
is_settled other = true

-- the state that its handler left last; while it collects, the state of its checkpoint
abbrev pub state_of : Lifecycle → List ℕ
state_of (Up n) = n.state
state_of (Collecting n) = n.own.state
state_of (Replaying n) = n.own.state
state_of (Replayed n) = n.own.state
state_of (Restoring n) = n.own.state
state_of Passing = []

-- the packets that wait
abbrev pub out_of : Lifecycle → List NodePacket
out_of (Up n) = n.out
out_of (Collecting n) = n.own.out
out_of (Replaying n) = n.own.out
out_of (Replayed n) = n.own.out
out_of (Restoring n) = n.own.out
out_of Passing = []
