-- What was put out stays so
use Rattle.std.proofs.Common.{◌≡◌, ℕ, List}
use Rattle.cluster.specs.Parcels.{Parcel, Flagged, Said, In}
use Rattle.cluster.specs.Cluster.{Cluster}
use Rattle.packets.specs.declared.packet.NodePacket.{NodePacket}
use Rattle.packets.specs.Says.{PutOut}
use Rattle.packets.proofs.Outgoing.{put-still}
use Rattle.node.specs.Stands.{Each}
use Rattle.node.proofs.Lists.{all-more}

-- packets that were put out still are where more was sent and said
pub all-still : (c d : Cluster) (p : ℕ) (xs : List NodePacket) → c.world.count ≡ d.world.count → ((x : Parcel) → In x c.parcels → In x d.parcels) → ((f : Flagged) → Said f c.said → Said f d.said) → Each (PutOut c p) xs → Each (PutOut d p) xs
all-still c d p xs same more says = all-more (PutOut c p) (PutOut d p) xs (λ x. put-still c d p x same more says)
