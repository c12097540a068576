-- What was put out, and what pages say of their tellers
use Rattle.std.proofs.Common.{◌≡◌, inl, inr, ℕ, true, false, sym, ap, ◌∙◌, subst}
use Rattle.std.specs.Prelude.{Bool}
use Rattle.cluster.specs.Parcels.{Body, Told, Restored, Flagged, flagged, Said, Parcel, parcel, In}
use Rattle.cluster.specs.Cluster.{Cluster}
use Rattle.cluster.specs.Rules.{Puts}
use Rattle.cluster.specs.Overlap.{Event, Acts, Loses, said_after}
use Rattle.packets.specs.Packet.{is_exact}
use Rattle.packets.specs.Says.{Says, IsFlagged, PutOut, told_end, restored_end}
use Rattle.packets.specs.declared.packet.Body as bodies
use Rattle.packets.specs.declared.packet.Body.TheVariants as packets
use Rattle.packets.specs.declared.packet.NodePacket.{NodePacket}

-- a page says that its teller is exact if it is
abbrev pub Tells : Bool → bodies.Body → Type 0
Tells exact (packets.Told i j k flags entries) = is_exact flags ≡ exact
Tells exact (packets.Restored i j n s flags pairs) = is_exact flags ≡ exact
Tells exact body = Unit {0}

-- no event takes back what pages said
pub said-more : (c : Cluster) (e : Event) (y : Flagged) → Said y c.said → Said y (said_after c e)
said-more c (Acts exact (Puts p d (Told i j k u f))) y h = inr h
said-more c (Acts exact (Puts p d (Restored i j n r u f))) y h = inr h
said-more c (Loses q p i j k) y h = inr h
said-more c e y h = h

-- what a page says of its teller is said when it is put out
pub flagged-put : (c : Cluster) (p d : ℕ) (x : bodies.Body) (b : Body) → Says p x b → Tells (c.exact p) x → IsFlagged (said_after c (Acts true (Puts p d b))) (parcel p d b) x
flagged-put c p d (packets.Told i j k flags entries) b (f, is, lost, more) e =
    subst (λ z. Said (flagged (parcel p d z) (is_exact flags) false) (said_after c (Acts true (Puts p d z)))) (sym is) (inl (ap (λ t. flagged (parcel p d (Told i j k (told_end flags k entries) f)) t false) e))
flagged-put c p d (packets.Restored i j n s flags pairs) b (f, is, more) e =
    subst (λ z. Said (flagged (parcel p d z) (is_exact flags) false) (said_after c (Acts true (Puts p d z)))) (sym is) (inl (ap (λ t. flagged (parcel p d (Restored i j n s (restored_end flags s pairs) f)) t false) e))
flagged-put c p d x b says e = tt

-- a packet that was put out still is, if as much was put out and said
pub put-still : (c d : Cluster) (p : ℕ) (x : NodePacket) → c.world.count ≡ d.world.count → ((y : Parcel) → In y c.parcels → In y d.parcels) → ((y : Flagged) → Said y c.said → Said y d.said)
    → PutOut c p x → PutOut d p x
put-still c d p x many more said o = record {
  count_is = o.count_is ∙ many;
  from = o.from;
  said = (o.said.0, o.said.1, more (parcel p x.to o.said.0) o.said.2, flagged-still x.body o.said.3);
}
  where
    flagged-still : (b : bodies.Body) → IsFlagged c.said (parcel p x.to o.said.0) b → IsFlagged d.said (parcel p x.to o.said.0) b
    flagged-still (packets.Told i j k flags entries) h = said (flagged (parcel p x.to o.said.0) (is_exact flags) false) h
    flagged-still (packets.Restored i j n s flags pairs) h = said (flagged (parcel p x.to o.said.0) (is_exact flags) false) h
    flagged-still b h = tt
