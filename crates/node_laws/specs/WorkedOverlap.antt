-- A worked list of calls of hosts of two durable processes that are killed at once and whose recoveries meet: these failures overlap
use Rattle.std.specs.Prelude.{◌≡◌, ℕ, List, [], ◌∷◌, true, false}
use Rattle.packets.specs.declared.packet.Body.TheVariants.{Told}
use Rattle.packets.specs.declared.packet.NodePacket.{NodePacket}
use Rattle.packets.specs.Packet.{flags_of}
use Rattle.verifier.specs.declared.any_image.AnyImage.{AnyImage}
use Rattle.node.specs.declared.limit.Limits.{Limits}
use Rattle.node.specs.Limit.{usual}
use Rattle.recovery.specs.Collection.{TheCollecting, handed}
use Rattle.recovery.specs.declared.lifecycle.Lifecycle.TheVariants.{Collecting}
use Rattle.node_laws.specs.HostProcess.{is_exact}
use Rattle.node_laws.specs.HostSystem.{HostCall, Gave, Handed, Died, Revived, AreCalls, after_calls}
use Rattle.node_laws.specs.HostLaws.{StaysDurable}
use Rattle.node_laws.specs.WorkedMessages.{packet, collects}
use Rattle.node_laws.specs.Worked.{process}
use Rattle.node_laws.specs.WorkedBeside.{ask, comes, opened, Open, MayOpen}

-- the limits of both
abbrev pub lasting : Limits
lasting = record usual { durable = true }

-- the first process answers the second that all is lost
abbrev pub loss : NodePacket
loss = packet 2 1 2 (Told 2 2 0 (flags_of true true false) [])

-- the first process hears that the other is recovering too
abbrev pub hears : List ℕ → TheCollecting
hears initial = handed (ask 2 1) (comes lasting 1 initial)

-- the second process hears that all is lost
abbrev pub learns : List ℕ → TheCollecting
learns initial = handed loss (collects [] (comes lasting 2 initial))

-- both die, come back, and hear of each other
abbrev pub met : (ℕ → AnyImage) → List ℕ → List HostCall
met images initial =
    Died 1
    ∷ Died 2
    ∷ Revived 1 lasting 2 (process (images 1) (Collecting (comes lasting 1 initial)))
    ∷ Revived 2 lasting 2 (process (images 2) (Collecting (comes lasting 2 initial)))
    ∷ Gave 2 (ask 2 0) (process (images 2) (Collecting (collects (ask 2 1 ∷ []) (comes lasting 2 initial))))
    ∷ Gave 2 (ask 2 1) (process (images 2) (Collecting (collects [] (comes lasting 2 initial))))
    ∷ Handed 1 (ask 2 1) (process (images 1) (Collecting (hears initial)))
    ∷ Gave 1 (ask 1 0) (process (images 1) (Collecting (collects (ask 1 2 ∷ ask 1 2 ∷ loss ∷ []) (hears initial))))
    ∷ Gave 1 (ask 1 2) (process (images 1) (Collecting (collects (ask 1 2 ∷ loss ∷ []) (hears initial))))
    ∷ Gave 1 (ask 1 2) (process (images 1) (Collecting (collects (loss ∷ []) (hears initial))))
    ∷ Gave 1 loss (process (images 1) (Collecting (collects [] (hears initial))))
    ∷ Handed 2 loss (process (images 2) (Collecting (learns initial)))
    ∷ []

-- they are such calls, and both stay durable; in the end one of them isn't exact
pub record IsMet (images : ℕ → AnyImage) (initial : List ℕ) (page tick : ℕ) (bytes : ℕ → List ℕ) : Type 0 where
  pub opens : Open images lasting initial bytes
  pub calls : AreCalls images 2 (opened images lasting initial page tick bytes) (met images initial)
  pub durable : (p : ℕ) → StaysDurable p (met images initial)
  pub inexact : is_exact ((after_calls (opened images lasting initial page tick bytes) (met images initial)).processes 2) ≡ false

-- so it goes for all handlers, opening states and sizes of a page and of a tick
abbrev pub HostsMeet : Type 0
HostsMeet = (images : ℕ → AnyImage) (initial : List ℕ) (page tick : ℕ) (bytes : ℕ → List ℕ) → MayOpen images initial bytes
    → IsMet images initial page tick bytes
