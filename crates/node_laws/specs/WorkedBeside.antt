-- A worked list of calls of hosts: of two processes one is killed while the other is up, and comes back from the answers of the other and
-- the gateway
use Rattle.std.specs.Prelude.{◌≡◌, ℕ, List, [], ◌∷◌, length, true, false}
use Rattle.packets.specs.declared.packet.Body.TheVariants.{Ask, Told, Resume, Restored}
use Rattle.packets.specs.declared.packet.NodePacket.{NodePacket}
use Rattle.packets.specs.Packet.{flags_of}
use Rattle.packets.specs.Kept.{IsKept}
use Rattle.verifier.specs.declared.any_image.AnyImage.{AnyImage}
use Rattle.verifier.specs.AnyImage.{state_of}
use Rattle.node.specs.declared.limit.Limits.{Limits}
use Rattle.node.specs.Limit.{usual}
use Rattle.node.specs.Node.{TheNode, new_node}
use Rattle.node.specs.Calls as nodes
use Rattle.node.specs.Transmission.{ticked}
use Rattle.node.specs.Kept.{kept_of}
use Rattle.recovery.specs.Collection.{TheCollecting, revived}
use Rattle.recovery.specs.Collection as collecting
use Rattle.recovery.specs.StandsAtReplay.{replayed_of}
use Rattle.recovery.specs.Restoration.{TheRestoring, begun, up}
use Rattle.recovery.specs.Restoration as restoring
use Rattle.gateway.specs.Gateway.{TheGateway, new_gateway}
use Rattle.gateway.specs.Calls as gateways
use Rattle.recovery.specs.declared.lifecycle.Lifecycle.TheVariants.{Up, Collecting, Restoring}
use Rattle.node_laws.specs.HostProcess.{IsFirst, IsUp}
use Rattle.node_laws.specs.HostSystem.{System, Opens, new_system, HostCall, Gave, Handed, Died, Revived, GaveOut, HandedOut, StoredOut}
use Rattle.node_laws.specs.HostSystem.{AreCalls, after_calls}
use Rattle.node_laws.specs.HostLaws.{OneAtATime}
use Rattle.node_laws.specs.WorkedMessages.{packet, gave, quiet, collects, restores}
use Rattle.node_laws.specs.Worked.{process}

-- ---- packets between the first process, the second and the gateway

-- the question of a process in its second incarnation
abbrev pub ask : ℕ → ℕ → NodePacket
ask from to = packet 2 from to (Ask 2 0)

-- its request for the RSNs of its messages
abbrev pub resume : ℕ → NodePacket
resume to = packet 2 1 to (Resume 2 0 0)

-- the answers: there is nothing
abbrev pub told : ℕ → NodePacket
told from = packet 2 from 1 (Told 2 1 0 (flags_of true false true) [])

-- a peer answers that it has none
abbrev pub restored : ℕ → NodePacket
restored from = packet 2 from 1 (Restored 2 1 0 0 (flags_of true false true) [])

-- ---- the gateway, with this size of a page and of a tick

-- it took the question
abbrev pub asked : ℕ → ℕ → TheGateway
asked page tick = gateways.handed (ask 1 0) (new_gateway 2 page tick)

-- and then the request for RSNs
abbrev pub resumed : ℕ → ℕ → TheGateway
resumed page tick = gateways.handed (resume 0) (gave [] (asked page tick))

-- ---- the second process, with its opening state

-- it took the question
abbrev pub other_asked : List ℕ → TheNode
other_asked initial = nodes.handed (ask 1 2) (new_node usual 2 2 initial)

-- and then the request for RSNs
abbrev pub other_resumed : List ℕ → TheNode
other_resumed initial = nodes.handed (resume 2) (quiet (other_asked initial))

-- ---- the first process

-- the process p comes back with these limits
abbrev pub comes : Limits → ℕ → List ℕ → TheCollecting
comes limits p initial = revived limits (kept_of (new_node usual p 2 initial)) 2

-- the gateway has answered it
abbrev pub hears : List ℕ → TheCollecting
hears initial = collecting.handed (told 0) (collects [] (comes usual 1 initial))

-- the other process has answered too, so it has all answers
abbrev pub has_all : List ℕ → TheCollecting
has_all initial = collecting.handed (told 2) (hears initial)

-- it replays an empty plan, and begins to ask for RSNs
abbrev pub begins : List ℕ → TheRestoring
begins initial = begun (replayed_of (record { own = (has_all initial).own; plan = []; done = 0 }))

-- the gateway has told it the RSNs
abbrev pub enters : List ℕ → TheRestoring
enters initial = restoring.handed (restored 0) (restores [] (begins initial))

-- the other process has told it the RSNs too
abbrev pub has_answers : List ℕ → TheRestoring
has_answers initial = restoring.handed (restored 2) (enters initial)

-- ---- the calls

-- from its death until it is up again
abbrev pub worked : (ℕ → AnyImage) → List ℕ → ℕ → ℕ → List HostCall
worked images initial page tick =
    Died 1
    ∷ Revived 1 usual 2 (process (images 1) (Collecting (comes usual 1 initial)))
    -- it asks the gateway and the second process, and both answer
    ∷ Gave 1 (ask 1 0) (process (images 1) (Collecting (collects (ask 1 2 ∷ []) (comes usual 1 initial))))
    ∷ Gave 1 (ask 1 2) (process (images 1) (Collecting (collects [] (comes usual 1 initial))))
    ∷ HandedOut (ask 1 0) (asked page tick)
    ∷ StoredOut
    ∷ GaveOut (told 0) (gave [] (asked page tick))
    ∷ Handed 2 (ask 1 2) (process (images 2) (Up (other_asked initial)))
    ∷ Gave 2 (told 2) (process (images 2) (Up (quiet (other_asked initial))))
    ∷ Handed 1 (told 0) (process (images 1) (Collecting (hears initial)))
    -- with the last answer it has nothing to replay, and begins to restore its RSNs
    ∷ Handed 1 (told 2) (process (images 1) (Restoring (begins initial)))
    ∷ Gave 1 (resume 0) (process (images 1) (Restoring (restores (resume 2 ∷ []) (begins initial))))
    ∷ Gave 1 (resume 2) (process (images 1) (Restoring (restores [] (begins initial))))
    ∷ HandedOut (resume 0) (resumed page tick)
    ∷ StoredOut
    ∷ GaveOut (restored 0) (gave [] (resumed page tick))
    ∷ Handed 2 (resume 2) (process (images 2) (Up (other_resumed initial)))
    ∷ Gave 2 (restored 2) (process (images 2) (Up (quiet (other_resumed initial))))
    ∷ Handed 1 (restored 0) (process (images 1) (Restoring (enters initial)))
    ∷ Handed 1 (restored 2) (process (images 1) (Up (ticked (up (has_answers initial)))))
    ∷ []

-- two processes with these limits and their gateway, before their first call
abbrev pub opened : (ℕ → AnyImage) → Limits → List ℕ → ℕ → ℕ → (ℕ → List ℕ) → System
opened images limits initial page tick bytes = new_system 2 (λ p. process (images p) (Up (new_node limits p 2 initial))) bytes page tick

-- they open so
abbrev pub Open : (ℕ → AnyImage) → Limits → List ℕ → (ℕ → List ℕ) → Type 0
Open images limits initial bytes =
    Opens 2 images (λ _. limits) (λ p. process (images p) (Up (new_node limits p 2 initial))) (λ _. initial) bytes

-- the opening state is as long as their images say, and these bytes are stored of them
abbrev pub MayOpen : (ℕ → AnyImage) → List ℕ → (ℕ → List ℕ) → Type 0
MayOpen images initial bytes =
    (p : ℕ) → IsFirst 2 p → (length initial ≡ state_of (images p)) × IsKept (kept_of (new_node usual p 2 initial)) (bytes p)

-- they are such calls, and the first process dies alone; then it is up in its second incarnation, and the other in its first
pub record IsWorked (images : ℕ → AnyImage) (initial : List ℕ) (page tick : ℕ) (bytes : ℕ → List ℕ) : Type 0 where
  pub opens : Open images usual initial bytes
  pub calls : AreCalls images 2 (opened images usual initial page tick bytes) (worked images initial page tick)
  pub alone : OneAtATime 2 (opened images usual initial page tick bytes) (worked images initial page tick)
  pub node : TheNode
  pub is_up : IsUp node ((after_calls (opened images usual initial page tick bytes) (worked images initial page tick)).processes 1)
  pub life : node.life ≡ 2
  pub exact : node.exact ≡ true
  pub other : IsUp (quiet (other_resumed initial))
      ((after_calls (opened images usual initial page tick bytes) (worked images initial page tick)).processes 2)

-- so it goes for all handlers, opening states and sizes of a page and of a tick
abbrev pub HostsComeBackBeside : Type 0
HostsComeBackBeside = (images : ℕ → AnyImage) (initial : List ℕ) (page tick : ℕ) (bytes : ℕ → List ℕ) → MayOpen images initial bytes
    → IsWorked images initial page tick bytes
