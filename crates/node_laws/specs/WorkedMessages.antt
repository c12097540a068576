-- The only process of a cluster and the gateway, as three messages come: the first before a checkpoint of the process, two more before it
-- is killed. It comes back and replays these two
use Rattle.std.specs.Prelude.{ℕ, List, [], ◌∷◌, Some, true, false}
use Rattle.packets.specs.declared.packet.Body.{Body}
use Rattle.packets.specs.declared.packet.Body.TheVariants.{Delivery, Number, Acknowledgement, Saved, Ask, Told, Resume, Restored}
use Rattle.packets.specs.declared.packet.NodePacket.{NodePacket}
use Rattle.packets.specs.declared.page.LoggedMessage.{LoggedMessage}
use Rattle.packets.specs.Packet.{flags_of}
use Rattle.node.specs.declared.job.OpenJob.{OpenJob}
use Rattle.node.specs.declared.limit.TheConstants.{PAGE, TICK}
use Rattle.node.specs.Limit.{usual}
use Rattle.node.specs.Node.{TheNode, new_node}
use Rattle.node.specs.Calls as nodes
use Rattle.node.specs.Checkpoints as saving
use Rattle.node.specs.Kept.{kept_of}
use Rattle.recovery.specs.Collection.{TheCollecting, revived}
use Rattle.recovery.specs.Collection as collecting
use Rattle.recovery.specs.Replays.{TheReplaying, did_replay}
use Rattle.recovery.specs.StandsAtReplay.{replayed_of}
use Rattle.recovery.specs.Restoration.{TheRestoring, begun}
use Rattle.recovery.specs.Restoration as restoring
use Rattle.gateway.specs.Gateway.{TheGateway, new_gateway, puts_in}
use Rattle.gateway.specs.Calls as gateways

-- ---- a cluster of any size

-- a packet of a cluster of so many
abbrev pub packet : ℕ → ℕ → ℕ → Body → NodePacket
packet count from to b = record { count = count; from = from; to = to; body = b }

-- the gateway still has to give these packets
abbrev pub gave : List NodePacket → TheGateway → TheGateway
gave out g = record g { out = out }

-- a process that is up gave its packets
abbrev pub quiet : TheNode → TheNode
quiet n = record n { out = [] }

-- one that collects still has to give these packets
abbrev pub collects : List NodePacket → TheCollecting → TheCollecting
collects out n = record n { own = record n.own { out = out } }

-- one that restores its RSNs still has to give these packets
abbrev pub restores : List NodePacket → TheRestoring → TheRestoring
restores out n = record n { own = record n.own { out = out } }

-- ---- its packets

-- the k-th input is this one byte
abbrev pub input : ℕ → List ℕ
input k = k ∷ []

-- the k-th message, to the process
abbrev pub delivery : ℕ → NodePacket
delivery k = packet 1 0 1 (Delivery 1 k (input k))

-- the k-th message has the RSN k
abbrev pub number : ℕ → NodePacket
number k = packet 1 1 0 (Number 1 k k)

-- the gateway acknowledges the k-th RSN
abbrev pub acknowledgement : ℕ → NodePacket
acknowledgement k = packet 1 0 1 (Acknowledgement 1 k)

-- its checkpoint covers one
abbrev pub covers : NodePacket
covers = packet 1 1 0 (Saved 1)

-- the process asks what is logged for it after its first message
abbrev pub ask : NodePacket
ask = packet 1 1 0 (Ask 2 1)

-- the log's entry of the k-th message
abbrev pub entry : ℕ → LoggedMessage
entry k = record { number = k; ssn = k; payload = input k }

-- the gateway tells the second message and the third
abbrev pub told : NodePacket
told = packet 1 0 1 (Told 2 1 1 (flags_of true false true) (entry 2 ∷ entry 3 ∷ []))

-- the process asks under which RSNs its messages were received
abbrev pub resume : NodePacket
resume = packet 1 1 0 (Resume 2 3 0)

-- the gateway answers that it received none
abbrev pub restored : NodePacket
restored = packet 1 0 1 (Restored 2 1 0 0 (flags_of true false true) [])

-- ---- the gateway

-- it took the first input
abbrev pub g1 : TheGateway
g1 = puts_in 1 (input 1) (new_gateway 1 PAGE TICK)

-- it gave that, and heard its RSN
abbrev pub g2 : TheGateway
g2 = gateways.handed (number 1) (gave [] g1)

-- it took the second input
abbrev pub g3 : TheGateway
g3 = puts_in 1 (input 2) (gave [] g2)

-- it took the third input
abbrev pub g4 : TheGateway
g4 = puts_in 1 (input 3) g3

-- it gave both, and heard the RSN of the second
abbrev pub g5 : TheGateway
g5 = gateways.handed (number 2) (gave [] g4)

-- it heard the RSN of the third
abbrev pub g6 : TheGateway
g6 = gateways.handed (number 3) g5

-- it was asked by the process that came back
abbrev pub g7 : TheGateway
g7 = gateways.handed ask (gave [] g6)

-- it was asked for RSNs
abbrev pub g8 : TheGateway
g8 = gateways.handed resume (gave [] g7)

-- ---- the process while it is up

-- the handler ran on the k-th message
abbrev pub works : ℕ → TheNode → TheNode
works k n = nodes.did_work (input k) [] n.working n

-- the process at its opening
abbrev pub n0 : TheNode
n0 = new_node usual 1 1 (0 ∷ [])

-- the first message comes
abbrev pub n1 : TheNode
n1 = nodes.handed (delivery 1) n0

-- the handler ran on the first
abbrev pub n2 : TheNode
n2 = works 1 n1

-- its RSN is acknowledged
abbrev pub n3 : TheNode
n3 = nodes.handed (acknowledgement 1) (quiet n2)

-- it froze its checkpoint
abbrev pub n4 : TheNode
n4 = saving.froze n3

-- its checkpoint is durable
abbrev pub n5 : TheNode
n5 = saving.saved n4

-- the second message comes
abbrev pub n6 : TheNode
n6 = nodes.handed (delivery 2) (quiet n5)

-- the handler ran on the second
abbrev pub n7 : TheNode
n7 = works 2 n6

-- the third message came
abbrev pub n8 : TheNode
n8 = nodes.handed (delivery 3) (quiet n7)

-- the handler ran on the third
abbrev pub n9 : TheNode
n9 = works 3 n8

-- the RSN of the second is acknowledged
abbrev pub n10 : TheNode
n10 = nodes.handed (acknowledgement 2) (quiet n9)

-- ---- the process while it comes back

-- it comes back from its checkpoint
abbrev pub comes : TheCollecting
comes = revived usual (kept_of n4) 2

-- the gateway has told it both messages
abbrev pub has_all : TheCollecting
has_all = collecting.handed told (collects [] comes)

-- the job of the k-th message
abbrev pub job : ℕ → OpenJob
job k = record { sender = 0; ssn = k; payload = input k }

-- it replays the second message and the third
abbrev pub replays : TheReplaying
replays = record { own = has_all.own; plan = job 2 ∷ job 3 ∷ []; done = 0 }

-- it replayed the second
abbrev pub replays_more : TheReplaying
replays_more = did_replay (input 2) [] (Some (job 2)) replays

-- it replayed the third
abbrev pub replayed : TheReplaying
replayed = did_replay (input 3) [] (Some (job 3)) replays_more

-- it begins to ask for RSNs
abbrev pub begins : TheRestoring
begins = begun (replayed_of replayed)

-- the gateway has answered it
abbrev pub has_answer : TheRestoring
has_answer = restoring.handed restored (restores [] begins)
