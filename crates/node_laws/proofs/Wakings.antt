-- A process that was suspended, and the one that is resumed from its bytes
use Rattle.std.proofs.Common.{◌≡◌, ℕ, List, [], true, false, refl, sym, ap, ◌∙◌}
use Rattle.verifier.specs.declared.any_image.AnyImage.{AnyImage}
use Rattle.packets.specs.declared.packet.NodePacket.{NodePacket}
use Rattle.node.specs.declared.limit.Limits.{Limits}
use Rattle.node.specs.Node.{TheNode}
use Rattle.node.specs.Suspension.{woken}
use Rattle.recovery.proofs.Resumptions.{one-node}
use Rattle.recovery.specs.declared.lifecycle.Lifecycle.{Lifecycle}
use Rattle.recovery.specs.declared.lifecycle.Lifecycle.TheVariants.{Up}
use Rattle.process.specs.Process.{TheProcess}
use Rattle.process.specs.Suspension.{Suspends, IsResumed}
use Rattle.node_laws.specs.Inside.Process.{Wakes, stage_of, seen}
use Rattle.node_laws.specs.Inside.Process as stages
use Rattle.node_laws.specs.HostProcess.{Checkpoint, Durable}
use Rattle.node_laws.proofs.Stages.{Fits}

-- one that can be suspended waits for no checkpoint
pub still-seen : (w : Checkpoint) (c : Lifecycle) (bytes : List ℕ) → Fits w c → Suspends c bytes → stage_of c ≡ seen w c
still-seen Durable (Up n) bytes f g = absurd (let no : true ≡ false = sym f ∙ g.can.live in cc (no))
still-seen Durable other bytes f g = absurd f
still-seen other c bytes f g = refl

-- with these limits, and no packet that waits, it is itself
woken-self : (limits : Limits) (m : TheNode) → m.limits ≡ limits → m.out ≡ [] → m ≡ woken limits m
woken-self limits m a b = ap (λ (xs : List NodePacket). record m { out = xs }) b ∙ ap (λ (l : Limits). record m { limits = l; out = [] }) a

-- the bytes are those of one node
pub wakes-up : (limits : Limits) (image : AnyImage) (c : Lifecycle) (bytes : List ℕ) (new : TheProcess) → Suspends c bytes → (r : IsResumed image limits bytes new) → Wakes limits (stage_of c) (stages.Up r.node)
wakes-up limits image (Up n) bytes new g r = (g.can, (r.node, (refl, woken-self limits r.node r.limits_are r.none_waits ∙ one-node limits r.node n bytes r.suspended g)))
wakes-up limits image other bytes new g r = absurd g
