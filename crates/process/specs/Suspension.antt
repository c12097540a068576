-- Processes that are suspended and resumed
use Rattle.std.specs.Prelude.{◌≡◌, ◌≢◌, List, ℕ, [], length, ⊤}
use Rattle.verifier.specs.declared.any_image.AnyImage.{AnyImage}
use Rattle.verifier.specs.AnyImage.{state_of}
use Rattle.node.specs.declared.limit.Limits.{Limits}
use Rattle.node.specs.Node.{TheNode}
use Rattle.node.specs.Suspension.{CanSuspend, IsSuspended}
use Rattle.recovery.specs.declared.resumption.Unresumed.{Unresumed}
use Rattle.recovery.specs.declared.resumption.Unresumed.TheVariants as node
use Rattle.recovery.specs.declared.lifecycle.Lifecycle.{Lifecycle}
use Rattle.recovery.specs.declared.lifecycle.Lifecycle.TheVariants.{Up}
use Rattle.process.specs.declared.suspension.ResumeError.{ResumeError}
use Rattle.process.specs.declared.suspension.ResumeError.TheVariants.{Memory, Bytes, State}
use Rattle.process.specs.Process.{TheProcess}

-- it is up, and its checkpoint, which is durable, covers all
abbrev pub MaySuspend : Lifecycle → Type 0
MaySuspend (Up n) = CanSuspend n
MaySuspend other = ⊥

-- the bytes are those of its node
abbrev pub Suspends : Lifecycle → List ℕ → Type 0
Suspends (Up n) bytes = IsSuspended n bytes
Suspends other bytes = ⊥

-- the process that is resumed from these bytes, in which no packet waits
pub record IsResumed (image : AnyImage) (limits : Limits) (bytes : List ℕ) (p : TheProcess) : Type 0 where
  pub node : TheNode
  pub image_is : p.image ≡ image
  pub lifecycle_is : p.lifecycle ≡ Up node
  pub suspended : IsSuspended node bytes
  pub limits_are : node.limits ≡ limits
  pub none_waits : node.out ≡ []
  pub long : length node.state ≡ state_of image

-- why no node is resumed
abbrev pub error_of : Unresumed → ResumeError
error_of node.Memory = Memory
error_of node.Bytes = Bytes

-- why none is resumed: the bytes are those of no suspended node, or its state isn't as long as the image's
abbrev pub IsUnresumed : AnyImage → List ℕ → ResumeError → Type 0
IsUnresumed image bytes Memory = ⊤
IsUnresumed image bytes Bytes = (n : TheNode) → ¬ IsSuspended n bytes
IsUnresumed image bytes State = (n : TheNode) × IsSuspended n bytes × (length n.state ≢ state_of image)
