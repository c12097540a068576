-- Nodes that are suspended and resumed
use Rattle.std.specs.Prelude.{◌≡◌, ◌⊎◌, ℕ, List, Option}
use Rattle.verifier.specs.declared.any_image.AnyImage.{AnyImage}
use Rattle.process.specs.Process.{TheProcess}
use Rattle.process.specs.Suspension.{MaySuspend, Suspends, IsResumed, IsUnresumed}
use Rattle.process.specs.declared.suspension.ResumeError.{ResumeError}
use Rattle.process.specs.declared.suspension.ResumeError.TheVariants as why
use Rattle.c_handles.specs.Buffer.{IsCopied, IsUncopied, IsUntouched}
use Rattle.c_cluster.specs.declared.nodes.lifetime.NodeLimits.{NodeLimits}
use Rattle.c_calls.specs.declared.nodes.fault.NodeFault.{NodeFault}
use Rattle.c_calls.specs.declared.nodes.fault.NodeFault.TheVariants.{Memory, Handle, Room, Bytes, Unready}
use Rattle.c_calls.specs.Nodes.Answers.{AnswersOfBytes, OfSame, StaysClosed}
use Rattle.c_cluster.specs.Nodes.Lifetime.{AreLimits, limits_of, IsImageIn, Starts, DoesNotStart}

-- the bytes of its node are in the buffer
abbrev pub IsWritten : List ℕ → List ℕ → ℕ → Option TheProcess → Option TheProcess → Type 0
IsWritten out out' size old new = OfSame old new (λ p. (bytes : List ℕ) × Suspends p.lifecycle bytes × IsCopied bytes out out' size)

-- why they aren't: the node can't be suspended now, the buffer is too short, memory ran out, or the handle is closed. Nothing else has
-- changed
abbrev pub IsUnwritten : List ℕ → List ℕ → ℕ → ℕ → Option TheProcess → Option TheProcess → NodeFault → Type 0
IsUnwritten out out' was size old new Unready = OfSame old new (λ p. (¬ MaySuspend p.lifecycle) × IsUntouched out out' was size)
IsUnwritten out out' was size old new Room =
    OfSame old new (λ p. (bytes : List ℕ) × Suspends p.lifecycle bytes × IsUncopied bytes out out' size)
IsUnwritten out out' was size old new Memory = OfSame old new (λ p. IsUntouched out out' was size)
IsUnwritten out out' was size old new Handle = StaysClosed old new × IsUntouched out out' was size
IsUnwritten out out' was size old new other = ⊥

-- it is resumed from these bytes
abbrev pub Resumes : List ℕ → List ℕ → NodeLimits → Option TheProcess → Option TheProcess → Type 0
Resumes file bytes l old new = Starts file (AreLimits l) (λ image p. IsResumed image (limits_of l) bytes p) old new

-- why the bytes are refused: they are those of no suspended node, or its state isn't as long as the image's
abbrev pub AreNoNode : List ℕ → List ℕ → ℕ → Type 0
AreNoNode file bytes f =
    (image : AnyImage) × IsImageIn file image
    × (((f ≡ 1) × IsUnresumed image bytes why.Bytes) ⊎ ((f ≡ 2) × IsUnresumed image bytes why.State))

-- the fault that tells why no process is resumed
abbrev pub IsToldSo : ResumeError → NodeFault → Type 0
IsToldSo why.Memory fault = fault ≡ Memory
IsToldSo why.Bytes fault = fault ≡ Bytes 1
IsToldSo why.State fault = fault ≡ Bytes 2

abbrev pub DoesNotResume : List ℕ → List ℕ → NodeLimits → Option TheProcess → Option TheProcess → NodeFault → Type 0
DoesNotResume file bytes l old new why = DoesNotStart file (AreLimits l) (λ f. AreNoNode file bytes f) old new why

-- the meaning of a code when a process is resumed, by its image file, its bytes and its limits, with the fault's number before and after
abbrev pub AnswersResume : List ℕ → List ℕ → NodeLimits → ℕ → Option TheProcess → Option TheProcess → ℕ → ℕ → Type 0
AnswersResume file bytes l code old new was fault =
    AnswersOfBytes code old new was fault (Resumes file bytes l) (DoesNotResume file bytes l)
