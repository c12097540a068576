-- The exports are calls of hosts in crate `node_laws`
use Rattle.std.specs.Prelude.{◌≡◌, ◌<◌, ℕ, List, [], ◌∷◌, length, Some, None}
use Rattle.std.specs.List.{AllByRecursion}
use Rattle.helpers.specs.declared.effects.Who.{Who}
use Rattle.helpers.specs.Effects.{Emitted}
use Rattle.verifier.specs.declared.any_image.AnyImage.{AnyImage}
use Rattle.packets.specs.declared.packet.NodePacket.{NodePacket}
use Rattle.packets.specs.Format.{IsPacket}
use Rattle.node.specs.Answering.{IsOne}
use Rattle.process.specs.declared.call.HandlerTicket.{HandlerTicket}
use Rattle.process.specs.Process.{TheProcess}
use Rattle.process.specs.Revival.{IsOpened}
use Rattle.node_laws.specs.HostProcess.{IsFirst, Checkpoint, Durable, Runs, Sleeps, Killed}
use Rattle.node_laws.specs.HostSystem.{System, HostCall, GaveBytes, HandedBytes, Worked, Answered, Ticked, Froze, Saved, Suspended}
use Rattle.node_laws.specs.HostSystem.{Resumed, Revived, AnswersSo, DoesIt, AreCalls, after_calls}
use Rattle.c_cluster.specs.declared.nodes.lifetime.NodeLimits.{NodeLimits}
use Rattle.c_calls.specs.declared.nodes.fault.NodeFault.{NodeFault}
use Rattle.c_handles.specs.declared.bundle.BundleTally.{BundleTally}
use Rattle.c_handles.specs.Buffer.{IsCopied}
use Rattle.c_handles.specs.Bundle.{IsBundle}
use Rattle.c_calls.specs.Nodes.Bundles.{AreReceived}
use Rattle.c_calls.specs.Nodes.Calls.{IsReceived, HasWorked, HasTicked, IsHeldBack, HasSaved}
use Rattle.c_cluster.specs.Nodes.Results.{AreTaken, IsTaken, IsMade}
use Rattle.c_cluster.specs.Nodes.NodeJob.{IsDone, IsLeftBy, state_in}
use Rattle.c_cluster.specs.Nodes.Lifetime.{limits_of, IsImageIn, Opens, Revives}
use Rattle.c_cluster.specs.Nodes.Suspension.{IsWritten, Resumes}

-- an open handle holds the process p of a system, and holds another after a call
pub record Holds (n : ℕ) (s : System) (p : ℕ) (w : Checkpoint) (old : TheProcess) : Type 0 where
  pub first : IsFirst n p
  pub runs : s.processes p ≡ Runs old w

-- what `done` took from the array and the record is the host's call, if the handler answers exactly that
pub record IsAnswered (images : ℕ
    → AnyImage) (n : ℕ) (s : System) (p : ℕ) (ticket : HandlerTicket) (array bytes : List ℕ) (old new : TheProcess) : Type 0 where
  pub who : Who
  pub effects : Emitted
  pub left : IsLeftBy old.image who array bytes effects
  pub is : AnswersSo (state_in old.image array) effects old → DoesIt images n s (Answered p ticket (state_in old.image array) effects new)

-- what `take` wrote: the bytes of a packet, and its receiver
pub record IsGiven (images : ℕ → AnyImage) (n : ℕ) (s : System) (p : ℕ) (out out' : List ℕ) (size to : ℕ) (new : TheProcess) : Type 0 where
  pub packet : NodePacket
  pub bytes : List ℕ
  pub copied : IsCopied bytes out out' size
  pub to_is : to ≡ packet.to
  pub is : DoesIt images n s (GaveBytes p packet bytes new)

-- what `checkpoint` wrote
pub record IsFrozen (images : ℕ → AnyImage) (n : ℕ) (s : System) (p : ℕ) (out out' : List ℕ) (size : ℕ) (new : TheProcess) : Type 0 where
  pub bytes : List ℕ
  pub copied : IsCopied bytes out out' size
  pub is : DoesIt images n s (Froze p bytes new)

-- what `suspend` wrote
pub record IsPutToSleep (images : ℕ → AnyImage) (n : ℕ) (s : System) (p : ℕ) (out out' : List ℕ) (size : ℕ) : Type 0 where
  pub bytes : List ℕ
  pub copied : IsCopied bytes out out' size
  pub is : DoesIt images n s (Suspended p bytes)

-- the call hands p a packet, or has its handler run
abbrev pub IsToServe : ℕ → HostCall → Type 0
IsToServe p (HandedBytes q x bytes new) = q ≡ p
IsToServe p (Worked q new) = q ≡ p
IsToServe p call = ⊥

-- the call takes a packet of p that goes to this process
abbrev pub IsToTake : ℕ → ℕ → HostCall → Type 0
IsToTake p to (GaveBytes q x bytes new) = (q ≡ p) × (x.to ≡ to)
IsToTake p to call = ⊥

-- the bytes that calls took
abbrev pub bytes_taken : List HostCall → List (List ℕ)
bytes_taken [] = []
bytes_taken (GaveBytes q x bytes new ∷ calls) = bytes ∷ bytes_taken calls
bytes_taken (call ∷ calls) = bytes_taken calls

-- calls of hosts, each of them so, after which p is `new`
pub record AreMade (images : ℕ
    → AnyImage) (n : ℕ) (s : System) (p : ℕ) (w : Checkpoint) (new : TheProcess) (IsSo : HostCall → Type 0) (calls : List HostCall)
    : Type 0 where
  pub are : AreCalls images n s calls
  pub each : AllByRecursion IsSo calls
  pub ends : (after_calls s calls).processes p ≡ Runs new w

-- each packet of a bundle was given
abbrev pub WereGiven : List NodePacket → List ℕ → Type 0
WereGiven given bundle = (packets : List (List ℕ)) → IsBundle packets bundle
    → AllByRecursion (λ bytes. (x : NodePacket) → IsPacket x bytes → IsOne x given) packets

-- what `take_all` wrote: the packets of a bundle, and their receiver
pub record AreGiven (images : ℕ
    → AnyImage) (n : ℕ) (s : System) (p : ℕ) (w : Checkpoint) (out out' : List ℕ) (size to count : ℕ) (new : TheProcess) : Type 0 where
  pub calls : List HostCall
  pub bundle : List ℕ
  pub is_bundle : IsBundle (bytes_taken calls) bundle
  pub copied : IsCopied bundle out out' size
  pub count_is : count ≡ length calls
  pub are : AreMade images n s p w new (IsToTake p to) calls

-- an export that answers 0 made the host's call of its name; so did a `tick` that says why its node doesn't go on. A node that is opened is
-- a process of its file's image; a node that comes back or is resumed with the same file has the handler of that image, whatever its form.
-- `receive_all` is `receive` and `work` with the packets of a bundle, and `take_all` is `take` for each of its packets
pub record ExportsAreCalls : Type 0 where
  pub opened : (file : List ℕ) (me n : ℕ) (l : NodeLimits) (state : AnyImage → List ℕ) (new : TheProcess)
      → Opens file me n l state None (Some new)
      → IsImageIn file new.image × IsOpened new.image (limits_of l) me n (state new.image) new
  pub revived : (images : ℕ → AnyImage) (n : ℕ) (s : System) (p : ℕ) (file : List ℕ) (life : ℕ) (l : NodeLimits) (new : TheProcess)
      → IsFirst n p → s.processes p ≡ Killed → s.lives p < life → IsImageIn file (images p)
      → Revives file (s.stored p) life l None (Some new) → DoesIt images n s (Revived p (limits_of l) life new)
  pub received : (images : ℕ
      → AnyImage) (n : ℕ) (s : System) (p : ℕ) (w : Checkpoint) (old new : TheProcess) (x : NodePacket) (bytes : List ℕ)
      → Holds n s p w old → IsOne x s.given → IsPacket x bytes
      → IsReceived bytes (Some old) (Some new) → DoesIt images n s (HandedBytes p x bytes new)
  pub taken : (images : ℕ
      → AnyImage) (n : ℕ) (s : System) (p : ℕ) (w : Checkpoint) (old new : TheProcess) (out out' : List ℕ) (size to : ℕ) → Holds n s p w old
      → IsTaken out out' size to (Some old) (Some new) → IsGiven images n s p out out' size to new
  pub worked : (images : ℕ → AnyImage) (n : ℕ) (s : System) (p : ℕ) (w : Checkpoint) (old new : TheProcess) → Holds n s p w old
      → HasWorked (Some old) (Some new) → DoesIt images n s (Worked p new)
  pub done : (images : ℕ
      → AnyImage) (n : ℕ) (s : System) (p : ℕ) (w : Checkpoint) (old new : TheProcess) (ticket : HandlerTicket) (array bytes : List ℕ)
      → Holds n s p w old
      → IsDone ticket array bytes (Some old) (Some new) → IsAnswered images n s p ticket array bytes old new
  pub ticked : (images : ℕ → AnyImage) (n : ℕ) (s : System) (p : ℕ) (w : Checkpoint) (old new : TheProcess) → Holds n s p w old
      → HasTicked (Some old) (Some new) → DoesIt images n s (Ticked p new)
  pub held_back : (images : ℕ → AnyImage) (n : ℕ) (s : System) (p : ℕ) (w : Checkpoint) (old new : TheProcess) (why : NodeFault)
      → Holds n s p w old → IsHeldBack (Some old) (Some new) why → DoesIt images n s (Ticked p new)
  pub made : (images : ℕ → AnyImage) (n : ℕ) (s : System) (p : ℕ) (w : Checkpoint) (old new : TheProcess) (out out' : List ℕ) (size : ℕ)
      → Holds n s p w old
      → IsMade out out' size (Some old) (Some new) → IsFrozen images n s p out out' size new
  pub saved : (images : ℕ → AnyImage) (n : ℕ) (s : System) (p : ℕ) (old new : TheProcess) → Holds n s p Durable old
      → HasSaved (Some old) (Some new) → DoesIt images n s (Saved p new)
  pub suspended : (images : ℕ → AnyImage) (n : ℕ) (s : System) (p : ℕ) (w : Checkpoint) (old new : TheProcess)
      (out out' : List ℕ) (size : ℕ) → Holds n s p w old
      → IsWritten out out' size (Some old) (Some new) → IsPutToSleep images n s p out out' size
  pub resumed : (images : ℕ → AnyImage) (n : ℕ) (s : System) (p : ℕ) (file bytes : List ℕ) (l : NodeLimits) (old new : TheProcess)
      → IsFirst n p → s.processes p ≡ Sleeps old bytes → IsImageIn file (images p)
      → Resumes file bytes l None (Some new) → DoesIt images n s (Resumed p (limits_of l) new)
  pub received_all : (images : ℕ
      → AnyImage) (n : ℕ) (s : System) (p : ℕ) (w : Checkpoint) (old new : TheProcess) (bundle : List ℕ) (tally : BundleTally)
      → Holds n s p w old → WereGiven s.given bundle → AreReceived bundle tally (Some old) (Some new)
      → (calls : List HostCall) × AreMade images n s p w new (IsToServe p) calls
  pub taken_all : (images : ℕ
      → AnyImage) (n : ℕ) (s : System) (p : ℕ) (w : Checkpoint) (old new : TheProcess) (out out' : List ℕ) (size to count : ℕ)
      → Holds n s p w old
      → AreTaken out out' size to count (Some old) (Some new) → AreGiven images n s p w out out' size to count new
