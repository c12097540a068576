-- Bundles that a node is handed
use Rattle.std.specs.Prelude.{◌≡◌, ◌⊎◌, ℕ, List, Option}
use Rattle.process.specs.Process.{TheProcess}
use Rattle.c_handles.specs.declared.bundle.BundleTally.{BundleTally}
use Rattle.c_calls.specs.declared.nodes.fault.NodeFault.{NodeFault}
use Rattle.c_calls.specs.declared.nodes.fault.NodeFault.TheVariants.{Memory, Handle, Bytes}
use Rattle.c_handles.specs.Bundle.{IsBundle, one_taken, one_refused, one_lost, Counting, IsReceivedAll}
use Rattle.c_calls.specs.Nodes.Answers.{OfSame, StaysClosed}
use Rattle.c_calls.specs.Nodes.Calls.{IsReceived, IsUnreceived, HasWorked, HasNotWorked}

-- its handler is to run on the next message
abbrev pub IsToWork : Option TheProcess → Option TheProcess → Type 0
IsToWork old new = HasWorked old new ⊎ ((why : NodeFault) × HasNotWorked old new why)

-- a packet more that wasn't taken
abbrev pub one_untaken : NodeFault → BundleTally → BundleTally
one_untaken Memory t = one_lost t
one_untaken other t = one_refused t

-- a packet is received and worked on, or it isn't received
abbrev pub Serves : List ℕ → Counting TheProcess → Counting TheProcess → Type 0
Serves packet old new =
    ((mid : Option TheProcess) × IsReceived packet old.0 mid × IsToWork mid new.0 × (new.1 ≡ one_taken old.1))
    ⊎ ((why : NodeFault) × IsUnreceived packet old.0 new.0 why × (new.1 ≡ one_untaken why old.1))

-- so it goes with each packet of the bundle in these bytes, from the first on, and so many were taken and not taken
abbrev pub AreReceived : List ℕ → BundleTally → Option TheProcess → Option TheProcess → Type 0
AreReceived bundle tally old new = IsReceivedAll Serves bundle tally old new

-- why none is received: the bytes are not those of a bundle, or the handle is closed. Nothing has changed
abbrev pub AreUnreceived : List ℕ → Option TheProcess → Option TheProcess → NodeFault → Type 0
AreUnreceived bundle old new (Bytes f) = OfSame old new (λ p. (packets : List (List ℕ)) → ¬ IsBundle packets bundle)
AreUnreceived bundle old new Handle = StaysClosed old new
AreUnreceived bundle old new other = ⊥
