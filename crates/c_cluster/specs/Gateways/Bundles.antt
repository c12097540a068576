-- Bundles that a gateway is handed
use Rattle.std.specs.Prelude.{◌≡◌, ◌⊎◌, ℕ, List, Option, None}
use Rattle.gateway.specs.Gateway.{TheGateway}
use Rattle.c_handles.specs.declared.bundle.BundleTally.{BundleTally}
use Rattle.c_cluster.specs.declared.gateways.fault.GatewayFault.{GatewayFault}
use Rattle.c_cluster.specs.declared.gateways.fault.GatewayFault.TheVariants.{Memory, Handle, Bytes}
use Rattle.c_handles.specs.Bundle.{IsBundle, IsUnfit, one_taken, one_refused, one_lost, Counting, IsReceivedAll, GivesAll}
use Rattle.c_cluster.specs.Gateways.Answers.{OfOpen, Calls, Refuses}
use Rattle.c_handles.specs.Buffer.{IsUntouched}
use Rattle.c_cluster.specs.Gateways.Calls.{IsReceived, IsUnreceived}
use Rattle.c_cluster.specs.Gateways.Results.{Leaves, GivesNot}

-- a packet more that wasn't taken
abbrev pub one_untaken : GatewayFault → BundleTally → BundleTally
one_untaken Memory t = one_lost t
one_untaken other t = one_refused t

-- a packet is received, or it isn't, and the gateway stays as it was
abbrev pub Hears : List ℕ → Counting TheGateway → Counting TheGateway → Type 0
Hears packet old new =
    ((was fault : ℕ) × IsReceived packet was fault old.0 new.0 × (new.1 ≡ one_taken old.1))
    ⊎ ((why : GatewayFault) × (was fault : ℕ) × IsUnreceived packet was fault old.0 why × (new.0 ≡ old.0) × (new.1 ≡ one_untaken why old.1))

-- so it goes with each packet of the bundle in these bytes, from the first on, and so many were taken and not taken
abbrev pub AreReceived : List ℕ → BundleTally → Option TheGateway → Option TheGateway → Type 0
AreReceived bundle tally old new = IsReceivedAll Hears bundle tally old new

-- why none is received: the bytes are not those of a bundle, or the handle is closed
abbrev pub AreUnreceived : List ℕ → Option TheGateway → GatewayFault → Type 0
AreUnreceived bundle old Bytes = OfOpen old (λ g. (packets : List (List ℕ)) → ¬ IsBundle packets bundle)
AreUnreceived bundle old Handle = old ≡ None
AreUnreceived bundle old other = ⊥

-- ---- packets out

-- packets were taken from the gateway
abbrev pub AreTaken : List ℕ → List ℕ → ℕ → ℕ → ℕ → Option TheGateway → Option TheGateway → Type 0
AreTaken out out' size to count old new = Calls old new (GivesAll Leaves out out' size to count)

-- none was: none waits, memory ran out, or the first one doesn't fit the buffer. Nothing changed
abbrev pub AreUntaken : List ℕ → List ℕ → ℕ → ℕ → Option TheGateway → GatewayFault → Type 0
AreUntaken out new was size old why = Refuses old (IsUntouched out new was size) (λ g w. GivesNot IsUnfit out new was size g w) why
