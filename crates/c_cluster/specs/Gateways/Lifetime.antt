-- Gateways that are opened, come back, and are closed
use Rattle.std.specs.Prelude.{◌≡◌, ◌≢◌, ◌⊎◌, ℕ, ◌≤◌, List, [], Option, None}
use Rattle.limits.specs.declared.TheConstants.{PROCESSES}
use Rattle.world.specs.Handlers.{Handlers}
use Rattle.cluster.specs.Cluster.{opening}
use Rattle.packets.specs.declared.log_pages.TheConstants.{LEAST_PAGE}
use Rattle.stores.specs.declared.change.Change.{Change}
use Rattle.stores.specs.declared.store_fault.StoreFault.{StoreFault}
use Rattle.stores.specs.Changes.{AreChanges}
use Rattle.stores.specs.Faults.{IsFirstFault, store_fault_number}
use Rattle.stores.specs.Format.{IsStoreBytes}
use Rattle.stores.specs.Store.{TheStore, FitAll, IsUnfit, applied_all}
use Rattle.gateway.specs.Gateway.{TheGateway, new_gateway}
use Rattle.gateway.specs.Since.{StandsFor, revived}
use Rattle.gateway.specs.Stands.{Stands}
use Rattle.c_cluster.specs.declared.gateways.lifetime.TheConstants.{MOST_PAGE, NOT_CHANGES, UNFIT}
use Rattle.c_cluster.specs.declared.gateways.fault.GatewayFault.{GatewayFault}
use Rattle.c_cluster.specs.declared.gateways.fault.GatewayFault.TheVariants.{Memory, Handle, Bytes, Early, Range}
use Rattle.c_cluster.specs.Gateways.Answers.{OfOpen, Calls, Refuses}

-- the limits are in range
abbrev pub AreLimits : ℕ → ℕ → Type 0
AreLimits page tick = (LEAST_PAGE ≤ page) × (page ≤ MOST_PAGE) × (1 ≤ tick)

-- so is the number of processes
abbrev pub AreInside : ℕ → ℕ → ℕ → Type 0
AreInside n page tick = (1 ≤ n) × (n ≤ PROCESSES) × AreLimits page tick

-- a handle that was closed holds the gateway of a new cluster
abbrev pub IsOpened : ℕ → ℕ → ℕ → Option TheGateway → Option TheGateway → Type 0
IsOpened n page tick old new =
    (old ≡ None) × AreInside n page tick × OfOpen new (λ g. (g ≡ new_gateway n page tick) × ((f : Handlers) → Stands g (opening n f)))

-- why it doesn't: the first of these: it was open, a number is out of range, or memory ran out
abbrev pub IsUnopened : ℕ → ℕ → ℕ → Option TheGateway → GatewayFault → Type 0
IsUnopened n page tick old Handle = old ≢ None
IsUnopened n page tick old Range = (old ≡ None) × (¬ AreInside n page tick)
IsUnopened n page tick old Memory = (old ≡ None) × AreInside n page tick
IsUnopened n page tick old other = ⊥

-- a handle that was closed holds the gateway with the store in these bytes; no fault is written
abbrev pub IsRevived : List ℕ → ℕ → ℕ → ℕ → ℕ → Option TheGateway → Option TheGateway → Type 0
IsRevived store page tick was fault old new =
    ((old ≡ None) × AreLimits page tick
    × ((s : TheStore) × IsStoreBytes s store × OfOpen new (λ g. (g ≡ revived page tick s) × StandsFor s g))) × (fault ≡ was)

-- why it doesn't: it was open, a limit is out of range, the bytes are not a store, by their first fault, or memory ran out
abbrev pub IsUnrevived : List ℕ → ℕ → ℕ → ℕ → ℕ → Option TheGateway → GatewayFault → Type 0
IsUnrevived store page tick was fault old Handle = (old ≢ None) × (fault ≡ was)
IsUnrevived store page tick was fault old Range = (old ≡ None) × (¬ AreLimits page tick) × (fault ≡ was)
IsUnrevived store page tick was fault old Bytes = (old ≡ None) × AreLimits page tick
    × ((f : StoreFault) × IsFirstFault f store × (fault ≡ store_fault_number f))
IsUnrevived store page tick was fault old Memory = (old ≡ None) × AreLimits page tick × (fault ≡ was)
IsUnrevived store page tick was fault old other = ⊥

-- nothing waits to be sent or to be made durable
abbrev pub IsFresh : TheGateway → Type 0
IsFresh g = (g.changes ≡ []) × (g.out ≡ [])

-- the store is the one after the changes in these bytes
abbrev pub IsLater : List ℕ → TheGateway → TheGateway → Type 0
IsLater changes g h =
    IsFresh g × ((ks : List Change) × AreChanges ks changes × FitAll ks g.store × (h ≡ revived g.page g.tick (applied_all ks g.store))
    × StandsFor (applied_all ks g.store) h)

-- the changes were applied to the gateway, and no fault is told
abbrev pub IsApplied : List ℕ → ℕ → ℕ → Option TheGateway → Option TheGateway → Type 0
IsApplied changes was fault old new = Calls old new (λ g h. IsLater changes g h × (fault ≡ was))

-- they aren't changes, or one of them doesn't fit
abbrev pub AreMisfit : List ℕ → TheStore → ℕ → Type 0
AreMisfit changes s fault =
    ((fault ≡ NOT_CHANGES) × ((ks : List Change) → ¬ AreChanges ks changes))
    ⊎ ((fault ≡ UNFIT) × ((ks : List Change) × AreChanges ks changes × ((n : ℕ) × IsUnfit n ks s)))

-- why it isn't: something waits, the changes are refused, or memory ran out
abbrev pub IsUnlater : List ℕ → TheGateway → ℕ → ℕ → GatewayFault → Type 0
IsUnlater changes g was fault Early = (¬ IsFresh g) × (fault ≡ was)
IsUnlater changes g was fault Bytes = IsFresh g × AreMisfit changes g.store fault
IsUnlater changes g was fault Memory = IsFresh g × (fault ≡ was)
IsUnlater changes g was fault other = ⊥

-- the changes were refused, and the gateway stays; a fault of their bytes is told
abbrev pub IsUnapplied : List ℕ → ℕ → ℕ → Option TheGateway → GatewayFault → Type 0
IsUnapplied changes was fault old why = Refuses old (fault ≡ was) (λ g w. IsUnlater changes g was fault w) why
