-- No page of a peer is dropped for what it tells
use Rattle.std.specs.Prelude.{◌≡◌, ℕ, ◌≤◌, List, true, false}
use Rattle.world.specs.Handlers.{Handlers}
use Rattle.theorems.specs.Growth.{Grows}
use Rattle.cluster.specs.Cluster.{Cluster}
use Rattle.cluster.specs.Rules.{Act}
use Rattle.cluster.specs.Exact.{IsRunOf}
use Rattle.packets.specs.Packet.{in_range}
use Rattle.packets.specs.declared.page.Pair.{Pair}
use Rattle.packets.specs.declared.page.Flags.{Flags}
use Rattle.packets.specs.declared.packet.Body.TheVariants.{Restored}
use Rattle.packets.specs.Says.{WasSaid}
use Rattle.recovery.specs.Intake.{sent_to}
use Rattle.recovery.specs.Restoration.{TheRestoring, has_answered, last_ssn}
use Rattle.recovery.specs.RestorationStands.{StandsRestoring}

-- in each run: a page that a peer sent to this incarnation of a process that still waits for it tells of no more messages than were sent to
-- that peer
abbrev pub PagesFit : Type 0
PagesFit = (count : ℕ) (f : Handlers) (acts : List Act) (c : Cluster) (n : TheRestoring) (from j covered s : ℕ) (flags : Flags)
    (pairs : List Pair) → count ≤ 15 → Grows f → IsRunOf count f acts c → StandsRestoring n c n.own.me → from ≤ n.own.count
    → has_answered from n ≡ false
    → in_range (Restored n.own.life j covered s flags pairs) ≡ true
    → WasSaid c from n.own.me (Restored n.own.life j covered s flags pairs)
    → (covered ≤ sent_to from n.own) × (last_ssn 0 pairs ≤ sent_to from n.own)
