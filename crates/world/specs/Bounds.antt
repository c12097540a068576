-- How much a session holds at most, and what counts towards it
use Rattle.std.specs.Prelude.{ℕ, suc, zero, ◌+◌, Option, Some, None, Bool, true, false, not, ◌||◌, nat_lt, if◌then◌else◌}
use Rattle.limits.specs.declared.TheConstants.{PACKETS}
use Rattle.world.specs.Phases.{is_working, is_busy}
use Rattle.world.specs.World.{World}

-- the most packets on the wire. Open live jobs count too, as each may add one. Keys are below this number
unfoldable pub WIRE : ℕ
WIRE = PACKETS

-- how many of 0, 1, .. below k pass the test
abbrev pub count_below : (ℕ → Bool) → ℕ → ℕ
count_below test zero = 0
count_below test (suc k) = (if test k then 1 else 0) + count_below test k

-- whether one of 0, 1, .. below k passes the test
abbrev pub any_below : (ℕ → Bool) → ℕ → Bool
any_below test zero = false
any_below test (suc k) = test k || any_below test k

-- whether there is nothing, as under a vacant key of the wire
abbrev pub is_none : {X : Type 0} → Option X → Bool
is_none None = true
is_none (Some x) = false

-- how many processes have an open job, live or replayed
abbrev pub open_jobs : World → ℕ
open_jobs w = count_below (λ p. is_working (w.phase p)) (suc w.count)

-- how many processes have an open live job. Each of these may still put a packet on the wire
abbrev pub live_jobs : World → ℕ
live_jobs w = count_below (λ p. is_busy (w.phase p)) (suc w.count)

-- how many packets are on the wire. Copies count
abbrev pub packets : World → ℕ
packets w = count_below (λ key. not (is_none (w.wire key))) WIRE

-- whether the journal has no room for a call and for each job that is open after it
abbrev pub journal_full : ℕ → ℕ → Bool
journal_full room jobs = nat_lt room (jobs + 1)

-- whether the wire has no room for one more packet and for that of each live job
abbrev pub wire_full : World → Bool
wire_full w = nat_lt WIRE (packets w + live_jobs w + 1)
