-- The limits of a node
use Rattle.std.specs.Prelude.{◌^◌, ◌<◌, ◌≤◌, false}
use Rattle.rsn.specs.declared.receipts.TheConstants.{LIMIT}
use Rattle.packets.specs.declared.log_pages.TheConstants.{LEAST_PAGE}
use Rattle.node.specs.declared.limit.Limits.{Limits}
use Rattle.node.specs.declared.limit.TheConstants.{PAGE, TICK}
use Rattle.node.specs.declared.node.TheConstants.{WINDOW}

-- the default limits
abbrev pub usual : Limits
usual = record { page = PAGE; tick = TICK; numbers = WINDOW; receipts = LIMIT; durable = false }

-- each limit is in range
pub record AreAllowed (l : Limits) : Type 0 where
  pub page : (LEAST_PAGE ≤ l.page) × (l.page < 2 ^ 16)
  pub tick : 1 ≤ l.tick
  pub numbers : (1 ≤ l.numbers) × (l.numbers ≤ WINDOW)
  pub receipts : (1 ≤ l.receipts) × (l.receipts ≤ LIMIT)
