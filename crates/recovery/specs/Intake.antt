-- What a process takes from its peers after its replay, and the node that it becomes
use Rattle.std.specs.Prelude.{ℕ, suc, ◌+◌, ◌^◌, ◌<◌, List, [], ◌∷◌, length, map, Option, None, Bool, false, ◌&&◌, slice_set}
use Rattle.world.specs.Plan.{or_else}
use Rattle.packets.specs.Packet.{is_exact}
use Rattle.packets.specs.declared.page.Flags.{Flags}
use Rattle.packets.specs.declared.page.Pair.{Pair}
use Rattle.node.specs.Queue.{TheQueue, dropped_to, released_again}
use Rattle.node.specs.Node.{TheNode, log_at}
use Rattle.packets.specs.Says.{first_number}
use Rattle.recovery.specs.Own.{TheOwn}
use Rattle.recovery.specs.Replayed.{TheReplayed}

-- how many messages it keeps
abbrev pub keeps : TheReplayed → ℕ
keeps n = n.own.base + length n.receipts.senders

-- how many messages were sent to d
abbrev pub sent_to : ℕ → TheOwn → ℕ
sent_to d o = (log_at o.logs d).dropped + length (log_at o.logs d).payloads

-- the SSNs of a page are above s, and ascend
abbrev pub AscendFrom : ℕ → List Pair → Type 0
AscendFrom s [] = Unit {0}
AscendFrom s (x ∷ xs) = (s < x.ssn) × AscendFrom x.ssn xs

-- the RSN is in range
abbrev pub IsSmallPair : Pair → Type 0
IsSmallPair x = x.number < 2 ^ 63

-- each message after an SSN gets the RSN that a page has for it, if it has one
abbrev pub noted_from : List Pair → ℕ → List (Option ℕ) → List (Option ℕ)
noted_from pairs ssn [] = []
noted_from pairs ssn (k ∷ ks) = or_else (first_number pairs (suc ssn)) k ∷ noted_from pairs (suc ssn) ks

-- the messages of a queue get the RSNs of a page
abbrev pub noted : List Pair → TheQueue → TheQueue
noted pairs q = record q { numbers = noted_from pairs q.dropped q.numbers }

-- drops from the log for d what is covered for good, and enters the RSNs of a page
abbrev pub takes_in : ℕ → ℕ → List Pair → TheOwn → TheOwn
takes_in d covered pairs o = record o { logs = slice_set o.logs d (noted pairs (dropped_to covered (log_at o.logs d))) }

-- takes a page's word whether its teller is exact
abbrev pub trusts : Flags → TheOwn → TheOwn
trusts flags o = record o { exact = o.exact && is_exact flags }

-- its node, which obeyed the Resume of these peers: all that it sent is released, or if it is durable, what its checkpoint covers; and its
-- questions no longer wait
abbrev pub returns : List Bool → TheReplayed → TheNode
returns resumed n =
    record {
      limits = n.own.limits;
      me = n.own.me;
      count = n.own.count;
      life = n.own.life;
      state = n.own.state;
      base = n.own.base;
      covered = n.own.covered;
      receipts = n.receipts;
      logs = map (released_again n.own.limits.durable) n.own.logs;
      waiting = 0;
      heard = n.own.heard;
      resumed = resumed;
      exact = n.own.exact;
      working = None;
      frozen = false;
      out = [];
    }
