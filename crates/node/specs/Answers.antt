-- A node that is up answers a recovering peer
use Rattle.std.specs.Prelude.{ℕ, Option, Some, None, Bool, true, false, not, ◌||◌, ◌==◌, nat_lt, if◌then◌else◌, slice_index_or, slice_set}
use Rattle.node.specs.declared.job.OpenJob.{OpenJob}
use Rattle.node.specs.Queue.{forgotten_above}
use Rattle.node.specs.Node.{TheNode, log_at, posts}
use Rattle.node.specs.Pages.{told_of, restored_of}

-- the greatest incarnation of d that it heard
abbrev pub heard_of : ℕ → TheNode → ℕ
heard_of d n = slice_index_or n.heard d 0

-- hears this incarnation, if it is newer: its Resume isn't obeyed yet
abbrev pub hears : ℕ → ℕ → TheNode → TheNode
hears d i n = if nat_lt (heard_of d n) i then record n { heard = slice_set n.heard d i; resumed = slice_set n.resumed d false } else n

-- takes an Ask for what is above k: drops one of an earlier incarnation, and answers any other by a page of the log
abbrev pub asked_by : ℕ → ℕ → ℕ → TheNode → TheNode
asked_by d i k n = if nat_lt i (heard_of d n) then n else posts d (told_of d i k n) (hears d i n)

-- the open job is on a message of d
abbrev pub works_for : ℕ → Option OpenJob → Bool
works_for d None = false
works_for d (Some j) = j.sender == d

-- d keeps k messages: forgets its RSNs above that, once in each of its incarnations
abbrev pub obeys : ℕ → ℕ → TheNode → TheNode
obeys d k n =
    if slice_index_or n.resumed d true then n
    else record n { logs = slice_set n.logs d (forgotten_above k (log_at n.logs d)); resumed = slice_set n.resumed d true }

-- takes a Resume: drops one of another incarnation, and one from a sender whose message it works on; obeys any other, and answers it by a
-- page of what it received
abbrev pub resumed_by : ℕ → ℕ → ℕ → ℕ → TheNode → TheNode
resumed_by d i k s n = if not (i == heard_of d n) || works_for d n.working then n else posts d (restored_of d i s n) (obeys d k n)
