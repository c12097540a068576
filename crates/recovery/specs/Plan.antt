-- The messages that a process keeps once all peers have told all
use Rattle.std.specs.Prelude.{◌≡◌, ℕ, zero, suc, ◌+◌, ◌-◌, ◌≤◌, min, List, [], ◌∷◌, ◌++◌, length, map, take, Option, Some, None, Bool}
use Rattle.std.specs.Prelude.{true, ◌&&◌, ◌||◌, ◌==◌, if◌then◌else◌, slice_index_or}
use Rattle.world.specs.declared.message.Message.{Message}
use Rattle.world.specs.History.{count_of}
use Rattle.world.specs.Plan.{first_below, if_next}
use Rattle.cluster.specs.Cluster.{Cluster}
use Rattle.cluster.specs.Rules.{Recovers, May, kept_by}
use Rattle.node.specs.declared.job.OpenJob.{OpenJob}
use Rattle.rsn.specs.declared.receipts.TheConstants.{LIMIT}
use Rattle.node.specs.declared.node.TheConstants.{MOST_RECEIVED}
use Rattle.node.specs.Node.{IsPeer}
use Rattle.node.specs.Stands.{Each, job_of}
use Rattle.packets.specs.Says.{first_told}
use Rattle.recovery.specs.Collected.{TheCollected}
use Rattle.recovery.specs.Collection.{TheCollecting, told_of}
use Rattle.recovery.specs.Stands.{StandsCollecting}

-- each peer below d has told all
abbrev pub told_below : List TheCollected → ℕ → ℕ → Bool
told_below told me zero = true
told_below told me (suc d) = told_below told me d && ((d == me) || (told_of told d).done)

-- all peers have told all
abbrev pub has_all : TheCollecting → Bool
has_all n = told_below n.told n.own.me (n.own.count + 1)

-- the message that was told with the RSN m; if two peers told one, that of the lesser peer
abbrev pub told_under : List TheCollected → ℕ → ℕ → Option Message
told_under told count m = first_below (λ q. first_told q (told_of told q).entries m) (count + 1)

-- the message, if it is the next of its sender by these counts
abbrev pub next_by : List ℕ → Option Message → Option Message
next_by counts None = None
next_by counts (Some m) = if m.ssn == suc (slice_index_or counts m.sender 0) then Some m else None

-- these messages follow the history h: each is the one that f has for the next RSN, and the next of its sender
abbrev pub Follows : (ℕ → Option Message) → List Message → List Message → Type 0
Follows f h [] = Unit {0}
Follows f h (m ∷ ms) = (if_next h (f (suc (length h))) ≡ Some m) × Follows f (h ++ m ∷ []) ms

-- a history has as many messages as the checkpoint covers, and as many of each sender
pub record IsCovered (base count : ℕ) (covered : List ℕ) (h : List Message) : Type 0 where
  pub many : length h ≡ base
  pub counts : (q : ℕ) → q ≤ count → slice_index_or covered q 0 ≡ count_of q h

-- the messages follow what the checkpoint covers, and no further one does
pub record IsPlan (f : ℕ → Option Message) (h ms : List Message) : Type 0 where
  pub follows : Follows f h ms
  pub most : if_next (h ++ ms) (f (suc (length (h ++ ms)))) ≡ None

-- the messages that were told under the next numbers, each its sender's next, and no more
abbrev pub Plans : TheCollecting → List OpenJob → Type 0
Plans n jobs = (h : List Message) → IsCovered n.own.base n.own.count n.own.covered h
    → IsPlan (told_under n.told n.own.count) h (map job_of jobs)

-- how many messages it takes at most after its checkpoint
abbrev pub room_of : TheCollecting → ℕ
room_of n = min LIMIT (MOST_RECEIVED - n.own.base)

-- these are at most that many, and from its peers
pub record Fits (n : TheCollecting) (jobs : List OpenJob) : Type 0 where
  pub few : length jobs ≤ room_of n
  pub senders : Each (λ (j : OpenJob). IsPeer n.own.me n.own.count j.sender) jobs

-- one message more than that follows its checkpoint
pub record Overruns (n : TheCollecting) : Type 0 where
  pub jobs : List OpenJob
  pub many : length jobs ≡ room_of n + 1
  pub follows : (h : List Message) → IsCovered n.own.base n.own.count n.own.covered h
      → Follows (told_under n.told n.own.count) h (map job_of jobs)

-- if all peers have told all, the process may recover with what its checkpoint covers and then these messages
pub record MayRecover (n : TheCollecting) (jobs : List OpenJob) (c : Cluster) : Type 0 where
  pub may : May c (Recovers n.own.me (n.own.base + length jobs))
  pub kept : kept_by c n.own.me (n.own.base + length jobs) ≡ take n.own.base (c.world.history n.own.me) ++ map job_of jobs

-- by the plan the rules let it recover, and it keeps its checkpoint's messages and those of the plan
abbrev pub Recovering : TheCollecting → List OpenJob → Type 0
Recovering n jobs = has_all n ≡ true → (c : Cluster) → StandsCollecting n c n.own.me → MayRecover n jobs c
