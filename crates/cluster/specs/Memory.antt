-- How much a node keeps in memory, and what makes it grow
use Rattle.std.specs.Prelude.{◌≡◌, ℕ, ◌+◌, ◌-◌, ◌≤◌, List, [], ◌∷◌, ◌++◌, length, Option, Some, None, is_some, Bool, true, false, ◌&&◌}
use Rattle.std.specs.Prelude.{◌==◌, if◌then◌else◌, drop}
use Rattle.world.specs.declared.message.Message.{Message}
use Rattle.world.specs.History.{count_of}
use Rattle.world.specs.Handlers.{Handlers}
use Rattle.world.specs.Logs.{sent, sent_in_all, covered}
use Rattle.world.specs.Bounds.{count_below}
use Rattle.cluster.specs.Parcels.{Saved, reaches}
use Rattle.cluster.specs.Cluster.{Collecting, Collected, Cluster, opening, is_well, waiting, WINDOW}
use Rattle.cluster.specs.Rules.{Act, Arrives, Works, Keeps, IsNode, after_run, FromOpening}

-- the receipts that p keeps: of the messages that it received after its durable checkpoint
abbrev pub receipts : Cluster → ℕ → List Message
receipts c p = drop (c.world.saved p) (c.world.history p)

-- how many messages pass a test
abbrev pub how_many : (Message → Bool) → List Message → ℕ
how_many test [] = 0
how_many test (m ∷ ms) = (if test m then 1 else 0) + how_many test ms

-- whether a message is from s
abbrev pub is_of : ℕ → Message → Bool
is_of s m = m.sender == s

-- k + 1, if by this act p takes a message that passes the test; 0, if by it a checkpoint of p becomes durable; otherwise k
abbrev pub counts : (Message → Bool) → ℕ → Act → ℕ → ℕ
counts test p (Works q m) k = if p == q then (if test m then 1 else 0) + k else k
counts test p (Keeps q) k = if p == q then 0 else k
counts test p a k = k

-- how many messages that pass the test p took in these acts since its last checkpoint, if it had taken k before
abbrev pub taken_since : (Message → Bool) → ℕ → ℕ → List Act → ℕ
taken_since test p k [] = k
taken_since test p k (a ∷ acts) = taken_since test p (counts test p a k) acts

-- how many entries p's log has for d: the messages that it sent there, except those that it dropped
abbrev pub entries : Cluster → ℕ → ℕ → ℕ
entries c p d = length (sent c.world p d) - c.world.trims p d

-- how many of p's messages to d are covered for good without p being told so
abbrev pub untold : Cluster → ℕ → ℕ → ℕ
untold c p d = covered c.world p d - c.world.trims p d

-- how many of p's messages d took since its checkpoint. What the gateway showed is covered at once
abbrev pub unsaved : Cluster → ℕ → ℕ → ℕ
unsaved c p d = if d == 0 then 0 else how_many (is_of p) (receipts c d)

-- how many of p's messages d hasn't taken
abbrev pub untaken : Cluster → ℕ → ℕ → ℕ
untaken c p d = sent_in_all c.world p d - count_of p (if d == 0 then c.world.shown else c.world.history d)

-- p's log for d has these, and at most these while p replays
abbrev pub LogHas : Cluster → ℕ → ℕ → Type 0
LogHas c p d =
    record {
      most : entries c p d ≤ untold c p d + (unsaved c p d + untaken c p d);
      whole : is_well c p ≡ true → entries c p d ≡ untold c p d + (unsaved c p d + untaken c p d);
    }

-- whether a collecting node was told a message with the RSN m: its pages reach m, and have one there
abbrev pub holds : Option Collected → ℕ → Bool
holds None m = false
holds (Some t) m = reaches t.upto m && is_some (t.entries m)

-- In each run of n nodes

-- p keeps receipts, of messages of any kind, only of those that came since its last durable checkpoint
abbrev pub ReceiptsAreNew : Type 0
ReceiptsAreNew = (n : ℕ) (f : Handlers) (acts : List Act) (p : ℕ) (test : Message → Bool) → FromOpening n f acts
    → how_many test (receipts (after_run (opening n f) acts) p) ≤ taken_since test p 0 acts

-- a log has the messages that no checkpoint of the receiver covers, and those for which the node wasn't told so
abbrev pub LogsWait : Type 0
LogsWait = (n : ℕ) (f : Handlers) (acts : List Act) (p d : ℕ) → FromOpening n f acts
    → LogHas (after_run (opening n f) acts) p d

-- if p is up it has dropped whatever d ever reported as covered for good, also before p died
abbrev pub ToldIsDropped : Type 0
ToldIsDropped = (n : ℕ) (f : Handlers) (acts more : List Act) (p d k : ℕ) → FromOpening n f (acts ++ Arrives d p (Saved k) ∷ more)
    → is_well (after_run (opening n f) (acts ++ Arrives d p (Saved k) ∷ more)) p ≡ true
    → k ≤ (after_run (opening n f) (acts ++ Arrives d p (Saved k) ∷ more)).world.trims p d

-- no more RSNs than the window has wait for their acknowledgement
abbrev pub FewWait : Type 0
FewWait = (n : ℕ) (f : Handlers) (acts : List Act) (p : ℕ) → FromOpening n f acts
    → IsNode (after_run (opening n f) acts) p → waiting (after_run (opening n f) acts) p ≤ WINDOW

-- while p collects, it holds from each peer at most as many messages as it took from that peer since its last durable checkpoint, however
-- often it died since and whatever pages came
abbrev pub ToldIsNew : Type 0
ToldIsNew = (n : ℕ) (f : Handlers) (acts : List Act) (p q k : ℕ) → FromOpening n f acts
    → IsNode (after_run (opening n f) acts) p → (after_run (opening n f) acts).stage p ≡ Collecting
    → count_below (holds ((after_run (opening n f) acts).told p q)) k ≤ taken_since (is_of q) p 0 acts
