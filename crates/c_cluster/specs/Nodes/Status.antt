-- The status of a handle's process
use Rattle.std.specs.Prelude.{◌≡◌, Option, if◌then◌else◌}
use Rattle.node.specs.declared.status.Standing.{Standing}
use Rattle.node.specs.Status.{stage_number}
use Rattle.process.specs.Process.{TheProcess}
use Rattle.process.specs.Calls.{standing_at}
use Rattle.c_cluster.specs.declared.nodes.status.NodeStanding.{NodeStanding}
use Rattle.c_calls.specs.Nodes.Answers.{OfSame}

-- the status, in ten words
abbrev pub words_of : Standing → NodeStanding
words_of s =
    record {
      length = s.length;
      base = s.base;
      incarnation = s.incarnation;
      stage = stage_number s.stage;
      exact = (if s.exact then 1 else 0);
      receipts = s.receipts;
      entries = s.entries;
      packets = s.packets;
      replays = s.replays;
      waited_for = s.waited_for;
    }

-- these words are the status of the process of an open handle
abbrev pub IsStanding : NodeStanding → Option TheProcess → Option TheProcess → Type 0
IsStanding s old new = OfSame old new (λ p. s ≡ words_of (standing_at p.lifecycle))
