-- A process that came back becomes a node
use Rattle.std.specs.Prelude.{map, None, false}
use Rattle.node.specs.declared.reentry.Returned.{Returned}
use Rattle.node.specs.Queue.{released_again}
use Rattle.node.specs.Node.{TheNode, IsWithin}

-- the numbers of the process are in range
abbrev pub AreWithin : Returned → Type 0
AreWithin r =
    IsWithin r.limits r.me r.count r.base r.covered.items r.heard.items r.resumed.items r.receipts r.logs.items None false 0 r.life r.out

-- its node: what it sent is released, unless it is durable and its checkpoint doesn't cover it; and no RSN waits for an acknowledgement
abbrev pub node_of : Returned → TheNode
node_of r =
    record {
      limits = r.limits;
      me = r.me;
      count = r.count;
      life = r.life;
      state = r.state.items;
      base = r.base;
      covered = r.covered.items;
      receipts = r.receipts;
      logs = map (released_again r.limits.durable) r.logs.items;
      waiting = 0;
      heard = r.heard.items;
      resumed = r.resumed.items;
      exact = r.exact;
      working = None;
      frozen = false;
      out = r.out;
    }
