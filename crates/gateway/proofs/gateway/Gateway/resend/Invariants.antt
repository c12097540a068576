use Rattle.std.proofs.Common.{◌≡◌, ◌-◌, take, drop}
use Rattle.gateway.specs.Gateway.{peer_of, unnumbered, delivers_each, resent}
use Rattle.gateway.proofs.gateway.Gateway.resend.Given as goal

abbrev pub invariant-loop-before : goal.invariant-loop-before
invariant-loop-before l = record {
  rest : delivers_each l.process (take l.left (unnumbered l.before (drop (l.before - (peer_of l.process l.fn.self).dropped) (peer_of l.process l.fn.self).entries))) l.self ≡ resent l.process l.fn.self;
  same : l.self.store ≡ l.fn.self.store;
}
