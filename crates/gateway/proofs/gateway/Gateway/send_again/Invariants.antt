use Rattle.std.proofs.Common.{◌≡◌}
use Rattle.gateway.specs.Gateway.{ticked_to}
use Rattle.gateway.proofs.gateway.Gateway.send_again.Given as goal

abbrev pub invariant-loop-before : goal.invariant-loop-before
invariant-loop-before l = record { is : l.self ≡ ticked_to l.before l.fn.self; same : l.self.store ≡ l.fn.self.store }
