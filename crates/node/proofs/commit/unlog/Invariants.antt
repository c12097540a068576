use Rattle.std.proofs.Common.{◌≡◌, ◌-◌, ℕ, List, length, take}
use Rattle.node.specs.Queue.{TheQueue}
use Rattle.node.specs.Node.{given_to}
use Rattle.node.proofs.commit.unlog.Given as goal

abbrev pub invariant-loop-done : goal.invariant-loop-done
invariant-loop-done l = record { back : (was : List TheQueue) (number : ℕ) → l.fn.logs.items ≡ given_to number l.given was → l.logs.items ≡ given_to number (take (length l.given - l.done) l.given) was; wide : length l.logs.items ≡ length l.fn.logs.items }
