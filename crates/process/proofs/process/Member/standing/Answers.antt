use Rattle.std.proofs.Common.{◌≤◌, sym, subst}
use Rattle.node.specs.declared.node.TheConstants.{WINDOW}
use Rattle.process.specs.Process.{TheProcess}
use Rattle.process.specs.Bounds.{IsBounded, waiting_of}
use Rattle.process.proofs.Bounded as bounded
use Rattle.process.proofs.process.Member.standing.Goals as goal

pub returns-clause-bounded : goal.returns-clause-bounded
returns-clause-bounded c = subst IsBounded (sym c.standing.ensures) (bounded.bounded c.self.inside.lifecycle c.self.invariant.holds)

pub returns-clause-waits : goal.returns-clause-waits
returns-clause-waits c = subst (λ (p : TheProcess). waiting_of p.lifecycle ≤ WINDOW) c.self.view_is (bounded.few-wait c.self.inside.lifecycle c.self.invariant.holds)
