use Rattle.std.proofs.Common.{sym, ap, ◌∙◌, refl, true≢false, arith}
use Rattle.machine.specs.Jobs.{Matches}
use Rattle.machine.specs.Simulation.{is_up_at}
use Rattle.machine.proofs.JobLemmas.{matches}
use Rattle.machine.proofs.machine.Machine.finish.Goals as goal

pub returns-then-not-is_open-clause-step : goal.returns-then-not-is_open-clause-step
returns-then-not-is_open-clause-step c =
    let m = c.args.self.now in
    let t = c.args.done.task in
    let none : Matches m t → ⊥ = λ k. true≢false (sym (c.is_open.ensures.1 k) ∙ c.if-not-is_open.true) in
    (refl, refl, λ w s o. none (matches m t w s o))

-- where the job is open, the process is that of what came back
pub is_up-requires : goal.is_up-requires
is_up-requires c =
    let k : Matches c.args.self.now c.args.done.task = c.is_open.ensures.0 c.if-not-is_open.false in
    omega (arith, c.receiver_of.ensures, k.within)

pub commit-requires-clause-matches : goal.commit-requires-clause-matches
commit-requires-clause-matches c = c.is_open.ensures.0 c.if-not-is_open.false

pub commit-requires-clause-up : goal.commit-requires-clause-up
commit-requires-clause-up c =
    ap (is_up_at c.args.self.now) (sym c.receiver_of.ensures) ∙ sym c.is_up.ensures ∙ c.if-is_up.true

pub recall-requires-clause-matches : goal.recall-requires-clause-matches
recall-requires-clause-matches c = c.is_open.ensures.0 c.if-not-is_open.false

pub recall-requires-clause-down : goal.recall-requires-clause-down
recall-requires-clause-down c =
    ap (is_up_at c.args.self.now) (sym c.receiver_of.ensures) ∙ sym c.is_up.ensures ∙ c.if-is_up.false
