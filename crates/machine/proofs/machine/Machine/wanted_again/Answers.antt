use Rattle.std.proofs.Common.{◌≢◌, ◌≤◌, arith, sym, ◌∙◌, length, true, true≢false}
use Rattle.rsn.specs.Receipts.{numbers_of, acknowledged_of, run_of}
use Rattle.world.specs.declared.call.Call.TheVariants.{Transmit}
use Rattle.world.specs.Useful.{is_useful}
use Rattle.machine.specs.Simulation.{process_at}
use Rattle.machine.proofs.Picks.{below-more, run-passes}
use Rattle.machine.proofs.machine.Machine.wanted_again.Goals as goal

pub loop-ssn-preserved : goal.loop-ssn-preserved
loop-ssn-preserved c =
    λ w s. below-more (λ i. is_useful w (Transmit c.args.from c.args.to i) ≢ true) c.loop-ssn.ssn (length (numbers_of c.args.from (process_at c.args.self.now c.args.to).receipts)) (omega (arith, c.loop-ssn-test.true)) (λ e. true≢false (sym e ∙ sym (c.is_wanted.ensures w s) ∙ c.if-is_wanted.false)) (c.loop-ssn.invariant w s)

pub returns-clause-none : goal.returns-clause-none
returns-clause-none c =
    let low : c.loop-ssn.ssn ≤ run_of (acknowledged_of c.args.from (process_at c.args.self.now c.args.to).receipts) = rw (c.run_length_of-run.ensures, c.receipts-receipts.ensures, c.process.ensures.value) at c.loop-ssn-test.false in
    λ w s i apart. run-passes c.args.self.now w s c.args.from c.args.to c.loop-ssn.ssn i c.requires.peers c.requires.inside low (c.loop-ssn.invariant w s) apart

pub returns-then-is_wanted-clause-some : goal.returns-then-is_wanted-clause-some
returns-then-is_wanted-clause-some c = λ w s. sym (c.is_wanted.ensures w s) ∙ c.if-is_wanted.true
