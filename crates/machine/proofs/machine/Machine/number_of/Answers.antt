use Rattle.std.proofs.Common.{◌≡◌, ℕ, refl, sym, ap, ◌∙◌}
use Rattle.std.specs.Prelude.{None}
use Rattle.rsn.specs.declared.receipts.Judgement.{Judgement}
use Rattle.rsn.specs.declared.receipts.Judgement.TheVariants.{Next, Duplicate, Early}
use Rattle.machine.specs.Simulation.{process_at}
use Rattle.machine.proofs.Wants.{known_as, known-within, number-is}
use Rattle.machine.proofs.machine.Machine.number_of.Goals as goal

pub returns-in-Duplicate-clause-value : goal.returns-in-Duplicate-clause-value
returns-in-Duplicate-clause-value c =
    λ w s. ap known_as (rw (c.receipts.ensures, c.process.ensures.value) at c.in-Duplicate.ensures) ∙ sym (number-is c.args.self.now w s c.args.from c.args.to c.requires.inside.0 c.requires.inside.1 c.requires.up c.args.ssn c.requires.ssn)

pub returns-in-Duplicate-clause-bound : goal.returns-in-Duplicate-clause-bound
returns-in-Duplicate-clause-bound c =
    known-within c.args.from c.args.ssn (process_at c.args.self.now c.args.to).receipts.senders c.in-Duplicate.rsn (rw (c.receipts.ensures, c.process.ensures.value) at c.in-Duplicate.ensures)

none : (j : Judgement) → ((k : ℕ) → j ≡ Duplicate k → ⊥) → None ≡ known_as j
none Next other = refl
none (Duplicate k) other = absurd (other k refl)
none Early other = refl

pub returns-in_default : goal.returns-in_default
returns-in_default c =
    record {
      value = λ w s. none c.judge.result c.in_default.not-Duplicate ∙ ap known_as (rw (c.receipts.ensures, c.process.ensures.value) at c.judge.ensures) ∙ sym (number-is c.args.self.now w s c.args.from c.args.to c.requires.inside.0 c.requires.inside.1 c.requires.up c.args.ssn c.requires.ssn);
      bound = tt;
    }
