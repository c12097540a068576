use Rattle.std.proofs.Common.{codes, subst, sym}
use Rattle.clap.specs.Words.{found_of, rows_of}
use Rattle.cli.specs.Asks.{AsksIn, GivesOrder}
use Rattle.cli.proofs.RequestLemmas.{no_live}
use Rattle.cli.proofs.request.live_in.Goals as goal

pub returns-in_err-workers : goal.returns-in_err-workers
returns-in_err-workers c =
    subst (GivesOrder (AsksIn (codes "live") (rows_of (found_of c.args.matches.now)))) (sym c.from_residual-in_err-workers.ensures)
    (no_live (rows_of (found_of c.args.matches.now)) (λ workers budget crew b. c.in_err-workers.ensures workers crew))

pub returns-in_err-budget : goal.returns-in_err-budget
returns-in_err-budget c =
    subst (GivesOrder (AsksIn (codes "live") (rows_of (found_of c.args.matches.now)))) (sym c.from_residual-in_err-budget.ensures)
    (no_live (rows_of (found_of c.args.matches.now)) (λ workers budget crew b. c.in_err-budget.ensures budget b))
