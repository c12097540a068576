use Rattle.std.proofs.Common.{codes, subst, sym}
use Rattle.clap.specs.Words.{found_of, rows_of}
use Rattle.cli.specs.Asks.{AsksIn, GivesOrder}
use Rattle.cli.proofs.RequestLemmas.{no_pack}
use Rattle.cli.proofs.request.pack_in.Goals as goal

pub returns-in_err-state : goal.returns-in_err-state
returns-in_err-state c =
    subst (GivesOrder (AsksIn (codes "pack") (rows_of (found_of c.args.matches.now)))) (sym c.from_residual-in_err-state.ensures)
    (no_pack (rows_of (found_of c.args.matches.now)) (λ state form s f. c.in_err-state.ensures state s))

pub returns-in_err-form : goal.returns-in_err-form
returns-in_err-form c =
    subst (GivesOrder (AsksIn (codes "pack") (rows_of (found_of c.args.matches.now)))) (sym c.from_residual-in_err-form.ensures)
    (no_pack (rows_of (found_of c.args.matches.now)) (λ state form s f. c.in_err-form.ensures form f))
