use Rattle.std.proofs.Common.{ap, subst, sym, ◌∙◌}
use Rattle.std.specs.Option.{option_map}
use Rattle.clap.specs.Words.{found_of, rows_of}
use Rattle.cli.specs.Asks.{Gives, MayHaveState}
use Rattle.cli.proofs.RequestLemmas.{no_state}
use Rattle.cli.proofs.request.state_in.Goals as goal

pub returns-in_err-number-in-Some : goal.returns-in_err-number-in-Some
returns-in_err-number-in-Some c =
    subst (Gives (MayHaveState (rows_of (found_of c.args.matches.now)))) (sym c.from_residual.ensures)
    (no_state (rows_of (found_of c.args.matches.now)) _ (ap (option_map (λ s. s.now)) (sym c.in-Some.is) ∙ c.path_in.ensures) c.in_err-number-in-Some.ensures)
