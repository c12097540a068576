use Rattle.clap.specs.Words.{found_of, rows_of}
use Rattle.cli.proofs.RequestLemmas.{no_form_at_all}
use Rattle.cli.proofs.request.form_in.Goals as goal

pub returns-in-None : goal.returns-in-None
returns-in-None c = no_form_at_all (rows_of (found_of c.args.matches.now)) c.in-None.ensures
