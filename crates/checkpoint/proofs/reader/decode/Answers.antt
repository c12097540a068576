use Rattle.std.proofs.Common.{subst, arith}
use Rattle.checkpoint.specs.Saved.{TheSaved}
use Rattle.checkpoint.specs.Reader.{Gives}
use Rattle.checkpoint.proofs.FileLemmas.{is_found, reading_again}
use Rattle.checkpoint.proofs.reader.decode.Goals as goal

pub returns-clause-found : goal.returns-clause-found
returns-clause-found c = is_found c.args.bytes.now c.whole.result (λ i. omega (arith, c.type_inv.bytes i)) c.whole.ensures

pub returns-clause-only : goal.returns-clause-only
returns-clause-only c = λ form s is. subst (λ read. Gives (λ (x : TheSaved). x) c.whole.result read) (reading_again form s c.args.bytes.now is) c.whole.ensures
