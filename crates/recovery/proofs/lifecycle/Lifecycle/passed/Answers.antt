use Rattle.std.proofs.lemmas.Result.{err_from_is_err_and}
use Rattle.recovery.proofs.Passings.{first-held}
use Rattle.recovery.proofs.lifecycle.Lifecycle.passed.Goals as goal

pub returns-in_err-told-clause-held : goal.returns-in_err-told-clause-held
returns-in_err-told-clause-held c =
    let out = err_from_is_err_and c.from_residual.result c.from_residual.ensures.1 in
    let held = c.in_err-told.ensures.held in
    first-held c.from_residual.result c.args.self c.in_err-told.field-0.0 out.0 out.1 out.2 held.0 held.1 held.2
