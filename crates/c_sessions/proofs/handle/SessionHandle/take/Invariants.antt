use Rattle.std.specs.Prelude.{[], unwrap_or}
use Rattle.c_sessions.proofs.handle.SessionHandle.take.Given as goal

abbrev pub ghost-into_loose : goal.ghost-into_loose
ghost-into_loose a = unwrap_or a.self.value (record { images = []; entries = []; seats = [] })
