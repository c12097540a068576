use Rattle.sessions.specs.Journal.{world_at}
use Rattle.c_sessions.proofs.CallLemmas.{has-key, takes-none}
use Rattle.c_sessions.proofs.calls.call.Goals as goal

pub call-answered-requires : goal.call-answered-requires
call-answered-requires c = takes-none c.args.call c.requires

pub number_of-requires : goal.number_of-requires
number_of-requires c = has-key (world_at c.deref_mut.result.now) c.args.call c.in-Ok.reply.answer c.requires c.in-Ok.ensures.adds.0.answered
