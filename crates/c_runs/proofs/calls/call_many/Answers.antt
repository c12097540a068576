use Rattle.std.proofs.Common.{rules}
use Rattle.c_runs.proofs.FirstFailure.{no_seat, no_messages, no_room, no_result}
use Rattle.c_runs.proofs.calls.call_many.Goals as goal

pub returns-then-not-is_seat-clause-refused : goal.returns-then-not-is_seat-clause-refused
returns-then-not-is_seat-clause-refused c = no_seat _ _ _ _ _ (search rules)

pub returns-then-messages-ne0-clause-refused : goal.returns-then-messages-ne0-clause-refused
returns-then-messages-ne0-clause-refused c = no_messages _ _ _ _ _ (search rules) (search rules)

pub returns-then-out-messages-clause-refused : goal.returns-then-out-messages-clause-refused
returns-then-out-messages-clause-refused c = no_room _ _ _ _ _ (search rules) (search rules) (search rules)

pub returns-in_err-load_callable-clause-refused : goal.returns-in_err-load_callable-clause-refused
returns-in_err-load_callable-clause-refused c =
    no_result _ _ _ _ _ _ (search rules) (search rules) (search rules) (search rules)
