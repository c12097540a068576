use Rattle.spans.proofs.CallEntry.{entry-shown, step-keeps}
use Rattle.spans.proofs.Calls.{request-same}
use Rattle.spans.proofs.Runs.{steps-shown}
use Rattle.spans.proofs.call_laws.steps_are_shown.Goals as goal

pub returns-clause-entry : goal.returns-clause-entry
returns-clause-entry c = entry-shown

pub returns-clause-step : goal.returns-clause-step
returns-clause-step c = steps-shown

pub returns-clause-requests : goal.returns-clause-requests
returns-clause-requests c = request-same

pub returns-clause-messages : goal.returns-clause-messages
returns-clause-messages c = step-keeps
