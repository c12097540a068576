use Rattle.std.proofs.Common.{inl, inr}
use Rattle.page_calls.proofs.page.answer_call.Goals as goal

pub returns-in-Ok-put : goal.returns-in-Ok-put
returns-in-Ok-put c = inl (c.in-Ok.answer, c.in-Ok.ensures.answered, c.in-Ok.ensures.status, inl (c.from.ensures, c.in-Ok-put.ensures))

pub returns : goal.returns
returns c = inl (c.in-Ok.answer, c.in-Ok.ensures.answered, c.in-Ok.ensures.status, inr (c.in-Err-put.misfit, c.number-in-Err-put.ensures, c.in-Err-put.ensures))
