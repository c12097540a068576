use Rattle.std.proofs.Common.{◌≤◌, ◌∙◌, length, refl, sym, subst, arith}
use Rattle.limits.specs.declared.TheConstants.{PAYLOAD_BYTES}
use Rattle.sessions.specs.Journal.{TheSession}
use Rattle.c_sessions.specs.Inside.Calls.{IsShort}
use Rattle.c_sessions.proofs.PlaceLemmas.{short-refused}
use Rattle.c_sessions.proofs.calls.input.Goals as goal

pub returns-in-Some-refusal : goal.returns-in-Some-refusal
returns-in-Some-refusal c =
    let s = c.in-Some.service.value in
    let refusal = c.in-Some-refusal.refusal in
    let short : IsShort s c.args.to refusal = subst (λ (z : TheSession). IsShort z c.args.to refusal) c.deref.ensures c.in-Some-refusal.ensures.some in
    let few : length c.args.payload.now ≤ PAYLOAD_BYTES = omega arith in
    ((few, (s, c.in-Some.ensures.some, short-refused s c.args.to c.args.feed c.args.payload.now refusal short)), c.put.ensures ∙ sym c.in-Some.ensures.some, refl)
