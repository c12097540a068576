use Rattle.std.proofs.Common.{rules, ◌≡◌, ◌+◌, ◌*◌, sym, subst, arith}
use Rattle.std.specs.Prelude.{slice_range}
use Rattle.std.proofs.lemmas.Grind.{common_steps}
use Rattle.helpers.specs.Effects.{Emitted}
use Rattle.operations.specs.Bytes.{le_value}
use Rattle.c_cluster.specs.Nodes.Outcome.{IsSentAt, AreIn, IsLeft}
use Rattle.c_cluster.proofs.Outcomes.{some_left, no_sends, no_outputs}
use Rattle.c_cluster.proofs.nodes.outcome.left_in.Goals as goal

pub returns-in_err-add_messages : goal.returns-in_err-add_messages
returns-in_err-add_messages c =
    let none : (e : Emitted) → ¬ IsLeft c.args.who c.args.bytes.now e = no_sends c.args.who c.args.bytes.now c.word_at-messages.result c.word_at-messages.ensures.value c.in_err-add_messages.ensures.added in
    search (rules, none)

pub returns-in_err-add_outputs : goal.returns-in_err-add_outputs
returns-in_err-add_outputs c =
    let none : (e : Emitted) → ¬ IsLeft c.args.who c.args.bytes.now e = no_outputs c.args.who c.args.bytes.now c.word_at-outputs.result c.word_at-outputs.ensures.value c.in_err-add_outputs.ensures.added in
    search (rules, none)

pub returns : goal.returns
returns c =
    let who = c.args.who in
    let bytes = c.args.bytes.now in
    let e = c.add_outputs.new.effects in
    let me : le_value (slice_range bytes 24 32) ≡ who.me = first_of (search rules, grind (arith, common_steps)) in
    let from : le_value (slice_range bytes 32 40) ≡ who.from = first_of (search rules, grind (arith, common_steps)) in
    let count : le_value (slice_range bytes 40 48) ≡ who.count = first_of (search rules, grind (arith, common_steps)) in
    let sends = subst (AreIn (λ k. IsSentAt who bytes (64 + 272 * k)) c.word_at-messages.result) (sym c.in_ok-add_outputs.ensures.sends) c.in_ok-add_messages.ensures.added in
    some_left who bytes c.word_at-messages.result c.word_at-outputs.result e (omega arith) (omega arith) (omega arith) (omega arith) (omega arith) c.word_at-messages.ensures.bytes c.word_at-outputs.ensures.bytes me from count sends
    c.in_ok-add_outputs.ensures.added
