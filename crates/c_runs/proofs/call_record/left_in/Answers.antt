use Rattle.std.proofs.Common.{ℕ, rules, arith}
use Rattle.helpers.specs.Effects.{Emitted}
use Rattle.c_runs.specs.CallRecord.{IsLeft}
use Rattle.c_runs.proofs.CallRecords.{some_left, no_sends, no_outputs}
use Rattle.c_runs.proofs.call_record.left_in.Goals as goal

pub returns-in_err-sends_in : goal.returns-in_err-sends_in
returns-in_err-sends_in c =
    let none : (steps : ℕ) (e : Emitted) → ¬ IsLeft c.args.bytes.now steps e = no_sends c.args.bytes.now c.word_at-sends.result c.word_at-sends.ensures.value c.in_err-sends_in.ensures in
    search (rules, none)

pub returns-in_err-outputs_in : goal.returns-in_err-outputs_in
returns-in_err-outputs_in c =
    let none : (steps : ℕ) (e : Emitted) → ¬ IsLeft c.args.bytes.now steps e = no_outputs c.args.bytes.now c.word_at-outputs.result c.word_at-outputs.ensures.value c.in_err-outputs_in.ensures in
    search (rules, none)

pub returns : goal.returns
returns c =
    some_left c.args.bytes.now c.word_at-sends.result c.word_at-outputs.result c.word_at.result c.word_at-else-word_at-gt255.result c.word_at-2.result c.in_ok-sends_in.field-0.items c.in_ok-outputs_in.field-0.items
    (omega arith) (omega arith) (omega arith) c.word_at-sends.ensures.bytes c.word_at-outputs.ensures.bytes c.word_at.ensures.value (omega arith) c.word_at-else-word_at-gt255.ensures.value (omega arith)
    (omega arith) c.word_at-2.ensures.bytes c.in_ok-sends_in.ensures c.in_ok-outputs_in.ensures
