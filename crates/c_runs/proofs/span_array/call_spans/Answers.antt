use Rattle.std.proofs.Common.{◌≡◌, sym, subst, ap, ◌∙◌}
use Rattle.std.specs.Prelude.{slice_range}
use Rattle.interp.specs.CallArray.{HoldsEntry, state_in}
use Rattle.c_runs.specs.Arrays.{span_image}
use Rattle.c_runs.specs.Calls.{IsReported, AreReported}
use Rattle.c_runs.proofs.CallLemmas.{Reported, none_reported, reported_more, all_reported}
use Rattle.c_runs.proofs.SpanRuns.{none_left}
use Rattle.c_runs.proofs.span_array.call_spans.Goals as goal

pub calls-init : goal.calls-init
calls-init c =
    let p = c.args.program.now in
    let state = c.args.state.now in
    let messages = c.args.messages.now in
    let out = c.args.out.now in
    record {
      reported = subst (λ s. Reported (span_image p) c.args.who state messages out 0 s out 0) (sym c.span_fill.ensures.state) (none_reported (span_image p) c.args.who state messages out);
      left = none_left p.len (state_in p.len c.span_fill.new.mem) c.span_fill.new.mem c.span_fill.ensures.entry;
    }

pub call_once-end-requires-clause-holds : goal.call_once-end-requires-clause-holds
call_once-end-requires-clause-holds c =
    let p = c.args.program.now in
    let mem = c.span_refill.new.mem in
    subst (λ n. HoldsEntry p.len (slice_range mem 0 n) (state_in p.len mem) mem) c.message_at-message.ensures.size c.span_refill.ensures.entry

pub calls-preserved : goal.calls-preserved
calls-preserved c =
    let p = c.args.program.now in
    let l = c.calls in
    let once = c.call_once-end in
    let mem = c.span_refill.new.mem in
    let before = state_in p.len l.mem in
    let message = c.message_at-message.result.now in
    let after = state_in p.len once.new.mem in
    let same = subst (λ n. slice_range mem 0 n ≡ message) c.message_at-message.ensures.size c.span_refill.ensures.message in
    let by_state = subst (λ s. IsReported (span_image p) c.args.who s (slice_range mem 0 64) after l.out l.end once.new.out once.result) c.span_refill.ensures.state once.ensures.reported in
    let one = subst (λ m. IsReported (span_image p) c.args.who before m after l.out l.end once.new.out once.result) same by_state in
    record {
      reported = reported_more (span_image p) c.args.who c.args.state.now c.args.messages.now c.args.out.now l.i before l.out l.end message after once.new.out once.result l.invariant.reported c.message_at-message.ensures.value c.calls-test.true c.requires.room one;
      left = once.ensures.left;
    }

pub returns : goal.returns
returns c =
    let p = c.args.program.now in
    let l = c.calls in
    let left = c.span_take.ensures ∙ ap (λ n. state_in n l.mem) c.requires.state in
    let all = all_reported (span_image p) c.args.who c.args.state.now c.args.messages.now c.args.out.now l.i (state_in p.len l.mem) l.out l.end l.invariant.reported c.requires.whole c.calls-test.false in
    subst (λ s. AreReported (span_image p) c.args.who c.args.state.now c.args.messages.now s c.args.out.now l.out) (sym left) all
