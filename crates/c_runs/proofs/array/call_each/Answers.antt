use Rattle.std.proofs.Common.{◌+◌, sym, subst, ap, ◌∙◌}
use Rattle.std.specs.Prelude.{slice_range}
use Rattle.regtypes.specs.declared.frame.Region.TheVariants.{Message, State}
use Rattle.verifier.specs.FileForm.{file_form_of}
use Rattle.interp.specs.Configuration.{entry}
use Rattle.interp.specs.Flat.{part, Holds, entry_in}
use Rattle.interp.proofs.FlatCalls.{filled_with}
use Rattle.c_runs.specs.Arrays.{flat_image}
use Rattle.c_runs.specs.Calls.{IsReported, AreReported}
use Rattle.c_runs.proofs.CallLemmas.{Reported, none_reported, reported_more, all_reported}
use Rattle.c_runs.proofs.array.call_each.Goals as goal

pub calls-init : goal.calls-init
calls-init c =
    let p = c.args.image.now in
    let state = c.args.state.now in
    let messages = c.args.messages.now in
    let out = c.args.out.now in
    record {
      reported = subst (λ s. Reported (flat_image p) c.args.who state messages out 0 s out 0) (sym c.lay.ensures.state) (none_reported (flat_image p) c.args.who state messages out);
      spent = c.lay.ensures.spent;
    }

pub call_once-end-requires-clause-holds : goal.call_once-end-requires-clause-holds
call_once-end-requires-clause-holds c =
    let p = c.args.image.now in
    let mem = c.refill.new.mem in
    subst (λ n. Holds n p.len (entry_in p.form n p.len mem) mem) c.message_at-message.ensures.size c.refill.ensures.entry

pub calls-preserved : goal.calls-preserved
calls-preserved c =
    let p = c.args.image.now in
    let l = c.calls in
    let once = c.call_once-end in
    let before = part 64 p.len State l.mem in
    let message = c.message_at-message.result.now in
    let after = part 64 p.len State once.new.mem in
    let f = filled_with p.form 64 p.len before message c.refill.new.mem (subst (λ n. Holds n p.len (entry (file_form_of p.form) before message) c.refill.new.mem) c.message_at-message.ensures.size c.refill.ensures.holds) in
    let by_state = subst (λ s. IsReported (flat_image p) c.args.who s (part 64 p.len Message c.refill.new.mem) after l.out l.end once.new.out once.result) f.state_is once.ensures.reported in
    let one = subst (λ m. IsReported (flat_image p) c.args.who before m after l.out l.end once.new.out once.result) f.message_is by_state in
    record {
      reported = reported_more (flat_image p) c.args.who c.args.state.now c.args.messages.now c.args.out.now l.i before l.out l.end message after once.new.out once.result l.invariant.reported c.message_at-message.ensures.value c.calls-test.true c.requires.room one;
      spent = once.ensures.spent;
    }

pub returns : goal.returns
returns c =
    let p = c.args.image.now in
    let l = c.calls in
    let left = c.take.ensures ∙ ap (λ n. slice_range l.mem 256 (256 + n)) c.requires.state in
    let all = all_reported (flat_image p) c.args.who c.args.state.now c.args.messages.now c.args.out.now l.i (part 64 p.len State l.mem) l.out l.end l.invariant.reported c.requires.whole c.calls-test.false in
    record {
      reported = subst (λ s. AreReported (flat_image p) c.args.who c.args.state.now c.args.messages.now s c.args.out.now l.out) (sym left) all;
      spent = l.invariant.spent;
    }
