-- The handler ran, and its answer is taken in
use Rattle.std.proofs.Common.{◌≡◌, ◌≤◌, ◌∙◌, ℕ, List, length, sym, ap, subst}
use Rattle.std.specs.Prelude.{Option, Some}
use Rattle.decode.specs.declared.insn.Insn.{Insn}
use Rattle.decode.specs.Slots.{slots_of}
use Rattle.helpers.specs.declared.effects.Who.{Who}
use Rattle.helpers.specs.Effects.{Emitted}
use Rattle.verifier.specs.declared.file_form.FileForm.{FileForm}
use Rattle.verifier.specs.AnyImage.{form_of, code_of}
use Rattle.interp.specs.HandlerCall.{Handled, handled_by}
use Rattle.interp.specs.Answer.{answer_by, shown}
use Rattle.node.specs.declared.job.OpenJob.{OpenJob}
use Rattle.node.specs.declared.job.Given.{Given}
use Rattle.node.specs.declared.node.TheConstants.{MOST_GIVEN}
use Rattle.process.specs.Process.{TheProcess, state_of}
use Rattle.process.specs.Work.{given_of, MayTakeIn, TakesIn, Works}
use Rattle.process.specs.Job.{TheJob, IsAnswerTo, IsNext, IsCallOf, TakesBack}
use Rattle.process.proofs.Results.{may-take}

-- what is given on the message that is next may be taken in
pub may-take-back : (p : TheProcess) (j : OpenJob) (who : Who) (e : Emitted) (given : List Given) → IsNext p j who → given ≡ given_of who e → length given ≤ MOST_GIVEN → MayTakeIn p.lifecycle given
may-take-back p j who e given is same few =
    let small : length (given_of who e) ≤ MOST_GIVEN = subst (λ (v : List Given). length v ≤ MOST_GIVEN) same few in
    subst (λ (v : List Given). MayTakeIn p.lifecycle v) (sym same) (may-take p.lifecycle j who e is.next small)

pub works : (old new : TheProcess) (j : OpenJob) (who : Who) (state : List ℕ) (h : Handled) (given : List Given) → IsNext old j who → state ≡ state_of old.lifecycle
    → answer_by old.image who state j.payload ≡ Some h → given ≡ given_of who h.effects → TakesBack h.state given old new → Works old new
works old new j who state h given is is_state a g t =
    record {
      job = j;
      who = who;
      answer = h;
      mid = t.mid;
      image = t.image;
      next = is.next;
      answers = sym (ap (λ (s : List ℕ). answer_by old.image who s j.payload) is_state) ∙ a;
      takes = subst (λ (v : List Given). TakesIn h.state v old.lifecycle t.mid) g t.takes;
      passes = t.passes;
    }

-- the call of another process with the same code, on the same message and state, is answered just so
pub works-as : (old new : TheProcess) (message : OpenJob) (who : Who) (j : TheJob) (h : Handled) (given : List Given) → IsNext old message who → IsCallOf old message who j → IsAnswerTo j h
    → given ≡ given_of who h.effects → TakesBack h.state given old new → Works old new
works-as old new message who j h given is call answers g t =
    let same = call.0 in
    let code = call.1 in
    let as_who : answer_by j.image who j.state j.payload ≡ Some h = sym (ap (λ (w : Who). answer_by j.image w j.state j.payload) same.who_is) ∙ answers in
    let r : FileForm → List Insn → List ℕ → Option Handled = λ f insns x. handled_by f (slots_of insns) who j.state (shown f x) in
    let a : answer_by old.image who j.state message.payload ≡ Some h =
    ap (λ (f : FileForm). r f (code_of old.image) message.payload) code.form
    ∙ ap (λ (insns : List Insn). r (form_of j.image) insns message.payload) code.code
    ∙ ap (r (form_of j.image) (code_of j.image)) (sym same.payload_is)
    ∙ as_who in
    works old new message who j.state h given is same.state_is a g t
