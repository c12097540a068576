use Rattle.std.proofs.Common.{◌≡◌, ◌↔◌, ℕ, Bool, List, IfOk, IsTrue, true, false, refl, rules, sym, subst}
use Rattle.decode.specs.declared.insn.Insn.{Insn}
use Rattle.decode.specs.Slots.{slots_of}
use Rattle.regtypes.specs.declared.rule.Rule.{Rule}
use Rattle.regtypes.specs.declared.rule.Rule.TheVariants.{V1}
use Rattle.verifier.specs.ImageFile.{IsFault}
use Rattle.verifier.specs.Span.Verdict.{IsFramesOf, IsWhy}
use Rattle.verifier.specs.declared.file_form.FileForm.TheVariants.{Sbi3}
use Rattle.verifier.specs.declared.span.pass.SpanFrames.{SpanFrames}
use Rattle.verifier.specs.Span.Typing.{table_of}
use Rattle.verifier.proofs.Spans.Forms.{one_refusal_3}
use Rattle.block_order.specs.Ordered.{BreaksV1}
use Rattle.block_order.proofs.writer.breaks_v1.Goals as goal
use Rattle.block_order.proofs.writer.breaks_v1.Goals.{in-Ok, in-Err-Fault, in-Err-Memory}

-- code with a typing is refused by no rule
not-refused : (code : List Insn) (state : ℕ) (frames : SpanFrames) → IsFramesOf code state frames → IsTrue false ↔ BreaksV1 code state
not-refused code state frames found = ((λ no. absurd (cc)), (λ breaks. absurd (breaks.1.1 (table_of frames.table.items) found.typing.types)))

-- code is refused by one rule
refused : (code : List Insn) (state slot : ℕ) (rule : Rule) (is : Bool) → IsFault Sbi3 code state rule slot → (is ≡ true → rule ≡ V1) → (rule ≡ V1 → is ≡ true)
    → IsTrue is ↔ BreaksV1 code state
refused code state slot rule true why same back = ((λ yes. (slot, subst (λ r. IsFault Sbi3 code state r slot) (same refl) why)), (λ breaks. refl))
refused code state slot rule false why same back =
    ((λ no. absurd (cc)), (λ breaks. (back (one_refusal_3 state (slots_of code) rule V1 slot breaks.0 why.0 breaks.1.0).0)))

pub returns : goal.returns
returns c = elim c.match-span_verify.branch [
  | in-Ok w ↦ subst (λ r. IfOk r (λ yes. IsTrue yes ↔ BreaksV1 c.args.code.now c.args.state_len)) (sym w.result-is)
      (not-refused c.args.code.now c.args.state_len w.in-Ok.field-0 w.in-Ok.ensures)
  | in-Err-Fault w ↦
      let why : IsFault Sbi3 c.args.code.now c.args.state_len w.in-Err-Fault.rule w.in-Err-Fault.field-0-1 =
      subst (IsWhy c.args.code.now c.args.state_len) w.in-Err-Fault.field-0-is w.in-Err-Fault.ensures in
      let same : w.eq.result ≡ true → w.in-Err-Fault.rule ≡ V1 = search rules in
      let back : w.in-Err-Fault.rule ≡ V1 → w.eq.result ≡ true = search rules in
      subst (λ r. IfOk r (λ yes. IsTrue yes ↔ BreaksV1 c.args.code.now c.args.state_len)) (sym w.result-is)
      (refused c.args.code.now c.args.state_len w.in-Err-Fault.field-0-1 w.in-Err-Fault.rule w.eq.result why same back)
  | in-Err-Memory w ↦ subst (λ r. IfOk r (λ yes. IsTrue yes ↔ BreaksV1 c.args.code.now c.args.state_len)) (sym w.result-is) tt
]
