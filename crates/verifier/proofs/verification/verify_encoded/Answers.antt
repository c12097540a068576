use Rattle.std.proofs.Common.{rules, ◌≡◌, ℕ, List, [], ◌∷◌, Option, Some, None, length, inr, sym, ap, ◌∙◌, subst, refl, arith}
use Rattle.std.proofs.lemmas.Grind.{common_steps}
use Rattle.decode.specs.declared.insn.Insn.{Insn}
use Rattle.decode.specs.Slots.{slots_of}
use Rattle.regtypes.specs.declared.image_form.ImageForm.{ImageForm}
use Rattle.regtypes.specs.declared.rule.Rule.{Rule}
use Rattle.regtypes.specs.declared.rule.Rule.TheVariants.{V2}
use Rattle.regtypes.specs.Typing.{Table, IsTyping}
use Rattle.verifier.specs.Dense.{IsDense}
use Rattle.verifier.specs.Fixpoint.{IsFault}
use Rattle.verifier.specs.Least.{IsLeastTyping, flat_form}
use Rattle.verifier.proofs.LeastTypings.{flat_laws, typing_of}
use Rattle.verifier.proofs.Passes.{fault}
use Rattle.verifier.specs.Verdict.{IsJudged}
use Rattle.verifier.proofs.verification.verify_encoded.Goals as goal

typed : (form : ImageForm) (code code' : List Insn) (len : ℕ) (table : Table) (refusal : Option (Rule × ℕ)) → refusal ≡ None → code ≡ code' → IsJudged form code len table refusal → IsLeastTyping form (slots_of code') len table
typed form code code' len table refusal n e h = subst (λ c. IsLeastTyping form (slots_of c) len table) e (subst (IsJudged form code len table) n h)

faulty : (form : ImageForm) (code code' : List Insn) (len : ℕ) (table : Table) (refusal : Option (Rule × ℕ)) (rule : Rule) (slot : ℕ) → refusal ≡ Some (rule, slot) → code ≡ code' → IsJudged form code len table refusal → IsFault (flat_form form len (slots_of code')) rule slot
faulty form code code' len table refusal rule slot n e h =
    let k = subst (IsJudged form code len table) n h in
    subst (λ c. IsFault (flat_form form len (slots_of c)) rule slot) e k.1

no_slot : (code : List Insn) → length code ≡ 0 → length (slots_of code) ≡ 0
no_slot [] h = refl
no_slot (i ∷ is) h = absurd (omega arith)

pub returns-then-is_empty : goal.returns-then-is_empty
returns-then-is_empty c =
    let slots = slots_of c.args.code.items in
    let empty : length c.args.code.items ≡ 0 = first_of (search rules, grind (arith, common_steps)) in
    fault (flat_form c.args.form c.args.state_len slots) (flat_laws c.args.form c.args.state_len slots) V2 0 (inr (no_slot c.args.code.items empty, refl, refl))

pub compile-requires-clause-typing : goal.compile-requires-clause-typing
compile-requires-clause-typing c =
    let f = c.in-Ok.found in
    let l = typed c.args.form c.deref.result.now c.args.code.items c.args.state_len f.table.items f.refusal c.in_default.is c.deref.ensures.value c.in-Ok.ensures.judged in
    let e : f.slots.items ≡ slots_of c.args.code.items = c.in-Ok.ensures.slots ∙ ap slots_of c.deref.ensures.value in
    (c.args.form, subst (λ s. IsTyping c.args.form s c.args.state_len c.deref-3.result.now) (sym (c.deref-2.ensures.value ∙ e)) (subst (λ t. IsTyping c.args.form (slots_of c.args.code.items) c.args.state_len t) (sym c.deref-3.ensures.value) (typing_of c.args.form c.args.state_len (slots_of c.args.code.items) (length (slots_of c.args.code.items)) f.table.items l.types)))

pub invariant_of-result : goal.invariant_of-result
invariant_of-result c =
    let f = c.in-Ok.found in
    let o = c.in-Ok-compile.operations in
    let l = typed c.args.form c.deref.result.now c.args.code.items c.args.state_len f.table.items f.refusal c.in_default.is c.deref.ensures.value c.in-Ok.ensures.judged in
    let e : c.deref-2.result.now ≡ slots_of c.args.code.items = c.deref-2.ensures.value ∙ c.in-Ok.ensures.slots ∙ ap slots_of c.deref.ensures.value in
    let d = subst (λ t. IsDense c.deref-2.result.now t c.args.state_len o.ops.items o.pool.items) c.deref-3.ensures.value c.in-Ok-compile.ensures.dense in
    let compiled = subst (λ s. IsDense s f.table.items c.args.state_len o.ops.items o.pool.items) e d in
    (l, c.requires.slots, c.requires.state, compiled, c.in-Ok-compile.ensures.from, c.in-Ok-compile.ensures.to, c.in-Ok-compile.ensures.sparing, c.requires.fits, c.requires.bytes)

pub returns-in-Ok-compile : goal.returns-in-Ok-compile
returns-in-Ok-compile c =
    let f = c.in-Ok.found in
    record {
      form_is = refl;
      code_is = refl;
      slots_is = refl;
      len_is = refl;
      typing = typed c.args.form c.deref.result.now c.args.code.items c.args.state_len f.table.items f.refusal c.in_default.is c.deref.ensures.value c.in-Ok.ensures.judged;
    }

pub returns-in-Some : goal.returns-in-Some
returns-in-Some c =
    let f = c.in-Ok.found in
    faulty c.args.form c.deref.result.now c.args.code.items c.args.state_len f.table.items f.refusal c.in-Some.rule c.in-Some.slot c.in-Some.is c.deref.ensures.value c.in-Ok.ensures.judged
