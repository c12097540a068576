use Rattle.std.proofs.Common.{◌∙◌, subst, sym, arith, rules}
use Rattle.decode.specs.declared.fault.EncodingRule.TheVariants.{Opcode, Register, Profile, Cut, Width, Field}
use Rattle.decode.specs.Refusal.{Begins}
use Rattle.decode.proofs.Forms.{has_form, no_form, reads_back}
use Rattle.decode.proofs.Firsts.{stops, passes}
use Rattle.decode.proofs.Faults.{Widthless, named, no_width, sized}
use Rattle.decode.proofs.decoder.read_insn.Goals as goal

pub returns-in_default-clause-fault : goal.returns-in_default-clause-fault
returns-in_default-clause-fault c = stops _ _ _ (no_form c.args.word.now.opcode (sym c.form_of.ensures ∙ c.in_default.is))

pub returns-in_default-registers_of-clause-fault : goal.returns-in_default-registers_of-clause-fault
returns-in_default-registers_of-clause-fault c =
    let formed = has_form c.args.word.now.opcode c.in-Some.form (omega arith) (sym c.form_of.ensures ∙ c.in-Some.is) in
    passes Opcode _ _ _ (λ none. none formed.0 formed.1) (stops _ _ _ c.in_default-registers_of.ensures)

pub returns-then-is_outside_profile-clause-fault : goal.returns-then-is_outside_profile-clause-fault
returns-then-is_outside_profile-clause-fault c =
    let formed = has_form c.args.word.now.opcode c.in-Some.form (omega arith) (sym c.form_of.ensures ∙ c.in-Some.is) in
    let rs = c.in-Some-registers_of in
    passes Opcode _ _ _ (λ none. none formed.0 formed.1)
    (passes Register _ _ _ (named c.args.word.now c.args.next rs.dst rs.src rs.ensures.0 rs.ensures.1)
    (stops _ _ _ (search rules)))

pub returns-then-is_cut-clause-fault : goal.returns-then-is_cut-clause-fault
returns-then-is_cut-clause-fault c =
    let formed = has_form c.args.word.now.opcode c.in-Some.form (omega arith) (sym c.form_of.ensures ∙ c.in-Some.is) in
    let rs = c.in-Some-registers_of in
    passes Opcode _ _ _ (λ none. none formed.0 formed.1)
    (passes Register _ _ _ (named c.args.word.now c.args.next rs.dst rs.src rs.ensures.0 rs.ensures.1)
    (passes Profile _ _ _ (search rules)
    (stops _ _ _ (search rules))))

pub returns-then-has_no_width-clause-fault : goal.returns-then-has_no_width-clause-fault
returns-then-has_no_width-clause-fault c =
    let formed = has_form c.args.word.now.opcode c.in-Some.form (omega arith) (sym c.form_of.ensures ∙ c.in-Some.is) in
    let rs = c.in-Some-registers_of in
    passes Opcode _ _ _ (λ none. none formed.0 formed.1)
    (passes Register _ _ _ (named c.args.word.now c.args.next rs.dst rs.src rs.ensures.0 rs.ensures.1)
    (passes Profile _ _ _ (search rules)
    (passes Cut _ _ _ (search rules)
    (stops _ _ _ (no_width c.args.word.now c.args.next (search rules))))))

pub returns-then-not-begins-clause-fault : goal.returns-then-not-begins-clause-fault
returns-then-not-begins-clause-fault c =
    let formed = has_form c.args.word.now.opcode c.in-Some.form (omega arith) (sym c.form_of.ensures ∙ c.in-Some.is) in
    let rs = c.in-Some-registers_of in
    let other : ¬ Begins c.insn_of-insn.result c.args.word.now c.args.next = search rules in
    passes Opcode _ _ _ (λ none. none formed.0 formed.1)
    (passes Register _ _ _ (named c.args.word.now c.args.next rs.dst rs.src rs.ensures.0 rs.ensures.1)
    (passes Profile _ _ _ (search rules)
    (passes Cut _ _ _ (search rules)
    (passes Width _ _ _ (sized c.args.word.now c.args.next (search rules))
    (stops _ Field _ (λ i fits begins.
    other (subst (λ j. Begins j c.args.word.now c.args.next)
    (sym (c.insn_of-insn.ensures.insn ∙ reads_back i fits c.args.word.now c.args.next begins c.in-Some.form (sym c.form_of.ensures ∙ c.in-Some.is) rs.dst rs.src rs.ensures.0 rs.ensures.1))
    begins)))))))
