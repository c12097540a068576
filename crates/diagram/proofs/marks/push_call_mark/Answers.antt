use Rattle.std.proofs.Common.{◌∙◌, ◌++◌, ap, append_assoc, codes, string_bytes, sym}
use Rattle.std.proofs.lemmas.Result.{on_ok_weaker}
use Rattle.diagram.specs.Label.{label_text}
use Rattle.diagram.specs.Marks.{call_mark, first_bytes, input_mark}
use Rattle.diagram.specs.declared.label.Side.TheVariants.{Beyond}
use Rattle.diagram.proofs.marks.push_call_mark.Goals as goal

pub returns-in_ok-push_input-in-Input : goal.returns-in_ok-push_input-in-Input
returns-in_ok-push_input-in-Input c =
    let old = string_bytes c.args.out.now in
    let head = input_mark c.args.column c.in-Input.to c.in-Input.feed in
    let bytes = label_text (codes "b") Beyond c.args.column 0 (first_bytes c.in-Input.payload) in
    on_ok_weaker c.push_bytes.result
    (λ written. written ∙ ap (λ t. t ++ bytes) c.in_ok-push_input-in-Input.ensures ∙ append_assoc old head bytes
    ∙ ap (λ call. old ++ call_mark c.args.processes c.args.column call c.args.number) (sym c.in-Input.is))
    c.push_bytes.ensures
