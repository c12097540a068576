use Rattle.std.proofs.Common.{◌≡◌, ◌≤◌, ◌∙◌, arith, inr, length, refl, rules, subst, sym}
use Rattle.assemble.specs.Refusal.{AreLines}
use Rattle.assemble.specs.Text.{lines_of}
use Rattle.std.specs.Str.{IsUtf8}
use Rattle.verifier.specs.AnyFile.{IsFile}
use Rattle.verifier.specs.ImageFile.{IsUnwritten}
use Rattle.image_commands.specs.Judged.{IsJudged}
use Rattle.image_commands.proofs.AsmLemmas.{code_refused, judged_all, text_refused}
use Rattle.image_commands.proofs.FaultLemmas.{becomes}
use Rattle.image_commands.proofs.JudgedLemmas.{judged_by_read, longer, read_whole}
use Rattle.image_commands.proofs.asm.asm.Goals as goal
use Rattle.image_commands.specs.declared.judged.TheConstants.{TEXT_LIMIT}

pub returns-in_default-clause-refused : goal.returns-in_default-clause-refused
returns-in_default-clause-refused c = λ whole read.
    (c.judged.result.now, judged_by_read c.args.source.now whole c.judged.result.now read c.judged.ensures, search rules)

pub returns-in_err-code-clause-refused : goal.returns-in_err-code-clause-refused
returns-in_err-code-clause-refused c =
    let text : c.in-Ok.text.now ≡ c.judged.result.now = search rules in
    becomes c.from_residual.result _ _ c.from_residual.ensures.1
    (λ f is whole read. text_refused c.args.source.now whole c.in-Ok.text.now c.in_err-code.field-0.0 f read
    (subst (IsJudged c.args.source.now) (sym text) c.judged.ensures) c.in_err-code.ensures.refused is)

pub returns-then-source-gt-TEXT_LIMIT-clause-refused : goal.returns-then-source-gt-TEXT_LIMIT-clause-refused
returns-then-source-gt-TEXT_LIMIT-clause-refused c = λ whole read.
    let text : c.in-Ok.text.now ≡ c.judged.result.now = search rules in (
      refl,
      inr record {
        long = longer TEXT_LIMIT c.args.source.now whole read (omega arith);
        head = c.judged.result.now;
        judged = judged_by_read c.args.source.now whole c.judged.result.now read c.judged.ensures;
        code = c.in_ok-code.code.items;
        fine = subst (λ t. AreLines (lines_of t) c.in_ok-code.code.items) text c.in_ok-code.ensures.found;
      },
    )

pub returns-in_err-bytes-clause-refused : goal.returns-in_err-bytes-clause-refused
returns-in_err-bytes-clause-refused c =
    let text : c.in-Ok.text.now ≡ c.judged.result.now = search rules in
    let code : c.as_slice.result.now ≡ c.in_ok-code.code.items = search rules in
    let short : length c.args.source.now ≤ TEXT_LIMIT = omega arith in
    becomes c.from_residual-in_err-bytes.result _ _ c.from_residual-in_err-bytes.ensures.1
    (λ f is whole read. code_refused whole c.in_ok-code.code.items c.in_err-bytes.field-0.0 f
    (subst (λ t. AreLines (lines_of t) c.in_ok-code.code.items) (judged_all c.args.source.now whole c.judged.result.now read c.judged.ensures short)
    (subst (λ t. AreLines (lines_of t) c.in_ok-code.code.items) text c.in_ok-code.ensures.found))
    (subst (λ is. IsUnwritten is c.in_err-bytes.field-0.0) code c.in_err-bytes.ensures.refused) is)

pub returns-clause-written : goal.returns-clause-written
returns-clause-written c = λ whole read.
    let short : length c.args.source.now ≤ TEXT_LIMIT = omega arith in
    let text : c.in-Ok.text.now ≡ c.judged.result.now = search rules in
    let all : c.in-Ok.text.now ≡ whole = text ∙ judged_all c.args.source.now whole c.judged.result.now read c.judged.ensures short in
    let utf8 : IsUtf8 c.in-Ok.text.now = search rules in
    let code : c.as_slice.result.now ≡ c.in_ok-code.code.items = search rules in
    record {
      short = subst (λ t. length t ≤ TEXT_LIMIT) (read_whole TEXT_LIMIT c.args.source.now whole read short) short;
      text = subst IsUtf8 all utf8;
      code = c.in_ok-code.code.items;
      lines = subst (λ t. AreLines (lines_of t) c.in_ok-code.code.items) all c.in_ok-code.ensures.found;
      file = subst (λ is. IsFile c.args.form is c.args.state c.in_ok-bytes.bytes.items) code c.in_ok-bytes.ensures.written;
    }
