use Rattle.std.proofs.Common.{◌≡◌, ◌∙◌, rules, subst, string_bytes}
use Rattle.assemble.specs.Text.{text_of}
use Rattle.verifier.specs.AnyFile.{IsFile, IsUnread}
use Rattle.image_commands.proofs.FaultLemmas.{becomes, read_fault}
use Rattle.image_commands.proofs.HeadLemmas.{any_file, any_unread}
use Rattle.image_commands.proofs.dis.disassemble_image.Goals as goal

pub returns-in_err-code-clause-fault : goal.returns-in_err-code-clause-fault
returns-in_err-code-clause-fault g c =
    becomes c.from_residual-in_err-code.result _ _ c.from_residual-in_err-code.ensures.1
    (λ f is. read_fault IsUnread any_unread (g.F.Files.content c.args.files.now) (g.F.Files.failed c.read.new.files) c.args.path.now c.as_slice.result.now c.in_err-code.field-0.0 f
    (λ known there. c.as_slice.ensures.value ∙ c.in_ok-bytes.ensures.bytes known there) c.in_err-code.ensures.refused is)

pub returns-clause-listing : goal.returns-clause-listing
returns-clause-listing g c = λ known there.
    let text : string_bytes c.in_ok-text.text ≡ text_of c.in_ok-code.code.items = search rules in
    record {
      form = c.in_ok-code._form;
      code = c.in_ok-code.code.items;
      len = c.in_ok-code._state;
      file = any_file c.in_ok-code._form c.in_ok-code.code.items c.in_ok-code._state known
          (subst (IsFile c.in_ok-code._form c.in_ok-code.code.items c.in_ok-code._state) (c.as_slice.ensures.value ∙ c.in_ok-bytes.ensures.bytes known there) c.in_ok-code.ensures.found);
      text_is = text;
    }
