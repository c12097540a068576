use Rattle.std.proofs.Common.{◌∙◌, inl, rules, subst, sym}
use Rattle.image_commands.specs.Asm.{IsUnassembled}
use Rattle.image_commands.specs.Fault.{FaultOf}
use Rattle.image_commands.proofs.FaultLemmas.{becomes, plain_of, reading_fault}
use Rattle.image_commands.proofs.LoadLemmas.{plain_fault}
use Rattle.image_commands.proofs.asm.write_image.Goals as goal

pub returns-in_err-text-clause-fault : goal.returns-in_err-text-clause-fault
returns-in_err-text-clause-fault g c =
    becomes c.from_residual-in_err-text.result _ _ c.from_residual-in_err-text.ensures.1
    (λ f is. inl (plain_fault (g.F.Files.content c.args.files.now) (g.F.Files.failed c.read.new.files) c.args.source.now IsUnassembled f
    (plain_of (g.F.Files.failed c.read.new.files) c.in_err-text.field-0.0 f c.in_err-text.ensures.fault is)))

pub returns-in_err-bytes-clause-fault : goal.returns-in_err-bytes-clause-fault
returns-in_err-bytes-clause-fault g c =
    becomes c.from_residual-in_err-bytes.result _ _ c.from_residual-in_err-bytes.ensures.1
    (λ f is. inl (subst (FaultOf (g.F.Files.content c.args.files.now) (g.F.Files.failed c.read.new.files) c.args.source.now IsUnassembled) (sym is)
    (reading_fault (g.F.Files.content c.args.files.now) (g.F.Files.failed c.read.new.files) c.args.source.now IsUnassembled c.in_err-bytes.field-0.0
    c.in_err-bytes.ensures.kind (λ known there. c.in_err-bytes.ensures.refused known (c.as_slice.ensures.value ∙ c.in_ok-text.ensures.bytes known there)))))

pub returns-in_err-write-clause-fault : goal.returns-in_err-write-clause-fault
returns-in_err-write-clause-fault g c =
    becomes c.from_residual-in_err-write.result _ _ c.from_residual-in_err-write.ensures.1
    (λ f is. inl (plain_fault (g.F.Files.content c.args.files.now) (g.F.Files.failed c.write.new.files) c.args.source.now IsUnassembled f
    (plain_of (g.F.Files.failed c.write.new.files) c.in_err-write.field-0.0 f c.in_err-write.ensures.fault is)))

pub returns-clause-made : goal.returns-clause-made
returns-clause-made g c = λ known there.
    (c.in_ok-bytes.bytes.items, c.in_ok-bytes.ensures.written known (c.as_slice.ensures.value ∙ c.in_ok-text.ensures.bytes known there))

pub returns-clause-left : goal.returns-clause-left
returns-clause-left g c = record {
  apart = c.in_ok-spare.ensures.apart;
  file = λ known before there here. (
    c.in_ok-bytes.bytes.items,
    c.in_ok-bytes.ensures.written known (c.as_slice.ensures.value ∙ c.in_ok-text.ensures.bytes known there),
    search rules,
  );
  others = λ other differs. search rules;
}
