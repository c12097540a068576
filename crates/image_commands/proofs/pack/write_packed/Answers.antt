use Rattle.std.proofs.Common.{◌∙◌, inl, rules}
use Rattle.std.specs.Option.{option_map}
use Rattle.image_commands.specs.Pack.{IsUnmade}
use Rattle.image_commands.proofs.FaultLemmas.{reading_fault}
use Rattle.image_commands.proofs.pack.write_packed.Goals as goal

pub returns-in-Err-clause-fault : goal.returns-in-Err-clause-fault
returns-in-Err-clause-fault g c =
    inl (reading_fault (g.F.Files.content c.args.files.now) (g.F.Files.failed c.read.new.files) c.args.source.now
    (IsUnmade c.args.asked.state (option_map (λ n. n.now) c.args.asked.function)) c.in-Err.fault
    c.in-Err.ensures.kind (λ known there. c.in-Err.ensures.refused known (c.as_slice.ensures.value ∙ c.in_ok-bytes.ensures.bytes known there)))

pub returns-clause-made : goal.returns-clause-made
returns-clause-made g c = λ known there.
    let packed = c.in-Ok.packed in (
      packed.bytes.items,
      (packed.blocks, c.in-Ok.ensures.written known (c.as_slice.ensures.value ∙ c.in_ok-bytes.ensures.bytes known there)),
    )

pub returns-clause-left : goal.returns-clause-left
returns-clause-left g c =
    let packed = c.in-Ok.packed in
    record {
      apart = c.in_ok-spare.ensures.apart;
      file = λ known before there here. (
        packed.bytes.items,
        (packed.blocks, c.in-Ok.ensures.written known (c.as_slice.ensures.value ∙ c.in_ok-bytes.ensures.bytes known there)),
        search rules,
      );
      others = λ other differs. search rules;
    }
