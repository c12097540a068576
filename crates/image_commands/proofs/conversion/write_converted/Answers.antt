use Rattle.std.proofs.Common.{inl, rules}
use Rattle.interp.specs.Image.{the_image}
use Rattle.image_commands.proofs.FaultLemmas.{becomes}
use Rattle.image_commands.proofs.MigrateLemmas.{state_made, state_unmade}
use Rattle.image_commands.proofs.conversion.write_converted.Goals as goal

pub returns-in_err-new-clause-fault : goal.returns-in_err-new-clause-fault
returns-in_err-new-clause-fault g c =
    becomes c.from_residual-in_err-new.result _ _ c.from_residual-in_err-new.ensures.1
    (λ f is. inl (state_unmade (g.F.Files.content c.args.files.now) (g.F.Files.content c.load_handler.new.files) c.args.image.now c.args.state.now c.in_ok-old.old.items
    c.as_slice.result.now (the_image c.in_ok-handler.handler) c.in_ok-handler.ensures.loaded c.in_ok-handler.ensures.same c.in_ok-old.ensures.bytes c.as_slice.ensures.value
    (g.F.Files.failed c.read.new.files) c.in_err-new.field-0.0 f c.in_err-new.ensures.refused is))

pub returns-clause-made : goal.returns-clause-made
returns-clause-made g c = λ known there. (
  c.in_ok-new.new.items,
  state_made (g.F.Files.content c.args.files.now) (g.F.Files.content c.load_handler.new.files) c.args.image.now c.args.state.now c.in_ok-old.old.items
      c.as_slice.result.now (the_image c.in_ok-handler.handler) c.in_ok-handler.ensures.loaded c.in_ok-handler.ensures.same c.in_ok-old.ensures.bytes c.as_slice.ensures.value
      c.in_ok-new.new.items c.in_ok-new.ensures.short c.in_ok-new.ensures.converted known there,
)

pub returns-clause-left : goal.returns-clause-left
returns-clause-left g c = (
  record {
    apart = c.in_ok-spare.ensures.apart;
    file = λ known before there here. (
      c.in_ok-new.new.items,
      state_made (g.F.Files.content c.args.files.now) (g.F.Files.content c.load_handler.new.files) c.args.image.now c.args.state.now c.in_ok-old.old.items
          c.as_slice.result.now (the_image c.in_ok-handler.handler) c.in_ok-handler.ensures.loaded c.in_ok-handler.ensures.same c.in_ok-old.ensures.bytes c.as_slice.ensures.value
          c.in_ok-new.new.items c.in_ok-new.ensures.short c.in_ok-new.ensures.converted known there,
      search rules,
    );
    others = λ other differs. search rules;
  },
  c.in_ok-spare-2.ensures.apart,
)
