use Rattle.std.proofs.Common.{subst, sym}
use Rattle.interp.specs.Image.{the_image}
use Rattle.native.specs.AnyForm.{IsNativeOf}
use Rattle.image_commands.specs.Inside.{HandlerFault}
use Rattle.image_commands.proofs.FaultLemmas.{becomes}
use Rattle.image_commands.proofs.LoadLemmas.{handler_fault}
use Rattle.image_commands.proofs.machine_code.machine_code.Goals as goal

pub returns-in_err-handler-clause-fault : goal.returns-in_err-handler-clause-fault
returns-in_err-handler-clause-fault g c =
    becomes c.from_residual.result _ _ c.from_residual.ensures.1
    (λ f is. handler_fault (g.F.Files.content c.args.files.now) (g.F.Files.failed c.load_handler.new.files) c.args.path.now f
    (subst (HandlerFault (g.F.Files.content c.args.files.now) (g.F.Files.failed c.load_handler.new.files) c.args.path.now) (sym is) c.in_err-handler.ensures.fault))

pub returns-clause-compiled : goal.returns-clause-compiled
returns-clause-compiled g c = λ known there.
    let image = the_image c.in_ok-handler.handler in
    let loaded = c.in_ok-handler.ensures.loaded known there in record {
      form = image.form;
      code = image.code;
      len = image.len;
      file = loaded.0;
      typable = loaded.1;
      native = subst (λ i. IsNativeOf i c.into_bytes.result.items) c.in_ok-code.ensures c.into_bytes.ensures.native;
    }
