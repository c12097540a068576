use Rattle.std.proofs.Common.{inl, subst, sym}
use Rattle.image_commands.specs.Check.{IsUnaccepted}
use Rattle.image_commands.specs.Fault.{FaultOf}
use Rattle.image_commands.proofs.FaultLemmas.{becomes}
use Rattle.image_commands.proofs.machine_code.write_machine_code.Goals as goal

pub returns-in_err-bytes-clause-fault : goal.returns-in_err-bytes-clause-fault
returns-in_err-bytes-clause-fault g c =
    becomes c.from_residual-in_err-bytes.result _ _ c.from_residual-in_err-bytes.ensures.1
    (λ f is. inl (subst (FaultOf (g.F.Files.content c.args.files.now) (g.F.Files.failed c.machine_code.new.files) c.args.image.now IsUnaccepted) (sym is)
    c.in_err-bytes.ensures.fault))
