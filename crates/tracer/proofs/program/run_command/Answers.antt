use Rattle.std.proofs.Common.{map}
use Rattle.std.proofs.lemmas.Result.{IfErr-weaker}
use Rattle.cli.specs.Asks.{order_of}
use Rattle.image_commands.proofs.FaultLemmas.{becomes}
use Rattle.tracer.proofs.CauseLemmas.{fault_is_cause, refusal_is_cause}
use Rattle.tracer.proofs.program.run_command.Goals as goal

pub returns-in_err-request-clause-fault : goal.returns-in_err-request-clause-fault
returns-in_err-request-clause-fault g c =
    becomes c.from_residual.result _ _ c.from_residual.ensures.1
    (λ f is. refusal_is_cause (map g.S.AsStr.text c.args.words.now) (g.F.Files.content c.args.files.now) g.F.Files.may_be_one (g.F.Files.failed c.args.files.now) c.in_err-request.field-0.0 f c.in_err-request.ensures.usage is)

pub returns-clause-fault : goal.returns-clause-fault
returns-clause-fault g c =
    IfErr-weaker c.answer.result _ _
    (λ f fault. fault_is_cause (map g.S.AsStr.text c.args.words.now) (g.F.Files.content c.args.files.now) g.F.Files.may_be_one (g.F.Files.failed c.answer.new.files) (order_of c.in_ok-request.request) f c.in_ok-request.ensures.request fault)
    c.answer.ensures.fault
