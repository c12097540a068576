use Rattle.std.proofs.lemmas.Result.{IfErr-weaker, IfOk-weaker}
use Rattle.std.specs.Option.{option_map}
use Rattle.image_commands.proofs.FaultLemmas.{becomes}
use Rattle.image_commands.proofs.PackLemmas.{function_packed, function_unpacked, object_unfiled}
use Rattle.image_commands.proofs.pack.pack_object.Goals as goal

pub returns-in_err-found-clause-refused : goal.returns-in_err-found-clause-refused
returns-in_err-found-clause-refused c =
    becomes c.from_residual.result _ _ c.from_residual.ensures.1
    (λ f is. object_unfiled c.args.asked.state (option_map (λ n. n.now) c.args.asked.function) c.args.file.now c.in_err-found.field-0.0 f
    c.in_err-found.ensures.refused is)

pub returns-in-Ok-clause-written : goal.returns-in-Ok-clause-written
returns-in-Ok-clause-written c =
    IfOk-weaker c.pack_code.result _ _
    (λ o packed. function_packed c.args.asked.state c.args.asked.form (option_map (λ n. n.now) c.args.asked.function) c.args.file.now
    c.in_ok-found.found.code.now c.in-Ok.state c.unwrap_or-form.result o.bytes.items o.blocks c.in-Ok.ensures.length c.in_ok-found.ensures.function
    c.unwrap_or-form.ensures packed)
    c.pack_code.ensures.written

pub returns-in-Ok-clause-refused : goal.returns-in-Ok-clause-refused
returns-in-Ok-clause-refused c =
    IfErr-weaker c.pack_code.result _ _
    (λ f why. function_unpacked c.args.asked.state (option_map (λ n. n.now) c.args.asked.function) c.args.file.now c.in_ok-found.found.code.now f
    c.in_ok-found.ensures.function why)
    c.pack_code.ensures.refused
