use Rattle.std.proofs.Common.{◌≤◌, arith, length, subst}
use Rattle.std.proofs.lemmas.Result.{IfErr-weaker, IfOk-weaker}
use Rattle.std.specs.Option.{option_map}
use Rattle.image_commands.specs.Pack.{IsMade, IsUnmade}
use Rattle.image_commands.proofs.JudgedLemmas.{longer, read_whole}
use Rattle.image_commands.proofs.PackLemmas.{too_long}
use Rattle.image_commands.proofs.pack.pack.Goals as goal

pub returns-then-file-gt-OBJECT_BYTES-clause-refused : goal.returns-then-file-gt-OBJECT_BYTES-clause-refused
returns-then-file-gt-OBJECT_BYTES-clause-refused c = λ whole read.
    too_long c.args.asked.state (option_map (λ n. n.now) c.args.asked.function) whole (longer 16777216 c.args.file.now whole read (omega arith))

pub returns-clause-written : goal.returns-clause-written
returns-clause-written c =
    let short : length c.args.file.now ≤ 16777216 = omega arith in
    IfOk-weaker c.pack_source.result _ _
    (λ o made whole read. subst (λ bytes. IsMade c.args.asked.state c.args.asked.form (option_map (λ n. n.now) c.args.asked.function) bytes o.bytes.items o.blocks)
    (read_whole 16777216 c.args.file.now whole read short) made)
    c.pack_source.ensures.written

pub returns-clause-refused : goal.returns-clause-refused
returns-clause-refused c =
    let short : length c.args.file.now ≤ 16777216 = omega arith in
    IfErr-weaker c.pack_source.result _ _
    (λ f why whole read. subst (λ bytes. IsUnmade c.args.asked.state (option_map (λ n. n.now) c.args.asked.function) bytes f)
    (read_whole 16777216 c.args.file.now whole read short) why)
    c.pack_source.ensures.refused
