use Rattle.std.proofs.Common.{ap, inl, string_bytes, subst, sym}
use Rattle.std.proofs.lemmas.Result.{IfErr-weaker, on_ok_weaker}
use Rattle.cli.specs.Asks.{Tell, order_of}
use Rattle.image_commands.proofs.FaultLemmas.{becomes}
use Rattle.tracer.specs.Inside.{IsWriteFault}
use Rattle.tracer.specs.Program.{IsAnswer, IsFault, Leaves}
use Rattle.tracer.proofs.program.answer_alone.Goals as goal

pub returns-in-Asm-clause-report : goal.returns-in-Asm-clause-report
returns-in-Asm-clause-report g c =
    on_ok_weaker c.write_image.result
    (λ made. subst (λ o. IsAnswer (g.F.Files.content c.args.files.now) o (string_bytes c.args.text.now)) (sym (ap order_of c.in-Asm.is)) (λ known there. (made known there, c.requires.empty)))
    c.write_image.ensures.made

pub returns-in-Asm-clause-left : goal.returns-in-Asm-clause-left
returns-in-Asm-clause-left g c =
    on_ok_weaker c.write_image.result
    (λ left. subst (λ o. Leaves o (g.F.Files.content c.args.files.now) (g.F.Files.content c.write_image.new.files)) (sym (ap order_of c.in-Asm.is)) left)
    c.write_image.ensures.left

pub returns-in-Asm-clause-fault : goal.returns-in-Asm-clause-fault
returns-in-Asm-clause-fault g c =
    IfErr-weaker c.write_image.result _ _
    (λ f fault. subst (λ o. IsWriteFault g.F.Files.may_be_one (g.F.Files.content c.args.files.now) (g.F.Files.failed c.write_image.new.files) o f) (sym (ap order_of c.in-Asm.is)) fault)
    c.write_image.ensures.fault

pub returns-in-Run-clause-fault : goal.returns-in-Run-clause-fault
returns-in-Run-clause-fault g c =
    IfErr-weaker c.run_scenario.result _ _
    (λ f fault. inl (subst (λ o. IsFault (g.F.Files.content c.args.files.now) (g.F.Files.failed c.run_scenario.new.files) o f) (sym (ap order_of c.in-Run.is)) fault))
    c.run_scenario.ensures.fault

pub returns-in-Draw-clause-left : goal.returns-in-Draw-clause-left
returns-in-Draw-clause-left g c =
    on_ok_weaker c.draw_scenario.result
    (λ left. subst (λ o. Leaves o (g.F.Files.content c.args.files.now) (g.F.Files.content c.draw_scenario.new.files)) (sym (ap order_of c.in-Draw.is)) left)
    c.draw_scenario.ensures.left

pub returns-in-Draw-clause-fault : goal.returns-in-Draw-clause-fault
returns-in-Draw-clause-fault g c =
    IfErr-weaker c.draw_scenario.result _ _
    (λ f fault. subst (λ o. IsWriteFault g.F.Files.may_be_one (g.F.Files.content c.args.files.now) (g.F.Files.failed c.draw_scenario.new.files) o f) (sym (ap order_of c.in-Draw.is)) fault)
    c.draw_scenario.ensures.fault

pub returns-in-Pack-clause-report : goal.returns-in-Pack-clause-report
returns-in-Pack-clause-report g c =
    on_ok_weaker c.write_packed.result
    (λ made. subst (λ o. IsAnswer (g.F.Files.content c.args.files.now) o (string_bytes c.args.text.now)) (sym (ap order_of c.in-Pack.is)) (λ known there. (((made known there).0, (made known there).1.0, (made known there).1.1), c.requires.empty)))
    c.write_packed.ensures.made

pub returns-in-Pack-clause-left : goal.returns-in-Pack-clause-left
returns-in-Pack-clause-left g c =
    on_ok_weaker c.write_packed.result
    (λ left. subst (λ o. Leaves o (g.F.Files.content c.args.files.now) (g.F.Files.content c.write_packed.new.files)) (sym (ap order_of c.in-Pack.is)) left)
    c.write_packed.ensures.left

pub returns-in-Pack-clause-fault : goal.returns-in-Pack-clause-fault
returns-in-Pack-clause-fault g c =
    IfErr-weaker c.write_packed.result _ _
    (λ f fault. subst (λ o. IsWriteFault g.F.Files.may_be_one (g.F.Files.content c.args.files.now) (g.F.Files.failed c.write_packed.new.files) o f) (sym (ap order_of c.in-Pack.is)) fault)
    c.write_packed.ensures.fault

pub returns-in-Native-clause-report : goal.returns-in-Native-clause-report
returns-in-Native-clause-report g c =
    on_ok_weaker c.write_machine_code.result
    (λ made. subst (λ o. IsAnswer (g.F.Files.content c.args.files.now) o (string_bytes c.args.text.now)) (sym (ap order_of c.in-Native.is)) (λ known there. (made known there, c.requires.empty)))
    c.write_machine_code.ensures.made

pub returns-in-Native-clause-left : goal.returns-in-Native-clause-left
returns-in-Native-clause-left g c =
    on_ok_weaker c.write_machine_code.result
    (λ left. subst (λ o. Leaves o (g.F.Files.content c.args.files.now) (g.F.Files.content c.write_machine_code.new.files)) (sym (ap order_of c.in-Native.is)) left)
    c.write_machine_code.ensures.left

pub returns-in-Native-clause-fault : goal.returns-in-Native-clause-fault
returns-in-Native-clause-fault g c =
    IfErr-weaker c.write_machine_code.result _ _
    (λ f fault. subst (λ o. IsWriteFault g.F.Files.may_be_one (g.F.Files.content c.args.files.now) (g.F.Files.failed c.write_machine_code.new.files) o f) (sym (ap order_of c.in-Native.is)) fault)
    c.write_machine_code.ensures.fault

pub returns-in-Migrate-clause-report : goal.returns-in-Migrate-clause-report
returns-in-Migrate-clause-report g c =
    on_ok_weaker c.write_converted.result
    (λ made. subst (λ o. IsAnswer (g.F.Files.content c.args.files.now) o (string_bytes c.args.text.now)) (sym (ap order_of c.in-Migrate.is)) (λ known there. (made known there, c.requires.empty)))
    c.write_converted.ensures.made

pub returns-in-Migrate-clause-left : goal.returns-in-Migrate-clause-left
returns-in-Migrate-clause-left g c =
    on_ok_weaker c.write_converted.result
    (λ left. subst (λ o. Leaves o (g.F.Files.content c.args.files.now) (g.F.Files.content c.write_converted.new.files)) (sym (ap order_of c.in-Migrate.is)) left)
    c.write_converted.ensures.left

pub returns-in-Migrate-clause-fault : goal.returns-in-Migrate-clause-fault
returns-in-Migrate-clause-fault g c =
    IfErr-weaker c.write_converted.result _ _
    (λ f fault. subst (λ o. IsWriteFault g.F.Files.may_be_one (g.F.Files.content c.args.files.now) (g.F.Files.failed c.write_converted.new.files) o f) (sym (ap order_of c.in-Migrate.is)) fault)
    c.write_converted.ensures.fault

pub returns-in_err-text-in-Tell-clause-fault : goal.returns-in_err-text-in-Tell-clause-fault
returns-in_err-text-in-Tell-clause-fault g c =
    let content = g.F.Files.content c.args.files.now in
    let failed = g.F.Files.failed c.tell_scenario.new.files in
    becomes c.from_residual.result _ _ c.from_residual.ensures.1
    (λ f is. inl (subst (λ o. IsFault content failed o f) (sym (ap order_of c.in-Tell.is))
    (subst (IsFault content failed (Tell c.in-Tell.scenario.now c.in-Tell.json c.in-Tell.names)) (sym is) c.in_err-text-in-Tell.ensures.fault)))
