use Rattle.std.proofs.Common.{◌≡◌, false, rules, subst, sym, true}
use Rattle.std.proofs.lemmas.Result.{IfErr-weaker, IfOk-weaker}
use Rattle.std.specs.Prelude.{IfErr, IfOk}
use Rattle.std.specs.Option.{option_map}
use Rattle.elf.specs.Object.{is_elf}
use Rattle.image_commands.specs.Pack.{IsFileBy, IsUnfiledBy}
use Rattle.image_commands.proofs.PackLemmas.{code_packed, code_unpacked, no_length}
use Rattle.image_commands.proofs.pack.pack_source.Goals as goal

pub returns-then-is_object-clause-written : goal.returns-then-is_object-clause-written
returns-then-is_object-clause-written c =
    let elf : is_elf c.args.file.now ≡ true = search rules in
    subst (λ b. IfOk c.pack_object.result (λ o. IsFileBy b c.args.asked.state c.args.asked.form (option_map (λ n. n.now) c.args.asked.function)
    c.args.file.now o.bytes.items o.blocks)) (sym elf) c.pack_object.ensures.written

pub returns-then-is_object-clause-refused : goal.returns-then-is_object-clause-refused
returns-then-is_object-clause-refused c =
    let elf : is_elf c.args.file.now ≡ true = search rules in
    subst (λ b. IfErr c.pack_object.result (IsUnfiledBy b c.args.asked.state (option_map (λ n. n.now) c.args.asked.function) c.args.file.now))
    (sym elf) c.pack_object.ensures.refused

pub returns-in-Some-clause-written : goal.returns-in-Some-clause-written
returns-in-Some-clause-written c =
    let bare : is_elf c.args.file.now ≡ false = search rules in
    IfOk-weaker c.pack_code.result _ _
    (λ o packed. code_packed c.args.asked.state c.args.asked.form (option_map (λ n. n.now) c.args.asked.function) c.args.file.now c.in-Some.state
    c.unwrap_or-form.result o.bytes.items o.blocks bare c.in-Some.is c.unwrap_or-form.ensures packed)
    c.pack_code.ensures.written

pub returns-in-Some-clause-refused : goal.returns-in-Some-clause-refused
returns-in-Some-clause-refused c =
    let bare : is_elf c.args.file.now ≡ false = search rules in
    IfErr-weaker c.pack_code.result _ _
    (λ f why. code_unpacked c.args.asked.state (option_map (λ n. n.now) c.args.asked.function) c.args.file.now f bare why)
    c.pack_code.ensures.refused

pub returns-in-None-clause-refused : goal.returns-in-None-clause-refused
returns-in-None-clause-refused c =
    no_length c.args.asked.state (option_map (λ n. n.now) c.args.asked.function) c.args.file.now c.in-None.is
