use Rattle.std.proofs.Common.{arith, rules, ◌≡◌, ◌≢◌}
use Rattle.std.specs.Prelude.{codes, String}
use Rattle.std.specs.declared.alloc.Global.{Global}
use Rattle.std.specs.String.{string_bytes}
use Rattle.std.proofs.lemmas.List.{length-map}
use Rattle.scenario.specs.declared.process.NamedProcess.{NamedProcess}
use Rattle.scenario.specs.Order.{IsName}
use Rattle.scenario.specs.Process.{IsPath, names_of}
use Rattle.scenario.proofs.Lines.{bad_path, declares, name_taken, no_name, no_path, other_word}
use Rattle.scenario.proofs.line.declaration_of.Goals as goal

pub returns-then-ne : goal.returns-then-ne
returns-then-ne c =
    let cut = c.in_ok-word.ensures in
    let other : c.in_ok-word.word.now ≢ codes "process" = search rules in
    other_word c.args.text.now c.in_ok-word.word.now c.in_ok-word.operands.now cut.0 cut.1 (names_of c.args.processes.now) c.args.begun other

pub returns-in_err-name : goal.returns-in_err-name
returns-in_err-name c =
    let cut = c.in_ok-word.ensures in
    rw c.from_residual-in_err-name.ensures (no_path c.args.text.now c.in_ok-word.word.now c.in_ok-word.operands.now cut.0 cut.1 (names_of c.args.processes.now) c.args.begun c.in_err-name.ensures)

pub returns-then-not-is_name : goal.returns-then-not-is_name
returns-then-not-is_name c =
    let cut = c.in_ok-word.ensures in
    let more = c.in_ok-name.ensures in
    let no : IsName c.in_ok-name.name.now → ⊥ = search rules in
    no_name c.args.text.now c.in_ok-word.word.now c.in_ok-word.operands.now cut.0 cut.1 c.in_ok-name.name.now c.in_ok-name.path.now more.0 more.1 (names_of c.args.processes.now) c.args.begun no

pub returns-then-not-is_path : goal.returns-then-not-is_path
returns-then-not-is_path c =
    let cut = c.in_ok-word.ensures in
    let more = c.in_ok-name.ensures in
    let no : IsPath c.in_ok-name.path.now → ⊥ = search rules in
    bad_path c.args.text.now c.in_ok-word.word.now c.in_ok-word.operands.now cut.0 cut.1 c.in_ok-name.name.now c.in_ok-name.path.now more.0 more.1 (names_of c.args.processes.now) c.args.begun no

pub returns-then-not-is_free : goal.returns-then-not-is_free
returns-then-not-is_free c =
    let cut = c.in_ok-word.ensures in
    let more = c.in_ok-name.ensures in
    name_taken c.args.text.now c.in_ok-word.word.now c.in_ok-word.operands.now cut.0 cut.1 c.in_ok-name.name.now c.in_ok-name.path.now more.0 more.1 (names_of c.args.processes.now) c.args.begun c.if-not-is_free.ensures

pub returns : goal.returns
returns c =
    let cut = c.in_ok-word.ensures in
    let more = c.in_ok-name.ensures in
    let is : c.in_ok-word.word.now ≡ codes "process" = search rules in (
      declares c.args.text.now c.in_ok-word.word.now c.in_ok-word.operands.now cut.0 cut.1 c.in_ok-name.name.now c.in_ok-name.path.now more.0 more.1 is,
      record {
        first = search rules;
        room = omega (arith, c.len.ensures.len, c.if-len-ge-PROCESSES.false, length-map c.args.processes.now.entries (λ (e : String Global × NamedProcess). string_bytes e.0));
        named = search rules;
        pathed = search rules;
        fresh = c.if-not-is_free.ensures;
      },
    )
