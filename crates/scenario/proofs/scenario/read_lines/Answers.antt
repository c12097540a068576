use Rattle.std.proofs.Common.{◌≡◌, ◌≤◌, ◌+◌, Bool, true, false, List, ℕ, Option, Bor, length, refl, sym, subst, arith, rules}
use Rattle.std.specs.Prelude.{not}
use Rattle.std.proofs.lemmas.Bool.Decides.{nat_tests}
use Rattle.scenario.specs.declared.scenario.Step.{Step}
use Rattle.scenario.specs.Inside.Loop.{HaveRead, left}
use Rattle.scenario.specs.Process.{MayDeclare, names_in}
use Rattle.scenario.specs.Scenario.{has_begun}
use Rattle.scenario.specs.Order.{takes}
use Rattle.scenario.proofs.Lines.{is_fault, named_of, not_taken, read_process, read_silent, read_step}
use Rattle.scenario.proofs.scenario.read_lines.Goals as goal

pub line_of-requires : goal.line_of-requires
line_of-requires c =
    let fine = c.loop-rest.invariant.so_far.fine in
    record { few = fine.few; named = named_of c.loop-rest.processes.entries fine.declared }

pub loop-rest-preserved-in-Silent : goal.loop-rest-preserved-in-Silent
loop-rest-preserved-in-Silent c =
    let n = c.loop-rest.number in
    let es = c.loop-rest.processes.entries in
    let ss = c.loop-rest.steps.items in
    let old = subst (λ (o : Option (Bor (List ℕ))). HaveRead c.args.allowed c.args.text.now o n es ss) c.in-Some.is c.loop-rest.invariant.so_far in
    let counted = subst (λ (o : Option (Bor (List ℕ))). n + left o ≤ length c.args.text.now + 1) c.in-Some.is c.loop-rest.invariant.counted in
    let read = rw c.in-Silent.is at c.in-Some-line_of.ensures in
    record {
      so_far = read_silent c.args.allowed c.args.text.now c.in-Some.here c.cut_line.result.0.now c.cut_line.result.1 n es ss old c.cut_line.ensures.lines read;
      counted = omega (arith, c.cut_line.ensures.shorter);
    }

pub loop-rest-preserved-in_ok-declare-in-Process : goal.loop-rest-preserved-in_ok-declare-in-Process
loop-rest-preserved-in_ok-declare-in-Process c =
    let n = c.loop-rest.number in
    let es = c.loop-rest.processes.entries in
    let ss = c.loop-rest.steps.items in
    let old = subst (λ (o : Option (Bor (List ℕ))). HaveRead c.args.allowed c.args.text.now o n es ss) c.in-Some.is c.loop-rest.invariant.so_far in
    let counted = subst (λ (o : Option (Bor (List ℕ))). n + left o ≤ length c.args.text.now + 1) c.in-Some.is c.loop-rest.invariant.counted in
    let read = rw c.in-Process.is at c.in-Some-line_of.ensures in
    let begun : not c.is_empty.result ≡ has_begun ss = search (rules, nat_tests) in
    let may = subst (λ (b : Bool). MayDeclare (names_in es) b c.in-Process.name.now c.in-Process.path.now) begun read.2 in
    record {
      so_far = read_process c.args.allowed c.args.text.now c.in-Some.here c.cut_line.result.0.now c.cut_line.result.1 n es ss old c.cut_line.ensures.lines
          c.in-Process.name.now c.in-Process.path.now c.declare.new.processes.entries read.0 read.1 may c.in_ok-declare-in-Process.ensures.added;
      counted = omega (arith, c.cut_line.ensures.shorter);
    }

pub returns-then-not-take-clause-refused : goal.returns-then-not-take-clause-refused
returns-then-not-take-clause-refused c =
    let n = c.loop-rest.number in
    let es = c.loop-rest.processes.entries in
    let ss = c.loop-rest.steps.items in
    let old = subst (λ (o : Option (Bor (List ℕ))). HaveRead c.args.allowed c.args.text.now o n es ss) c.in-Some.is c.loop-rest.invariant.so_far in
    let read = rw c.in-Order.is at c.in-Some-line_of.ensures in
    let no : takes c.args.allowed c.in-Order.order ≡ false = search rules in
    is_fault c.args.allowed c.args.text.now c.in-Some.here c.cut_line.result.0.now c.cut_line.result.1 n es ss old c.cut_line.ensures.lines
    (not_taken c.args.allowed c.args.text.now c.in-Some.here c.cut_line.result.0.now c.cut_line.result.1 n es ss old c.cut_line.ensures.lines c.in-Order.order read.0 read.1 no)

pub loop-rest-preserved : goal.loop-rest-preserved
loop-rest-preserved c =
    let n = c.loop-rest.number in
    let es = c.loop-rest.processes.entries in
    let ss = c.loop-rest.steps.items in
    let old = subst (λ (o : Option (Bor (List ℕ))). HaveRead c.args.allowed c.args.text.now o n es ss) c.in-Some.is c.loop-rest.invariant.so_far in
    let counted = subst (λ (o : Option (Bor (List ℕ))). n + left o ≤ length c.args.text.now + 1) c.in-Some.is c.loop-rest.invariant.counted in
    let read = rw c.in-Order.is at c.in-Some-line_of.ensures in
    let x : Step = record { line = n + 1; order = c.in-Order.order } in
    let may : takes c.args.allowed c.in-Order.order ≡ true = search rules in
    let now = read_step c.args.allowed c.args.text.now c.in-Some.here c.cut_line.result.0.now c.cut_line.result.1 n es ss old c.cut_line.ensures.lines x refl read.0 read.1 read.2 may in
    record {
      so_far = subst (λ (t : List Step). HaveRead c.args.allowed c.args.text.now c.cut_line.result.1 (n + 1) es t) (sym c.in_ok-push-in-Order.ensures.items) now;
      counted = omega (arith, c.cut_line.ensures.shorter);
    }
