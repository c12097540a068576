use Rattle.std.proofs.Common.{◌++◌, ap, ◌∙◌, sym, length, subst, ◌≤◌}
use Rattle.native.specs.Code.{codes}
use Rattle.native.specs.Emission as specs
use Rattle.native.proofs.Emitted.{where_ok, call_is}
use Rattle.native.proofs.Lengths.{good_few}
use Rattle.native.proofs.task_code.emit_helper.Goals as goal

pub returns : goal.returns
returns c =
    let h = c.args.helper in
    let good = specs.good_of h c.args.at in
    let written = c.in_ok-write_good.ensures ∙ ap (λ l. l ++ codes good) c.in_ok-good.ensures.items in
    let size = c.len-size.ensures ∙ c.write_good.new.code.ok.0 ∙ ap length written in
    let copied = c.in_ok-extend_from_slice.ensures.items ∙ ap (λ l. c.write_tests.new.code.items ++ l) (c.as_slice.ensures.value ∙ written) in
    where_ok c.write_end.result c.write_end.ensures (call_is (specs.tests_of h) good (specs.end_of h) c.len-size.result c.args.code.now.items c.write_tests.new.code.items c.extend_from_slice.new.self.items c.write_end.new.code.items size c.in_ok-write_tests.ensures copied)

pub write_tests-requires : goal.write_tests-requires
write_tests-requires c =
    let h = c.args.helper in
    let good = specs.good_of h c.args.at in
    let written = c.in_ok-write_good.ensures ∙ ap (λ l. l ++ codes good) c.in_ok-good.ensures.items in
    let size = c.len-size.ensures ∙ c.write_good.new.code.ok.0 ∙ ap length written in
    subst (λ n. n ≤ 80) (sym size) (good_few h c.args.at)
