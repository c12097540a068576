use Rattle.std.proofs.Common.{◌+◌}
use Rattle.std.proofs.lemmas.Result.{on_ok_weaker}
use Rattle.native.specs.Emission.{room_test, length_test}
use Rattle.native.proofs.Emitted.{some_then}
use Rattle.native.proofs.emission.write_output_sized_tests.Goals as goal

pub returns : goal.returns
returns c =
    let n = c.args.size in
    on_ok_weaker c.write_length_test.result (some_then c.args.code.now.items c.write_room_test.new.code.items c.write_length_test.new.code.items (room_test 8 (n + 16)) (length_test 12 n) c.in_ok-write_room_test.ensures) c.write_length_test.ensures
