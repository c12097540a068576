use Rattle.std.proofs.Common.{◌+◌}
use Rattle.std.proofs.lemmas.Result.{on_ok_weaker}
use Rattle.native.specs.Emission.{room_test, peer_tests, length_test}
use Rattle.native.proofs.Emitted.{three_then}
use Rattle.native.proofs.emission.write_send_sized_tests.Goals as goal

pub returns : goal.returns
returns c =
    let n = c.args.size in
    on_ok_weaker c.write_length_test.result (three_then c.args.code.now.items c.write_peer_tests.new.code.items c.write_room_test.new.code.items c.write_length_test.new.code.items (peer_tests (n + 44) (n + 35) (n + 26)) (room_test 0 (n + 23)) (length_test 9 n) c.in_ok-write_peer_tests.ensures c.in_ok-write_room_test.ensures) c.write_length_test.ensures
