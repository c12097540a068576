use Rattle.std.proofs.Common.{◌+◌}
use Rattle.std.proofs.lemmas.Result.{on_ok_weaker}
use Rattle.native.specs.Emission.{room_test, peer_tests}
use Rattle.native.proofs.Emitted.{some_then}
use Rattle.native.proofs.emission.write_send_tests.Goals as goal

pub returns : goal.returns
returns c =
    let n = c.args.size in
    on_ok_weaker c.write_room_test.result (some_then c.args.code.now.items c.write_peer_tests.new.code.items c.write_room_test.new.code.items (peer_tests (n + 28) (n + 19) (n + 10)) (room_test 0 (n + 7)) c.in_ok-write_peer_tests.ensures) c.write_room_test.ensures
