use Rattle.std.proofs.lemmas.Result.{on_ok_weaker}
use Rattle.native.specs.Emission as specs
use Rattle.native.proofs.Emitted.{three_then}
use Rattle.native.proofs.emission.write_peer_tests.Goals as goal

pub returns : goal.returns
returns c = on_ok_weaker c.write_other_test.result (three_then c.args.code.now.items c.write_least_test.new.code.items c.write_most_test.new.code.items c.write_other_test.new.code.items (specs.least_test c.args.none) (specs.most_test c.args.beyond) (specs.other_test c.args.own) c.in_ok-write_least_test.ensures c.in_ok-write_most_test.ensures) c.write_other_test.ensures
