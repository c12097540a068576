use Rattle.std.proofs.lemmas.Result.{on_ok_weaker}
use Rattle.native.specs.Emission as specs
use Rattle.native.proofs.Emitted.{three_then}
use Rattle.native.proofs.effect.write_output_sized_by.Goals as goal

pub returns : goal.returns
returns c = on_ok_weaker c.write_good_end.result (three_then c.args.code.now.items c.write_place.new.code.items c.write_sized_by.new.code.items c.write_good_end.new.code.items (specs.place_code 2240) (specs.sized_by_code 8 12) (specs.good_end 8 12) c.in_ok-write_place.ensures c.in_ok-write_sized_by.ensures) c.write_good_end.ensures
