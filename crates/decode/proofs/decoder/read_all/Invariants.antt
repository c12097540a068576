use Rattle.std.proofs.Common.{◌≡◌, ◌+◌, ◌*◌, ◌%◌, ◌++◌, length}
use Rattle.std.specs.List.{AllByRecursion}
use Rattle.decode.specs.Encoding.{Fits, encoding}
use Rattle.decode.specs.Slots.{slots}
use Rattle.decode.proofs.decoder.read_all.Given as goal

abbrev pub invariant-loop-rest : goal.invariant-loop-rest
invariant-loop-rest l = record {
  so_far : l.bytes ≡ encoding l.insns.items ++ l.rest;
  fits : AllByRecursion Fits l.insns.items;
  slot_is : l.slot ≡ slots l.insns.items;
  counted : 8 * l.slot + length l.rest ≡ length l.bytes;
  whole : length l.rest % 8 ≡ 0;
}

abbrev pub decreases-loop-rest : goal.decreases-loop-rest
decreases-loop-rest l = length l.rest
