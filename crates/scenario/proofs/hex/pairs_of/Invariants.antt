use Rattle.std.proofs.Common.{◌≡◌, ◌<◌, ◌*◌, length, take}
use Rattle.std.specs.List.{AllByRecursion}
use Rattle.limits.specs.declared.TheConstants.{PAYLOAD_BYTES}
use Rattle.scenario.specs.Hex.{pairs_text}
use Rattle.scenario.proofs.hex.pairs_of.Given as goal

abbrev pub invariant-loop-index : goal.invariant-loop-index
invariant-loop-index l = record {
  so_far : take (2 * l.index) l.text ≡ pairs_text (take l.index l.bytes);
  wide : length l.bytes ≡ PAYLOAD_BYTES;
  small : AllByRecursion (λ b. b < 256) (take l.index l.bytes);
}
