use Rattle.std.proofs.Common.{◌≡◌, ◌≤◌, map, take}
use Rattle.std.specs.List.{All}
use Rattle.limits.specs.declared.TheConstants.{STATE_BYTES}
use Rattle.interp.specs.Image.{image_in}
use Rattle.sessions.specs.Fields.{lengths_of}
use Rattle.sessions.proofs.service.lengths.Given as goal

abbrev pub invariant-loop-image : goal.invariant-loop-image
invariant-loop-image l = record {
  values : l.lengths.items ≡ lengths_of (map image_in (take l.image-index l.images));
  short : All (λ len. len ≤ STATE_BYTES) l.lengths.items;
}
