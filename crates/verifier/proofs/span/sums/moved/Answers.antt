use Rattle.std.proofs.Common.{◌≤ℤ◌, arith, subst}
use Rattle.std.proofs.lemmas.Int.{ints}
use Rattle.spans.specs.Frame.{IsKind}
use Rattle.verifier.proofs.span.sums.moved.Goals as goal

pub near_place-requires : goal.near_place-requires
near_place-requires c =
    let i : c.in-Place.s.lo ≤ℤ c.in-Place.s.hi = subst IsKind c.in-Place.is c.requires in
    omega (arith, ints, c.changed.ensures, c.changed-in-W64.ensures)
