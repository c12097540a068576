use Rattle.std.proofs.Common.{rules, ◌≡◌, ◌+◌, length, slice_index_or, sym, ◌∙◌, arith}
use Rattle.std.specs.Prelude.{Some, None}
use Rattle.std.specs.Vec.{vec_len}
use Rattle.std.proofs.lemmas.Grind.{common_steps}
use Rattle.session_process.proofs.WireLemmas.{there, rank-is, listed-remove}
use Rattle.session_process.proofs.wire.Wire.remove.Goals as goal

pub remove-requires : goal.remove-requires
remove-requires c =
    let old = c.self.inside.slab.slots in
    let keys = c.self.inside.keys.items in
    let one = there c.try_remove.result (sym c.is_some.ensures ∙ c.if-is_some.true) in
    let found : slice_index_or old c.args.key None ≡ Some one.0 = sym c.try_remove.ensures.value ∙ one.1 in
    let at = rank-is old keys c.rank-place.result c.args.key one.0 (rw c.as_slice.ensures.value at c.rank-place.ensures.below) (rw c.as_slice.ensures.value at c.rank-place.ensures.above) found c.self.invariant in
    let width : vec_len c.self.inside.keys ≡ length keys = search rules in
    omega (arith, width, at.0)

pub invariant_of-self : goal.invariant_of-self
invariant_of-self c =
    let old = c.self.inside.slab.slots in
    let new = c.try_remove.new.self.slots in
    let keys = c.self.inside.keys.items in
    let place = c.rank-place.result in
    let one = there c.try_remove.result (sym c.is_some.ensures ∙ c.if-is_some.true) in
    let found : slice_index_or old c.args.key None ≡ Some one.0 = sym c.try_remove.ensures.value ∙ one.1 in
    let at = rank-is old keys place c.args.key one.0 (rw c.as_slice.ensures.value at c.rank-place.ensures.below) (rw c.as_slice.ensures.value at c.rank-place.ensures.above) found c.self.invariant in
    let shorter : length c.remove.new.self.items + 1 ≡ length keys = first_of (search rules, grind (arith, common_steps)) in
    listed-remove old new keys c.args.key c.try_remove.ensures.updates.changed c.try_remove.ensures.updates.others c.self.invariant c.remove.new.self.items place at.1 at.0 shorter c.remove.ensures.by_index.0 c.remove.ensures.by_index.1
