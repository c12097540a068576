use Rattle.std.proofs.Common.{rules, ◌≡◌, ◌≢◌, ℕ, slice_index_or, ap, sym, ◌∙◌, arith}
use Rattle.std.specs.Prelude.{None, Some, insert}
use Rattle.std.proofs.lemmas.Grind.{common_steps}
use Rattle.slab.specs.Slab.{Slab}
use Rattle.world.specs.declared.packet.Packet.{Packet}
use Rattle.session_process.proofs.WireLemmas.{listed-insert}
use Rattle.session_process.proofs.wire.Wire.place.Goals as goal

pub invariant_of-self-2 : goal.invariant_of-self-2
invariant_of-self-2 c =
    let old = c.self.inside.slab.slots in
    let new = c.insert_reserved.new.self.slots in
    let keys = c.self.inside.keys.items in
    let place = c.rank-place.result in
    let key = c.vacant_key-key.result in
    let same : c.insert_reserved.result ≡ key = c.insert_reserved.ensures.key ∙ sym c.vacant_key-key.ensures.value in
    let others : (other : ℕ) → other ≢ key → slice_index_or new other None ≡ slice_index_or old other None =
    λ other differ. c.insert_reserved.ensures.updates.others other (λ e. differ (e ∙ same)) ∙ ap (λ (s : Slab Packet). slice_index_or s.slots other None) c.reserve.ensures.rest_kept in
    let vacant : slice_index_or old key None ≡ None = ap (λ (s : Slab Packet). slice_index_or s.slots key None) (sym c.reserve.ensures.rest_kept) ∙ ap (λ k. slice_index_or c.reserve.new.self.slots k None) (sym same) ∙ c.insert_reserved.ensures.was_vacant in
    let now : slice_index_or new key None ≡ Some c.args.packet = ap (λ k. slice_index_or new k None) (sym same) ∙ c.insert_reserved.ensures.updates.changed in
    let is : c.insert.new.self.items ≡ insert keys place key = first_of (search rules, grind (arith, common_steps)) in
    let order = c.rank-place.ensures in
    rw is (listed-insert old new keys place key c.args.packet (rw c.as_slice.ensures.value at order.within) (rw c.as_slice.ensures.value at order.below) (rw c.as_slice.ensures.value at order.above) vacant now others c.self.invariant)
