use Rattle.std.proofs.Common.{◌≡◌, ◌≢◌, ℕ, slice_index_or, sym, ap, ◌∙◌, subst}
use Rattle.std.specs.Prelude.{Some, None, IsSome, List, Option}
use Rattle.world.specs.declared.packet.Packet.{Packet}
use Rattle.session_process.proofs.WireLemmas.{listed-replace}
use Rattle.session_process.proofs.wire.Wire.replace.Goals as goal

pub invariant_of-self : goal.invariant_of-self
invariant_of-self c =
    let old = c.self.inside.slab.slots in
    let new = c.insert_reserved.new.self.slots in
    let key = c.args.key in
    let same : c.insert_reserved.result ≡ key = c.insert_reserved.ensures.key ∙ c.remove.ensures.key_is_next in
    let was : IsSome (slice_index_or old key None) = subst (λ (slots : List (Option Packet)). IsSome (slice_index_or slots key None)) (sym c.self.view_is) c.requires in
    let now : slice_index_or new key None ≡ Some c.args.packet = ap (λ k. slice_index_or new k None) (sym same) ∙ c.insert_reserved.ensures.updates.changed in
    let others : (other : ℕ) → other ≢ key → slice_index_or new other None ≡ slice_index_or old other None =
    λ other differ. c.insert_reserved.ensures.updates.others other (λ e. differ (e ∙ same)) ∙ c.remove.ensures.updates.others other differ in
    listed-replace old new c.self.inside.keys.items key c.args.packet was now others c.self.invariant
