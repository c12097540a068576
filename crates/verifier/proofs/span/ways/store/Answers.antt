use Rattle.std.proofs.Common.{◌≡◌, ℤ, Some, None, sym, ap, ◌∙◌, subst, w16, to_z, of_z}
use Rattle.std.proofs.lemmas.Int.{to_z-of_z}
use Rattle.spans.specs.Access.{stored_frame}
use Rattle.spans.specs.Frame.{Frame, kind_at}
use Rattle.verifier.specs.Span.Ways.{StaysInside}
use Rattle.verifier.proofs.Spans.Stores.{stays_inside}
use Rattle.verifier.proofs.span.ways.store.Goals as goal

pub stored-requires : goal.stored-requires
stored-requires c =
    let inside = stays_inside c.args.state_len (kind_at c.args.frame.now.kinds) c.args.kind c.args.base c.args.offset c.args.bytes c.requires.base c.requires.unbroken in
    subst (λ (o : ℤ). StaysInside c.args.base o c.args.bytes) (sym (to_z-of_z w16 c.args.offset c.ranges.offset)) inside

pub returns : goal.returns
returns c =
    let e : to_z w16 (of_z w16 c.args.offset) ≡ c.args.offset = to_z-of_z w16 c.args.offset c.ranges.offset in
    c.falls.ensures ∙ ap (λ (f : Frame). (Some f, None)) (c.stored.ensures ∙ ap (λ (o : ℤ). stored_frame (kind_at c.args.frame.now.kinds) c.args.kind c.args.base o c.args.bytes) e)
