-- Where a store that breaks no rule lies.
use Rattle.std.proofs.Common.{◌≡◌, ℕ, ℤ, None}
use Rattle.regtypes.specs.declared.frame.Region.TheVariants.{Message, State, Stack}
use Rattle.spans.specs.declared.kind.SpanKind.{SpanKind}
use Rattle.spans.specs.declared.kind.SpanKind.TheVariants.{Unset, Num, Place}
use Rattle.spans.specs.Frame.{Frame, IsKind}
use Rattle.verifier.specs.Span.Rules.{store_rule}
use Rattle.verifier.specs.Span.Ways.{StaysInside}
use Rattle.verifier.proofs.Spans.Exact.{may-store}

-- a store in the stack that breaks no rule lies inside
pub stays_inside : (state : ℕ) (f : Frame) (k a : SpanKind) (o : ℤ) (n : ℕ) → IsKind a → store_rule state f k a o n ≡ None → StaysInside a o n
stays_inside state f k Unset o n i e = tt
stays_inside state f k (Num s) o n i e = tt
stays_inside state f k (Place Message s) o n i e = tt
stays_inside state f k (Place State s) o n i e = tt
stays_inside state f k (Place Stack s) o n i e = (i, (may-store state f k (Place Stack s) o n e).0)
