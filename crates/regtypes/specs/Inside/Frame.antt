-- The join of two kinds.
use Rattle.regtypes.specs.declared.frame.Kind.{Kind}
use Rattle.regtypes.specs.Frame.{LeqKind}

-- what two kinds both say
pub record IsJoin (a b k : Kind) : Type 0 where
  pub first : LeqKind a k
  pub second : LeqKind b k
  pub least : (x : Kind) → LeqKind a x → LeqKind b x → LeqKind k x
