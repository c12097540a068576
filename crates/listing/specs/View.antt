-- What is known at a slot, of all forms in the words of form 3.
use Rattle.std.specs.Prelude.{ℕ, Bool, false}
use Rattle.regtypes.specs.declared.frame.Kind.{Kind}
use Rattle.regtypes.specs.declared.frame.Kind.TheVariants as flat
use Rattle.regtypes.specs.Frame as registers
use Rattle.regtypes.specs.Rules.{is_len}
use Rattle.spans.specs.declared.kind.SpanKind.{SpanKind}
use Rattle.spans.specs.declared.kind.SpanKind.TheVariants.{Unset, Num, Place}
use Rattle.spans.specs.Frame.{at_place, kind_at}
use Rattle.spans.specs.Span.{whole}
use Rattle.listing.specs.declared.view.View.{View}
use Rattle.listing.specs.declared.view.View.TheVariants.{Flat, Spans}

-- what forms 1 and 2 know of a register. The message's length is a number
abbrev pub spanned : Kind → SpanKind
spanned flat.Unset = Unset
spanned flat.Num = Num (whole 64)
spanned flat.Len = Num (whole 64)
spanned (flat.Place r z) = Place r (at_place z)

-- what is known of a register
abbrev pub known : View → ℕ → SpanKind
known (Flat f) r = spanned (registers.kind_at f.kinds r)
known (Spans c) r = kind_at c.kinds r

-- the size of the message, in forms 1 and 2 the least that it can have
abbrev pub low_of : View → ℕ
low_of (Flat f) = f.low
low_of (Spans c) = 512

-- whether a register is known to hold the length of the message
abbrev pub is_length : View → ℕ → Bool
is_length (Flat f) r = is_len (registers.kind_at f.kinds r)
is_length (Spans c) r = false
