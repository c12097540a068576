-- The rules and the leaving frames agree with the definition of form 3.
use Rattle.std.specs.Prelude.{◌≡◌, ℕ, None}
use Rattle.decode.specs.declared.insn.Insn.{Insn}
use Rattle.spans.specs.Frame.{Frame}
use Rattle.spans.specs.Ways.{Ways, Leaves}
use Rattle.verifier.specs.Span.Rules.{frame_rule}
use Rattle.verifier.specs.Span.Ways.{ways}

-- if no rule that needs a frame is broken, these ways leave; and if any leave, none is broken, and they are these
abbrev pub IsExact : Type 0
IsExact =
    (state : ℕ) (i : Insn) (f : Frame)
    → (frame_rule state i f ≡ None → Leaves state i f (ways i f))
    × ((w : Ways) → Leaves state i f w → (frame_rule state i f ≡ None) × (w ≡ ways i f))
