-- The first word of the stack with a flaw, one word more at a time.
use Rattle.std.proofs.Common.{◌≡◌, ◌∙◌, ℕ, ◌+◌, ℤ, refl, sym, ap, add-one}
use Rattle.std.specs.Prelude.{Option, None}
use Rattle.std.specs.Option.{option_or}
use Rattle.spans.specs.declared.kind.Reach.{Reach}
use Rattle.spans.specs.Frame.{Frame}
use Rattle.listing.specs.declared.flaw.Flaw.{Flaw}
use Rattle.listing.specs.Flaw.{first_word, flawed_cell}

pub none_yet : (w : Flaw) (f : Frame) (s : Reach) (o : ℤ) (n : ℕ) → None ≡ first_word 0 w f s o n
unfolding first_word
none_yet w f s o n = refl

pub one_more : (w : Flaw) (f : Frame) (s : Reach) (o : ℤ) (n k : ℕ) (found new : Option ℕ) → found ≡ first_word k w f s o n
    → new ≡ option_or found (flawed_cell w f s o n (11 + k)) → new ≡ first_word (k + 1) w f s o n
unfolding first_word
one_more w f s o n k found new before is =
    is ∙ ap (λ x. option_or x (flawed_cell w f s o n (11 + k))) before ∙ ap (λ j. first_word j w f s o n) (sym (add-one k))
