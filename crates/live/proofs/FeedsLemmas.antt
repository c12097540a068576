-- Messages that lines hand in, one line more at a time.
use Rattle.std.proofs.Common.{◌≡◌, ◌∙◌, ℕ, ◌+◌, ◌<◌, suc, List, ◌∷◌, length, drop, get_or, sym, ap, arith, drop-cons}
use Rattle.world.specs.declared.message.Feed.{Feed}
use Rattle.scenario.specs.declared.scenario.Step.{Step}
use Rattle.live.specs.Inside.{feed_of, feeds_after, feeds_of, with_feed}

-- the messages of the lines that are left stand behind those of the lines before them
pub feeds_more : (steps : List Step) (i : ℕ) (d x : Step) (feeds new : List Feed) → i < length steps → x ≡ get_or steps i d
    → feeds_after feeds (drop i steps) ≡ feeds_of steps → new ≡ with_feed feeds (feed_of (length feeds + 1) x.order) → feeds_after new (drop (i + 1) steps) ≡ feeds_of steps
feeds_more steps i d x feeds new within is before pushed =
    let one : suc i ≡ i + 1 = omega arith in
    let next : drop i steps ≡ x ∷ drop (i + 1) steps =
    drop-cons steps i d within ∙ ap (λ y. y ∷ drop (suc i) steps) (sym is) ∙ ap (λ k. x ∷ drop k steps) one in
    ap (λ f. feeds_after f (drop (i + 1) steps)) pushed ∙ sym (ap (feeds_after feeds) next) ∙ before
