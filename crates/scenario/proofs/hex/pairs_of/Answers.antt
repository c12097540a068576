use Rattle.std.proofs.Common.{◌≡◌, ◌<◌, ◌+◌, ◌*◌, ◌/◌, ◌%◌, ◌∙◌, ℕ, List, ap, arith, get_or, length}
use Rattle.std.proofs.lemmas.List.{length-set}
use Rattle.scenario.proofs.HexLemmas.{pairs_high, pairs_length, pairs_low, pairs_more, small_at, small_more}
use Rattle.scenario.proofs.hex.pairs_of.Goals as goal
use Rattle.scenario.proofs.hex.pairs_of.Goals.{then-text-ne0-via-then-text-ne0, then-text-ne0-via-else-text-ne0+then-text}

pub returns-then-text-ne0 : goal.returns-then-text-ne0
returns-then-text-ne0 c = λ v fits is.
    let size : length c.args.text.now ≡ 2 * length v = ap (λ (x : List ℕ). length x) is ∙ pairs_length v in
    elim c.then-text-ne0.branch [
      | then-text-ne0-via-then-text-ne0 w ↦ w.if-text-ne0.true (omega arith)
      | then-text-ne0-via-else-text-ne0+then-text w ↦ omega (arith, w.if-text.true, fits.0)
    ]

pub returns-in_err-high : goal.returns-in_err-high
returns-in_err-high c = rw c.from_residual.ensures (λ v fits is.
    let i = c.loop-index.index in
    let size : length c.args.text.now ≡ 2 * length v = ap (λ (x : List ℕ). length x) is ∙ pairs_length v in
    let inside : i < length v = omega (arith, c.loop-index-test.true) in
    c.in_err-high.ensures (get_or v i 0 / 16) (omega (arith, small_at v i fits.1)) (ap (λ x. get_or x (2 * i) 0) is ∙ pairs_high v i inside))

pub returns-in_err-low : goal.returns-in_err-low
returns-in_err-low c = rw c.from_residual-in_err-low.ensures (λ v fits is.
    let i = c.loop-index.index in
    let size : length c.args.text.now ≡ 2 * length v = ap (λ (x : List ℕ). length x) is ∙ pairs_length v in
    let inside : i < length v = omega (arith, c.loop-index-test.true) in
    c.in_err-low.ensures (get_or v i 0 % 16) (omega arith) (ap (λ x. get_or x (2 * i + 1) 0) is ∙ pairs_low v i inside))

pub loop-index-preserved : goal.loop-index-preserved
loop-index-preserved c =
    let i = c.loop-index.index in
    let inside : 2 * i + 1 < length c.args.text.now = omega (arith, c.loop-index-test.true) in
    let room : i < length c.loop-index.bytes = omega (arith, c.loop-index-test.true, c.if-text.false, c.loop-index.invariant.wide) in
    let high = c.in_ok-high.ensures in
    let low = c.in_ok-low.ensures in
    record {
      so_far = pairs_more c.args.text.now c.loop-index.bytes i c.in_ok-high.high c.in_ok-low.low inside room high.1 low.1 c.loop-index.invariant.so_far high.0 low.0;
      wide = length-set c.loop-index.bytes i (c.in_ok-high.high * 16 + c.in_ok-low.low) ∙ c.loop-index.invariant.wide;
      small = small_more c.args.text.now c.loop-index.bytes i c.in_ok-high.high c.in_ok-low.low inside room high.1 low.1 c.loop-index.invariant.small;
    }
