use Rattle.std.proofs.Common.{◌≡◌, ℕ, ◌+◌, ◌-◌, ◌<◌, ◌≤◌, IsTrue, List, arith, below_more, rules, subst}
use Rattle.std.specs.Prelude.{slice_index}
use Rattle.decode.specs.Slots.{insn_at}
use Rattle.spans.specs.Typing.{Code}
use Rattle.block_order.specs.Order.{Leads}
use Rattle.block_order.proofs.walk.is_walk.Goals as goal

walk-more : (code : Code) (walk : List ℕ) (k : ℕ) → 1 ≤ k → Leads code (slice_index walk (k - 1)) (slice_index walk k)
    → ((j : ℕ) → j + 1 < k → Leads code (slice_index walk j) (slice_index walk (j + 1)))
    → (j : ℕ) → j + 1 < k + 1 → Leads code (slice_index walk j) (slice_index walk (j + 1))
walk-more code walk k l here below j h =
    let same : k ≡ k - 1 + 1 = omega arith in
    below_more (λ (i : ℕ). Leads code (slice_index walk i) (slice_index walk (i + 1))) (k - 1) (λ i b. below i (omega arith))
    (subst (λ (n : ℕ). Leads code (slice_index walk (k - 1)) (slice_index walk n)) same here) j (omega arith)

pub loop-k-preserved : goal.loop-k-preserved
loop-k-preserved c =
    let t : IsTrue c.leads.result = search rules in
    walk-more (insn_at c.args.slots.now) c.args.walk.now c.loop-k.k (omega arith) (c.leads.ensures t) c.loop-k.invariant
