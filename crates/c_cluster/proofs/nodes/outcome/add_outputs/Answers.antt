use Rattle.std.proofs.Common.{◌≡◌, ◌∙◌, ◌+◌, ◌*◌, ℕ, List, [], ◌∷◌, ◌++◌, sym, subst}
use Rattle.native.specs.Correct.{IsAt}
use Rattle.c_cluster.specs.Nodes.Outcome.{AreIn}
use Rattle.c_cluster.proofs.Outcomes.{one_more}
use Rattle.c_cluster.proofs.nodes.outcome.add_outputs.Goals as goal

pub loop-k-preserved : goal.loop-k-preserved
loop-k-preserved c =
    let was = c.loop-k.effects in
    let now = c.add_output.new.effects in
    let added : (payload : List ℕ) × IsAt c.args.bytes.now (2240 + 272 * c.loop-k.k) payload × (now.outputs ≡ was.outputs ++ payload ∷ []) = c.in_ok-add_output.ensures.added in
    let more = one_more (λ k. IsAt c.args.bytes.now (2240 + 272 * k)) c.loop-k.k was.outputs added.0 c.loop-k.invariant.0 added.1 in
    (subst (λ xs. AreIn {A = List ℕ} (λ k. IsAt c.args.bytes.now (2240 + 272 * k)) (c.loop-k.k + 1) xs) (sym added.2) more, c.in_ok-add_output.ensures.sends ∙ c.loop-k.invariant.1)
