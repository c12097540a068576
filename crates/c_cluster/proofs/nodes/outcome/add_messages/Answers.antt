use Rattle.std.proofs.Common.{◌≡◌, ◌∙◌, ◌+◌, ◌*◌, [], ◌∷◌, ◌++◌, sym, subst}
use Rattle.helpers.specs.declared.effects.Sent.{Sent}
use Rattle.c_cluster.specs.Nodes.Outcome.{IsSentAt, AreIn}
use Rattle.c_cluster.proofs.Outcomes.{one_more}
use Rattle.c_cluster.proofs.nodes.outcome.add_messages.Goals as goal

pub loop-k-preserved : goal.loop-k-preserved
loop-k-preserved c =
    let was = c.loop-k.effects in
    let now = c.add_message.new.effects in
    let added : (sent : Sent) × IsSentAt c.args.who c.args.bytes.now (64 + 272 * c.loop-k.k) sent × (now.sends ≡ was.sends ++ sent ∷ []) = c.in_ok-add_message.ensures.added in
    let more = one_more (λ k. IsSentAt c.args.who c.args.bytes.now (64 + 272 * k)) c.loop-k.k was.sends added.0 c.loop-k.invariant.0 added.1 in
    (subst (λ xs. AreIn {A = Sent} (λ k. IsSentAt c.args.who c.args.bytes.now (64 + 272 * k)) (c.loop-k.k + 1) xs) (sym added.2) more, c.in_ok-add_message.ensures.outputs ∙ c.loop-k.invariant.1)
