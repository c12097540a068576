-- The gateway beside nodes
use Rattle.std.proofs.Common.{◌≡◌, ℕ, ◌<◌, ◌≤◌, List, sym, ◌∙◌, subst}
use Rattle.cluster.specs.Cluster.{Cluster}
use Rattle.cluster.specs.Rules.{IsNode}
use Rattle.cluster.specs.Overlap.{Event, after_events}
use Rattle.packets.specs.Says.{PutOut}
use Rattle.node.specs.Stands.{Each, doer}
use Rattle.node.proofs.Outside.{SameOutside, outside-self, outside-still}
use Rattle.packets.proofs.Outgoing.{put-still}
use Rattle.gateway.specs.Gateway.{TheGateway}
use Rattle.gateway.specs.Stands.{Stands}
use Rattle.gateway.proofs.Steps.{all-more}

-- what the gateway holds stands where a cluster has the same of it
stands-same : (g : TheGateway) (c d : Cluster) → SameOutside c d → Stands g c → Stands g d
stands-same g c d e s =
    record {
      count = s.count ∙ e.count;
      stage = sym e.stage ∙ s.stage;
      greeted = sym e.greeted ∙ s.greeted;
      phase = sym e.phase ∙ s.phase;
      life = sym e.life ∙ s.life;
      history = sym e.history ∙ s.history;
      exact = sym e.exact ∙ s.exact;
      logs = λ p n. rw (sym (e.trims p), sym (e.numbers p), sym (e.inputs p)) (s.logs p (there p n));
      shown = λ p n. rw (sym e.shown) (s.shown p (there p n));
      outputs = rw (sym e.shown) s.outputs;
      heard = λ p n. sym (e.heard p) ∙ s.heard p (there p n);
      resumed = λ p n. sym (e.resumed p) ∙ s.resumed p (there p n);
      out = all-more (PutOut c 0) (PutOut d 0) g.out (λ x. put-still c d 0 x e.count e.parcels e.said) s.out;
    }
  where
    there : (p : ℕ) → IsNode d p → IsNode c p
    there p n = (n.0, subst (λ k. p ≤ k) (sym e.count) n.1)

-- so it stands after the events of a node
pub gateway-stands : (g : TheGateway) (c : Cluster) (p : ℕ) (es : List Event) → 0 < p → Each (λ (e : Event). doer e ≡ p) es → Stands g c → Stands g (after_events c es)
gateway-stands g c p es some by s = stands-same g c (after_events c es) (outside-still c c p es some by (outside-self c)) s
