-- What is done or refused through a handle, by what the gateway did
use Rattle.std.proofs.Common.{◌≡◌, inr, sym, ap, ◌∙◌}
use Rattle.std.specs.Prelude.{Option, Some, Result, Ok, Err, MatchResult}
use Rattle.gateway.specs.Gateway.{TheGateway}
use Rattle.c_cluster.specs.declared.gateways.fault.GatewayFault.{GatewayFault}
use Rattle.c_cluster.specs.Gateways.Answers.{Calls, Refuses}

-- it was called
pub called : (r : Result (Unit {0}) GatewayFault) (g h : TheGateway) (old new : Option TheGateway) (D : TheGateway → TheGateway → Type 0) (U : Type 0) (N : TheGateway → GatewayFault → Type 0) → old ≡ Some g → new ≡ Some h
    → MatchResult r (λ u. D g h) (λ why. N g why × (h ≡ g)) → MatchResult r (λ u. Calls old new D) (λ why. Refuses old U N why × (new ≡ old))
called (Ok u) g h old new D U N was is d = (g, h, was, is, d)
called (Err why) g h old new D U N was is n = (inr (g, was, n.0), is ∙ ap Some n.1 ∙ sym was)

-- what is done or refused is so by another word
pub matched : (r : Result (Unit {0}) GatewayFault) (P P' : Type 0) (Q Q' : GatewayFault → Type 0) → (P → P') → ((why : GatewayFault) → Q why → Q' why) → MatchResult r (λ u. P) Q → MatchResult r (λ u. P') Q'
matched (Ok u) P P' Q Q' f g h = f h
matched (Err why) P P' Q Q' f g h = g why h
