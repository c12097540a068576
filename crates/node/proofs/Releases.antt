-- What a process sent is released when it is up again
use Rattle.std.proofs.Common.{◌≡◌, ℕ, zero, suc, ◌+◌, ◌*◌, ◌≤◌, List, [], ◌∷◌, length, Bool, true, false, refl, ◌∙◌}
use Rattle.std.specs.Prelude.{map, None}
use Rattle.std.proofs.lemmas.List.{length-map}
use Rattle.rsn.specs.Receipts.{Received}
use Rattle.packets.specs.declared.packet.NodePacket.{NodePacket}
use Rattle.node.specs.declared.limit.Limits.{Limits}
use Rattle.node.specs.Queue.{TheQueue, released_again}
use Rattle.node.specs.Node.{IsWithin, log_at}
use Rattle.node.specs.declared.node.TheConstants.{MOST_GIVEN}
use Rattle.node.proofs.NodeLemmas.{within-with}

-- a queue of those that come back
pub log-released : (durable : Bool) (logs : List TheQueue) (d : ℕ) → log_at (map (released_again durable) logs) d ≡ released_again durable (log_at logs d)
log-released true [] d = refl
log-released false [] d = refl
log-released durable (q ∷ logs) zero = refl
log-released durable (q ∷ logs) (suc d) = log-released durable logs d

-- its numbers stay in their ranges
pub within-released : (limits : Limits) (me count base : ℕ) (covered heard : List ℕ) (resumed : List Bool) (receipts : Received) (logs : List TheQueue) (life : ℕ) (out : List NodePacket) → IsWithin limits me count base covered heard resumed receipts logs None false 0 life out
    → IsWithin limits me count base covered heard resumed receipts (map (released_again limits.durable) logs) None false 0 life out
within-released limits me count base covered heard resumed receipts logs life out w =
    within-with w w.heard_wide w.resumed_wide (length-map logs (released_again limits.durable) ∙ w.logs_wide) w.room w.own w.numbered w.rests
    (λ d. rw (log-released limits.durable logs d) (short limits.durable d (w.short d)))
  where
    short : (durable : Bool) (d : ℕ) → (log_at logs d).dropped + length (log_at logs d).payloads ≤ MOST_GIVEN * (base + length receipts.senders)
        → (released_again durable (log_at logs d)).dropped + length (released_again durable (log_at logs d)).payloads ≤ MOST_GIVEN * (base + length receipts.senders)
    short true d l = l
    short false d l = l
