-- A process that is resumed holds no more than is named
use Rattle.std.proofs.Common.{◌≡◌, ◌+◌, ℕ, List, [], ◌∷◌, Err, length, map, refl, sym, ap, ◌∙◌, arith}
use Rattle.std.specs.Prelude.{Option, ⊤}
use Rattle.packets.specs.Kept.{kept_bytes}
use Rattle.packets.specs.declared.packet.NodePacket.{NodePacket}
use Rattle.rsn.specs.Receipts.{Received}
use Rattle.node.specs.Kept.{with_own, kept_of, queue_of}
use Rattle.node.specs.Queue.{TheQueue, no_queue}
use Rattle.node.specs.Node.{TheNode, Within}
use Rattle.node.specs.Suspension.{CanSuspend, IsSuspended, joined_by, numbered_by}
use Rattle.verifier.specs.declared.any_image.AnyImage.{AnyImage}
use Rattle.recovery.specs.declared.resumption.Unresumed.{Unresumed}
use Rattle.recovery.specs.declared.resumption.Unresumed.TheVariants as node
use Rattle.recovery.specs.Resumption.{rest_of, Finds}
use Rattle.recovery.proofs.Resumptions.{none-since, made-again}
use Rattle.recovery.specs.declared.lifecycle.Lifecycle.TheVariants.{Up}
use Rattle.process.specs.Suspension.{error_of, IsUnresumed}
use Rattle.process.specs.Bounds.{unacknowledged, NodeHolds, IsWithin}
use Rattle.process.proofs.Bounded.{begun}
use Rattle.process.proofs.Holdings.{kept, entries}

joined-kept : (codes : List (List ℕ)) (qs : List TheQueue) → kept (joined_by numbered_by codes qs) ≡ kept qs
joined-kept [] qs = refl
joined-kept (c ∷ codes) [] = refl
joined-kept (c ∷ codes) (q ∷ qs) = ap (λ n. length q.payloads + n) (joined-kept codes qs)

resumed-holds : (n : TheNode) → Within n → CanSuspend n → n.out ≡ [] → NodeHolds n
resumed-holds n w c none =
    let k = kept_of n in
    let since = none-since n c in
    let few : length n.receipts.senders ≡ 0 = ap (λ (r : Received). length r.senders) (sym since) in
    let queues : List TheQueue = with_own no_queue k.me (map queue_of k.logs) in
    let logs : joined_by numbered_by (rest_of n).codes queues ≡ n.logs = ap (λ (m : TheNode). m.logs) (made-again n.limits n w c) in
    let many : kept n.logs ≡ kept queues = ap kept (sym logs) ∙ joined-kept (rest_of n).codes queues in
    let stored = (begun n.limits k n.life (kept_bytes k) w.allowed (record { fits = c.fits.kept; bytes_are = refl })).logs in
    record {
      numbers = record {
        allowed = w.allowed;
        receipts = omega (arith, few);
        flags = c.fits.flags;
        waits = omega (arith, w.waits, few);
        counted = ap (λ (r : Received). unacknowledged r.acknowledged) (sym since) ∙ (let e : 0 ≡ n.waiting = omega (arith, w.waits, few) in e);
        room = λ some. absurd (cc (some, c.idle));
        rests = λ f. c.idle;
        packets = omega (arith, ap (λ (xs : List NodePacket). length xs) none);
      };
      logs = omega (arith, entries n.logs, entries queues, many, stored);
      stored = λ f. absurd (cc (f, c.live));
    }

pub resumed : (n : TheNode) → Within n → CanSuspend n → n.out ≡ [] → IsWithin (Up n)
resumed n w c none = record { settled = refl; holds = resumed-holds n w c none; writes = tt }

-- why none is resumed
pub unresumed-why : (image : AnyImage) (bytes : List ℕ) (e : Unresumed) → ((n : TheNode) → IsSuspended n bytes → Finds {X = Option TheNode} (λ _. ⊤) (Err e)) → IsUnresumed image bytes (error_of e)
unresumed-why image bytes node.Memory h = tt
unresumed-why image bytes node.Bytes h = h
