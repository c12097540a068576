-- What a new node keeps
use Rattle.std.proofs.Common.{◌≡◌, ℕ, List, [], Bool, false, zero, suc, ◌+◌, ◌≤◌, length, replicate, refl, ap, ◌∙◌, arith}
use Rattle.std.specs.Prelude.{slice_index_or, sum, true, None}
use Rattle.rsn.specs.Receipts.{Received}
use Rattle.packets.specs.declared.packet.NodePacket.{NodePacket}
use Rattle.node.specs.declared.limit.Limits.{Limits}
use Rattle.node.specs.Limit.{AreAllowed}
use Rattle.node.specs.Queue.{TheQueue, no_queue}
use Rattle.node.specs.Node.{TheNode, Within, new_node}

as-many : {X : Type 0} (k : ℕ) (x : X) → length (replicate k x) ≡ k
as-many zero x = refl
as-many (suc k) x = ap suc (as-many k x)

each-is : {X : Type 0} (k i : ℕ) (x : X) → slice_index_or (replicate k x) i x ≡ x
each-is zero i x = refl
each-is (suc k) zero x = refl
each-is (suc k) (suc i) x = each-is k i x

sum-zeros : (k : ℕ) → sum (replicate k 0) ≡ 0
sum-zeros zero = refl
sum-zeros (suc k) = sum-zeros k

one-more : (count : ℕ) → count + 1 ≡ suc count
one-more count = omega arith

pub within-begun : (limits : Limits) (me count : ℕ) (state : List ℕ) → AreAllowed limits → 1 ≤ me → me ≤ count → count ≤ 15 → Within (new_node limits me count state)
within-begun limits me count state allowed some low few = record {
  allowed = allowed;
  inside = some;
  within = low;
  few = few;
  wide = as-many (count + 1) 0 ∙ one-more count;
  heard_wide = as-many (count + 1) 1 ∙ one-more count;
  resumed_wide = as-many (count + 1) true ∙ one-more count;
  logs_wide = as-many (count + 1) no_queue ∙ one-more count;
  counts = λ q. let e = each-is {X = ℕ} (count + 1) q 0 in omega (arith, e);
  peers = record { total = sum-zeros (count + 1); none_own = each-is (count + 1) me 0; behind = tt };
  young = omega arith;
  bound = omega arith;
  room = λ e. absurd (cc);
  waits = omega arith;
  own = tt;
  numbered = tt;
  rests = λ e. refl;
  short = λ d.
      let e = each-is (count + 1) d no_queue in
      let a = ap (λ (q : TheQueue). q.dropped) e in
      let b = ap (λ (q : TheQueue). length q.payloads) e in
      omega (arith, a, b);
  alive = (omega arith, omega arith);
  fit = tt;
}

abbrev pub begins-with : Limits → ℕ → ℕ → List ℕ → List ℕ → List ℕ → List Bool → List TheQueue → Received → List NodePacket → TheNode
begins-with limits me count state covered heard resumed logs receipts out =
    record { limits = limits; me = me; count = count; life = 1; state = state; base = 0; covered = covered; receipts = receipts; logs = logs; waiting = 0; heard = heard; resumed = resumed; exact = true; working = None; frozen = false; out = out }

-- a new node, by its parts
pub same-begun : (limits : Limits) (me count : ℕ) (given state covered heard : List ℕ) (resumed : List Bool) (logs : List TheQueue) (receipts : Received) (out : List NodePacket) → state ≡ given → covered ≡ replicate (count + 1) 0 → heard ≡ replicate (count + 1) 1
    → resumed ≡ replicate (count + 1) true → logs ≡ replicate (count + 1) no_queue → receipts ≡ record { senders = []; acknowledged = [] } → out ≡ [] → begins-with limits me count state covered heard resumed logs receipts out ≡ new_node limits me count given
same-begun limits me count given state covered heard resumed logs receipts out a b c d e f g = rw (a, b, c, d, e, f, g) refl
