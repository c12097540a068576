-- A receiver says what it has for good
use Rattle.std.proofs.Common.{◌≡◌, ◌≢◌, ℕ, zero, suc, ◌+◌, ◌-◌, ◌<◌, ◌≤◌, List, [], ◌∷◌, ◌++◌, length, take, drop, min, max, true, false, refl, sym, ap, ◌∙◌, subst, arith, append_assoc}
use Rattle.std.specs.Prelude.{Option, None, slice_set, ◌&&◌, ◌==◌, if◌then◌else◌}
use Rattle.std.proofs.lemmas.Bool.Decides.{nat_tests}
use Rattle.std.proofs.lemmas.List.{length-append, length-take, length-drop, get_or-drop}
use Rattle.world.specs.History.{Payload}
use Rattle.world.specs.Logs.{sent}
use Rattle.theorems.proofs.Changes.{at-itself}
use Rattle.cluster.specs.Parcels.{Saved, In, parcel}
use Rattle.cluster.specs.Cluster.{Cluster}
use Rattle.cluster.specs.Rules.{Act, Arrives, May, does}
use Rattle.node.specs.Queue.{TheQueue, dropped_first, dropped_to}
use Rattle.node.specs.Node.{TheNode, log_at}
use Rattle.node.specs.Calls.{dropped_by}
use Rattle.node.specs.Stands.{Stands, KeepsOf, IsShut, sent_by, most_released, GoesOn, Receives}
use Rattle.node.proofs.Logs.{changed-at}
use Rattle.cluster.proofs.Goes.{goes-act}
use Rattle.node.proofs.Puts.{stands-takes}
use Rattle.node.proofs.StandsLemmas.{stands-with}
use Rattle.node.proofs.Records.{sent-is}

taken-dropped : {X : Type 0} (k : ℕ) (xs : List X) → take k xs ++ drop k xs ≡ xs
taken-dropped zero xs = refl
taken-dropped (suc k) [] = refl
taken-dropped (suc k) (x ∷ xs) = ap (λ l. x ∷ l) (taken-dropped k xs)

-- a queue without its first messages
pub kept-dropped : (q : TheQueue) (k dropped : ℕ) (xs : List Payload) (numbers : ℕ → Option ℕ) → k ≤ length q.payloads → dropped ≡ q.dropped + k → KeepsOf q q.dropped xs numbers → KeepsOf (dropped_first k q) dropped xs numbers
kept-dropped q k dropped xs numbers some is s =
    let fewer : length (drop k q.payloads) ≡ length q.payloads - k = length-drop k q.payloads in
    record {
      before = s.before ++ take k q.payloads;
      many = length-append s.before (take k q.payloads) ∙ (let t : length (take k q.payloads) ≡ min k (length q.payloads) = length-take k q.payloads in omega (arith, t, some, s.many));
      joined = append_assoc s.before (take k q.payloads) (drop k q.payloads) ∙ ap (λ l. s.before ++ l) (taken-dropped k q.payloads) ∙ s.joined;
      dropped_is = is;
      as_many = length-drop k q.numbers ∙ ap (λ z. z - k) s.as_many ∙ sym fewer;
      numbers_are = λ i l. get_or-drop k q.numbers i None ∙ s.numbers_are (k + i) (omega (arith, l, fewer)) ∙ ap numbers (let e : suc (q.dropped + (k + i)) ≡ suc (q.dropped + k + i) = omega arith in e);
      beyond = λ i l. s.beyond i (omega (arith, l, fewer, some));
    }

-- nor does it release more
pub shut-dropped : (q : TheQueue) (k n released : ℕ) (sent : ℕ → ℕ) → k ≤ length q.payloads → IsShut q n released sent → IsShut (dropped_first k q) n released sent
shut-dropped q k n released sent some s =
    let fewer : length (drop k q.payloads) ≡ length q.payloads - k = length-drop k q.payloads in
    record { within = omega (arith, fewer, some, s.within); waits = s.waits }

module _ (n : TheNode) (c : Cluster) (r k : ℕ) (s : Stands n c n.me) (low : r ≤ c.world.count) (other : r ≢ n.me) (given : In (parcel r n.me (Saved k)) c.parcels) (wide : r < length n.logs) (live : n.frozen ≡ false) where
  abbrev act : Act
  act = Arrives r n.me (Saved k)

  abbrev c' : Cluster
  c' = does c act

  abbrev q : TheQueue
  q = log_at n.logs r

  abbrev many : ℕ
  many = min (k - q.dropped) (length q.payloads)

  may : May c act
  may = (given, stands-takes n c n.me live s)

  few : many ≤ length q.payloads
  few = omega arith

  trims-are : max (c.world.trims n.me r) (min k (length (sent c.world n.me r))) ≡ q.dropped + many
  trims-are =
      let t = s.logs r low other in
      let size : length (sent c.world n.me r) ≡ q.dropped + length q.payloads = ap length (sent-is n c n.me r s) ∙ ap length (sym t.joined) ∙ length-append t.before q.payloads ∙ ap (λ z. z + length q.payloads) t.many in
      omega (arith, size, t.dropped_is)

  logs : (d : ℕ) → d ≤ c.world.count → d ≢ n.me → KeepsOf (log_at (dropped_by r k n).logs d) (c'.world.trims n.me d) (c.world.handlers.sends n.me (c.world.history n.me) d) (c.world.numbers n.me d)
  logs d l o = at-itself n.me (λ t. KeepsOf (log_at (slice_set n.logs r (dropped_to k q)) d) (if t && (d == r) then max (c.world.trims n.me r) (min k (length (sent c.world n.me r))) else c.world.trims n.me d) (c.world.handlers.sends n.me (c.world.history n.me) d) (c.world.numbers n.me d))
      (changed-at (λ z. KeepsOf z (if d == r then max (c.world.trims n.me r) (min k (length (sent c.world n.me r))) else c.world.trims n.me d) (c.world.handlers.sends n.me (c.world.history n.me) d) (c.world.numbers n.me d)) n.logs r (dropped_to k q) d wide here there)
    where
      here : d ≡ r → KeepsOf (dropped_to k q) (if d == r then max (c.world.trims n.me r) (min k (length (sent c.world n.me r))) else c.world.trims n.me d) (c.world.handlers.sends n.me (c.world.history n.me) d) (c.world.numbers n.me d)
      here same =
          let e : (d == r) ≡ true = grind (arith, nat_tests) in
          let t = s.logs r low other in
          let P : ℕ → Type 0 = λ z. KeepsOf (dropped_to k q) (max (c.world.trims n.me r) (min k (length (sent c.world n.me r)))) (c.world.handlers.sends n.me (c.world.history n.me) z) (c.world.numbers n.me z) in
          let own : KeepsOf q q.dropped (c.world.handlers.sends n.me (c.world.history n.me) r) (c.world.numbers n.me r) = subst (λ z. KeepsOf q z (c.world.handlers.sends n.me (c.world.history n.me) r) (c.world.numbers n.me r)) t.dropped_is t in
          rw e (subst P (sym same) (kept-dropped q many (max (c.world.trims n.me r) (min k (length (sent c.world n.me r)))) (c.world.handlers.sends n.me (c.world.history n.me) r) (c.world.numbers n.me r) few trims-are own))

      there : d ≢ r → KeepsOf (log_at n.logs d) (if d == r then max (c.world.trims n.me r) (min k (length (sent c.world n.me r))) else c.world.trims n.me d) (c.world.handlers.sends n.me (c.world.history n.me) d) (c.world.numbers n.me d)
      there apart = let e : (d == r) ≡ false = grind (arith, nat_tests) in rw e (s.logs d l o)

  gates : (d : ℕ) → d ≤ c.world.count → d ≢ n.me → IsShut (log_at (dropped_by r k n).logs d) (length (c.world.history n.me)) (most_released n.limits.durable c n.me d) (sent_by c.world.handlers n.me (c.world.history n.me) d)
  gates d l o = changed-at (λ z. IsShut z (length (c.world.history n.me)) (most_released n.limits.durable c n.me d) (sent_by c.world.handlers n.me (c.world.history n.me) d)) n.logs r (dropped_to k q) d wide
      (λ same. let P : ℕ → Type 0 = λ z. IsShut (dropped_to k q) (length (c.world.history n.me)) (most_released n.limits.durable c n.me z) (sent_by c.world.handlers n.me (c.world.history n.me) z) in
      subst P (sym same) (shut-dropped q many (length (c.world.history n.me)) (most_released n.limits.durable c n.me r) (sent_by c.world.handlers n.me (c.world.history n.me) r) few (s.gates r low other)))
      (λ apart. s.gates d l o)

  goes-dropped : GoesOn n.me (dropped_by r k n) c
  goes-dropped = goes-act true n.me (λ d. Stands (dropped_by r k n) d n.me) c act may tt tt refl (stands-with n c n.me s logs gates s.heard s.resumed s.out)

-- the log drops what its receiver covers
pub drops : (n : TheNode) (r k : ℕ) → n.frozen ≡ false → r ≤ n.count → r ≢ n.me → r < length n.logs → Receives r (Saved k) n (dropped_by r k n)
drops n r k live low other wide c s given = goes-dropped n c r k s (omega (arith, low, s.count)) other given wide live
