-- A node that is suspended, and one that is resumed
use Rattle.std.proofs.Common.{◌≡◌, ◌≢◌, ℕ, zero, suc, ◌+◌, ◌-◌, ◌^◌, ◌<◌, ◌≤◌, List, [], ◌∷◌, ◌++◌, length, Bool, true, false, refl, sym, ap, ◌∙◌, subst, arith}
use Rattle.std.specs.Prelude.{Some, None, min, ◌&&◌, ◌==◌, nat_lt, nat_le, if◌then◌else◌, slice_index_or}
use Rattle.std.specs.List.{list_all, AllByRecursion}
use Rattle.std.proofs.lemmas.Bool.Decides.{nat_tests}
use Rattle.std.proofs.lemmas.List.{length-append, length-map, nil_from_length, take_all}
use Rattle.theorems.proofs.Tests.{both}
use Rattle.theorems.proofs.RunLemmas.{run_to-whole}
use Rattle.world.specs.declared.message.Message.{Message}
use Rattle.cluster.specs.Cluster.{Cluster}
use Rattle.node.specs.declared.limit.Limits.{Limits}
use Rattle.node.specs.Queue.{TheQueue, IsSmall, leading}
use Rattle.node.specs.Node.{TheNode, log_at}
use Rattle.node.specs.Stands.{Stands, IsShut, most_released, freed_in, sent_by}
use Rattle.node.proofs.StandsLemmas.{stands-anew}
use Rattle.node.specs.Suspension.{joined_by, number_of_code, is_sent, is_unused, CanSuspend, woken, WokenStands}

-- ---- two lists joined

same-at : {Y : Type 0} (ys zs : List Y) (e : Y) → length zs ≡ length ys → ((k : ℕ) → slice_index_or zs k e ≡ slice_index_or ys k e) → zs ≡ ys
same-at [] [] e long at = refl
same-at [] (z ∷ zs) e long at = absurd (omega (arith, long))
same-at (y ∷ ys) [] e long at = absurd (omega (arith, long))
same-at (y ∷ ys) (z ∷ zs) e long at =
    let head : z ≡ y = at 0 in
    let tail : zs ≡ ys = same-at ys zs e (omega (arith, long)) (λ k. at (suc k)) in
    rw (head, tail) refl

-- what holds at each place, up to the end of the shorter list
pub joined-at : {X Y : Type 0} (f : X → Y → Y) (xs : List X) (ys zs : List Y) (d : X) (e : Y) (p : ℕ) → p ≤ length xs → min (length ys) (length xs) ≤ p → length zs ≡ length ys
    → ((k : ℕ) → k < p → slice_index_or zs k e ≡ f (slice_index_or xs k d) (slice_index_or ys k e)) → ((k : ℕ) → p ≤ k → slice_index_or zs k e ≡ slice_index_or ys k e) → zs ≡ joined_by f xs ys
joined-at f [] ys zs d e p low end long below above = same-at ys zs e long (λ k. above k (omega (arith, low)))
joined-at f (x ∷ xs) [] [] d e p low end long below above = refl
joined-at f (x ∷ xs) [] (z ∷ zs) d e p low end long below above = absurd (omega (arith, long))
joined-at f (x ∷ xs) (y ∷ ys) [] d e p low end long below above = absurd (omega (arith, long))
joined-at f (x ∷ xs) (y ∷ ys) (z ∷ zs) d e zero low end long below above = absurd (omega (arith, end))
joined-at f (x ∷ xs) (y ∷ ys) (z ∷ zs) d e (suc p) low end long below above =
    let head : z ≡ f x y = below 0 (omega arith) in
    let tail : zs ≡ joined_by f xs ys =
    joined-at f xs ys zs d e p (omega (arith, low)) (omega (arith, end)) (omega (arith, long)) (λ k l. below (suc k) (omega (arith, l))) (λ k l. above (suc k) (omega (arith, l))) in
    rw (head, tail) refl

pub joined-length : {X Y : Type 0} (f : X → Y → Y) (xs : List X) (ys : List Y) → length (joined_by f xs ys) ≡ length ys
joined-length f [] ys = refl
joined-length f (x ∷ xs) [] = refl
joined-length f (x ∷ xs) (y ∷ ys) = ap suc (joined-length f xs ys)

pub joined-all : {X Y : Type 0} (P : Y → Type 0) (f : X → Y → Y) (xs : List X) (ys : List Y) → ((x : X) (y : Y) → P y → P (f x y)) → AllByRecursion P ys → AllByRecursion P (joined_by f xs ys)
joined-all P f [] ys step all = all
joined-all P f (x ∷ xs) [] step all = tt
joined-all P f (x ∷ xs) (y ∷ ys) step all = (step x y all.0, joined-all P f xs ys step all.1)

-- ---- RSNs

pub code-small : (code : ℕ) → IsSmall (number_of_code code)
code-small code = split (nat_lt 0 code && nat_le code (2 ^ 63)) refl
  where
    split : (b : Bool) → (nat_lt 0 code && nat_le code (2 ^ 63)) ≡ b → IsSmall (if b then Some (code - 1) else None)
    split true e =
        let t = both (nat_lt 0 code) (nat_le code (2 ^ 63)) e in
        let some : 0 < code = (let z : nat_lt 0 code ≡ true = t.0 in grind (arith, nat_tests)) in
        let low : code ≤ 2 ^ 63 = (let z : nat_le code (2 ^ 63) ≡ true = t.1 in grind (arith, nat_tests)) in
        omega (arith, some, low)
    split false e = tt

-- ---- in the cluster

sent-at : (qs : List TheQueue) (d : ℕ) → list_all is_sent qs ≡ true → is_sent (log_at qs d) ≡ true
sent-at [] d e = refl
sent-at (q ∷ qs) zero e = (both (is_sent q) (list_all is_sent qs) e).0
sent-at (q ∷ qs) (suc d) e = sent-at qs d (both (is_sent q) (list_all is_sent qs) e).1

module _ (n : TheNode) (c : Cluster) (p : ℕ) (can : CanSuspend n) (s : Stands n c p) where
  abbrev h : List Message
  h = c.world.history p

  -- how many messages it has sent to d
  abbrev many : ℕ → ℕ
  many d = length (c.world.handlers.sends p h d)

  covers : ((length n.receipts.senders == 0) ≡ true) × (list_all is_sent n.logs ≡ true)
  covers = both (length n.receipts.senders == 0) (list_all is_sent n.logs) (both ((length n.receipts.senders == 0) && list_all is_sent n.logs) (is_unused (log_at n.logs n.me)) can.covered).0

  -- its checkpoint covers all that it received
  all-covered : length h ≡ n.base
  all-covered =
      let r = s.received in
      let none : length n.receipts.senders ≡ 0 = (let z : (length n.receipts.senders == 0) ≡ true = covers.0 in grind (arith, nat_tests)) in
      let behind : length n.receipts.senders ≡ length r.behind = ap length r.senders ∙ length-map r.behind (λ (m : Message). m.sender) in
      let long : length (r.before ++ r.behind) ≡ length h = ap length r.joined in
      omega (arith, long, length-append r.before r.behind, r.many, behind, none)

  -- so all that it received is acknowledged, and frees what it sent, whether it is durable or not
  all-freed : (durable : Bool) → freed_in durable c p ≡ length h
  all-freed true = s.saved ∙ sym all-covered
  all-freed false = run_to-whole (c.world.acknowledged p) (length h) each
    where
      each : (k : ℕ) → 0 < k → k ≤ length h → c.world.acknowledged p k ≡ true
      each zero some low = absurd (omega (arith, some))
      each (suc k) some low = s.received.below k (omega (arith, low, all-covered))

  freed-sends : (durable : Bool) (d : ℕ) → sent_by c.world.handlers p h d (freed_in durable c p) ≡ many d
  freed-sends durable d =
      ap (sent_by c.world.handlers p h d) (all-freed durable) ∙ ap (λ z. length (c.world.handlers.sends p z d)) (take_all (length h) h (omega arith))

  all-out : (d : ℕ) → many d ≤ c.world.released p d
  all-out d = subst (λ k. k ≤ c.world.released p d) (freed-sends n.limits.durable d) (s.free d)

  most-is : (durable : Bool) (d : ℕ) → many d ≤ most_released durable c p d
  most-is true d = (let e : sent_by c.world.handlers p h d (c.world.saved p) ≡ many d = freed-sends true d in omega (arith, e))
  most-is false d = all-out d

  -- it released all
  shut-again : (durable : Bool) (d : ℕ) → d ≤ c.world.count → d ≢ p → IsShut (log_at n.logs d) (length h) (most_released durable c p d) (sent_by c.world.handlers p h d)
  shut-again durable d low other =
      let q : TheQueue = log_at n.logs d in
      let k = s.logs d low other in
      let within = (s.gates d low other).within in
      let all : q.released ≡ q.dropped + length q.payloads = (let z : (q.released == q.dropped + length q.payloads) ≡ true = sent-at n.logs d covers.1 in grind (arith, nat_tests)) in
      let sent : length (k.before ++ q.payloads) ≡ many d = ap length k.joined in
      let few : q.released ≡ many d = omega (arith, all, sent, length-append k.before q.payloads, k.many) in
      let none : q.held ≡ [] = nil_from_length q.held (omega (arith, within, all)) in
      let most : many d ≤ most_released durable c p d = most-is durable d in
      record { within = within; waits = λ i l. (let z : leading i q.held ≡ 0 = ap (leading i) none in omega (arith, few, most, z)) }

  stands-again : (limits : Limits) → (c.durable p ≡ true → limits.durable ≡ true) → Stands (woken limits n) c p
  stands-again limits durable =
      stands-anew n c p s durable s.received s.waits s.logs (shut-again limits.durable)
      (λ d. let e : sent_by c.world.handlers p h d (freed_in limits.durable c p) ≡ many d = freed-sends limits.durable d in let l : many d ≤ c.world.released p d = all-out d in omega (arith, e, l)) s.heard s.resumed tt

pub woken-stands : WokenStands
woken-stands n limits c p durable can s = stands-again n c p can s limits durable
