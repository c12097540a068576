-- What a node sends, and sends again, it may
use Rattle.std.proofs.Common.{◌≡◌, ◌≢◌, ℕ, zero, suc, ◌+◌, ◌-◌, ◌<◌, ◌≤◌, List, [], ◌∷◌, ◌++◌, length, drop, max, Bool, true, false, refl, sym, ap, ◌∙◌, subst, arith}
use Rattle.std.specs.Prelude.{Some, is_none, slice_index_or, ◌==◌, nat_lt, nat_le, if◌then◌else◌}
use Rattle.std.proofs.lemmas.Bool.Decides.{nat_tests}
use Rattle.std.proofs.lemmas.List.{length-set, length-drop}
use Rattle.rsn.specs.Receipts.{run_of, numbers_of, acknowledged_of}
use Rattle.rsn.proofs.ReceiptLemmas.{run_of-bound}
use Rattle.world.specs.History.{nth}
use Rattle.world.specs.Logs.{sent, run_to, released_to as released_of}
use Rattle.theorems.proofs.RunLemmas.{run_to-is, run_to-most}
use Rattle.theorems.proofs.Tests.{different}
use Rattle.cluster.specs.Parcels.{Delivery}
use Rattle.cluster.specs.Cluster.{Cluster}
use Rattle.cluster.specs.Overlap.{kept_sends}
use Rattle.packets.specs.declared.packet.Body.TheVariants as packets
use Rattle.node.specs.Queue.{TheQueue, payload_of, number_of, leading, released_by}
use Rattle.node.specs.Node.{TheNode, log_at, tells, covered_of}
use Rattle.node.specs.Transmission.{delivers, sends, first_to_send, many_to_send, sends_on, run_at, freed, unlocked, released_to, released_below, released, resends, resent, is_told_at, renumbers, renumbered, ticked_below, ticked}
use Rattle.node.specs.Stands.{Stands, KeepsOf, IsShut, sent_by, freed_in, most_released, Acts}
use Rattle.packets.proofs.Lists.{get-behind, get-some}
use Rattle.node.proofs.Logs.{changed-at, leading-bound, leading-split, leading-none}
use Rattle.cluster.proofs.Goes.{goes-self}
use Rattle.node.proofs.Puts.{stands-well, posted}
use Rattle.node.proofs.StandsLemmas.{stands-with}
use Rattle.node.proofs.Arrivals.{tells-number}
use Rattle.node.proofs.Records.{sent-is}
use Rattle.node.proofs.Steps.{acts-self, acts-then, by-if}
use Rattle.node.proofs.Commits.{long}

-- Nodes that differ in what waits to be taken
abbrev pub OnlyPosts : TheNode → TheNode → Type 0
OnlyPosts old new = new ≡ record old { out = new.out }

pub only-then : (a b c : TheNode) → OnlyPosts a b → OnlyPosts b c → OnlyPosts a c
only-then a b c e f = f ∙ ap (λ (z : TheNode). record z { out = c.out }) e

-- The run of acknowledged numbers
run_of-true : (bs : List Bool) (k : ℕ) → k < run_of bs → slice_index_or bs k false ≡ true
run_of-true [] k h = absurd (omega arith)
run_of-true (true ∷ bs) zero h = refl
run_of-true (true ∷ bs) (suc k) h = run_of-true bs k (omega arith)
run_of-true (false ∷ bs) k h = absurd (omega arith)

run_of-false : (bs : List Bool) → run_of bs < length bs → slice_index_or bs (run_of bs) false ≡ false
run_of-false [] h = refl
run_of-false (true ∷ bs) h = run_of-false bs (omega arith)
run_of-false (false ∷ bs) h = refl

-- where all up to base hold, the run of the flags behind it is that of all
run-behind : (bs : List Bool) (f : ℕ → Bool) (base n : ℕ) → n ≡ base + length bs → ((k : ℕ) → k < base → f (suc k) ≡ true) → ((k : ℕ) → k < length bs → slice_index_or bs k false ≡ f (suc (base + k))) → base + run_of bs ≡ run_to f n
run-behind bs f base n many below same = by_end (nat_lt (base + run_of bs) (run_to f n)) refl
  where
    within : base + run_of bs ≤ n
    within = omega (arith, run_of-bound bs, many)

    holds : (m : ℕ) → 0 < m → m ≤ base + run_of bs → f m ≡ true
    holds zero a b = absurd (omega arith)
    holds (suc m) a b = by_place (nat_lt m base) refl
      where
        by_place : (t : Bool) → nat_lt m base ≡ t → f (suc m) ≡ true
        by_place true t = below m (grind (arith, nat_tests))
        by_place false t =
            let above : base ≤ m = grind (arith, nat_tests) in
            let place : suc (base + (m - base)) ≡ suc m = omega (arith, above) in
            ap f (sym place) ∙ sym (same (m - base) (omega (arith, above, b, run_of-bound bs))) ∙ run_of-true bs (m - base) (omega (arith, above, b))

    least : base + run_of bs ≤ run_to f n
    least = run_to-most f n (base + run_of bs) within holds

    by_end : (t : Bool) → nat_lt (base + run_of bs) (run_to f n) ≡ t → base + run_of bs ≡ run_to f n
    by_end false t = grind (arith, nat_tests, least)
    by_end true t =
        let is = run_to-is f n in
        let more : base + run_of bs < run_to f n = grind (arith, nat_tests) in
        let inside : run_of bs < length bs = omega (arith, more, is.0, many) in
        let on : f (suc (base + run_of bs)) ≡ true = is.1 (suc (base + run_of bs)) (omega arith) (omega arith) in
        let off : f (suc (base + run_of bs)) ≡ false = sym (same (run_of bs) inside) ∙ run_of-false bs inside in
        absurd (cc)

run-is : (n : TheNode) (c : Cluster) (p : ℕ) → Stands n c p → run_at n ≡ run_to (c.world.acknowledged p) (length (c.world.history p))
run-is n c p s =
    let r = s.received in
    let many : length (c.world.history p) ≡ n.base + length n.receipts.acknowledged = omega (arith, long n.count n.base n.covered n.receipts (c.world.history p) (c.world.acknowledged p) r, r.flags) in
    run-behind n.receipts.acknowledged (c.world.acknowledged p) n.base (length (c.world.history p)) many r.below (λ k l. r.acknowledged_is k (omega (arith, l, r.flags)))

-- what is let go, as the cluster has it
freed-is : (n : TheNode) (c : Cluster) (p : ℕ) → Stands n c p → freed n ≡ freed_in n.limits.durable c p
freed-is n c p s = by_durable n.limits.durable
  where
    by_durable : (durable : Bool) → (if durable then n.base else run_at n) ≡ freed_in durable c p
    by_durable true = sym s.saved
    by_durable false = run-is n c p s

freed-within : (n : TheNode) (c : Cluster) (p : ℕ) → Stands n c p → freed_in n.limits.durable c p ≤ length (c.world.history p)
freed-within n c p s = by_durable n.limits.durable
  where
    by_durable : (durable : Bool) → freed_in durable c p ≤ length (c.world.history p)
    by_durable true = omega (arith, s.saved, long n.count n.base n.covered n.receipts (c.world.history p) (c.world.acknowledged p) s.received)
    by_durable false = (run_to-is (c.world.acknowledged p) (length (c.world.history p))).0

-- that may be released, and is in the cluster
freed-most : (n : TheNode) (c : Cluster) (p d : ℕ) → Stands n c p → sent_by c.world.handlers p (c.world.history p) d (freed_in n.limits.durable c p) ≤ most_released n.limits.durable c p d
freed-most n c p d s = by_durable n.limits.durable (s.free d)
  where
    by_durable : (durable : Bool) → sent_by c.world.handlers p (c.world.history p) d (freed_in durable c p) ≤ c.world.released p d → sent_by c.world.handlers p (c.world.history p) d (freed_in durable c p) ≤ most_released durable c p d
    by_durable true f = omega arith
    by_durable false f = f

most-in : (n : TheNode) (c : Cluster) (p d : ℕ) → Stands n c p → most_released n.limits.durable c p d ≤ c.world.released p d
most-in n c p d s = by_durable n.limits.durable (s.free d)
  where
    by_durable : (durable : Bool) → sent_by c.world.handlers p (c.world.history p) d (freed_in durable c p) ≤ c.world.released p d → most_released durable c p d ≤ c.world.released p d
    by_durable true f = f
    by_durable false f = omega arith

-- What is let go
shut-released : (q : TheQueue) (run n released : ℕ) (sent : ℕ → ℕ) → run ≤ n → sent run ≤ released → IsShut q n released sent → IsShut (released_by run q) n released sent
shut-released q run n released sent within free s =
    record {
      within = (let l : leading run q.held ≤ length q.held = leading-bound run q.held in let m : length (drop (leading run q.held) q.held) ≡ length q.held - leading run q.held = length-drop (leading run q.held) q.held in omega (arith, l, m, s.within));
      waits = λ k l. split k l (nat_le run k) refl;
    }
  where
    split : (k : ℕ) → k ≤ n → (b : Bool) → nat_le run k ≡ b → q.released + leading run q.held + leading k (drop (leading run q.held) q.held) ≤ max released (sent k)
    split k l true e = let later : run ≤ k = grind (arith, nat_tests) in omega (arith, leading-split run k q.held later, s.waits k l)
    split k l false e = let earlier : k ≤ run = grind (arith, nat_tests) in omega (arith, leading-none run k q.held earlier, s.waits run within, free)

unlocks : (n : TheNode) (to : ℕ) → to < length n.logs → Acts n (unlocked to n)
unlocks n to wide c s u = goes-self true n.me (λ d. Stands (unlocked to n) d n.me) c (stands-with n c n.me s logs gates s.heard s.resumed s.out)
  where
    logs : (d : ℕ) → d ≤ c.world.count → d ≢ n.me → KeepsOf (log_at (unlocked to n).logs d) (c.world.trims n.me d) (c.world.handlers.sends n.me (c.world.history n.me) d) (c.world.numbers n.me d)
    logs d l o = changed-at (λ q. KeepsOf q (c.world.trims n.me d) (c.world.handlers.sends n.me (c.world.history n.me) d) (c.world.numbers n.me d)) n.logs to (released_by (freed n) (log_at n.logs to)) d wide
        (λ same. let P : ℕ → Type 0 = λ z. KeepsOf (released_by (freed n) (log_at n.logs z)) (c.world.trims n.me d) (c.world.handlers.sends n.me (c.world.history n.me) d) (c.world.numbers n.me d) in
        let k = s.logs d l o in subst P same (record { before = k.before; many = k.many; joined = k.joined; dropped_is = k.dropped_is; as_many = k.as_many; numbers_are = k.numbers_are; beyond = k.beyond }))
        (λ apart. s.logs d l o)

    gates : (d : ℕ) → d ≤ c.world.count → d ≢ n.me → IsShut (log_at (unlocked to n).logs d) (length (c.world.history n.me)) (most_released n.limits.durable c n.me d) (sent_by c.world.handlers n.me (c.world.history n.me) d)
    gates d l o = changed-at (λ q. IsShut q (length (c.world.history n.me)) (most_released n.limits.durable c n.me d) (sent_by c.world.handlers n.me (c.world.history n.me) d)) n.logs to (released_by (freed n) (log_at n.logs to)) d wide
        (λ same. let P : ℕ → Type 0 = λ z. IsShut (released_by (freed n) (log_at n.logs z)) (length (c.world.history n.me)) (most_released n.limits.durable c n.me d) (sent_by c.world.handlers n.me (c.world.history n.me) d) in
        let is = freed-is n c n.me s in
        let free : sent_by c.world.handlers n.me (c.world.history n.me) d (freed n) ≤ most_released n.limits.durable c n.me d = omega (arith, ap (sent_by c.world.handlers n.me (c.world.history n.me) d) is, freed-most n c n.me d s) in
        subst P same (shut-released (log_at n.logs d) (freed n) (length (c.world.history n.me)) (most_released n.limits.durable c n.me d) (sent_by c.world.handlers n.me (c.world.history n.me) d) (omega (arith, is, freed-within n c n.me s)) free (s.gates d l o)))
        (λ apart. s.gates d l o)

-- Messages

-- a message that is kept and released
pub delivery : (n : TheNode) (to ssn : ℕ) → to ≤ n.count → to ≢ n.me → (log_at n.logs to).dropped < ssn → ssn ≤ (log_at n.logs to).released → Acts n (delivers to ssn n)
delivery n to ssn low other above free c s u =
    posted n c to (packets.Delivery n.life ssn (payload_of ssn (log_at n.logs to))) (Delivery n.life ssn (payload_of ssn (log_at n.logs to))) refl s low other (stands-well n c n.me s, sym s.life, out, kept, said) stable tt
  where
    within : to ≤ c.world.count
    within = omega (arith, low, s.count)

    inner : (n.me == 0) ≡ false
    inner = let z : 0 < n.me = s.inside.0 in grind (arith, nat_tests)

    most : ssn ≤ most_released n.limits.durable c n.me to
    most = let w = (s.gates to within other).waits (freed_in n.limits.durable c n.me) (freed-within n c n.me s) in omega (arith, w, freed-most n c n.me to s, free)

    out : ssn ≤ released_of c.world n.me to
    out = rw inner (omega (arith, most, most-in n c n.me to s))

    -- a durable node has released only what its checkpoint covers
    stable : c.durable n.me ≡ true → ssn ≤ length (kept_sends c n.me to)
    stable e = rw inner (subst (λ (b : Bool). ssn ≤ most_released b c n.me to) (s.durable e) most)

    kept : c.world.trims n.me to < ssn
    kept = let k = s.logs to within other in omega (arith, above, k.dropped_is)

    said : nth (sent c.world n.me to) ssn ≡ Some (payload_of ssn (log_at n.logs to))
    said =
        let k = s.logs to within other in
        let g = s.gates to within other in
        let place : ssn ≡ suc (length k.before + (ssn - (log_at n.logs to).dropped - 1)) = omega (arith, above, k.many) in
        let inside : ssn - (log_at n.logs to).dropped - 1 < length (log_at n.logs to).payloads = omega (arith, above, free, g.within) in
        ap (λ h. nth h ssn) (sent-is n c n.me to s ∙ sym k.joined)
        ∙ ap (nth (k.before ++ (log_at n.logs to).payloads)) place
        ∙ get-behind k.before (log_at n.logs to).payloads (ssn - (log_at n.logs to).dropped - 1) (payload_of ssn (log_at n.logs to)) (get-some (log_at n.logs to).payloads (ssn - (log_at n.logs to).dropped - 1) inside)

-- several
pub only-sends : (to first k : ℕ) (n : TheNode) → OnlyPosts n (sends to first k n)
only-sends to first zero n = refl
only-sends to first (suc k) n = only-then n (sends to first k n) (sends to first (suc k) n) (only-sends to first k n) refl

sending : (n : TheNode) (to first k : ℕ) → to ≤ n.count → to ≢ n.me → (log_at n.logs to).dropped ≤ first → first + k ≤ (log_at n.logs to).released → Acts n (sends to first k n)
sending n to first zero low other above free = acts-self n
sending n to first (suc k) low other above free =
    let m = sends to first k n in
    let P : TheNode → Type 0 = λ z. Acts z (delivers to (first + k + 1) z) in
    let one : P (record n { out = m.out }) = delivery (record n { out = m.out }) to (first + k + 1) low other (omega (arith, above)) (omega (arith, free)) in
    acts-then n m (sends to first (suc k) n) (sending n to first k low other above (omega (arith, free))) (subst P (sym (only-sends to first k n)) one)

pub sending-on : (n : TheNode) (to above : ℕ) → to ≤ n.count → to ≢ n.me → Acts n (sends_on to above n)
sending-on n to above low other = by_room (nat_le (first_to_send above (log_at n.logs to)) (log_at n.logs to).released) refl
  where
    by_room : (b : Bool) → nat_le (first_to_send above (log_at n.logs to)) (log_at n.logs to).released ≡ b → Acts n (sends_on to above n)
    by_room true e =
        let room : first_to_send above (log_at n.logs to) ≤ (log_at n.logs to).released = grind (arith, nat_tests) in
        sending n to (first_to_send above (log_at n.logs to)) (many_to_send n.limits.tick above (log_at n.logs to)) low other (omega arith) (omega (arith, room))
    by_room false e =
        let past : (log_at n.logs to).released < first_to_send above (log_at n.logs to) = grind (arith, nat_tests) in
        let none : many_to_send n.limits.tick above (log_at n.logs to) ≡ 0 = omega (arith, past) in
        let P : ℕ → Type 0 = λ z. Acts n (sends to (first_to_send above (log_at n.logs to)) z n) in
        subst P (sym none) (acts-self n)

-- a destination is served
pub releasing-to : (n : TheNode) (to : ℕ) → to ≤ n.count → to ≢ n.me → to < length n.logs → Acts n (released_to to n)
releasing-to n to low other wide = acts-then n (unlocked to n) (released_to to n) (unlocks n to wide) (sending-on (unlocked to n) to (log_at n.logs to).released low other)

-- What stays while a node sends
pub record Kept (old new : TheNode) : Type 0 where
  pub me : new.me ≡ old.me
  pub count : new.count ≡ old.count
  pub wide : length new.logs ≡ length old.logs
  pub receipts : new.receipts ≡ old.receipts
  pub covered : new.covered ≡ old.covered

kept-then : (a b c : TheNode) → Kept a b → Kept b c → Kept a c
kept-then a b c f g = record { me = g.me ∙ f.me; count = g.count ∙ f.count; wide = g.wide ∙ f.wide; receipts = g.receipts ∙ f.receipts; covered = g.covered ∙ f.covered }

kept-only : (a b : TheNode) → OnlyPosts a b → Kept a b
kept-only a b e = record { me = ap (λ (z : TheNode). z.me) e; count = ap (λ (z : TheNode). z.count) e; wide = ap (λ (z : TheNode). length z.logs) e; receipts = ap (λ (z : TheNode). z.receipts) e; covered = ap (λ (z : TheNode). z.covered) e }

pub kept-released-to : (n : TheNode) (to : ℕ) → Kept n (released_to to n)
kept-released-to n to =
    let m = unlocked to n in
    kept-then n m (released_to to n) (record { me = refl; count = refl; wide = length-set n.logs to (released_by (freed n) (log_at n.logs to)); receipts = refl; covered = refl })
    (kept-only m (released_to to n) (only-sends to (first_to_send (log_at n.logs to).released (log_at m.logs to)) (many_to_send m.limits.tick (log_at n.logs to).released (log_at m.logs to)) m))

pub kept-released : (n : TheNode) (me d : ℕ) → Kept n (released_below me d n)
kept-released n me zero = record { me = refl; count = refl; wide = refl; receipts = refl; covered = refl }
kept-released n me (suc d) = by-if (Kept n) (d == me) (released_below me d n) (released_to d (released_below me d n)) (λ e. kept-released n me d)
    (λ e. kept-then n (released_below me d n) (released_to d (released_below me d n)) (kept-released n me d) (kept-released-to (released_below me d n) d))

releasing-below : (n : TheNode) (d : ℕ) → length n.logs ≡ suc n.count → d ≤ suc n.count → Acts n (released_below n.me d n)
releasing-below n zero wide low = acts-self n
releasing-below n (suc d) wide low = by-if (Acts n) (d == n.me) (released_below n.me d n) (released_to d (released_below n.me d n)) (λ e. releasing-below n d wide (omega (arith, low)))
    (λ e. let m = released_below n.me d n in
    let k = kept-released n n.me d in
    let apart : d ≢ n.me = different d n.me e in
    acts-then n m (released_to d m) (releasing-below n d wide (omega (arith, low))) (releasing-to m d (omega (arith, low, k.count)) (λ f. apart (f ∙ k.me)) (omega (arith, low, wide, k.wide))))

pub releasing : (n : TheNode) → length n.logs ≡ suc n.count → Acts n (released n)
releasing n wide = releasing-below n (n.count + 1) wide (omega arith)

-- Again
pub only-resends : (to s k left : ℕ) (n : TheNode) → OnlyPosts n (resends to s k left n)
only-resends to s zero left n = refl
only-resends to s (suc k) zero n = refl
only-resends to s (suc k) (suc left) n =
    by-if (OnlyPosts n) (is_none (number_of (s + 1) (log_at n.logs to))) (resends to (s + 1) k left (delivers to (s + 1) n)) (resends to (s + 1) k (suc left) n)
    (λ e. only-then n (delivers to (s + 1) n) (resends to (s + 1) k left (delivers to (s + 1) n)) refl (only-resends to (s + 1) k left (delivers to (s + 1) n)))
    (λ e. only-resends to (s + 1) k (suc left) n)

resending-on : (to s k left : ℕ) (n : TheNode) → to ≤ n.count → to ≢ n.me → (log_at n.logs to).dropped ≤ s → s + k ≤ (log_at n.logs to).released → Acts n (resends to s k left n)
resending-on to s zero left n low other above free = acts-self n
resending-on to s (suc k) zero n low other above free = acts-self n
resending-on to s (suc k) (suc left) n low other above free =
    by-if (Acts n) (is_none (number_of (s + 1) (log_at n.logs to))) (resends to (s + 1) k left (delivers to (s + 1) n)) (resends to (s + 1) k (suc left) n)
    (λ e. acts-then n (delivers to (s + 1) n) (resends to (s + 1) k left (delivers to (s + 1) n)) (delivery n to (s + 1) low other (omega (arith, above)) (omega (arith, free)))
    (resending-on to (s + 1) k left (delivers to (s + 1) n) low other (omega (arith, above)) (omega (arith, free))))
    (λ e. resending-on to (s + 1) k (suc left) n low other (omega (arith, above)) (omega (arith, free)))

resending : (n : TheNode) (to : ℕ) → to ≤ n.count → to ≢ n.me → Acts n (resent to n)
resending n to low other = by_room (nat_le (log_at n.logs to).dropped (log_at n.logs to).released) refl
  where
    by_room : (b : Bool) → nat_le (log_at n.logs to).dropped (log_at n.logs to).released ≡ b → Acts n (resent to n)
    by_room true e =
        let room : (log_at n.logs to).dropped ≤ (log_at n.logs to).released = grind (arith, nat_tests) in
        resending-on to (log_at n.logs to).dropped ((log_at n.logs to).released - (log_at n.logs to).dropped) n.limits.tick n low other (omega arith) (omega (arith, room))
    by_room false e =
        let past : (log_at n.logs to).released < (log_at n.logs to).dropped = grind (arith, nat_tests) in
        let none : (log_at n.logs to).released - (log_at n.logs to).dropped ≡ 0 = omega (arith, past) in
        let P : ℕ → Type 0 = λ z. Acts n (resends to (log_at n.logs to).dropped z n.limits.tick n) in
        subst P (sym none) (acts-self n)

pub only-renumbers : (to place k left : ℕ) (n : TheNode) → OnlyPosts n (renumbers to place k left n)
only-renumbers to place zero left n = refl
only-renumbers to place (suc k) zero n = refl
only-renumbers to place (suc k) (suc left) n =
    by-if (OnlyPosts n) (is_told_at to place n) (renumbers to (place + 1) k (suc left) n) (renumbers to (place + 1) k left (tells to (covered_of to n + place + 1) n))
    (λ e. only-renumbers to (place + 1) k (suc left) n)
    (λ e. only-then n (tells to (covered_of to n + place + 1) n) (renumbers to (place + 1) k left (tells to (covered_of to n + place + 1) n)) refl (only-renumbers to (place + 1) k left (tells to (covered_of to n + place + 1) n)))

renumbering-on : (to place k left : ℕ) (n : TheNode) → to ≤ n.count → to ≢ n.me → place + k ≤ length (numbers_of to n.receipts) → Acts n (renumbers to place k left n)
renumbering-on to place zero left n low other inside = acts-self n
renumbering-on to place (suc k) zero n low other inside = acts-self n
renumbering-on to place (suc k) (suc left) n low other inside =
    let m = tells to (covered_of to n + place + 1) n in
    by-if (Acts n) (is_told_at to place n) (renumbers to (place + 1) k (suc left) n) (renumbers to (place + 1) k left m)
    (λ e. renumbering-on to (place + 1) k (suc left) n low other (omega (arith, inside)))
    (λ e. acts-then n m (renumbers to (place + 1) k left m) (tells-number n to (covered_of to n + place + 1) low other (omega arith) (omega (arith, inside)))
    (renumbering-on to (place + 1) k left m low other (omega (arith, inside))))

renumbering : (n : TheNode) (to : ℕ) → to ≤ n.count → to ≢ n.me → Acts n (renumbered to n)
renumbering n to low other = by_room (nat_le (run_of (acknowledged_of to n.receipts)) (length (numbers_of to n.receipts))) refl
  where
    by_room : (b : Bool) → nat_le (run_of (acknowledged_of to n.receipts)) (length (numbers_of to n.receipts)) ≡ b → Acts n (renumbered to n)
    by_room true e =
        let room : run_of (acknowledged_of to n.receipts) ≤ length (numbers_of to n.receipts) = grind (arith, nat_tests) in
        renumbering-on to (run_of (acknowledged_of to n.receipts)) (length (numbers_of to n.receipts) - run_of (acknowledged_of to n.receipts)) n.limits.tick n low other (omega (arith, room))
    by_room false e =
        let past : length (numbers_of to n.receipts) < run_of (acknowledged_of to n.receipts) = grind (arith, nat_tests) in
        let none : length (numbers_of to n.receipts) - run_of (acknowledged_of to n.receipts) ≡ 0 = omega (arith, past) in
        let P : ℕ → Type 0 = λ z. Acts n (renumbers to (run_of (acknowledged_of to n.receipts)) z n.limits.tick n) in
        subst P (sym none) (acts-self n)

pub only-resent : (to : ℕ) (n : TheNode) → OnlyPosts n (resent to n)
only-resent to n = only-resends to (log_at n.logs to).dropped ((log_at n.logs to).released - (log_at n.logs to).dropped) n.limits.tick n

pub kept-served : (n : TheNode) (to : ℕ) → Kept n (renumbered to (resent to n))
kept-served n to =
    let m = resent to n in
    kept-then n m (renumbered to m) (kept-only n m (only-resends to (log_at n.logs to).dropped ((log_at n.logs to).released - (log_at n.logs to).dropped) n.limits.tick n))
    (kept-only m (renumbered to m) (only-renumbers to (run_of (acknowledged_of to m.receipts)) (length (numbers_of to m.receipts) - run_of (acknowledged_of to m.receipts)) m.limits.tick m))

pub kept-ticked : (n : TheNode) (me d : ℕ) → Kept n (ticked_below me d n)
kept-ticked n me zero = record { me = refl; count = refl; wide = refl; receipts = refl; covered = refl }
kept-ticked n me (suc d) = by-if (Kept n) (d == me) (ticked_below me d n) (renumbered d (resent d (ticked_below me d n))) (λ e. kept-ticked n me d)
    (λ e. kept-then n (ticked_below me d n) (renumbered d (resent d (ticked_below me d n))) (kept-ticked n me d) (kept-served (ticked_below me d n) d))

ticking-below : (n : TheNode) (d : ℕ) → d ≤ suc n.count → Acts n (ticked_below n.me d n)
ticking-below n zero low = acts-self n
ticking-below n (suc d) low = by-if (Acts n) (d == n.me) (ticked_below n.me d n) (renumbered d (resent d (ticked_below n.me d n))) (λ e. ticking-below n d (omega (arith, low)))
    (λ e. let m = ticked_below n.me d n in
    let k = kept-ticked n n.me d in
    let o = kept-only m (resent d m) (only-resends d (log_at m.logs d).dropped ((log_at m.logs d).released - (log_at m.logs d).dropped) m.limits.tick m) in
    let apart : d ≢ n.me = different d n.me e in
    acts-then n m (renumbered d (resent d m)) (ticking-below n d (omega (arith, low)))
    (acts-then m (resent d m) (renumbered d (resent d m)) (resending m d (omega (arith, low, k.count)) (λ f. apart (f ∙ k.me)))
    (renumbering (resent d m) d (omega (arith, low, k.count, o.count)) (λ f. apart (f ∙ o.me ∙ k.me)))))

pub ticking : (n : TheNode) → Acts n (ticked n)
ticking n = by-if (Acts n) n.frozen n (ticked_below n.me (n.count + 1) n) (λ e. acts-self n) (λ e. ticking-below n (n.count + 1) (omega arith))

-- What the loops of a tick go through

pub resends-step : (to s last left : ℕ) (n : TheNode) → s < last → 0 < left → (b : Bool) → is_none (number_of (s + 1) (log_at n.logs to)) ≡ b
    → resends to s (last - s) left n ≡ (if b then resends to (s + 1) (last - (s + 1)) (left - 1) (delivers to (s + 1) n) else resends to (s + 1) (last - (s + 1)) left n)
resends-step to s last left n inside some b e =
    let k : last - s ≡ suc (last - (s + 1)) = omega (arith, inside) in
    let l : left ≡ suc (left - 1) = omega (arith, some) in
    ap (λ z. resends to s z left n) k ∙ ap (λ z. resends to s (suc (last - (s + 1))) z n) l ∙ rw e (by b)
  where
    by : (t : Bool) → (if t then resends to (s + 1) (last - (s + 1)) (left - 1) (delivers to (s + 1) n) else resends to (s + 1) (last - (s + 1)) (suc (left - 1)) n)
        ≡ (if t then resends to (s + 1) (last - (s + 1)) (left - 1) (delivers to (s + 1) n) else resends to (s + 1) (last - (s + 1)) left n)
    by true = refl
    by false = ap (λ z. resends to (s + 1) (last - (s + 1)) z n) (let f : suc (left - 1) ≡ left = omega (arith, some) in f)

pub renumbers-step : (to place last left : ℕ) (n : TheNode) → place < last → 0 < left → (b : Bool) → is_told_at to place n ≡ b
    → renumbers to place (last - place) left n ≡ (if b then renumbers to (place + 1) (last - (place + 1)) left n else renumbers to (place + 1) (last - (place + 1)) (left - 1) (tells to (covered_of to n + place + 1) n))
renumbers-step to place last left n inside some b e =
    let k : last - place ≡ suc (last - (place + 1)) = omega (arith, inside) in
    let l : left ≡ suc (left - 1) = omega (arith, some) in
    ap (λ z. renumbers to place z left n) k ∙ ap (λ z. renumbers to place (suc (last - (place + 1))) z n) l ∙ rw e (by b)
  where
    by : (t : Bool) → (if t then renumbers to (place + 1) (last - (place + 1)) (suc (left - 1)) n else renumbers to (place + 1) (last - (place + 1)) (left - 1) (tells to (covered_of to n + place + 1) n))
        ≡ (if t then renumbers to (place + 1) (last - (place + 1)) left n else renumbers to (place + 1) (last - (place + 1)) (left - 1) (tells to (covered_of to n + place + 1) n))
    by true = ap (λ z. renumbers to (place + 1) (last - (place + 1)) z n) (let f : suc (left - 1) ≡ left = omega (arith, some) in f)
    by false = refl
