-- A message comes
use Rattle.std.proofs.Common.{◌≡◌, ◌≢◌, ℕ, suc, ◌+◌, ◌-◌, ◌<◌, ◌≤◌, List, [], ◌∷◌, ◌++◌, length, take, map, true, false, refl, sym, ap, ◌∙◌, subst, arith}
use Rattle.std.specs.Prelude.{Some, None, slice_get, slice_index_or, ◌==◌, if◌then◌else◌}
use Rattle.std.proofs.lemmas.Bool.Decides.{nat_tests}
use Rattle.rsn.specs.Receipts.{numbers_of, numbers_from}
use Rattle.world.specs.declared.message.Message.{Message}
use Rattle.world.specs.History.{Payload, nth, count_of}
use Rattle.world.specs.Phases.{Up, Busy}
use Rattle.world.specs.Logs.{covered}
use Rattle.theorems.specs.Invariants.Exact.{Names}
use Rattle.theorems.proofs.Changes.{at-itself}
use Rattle.theorems.proofs.HistoryLemmas.{found-at}
use Rattle.cluster.specs.Parcels.{Body, Delivery, Number, Saved}
use Rattle.cluster.specs.Cluster.{Cluster, waiting, WINDOW}
use Rattle.cluster.specs.Rules.{Act, Arrives, message}
use Rattle.cluster.proofs.Nodes.{may-open, opens}
use Rattle.packets.specs.declared.packet.Body.TheVariants as packets
use Rattle.node.specs.Node.{TheNode, posts, tells, covered_of}
use Rattle.node.specs.Stands.{Stands, HasReceived, Receives, Acts}
use Rattle.packets.proofs.Lists.{get-behind}
use Rattle.node.proofs.Lists.{count-append}
use Rattle.cluster.proofs.Goes.{goes-act}
use Rattle.node.proofs.Puts.{stands-takes, stands-well, posted}
use Rattle.node.proofs.StandsLemmas.{stands-staged}
use Rattle.node.proofs.Numbers.{length-numbers, rsn_from-numbers}

-- the messages of q that it received: those that its checkpoint covers, and those behind
pub counted : (n : TheNode) (c : Cluster) (p q : ℕ) (s : Stands n c p) → q ≤ n.count → slice_index_or n.covered q 0 + length (numbers_of q n.receipts) ≡ count_of q (c.world.history p)
counted n c p q s low =
    let r = s.received in
    let a : length (numbers_from q 0 n.receipts.senders) ≡ count_of q r.behind = ap (λ xs. length (numbers_from q 0 xs)) r.senders ∙ length-numbers q 0 r.behind in
    let b : count_of q (c.world.history p) ≡ count_of q r.before + count_of q r.behind = ap (count_of q) (sym r.joined) ∙ count-append q r.before r.behind in
    omega (arith, a, b, r.covered_is q low)

-- what its checkpoint covers
first-part : {X : Type 0} (xs ys : List X) → take (length xs) (xs ++ ys) ≡ xs
first-part [] ys = refl
first-part (x ∷ xs) ys = ap (λ l. x ∷ l) (first-part xs ys)

pub covers : (n : TheNode) (c : Cluster) (p q : ℕ) (s : Stands n c p) → q ≤ n.count → 0 < p → slice_index_or n.covered q 0 ≡ covered c.world q p
covers n c p q s low positive =
    let r = s.received in
    let inner : (p == 0) ≡ false = grind (arith, nat_tests) in
    let many : c.world.saved p ≡ length r.before = s.saved ∙ sym r.many in
    let e : take (c.world.saved p) (c.world.history p) ≡ r.before = ap (λ k. take k (c.world.history p)) many ∙ ap (take (length r.before)) (sym r.joined) ∙ first-part r.before r.behind in
    r.covered_is q low ∙ ap (count_of q) (sym e) ∙ rw inner refl

-- what the checkpoint covers of a peer it may tell it
pub says-covered : (n : TheNode) (to : ℕ) → to ≤ n.count → to ≢ n.me → Acts n (posts to (packets.Saved (covered_of to n)) n)
says-covered n to low other c s g =
    posted n c to (packets.Saved (covered_of to n)) (Saved (covered_of to n)) refl s low other (stands-well n c n.me s, covers n c n.me to s low s.inside.0) tt tt

-- the sender's message is one that the checkpoint covers
pub says-saved : (n : TheNode) (from : ℕ) (body : Body) → from ≤ n.count → from ≢ n.me → Receives from body n (posts from (packets.Saved (covered_of from n)) n)
says-saved n from body low other c s g = says-covered n from low other c s tt

-- it is one behind: its number is known
says-number : (n : TheNode) (from ssn k : ℕ) → from ≤ n.count → from ≢ n.me → covered_of from n < ssn → ssn - covered_of from n - 1 < length (numbers_of from n.receipts)
    → k ≡ n.base + slice_index_or (numbers_of from n.receipts) (ssn - covered_of from n - 1) 0 → Acts n (posts from (packets.Number n.life ssn k) n)
says-number n from ssn k low other above known is c s g =
    posted n c from (packets.Number n.life ssn k) (Number n.life ssn k) refl s low other (stands-well n c n.me s, sym s.life, names) tt tt
  where
    r : HasReceived n.count n.base n.covered n.receipts (c.world.history n.me) (c.world.acknowledged n.me)
    r = s.received

    names : Names (c.world.history n.me) k from ssn
    names =
        let here : slice_index_or n.covered from 0 ≡ count_of from r.before = r.covered_is from low in
        let many : length (numbers_from from 0 n.receipts.senders) ≡ count_of from r.behind = ap (λ xs. length (numbers_from from 0 xs)) r.senders ∙ length-numbers from 0 r.behind in
        let found = rsn_from-numbers 0 (λ q. count_of q r.before) from ssn r.behind r.in_order (omega (arith, here, above)) (omega (arith, here, many, known, above)) in
        let f = found-at 0 from ssn r.behind _ found in
        let place : ssn - slice_index_or n.covered from 0 - 1 ≡ ssn - suc (count_of from r.before) = omega (arith, here) in
        let same : slice_index_or (numbers_of from n.receipts) (ssn - slice_index_or n.covered from 0 - 1) 0 ≡ slice_index_or (numbers_from from 0 (map (λ (m : Message). m.sender) r.behind)) (ssn - suc (count_of from r.before)) 0 =
        ap (λ j. slice_index_or (numbers_of from n.receipts) j 0) place ∙ ap (λ xs. slice_index_or (numbers_from from 0 xs) (ssn - suc (count_of from r.before)) 0) r.senders in
        let number : k ≡ suc (length r.before + f.0) = omega (arith, is, same, f.1, r.many) in
        let at : nth (c.world.history n.me) (suc (length r.before + f.0)) ≡ Some f.2 = ap (λ h. slice_get h (length r.before + f.0)) (sym r.joined) ∙ get-behind r.before r.behind f.0 f.2 f.3 in
        record { message = f.2; at = ap (nth (c.world.history n.me)) number ∙ at; sender = f.4; ssn = f.5 }

pub tells-number : (n : TheNode) (from ssn : ℕ) → from ≤ n.count → from ≢ n.me → covered_of from n < ssn → ssn - covered_of from n - 1 < length (numbers_of from n.receipts) → Acts n (tells from ssn n)
tells-number n from ssn low other above known = says-number n from ssn (n.base + slice_index_or (numbers_of from n.receipts) (ssn - covered_of from n - 1) 0) low other above known refl

-- it is the next of its sender: a job is open
pub starts : (n : TheNode) (from i ssn : ℕ) (x : Payload) → n.frozen ≡ false → from ≤ n.count → from ≢ n.me → n.working ≡ None → i ≡ slice_index_or n.heard from 0 → slice_index_or n.covered from 0 < ssn
    → ssn - slice_index_or n.covered from 0 - 1 ≡ length (numbers_of from n.receipts) → n.waiting < 256
    → Receives from (Delivery i ssn x) n (record n { working = Some (record { sender = from; ssn = ssn; payload = x }) })
unfolding WINDOW
starts n from i ssn x live low other idle incarnation above next room c s given =
    goes-act true n.me (λ d. Stands (record n { working = Some (record { sender = from; ssn = ssn; payload = x }) }) d n.me) c act (may-open c from n.me i ssn x given (s.inside, stands-takes n c n.me live s, up, incarnation ∙ sym (s.heard from within), is-next, few)) tt tt refl
    (subst At (sym (opens c from n.me i ssn x s.inside.0)) (stands-staged n c n.me s s.stage (at-itself n.me (λ t. (if t then Busy (message from ssn x) else c.world.phase n.me) ≡ Busy (message from ssn x)) refl) is-next))
  where
    At : Cluster → Type 0
    At d = Stands (record n { working = Some (record { sender = from; ssn = ssn; payload = x }) }) (record d { exact = c.exact; lost = c.lost; said = c.said }) n.me

    act : Act
    act = Arrives from n.me (Delivery i ssn x)

    within : from ≤ c.world.count
    within = omega (arith, low, s.count)

    up : c.world.phase n.me ≡ Up
    up = s.phase ∙ rw idle refl

    is-next : ssn ≡ suc (count_of from (c.world.history n.me))
    is-next = omega (arith, counted n c n.me from s low, above, next)

    few : waiting c n.me < WINDOW
    few = let e : waiting c n.me ≡ n.waiting = s.waits in omega (arith, e, room)
