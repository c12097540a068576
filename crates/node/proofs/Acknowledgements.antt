-- An acknowledgement comes
use Rattle.std.proofs.Common.{◌≡◌, ◌≢◌, ℕ, zero, suc, ◌+◌, ◌-◌, ◌<◌, ◌≤◌, List, length, Bool, true, false, refl, sym, ap, ◌∙◌, subst, arith}
use Rattle.std.specs.Prelude.{take, max, not, slice_index_or, slice_set, ◌==◌, if◌then◌else◌}
use Rattle.std.proofs.lemmas.Bool.Decides.{nat_tests}
use Rattle.std.proofs.lemmas.List.{get_or-set_same, get_or-set_other, length-set}
use Rattle.rsn.specs.Receipts.{Received, acknowledged}
use Rattle.world.specs.declared.message.Message.{Message}
use Rattle.world.specs.World.{put}
use Rattle.world.specs.Logs.{run_to, payloads}
use Rattle.world.specs.Bounds.{count_below}
use Rattle.theorems.proofs.Changes.{at-itself}
use Rattle.cluster.specs.Parcels.{Acknowledgement, In, parcel}
use Rattle.cluster.specs.Cluster.{Cluster, waiting}
use Rattle.cluster.specs.Rules.{Act, Arrives, May, does}
use Rattle.node.specs.Node.{TheNode, counted, log_at}
use Rattle.node.specs.Stands.{Stands, HasReceived, IsShut, sent_by, freed_in, most_released, GoesOn, Receives}
use Rattle.cluster.proofs.Goes.{goes-act}
use Rattle.node.proofs.Puts.{stands-takes}
use Rattle.node.proofs.StandsLemmas.{stands-anew}
use Rattle.node.proofs.Commits.{long}

-- where one that passed passes no longer
count-same : (f g : ℕ → Bool) (n : ℕ) → ((j : ℕ) → j < n → g j ≡ f j) → count_below g n ≡ count_below f n
count-same f g zero same = refl
count-same f g (suc n) same = let e : count_below g n ≡ count_below f n = count-same f g n (λ j l. same j (omega (arith, l))) in rw (same n (omega arith), e) refl

count-one-less : (f g : ℕ → Bool) (n i : ℕ) → i < n → f i ≡ true → g i ≡ false → ((j : ℕ) → j ≢ i → g j ≡ f j) → suc (count_below g n) ≡ count_below f n
count-one-less f g zero i l on off same = absurd (omega (arith, l))
count-one-less f g (suc n) i l on off same = split (n == i) refl (count-one-less f g n i)
  where
    split : (b : Bool) → (n == i) ≡ b → (i < n → f i ≡ true → g i ≡ false → ((j : ℕ) → j ≢ i → g j ≡ f j) → suc (count_below g n) ≡ count_below f n)
        → suc ((if g n then 1 else 0) + count_below g n) ≡ (if f n then 1 else 0) + count_below f n
    split true e less =
        let last : n ≡ i = grind (arith, nat_tests) in
        let a : f n ≡ true = ap f last ∙ on in
        let z : g n ≡ false = ap g last ∙ off in
        let rest : count_below g n ≡ count_below f n = count-same f g n (λ j m. same j (λ k. omega (arith, k, last, m))) in
        rw (a, z) (omega (arith, rest))
    split false e less =
        let apart : n ≢ i = grind (arith, nat_tests) in
        let rest : suc (count_below g n) ≡ count_below f n = less (omega (arith, l, apart)) on off same in
        rw (same n apart) (omega (arith, rest))

-- one more number is acknowledged
received-counted : (count base : ℕ) (covered : List ℕ) (r : Received) (h : List Message) (a : ℕ → Bool) (k : ℕ) → 0 < k → k ≤ length r.senders → HasReceived count base covered r h a → HasReceived count base covered (acknowledged k r) h (put a (base + k) true)
received-counted count base covered r h a k some within s =
    record {
      before = s.before;
      behind = s.behind;
      joined = s.joined;
      ordered = s.ordered;
      many = s.many;
      covered_is = s.covered_is;
      senders = s.senders;
      in_order = s.in_order;
      flags = length-set r.acknowledged (k - 1) true ∙ s.flags;
      acknowledged_is = λ j l. flag j l (suc (base + j) == base + k) refl;
      below = λ j l. before j l (suc j == base + k) refl;
      above = λ j l. past j l (j == base + k) refl;
    }
  where
    flag : (j : ℕ) → j < length r.senders → (b : Bool) → (suc (base + j) == base + k) ≡ b → slice_index_or (slice_set r.acknowledged (k - 1) true) j false ≡ (if b then true else a (suc (base + j)))
    flag j l true e =
        let same : j ≡ k - 1 = (let f : suc (base + j) ≡ base + k = grind (arith, nat_tests) in omega (arith, f, some)) in
        ap (λ z. slice_index_or (slice_set r.acknowledged (k - 1) true) z false) same ∙ get_or-set_same r.acknowledged (k - 1) true false (omega (arith, some, within, s.flags))
    flag j l false e =
        let apart : j ≢ k - 1 = λ f. (let g : suc (base + j) ≢ base + k = grind (arith, nat_tests) in g (omega (arith, f, some))) in
        get_or-set_other r.acknowledged (k - 1) j true false apart ∙ s.acknowledged_is j l

    before : (j : ℕ) → j < base → (b : Bool) → (suc j == base + k) ≡ b → (if b then true else a (suc j)) ≡ true
    before j l true e = refl
    before j l false e = s.below j l

    past : (j : ℕ) → length h < j → (b : Bool) → (j == base + k) ≡ b → (if b then true else a j) ≡ false
    past j l true e = absurd (let f : j ≡ base + k = grind (arith, nat_tests) in omega (arith, f, l, within, long count base covered r h a s))
    past j l false e = s.above j l

module _ (n : TheNode) (c : Cluster) (q i k : ℕ) (s : Stands n c n.me) (given : In (parcel q n.me (Acknowledgement i (n.base + k))) c.parcels) (life : i ≡ n.life) (some : 0 < k) (within : k ≤ length n.receipts.senders) (fresh : slice_index_or n.receipts.acknowledged (k - 1) false ≡ false) (live : n.frozen ≡ false) where
  abbrev act : Act
  act = Arrives q n.me (Acknowledgement i (n.base + k))

  abbrev c' : Cluster
  c' = does c act

  abbrev h : List Message
  h = c.world.history n.me

  many : length h ≡ n.base + length n.receipts.senders
  many = long n.count n.base n.covered n.receipts h (c.world.acknowledged n.me) s.received

  not-yet : c.world.acknowledged n.me (n.base + k) ≡ false
  not-yet = let e : suc (n.base + (k - 1)) ≡ n.base + k = omega (arith, some) in ap (c.world.acknowledged n.me) (sym e) ∙ sym (s.received.acknowledged_is (k - 1) (omega (arith, some, within))) ∙ fresh

  may : May c act
  may = (given, (s.inside, stands-takes n c n.me live s, life ∙ sym s.life, omega (arith, many, within), not-yet))

  acknowledged-is : c'.world.acknowledged n.me ≡ put (c.world.acknowledged n.me) (n.base + k) true
  acknowledged-is = at-itself n.me (λ t. (if t then put (c.world.acknowledged n.me) (n.base + k) true else c.world.acknowledged n.me) ≡ put (c.world.acknowledged n.me) (n.base + k) true) refl

  fewer : waiting c' n.me ≡ n.waiting - 1
  fewer =
      let f : ℕ → Bool = λ j. not (c.world.acknowledged n.me (suc j)) in
      let g : ℕ → Bool = λ j. not (put (c.world.acknowledged n.me) (n.base + k) true (suc j)) in
      let place : suc (n.base + (k - 1)) ≡ n.base + k = omega (arith, some) in
      let on : f (n.base + (k - 1)) ≡ true = ap (λ z. not (c.world.acknowledged n.me z)) place ∙ ap not not-yet in
      let off : g (n.base + (k - 1)) ≡ false = ap (λ z. not (put (c.world.acknowledged n.me) (n.base + k) true z)) place ∙ at-itself (n.base + k) (λ t. not (if t then true else c.world.acknowledged n.me (n.base + k)) ≡ false) refl in
      let less : suc (count_below g (length h)) ≡ count_below f (length h) = count-one-less f g (length h) (n.base + (k - 1)) (omega (arith, many, some, within)) on off
      (λ j ne. (let apart : (suc j == n.base + k) ≡ false = grind (arith, nat_tests, ne, some) in rw apart refl)) in
      let was : count_below f (length h) ≡ n.waiting = s.waits in
      let e : waiting c' n.me ≡ count_below g (length h) = ap (λ (a : ℕ → Bool). count_below (λ j. not (a (suc j))) (length h)) acknowledged-is in
      omega (arith, e, less, was)

  released-is : (d : ℕ) → c'.world.released n.me d ≡ max (c.world.released n.me d) (sent_by c.world.handlers n.me h d (run_to (put (c.world.acknowledged n.me) (n.base + k) true) (length h)))
  released-is d =
      let inner : (n.me == 0) ≡ false = (let z : 0 < n.me = s.inside.0 in grind (arith, nat_tests)) in
      let new : ℕ → ℕ = λ e. max (c.world.released n.me e) (length (payloads c.world n.me (take (run_to (put (c.world.acknowledged n.me) (n.base + k) true) (length h)) h) e)) in
      at-itself n.me (λ t. (if t then new else c.world.released n.me) d ≡ max (c.world.released n.me d) (sent_by c.world.handlers n.me h d (run_to (put (c.world.acknowledged n.me) (n.base + k) true) (length h)))) (rw inner refl)

  more : (durable : Bool) (d : ℕ) → most_released durable c n.me d ≤ most_released durable c' n.me d
  more true d = omega arith
  more false d = omega (arith, released-is d)

  gates : (d : ℕ) → d ≤ c.world.count → d ≢ n.me → IsShut (log_at n.logs d) (length h) (most_released n.limits.durable c' n.me d) (sent_by c.world.handlers n.me h d)
  gates d l o =
      let g = s.gates d l o in
      record { within = g.within; waits = λ j m. (let w = g.waits j m in omega (arith, w, more n.limits.durable d)) }

  run-free : (d : ℕ) → sent_by c.world.handlers n.me h d (run_to (c'.world.acknowledged n.me) (length h)) ≤ c'.world.released n.me d
  run-free d = rw (released-is d) (subst (λ (a : ℕ → Bool). sent_by c.world.handlers n.me h d (run_to a (length h)) ≤ max (c.world.released n.me d) (sent_by c.world.handlers n.me h d (run_to (put (c.world.acknowledged n.me) (n.base + k) true) (length h)))) (sym acknowledged-is) (omega arith))

  free : (durable : Bool) (d : ℕ) → sent_by c.world.handlers n.me h d (freed_in durable c n.me) ≤ c.world.released n.me d → sent_by c.world.handlers n.me h d (freed_in durable c' n.me) ≤ c'.world.released n.me d
  free true d f = omega (arith, f, released-is d)
  free false d f = run-free d

  stands-counted : Stands (counted k n) c' n.me
  stands-counted =
      stands-anew n c n.me s s.durable
      (subst (HasReceived n.count n.base n.covered (acknowledged k n.receipts) h) (sym acknowledged-is) (received-counted n.count n.base n.covered n.receipts h (c.world.acknowledged n.me) k some within s.received))
      fewer s.logs gates (λ d. free n.limits.durable d (s.free d)) s.heard s.resumed s.out

  goes-counted : GoesOn n.me (counted k n) c
  goes-counted = goes-act true n.me (λ d. Stands (counted k n) d n.me) c act may tt tt refl stands-counted

-- an acknowledgement of the present life, for a number that isn't acknowledged yet, is counted
pub counts : (n : TheNode) (q i m k : ℕ) → n.frozen ≡ false → i ≡ n.life → m ≡ n.base + k → 0 < k → k ≤ length n.receipts.senders → slice_index_or n.receipts.acknowledged (k - 1) false ≡ false → Receives q (Acknowledgement i m) n (counted k n)
counts n q i m k live life is some within fresh c s given =
    let P : ℕ → Type 0 = λ z. In (parcel q n.me (Acknowledgement i z)) c.parcels in
    goes-counted n c q i k s (subst P is given) life some within fresh live
