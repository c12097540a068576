-- A message that comes, by what a node makes of it
use Rattle.std.proofs.Common.{◌≡◌, ◌≢◌, ℕ, ◌+◌, ◌-◌, ◌<◌, ◌≤◌, List, length, Bool, true, false, sym, ap, ◌∙◌, arith}
use Rattle.std.specs.Prelude.{Some, is_some, slice_index_or, not, ◌&&◌, ◌||◌, ◌==◌, nat_lt, nat_le, if◌then◌else◌}
use Rattle.std.proofs.lemmas.Bool.Decides.{nat_tests}
use Rattle.rsn.specs.Receipts.{numbers_of}
use Rattle.rsn.proofs.ReceiptLemmas.{numbers_from-bound}
use Rattle.theorems.proofs.Tests.{both}
use Rattle.packets.specs.declared.packet.Body.TheVariants.{Saved}
use Rattle.node.specs.declared.node.TheConstants.{MOST_RECEIVED}
use Rattle.node.specs.Node.{TheNode, Within, IsPeer, posts, tells, covered_of}
use Rattle.node.specs.Answers.{heard_of}
use Rattle.node.specs.Calls.{delivered, takes_more}
use Rattle.node.proofs.NodeLemmas.{within-with}

same-test : (a b y : ℕ) → y ≡ b → a ≡ y → (a == b) ≡ true
same-test a b y e f = let g : a ≡ b = f ∙ e in grind (arith, nat_tests)

other-test : (a b y : ℕ) → y ≡ b → a ≢ y → (a == b) ≡ false
other-test a b y e f = let g : a ≢ b = λ h. f (h ∙ sym e) in grind (arith, nat_tests)

le-test : (a b y : ℕ) → y ≡ b → a ≤ y → nat_le a b ≡ true
le-test a b y e f = let g : a ≤ b = omega arith in grind (arith, nat_tests)

no-le-test : (a b y : ℕ) → y ≡ b → y < a → nat_le a b ≡ false
no-le-test a b y e f = let g : b < a = omega arith in grind (arith, nat_tests)

pub place-is : (s b y : ℕ) → y ≡ b → s - y - 1 ≡ s - b - 1
place-is s b y e = ap (λ z. s - z - 1) e

module _ (from life ssn : ℕ) (x : List ℕ) (n : TheNode) where
  abbrev place : ℕ
  place = ssn - covered_of from n - 1

  abbrev known : ℕ
  known = length (numbers_of from n.receipts)

  abbrev opened : TheNode
  opened = record n { working = Some (record { sender = from; ssn = ssn; payload = x }) }

  abbrev after-place : Bool → Bool → TheNode
  after-place s t = if s && t then opened else n

  abbrev after-known : Bool → TheNode
  after-known r = if r then tells from ssn n else after-place (place == known) (takes_more n)

  abbrev after-covered : Bool → TheNode
  after-covered q = if q then posts from (Saved (covered_of from n)) n else after-known (nat_lt place known)

  abbrev after-heard : Bool → Bool → TheNode
  after-heard b h = if b || not h then n else after-covered (nat_le ssn (covered_of from n))

  heard-so : is_some n.working ≡ false → (life == slice_index_or n.heard from 0) ≡ true → after-covered (nat_le ssn (covered_of from n)) ≡ delivered from life ssn x n
  heard-so idle here = ap (λ h. after-heard false h) (sym here) ∙ ap (λ b. after-heard b (life == slice_index_or n.heard from 0)) (sym idle)

  pub busy-drops : is_some n.working ≡ true → n ≡ delivered from life ssn x n
  busy-drops busy = ap (λ b. after-heard b (life == slice_index_or n.heard from 0)) (sym busy)

  module _ (h : ℕ) (idle : is_some n.working ≡ false) (heard : h ≡ heard_of from n) where
    pub stale-drops : life ≢ h → n ≡ delivered from life ssn x n
    stale-drops other = ap (λ z. after-heard false z) (sym (other-test life (heard_of from n) h heard other)) ∙ ap (λ b. after-heard b (life == slice_index_or n.heard from 0)) (sym idle)

    module _ (here : life ≡ h) (cv : ℕ) (covered : cv ≡ covered_of from n) where
      pub says-so : (new : TheNode) → ssn ≤ cv → new ≡ posts from (Saved cv) n → new ≡ delivered from life ssn x n
      says-so new low put =
          put ∙ ap (λ z. posts from (Saved z) n) covered ∙ ap after-covered (sym (le-test ssn (covered_of from n) cv covered low)) ∙ heard-so idle (same-test life (heard_of from n) h heard here)

      above-so : cv < ssn → after-known (nat_lt place known) ≡ delivered from life ssn x n
      above-so above = ap after-covered (sym (no-le-test ssn (covered_of from n) cv covered above)) ∙ heard-so idle (same-test life (heard_of from n) h heard here)

      module _ (many : ℕ) (row : many ≡ known) (above : cv < ssn) where
        pub is-known : ssn - cv - 1 < many → place < known
        is-known inside = omega (arith, inside, row, place-is ssn (covered_of from n) cv covered)

        pub tells-so : (new : TheNode) → ssn - cv - 1 < many → new ≡ tells from ssn n → new ≡ delivered from life ssn x n
        tells-so new inside told = let i : place < known = is-known inside in let t : nat_lt place known ≡ true = grind (arith, nat_tests) in told ∙ ap after-known (sym t) ∙ above-so above

        behind-so : many ≤ ssn - cv - 1 → after-place (place == known) (takes_more n) ≡ delivered from life ssn x n
        behind-so far =
            let l : known ≤ place = omega (arith, far, row, place-is ssn (covered_of from n) cv covered) in
            let t : nat_lt place known ≡ false = grind (arith, nat_tests) in
            ap after-known (sym t) ∙ above-so above

        next-so : many ≤ ssn - cv - 1 → ssn - cv - 1 ≡ many → (b : Bool) → takes_more n ≡ b → after-place true b ≡ delivered from life ssn x n
        next-so far next b e =
            let is : place ≡ known = sym (place-is ssn (covered_of from n) cv covered) ∙ next ∙ row in
            let t : (place == known) ≡ true = grind (arith, nat_tests) in
            ap (λ z. after-place true z) (sym e) ∙ ap (λ z. after-place z (takes_more n)) (sym t) ∙ behind-so far

        pub opens-so : many ≤ ssn - cv - 1 → ssn - cv - 1 ≡ many → takes_more n ≡ true → opened ≡ delivered from life ssn x n
        opens-so far next e = next-so far next true e

        pub full-so : many ≤ ssn - cv - 1 → ssn - cv - 1 ≡ many → takes_more n ≡ false → n ≡ delivered from life ssn x n
        full-so far next e = next-so far next false e

        pub far-so : many ≤ ssn - cv - 1 → ssn - cv - 1 ≢ many → n ≡ delivered from life ssn x n
        far-so far other =
            let is : place ≢ known = λ e. other (place-is ssn (covered_of from n) cv covered ∙ e ∙ sym row) in
            let t : (place == known) ≡ false = grind (arith, nat_tests) in
            ap (λ z. after-place z (takes_more n)) (sym t) ∙ behind-so far

-- a job is open
pub within-opened : (n : TheNode) (from ssn cv many : ℕ) (x : List ℕ) → Within n → n.frozen ≡ false → IsPeer n.me n.count from → cv ≡ covered_of from n → many ≡ length (numbers_of from n.receipts) → cv < ssn → ssn - cv - 1 ≡ many → takes_more n ≡ true
    → Within (record n { working = Some (record { sender = from; ssn = ssn; payload = x }) })
within-opened n from ssn cv many x w live peer covered row above next more =
    let a = both (nat_lt n.waiting n.limits.numbers && nat_lt (length n.receipts.senders) n.limits.receipts) (nat_lt (n.base + length n.receipts.senders) MOST_RECEIVED) more in
    let b = both (nat_lt n.waiting n.limits.numbers) (nat_lt (length n.receipts.senders) n.limits.receipts) a.0 in
    let fewer : length n.receipts.senders < n.limits.receipts = (let t = b.1 in grind (arith, nat_tests)) in
    let younger : n.base + length n.receipts.senders < MOST_RECEIVED = (let t = a.1 in grind (arith, nat_tests)) in
    within-with w w.heard_wide w.resumed_wide w.logs_wide (λ e. (omega (arith, fewer, w.allowed.receipts.1), younger)) peer
    (omega (arith, above), omega (arith, next, above, row, covered, w.counts from, w.young, numbers_from-bound from 0 n.receipts.senders))
    (λ e. absurd (let f : n.frozen ≡ true = e in let g : n.frozen ≡ false = live in cc)) w.short
