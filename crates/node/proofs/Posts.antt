-- A node that only said something more
use Rattle.std.proofs.Common.{◌≡◌, ℕ, zero, suc, ◌+◌, ◌-◌, ◌<◌, ◌≤◌, length, refl, sym, ap, ◌∙◌, subst, arith}
use Rattle.rsn.specs.Receipts.{numbers_of}
use Rattle.node.specs.Node.{TheNode, IsPeer, covered_of}
use Rattle.node.specs.Transmission.{resends, resent, renumbers, renumbered}
use Rattle.node.proofs.Sendings.{OnlyPosts}

pub posts-peer : (a b : TheNode) (to : ℕ) → OnlyPosts a b → IsPeer a.me a.count to → IsPeer b.me b.count to
posts-peer a b to only p = subst (λ (z : TheNode). IsPeer z.me z.count to) (sym only) p

pub posts-covered : (a b : TheNode) (to k : ℕ) → OnlyPosts a b → k ≡ covered_of to a → k ≡ covered_of to b
posts-covered a b to k only e = e ∙ sym (ap (covered_of to) only)

pub posts-known : (a b : TheNode) (to place last : ℕ) → OnlyPosts a b → place < last → last ≡ length (numbers_of to a.receipts) → place < length (numbers_of to b.receipts)
posts-known a b to place last only l e = subst (λ (z : TheNode). place < length (numbers_of to z.receipts)) (sym only) (below place last (length (numbers_of to a.receipts)) l e)
  where
    below : (i j k : ℕ) → i < j → j ≡ k → i < k
    below i j k f g = omega arith

pub beyond-covered : (place res cov : ℕ) → res ≡ cov → cov < res + place + 1
beyond-covered place res cov e = omega arith

pub told-place : (res cov place many : ℕ) → res ≡ cov → place < many → res + place + 1 - cov - 1 < many
told-place res cov place many e l = omega arith

-- ---- the loops are over

none-told : (to place k : ℕ) (n : TheNode) → renumbers to place k 0 n ≡ n
none-told to place zero n = refl
none-told to place (suc k) n = refl

none-sent : (to place k : ℕ) (n : TheNode) → resends to place k 0 n ≡ n
none-sent to place zero n = refl
none-sent to place (suc k) n = refl

over : (last place : ℕ) → last ≤ place → 0 ≡ last - place
over last place l = omega arith

pub told-all : (to place last left : ℕ) (s n : TheNode) → last ≤ place → renumbers to place (last - place) left s ≡ renumbered to n → s ≡ renumbered to n
told-all to place last left s n l rest = ap (λ k. renumbers to place k left s) (over last place l) ∙ rest

pub told-most : (to place k left : ℕ) (s n : TheNode) → left ≡ 0 → renumbers to place k left s ≡ renumbered to n → s ≡ renumbered to n
told-most to place k left s n e rest = sym (none-told to place k s) ∙ ap (λ l. renumbers to place k l s) (sym e) ∙ rest

pub sent-all : (to place last left : ℕ) (s n : TheNode) → last ≤ place → resends to place (last - place) left s ≡ resent to n → s ≡ resent to n
sent-all to place last left s n l rest = ap (λ k. resends to place k left s) (over last place l) ∙ rest

pub sent-most : (to place k left : ℕ) (s n : TheNode) → left ≡ 0 → resends to place k left s ≡ resent to n → s ≡ resent to n
sent-most to place k left s n e rest = sym (none-sent to place k s) ∙ ap (λ l. resends to place k l s) (sym e) ∙ rest
