-- An acknowledgement that comes, by what a node makes of it
use Rattle.std.proofs.Common.{◌≡◌, ℕ, ◌+◌, ◌-◌, ◌≤◌, ◌<◌, length, Bool, true, false, refl, sym, ap, ◌∙◌, arith}
use Rattle.std.specs.Prelude.{slice_index_or, not, ◌&&◌, ◌==◌, nat_lt, nat_le, if◌then◌else◌}
use Rattle.std.proofs.lemmas.Bool.Decides.{nat_tests}
use Rattle.node.specs.Node.{TheNode, counted}
use Rattle.node.specs.Transmission.{released}
use Rattle.node.specs.Calls.{acknowledged_by}
use Rattle.node.proofs.Handed.{no-second}

pub behind-in : (b k l n : ℕ) → b < k → k ≤ b + l → l ≡ n → (1 ≤ k - b) × (k - b ≤ n)
behind-in b k l n above low e = (omega arith, omega arith)

module _ (life k : ℕ) (m n : TheNode) (same : m ≡ n) where
  abbrev A : Bool
  A = life == m.life

  abbrev B : Bool
  B = nat_lt m.base k

  abbrev C : Bool
  C = nat_le k (m.base + length m.receipts.senders)

  abbrev D : Bool
  D = not (slice_index_or m.receipts.acknowledged (k - m.base - 1) false)

  abbrev by-test : Bool → TheNode
  by-test b = if b then released (counted (k - m.base) m) else m

  passed : (A && B && C && D) ≡ false → n ≡ acknowledged_by life k n
  passed e = sym same ∙ ap by-test (sym e) ∙ ap (acknowledged_by life k) same

  pub told-before : (b : Bool) → b ≡ slice_index_or m.receipts.acknowledged (k - m.base - 1) false → b ≡ true → n ≡ acknowledged_by life k n
  told-before b e f = let t : slice_index_or m.receipts.acknowledged (k - m.base - 1) false ≡ true = sym e ∙ f in passed (no-second (A && B && C) D (rw t refl))

  pub counts-so : (l : ℕ) (b : Bool) (s new : TheNode) → life ≡ m.life → m.base < k → k ≤ m.base + l → l ≡ length m.receipts.senders → b ≡ slice_index_or m.receipts.acknowledged (k - m.base - 1) false → b ≡ false
      → s ≡ counted (k - m.base) n → new ≡ released s → new ≡ acknowledged_by life k n
  counts-so l b s new here above low h e off count release =
      let t : slice_index_or m.receipts.acknowledged (k - m.base - 1) false ≡ false = sym e ∙ off in
      let inside : k ≤ m.base + length m.receipts.senders = omega (arith, low, h) in
      let x : A ≡ true = grind (arith, nat_tests) in
      let y : B ≡ true = grind (arith, nat_tests) in
      let z : C ≡ true = grind (arith, nat_tests) in
      let all : (A && B && C && D) ≡ true = rw (x, y, z, t) refl in
      release ∙ ap released count ∙ ap (λ v. released (counted (k - m.base) v)) (sym same) ∙ ap by-test (sym all) ∙ ap (acknowledged_by life k) same
