-- A packet that is handed to a node, by what it is
use Rattle.std.proofs.Common.{◌≡◌, ◌≢◌, ℕ, ◌<◌, ◌^◌, List, Bool, true, false, refl, sym, ap, ◌∙◌, arith}
use Rattle.std.specs.Prelude.{not, ◌&&◌, ◌==◌, nat_lt, nat_le}
use Rattle.std.proofs.lemmas.Bool.Decides.{nat_tests}
use Rattle.theorems.proofs.Tests.{both}
use Rattle.packets.specs.declared.packet.NodePacket.{NodePacket}
use Rattle.packets.specs.declared.packet.Body.{Body}
use Rattle.packets.specs.declared.packet.Body.TheVariants.{Delivery, Number, Acknowledgement, Ask, Resume, Saved}
use Rattle.packets.specs.Packet.{in_range, is_positive, is_number}
use Rattle.node.specs.Node.{TheNode, IsPeer, IsPositive}
use Rattle.node.specs.Calls.{told, is_for, handed}

-- ---- which are dropped, and what the others do

pub drops : (x : NodePacket) (n : TheNode) → is_for n x ≡ false → n ≡ handed x n
drops x n e = rw e refl

pub takes : (x : NodePacket) (n : TheNode) {b : Body} → is_for n x ≡ true → x.body ≡ b → handed x n ≡ told x.from b n
takes x n e is = rw e (ap (λ b. told x.from b n) is)

pub no-second : (a b : Bool) → b ≡ false → (a && b) ≡ false
no-second true b e = e
no-second false b e = refl

not-set : (b : Bool) → not b ≡ true → b ≡ false
not-set true e = absurd cc
not-set false e = refl

-- a packet that it takes is of a peer, with its fields in their ranges, and it waits for nothing
module _ (x : NodePacket) (n : TheNode) (e : is_for n x ≡ true) where
  abbrev A : Bool
  A = not n.frozen

  abbrev B : Bool
  B = x.count == n.count

  abbrev C : Bool
  C = x.to == n.me

  abbrev D : Bool
  D = nat_le x.from n.count

  abbrev E : Bool
  E = not (x.from == n.me)

  abbrev F : Bool
  F = in_range x.body

  others : (A && B && C && D && E) ≡ true
  others = (both (A && B && C && D && E) F e).0

  near : (A && B && C && D) ≡ true
  near = (both (A && B && C && D) E others).0

  pub is-ranged : in_range x.body ≡ true
  is-ranged = (both (A && B && C && D && E) F e).1

  pub is-peer : IsPeer n.me n.count x.from
  is-peer =
      let low : D ≡ true = (both (A && B && C) D near).1 in
      let apart : (x.from == n.me) ≡ false = not-set (x.from == n.me) (both (A && B && C && D) E others).1 in
      (grind (arith, nat_tests), grind (arith, nat_tests))

  pub is-live : n.frozen ≡ false
  is-live = not-set n.frozen (both A B (both (A && B) C (both (A && B && C) D near).0).0).0

-- what isn't named changes nothing
pub nothing-told : (from : ℕ) (b : Body) (n : TheNode) → ((i s : ℕ) (p : List ℕ) → b ≢ Delivery i s p) → ((i s k : ℕ) → b ≢ Number i s k) → ((i k : ℕ) → b ≢ Acknowledgement i k) → ((i k : ℕ) → b ≢ Ask i k) → ((i k s : ℕ) → b ≢ Resume i k s) → ((k : ℕ) → b ≢ Saved k) → told from b n ≡ n
nothing-told from (Delivery i s p) n d u a q r v = absurd (d i s p refl)
nothing-told from (Number i s k) n d u a q r v = absurd (u i s k refl)
nothing-told from (Acknowledgement i k) n d u a q r v = absurd (a i k refl)
nothing-told from (Ask i k) n d u a q r v = absurd (q i k refl)
nothing-told from (Resume i k s) n d u a q r v = absurd (r i k s refl)
nothing-told from (Saved k) n d u a q r v = absurd (v k refl)
nothing-told from other n d u a q r v = refl

-- ---- what is in its range

positive : (n : ℕ) → is_positive n ≡ true → IsPositive n
positive n e = let t = both (nat_lt 0 n) (nat_lt n (2 ^ 63)) e in
    let a : 0 < n = (let u = t.0 in grind (arith, nat_tests)) in
    let b : n < 2 ^ 63 = (let u = t.1 in grind (arith, nat_tests)) in
    (a, b)

small : (n : ℕ) → is_number n ≡ true → n < 2 ^ 63
small n e = grind (arith, nat_tests)

pub number-range : (b : Body) (i s k : ℕ) → b ≡ Number i s k → in_range b ≡ true → IsPositive i × IsPositive k
number-range b i s k is e =
    let t = both (is_positive i && is_positive s) (is_positive k) (ap in_range (sym is) ∙ e) in
    (positive i (both (is_positive i) (is_positive s) t.0).0, positive k t.1)

pub ask-range : (b : Body) (i k : ℕ) → b ≡ Ask i k → in_range b ≡ true → IsPositive i × (k < 2 ^ 63)
ask-range b i k is e = let t = both (is_positive i) (is_number k) (ap in_range (sym is) ∙ e) in (positive i t.0, small k t.1)

pub resume-range : (b : Body) (i k s : ℕ) → b ≡ Resume i k s → in_range b ≡ true → IsPositive i × (s < 2 ^ 63)
resume-range b i k s is e =
    let t = both (is_positive i && is_number k) (is_number s) (ap in_range (sym is) ∙ e) in
    (positive i (both (is_positive i) (is_number k) t.0).0, small s t.1)
