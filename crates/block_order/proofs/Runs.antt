-- Calls of code and of what is written of it.
use Rattle.std.proofs.Common.{◌≡◌, ℕ, zero, suc, ◌+◌, ◌≤◌, List, Option, Some, None, refl, sym, subst, arith}
use Rattle.decode.specs.declared.insn.Insn.{Insn}
use Rattle.decode.specs.Slots.{size_of}
use Rattle.spans.specs.Configuration.{Configuration}
use Rattle.spans.specs.Step.{Ends, Fault, Goes, Leaps, Outcome, step}
use Rattle.spans.specs.Typing.{Code, target}
use Rattle.spans.specs.Calls.{Last, Replies, Request, after, call_by, call_from, more, noted, replied, request}
use Rattle.block_order.specs.Order.{code_of}
use Rattle.block_order.specs.Placement.{place_at}
use Rattle.block_order.proofs.MovedRuns.{ends-by, moved-runs-kept}
use Rattle.block_order.specs.Laws.{AreRunsKept, EndsAs}
use Rattle.block_order.specs.declared.blocks.Blocks.TheVariants.{Kept, Moved, Loops, Unknown}

-- ---- the same code with more fuel

abbrev same : ℕ → ℕ
same k = k

more-same : (l m : Last) → EndsAs same l m → EndsAs same (more l) (more m)
more-same = ends-by same same more more (λ k j r x q p c d e. (omega (arith, e.0), e.1, e.2, e.3)) tt (λ m. tt)

after-same : (s : ℕ) (i : Insn) (c : Configuration) (q : List Request) (o : Outcome) (go further : ℕ → Configuration → Last)
    → ((t : ℕ) (d : Configuration) → EndsAs same (go t d) (further t d)) → EndsAs same (after go s i c q o) (after further s i c q o)
after-same s i c q (Goes d) go further h = more-same (go (s + size_of i) d) (further (s + size_of i) d) (h (s + size_of i) d)
after-same s i c q (Leaps d) go further h = more-same (go (target s i) d) (further (target s i) d) (h (target s i) d)
after-same s i c q Ends go further h = (omega arith, refl, refl, refl)
after-same s i c q Fault go further h = tt

by-same : (state : ℕ) (reply : Replies) (s : ℕ) (c : Configuration) (q : List Request) (i : Option Insn) (go further : ℕ → Configuration → List Request → Last)
    → ((t : ℕ) (d : Configuration) (p : List Request) → EndsAs same (go t d p) (further t d p))
    → EndsAs same (call_by state reply go s c q i) (call_by state reply further s c q i)
by-same state reply s c q None go further h = tt
by-same state reply s c q (Some i) go further h =
    after-same s i c (noted q (request state c i)) (step state (replied reply q (request state c i)) i c) _ _ (λ t d. h t d (noted q (request state c i)))

-- a call with more fuel ends as one with less does
ends-same : (state : ℕ) (code : Code) (reply : Replies) (n f s : ℕ) (c : Configuration) (q : List Request) → n ≤ f
    → EndsAs same (call_from state code reply n s c q) (call_from state code reply f s c q)
ends-same state code reply zero f s c q l = tt
ends-same state code reply (suc n) zero s c q l = absurd (omega (arith, l))
ends-same state code reply (suc n) (suc f) s c q l =
    let less : n ≤ f = omega (arith, l) in
    by-same state reply s c q (code s) (call_from state code reply n) (call_from state code reply f) (λ t d p. ends-same state code reply n f t d p less)

twice-same : (l m : Last) → EndsAs same l m → EndsAs (λ k. k + k) l m
twice-same = ends-by same (λ k. k + k) (λ l. l) (λ m. m) (λ k j r x q p c d e. (omega (arith, e.0), e.1, e.2, e.3)) tt (λ m. tt)

-- ---- what is written

-- calls of two codes end alike
abbrev Alike : List Insn → List Insn → ℕ → ℕ → Replies → Configuration → List Request → Type 0
Alike code written state n reply c q =
    EndsAs (λ k. k + k) (call_from state (code_of code) reply n 0 c q) (call_from state (code_of written) reply (n + n) 0 c q)
    × EndsAs (λ k. k) (call_from state (code_of written) reply n 0 c q) (call_from state (code_of code) reply n 0 c q)

alike : (code written : List Insn) (state n : ℕ) (reply : Replies) (c : Configuration) (q : List Request) → written ≡ code → Alike code written state n reply c q
alike code written state n reply c q is = subst (λ (w : List Insn). Alike code w state n reply c q) (sym is) (
  twice-same (call_from state (code_of code) reply n 0 c q) (call_from state (code_of code) reply (n + n) 0 c q)
      (ends-same state (code_of code) reply n (n + n) 0 c q (omega arith)),
  ends-same state (code_of code) reply n n 0 c q (omega arith),
)

pub runs-kept : AreRunsKept
runs-kept form code written state Kept n reply c q h = alike code written state n reply c q h.0
runs-kept form code written state Moved n reply c q (back, placed, is, moved) =
    subst (λ (w : List Insn). Alike code w state n reply c q) (sym is)
    (moved-runs-kept code placed.insns.items (place_at placed.places.items) state n reply c q moved.placed)
runs-kept form code written state (Loops from to) n reply c q h = alike code written state n reply c q h.0
runs-kept form code written state Unknown n reply c q h = alike code written state n reply c q h.0
