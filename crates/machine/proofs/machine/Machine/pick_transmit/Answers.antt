use Rattle.std.proofs.Common.{rules, ◌≡◌, length, ◌<◌, ◌≤◌, ◌+◌, ℕ, Bool, true, false, arith, refl, sym, ap, ◌∙◌, subst, true≢false, slice_index_or}
use Rattle.std.specs.Prelude.{◌==◌, None, is_some}
use Rattle.std.proofs.lemmas.Bool.Decides.{nat_tests}
use Rattle.std.proofs.lemmas.Grind.{common_steps}
use Rattle.limits.specs.declared.TheConstants.{PACKETS}
use Rattle.machine.specs.Simulation.{TheMachine}
use Rattle.machine.specs.Choice.{ArePeers, NoneWanted}
use Rattle.machine.proofs.Picks.{pick-peers, pick-placed, useful-pick, none-is}
use Rattle.machine.proofs.machine.Machine.pick_transmit.Goals as goal

pub returns-then-is_some-clause-none : goal.returns-then-is_some-clause-none
returns-then-is_some-clause-none c =
    let m = c.args.self.now in
    let keys : (key : ℕ) → PACKETS ≤ key → slice_index_or m.slots key None ≡ None = rw (← c.self.view_is) c.self.invariant.keys in
    λ w s p d i k. true≢false (sym c.if-is_some.true ∙ c.is_some.ensures ∙ ap is_some (c.place_cause.ensures ∙ pick-placed m w s c.args.room p d i keys k))

pub returns-in-Some-clause-some : goal.returns-in-Some-clause-some
returns-in-Some-clause-some c =
    let m = c.args.self.now in
    let keys : (key : ℕ) → PACKETS ≤ key → slice_index_or m.slots key None ≡ None = rw (← c.self.view_is) c.self.invariant.keys in
    let free = sym c.place_cause.ensures ∙ none-is c.place_cause.result (sym c.is_some.ensures ∙ c.if-is_some.false) in
    λ w s. useful-pick m w s c.args.room c.loop-from.from c.in-Some.to c.in-Some.ssn c.in-Some.ensures.some.0 (c.in-Some.ensures.some.1 w s) keys free

more : (m : TheMachine) (n : ℕ) → ((d : ℕ) → ArePeers m n d → NoneWanted m n d) → ((p d : ℕ) → p < n → ArePeers m p d → NoneWanted m p d) → (p d : ℕ) → p < n + 1 → (b : Bool) → (n == p) ≡ b → ArePeers m p d → NoneWanted m p d
more m n here below p d h true e = let same : n ≡ p = grind (arith, nat_tests) in subst (λ q. (d : ℕ) → ArePeers m q d → NoneWanted m q d) same here d
more m n here below p d h false e = below p d (grind (arith, nat_tests))

pub loop-from-preserved : goal.loop-from-preserved
loop-from-preserved c =
    λ p d h. more c.args.self.now c.loop-from.from c.in_default.ensures.none c.loop-from.invariant p d h (c.loop-from.from == p) refl

pub returns-clause-none : goal.returns-clause-none
returns-clause-none c =
    let all : length c.args.self.now.processes < c.loop-from.from = first_of (search rules, grind (arith, common_steps)) in
    λ w s p d i k. (
    let peers = pick-peers c.args.self.now w s c.args.room p d i k in
    c.loop-from.invariant p d (omega (arith, peers.from_within, all)) peers w s i k.useful
    )
