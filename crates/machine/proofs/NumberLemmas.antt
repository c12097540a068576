-- A number that isn't acknowledged is behind the run
use Rattle.std.proofs.Common.{◌≡◌, ℕ, zero, suc, ◌+◌, ◌<◌, ◌≤◌, List, [], ◌∷◌, Bool, true, false, refl, ap, ◌∙◌, arith}
use Rattle.std.specs.Prelude.{◌==◌, None, slice_index_or}
use Rattle.std.proofs.lemmas.Bool.Decides.{nat_tests}
use Rattle.rsn.specs.Receipts.{run_of}
use Rattle.world.specs.declared.message.Message.{Message}
use Rattle.world.specs.History.{count_of, rsn_from}
use Rattle.world.specs.World.{put}
use Rattle.machine.specs.Receipts.{InOrderFrom}

-- a number that isn't acknowledged ends the run before it
pub run_of-ends : (bs : List Bool) (j : ℕ) → slice_index_or bs j false ≡ false → run_of bs ≤ j
run_of-ends [] j e = omega arith
run_of-ends (true ∷ bs) zero e = absurd (cc)
run_of-ends (true ∷ bs) (suc j) e = omega (arith, run_of-ends bs j e)
run_of-ends (false ∷ bs) j e = omega arith

-- a history has no message of an SSN above the count of its sender's messages
pub rsn_from-none : (k : ℕ) (c : ℕ → ℕ) (s i : ℕ) (h : List Message) → InOrderFrom c h → c s + count_of s h < i → rsn_from k s i h ≡ None
rsn_from-none k c s i [] all above = refl
rsn_from-none k c s i (m ∷ h) all above = by_sender (λ d. rsn_from-none (suc k) d s i h) (m.sender == s) refl
  where
    by_sender : ((d : ℕ → ℕ) → InOrderFrom d h → d s + count_of s h < i → rsn_from (suc k) s i h ≡ None) → (b : Bool) → (m.sender == s) ≡ b → rsn_from k s i (m ∷ h) ≡ None
    by_sender onward true e =
        let same : m.sender ≡ s = grind (arith, nat_tests) in
        let counted : count_of s (m ∷ h) ≡ suc (count_of s h) = rw e (omega arith) in
        let place : m.ssn ≡ suc (c s) = all.0 ∙ ap (λ p. suc (c p)) same in
        let apart : (m.ssn == i) ≡ false = grind (arith, nat_tests, place, counted) in
        let now : put c m.sender (suc (c m.sender)) s ≡ suc (c s) = rw same (let here : (s == s) ≡ true = grind (arith, nat_tests) in rw here refl) in
        rw (e, apart) (onward (put c m.sender (suc (c m.sender))) all.1 (omega (arith, now, counted, above)))
    by_sender onward false e =
        let now : put c m.sender (suc (c m.sender)) s ≡ c s = let apart : (s == m.sender) ≡ false = grind (arith, nat_tests) in rw apart refl in
        let counted : count_of s (m ∷ h) ≡ count_of s h = rw e (omega arith) in
        rw e (onward (put c m.sender (suc (c m.sender))) all.1 (omega (arith, now, counted, above)))
