-- The array between two runs of calls: a state is laid into it, and a new one is clear.
use Rattle.std.proofs.Common.{◌≡◌, ℕ, ◌+◌, ◌-◌, ◌≤◌, List, ◌++◌, length, ap, ◌∙◌, arith}
use Rattle.std.specs.Prelude.{slice_range, replicate}
use Rattle.std.proofs.lemmas.List.{drop_all, append-nil}
use Rattle.operations.specs.Bytes.{overwritten}
use Rattle.regtypes.specs.declared.frame.Region.TheVariants.{State}
use Rattle.interp.specs.Flat.{part, IsSpent}
use Rattle.interp.proofs.Parts.{zeros_in, write_behind, write_before, write_inside, length-range}

covered : (xs ys : List ℕ) → length xs ≡ length ys → overwritten xs 0 ys ≡ ys
covered xs ys same = ap (λ l. ys ++ l) (drop_all (0 + length ys) xs (omega (arith, same))) ∙ append-nil ys

-- where the state lies after it was laid in
pub laid_state : (m len : ℕ) (mem after state : List ℕ) → length mem ≡ 1792 → len ≤ 1024 → length state ≡ len → after ≡ overwritten mem 256 state → part m len State after ≡ state
laid_state m len mem after state w s l e =
    let k = length-range mem 256 (256 + len) (omega arith) in
    ap (part m len State) e ∙ write_inside mem 256 (256 + len) 0 state (omega arith) (omega arith) ∙ covered (part m len State mem) state (omega (arith, k, l))

-- all else is as it was
pub laid_spent : (m len low : ℕ) (mem after state : List ℕ) → length mem ≡ 1792 → len ≤ 1024 → low ≤ 256 + len + 512 → length state ≡ len → after ≡ overwritten mem 256 state → IsSpent m len low mem → IsSpent m len low after
laid_spent m len low mem after state w s b l e h = record {
  between = ap (λ x. slice_range x m 256) e ∙ write_behind mem m 256 256 state (omega arith) (omega arith) (omega arith) ∙ h.between;
  behind = ap (λ x. slice_range x (256 + len + 512) 1792) e ∙ write_before mem (256 + len + 512) 1792 256 state (omega arith) (omega arith) (omega arith) ∙ h.behind;
  below = ap (λ x. slice_range x (256 + len) low) e ∙ write_before mem (256 + len) low 256 state (omega arith) (omega arith) (omega arith) ∙ h.below;
}

-- zeros, in which no call was made
pub new_spent : (m len low : ℕ) → m ≤ 256 → len ≤ 1024 → 256 + len ≤ low → low ≤ 256 + len + 512 → IsSpent m len low (replicate 1792 0)
new_spent m len low short s f b =
    let rest : 1792 - (256 + len + 512) ≡ 1024 - len = omega arith in
    record {
      between = zeros_in 1792 m 256 short (omega arith);
      behind = zeros_in 1792 (256 + len + 512) 1792 (omega arith) (omega arith) ∙ ap (λ k. replicate k 0) rest;
      below = zeros_in 1792 (256 + len) low f (omega arith);
    }
