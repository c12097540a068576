-- The array of calls of form 3 before the first one.
use Rattle.std.proofs.Common.{◌≡◌, ℕ, zero, suc, ◌+◌, ◌<◌, ◌≤◌, List, [], refl, ◌∙◌, arith}
use Rattle.std.proofs.lemmas.Bool.Decides.{nat_tests}
use Rattle.spans.specs.Concrete.{entry_array}
use Rattle.spans.specs.Slices.{listed}
use Rattle.interp.specs.CallArray.{HoldsEntry, IsLeft}

entry_first : (n : ℕ) (f g : ℕ → ℕ) (a : ℕ) → a < 512 → entry_array n f g a ≡ f a
entry_first n f g a h = grind (arith, nat_tests)

entry_last : (n : ℕ) (f g : ℕ → ℕ) (a : ℕ) → 512 + n + 512 ≤ a → entry_array n f g a ≡ 0
entry_last n f g a h = grind (arith, nat_tests)

none_at : (a : ℕ) → listed [] a ≡ 0
none_at zero = refl
none_at (suc a) = refl

-- where no message was, zeros are left behind any
pub none_left : (n : ℕ) (state mem : List ℕ) → HoldsEntry n [] state mem → IsLeft 64 n mem
none_left n state mem h = record {
  between = λ a m l. h a ∙ entry_first n (listed []) (listed state) a l ∙ none_at a;
  behind = λ a g. h a ∙ entry_last n (listed []) (listed state) a g;
}
