-- Lines of processes and of outputs, one more at a time.
use Rattle.std.proofs.Common.{◌≡◌, ◌∙◌, ℕ, ◌+◌, ◌<◌, List, [], ◌∷◌, ◌++◌, length, take, get_or, refl, sym, ap, arith, append_assoc, append-nil}
use Rattle.std.specs.Prelude.{Bool, true, false, if◌then◌else◌}
use Rattle.std.proofs.lemmas.List.{take_more, length-take-le}
use Rattle.results.specs.Results.{numbered}

-- what a process shows, by cases
pub state_by_cases : (down : Bool) (shown live : List ℕ) → (down ≡ false → shown ≡ live) → (down ≡ true → shown ≡ []) → shown ≡ (if down then [] else live)
state_by_cases true shown live when none = none refl
state_by_cases false shown live when none = when refl

numbered_push : (line : ℕ → List ℕ → List ℕ) (p : ℕ) (names : List (List ℕ)) (name : List ℕ)
    → numbered line p (names ++ name ∷ []) ≡ numbered line p names ++ line (p + length names) name
numbered_push line p [] name =
    let at : p ≡ p + 0 = omega arith in
    append-nil (line p name) ∙ ap (λ k. line k name) at
numbered_push line p (x ∷ xs) name =
    let at : p + 1 + length xs ≡ p + length (x ∷ xs) = omega arith in
    ap (λ t. line p x ++ t) (numbered_push line (p + 1) xs name ∙ ap (λ k. numbered line (p + 1) xs ++ line k name) at)
    ∙ sym (append_assoc (line p x) (numbered line (p + 1) xs) (line (p + length (x ∷ xs)) name))

-- after the process at i, one line more stands behind what was there before all of them
pub process_more : (line : ℕ → List ℕ → List ℕ) (names : List (List ℕ)) (i : ℕ) (first old new : List ℕ) → i < length names → old ≡ first ++ numbered line 1 (take i names)
    → new ≡ old ++ line (i + 1) (get_or names i []) → new ≡ first ++ numbered line 1 (take (i + 1) names)
process_more line names i first old new lt before written =
    let at : 1 + length (take i names) ≡ i + 1 = ap (λ n. 1 + n) (length-take-le i names (omega (arith, lt))) ∙ omega arith in
    written ∙ ap (λ t. t ++ line (i + 1) (get_or names i [])) before
    ∙ append_assoc first (numbered line 1 (take i names)) (line (i + 1) (get_or names i []))
    ∙ ap (λ k. first ++ (numbered line 1 (take i names) ++ line k (get_or names i []))) (sym at)
    ∙ ap (λ t. first ++ t) (sym (numbered_push line 1 (take i names) (get_or names i [])))
    ∙ ap (λ ns. first ++ numbered line 1 ns) (sym (take_more names i [] lt))
