-- A plan stops, at the latest before a number under which there is nothing
use Rattle.std.proofs.Common.{◌≡◌, ℕ, zero, suc, ◌+◌, ◌-◌, ◌≤◌, List, [], ◌∷◌, ◌++◌, length, refl, sym, ap, ◌∙◌, subst, arith, length-append}
use Rattle.std.specs.Prelude.{Option, Some, None}
use Rattle.world.specs.declared.message.Message.{Message}
use Rattle.world.specs.Plan.{if_next, pushed}
use Rattle.theorems.proofs.ListLemmas.{none-some}
use Rattle.theorems.proofs.PlanLemmas.{if_next-some}
use Rattle.cluster.specs.Rules.{plan}

module _ (f : ℕ → Option Message) (had : List Message) (n : ℕ) (is : length had ≡ n) where
  -- behind the first k there is no next one
  abbrev pub Stops : ℕ → Type 0
  Stops k = (n ≤ k) × (length (plan f had (k - n)) ≡ k) × (if_next (plan f had (k - n)) (f (suc k)) ≡ None)

  -- here, or further on
  here-or : (j : ℕ) → length (plan f had j) ≡ n + j → ((x : Message) → if_next (plan f had j) (f (suc (n + j))) ≡ Some x → length (plan f had (suc j)) ≡ n + suc j → (k : ℕ) × Stops k) → (k : ℕ) × Stops k
  here-or j long more = split (if_next (plan f had j) (f (suc (n + j)))) refl
    where
      split : (t : Option Message) → if_next (plan f had j) (f (suc (n + j))) ≡ t → (k : ℕ) × Stops k
      split None e =
          let minus : (n + j) - n ≡ j = omega arith in
          let P : ℕ → Type 0 = λ i. length (plan f had i) ≡ n + j in
          let Q : ℕ → Type 0 = λ i. if_next (plan f had i) (f (suc (n + j))) ≡ None in
          (n + j, ((omega arith), subst P (sym minus) long, subst Q (sym minus) e))
      split (Some x) e =
          let P : ℕ → Type 0 = λ i. if_next (plan f had j) (f (suc i)) ≡ Some x in
          let next : if_next (plan f had j) (f (suc (length (plan f had j)))) ≡ Some x = subst P (sym long) e in
          let longer : length (plan f had j ++ x ∷ []) ≡ length (plan f had j) + 1 = length-append _ _ in
          more x e (ap (λ t. length (pushed (plan f had j) t)) next ∙ (omega arith))

  find : (b i j : ℕ) → f (suc b) ≡ None → n + j + i ≡ b → length (plan f had j) ≡ n + j → (k : ℕ) × Stops k
  find b zero j none e long = here-or j long (λ x t _.
      let same : b ≡ n + j = omega arith in
      let P : ℕ → Type 0 = λ i. f (suc i) ≡ None in
      absurd (none-some x (f (suc (n + j))) (subst P same none) (if_next-some _ _ x t)))
  find b (suc i) j none e long = here-or j long (λ x t more. find b i (suc j) none (omega arith) more)

  pub stops : (b : ℕ) → n ≤ b → f (suc b) ≡ None → (k : ℕ) × Stops k
  stops b l none = find b (b - n) 0 none (omega arith) (omega arith)
