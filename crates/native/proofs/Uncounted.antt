-- Steps that aren't counted yet, slot by slot.
use Rattle.std.proofs.Common.{◌≡◌, ℕ, zero, suc, ◌+◌, ◌-◌, ◌<◌, ◌≤◌, Bool, true, false, cond, List, [], ◌∷◌, ◌++◌, length, Some, refl, sym, ap, ◌∙◌, subst, ⊎_elim, arith, length-append}
use Rattle.std.specs.Prelude.{◌||◌, slice_get, slice_index, replicate}
use Rattle.std.proofs.lemmas.Option.{slice_get-get_or}
use Rattle.std.proofs.lemmas.Bool.{cases_lt}
use Rattle.std.proofs.lemmas.List.{replicate_more}
use Rattle.native.specs.declared.task.SlotTask.{SlotTask}
use Rattle.native.specs.declared.task.SlotTask.TheVariants as task
use Rattle.native.specs.SlotTasks.{task_at}
use Rattle.native.specs.Pending.{far, lowered_behind, is_more_behind, passed, is_passed, settled, pending_in, IsBalanced}

-- what is known of the list, and of it as it is made
pub record AreFew (pending : List ℕ) : Type 0 where
  pub begins : slice_index pending 0 ≡ 0
  pub small : (k : ℕ) → slice_index pending k ≤ 0x40000000

pub record AreSome (pending : List ℕ) : Type 0 where
  pub some : 0 < length pending
  pub few : AreFew pending

append_few : (xs : List ℕ) (v m : ℕ) → v ≤ m → ((k : ℕ) → slice_index xs k ≤ m) → (k : ℕ) → slice_index (xs ++ v ∷ []) k ≤ m
append_few [] v m l h zero = l
append_few [] v m l h (suc k) = omega arith
append_few (x ∷ xs) v m l h zero = h zero
append_few (x ∷ xs) v m l h (suc k) = append_few xs v m l (λ j. h (suc j)) k

first_stays : (xs ys : List ℕ) → 0 < length xs → slice_index (xs ++ ys) 0 ≡ slice_index xs 0
first_stays [] ys l = absurd (omega arith)
first_stays (x ∷ xs) ys l = refl

pub some_more : (xs ys : List ℕ) → ys ≡ xs ++ 0x40000000 ∷ [] → AreSome xs → AreSome ys
some_more xs ys e a = subst AreSome (sym e) (record {
  some = let n = length-append xs (0x40000000 ∷ []) in omega arith;
  few = record {
    begins = first_stays xs (0x40000000 ∷ []) a.some ∙ a.few.begins;
    small = append_few xs 0x40000000 0x40000000 (omega arith) a.few.small;
  };
})

pub few_less : (xs ys : List ℕ) → ((k : ℕ) → slice_index ys k ≤ slice_index xs k) → AreFew xs → AreFew ys
few_less xs ys h a = record {
  begins = let l = h 0 in let m = a.begins in omega arith;
  small = λ k. let l = h k in let m = a.small k in omega arith;
}

-- the list as it is made
pub record Filled (pending : List ℕ) (count : ℕ) : Type 0 where
  pub some : AreSome pending
  pub is : pending ≡ 0 ∷ replicate count far

pub filled_more : (xs ys : List ℕ) (count : ℕ) → ys ≡ xs ++ 0x40000000 ∷ [] → Filled xs count → Filled ys (count + 1)
filled_more xs ys count e f = record {
  some = some_more xs ys e f.some;
  is = e ∙ ap (λ zs. zs ++ 0x40000000 ∷ []) f.is ∙ ap (λ zs. 0 ∷ zs) (replicate_more count far);
}

-- the list as it is settled, after so many passes
pub record Settling (tasks : List SlotTask) (pending : List ℕ) (count : ℕ) : Type 0 where
  pub few : AreFew pending
  pub is : settled tasks (16 - count) pending ≡ pending_in tasks

module _ (tasks : List SlotTask) (xs ys : List ℕ) (count : ℕ) (l : count < 16) (e : ys ≡ passed tasks xs (length tasks)) (s : Settling tasks xs count) where
  -- one pass more
  step : (b : Bool) → is_passed tasks xs (length tasks) ≡ b → cond b (settled tasks (16 - (count + 1)) ys) ys ≡ pending_in tasks
  step b t =
      let n : 16 - count ≡ suc (16 - (count + 1)) = omega arith in
      let u : settled tasks (suc (16 - (count + 1))) xs ≡ pending_in tasks = ap (λ k. settled tasks k xs) (sym n) ∙ s.is in
      ap (λ zs. cond b (settled tasks (16 - (count + 1)) zs) zs) e
      ∙ ap (λ v. cond v (settled tasks (16 - (count + 1)) (passed tasks xs (length tasks))) (passed tasks xs (length tasks))) (sym t)
      ∙ u

  pub settling_more : is_passed tasks xs (length tasks) ≡ true → ((k : ℕ) → slice_index ys k ≤ slice_index xs k) → Settling tasks ys (count + 1)
  settling_more t h = record { few = few_less xs ys h s.few; is = step true t }

  pub settling_end : is_passed tasks xs (length tasks) ≡ false → ys ≡ pending_in tasks
  settling_end t = step false t

-- as far as a pass has come
pub record Passed (tasks : List SlotTask) (old pending : List ℕ) (changed : Bool) (slot : ℕ) : Type 0 where
  pub list : pending ≡ passed tasks old slot
  pub more : changed ≡ is_passed tasks old slot
  pub same : changed ≡ false → pending ≡ old
  pub balanced : changed ≡ false → (k : ℕ) (t : SlotTask) → k < slot → slice_get tasks k ≡ Some t → IsBalanced old k t
  pub falls : (k : ℕ) → slice_index pending k ≤ slice_index old k

-- one more slot is passed
pub passed_more : (tasks : List SlotTask) (old pending pending' : List ℕ) (changed less : Bool) (slot : ℕ) (u : SlotTask) → slot < length tasks → u ≡ task_at tasks slot → pending' ≡ lowered_behind pending slot u → less ≡ is_more_behind pending slot u → (less ≡ false → pending' ≡ pending) → (less ≡ false → IsBalanced pending slot u) → ((k : ℕ) → slice_index pending' k ≤ slice_index pending k) → Passed tasks old pending changed slot → Passed tasks old pending' (changed || less) (slot + 1)
passed_more tasks old pending pending' changed less slot u lt is list more same balanced falls p = record {
  list = list ∙ ap (λ xs. lowered_behind xs slot u) p.list ∙ ap (lowered_behind (passed tasks old slot) slot) is ∙ ap (passed tasks old) next;
  more = ap (λ b. b || less) p.more ∙ ap (λ b. is_passed tasks old slot || b) (more ∙ ap (λ xs. is_more_behind xs slot u) p.list ∙ ap (is_more_behind (passed tasks old slot) slot) is) ∙ ap (is_passed tasks old) next;
  same = λ f. let b = neither changed less f in same b.1 ∙ p.same b.0;
  balanced = λ f k t l found.
      let b = neither changed less f in
      ⊎_elim
      (λ (below : k < slot). p.balanced b.0 k t below found)
      (λ (ge : slot ≤ k).
      let e : k ≡ slot = omega arith in
      let found' : slice_get tasks slot ≡ Some t = subst (λ j. slice_get tasks j ≡ Some t) e found in
      let here : slice_get tasks slot ≡ Some (task_at tasks slot) = slice_get-get_or tasks slot task.Dead lt in
      let q : t ≡ u = let x : Some t ≡ Some (task_at tasks slot) = sym found' ∙ here in let y : t ≡ task_at tasks slot = cc in y ∙ sym is in
      subst (λ v. IsBalanced old k v) (sym q) (subst (λ j. IsBalanced old j u) (sym e) (subst (λ xs. IsBalanced xs slot u) (p.same b.0) (balanced b.1))))
      (cases_lt k slot);
  falls = λ k. let x = falls k in let y = p.falls k in omega arith;
}
  where
    next : suc slot ≡ slot + 1
    next = omega arith

    neither : (a b : Bool) → (a || b) ≡ false → (a ≡ false) × (b ≡ false)
    neither false b f = (refl, f)
    neither true b f = cc
