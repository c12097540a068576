-- A text with a fault is no scenario, and has one fault.
use Rattle.std.proofs.Common.{◌≡◌, ◌≢◌, ◌<◌, ◌+◌, ◌⊎◌, inl, inr, ℕ, zero, suc, Bool, true, false, List, [], ◌∷◌, ◌++◌, length, map, cond, refl, sym, ap, ap₂, subst, ◌∙◌, arith, append_assoc}
use Rattle.std.specs.Prelude.{String}
use Rattle.std.specs.declared.alloc.Global.{Global}
use Rattle.std.specs.String.{string_bytes}
use Rattle.std.specs.List.{AllByRecursion}
use Rattle.std.proofs.lemmas.Bool.{cases_order}
use Rattle.std.proofs.lemmas.List.{length-map}
use Rattle.scenario.specs.declared.order.Allowed.{Allowed}
use Rattle.scenario.specs.declared.process.NamedProcess.{NamedProcess}
use Rattle.scenario.specs.declared.scenario.Step.{Step}
use Rattle.scenario.specs.Order.{IsInRange, order_text, takes}
use Rattle.scenario.specs.Process.{AreDifferent, IsDeclared, IsFresh, names_in}
use Rattle.scenario.specs.Scenario.{AreLines, IsFault, IsFaulty, has_begun, is_silent, lines_of, process_row, rows, step_row}
use Rattle.scenario.specs.Laws.{NoFault, OneFault, shown_process}
use Rattle.scenario.proofs.Lines.{rows_append}
use Rattle.scenario.proofs.OneScenario.{AreOrders, are_orders, head_is, lines_one, no_declaration, same_declaration, tail_is}

-- the row is that of a process that may come after these processes
record IsProcessRow (es fs : List (String Global × NamedProcess)) (xs : List Step) (r : ℕ × List ℕ) : Type 0 where
  pub entry : String Global × NamedProcess
  pub none : xs ≡ []
  pub is : r ≡ process_row entry
  pub declared : IsDeclared entry
  pub room : length es < length fs
  pub fresh : IsFresh (string_bytes entry.0) (names_in es)
  pub among : (t : List ℕ) → AllByRecursion (λ x. x ≢ t) (names_in fs) → string_bytes entry.0 ≢ t

-- the row is that of an order that may come after these processes
record IsStepRow (allowed : Allowed) (names : List (List ℕ)) (n : ℕ) (es fs : List (String Global × NamedProcess)) (r : ℕ × List ℕ) : Type 0 where
  pub step : Step
  pub is : r ≡ step_row names step
  pub ranged : IsInRange n step.order
  pub taken : takes allowed step.order ≡ true
  pub same : names_in fs ≡ names_in es

module _ (allowed : Allowed) (names : List (List ℕ)) (n : ℕ) where
  AreRanged : List Step → Type 0
  AreRanged ys = AllByRecursion (λ (x : Step). IsInRange n x.order) ys

  AreTaken : List Step → Type 0
  AreTaken ys = AllByRecursion (λ (x : Step). takes allowed x.order ≡ true) ys

  -- a row among those of steps
  step_behind : (ys : List Step) (front rest : List (ℕ × List ℕ)) (r : ℕ × List ℕ) → AreRanged ys → AreTaken ys → map (step_row names) ys ≡ front ++ r ∷ rest
      → IsStepRow allowed names n [] [] r
  unfolding AreRanged AreTaken
  step_behind [] [] rest r ranged taken e = absurd cc
  step_behind [] (q ∷ front) rest r ranged taken e = absurd cc
  step_behind (y ∷ ys) [] rest r ranged taken e = record { step = y; is = sym (head_is _ _ _ _ e); ranged = ranged.0; taken = taken.0; same = refl }
  step_behind (y ∷ ys) (q ∷ front) rest r ranged taken e = step_behind ys front rest r ranged.1 taken.1 (tail_is _ _ _ _ e)

  -- what comes after rows of processes and steps, among valid rows
  row_behind : (es fs : List (String Global × NamedProcess)) (own : List (List ℕ)) (xs ys : List Step) (rest : List (ℕ × List ℕ)) (r : ℕ × List ℕ) → AllByRecursion IsDeclared es
      → AllByRecursion IsDeclared fs → AreDifferent (names_in fs) → AreRanged ys → AreTaken ys
      → map process_row fs ++ map (step_row names) ys ≡ map process_row es ++ (map (step_row own) xs ++ r ∷ rest)
      → IsProcessRow es fs xs r ⊎ IsStepRow allowed names n es fs r
  row_behind [] [] own xs ys rest r de df different ranged taken e = inr (step_behind ys (map (step_row own) xs) rest r ranged taken e)
  row_behind (x ∷ es) [] own xs ys rest r de df different ranged taken e =
      let all : AreOrders (process_row x ∷ (map process_row es ++ (map (step_row own) xs ++ r ∷ rest))) = subst (λ (l : List (ℕ × List ℕ)). AreOrders l) e (are_orders names ys) in
      absurd (all.0 (string_bytes x.0) (string_bytes x.1.path) refl)
  row_behind [] (f ∷ fs) own [] ys rest r de df different ranged taken e =
      inl (record {
        entry = f;
        none = refl;
        is = sym (head_is _ _ _ _ e);
        declared = df.0;
        room = omega arith;
        fresh = tt;
        among = λ t all. all.0;
      })
  row_behind [] (f ∷ fs) own (x ∷ xs) ys rest r de df different ranged taken e =
      absurd (no_declaration own x.order (string_bytes f.0) (string_bytes f.1.path) (sym (ap (λ (l : ℕ × List ℕ). l.1) (head_is _ _ _ _ e))))
  row_behind (x ∷ es) (f ∷ fs) own xs ys rest r de df different ranged taken e =
      let first = head_is _ _ _ _ e in
      let name : string_bytes f.0 ≡ string_bytes x.0 = (same_declaration _ _ _ _ df.0.0 de.0.0 (ap (λ (l : ℕ × List ℕ). l.1) first)).0 in
      elim (row_behind es fs own xs ys rest r de.1 df.1 different.1 ranged taken (tail_is _ _ _ _ e)) [
        | inl p ↦ inl (record {
          entry = p.entry;
          none = p.none;
          is = p.is;
          declared = p.declared;
          room = omega (arith, p.room);
          fresh = ((λ same. p.among (string_bytes f.0) different.0 (sym (name ∙ same))), p.fresh);
          among = λ t all. p.among t all.1;
        })
        | inr s ↦ inr (record { step = s.step; is = s.is; ranged = s.ranged; taken = s.taken; same = ap₂ (λ a l. a ∷ l) name s.same })
      ]

spoken : (b : Bool) (r : ℕ × List ℕ) (l : List (ℕ × List ℕ)) → b ≡ false → cond b l (r ∷ l) ≡ r ∷ l
spoken false r l e = refl
spoken true r l e = absurd cc

has_first : (xs : List Step) → xs ≡ [] → has_begun xs ≡ false
has_first xs is = ap has_begun is

-- lines that are fine have no faulty one among them
pub fault_free : (allowed : Allowed) (lines before after : List (List ℕ)) (line : List ℕ) (es fs : List (String Global × NamedProcess)) (xs ys : List Step) → AreLines allowed lines fs ys
    → lines ≡ before ++ line ∷ after → AreLines allowed before es xs → IsFaulty allowed es xs line → ⊥
unfolding AreRanged AreTaken
fault_free allowed lines before after line es fs xs ys fine whole begin faulty =
    let rest = rows (1 + length before + 1) after in
    let at : rows 1 lines ≡ rows 1 before ++ (1 + length before, line) ∷ rest =
    ap (rows 1) whole ∙ rows_append 1 before (line ∷ after) ∙ ap (λ l. rows 1 before ++ l) (spoken (is_silent line) (1 + length before, line) rest faulty.speaks) in
    let parts : map process_row fs ++ map (step_row (names_in fs)) ys ≡ map process_row es ++ (map (step_row (names_in es)) xs ++ (1 + length before, line) ∷ rest) =
    sym fine.written ∙ at ∙ ap (λ l. l ++ (1 + length before, line) ∷ rest) begin.written
    ∙ append_assoc (map process_row es) (map (step_row (names_in es)) xs) ((1 + length before, line) ∷ rest) in
    elim (row_behind allowed (names_in fs) (length (names_in fs)) es fs (names_in es) xs ys rest (1 + length before, line) begin.declared fine.declared fine.different fine.ranged fine.taken parts) [
      | inl p ↦ faulty.no_process (string_bytes p.entry.0) (string_bytes p.entry.1.path) (record {
        first = has_first xs p.none;
        room = omega (arith, length-map es (λ (e : String Global × NamedProcess). string_bytes e.0), p.room, fine.few);
        named = p.declared.0;
        pathed = p.declared.1;
        fresh = p.fresh;
      }) (ap (λ (r : ℕ × List ℕ). r.1) p.is)
      | inr s ↦ faulty.no_order s.step.order (subst (λ (l : List (List ℕ)). IsInRange (length l) s.step.order) s.same s.ranged) s.taken
          (ap (λ (r : ℕ × List ℕ). r.1) s.is ∙ ap (λ (l : List (List ℕ)). order_text l s.step.order) s.same)
    ]

-- ---- two faults

-- of two beginnings of one list the longer has the shorter, and more
longer : (a b : List (List ℕ)) (x y : List ℕ) (xs ys : List (List ℕ)) → a ++ x ∷ xs ≡ b ++ y ∷ ys → length a < length b → (more : List (List ℕ)) × (b ≡ a ++ x ∷ more)
longer a [] x y xs ys e lt = absurd (omega (arith, lt))
longer [] (z ∷ b) x y xs ys e lt = (b, ap (λ h. h ∷ b) (sym (head_is _ _ _ _ e)))
longer (w ∷ a) (z ∷ b) x y xs ys e lt =
    let rest = longer a b x y xs ys (tail_is _ _ _ _ e) (omega (arith, lt)) in
    (rest.0, ap₂ (λ h l. h ∷ l) (sym (head_is _ _ _ _ e)) rest.1)

later_fault : (allowed : Allowed) (text : List ℕ) (m n : ℕ) → IsFault allowed text m → IsFault allowed text n → m < n → ⊥
later_fault allowed text m n f g lt =
    let more = longer f.before g.before f.line g.line f.after g.after (sym f.whole ∙ g.whole) (omega (arith, f.number_is, g.number_is, lt)) in
    fault_free allowed g.before f.before more.0 f.line f.entries g.entries f.steps g.steps g.fine more.1 f.fine f.faulty

fault_in : (allowed : Allowed) (text : List ℕ) (n : ℕ) (es : List (String Global × NamedProcess)) (xs : List Step) → AreLines allowed (lines_of text) es xs → IsFault allowed text n → ⊥
fault_in allowed text n es xs fine f = fault_free allowed (lines_of text) f.before f.after f.line f.entries es f.steps xs fine f.whole f.fine f.faulty

pub one_fault : OneFault
one_fault allowed text zero zero f g = refl
one_fault allowed text zero (suc n) f g = absurd (fault_in allowed text (suc n) [] f.steps f.lines g)
one_fault allowed text (suc m) zero f g = absurd (fault_in allowed text (suc m) [] g.steps g.lines f)
one_fault allowed text (suc m) (suc n) f g =
    elim (cases_order (suc m) (suc n)) [
      | inl same ↦ same
      | inr other ↦ elim other [
        | inl before ↦ absurd (later_fault allowed text (suc m) (suc n) f g before)
        | inr behind ↦ absurd (later_fault allowed text (suc n) (suc m) g f behind)
      ]
    ]

none_shown : (es : List (String Global × NamedProcess)) → map shown_process es ≡ [] → es ≡ []
none_shown [] e = refl
none_shown (x ∷ es) e = absurd cc

pub no_fault : NoFault
no_fault allowed text s zero h f = h.some (none_shown s.processes.entries (lines_one allowed (lines_of text) s.processes.entries [] s.steps.items f.steps h.lines f.lines).0)
no_fault allowed text s (suc n) h f = fault_in allowed text (suc n) s.processes.entries s.steps.items h.lines f
