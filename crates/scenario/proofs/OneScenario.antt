-- A text is one scenario, or has one fault.
use Rattle.std.proofs.Common.{◌≡◌, ◌≢◌, ℕ, List, [], ◌∷◌, ◌++◌, length, map, refl, sym, ap, ap₂, subst, ◌∙◌}
use Rattle.std.specs.Prelude.{codes, String}
use Rattle.std.specs.declared.alloc.Global.{Global}
use Rattle.std.specs.String.{string_bytes}
use Rattle.std.specs.List.{AllByRecursion}
use Rattle.scenario.specs.declared.order.Allowed.{Allowed}
use Rattle.scenario.specs.declared.order.Order.{Order}
use Rattle.scenario.specs.declared.process.NamedProcess.{NamedProcess}
use Rattle.scenario.specs.declared.scenario.Step.{Step}
use Rattle.scenario.specs.Order.{IsInRange, IsName, order_text, verb_of}
use Rattle.scenario.specs.Process.{AreDifferent, IsDeclared, declaration_text, names_in}
use Rattle.scenario.specs.Scenario.{AreLines, lines_of, process_row, step_row}
use Rattle.scenario.specs.Laws.{OneScenario, shown_process}
use Rattle.scenario.proofs.Cuts.{one_cut}
use Rattle.scenario.proofs.Lines.{named_of, process_lacks}
use Rattle.scenario.proofs.Names.{bytes_lack}
use Rattle.scenario.proofs.Orders.{other_verb, verb_lacks}
use Rattle.scenario.proofs.Spellings.{one_order}

-- ---- rows

-- no row is that of a process
abbrev pub AreOrders : List (ℕ × List ℕ) → Type 0
AreOrders rows = AllByRecursion (λ r. (name path : List ℕ) → r.1 ≢ declaration_text name path) rows

-- no line of an order is one of a process
pub no_declaration : (names : List (List ℕ)) (o : Order) (name path : List ℕ) → order_text names o ≢ declaration_text name path
no_declaration names o name path same = other_verb (verb_of o) (one_cut 32 _ _ _ _ (verb_lacks (verb_of o)) process_lacks same).0

-- so no row of a step is
pub are_orders : (names : List (List ℕ)) (steps : List Step) → AreOrders (map (step_row names) steps)
are_orders names [] = tt
are_orders names (x ∷ xs) = (no_declaration names x.order, are_orders names xs)

-- lines of processes with names are those of one name and one path
pub same_declaration : (a b p q : List ℕ) → IsName a → IsName b → declaration_text a p ≡ declaration_text b q → (a ≡ b) × (p ≡ q)
same_declaration a b p q named other same =
    one_cut 32 a p b q (bytes_lack a named.bytes) (bytes_lack b other.bytes) (one_cut 32 (codes "process") (a ++ 32 ∷ p) (codes "process") (b ++ 32 ∷ q) process_lacks process_lacks same).1

pub head_is : {X : Type 0} (x y : X) (xs ys : List X) → x ∷ xs ≡ y ∷ ys → x ≡ y
head_is x y xs ys e = cc

pub tail_is : {X : Type 0} (x y : X) (xs ys : List X) → x ∷ xs ≡ y ∷ ys → xs ≡ ys
tail_is x y xs ys e = cc

-- the rows of processes come first, so two lists of rows part in one place
rows_part : (es fs : List (String Global × NamedProcess)) (xs ys : List (ℕ × List ℕ)) → AllByRecursion IsDeclared es → AllByRecursion IsDeclared fs → AreOrders xs → AreOrders ys
    → map process_row es ++ xs ≡ map process_row fs ++ ys → (map shown_process es ≡ map shown_process fs) × (xs ≡ ys)
rows_part [] [] xs ys de df ox oy e = (refl, e)
rows_part [] (f ∷ fs) xs ys de df ox oy e =
    let all : AreOrders (process_row f ∷ (map process_row fs ++ ys)) = subst (λ (r : List (ℕ × List ℕ)). AreOrders r) e ox in
    absurd (all.0 (string_bytes f.0) (string_bytes f.1.path) refl)
rows_part (x ∷ es) [] xs ys de df ox oy e =
    let all : AreOrders (process_row x ∷ (map process_row es ++ xs)) = subst (λ (r : List (ℕ × List ℕ)). AreOrders r) (sym e) oy in
    absurd (all.0 (string_bytes x.0) (string_bytes x.1.path) refl)
rows_part (x ∷ es) (f ∷ fs) xs ys de df ox oy e =
    let first = head_is _ _ _ _ e in
    let rest = rows_part es fs xs ys de.1 df.1 ox oy (tail_is _ _ _ _ e) in
    let line = ap (λ (r : ℕ × List ℕ). r.0) first in
    let text = same_declaration _ _ _ _ de.0.0 df.0.0 (ap (λ (r : ℕ × List ℕ). r.1) first) in
    ((λ i. (text.0 i, line i, text.1 i) ∷ rest.0 i), rest.1)

-- the names are those that are shown
names_shown : (es : List (String Global × NamedProcess)) → names_in es ≡ map (λ (s : List ℕ × ℕ × List ℕ). s.0) (map shown_process es)
names_shown [] = refl
names_shown (e ∷ es) = ap (λ l. string_bytes e.0 ∷ l) (names_shown es)

-- processes that are shown the same have the same names
pub same_names : (es fs : List (String Global × NamedProcess)) → map shown_process es ≡ map shown_process fs → names_in es ≡ names_in fs
same_names es fs same = names_shown es ∙ ap (λ l. map (λ (s : List ℕ × ℕ × List ℕ). s.0) l) same ∙ sym (names_shown fs)

-- steps with the same rows are the same
steps_one : (names : List (List ℕ)) → AllByRecursion IsName names → AreDifferent names → (xs ys : List Step) → AllByRecursion (λ x. IsInRange (length names) x.order) xs
    → AllByRecursion (λ x. IsInRange (length names) x.order) ys → map (step_row names) xs ≡ map (step_row names) ys → xs ≡ ys
steps_one names named different [] [] rx ry e = refl
steps_one names named different [] (y ∷ ys) rx ry e = absurd cc
steps_one names named different (x ∷ xs) [] rx ry e = absurd cc
steps_one names named different (x ∷ xs) (y ∷ ys) rx ry e =
    let first = head_is _ _ _ _ e in
    let line : x.line ≡ y.line = ap (λ (r : ℕ × List ℕ). r.0) first in
    let order : x.order ≡ y.order = one_order names named different x.order y.order rx.0 ry.0 (ap (λ (r : ℕ × List ℕ). r.1) first) in
    let step : x ≡ y = (λ i. record { line = line i; order = order i }) in
    ap₂ (λ (a : Step) (l : List Step). a ∷ l) step (steps_one names named different xs ys rx.1 ry.1 (tail_is _ _ _ _ e))

-- lines are of the same processes and steps
pub lines_one : (allowed : Allowed) (lines : List (List ℕ)) (es fs : List (String Global × NamedProcess)) (xs ys : List Step) → AreLines allowed lines es xs → AreLines allowed lines fs ys
    → (map shown_process es ≡ map shown_process fs) × (xs ≡ ys)
lines_one allowed lines es fs xs ys h k =
    let parts = rows_part es fs _ _ h.declared k.declared (are_orders (names_in es) xs) (are_orders (names_in fs) ys) (sym h.written ∙ k.written) in
    let names : names_in fs ≡ names_in es = sym (same_names es fs parts.0) in
    let rows : map (step_row (names_in es)) xs ≡ map (step_row (names_in es)) ys = parts.1 ∙ ap (λ (n : List (List ℕ)). map (step_row n) ys) names in
    let ranged = subst (λ (n : List (List ℕ)). AllByRecursion (λ (x : Step). IsInRange (length n) x.order) ys) names k.ranged in
    (parts.0, steps_one (names_in es) (named_of es h.declared) h.different xs ys h.ranged ranged rows)

pub one_scenario : OneScenario
one_scenario allowed text s t h k = lines_one allowed (lines_of text) s.processes.entries t.processes.entries s.steps.items t.steps.items h.lines k.lines
