-- Which texts are scenarios, and which line of any other is the first faulty one (docs/FORMATS.md, "Scenario").
use Rattle.std.specs.Prelude.{◌≡◌, ◌≢◌, ◌≤◌, ◌+◌, ◌==◌, ℕ, zero, suc, Bool, true, false, List, [], ◌∷◌, ◌++◌, map, length, nat_lt}
use Rattle.std.specs.Prelude.{if◌then◌else◌, String}
use Rattle.std.specs.List.{AllByRecursion, slice_split}
use Rattle.std.specs.declared.alloc.Global.{Global}
use Rattle.std.specs.String.{string_bytes}
use Rattle.limits.specs.declared.TheConstants.{PROCESSES}
use Rattle.scenario.specs.declared.order.Order.{Order}
use Rattle.scenario.specs.declared.order.Allowed.{Allowed}
use Rattle.scenario.specs.declared.process.NamedProcess.{NamedProcess}
use Rattle.scenario.specs.declared.scenario.Scenario.{Scenario}
use Rattle.scenario.specs.declared.scenario.Step.{Step}
use Rattle.scenario.specs.declared.scenario.ScenarioError.{ScenarioError}
use Rattle.scenario.specs.declared.scenario.ScenarioError.TheVariants.{Memory, Line}
use Rattle.scenario.specs.Order.{order_text, takes, IsInRange}
use Rattle.scenario.specs.Process.{names_in, declaration_text, IsDeclared, AreDifferent, MayDeclare}

-- the lines without their line feeds. The text after the last line feed is a line too
abbrev pub lines_of : List ℕ → List (List ℕ)
lines_of text = slice_split (λ c. c == 10) text

-- an empty line, or a comment
abbrev pub is_silent : List ℕ → Bool
is_silent [] = true
is_silent (c ∷ cs) = c == 35

-- the lines that aren't silent, each with its number, if the first line has the number n
abbrev pub rows : ℕ → List (List ℕ) → List (ℕ × List ℕ)
rows n [] = []
rows n (line ∷ rest) = if is_silent line then rows (n + 1) rest else (n, line) ∷ rows (n + 1) rest

-- the number that the line of a process has in the text, from 1, and the line
abbrev pub process_row : String Global × NamedProcess → ℕ × List ℕ
process_row e = (e.1.line, declaration_text (string_bytes e.0) (string_bytes e.1.path))

-- the number that the line of a step has in the text, from 1, and the line. names are those of the processes 1, 2, ..
abbrev pub step_row : List (List ℕ) → Step → ℕ × List ℕ
step_row names x = (x.line, order_text names x.order)

-- the lines declare at most 15 processes with different names. Then come orders that may be there, and that name only these
-- processes
pub record AreLines (allowed : Allowed)
    (lines : List (List ℕ)) (entries : List (String Global × NamedProcess)) (steps : List Step) : Type 0 where
  pub few : length entries ≤ PROCESSES
  pub declared : AllByRecursion IsDeclared entries
  pub different : AreDifferent (names_in entries)
  pub ranged : AllByRecursion (λ x. IsInRange (length (names_in entries)) x.order) steps
  pub taken : AllByRecursion (λ x. takes allowed x.order ≡ true) steps
  pub written : rows 1 lines ≡ map process_row entries ++ map (step_row (names_in entries)) steps

-- the text is this scenario, which has a process
pub record IsScenario (allowed : Allowed) (text : List ℕ) (s : Scenario) : Type 0 where
  pub lines : AreLines allowed (lines_of text) s.processes.entries s.steps.items
  pub some : s.processes.entries ≢ []

-- whether an order came
abbrev pub has_begun : List Step → Bool
has_begun steps = nat_lt 0 (length steps)

-- after these processes and steps, the line is neither a process that may be declared there nor an order that may be there
pub record IsFaulty (allowed : Allowed) (entries : List (String Global × NamedProcess)) (steps : List Step) (line : List ℕ) : Type 0 where
  pub speaks : is_silent line ≡ false
  pub no_process : (name path : List ℕ) → MayDeclare (names_in entries) (has_begun steps) name path → line ≢ declaration_text name path
  pub no_order : (o : Order) → IsInRange (length (names_in entries)) o → takes allowed o ≡ true → line ≢ order_text (names_in entries) o

-- all lines before the one of this number are valid, and that line is faulty
pub record IsFault (allowed : Allowed) (text : List ℕ) (number : ℕ) : Type 0 where
  pub before : List (List ℕ)
  pub line : List ℕ
  pub after : List (List ℕ)
  pub whole : lines_of text ≡ before ++ line ∷ after
  pub number_is : number ≡ length before + 1
  pub entries : List (String Global × NamedProcess)
  pub steps : List Step
  pub fine : AreLines allowed before entries steps
  pub faulty : IsFaulty allowed entries steps line

-- no line is faulty, and there is no process
pub record IsBare (allowed : Allowed) (text : List ℕ) : Type 0 where
  pub steps : List Step
  pub lines : AreLines allowed (lines_of text) [] steps

-- the error of a text, if memory does not run out: the number of its first faulty line, or 0
abbrev pub IsRefusal : Allowed → List ℕ → ScenarioError → Type 0
IsRefusal allowed text Memory = Unit {0}
IsRefusal allowed text (Line zero) = IsBare allowed text
IsRefusal allowed text (Line (suc n)) = IsFault allowed text (suc n)
