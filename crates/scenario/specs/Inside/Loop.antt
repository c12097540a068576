-- What is left of a text while its lines are read.
use Rattle.std.specs.Prelude.{◌≡◌, ◌+◌, ◌++◌, ◌∷◌, ℕ, Bool, true, false, List, [], Option, Some, None, length, String}
use Rattle.std.specs.Borrow.{Bor}
use Rattle.std.specs.declared.alloc.Global.{Global}
use Rattle.std.specs.String.{string_bytes}
use Rattle.scenario.specs.declared.order.Allowed.{Allowed}
use Rattle.scenario.specs.declared.process.NamedProcess.{NamedProcess}
use Rattle.scenario.specs.declared.scenario.Step.{Step}
use Rattle.scenario.specs.declared.line.Line.{Line}
use Rattle.scenario.specs.declared.line.Line.TheVariants as line_kind
use Rattle.scenario.specs.Inside.Reads.{Reads}
use Rattle.scenario.specs.Order.{order_text, IsInRange}
use Rattle.scenario.specs.Process.{declaration_text, IsFresh, MayDeclare}
use Rattle.scenario.specs.Scenario.{lines_of, is_silent, AreLines}

-- the lines of what is left, if something is
abbrev pub lines_left : Option (Bor (List ℕ)) → List (List ℕ)
lines_left None = []
lines_left (Some x) = lines_of x.now

-- how many bytes are left, with one for the end of the last line
abbrev pub left : Option (Bor (List ℕ)) → ℕ
left None = 0
left (Some x) = length x.now + 1

-- the name and the path that a line declares
abbrev pub ReadsDeclaration : List (List ℕ) → Bool → List ℕ → Option (Bor (List ℕ) × Bor (List ℕ)) → Type 0
ReadsDeclaration names begun text (Some x) = (text ≡ declaration_text x.0.now x.1.now) × MayDeclare names begun x.0.now x.1.now
ReadsDeclaration names begun text None = (name path : List ℕ) → MayDeclare names begun name path → text ≡ declaration_text name path → ⊥

-- what a line says
abbrev pub ReadsLine : List (List ℕ) → Bool → List ℕ → Option Line → Type 0
ReadsLine names begun text (Some line_kind.Silent) = is_silent text ≡ true
ReadsLine names begun text (Some (line_kind.Process name path)) = (is_silent text ≡ false) × (text ≡ declaration_text name.now path.now)
    × MayDeclare names begun name.now path.now
ReadsLine names begun text (Some (line_kind.Order o)) = (is_silent text ≡ false) × (text ≡ order_text names o) × IsInRange (length names) o
ReadsLine names begun text None =
    (is_silent text ≡ false) × ReadsDeclaration names begun text None × Reads (order_text names) (IsInRange (length names)) text None

-- one more process
pub record Declares (number : ℕ) (name path : List ℕ) (old new : List (String Global × NamedProcess)) : Type 0 where
  pub entry : String Global × NamedProcess
  pub name_is : string_bytes entry.0 ≡ name
  pub path_is : string_bytes entry.1.path ≡ path
  pub line_is : entry.1.line ≡ number
  pub last : new ≡ old ++ entry ∷ []

-- whether no process has the name yet
abbrev pub TellsFree : List ℕ → List (List ℕ) → Bool → Type 0
TellsFree name names true = IsFresh name names
TellsFree name names false = IsFresh name names → ⊥

-- the lines that were read
pub record HaveRead (allowed : Allowed)
    (text : List ℕ) (rest : Option (Bor (List ℕ)))
    (number : ℕ) (entries : List (String Global × NamedProcess)) (steps : List Step) : Type 0 where
  pub before : List (List ℕ)
  pub whole : lines_of text ≡ before ++ lines_left rest
  pub number_is : number ≡ length before
  pub fine : AreLines allowed before entries steps
