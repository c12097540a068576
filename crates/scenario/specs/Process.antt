-- The processes of a scenario.
use Rattle.std.specs.Prelude.{◌≡◌, ◌≢◌, ◌≤◌, ◌<◌, ◌==◌, ◌||◌, Bool, false, true, not, ℕ, List, [], ◌∷◌, ◌++◌, codes, map, length, String}
use Rattle.std.specs.List.{AllByRecursion, list_all}
use Rattle.std.specs.Global.{Global}
use Rattle.std.specs.String.{string_bytes}
use Rattle.limits.specs.declared.TheConstants.{PROCESSES}
use Rattle.indexmap.specs.IndexMap.{IndexMap}
use Rattle.scenario.specs.declared.process.NamedProcess.{NamedProcess}
use Rattle.scenario.specs.Order.{IsName}

-- the names of processes, in the order of their numbers
abbrev pub names_in : List (String Global × NamedProcess) → List (List ℕ)
names_in entries = map (λ e. string_bytes e.0) entries

-- the names in the map of a scenario, whose first entry is process 1
abbrev pub names_of : {S : Type 0} → IndexMap (String Global) NamedProcess S → List (List ℕ)
names_of processes = names_in processes.entries

-- a space, a tab or a carriage return
abbrev pub is_blank : ℕ → Bool
is_blank c = (c == 32) || ((c == 9) || (c == 13))

-- 1 or more bytes, none of them blank
pub record IsPath (text : List ℕ) : Type 0 where
  pub some : 0 < length text
  pub plain : list_all (λ c. not (is_blank c)) text ≡ true

-- the line of a process: its name, and the path of its image
abbrev pub declaration_text : List ℕ → List ℕ → List ℕ
declaration_text name path = codes "process" ++ 32 ∷ (name ++ 32 ∷ path)

-- a name and a path
abbrev pub IsDeclared : String Global × NamedProcess → Type 0
IsDeclared e = IsName (string_bytes e.0) × IsPath (string_bytes e.1.path)

-- no process has this name
abbrev pub IsFresh : List ℕ → List (List ℕ) → Type 0
IsFresh name names = AllByRecursion (λ x. x ≢ name) names

-- all names are different
abbrev pub AreDifferent : List (List ℕ) → Type 0
AreDifferent [] = Unit {0}
AreDifferent (x ∷ xs) = IsFresh x xs × AreDifferent xs

-- the next process may have this name and this path: no order came yet, and there are fewer than 15 processes
pub record MayDeclare (names : List (List ℕ)) (begun : Bool) (name path : List ℕ) : Type 0 where
  pub first : begun ≡ false
  pub room : length names < PROCESSES
  pub named : IsName name
  pub pathed : IsPath path
  pub fresh : IsFresh name names

-- at most 15 processes, with names
pub record AreNamed {S : Type 0} (processes : IndexMap (String Global) NamedProcess S) : Type 0 where
  pub few : length processes.entries ≤ PROCESSES
  pub named : AllByRecursion IsName (names_of processes)
