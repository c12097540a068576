-- A text is at most one scenario, or has one fault.
use Rattle.std.specs.Prelude.{◌≡◌, ℕ, List, map, String}
use Rattle.std.specs.declared.alloc.Global.{Global}
use Rattle.std.specs.String.{string_bytes}
use Rattle.scenario.specs.declared.order.Allowed.{Allowed}
use Rattle.scenario.specs.declared.process.NamedProcess.{NamedProcess}
use Rattle.scenario.specs.declared.scenario.Scenario.{Scenario}
use Rattle.scenario.specs.declared.scenario.ScenarioError.TheVariants.{Line}
use Rattle.scenario.specs.Scenario.{IsRefusal, IsScenario}

-- what a scenario says of a process: its name, the number of its line, and its path
abbrev pub shown_process : String Global × NamedProcess → List ℕ × ℕ × List ℕ
shown_process e = (string_bytes e.0, e.1.line, string_bytes e.1.path)

-- two scenarios that a text is have the same processes and the same steps
abbrev pub OneScenario : Type 0
OneScenario = (allowed : Allowed) (text : List ℕ) (s t : Scenario) → IsScenario allowed text s → IsScenario allowed text t
    → (map shown_process s.processes.entries ≡ map shown_process t.processes.entries) × (s.steps.items ≡ t.steps.items)

-- a text has at most one fault
abbrev pub OneFault : Type 0
OneFault = (allowed : Allowed) (text : List ℕ) (m n : ℕ) → IsRefusal allowed text (Line m) → IsRefusal allowed text (Line n) → m ≡ n

-- a text with a fault is no scenario
abbrev pub NoFault : Type 0
NoFault = (allowed : Allowed) (text : List ℕ) (s : Scenario) (n : ℕ) → IsScenario allowed text s → IsRefusal allowed text (Line n) → ⊥
