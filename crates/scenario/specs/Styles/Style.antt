-- Styles: how a run is printed.
use Rattle.std.specs.Prelude.{ℕ, Bool, List, Option, option_map}
use Rattle.scenario.specs.Process.{names_of}
use Rattle.scenario.specs.declared.styles.style.Style.{Style}

-- whether it is JSON, and the names of the processes, if they are printed in place of the numbers
pub record TheStyle : Type 0 where
  pub json : Bool
  pub names : Option (List (List ℕ))

-- a style, with names as texts
abbrev pub style_of : Style → TheStyle
style_of style = record { json = style.json; names = option_map (λ m. names_of m.now) style.names }
