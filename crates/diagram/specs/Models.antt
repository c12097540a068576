-- The definitions' values of what the code keeps of runs and columns.
use Rattle.diagram.specs.Columns.{TheColumnState}
use Rattle.diagram.specs.Run.{TheRun}
use Rattle.diagram.specs.declared.run.Run.{Run}
use Rattle.diagram.specs.declared.column_state.ColumnState.{ColumnState}

-- how far the columns have come
abbrev pub column_state_of : ColumnState → TheColumnState
column_state_of s = record { place = s.place; outputs = s.outputs; keys = s.messages.keys; columns = s.columns.items }

-- a run
abbrev pub run_of : Run → TheRun
run_of run = record { entries = run.entries.now; moments = run.moments.now; sent = run.sent.now; shown = run.shown.now }
