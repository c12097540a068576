-- The slots after an instruction, with their frames.
use Rattle.std.specs.Prelude.{ℕ, ◌+◌, List, [], ◌∷◌, ℤ, pos, ◌+ℤ◌}
use Rattle.decode.specs.declared.insn.Insn.{Insn}
use Rattle.decode.specs.declared.flow.Flow.{Flow}
use Rattle.decode.specs.declared.flow.Flow.TheVariants.{Ends, Leaps, Forks, Falls}
use Rattle.decode.specs.Flow.{flow_of}
use Rattle.regtypes.specs.declared.frame.Frame.{Frame}
use Rattle.regtypes.specs.Ways.{next, taken}

-- the slots that can come next, each with the frame that leaves on the way there
abbrev pub exits_by : ℕ → Flow → Frame → Frame → List (ℤ × Frame)
exits_by s Ends next taken = []
exits_by s (Leaps d) next taken = (pos (s + 1) +ℤ d, taken) ∷ []
exits_by s (Forks d) next taken = (pos (s + 1) +ℤ d, taken) ∷ (pos (s + 1), next) ∷ []
exits_by s (Falls n) next taken = (pos (s + n), next) ∷ []

-- the same for an instruction at slot s under a frame; V1 and V2 say whether they are slots of the code
abbrev pub exits : ℕ → Insn → Frame → List (ℤ × Frame)
exits s i f = exits_by s (flow_of i) (next i f) (taken i f)
