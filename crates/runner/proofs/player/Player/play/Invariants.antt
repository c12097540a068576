use Rattle.std.proofs.Common.{◌+◌, ◌*◌, ◌≤◌, length, take}
use Rattle.std.specs.Prelude.{string_bytes, string_capacity, string_len}
use Rattle.runner.specs.Inside.{ArePlayed, position_of}
use Rattle.runner.proofs.player.Player.play.Given as goal
use Rattle.runner.specs.declared.runs.TheConstants.{LINE_BYTES}

abbrev pub invariant-loop-step : goal.invariant-loop-step
invariant-loop-step l = record {
  played : ArePlayed (take l.step-index l.steps) (position_of l.fn.self) (position_of l.self) (string_bytes l.fn.out) (string_bytes l.out);
  room : string_len l.out + LINE_BYTES * length l.steps ≤ string_capacity l.out + LINE_BYTES * l.step-index;
}
