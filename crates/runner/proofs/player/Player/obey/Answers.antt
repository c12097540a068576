use Rattle.std.proofs.Common.{◌∙◌, ◌++◌, Some, ap}
use Rattle.std.specs.Prelude.{string_bytes}
use Rattle.world.specs.Refusals.{number_of}
use Rattle.runner.specs.Run.{refused_text}
use Rattle.runner.proofs.Played.{cause-number}
use Rattle.runner.proofs.player.Player.obey.Goals as goal

pub returns-in_default-refusal-clause-done : goal.returns-in_default-refusal-clause-done
returns-in_default-refusal-clause-done c =
    let refusal = c.in-Err.refusal in
    let number = cause-number refusal c.in_default-refusal.not-Memory in (
      Some (number_of refusal),
      c.in-Err.ensures.done (number_of refusal) number,
      c.push_refused.ensures.written ∙ ap (λ n. string_bytes c.args.out.now ++ refused_text c.args.step.now.line (Some n)) c.number.ensures,
    )
