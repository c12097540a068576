use Rattle.std.proofs.Common.{◌≡◌, ◌∙◌, ◌+◌, ◌++◌, ◌∷◌, [], List, Some, ap, arith, subst, sym, take}
use Rattle.std.proofs.lemmas.List.{take_more}
use Rattle.std.proofs.lemmas.Option.{slice_get-get_or}
use Rattle.std.specs.Prelude.{string_bytes}
use Rattle.scenario.specs.declared.scenario.Step.{Step}
use Rattle.runner.specs.Inside.{ArePlayed, position_of}
use Rattle.runner.proofs.Played.{on_err, played-more}
use Rattle.runner.proofs.player.Player.play.Goals as goal

pub loop-step-preserved : goal.loop-step-preserved
loop-step-preserved c =
    let k = c.loop-step.step-index in
    let steps = c.args.steps.now in
    let step = c.step-item.result in
    let old = position_of c.args.self.now in
    let more : take (k + 1) steps ≡ take k steps ++ step ∷ [] = take_more steps k step c.loop-step-test.true ∙ ap (λ x. take k steps ++ x ∷ []) (sym c.step-item.is) in
    let P : List Step → Type 0 = λ xs. ArePlayed xs old (position_of c.obey.new.self) (string_bytes c.args.out.now) (string_bytes c.obey.new.out) in
    record {
      played = subst P (sym more) (played-more old (position_of c.loop-step.self) (position_of c.obey.new.self) (take k steps) step (string_bytes c.args.out.now) (string_bytes c.loop-step.out) (string_bytes c.obey.new.out) c.loop-step.invariant.played c.in_ok-obey.ensures.done);
      room = omega (arith, c.loop-step.invariant.room, c.in_ok-obey.ensures.len, c.in_ok-obey.ensures.capacity);
    }

pub returns-in_err-obey-clause-short : goal.returns-in_err-obey-clause-short
returns-in_err-obey-clause-short c =
    let k = c.loop-step.step-index in
    let steps = c.args.steps.now in
    let step = c.step-item.result in
    let old = position_of c.args.self.now in
    on_err c.from_residual.result (record {
      count = k;
      end = position_of c.loop-step.self;
      played = subst (λ text. ArePlayed (take k steps) old (position_of c.loop-step.self) (string_bytes c.args.out.now) text) (sym c.in_err-obey.ensures.unchanged) c.loop-step.invariant.played;
      step = step;
      next = slice_get-get_or steps k step c.loop-step-test.true ∙ ap (λ (x : Step). Some x) (sym c.step-item.is);
      finds = c.in_err-obey.ensures.memory;
    })
