use Rattle.std.proofs.Common.{◌≡◌, length, suc, ◌+◌, subst, sym, arith}
use Rattle.node.proofs.Views.{on-ok}
use Rattle.recovery.specs.Replays.{TheReplaying}
use Rattle.recovery.specs.StandsAtReplay.{Owes, Handles}
use Rattle.recovery.proofs.ReplayLemmas.{replays-so}
use Rattle.recovery.proofs.replays.Replaying.work.Goals as goal

pub returns-clause-acts : goal.returns-clause-acts
returns-clause-acts c =
    let old = c.args.self.now in
    let state = c.args.state.items in
    let given = c.args.given.now in
    let wide : length old.own.logs ≡ suc old.own.count =
    (let inside : length c.self.inside.own.logs ≡ c.self.inside.own.count + 1 = c.count-count.ensures.logs in
    let P : TheReplaying → Type 0 = λ z. length z.own.logs ≡ z.own.count + 1 in
    let e = subst P c.self.view_is inside in
    omega (arith, e)) in
    let P : TheReplaying → Type 0 = λ v. Owes (Handles state given old) old v in
    on-ok c.replay.result _ _ (λ e. subst P (sym e) (replays-so old state given wide c.requires)) c.replay.ensures.ok
