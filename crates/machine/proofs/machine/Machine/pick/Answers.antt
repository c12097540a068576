use Rattle.machine.proofs.Picks.{if_none, pick-none}
use Rattle.machine.proofs.machine.Machine.pick.Goals as goal

pub returns-clause-none : goal.returns-clause-none
returns-clause-none c =
    if_none c.pick_transmit.result (λ leaves w s call k. pick-none w c.args.room (c.in_default.ensures.none w s) (c.in_default-pick_replay.ensures.none w s) (c.in_default-pick_resync.ensures.none w s) (leaves w s) call k) c.pick_transmit.ensures.none

pub returns-in-Some-clause-none : goal.returns-in-Some-clause-none
returns-in-Some-clause-none c = tt

pub returns-in-Some-pick_replay-clause-none : goal.returns-in-Some-pick_replay-clause-none
returns-in-Some-pick_replay-clause-none c = tt

pub returns-in-Some-pick_resync-clause-none : goal.returns-in-Some-pick_resync-clause-none
returns-in-Some-pick_resync-clause-none c = tt
