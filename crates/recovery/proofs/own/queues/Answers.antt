use Rattle.std.proofs.Common.{◌≡◌, ◌+◌, List, subst}
use Rattle.std.specs.Prelude.{Some, slice_get}
use Rattle.packets.specs.declared.kept.KeptLog.{KeptLog}
use Rattle.recovery.proofs.Preservation.{get-taken, get-dropped}
use Rattle.recovery.proofs.own.queues.Goals as goal

pub add-requires : goal.add-requires
add-requires c i l e =
    let P : List KeptLog → Type 0 = λ xs. slice_get xs i ≡ Some l in
    c.requires.room i l (get-taken c.args.me c.args.logs.now i l (subst P c.split_at.ensures.front e))

pub add-requires-2 : goal.add-requires-2
add-requires-2 c i l e =
    let P : List KeptLog → Type 0 = λ xs. slice_get xs i ≡ Some l in
    c.requires.room (c.args.me + i) l (get-dropped c.args.me c.args.logs.now i l (subst P c.split_at.ensures.back e))
