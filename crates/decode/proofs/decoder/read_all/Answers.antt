use Rattle.std.proofs.Common.{inr}
use Rattle.decode.proofs.Faults.{broken_later}
use Rattle.decode.proofs.decoder.read_all.Goals as goal

pub returns-in-Err-clause-refused : goal.returns-in-Err-clause-refused
returns-in-Err-clause-refused c =
    let at = c.loop-rest.invariant in
    inr (c.requires, broken_later c.args.bytes.now c.loop-rest.rest.now c.loop-rest.insns.items c.in-Err.rule c.loop-rest.slot at.fits at.slot_is at.so_far c.in-Err.ensures.refused)
