use Rattle.std.proofs.Common.{rules, ◌<◌, ◌^◌, arith}
use Rattle.decode.specs.Slots.{slots}
use Rattle.decode.proofs.SlotLemmas.{slots_bound}
use Rattle.decode.proofs.encoder.slots.Goals as goal

pub sum-requires-clause-fits : goal.sum-requires-clause-fits
sum-requires-clause-fits c =
    let twice = slots_bound c.args.insns.now in
    let below : slots c.args.insns.now < 2 ^ 64 = omega (arith, c.iter.ensures.bound) in
    search (rules, below)
