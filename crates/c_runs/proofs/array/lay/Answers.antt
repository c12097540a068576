use Rattle.std.proofs.Common.{◌≤◌, arith}
use Rattle.c_runs.proofs.Laid.{laid_state, laid_spent}
use Rattle.c_runs.proofs.array.lay.Goals as goal

pub returns-clause-state : goal.returns-clause-state
returns-clause-state c =
    let p = c.args.image.now in
    let small : p.len ≤ 1024 = omega (arith, c.state_len-len.ensures.value, c.state_len-len.ensures.bound) in
    laid_state 64 p.len c.args.mem.now c.put.new.out c.args.state.now c.told-mem small c.requires.state c.put.ensures.written

pub returns-clause-spent : goal.returns-clause-spent
returns-clause-spent c =
    let p = c.args.image.now in
    let small : p.len ≤ 1024 = omega (arith, c.state_len-len.ensures.value, c.state_len-len.ensures.bound) in
    let low = c.low-low.ensures in
    laid_spent 64 p.len p.low c.args.mem.now c.put.new.out c.args.state.now c.told-mem small (omega (arith, low.value, low.to)) c.requires.state c.put.ensures.written c.requires.spent
