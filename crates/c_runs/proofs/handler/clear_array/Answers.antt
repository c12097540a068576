use Rattle.std.proofs.Common.{◌≤◌, arith}
use Rattle.c_runs.proofs.Laid.{new_spent}
use Rattle.c_runs.proofs.handler.clear_array.Goals as goal

pub returns : goal.returns
returns c =
    let p = c.args.image.now in
    let low = c.low-low.ensures in
    let small : p.len ≤ 1024 = omega (arith, c.state_len-len.ensures.value, c.state_len-len.ensures.bound) in
    new_spent 64 p.len p.low (omega arith) small (omega (arith, low.value, low.from)) (omega (arith, low.value, low.to))
