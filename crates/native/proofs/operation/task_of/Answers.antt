use Rattle.std.proofs.Common.{◌≡◌, refl}
use Rattle.std.specs.Prelude.{IfSome}
use Rattle.native.specs.Inside.Operations.{task_for, IsTaskOf}
use Rattle.native.proofs.TaskActs.{found, its_acts, its_bytes, its_numbers}
use Rattle.native.proofs.operation.task_of.Goals as goal

pub returns : goal.returns
returns c =
    let pool = c.args.pool.now in
    let o = c.args.op in
    let r = c.first_of.result in
    let e : r ≡ task_for pool o =
    rw (c.first_of.ensures, c.arithmetic.ensures, c.first_of-led.ensures, c.jump.ensures, c.first_of-kept.ensures, c.of_registers.ensures, c.first_of-moved.ensures, c.of_memory.ensures, c.of_others.ensures) refl in
    let t : IfSome r (IsTaskOf pool o) = found pool (λ k. (c.type_inv.pool k).fits) o r e in
    record { value = e; acts = its_acts pool o r t; within = its_bytes pool o r t; fits = its_numbers pool o r t }
