use Rattle.std.proofs.Common.{arith, ◌≡◌, ◌+◌, suc, length, ap, ◌∙◌}
use Rattle.machine.specs.Checkpoints.{dropped_by, dropped_to, trimmed_to, without_covered}
use Rattle.machine.specs.Simulation.{TheMachine}
use Rattle.machine.proofs.Coverage.{width-to}
use Rattle.machine.proofs.machine.Machine.drop_all.Goals as goal

pub drop_covered-dropped-requires : goal.drop_covered-dropped-requires
drop_covered-dropped-requires c =
    let size : length c.loop-s.self.processes ≡ length c.args.self.now.processes = ap (λ (v : TheMachine). length v.processes) c.loop-s.invariant.after ∙ width-to c.args.self.now c.args.d c.loop-s.s in
    (omega (arith, size, c.loop-s-test.true, c.count-s-end.ensures.value), omega (arith, size, c.requires))

pub loop-s-preserved : goal.loop-s-preserved
loop-s-preserved c =
    let i = c.loop-s.invariant in
    let e = c.drop_covered-dropped.ensures in
    let on : c.loop-s.s + 1 ≡ suc c.loop-s.s = omega arith in
    record {
      after = rw on (e.after ∙ ap (λ v. without_covered v c.args.d c.loop-s.s) i.after);
      value = rw on (let one = e.value ∙ ap (λ v. dropped_by v c.args.d c.loop-s.s) i.after in omega (arith, one, i.value));
      bound = omega (arith, i.bound, e.bound);
      upto = omega (arith, c.loop-s-test.true, c.count-s-end.ensures.value);
    }

pub returns-clause-after : goal.returns-clause-after
returns-clause-after c =
    let end : c.loop-s.s ≡ suc (length c.args.self.now.processes) = (let past = c.loop-s-test.false in let upto = c.loop-s.invariant.upto in let n = c.count-s-end.ensures.value in omega (arith, past, upto, n)) in
    c.loop-s.invariant.after ∙ ap (trimmed_to c.args.d c.args.self.now) end

pub returns-clause-value : goal.returns-clause-value
returns-clause-value c =
    let end : c.loop-s.s ≡ suc (length c.args.self.now.processes) = (let past = c.loop-s-test.false in let upto = c.loop-s.invariant.upto in let n = c.count-s-end.ensures.value in omega (arith, past, upto, n)) in
    c.loop-s.invariant.value ∙ ap (dropped_to c.args.d c.args.self.now) end
