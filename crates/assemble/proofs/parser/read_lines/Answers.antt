use Rattle.std.proofs.Common.{◌≡◌, ◌≤◌, ◌+◌, ◌∷◌, [], sym, subst, List, ℕ, arith, Option, Bor, length}
use Rattle.decode.specs.Slots.{slots}
use Rattle.decode.specs.declared.insn.Insn.{Insn}
use Rattle.assemble.specs.Inside.Loop.{HaveRead, left}
use Rattle.assemble.proofs.Texts.{read_more}
use Rattle.decode.proofs.SlotLemmas.{slots-append, slots-cons}
use Rattle.assemble.proofs.parser.read_lines.Goals as goal

pub loop-rest-preserved-in_ok-push : goal.loop-rest-preserved-in_ok-push
loop-rest-preserved-in_ok-push c =
    let line = c.cut_line.result.0.now in
    let rest = c.cut_line.result.1 in
    let is = c.loop-rest.insns.items in
    let i = c.in-Some-read.insn in
    let read = rw c.in-Some-read.is at c.in-Ok.ensures in
    let old = subst (λ (o : Option (Bor (List ℕ))). HaveRead c.args.text.now o c.loop-rest.line is) c.in-Some.is c.loop-rest.invariant.so_far in
    let counted = subst (λ (o : Option (Bor (List ℕ))). c.loop-rest.line + left o ≤ length c.args.text.now + 1) c.in-Some.is c.loop-rest.invariant.counted in
    let now = read_more c.args.text.now c.in-Some.here line rest c.loop-rest.line is i old c.cut_line.ensures.lines read.0 read.1 read.2 (omega (arith, read.3)) in
    let items = sym c.in_ok-push.ensures.items in
    record {
      so_far = subst (λ (x : List Insn). HaveRead c.args.text.now rest (c.loop-rest.line + 1) x) items now;
      slots_are = subst (λ (x : List Insn). c.loop-rest.slots + c.slots-slots.result ≡ slots x) items (omega (arith, slots-append is (i ∷ []), slots-cons i []));
      room = omega (arith, read.3);
      counted = omega (arith, c.cut_line.ensures.shorter);
    }
