use Rattle.std.proofs.Common.{◌≡◌, ◌+◌, ◌-◌, ◌++◌, [], length, reverse, refl, ap, ◌∙◌, subst, arith}
use Rattle.native.specs.Code.{codes}
use Rattle.native.specs.Pending.{ArePending, pending_in}
use Rattle.native.specs.Saved.{SaveAll, saved_for}
use Rattle.native.specs.Openings.{entering_by}
use Rattle.native.specs.Written.{Stacks, IsLaidFrom}
use Rattle.native.proofs.Native.{laid_none, stacks_none}
use Rattle.native.proofs.image_code.write_tasks.Goals as goal

pub slots-init : goal.slots-init
slots-init c =
    let tasks = c.args.tasks.now in
    let o = c.args.opening in
    let tails = c.in_ok-tails.tails.items in
    let back = reverse c.in_ok-back.back.items in
    let empty : back ≡ [] = ap reverse c.in_ok-back.ensures.items in
    record {
      laid = laid_none tasks (pending_in tasks) tails (saved_for o tasks) back (length tasks) refl c.in_ok-tails.ensures empty;
      stacks = stacks_none o tasks tails back (length tasks) refl c.in_ok-tails.ensures empty;
    }

pub lay_slot-requires-clause-laid : goal.lay_slot-requires-clause-laid
lay_slot-requires-clause-laid c =
    let e : c.slots.slot ≡ c.slots.slot - 1 + 1 = omega (arith, c.slots-test.true) in
    subst (IsLaidFrom c.args.opening c.args.tasks.now c.slots.tails.items (reverse c.slots.back.items)) e c.slots.invariant

pub returns : goal.returns
returns c =
    let tasks = c.args.tasks.now in
    let o = c.args.opening in
    let tails = c.slots.tails.items in
    let rest = reverse c.slots.back.items in
    let code = c.extend_from_slice.new.self.items in
    let e : code ≡ codes (entering_by o (saved_for o tasks)) ++ rest =
    c.in_ok-extend_from_slice.ensures.items
    ∙ ap (λ x. c.write_entry.new.code.items ++ x) (c.as_slice-2.ensures.value ∙ c.reverse.ensures.items)
    ∙ ap (λ x. x ++ rest) (c.in_ok-write_entry.ensures ∙ ap (λ x. x ++ codes (entering_by o c.saved_for-saved.result)) c.in_ok-code.ensures.items ∙ ap (λ s. codes (entering_by o s)) c.saved_for-saved.ensures.value) in
    let whole : length tasks - 0 ≡ length tasks = omega arith in
    let done : c.slots.slot ≡ 0 = omega (arith, c.slots-test.false) in
    let x : IsLaidFrom o tasks tails rest 0 = subst (IsLaidFrom o tasks tails rest) done c.slots.invariant in
    record {
      written = record { tails = tails; rest = rest; stacks = subst (λ n. Stacks o tasks n tails rest) whole x.stacks; is = e };
      laid = x.laid;
      pended = subst (ArePending tasks) c.in_ok-pending.ensures.value c.in_ok-pending.ensures.are;
      saves = subst (SaveAll tasks) c.saved_for-saved.ensures.value c.saved_for-saved.ensures.all;
    }
