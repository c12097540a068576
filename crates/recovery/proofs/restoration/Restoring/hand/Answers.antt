use Rattle.std.proofs.Common.{◌≡◌, List, true, sym, ap, ◌∙◌, subst, arith}
use Rattle.std.proofs.lemmas.Grind.{common_steps}
use Rattle.std.specs.List.{AllByRecursion}
use Rattle.packets.specs.Packet.{in_range}
use Rattle.packets.specs.declared.page.Pair.{Pair}
use Rattle.packets.specs.declared.packet.Body.TheVariants.{Restored}
use Rattle.recovery.specs.Intake.{AscendFrom, IsSmallPair}
use Rattle.recovery.proofs.Notes.{ascend-lower}
use Rattle.recovery.proofs.RestorationPages.{page-in-range, page-small}
use Rattle.recovery.proofs.restoration.Restoring.hand.Goals as goal

pub take_page-requires-clause-page : goal.take_page-requires-clause-page
take_page-requires-clause-page c =
    let r = c.in-Restored in
    let fits : in_range (Restored r.incarnation r.teller r.covered r.above r.flags r.pairs) ≡ true = ap in_range (sym r.is) ∙ sym c.is_in_range.ensures ∙ c.if-not-is_in_range.false in
    let page : AscendFrom r.above r.pairs = page-in-range r.incarnation r.teller r.covered r.above r.flags r.pairs fits in
    let P : List Pair → Type 0 = λ xs. AscendFrom 0 xs in
    subst P (sym c.as_slice-pairs.ensures) (ascend-lower 0 r.above r.pairs (omega arith) page)

pub take_page-requires-clause-numbers : goal.take_page-requires-clause-numbers
take_page-requires-clause-numbers c =
    let r = c.in-Restored in
    let fits : in_range (Restored r.incarnation r.teller r.covered r.above r.flags r.pairs) ≡ true = ap in_range (sym r.is) ∙ sym c.is_in_range.ensures ∙ c.if-not-is_in_range.false in
    subst (AllByRecursion IsSmallPair) (sym c.as_slice-pairs.ensures) (page-small r.incarnation r.teller r.covered r.above r.flags r.pairs fits)

pub returns-then-is_reply : goal.returns-then-is_reply
returns-then-is_reply c = grind (arith, common_steps)

pub returns-in-Ask : goal.returns-in-Ask
returns-in-Ask c = grind (arith, common_steps)

pub returns-then-not-is_for : goal.returns-then-not-is_for
returns-then-not-is_for c = grind (arith, common_steps)
