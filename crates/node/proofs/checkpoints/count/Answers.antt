use Rattle.std.proofs.Common.{rules, refl, ◌≡◌, ◌<◌, ◌+◌, suc, length, take, drop, ap, ◌∙◌, arith, slice_index_or, slice_set, ◌++◌}
use Rattle.std.proofs.lemmas.List.{get_or_default}
use Rattle.rsn.specs.Receipts.{numbers_of}
use Rattle.node.specs.Checkpoints.{counts_from}
use Rattle.node.proofs.Freezes.{counts-long, counts-next, counts-more}
use Rattle.node.proofs.checkpoints.count.Goals as goal

pub loop-q-init : goal.loop-q-init
loop-q-init c = refl

pub loop-q-preserved : goal.loop-q-preserved
loop-q-preserved c =
    let old = c.args.covered.now.items in
    let r = c.args.receipts.now in
    let q = c.loop-q.q in
    let now = c.loop-q.covered.items in
    let is : now ≡ counts_from 0 r (take q old) ++ drop q old = c.loop-q.invariant in
    let inside : q < length old = first_of (omega arith, search rules) in
    let wide : q < length now = omega (arith, inside, ap length is, counts-long q r old) in
    let was : c.index_mut.result.now ≡ slice_index_or old q 0 =
    c.index_mut.ensures.value ∙ get_or_default now q c.index_mut.result.now 0 wide ∙ ap (λ xs. slice_index_or xs q 0) is ∙ counts-next 0 q r old inside in
    let row : length c.numbers.result.now ≡ length (numbers_of (0 + q) r) = ap length c.numbers.ensures ∙ ap (λ z. length (numbers_of z r)) (let e : q ≡ 0 + q = omega arith in e) in
    let sum : c.index_mut.result.now + length c.numbers.result.now ≡ slice_index_or old q 0 + length (numbers_of (0 + q) r) = omega (arith, was, row) in
    ap (slice_set now q) sum ∙ ap (λ xs. slice_set xs q (slice_index_or old q 0 + length (numbers_of (0 + q) r))) is ∙ counts-more 0 q r old inside ∙ ap (λ z. counts_from 0 r (take z old) ++ drop z old) (let e : suc q ≡ q + 1 = omega arith in e)
