use Rattle.std.proofs.Common.{rules, ◌≡◌, ◌+◌, suc, ℕ, Bool, false, replicate, ap, ◌∙◌, refl, arith}
use Rattle.std.proofs.lemmas.Grind.{common_steps}
use Rattle.std.proofs.lemmas.List.{length-set, length-replicate, get_or-replicate, replicate-append-replicate}
use Rattle.recovery.specs.Own.{own_of}
use Rattle.recovery.specs.Collected.{TheCollected, none_told}
use Rattle.recovery.proofs.Preservation.{can-come, logs-short}
use Rattle.recovery.proofs.collection.Collecting.begin.Goals as goal

pub invariant_of-result : goal.invariant_of-result
invariant_of-result c =
    let k = c.args.kept.now in
    let own : c.in_ok-own.own ≡ own_of c.args.limits k c.args.incarnation = first_of (search rules, grind (arith, common_steps)) in
    let many : c.loop-made.made ≡ k.count + 1 = omega (arith, c.loop-made-test.false) in
    let told : c.loop-made.told.items ≡ replicate (k.count + 1) (none_told k.length) = c.loop-made.invariant ∙ ap (λ n. replicate n (none_told k.length)) many in
    rw (own, told) (record {
      wide = length-replicate (k.count + 1) (none_told k.length) ∙ (let e : k.count + 1 ≡ suc k.count = omega arith in e);
      heard_wide = length-set (replicate (k.count + 1) 0) 0 1 ∙ length-replicate {A = ℕ} (k.count + 1) 0 ∙ (let e : k.count + 1 ≡ suc k.count = omega arith in e);
      lost_wide = length-replicate {A = Bool} (k.count + 1) false ∙ (let e : k.count + 1 ≡ suc k.count = omega arith in e);
      short = logs-short k c.requires.kept;
      alone = ap (λ (t : TheCollected). t.entries) (get_or-replicate (k.count + 1) k.me (none_told k.length) (none_told 0) (omega (arith, (can-come k c.requires.kept).own)));
    })

pub returns : goal.returns
returns c =
    let k = c.args.kept.now in
    let own : c.in_ok-own.own ≡ own_of c.args.limits k c.args.incarnation = first_of (search rules, grind (arith, common_steps)) in
    let many : c.loop-made.made ≡ k.count + 1 = omega (arith, c.loop-made-test.false) in
    let told : c.loop-made.told.items ≡ replicate (k.count + 1) (none_told k.length) = c.loop-made.invariant ∙ ap (λ n. replicate n (none_told k.length)) many in
    rw (own, told) refl

pub loop-made-preserved : goal.loop-made-preserved
loop-made-preserved c =
    rw (c.in_ok-push.ensures.items, c.new.ensures, c.loop-made.invariant) (replicate-append-replicate c.loop-made.made 1 (none_told c.args.kept.now.length))
