use Rattle.std.proofs.Common.{rules, ◌≡◌, ◌+◌, ◌<◌, ◌≤◌, ◌^◌, ℕ, suc, List, [], ◌∷◌, ◌++◌, length, map, ap, sym, ◌∙◌, subst, arith, append_assoc}
use Rattle.std.specs.Prelude.{Some, slice_index_or, slice_set}
use Rattle.std.proofs.lemmas.Grind.{common_steps}
use Rattle.std.proofs.lemmas.List.{get_or_default, length-append, length-map, length-set}
use Rattle.world.specs.declared.message.Message.{Message}
use Rattle.world.specs.History.{count_of}
use Rattle.world.specs.Plan.{if_next}
use Rattle.node.specs.declared.job.OpenJob.{OpenJob}
use Rattle.node.specs.Node.{IsPeer}
use Rattle.node.specs.Stands.{Each, job_of}
use Rattle.recovery.specs.Collection.{TheCollecting}
use Rattle.recovery.specs.Plan.{told_under, Follows, room_of}
use Rattle.recovery.proofs.Lists.{each-append}
use Rattle.recovery.proofs.Plans.{follows-push, next-at, map-push, counts-push, low-push}
use Rattle.recovery.proofs.collection.Collecting.follow.Goals as goal

pub returns-in-None-clause-plans : goal.returns-in-None-clause-plans
returns-in-None-clause-plans c h cov =
    let n = c.args.self.now in
    let jobs = c.loop-behind.plan.items in
    let ms = map job_of jobs in
    let base : c.base-base.result ≡ n.own.base = c.base-base.ensures.value ∙ ap (λ (z : TheCollecting). z.own.base) c.self.view_is in
    let long : c.base-base.result + c.loop-behind.behind + 1 ≡ suc (length (h ++ ms)) = omega (arith, base, length-append h ms, cov.many, length-map jobs job_of, c.loop-behind.invariant.many) in
    let agree : (q : ℕ) → q ≤ n.own.count → slice_index_or c.deref.result.now q 0 ≡ count_of q (h ++ ms) = λ q l. ap (λ (xs : List ℕ). slice_index_or xs q 0) c.deref.ensures.value ∙ c.loop-behind.invariant.counts h cov q l in
    record {
      follows = c.loop-behind.invariant.follows h cov;
      most = sym (next-at n c.deref.result.now (h ++ ms) (c.base-base.result + c.loop-behind.behind + 1) agree long) ∙ sym c.in-None.ensures.value;
    }

pub returns-in-None-clause-fits : goal.returns-in-None-clause-fits
returns-in-None-clause-fits c =
    let n = c.args.self.now in
    let base : c.base-base.result ≡ n.own.base = c.base-base.ensures.value ∙ ap (λ (z : TheCollecting). z.own.base) c.self.view_is in
    let few : length c.loop-behind.plan.items ≤ room_of n = omega (arith, c.loop-behind.invariant.many, c.loop-behind-test.true, c.min-most.ensures, base) in
    record { few = few; senders = c.loop-behind.invariant.senders }

pub returns-clause-none : goal.returns-clause-none
returns-clause-none c u =
    let n = c.args.self.now in
    let base : c.base-base.result ≡ n.own.base = c.base-base.ensures.value ∙ ap (λ (z : TheCollecting). z.own.base) c.self.view_is in
    let many : length c.loop-behind.plan.items ≡ room_of n + 1 = omega (arith, c.loop-behind.invariant.many, c.loop-behind-test.false, c.loop-behind.auto.behind-end, c.min-most.ensures, base) in
    record { jobs = c.loop-behind.plan.items; many = many; follows = c.loop-behind.invariant.follows }

pub overflow_add-index_mut : goal.overflow_add-index_mut
overflow_add-index_mut c =
    let n = c.args.self.now in
    let counts = c.loop-behind.counts.items in
    let s = c.in-Some.job.sender in
    let inside : s < length counts = omega (arith, c.in-Some.ensures.sender.0, c.loop-behind.invariant.wide) in
    let was : c.index_mut.result.now ≡ slice_index_or counts s 0 = c.index_mut.ensures.value ∙ get_or_default counts s c.index_mut.result.now 0 inside in
    let small : c.index_mut.result.now + 1 < 2 ^ 64 = omega (arith, was, c.loop-behind.invariant.low s, c.base-base.ensures.young, c.loop-behind-test.true) in
    search rules

pub loop-behind-preserved : goal.loop-behind-preserved
loop-behind-preserved c =
    let n = c.args.self.now in
    let jobs = c.loop-behind.plan.items in
    let job = c.in-Some.job in
    let ms = map job_of jobs in
    let counts = c.loop-behind.counts.items in
    let s = job.sender in
    let base : c.base-base.result ≡ n.own.base = c.base-base.ensures.value ∙ ap (λ (z : TheCollecting). z.own.base) c.self.view_is in
    let inside : s < length counts = omega (arith, c.in-Some.ensures.sender.0, c.loop-behind.invariant.wide) in
    let was : c.index_mut.result.now ≡ slice_index_or counts s 0 = c.index_mut.ensures.value ∙ get_or_default counts s c.index_mut.result.now 0 inside in
    let pushed : c.push.new.self.items ≡ jobs ++ job ∷ [] = first_of (search rules, grind (arith, common_steps)) in
    let messages : map job_of c.push.new.self.items ≡ ms ++ job_of job ∷ [] = ap (map job_of) pushed ∙ map-push jobs job in
    record {
      follows = λ h cov.
          let long : c.base-base.result + c.loop-behind.behind + 1 ≡ suc (length (h ++ ms)) = omega (arith, base, length-append h ms, cov.many, length-map jobs job_of, c.loop-behind.invariant.many) in
          let agree : (q : ℕ) → q ≤ n.own.count → slice_index_or c.deref.result.now q 0 ≡ count_of q (h ++ ms) = λ q l. ap (λ (xs : List ℕ). slice_index_or xs q 0) c.deref.ensures.value ∙ c.loop-behind.invariant.counts h cov q l in
          let next : if_next (h ++ ms) (told_under n.told n.own.count (suc (length (h ++ ms)))) ≡ Some (job_of job) =
          sym (next-at n c.deref.result.now (h ++ ms) (c.base-base.result + c.loop-behind.behind + 1) agree long) ∙ sym c.in-Some.ensures.value in
          let P : List Message → Type 0 = λ z. Follows (told_under n.told n.own.count) h z in
          subst P (sym messages) (follows-push (told_under n.told n.own.count) h ms (job_of job) (c.loop-behind.invariant.follows h cov) next);
      counts = λ h cov q l.
          ap (λ v. slice_index_or (slice_set counts s (v + 1)) q 0) was ∙ counts-push counts n.own.count (h ++ ms) (job_of job) inside (c.loop-behind.invariant.counts h cov) q l
          ∙ ap (count_of q) (append_assoc h ms (job_of job ∷ []) ∙ ap (λ (z : List Message). h ++ z) (sym messages));
      many = omega (arith, ap length pushed, length-append jobs (job ∷ []), c.loop-behind.invariant.many);
      senders =
          let P : List OpenJob → Type 0 = λ z. Each (λ (j : OpenJob). IsPeer n.own.me n.own.count j.sender) z in
          subst P (sym pushed) (each-append (λ (j : OpenJob). IsPeer n.own.me n.own.count j.sender) jobs (job ∷ []) c.loop-behind.invariant.senders (c.in-Some.ensures.sender, tt));
      wide = length-set counts s (c.index_mut.result.now + 1) ∙ c.loop-behind.invariant.wide;
      low = λ q.
          let most : slice_index_or (slice_set counts s (slice_index_or counts s 0 + 1)) q 0 ≤ c.base-base.result + c.loop-behind.behind + 1 = low-push counts s (c.base-base.result + c.loop-behind.behind) inside c.loop-behind.invariant.low q in
          let at : slice_index_or (slice_set counts s (c.index_mut.result.now + 1)) q 0 ≡ slice_index_or (slice_set counts s (slice_index_or counts s 0 + 1)) q 0 = ap (λ v. slice_index_or (slice_set counts s (v + 1)) q 0) was in
          omega (arith, most, at);
    }
