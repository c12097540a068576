use Rattle.std.proofs.Common.{◌≡◌, ◌≢◌, ◌+◌, ◌<◌, ℕ, List, [], length, ap, sym, ◌∙◌, arith}
use Rattle.std.specs.Prelude.{Option, Some, None, slice_index_or}
use Rattle.node.specs.declared.job.OpenJob.{OpenJob}
use Rattle.std.proofs.lemmas.List.{get_or_default}
use Rattle.world.specs.declared.message.Message.{Message}
use Rattle.node.specs.Stands.{job_of}
use Rattle.packets.specs.Says.{first_told}
use Rattle.recovery.specs.Collected.{TheCollected, none_told}
use Rattle.recovery.specs.Collection.{TheCollecting, told_of}
use Rattle.recovery.proofs.Plans.{first-at}
use Rattle.recovery.proofs.collection.Collecting.find.Goals as goal

-- what was found at the place of a peer is what that peer told
told-here : (n : TheCollecting) (items : List TheCollected) (q number : ℕ) (told : TheCollected) (job : OpenJob) → items ≡ n.told → q < length items → told ≡ slice_index_or items q told → first_told q told.entries number ≡ Some (job_of job)
    → first_told q (told_of n.told q).entries number ≡ Some (job_of job)
told-here n items q number told job same inside at found =
    let is : told ≡ told_of n.told q = at ∙ get_or_default items q told (none_told 0) inside ∙ ap (λ (l : List TheCollected). told_of l q) same in
    ap (λ (t : TheCollected). first_told q t.entries number) (sym is) ∙ found

pub returns-in-Some-clause-value : goal.returns-in-Some-clause-value
returns-in-Some-clause-value c =
    let n = c.args.self.now in
    let q = c.loop-sender.sender in
    let items = c.self.inside.told.items in
    let count : c.self.inside.own.count ≡ n.own.count = ap (λ (z : TheCollecting). z.own.count) c.self.view_is in
    let low : q < n.own.count + 1 = omega (arith, count, c.count-sender-end.ensures.value, c.loop-sender-test.true) in
    let here = told-here n items q c.args.number c.index.result.now c.in-Some.job (ap (λ (z : TheCollecting). z.told) c.self.view_is) (omega (arith, c.self.invariant.wide, low, count)) c.index.ensures (sym c.in-Some.ensures.value) in
    let f : ℕ → Option Message = λ z. first_told z (told_of n.told z).entries c.args.number in
    sym (first-at f q (n.own.count + 1) (job_of c.in-Some.job) c.loop-sender.invariant here low)

-- a process tells itself nothing
own-none : (n : TheCollecting) (q number : ℕ) (job : OpenJob) → (told_of n.told n.own.me).entries ≡ [] → first_told q (told_of n.told q).entries number ≡ Some (job_of job) → q ≢ n.own.me
own-none n q number job alone here e =
    let none : (told_of n.told q).entries ≡ [] = ap (λ z. (told_of n.told z).entries) e ∙ alone in
    let nothing : first_told q (told_of n.told q).entries number ≡ None = ap (λ es. first_told q es number) none in
    absurd (let f : Some (job_of job) ≡ None = sym here ∙ nothing in cc)

pub returns-in-Some-clause-sender : goal.returns-in-Some-clause-sender
returns-in-Some-clause-sender c =
    let n = c.args.self.now in
    let q = c.loop-sender.sender in
    let items = c.self.inside.told.items in
    let count : c.self.inside.own.count ≡ n.own.count = ap (λ (z : TheCollecting). z.own.count) c.self.view_is in
    let low : q < n.own.count + 1 = omega (arith, count, c.count-sender-end.ensures.value, c.loop-sender-test.true) in
    let here = told-here n items q c.args.number c.index.result.now c.in-Some.job (ap (λ (z : TheCollecting). z.told) c.self.view_is) (omega (arith, c.self.invariant.wide, low, count)) c.index.ensures (sym c.in-Some.ensures.value) in
    let alone : (told_of n.told n.own.me).entries ≡ [] = ap (λ (z : TheCollecting). (told_of z.told z.own.me).entries) (sym c.self.view_is) ∙ c.self.invariant.alone in
    (omega (arith, c.in-Some.ensures.sender, low), λ e. own-none n q c.args.number c.in-Some.job alone here (sym c.in-Some.ensures.sender ∙ e))
