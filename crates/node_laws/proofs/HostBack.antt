-- What a process keeps that recovers in a call of its host
use Rattle.std.proofs.Common.{◌≡◌, ℕ, ◌+◌, List, [], ◌∷◌, ◌++◌, length, take, refl, sym, ap, ◌∙◌, subst}
use Rattle.std.specs.Prelude.{if◌then◌else◌}
use Rattle.theorems.proofs.Changes.{choose}
use Rattle.world.specs.Handlers.{Handlers}
use Rattle.cluster.specs.Cluster.{Cluster, opening}
use Rattle.cluster.specs.Rules.{Act, after_run}
use Rattle.cluster.specs.Overlap.{Event}
use Rattle.cluster.specs.Exact.{acts_of, IsRunOf}
use Rattle.node.specs.declared.job.OpenJob.{OpenJob}
use Rattle.node.specs.Answering.{Answering}
use Rattle.recovery.specs.Moment.{HadReceived}
use Rattle.recovery.specs.declared.lifecycle.Lifecycle.TheVariants.{Collecting}
use Rattle.node_laws.specs.HostProcess.{IsFirst, Absent, Hosted, Runs}
use Rattle.node_laws.specs.HostReplies.{answering}
use Rattle.node_laws.specs.HostSystem.{System, start, after, handlers, after_call, after_calls}
use Rattle.node_laws.specs.HostBack.{still, plan_of, keeps}
use Rattle.node_laws.specs.HostLaws as laws
use Rattle.node_laws.specs.HostLaws.{HostedRecovers, HostedRecoversAlone}
use Rattle.node_laws.specs.Inside.Process.{Collects, Replays, as_process}
use Rattle.node_laws.specs.Inside.System.{System as Lived, Call, Did, Along, after_calls as ended, view}
use Rattle.node_laws.specs.Inside.System as called
use Rattle.node_laws.proofs.Lives.{Holds, all-stand}
use Rattle.node_laws.proofs.Sound.{raised-here}
use Rattle.node_laws.proofs.Back.{GoesOn, ends, is-run, is-longer, at-received, both-received, one-on, goes-on, joined, IsBack, recovers-exactly}
use Rattle.node_laws.proofs.HostStep.{StepsBy, IsPart, Moment, along-split, after-append}
use Rattle.node_laws.proofs.Views.{IsGood, AreGood, collects}
use Rattle.node_laws.proofs.Promised.{made, reached, at-end, trace-split, runs-on, after-more, exact-split, hosted-alone}

-- it had received these by the acts
had-run : (n : ℕ) (f : Handlers) (acts : List Act) (c : Cluster) (p base : ℕ) (jobs : List OpenJob) → IsRunOf n f acts c → HadReceived c p base jobs → HadReceived (after_run (opening n f) acts) p base jobs
had-run n f acts c p base jobs r h = subst (λ z. HadReceived z p base jobs) (sym r.1) (record { within = h.within; same = h.same; acknowledged = h.acknowledged; in_order = h.in_order })

pub hosted-recovers : HostedRecovers
hosted-recovers h calls more k few g e p now w l was is rec =
    let n : ℕ = h.n in
    let f : Answering = answering n h.images in
    let F : Handlers = handlers h in
    let s : System = after h calls in
    let s2 : System = after_call s k in
    let end : System = after h (calls ++ k ∷ more) in
    let all = made h (calls ++ k ∷ more) g in
    let t = trace-split h.images h.states n (start h) calls (k ∷ more) all in
    let exact = exact-split n (start h) calls (k ∷ more) e in
    let one = runs-on h.images h.states n (start h) [] calls (reached h few) t.0 exact.0 in
    let steps : StepsBy h.images n s k = t.1.1.0 in
    let from = collects (s.processes p) was in
    let m : Moment p s2 (view s) steps.calls now = steps.moment p l from.0 from.1 now w is rec in
    let did : Call = Did p (Replays m.replays) in
    let Part : Lived → Call → Type 0 = λ u c. IsPart f n (laws.AreExact n s2) (laws.FailsAlone n s k) (λ q. laws.KeepsDurable q k) u c in
    let parts = along-split Part (view s) m.before (did ∷ m.behind) (subst (λ z. Along Part (view s) z) m.is steps.are) in
    let u : Lived = ended (view s) m.before in
    let first = goes-on f h.states n _ _ (λ q. laws.KeepsDurable q k) exact.1.0 (view s) one.more m.before one.reached parts.0 in
    let es : List Event = one.more ++ first.more in
    let two : GoesOn F n (called.after_call u did) es = one-on f h.states n u es did first.reached parts.1.0.does (parts.1.0.exact exact.1.0) in
    let three = goes-on f h.states n _ _ (λ q. laws.KeepsDurable q k) exact.1.0 (called.after_call u did) (es ++ two.more) m.behind two.reached parts.1.1 in
    let there : ended (called.after_call u did) m.behind ≡ view s2 = sym (after-append (view s) m.before (did ∷ m.behind)) ∙ ap (ended (view s)) (sym m.is) ∙ steps.stand in
    let on : GoesOn F n (view s2) (es ++ two.more) = subst (λ z. GoesOn F n z (es ++ two.more)) there three in
    let last = runs-on h.images h.states n s2 ((es ++ two.more) ++ on.more) more on.reached t.1.1.1 exact.1.1 in
    let rest : GoesOn F n (view end) (es ++ two.more) = subst (λ z. GoesOn F n (view z) (es ++ two.more)) (sym (after-more (start h) calls (k ∷ more))) (joined F n (view (after_calls s2 more)) (es ++ two.more) on.more last) in
    let new : Hosted = Runs (record now { lifecycle = Collecting m.collected }) Absent in
    let here : u.processes p ≡ Collects m.collected = ap (λ (z : Lived). z.processes p) m.stand ∙ ap as_process (raised-here s2.processes p new) in
    let b : IsBack n F end p m.collected m.replays es = recovers-exactly f h.states n u end p m.collected m.replays es first.reached here parts.1.0.does two rest in
    let c : Cluster = ends n F es in
    let d : Cluster = ends n F (es ++ b.more) in
    let goods : AreGood h.images n (still s2 p now m.collected) = choose p (λ j d. IsFirst n j → IsGood (h.images j) (if d then new else s2.processes j)) (λ q. ((subst (IsGood (h.images p)) is (steps.good p l)).0, (refl, (tt, tt)))) (λ j o q. steps.good j q) in
    let ran = is-run F n u es first.reached in
    let runs = is-longer F n (view end) es b.more b.reached in
    record {
      collected = m.collected;
      acts = acts_of es;
      more = acts_of b.more;
      run = runs.0;
      before = (c, ran.1, all-stand h.images F n (still s2 p now m.collected) c goods (subst (λ z. Holds F n z c) m.stand first.reached.led.holds));
      after = (d, runs.1, all-stand h.images F n end d (at-end h.images h.states n (start h) (calls ++ k ∷ more) all).good b.reached.led.holds);
      had = had-run n F (acts_of es) c p m.collected.own.base (plan_of now.lifecycle) ran (subst (HadReceived c p m.collected.own.base) m.plan b.had);
      kept = m.kept ∙ ap (λ (z : List OpenJob). m.collected.own.base + length z) m.plan;
      stays = both-received n F (acts_of es) (acts_of b.more) c d p (keeps now.lifecycle) ran runs (subst (λ j. take j (d.world.history p) ≡ take j (c.world.history p)) (sym m.kept) b.stays);
      back = λ x up many. at-received n F (acts_of es) c p (λ z. F.state p (take (keeps now.lifecycle) z) ≡ x.state) ran (subst (λ j. F.state p (take j (c.world.history p)) ≡ x.state) (sym m.kept) (b.back x up (many ∙ m.kept)));
    }

pub hosted-recovers-alone : HostedRecoversAlone
hosted-recovers-alone h calls more k few g one = hosted-recovers h calls more k few g (hosted-alone h (calls ++ k ∷ more) few g one)
