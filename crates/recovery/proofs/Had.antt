-- In each run what recovers keeps what it had received
use Rattle.std.proofs.Common.{◌≡◌, ℕ, ◌+◌, ◌≤◌, List, [], ◌∷◌, ◌++◌, length, map, take, drop, true, false, refl, sym, ap, ◌∙◌, subst, arith}
use Rattle.std.specs.Prelude.{nat_lt, if◌then◌else◌}
use Rattle.std.proofs.lemmas.List.{length-take}
use Rattle.world.specs.Handlers.{Handlers}
use Rattle.world.specs.Phases.{Replaying}
use Rattle.world.specs.World.{put}
use Rattle.world.specs.Calls.{peers}
use Rattle.theorems.specs.Growth.{Grows}
use Rattle.theorems.proofs.Changes.{at-itself}
use Rattle.cluster.specs.Cluster.{Cluster, opening}
use Rattle.cluster.specs.Rules.{Act, Recovers, Run, does, after_run, kept_by, goes_on, taken_back}
use Rattle.cluster.specs.Exact.{bare, IsRunOf}
use Rattle.cluster.specs.Promises.{NoOrphanNode, OutputOnce, ReceivedOnce, RecoversAll, AllAcknowledged}
use Rattle.cluster.proofs.Promised.{nodes-keep, nodes-recover, acknowledged-stay}
use Rattle.node.specs.Stands.{job_of}
use Rattle.node.proofs.Steps.{run-on}
use Rattle.recovery.specs.Collection.{TheCollecting}
use Rattle.recovery.specs.Stands.{StandsCollecting}
use Rattle.recovery.specs.Plan.{has_all, MayRecover}
use Rattle.recovery.specs.Replays.{TheReplaying}
use Rattle.recovery.specs.Moment.{Recovered, HadReceived, KeepsWhatItHad}
use Rattle.recovery.proofs.Moments.{by-cluster}
use Rattle.recovery.proofs.Orders.{back-part}
use Rattle.recovery.proofs.Plans.{recovering}

-- what it received then is what it keeps
recovered-history : (c : Cluster) (p k : ℕ) → (does c (Recovers p k)).world.history p ≡ kept_by c p k
recovered-history c p k =
    by-cluster (λ d. d.world.history p ≡ kept_by c p k) (nat_lt (c.world.saved p) k) (record (taken_back c p k) { world = record (taken_back c p k).world { phase = put c.world.phase p (Replaying 0 false false) } }) (goes_on (taken_back c p k) p (peers c.world p false))
    (λ e. back) (λ e. back)
  where
    back : (taken_back c p k).world.history p ≡ kept_by c p k
    back = at-itself p (λ b. (if b then kept_by c p k else c.world.history p) ≡ kept_by c p k) refl

module _ (count : ℕ) (f : Handlers) (acts : List Act) (c : Cluster) (n : TheCollecting) (r : TheReplaying) (few : count ≤ 15) (grows : Grows f) (run : IsRunOf count f acts c) (s : StandsCollecting n c n.own.me)
    (all : has_all n ≡ true) (is : Recovered n r) where
  abbrev p : ℕ
  p = n.own.me

  abbrev base : ℕ
  base = n.own.base

  abbrev k : ℕ
  k = base + length r.plan

  abbrev act : Act
  act = Recovers p k

  may-recover : MayRecover n r.plan c
  may-recover = recovering n r.plan is.plans all c s

  one : Run (after_run (opening count f) acts) (act ∷ [])
  one = subst (λ d. Run d (act ∷ [])) (sym run.1) (may-recover.may, tt)

  more : Run (opening count f) (acts ++ act ∷ [])
  more = (run-on (opening count f) acts (act ∷ []) run.0 one).0

  then-is : after_run (opening count f) (acts ++ act ∷ []) ≡ does (bare c) act
  then-is = (run-on (opening count f) acts (act ∷ []) run.0 one).1 ∙ ap (λ d. does d act) run.1

  recovers : RecoversAll (bare c) p k
  recovers = subst (λ d. RecoversAll d p k) run.1 (nodes-recover count f acts p k few grows more)

  kept-is : take base (c.world.history p) ++ map job_of r.plan ≡ take k (c.world.history p)
  kept-is = sym may-recover.kept ∙ sym (recovered-history (bare c) p k) ∙ recovers.same

  acknowledged-is : (m : ℕ) → AllAcknowledged c p m → m ≤ k
  acknowledged-is m a =
      let stays : take m ((after_run (opening count f) (acts ++ act ∷ [])).world.history p) ≡ take m (c.world.history p) =
      (let P : Cluster → Type 0 = λ d. AllAcknowledged d p m → take m ((after_run (opening count f) (acts ++ act ∷ [])).world.history p) ≡ take m (d.world.history p) in subst P run.1 (acknowledged-stay count f acts (act ∷ []) p m few grows more) a) in
      let now : (after_run (opening count f) (acts ++ act ∷ [])).world.history p ≡ take k (c.world.history p) = ap (λ (d : Cluster). d.world.history p) then-is ∙ recovers.same in
      let first : take m (take k (c.world.history p)) ≡ take m (c.world.history p) = ap (take m) (sym now) ∙ stays in
      omega (arith, ap length first, length-take m (take k (c.world.history p)), length-take k (c.world.history p), length-take m (c.world.history p), a.0)

  had-received : HadReceived c p base r.plan
  had-received = record {
    within = recovers.within;
    same = sym (back-part (take base (c.world.history p)) (map job_of r.plan) base (let many : base ≤ length (take base (c.world.history p)) = s.own.many in omega (arith, many, length-take base (c.world.history p)))) ∙ ap (drop base) kept-is;
    acknowledged = acknowledged-is;
    in_order = (let P : Cluster → Type 0 = λ d. NoOrphanNode d × OutputOnce d × ReceivedOnce d in let keeps : P (bare c) = subst P run.1 (nodes-keep count f acts few grows run.0) in keeps.2.next p);
  }

pub keeps-what-it-had : KeepsWhatItHad
keeps-what-it-had count f acts c n r few grows run s all is = had-received count f acts c n r few grows run s all is
