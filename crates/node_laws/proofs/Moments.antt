-- The moment of recovery among the acts of one call
use Rattle.std.proofs.Common.{◌≡◌, inl, inr, ℕ, ◌+◌, ◌≤◌, List, [], ◌∷◌, ◌++◌, length, map, true, refl, sym, ap, ◌∙◌, subst, arith}
use Rattle.std.specs.Prelude.{◌⊎◌}
use Rattle.std.proofs.lemmas.Bool.Decides.{nat_tests}
use Rattle.std.proofs.lemmas.List.{length-map}
use Rattle.node.specs.declared.job.OpenJob.{OpenJob}
use Rattle.node.specs.Node.{TheNode}
use Rattle.node.specs.Transmission.{ticked}
use Rattle.node.specs.Checkpoints.{froze, may_freeze}
use Rattle.gateway.proofs.Steps.{by-if}
use Rattle.recovery.proofs.RestorationInquiries.{only-below}
use Rattle.recovery.specs.Collection.{TheCollecting}
use Rattle.recovery.specs.Replays.{TheReplaying, is_over}
use Rattle.recovery.specs.Replayed.{TheReplayed}
use Rattle.recovery.specs.Restoration.{TheRestoring}
use Rattle.recovery.specs.Restoration as restores
use Rattle.node_laws.specs.HostProcess.{Checkpoint, Durable}
use Rattle.node_laws.specs.Inside.Process.{Process, Up, Covered, Collects, Replays, Replayed, Restores, Killed, Acts, seen}
use Rattle.node_laws.specs.Back.{length_of}
use Rattle.recovery.specs.declared.lifecycle.Lifecycle.{Lifecycle}
use Rattle.recovery.specs.declared.lifecycle.Lifecycle.TheVariants as lifecycle
use Rattle.process.proofs.Constancy.{ticked-stay}
use Rattle.node_laws.specs.HostBack.{has_recovered, plan_of, keeps}
use Rattle.node_laws.proofs.Chains.{Chain}

-- ---- what it isn't

-- it collects, or was killed
abbrev IsEarly : Process → Type 0
IsEarly (Collects n) = Unit {0}
IsEarly Killed = Unit {0}
IsEarly process = ⊥

not-early : {P : Type 0} (w : Checkpoint) (c : Lifecycle) → IsEarly (seen w c) → has_recovered c ≡ true → P
not-early w (lifecycle.Collecting n) e r = absurd (cc (r))
not-early w lifecycle.Passing e r = absurd (cc (r))
not-early Durable other e r = absurd e
not-early w other e r = absurd e

pub not-collecting : {P : Type 0} (w : Checkpoint) (c : Lifecycle) (n : TheCollecting) → seen w c ≡ Collects n → has_recovered c ≡ true → P
not-collecting w c n e r = not-early w c (subst IsEarly (sym e) tt) r

-- ---- behind the moment it keeps as many

froze-keeps : (n : TheNode) → length_of (froze n) ≡ length_of n
froze-keeps n = by-if (λ (m : TheNode). length_of m ≡ length_of n) (may_freeze n) (record n { frozen = true }) n (λ e. refl) (λ e. refl)

abbrev long : TheRestoring → ℕ
long n = n.own.base + length n.receipts.senders

asked-keeps : (n : TheRestoring) → long (restores.asked n) ≡ long n
asked-keeps n = ap long (only-below n (n.own.count + 1))

-- it is up, or has replayed all, with so many messages
abbrev Later : ℕ → Process → Type 0
Later k (Up n) = length_of n ≡ k
Later k (Covered n) = length_of n ≡ k
Later k (Replayed n) = n.own.base + length n.receipts.senders ≡ k
Later k (Restores n) = long n ≡ k
Later k process = ⊥

-- a node that is up sent again, or made a checkpoint
node-keeps : (n m : TheNode) → (m ≡ ticked n) ⊎ (m ≡ froze n) → length_of m ≡ length_of n
node-keeps n m (inl e) = ap length_of e ∙ ticked-stay length_of (λ to b m. refl) (λ logs m. refl) n
node-keeps n m (inr e) = ap length_of e ∙ froze-keeps n

-- one act more
act-later : (k : ℕ) (old new : Process) → Later k old → Acts old new → Later k new
act-later k (Up n) new l a = subst (Later k) (sym a.1.0) (node-keeps n a.0 a.1.1.0 ∙ l)
act-later k (Covered n) new l a = subst (Later k) (sym a.1.0) (node-keeps n a.0 a.1.1 ∙ l)
act-later k (Replayed n) new l a = subst (Later k) (sym a.1.0) (ap long a.1.1.0 ∙ asked-keeps (restores.begins n) ∙ l)
act-later k (Restores n) new l (inl a) = subst (Later k) (sym a.1.0) (ap long a.1.1.0 ∙ asked-keeps n ∙ l)
act-later k (Restores n) new l (inr a) = subst (Later k) (sym a.1.0) (ap length_of a.1.1.0 ∙ l)
act-later k other new l a = absurd l

later-end : (k : ℕ) (old : Process) (ps : List Process) (new : Process) → Later k old → Chain old ps new → Later k new
later-end k old [] new l c = subst (Later k) (sym c) l
later-end k old (next ∷ ps) new l c = later-end k next ps new (act-later k old next l c.0) c.1.1

-- what a host reads then
later-reads : (k : ℕ) (w : Checkpoint) (c : Lifecycle) → Later k (seen w c) → (plan_of c ≡ []) × (keeps c ≡ k)
later-reads k Durable (lifecycle.Up n) l = (refl, omega (arith, l))
later-reads k w (lifecycle.Collecting n) l = absurd l
later-reads k w (lifecycle.Replaying n) l = absurd l
later-reads k w lifecycle.Passing l = absurd l
later-reads k w other l = (refl, omega (arith, l))

-- it is the one that replays
abbrev Is : TheReplaying → Process → Type 0
Is r (Replays n) = r ≡ n
Is r process = ⊥

abbrev Reads : TheReplaying → Lifecycle → Type 0
Reads r c = (r.plan ≡ plan_of c) × (keeps c ≡ r.own.base + length r.plan)

is-reads : (r : TheReplaying) (w : Checkpoint) (c : Lifecycle) → r.done ≡ 0 → Is r (seen w c) → Reads r c
is-reads r Durable (lifecycle.Replaying n) none e = subst (λ z. Reads r (lifecycle.Replaying z)) e (refl, omega (arith, none))
is-reads r Durable other none e = absurd e
is-reads r w (lifecycle.Replaying n) none e = subst (λ z. Reads r (lifecycle.Replaying z)) e (refl, omega (arith, none))
is-reads r w other none e = absurd e

no-plan : (jobs : List OpenJob) → length jobs ≤ 0 → jobs ≡ []
no-plan [] e = refl
no-plan (j ∷ jobs) e = absurd (omega arith)

-- one that has replayed nothing yet: where it goes on, there is nothing
replays-end : (r : TheReplaying) (ps : List Process) (w : Checkpoint) (c : Lifecycle) → r.done ≡ 0 → Chain (Replays r) ps (seen w c) → Reads r c
replays-end r [] w c none e = is-reads r w c none (subst (Is r) (sym e) refl)
replays-end r (next ∷ ps) w c none chain =
    let a = chain.0 in
    let few : length r.plan ≤ r.done = (let e : is_over r ≡ true = a.1.1.1.1 in grind (arith, nat_tests)) in
    let empty : r.plan ≡ [] = no-plan r.plan (omega arith) in
    let many : length (map (λ (j : OpenJob). j.sender) r.plan) ≡ length r.plan = length-map r.plan (λ (j : OpenJob). j.sender) in
    let k : ℕ = r.own.base + length r.plan in
    let here : Later k (Replayed a.0) = ap (λ (z : TheReplayed). z.own.base + length z.receipts.senders) a.1.1.0 ∙ ap (λ m. r.own.base + m) many in
    let end = later-reads k w c (later-end k (Replayed a.0) ps (seen w c) here (subst (λ z. Chain z ps (seen w c)) a.1.0 chain.1.1)) in
    (empty ∙ sym end.0, end.1)

-- ---- the moment among acts

-- how many messages a process keeps that recovers
abbrev pub kept_of : TheCollecting → TheReplaying → ℕ
kept_of old new = old.own.base + length new.plan

pub record Cut (from : TheCollecting) (ps : List Process) (c : Lifecycle) : Type 0 where
  pub before : List Process
  pub behind : List Process
  pub collected : TheCollecting
  pub replays : TheReplaying
  pub is : ps ≡ before ++ Replays replays ∷ behind
  pub chain : Chain (Collects from) before (Collects collected)
  pub plan : replays.plan ≡ plan_of c
  pub kept : keeps c ≡ kept_of collected replays

pub cut : (from : TheCollecting) (ps : List Process) (w : Checkpoint) (c : Lifecycle) → has_recovered c ≡ true → Chain (Collects from) ps (seen w c) → Cut from ps c
cut from [] w c r e = not-collecting w c from e r
cut from (next ∷ ps) w c r chain = by-act (λ m rest. cut m ps w c r rest) chain.0
  where
    by-act : ((m : TheCollecting) → Chain (Collects m) ps (seen w c) → Cut m ps c) → Acts (Collects from) next → Cut from (next ∷ ps) c
    by-act goes (inl a) =
        let more : Cut a.0 ps c = goes a.0 (subst (λ z. Chain z ps (seen w c)) a.1.0 chain.1.1) in
        record {
          before = next ∷ more.before;
          behind = more.behind;
          collected = more.collected;
          replays = more.replays;
          is = ap (λ z. next ∷ z) more.is;
          chain = (chain.0, (chain.1.0, subst (λ z. Chain z more.before (Collects more.collected)) (sym a.1.0) more.chain));
          plan = more.plan;
          kept = more.kept;
        }
    by-act goes (inr a) =
        let new : TheReplaying = a.0 in
        let is = a.1.1.is in
        let end : Reads new c = replays-end new ps w c is.none (subst (λ z. Chain z ps (seen w c)) a.1.0 chain.1.1) in
        record {
          before = [];
          behind = ps;
          collected = from;
          replays = new;
          is = ap (λ z. z ∷ ps) a.1.0;
          chain = refl;
          plan = end.0;
          kept = end.1 ∙ ap (λ o. o.base + length new.plan) is.own;
        }

-- one that was killed does nothing
pub dead-end : {P : Type 0} (ps : List Process) (w : Checkpoint) (c : Lifecycle) → Chain Killed ps (seen w c) → has_recovered c ≡ true → P
dead-end [] w c e r = not-early w c (subst IsEarly (sym e) tt) r
dead-end (p ∷ ps) w c e r = absurd e.0
