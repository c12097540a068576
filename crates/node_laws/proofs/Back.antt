-- What comes back of a process is what was lost
use Rattle.std.proofs.Common.{◌≡◌, inl, inr, ℕ, zero, suc, ◌+◌, ◌<◌, ◌≤◌, List, [], ◌∷◌, ◌++◌, length, take, drop, Bool, true, false, refl, sym, ap, ◌∙◌, subst, arith, append_assoc, append-nil}
use Rattle.std.specs.Prelude.{nat_lt, slice_index_or, if◌then◌else◌, ◌-◌}
use Rattle.std.proofs.lemmas.Bool.Decides.{nat_tests}
use Rattle.std.proofs.lemmas.List.{length-take, take_all, take-append-drop}
use Rattle.theorems.proofs.Changes.{at-itself}
use Rattle.theorems.proofs.ListLemmas.{take-take}
use Rattle.world.specs.Handlers.{Handlers}
use Rattle.world.specs.declared.message.Message.{Message}
use Rattle.cluster.specs.Cluster.{Cluster, durable_opening}
use Rattle.cluster.specs.Rules.{Act}
use Rattle.cluster.specs.Overlap.{Event, Acts as Happens, after_events}
use Rattle.cluster.specs.Exact.{acts_of, bare, IsRunOf}
use Rattle.cluster.proofs.Goes.{steps-on, acts-run}
use Rattle.cluster.proofs.Runs as worlds
use Rattle.cluster.specs.Promises.{AllAcknowledged}
use Rattle.cluster.proofs.Promised.{acknowledged-stay}
use Rattle.rsn.specs.Receipts.{run_of}
use Rattle.rsn.proofs.ReceiptLemmas.{run_of-bound}
use Rattle.node.specs.Node.{TheNode}
use Rattle.node.specs.Transmission.{run_at}
use Rattle.node.specs.Stands.{Each, Stands, IsAct}
use Rattle.node.specs.Answering.{Answering, handlers_of}
use Rattle.node.proofs.Commits.{long}
use Rattle.node.proofs.Answering.{grows}
use Rattle.recovery.specs.Collection.{TheCollecting}
use Rattle.recovery.specs.Replays.{TheReplaying}
use Rattle.recovery.specs.Stands.{StandsCollecting}
use Rattle.recovery.specs.StandsAtReplay.{StandsReplaying}
use Rattle.recovery.specs.Moment.{HadReceived}
use Rattle.recovery.proofs.Had.{keeps-what-it-had}
use Rattle.recovery.proofs.Lists.{each-append}
use Rattle.recovery.proofs.ReplayLemmas as replays
use Rattle.node_laws.specs.HostProcess.{IsFirst}
use Rattle.verifier.specs.declared.any_image.AnyImage.{AnyImage}
use Rattle.node_laws.specs.HostProcess.{Hosted, IsUp}
use Rattle.node_laws.specs.HostSystem as hosts
use Rattle.node_laws.specs.Agreement.{AllStand}
use Rattle.node_laws.specs.Inside.Process as lives
use Rattle.node_laws.specs.Inside.Process.{Process, Up, Covered, Collects, Replays, StandsAs, Recovers, Acts, as_process}
use Rattle.node_laws.specs.Inside.System.{System, Call, Did, DoesIt, after_call, after_calls, Along, AreExact, view}
use Rattle.node_laws.specs.Back.{length_of, received, HasBack}
use Rattle.node_laws.proofs.HostStep.{IsPart}
use Rattle.node_laws.proofs.Moments.{kept_of}
use Rattle.node_laws.proofs.Views.{AreGood, is-up}
use Rattle.node_laws.proofs.Led.{Led, onward}
use Rattle.node_laws.proofs.Lives.{Holds, all-stand}

-- the cluster after these events from the opening on, where no process is durable
abbrev pub ends : ℕ → Handlers → List Event → Cluster
ends n f es = after_events (durable_opening n f (λ q. false)) es

-- they are acts, and lead to where all of a system stand
pub record Reached (f : Handlers) (n : ℕ) (s : System) (es : List Event) : Type 0 where
  pub few : n ≤ 15
  pub led : Led f n (λ q. false) s es
  pub are : Each IsAct es

-- and go on
pub record GoesOn (f : Handlers) (n : ℕ) (s : System) (es : List Event) : Type 0 where
  pub more : List Event
  pub reached : Reached f n s (es ++ more)

pub none-on : (f : Handlers) (n : ℕ) (s : System) (es : List Event) → Reached f n s es → GoesOn f n s es
none-on f n s es r = record { more = []; reached = subst (Reached f n s) (sym (append-nil es)) r }

pub joined : (f : Handlers) (n : ℕ) (s : System) (es more : List Event) → GoesOn f n s (es ++ more) → GoesOn f n s es
joined f n s es more b = record { more = more ++ b.more; reached = subst (Reached f n s) (append_assoc es more b.more) b.reached }

-- they are a run of acts
pub is-run : (f : Handlers) (n : ℕ) (s : System) (es : List Event) → Reached f n s es → IsRunOf n f (acts_of es) (ends n f es)
is-run f n s es r = acts-run (durable_opening n f (λ q. false)) es r.are r.led.run

acts-append : (es more : List Event) → acts_of (es ++ more) ≡ acts_of es ++ acts_of more
acts-append [] more = refl
acts-append (Happens exact a ∷ es) more = ap (λ z. a ∷ z) (acts-append es more)
acts-append (e ∷ es) more = acts-append es more

pub is-longer : (f : Handlers) (n : ℕ) (s : System) (es more : List Event) → Reached f n s (es ++ more) → IsRunOf n f (acts_of es ++ acts_of more) (ends n f (es ++ more))
is-longer f n s es more r = subst (λ z. IsRunOf n f z (ends n f (es ++ more))) (acts-append es more) (is-run f n s (es ++ more) r)

-- what holds of what p received there holds of what it received by these acts
pub at-received : (n : ℕ) (f : Handlers) (acts : List Act) (c : Cluster) (p : ℕ) (P : List Message → Type 0) → IsRunOf n f acts c → P (c.world.history p) → P (received n f p acts)
at-received n f acts c p P r h = subst (λ (z : Cluster). P (z.world.history p)) (sym r.1) h

-- and so at two moments
pub both-received : (n : ℕ) (f : Handlers) (acts more : List Act) (c d : Cluster) (p k : ℕ) → IsRunOf n f acts c → IsRunOf n f (acts ++ more) d → take k (d.world.history p) ≡ take k (c.world.history p) → take k (received n f p (acts ++ more)) ≡ take k (received n f p acts)
both-received n f acts more c d p k r s e = at-received n f (acts ++ more) d p (λ z. take k z ≡ take k (received n f p acts)) s (at-received n f acts c p (λ z. take k (d.world.history p) ≡ take k z) r e)

-- by a call, and by parts of a call of a host: where all are exact behind it, its events are acts
pub one-on : (f : Answering) (states : ℕ → List ℕ) (n : ℕ) (s : System) (es : List Event) (k : Call) → Reached (handlers_of f states) n s es → DoesIt f n s k → AreExact n (after_call s k) → GoesOn (handlers_of f states) n (after_call s k) es
one-on f states n s es k r does exact =
    let one = onward f states n (λ q. false) s es k r.led does (λ p t. absurd (cc (t))) in
    let both = steps-on (durable_opening n (handlers_of f states) (λ q. false)) es one.events r.led.run one.run in
    record { more = one.events; reached = record { few = r.few; led = record { run = both.0; holds = subst (Holds (handlers_of f states) n (after_call s k)) (sym both.1) one.holds }; are = each-append IsAct es one.events r.are (one.acts exact) } }

pub goes-on : (f : Answering) (states : ℕ → List ℕ) (n : ℕ) (X A : Type 0) (E : ℕ → Type 0) → X → (s : System) (es : List Event) (ks : List Call) → Reached (handlers_of f states) n s es → Along (IsPart f n X A E) s ks → GoesOn (handlers_of f states) n (after_calls s ks) es
goes-on f states n X A E x s es [] r m = none-on (handlers_of f states) n s es r
goes-on f states n X A E x s es (k ∷ ks) r m =
    let one = one-on f states n s es k r m.0.does (m.0.exact x) in
    joined (handlers_of f states) n (after_calls (after_call s k) ks) es one.more (goes-on f states n X A E x (after_call s k) (es ++ one.more) ks one.reached m.1)

-- ---- what is acknowledged

run-true : (bs : List Bool) (i : ℕ) → i < run_of bs → slice_index_or bs i false ≡ true
run-true [] i l = absurd (omega (arith, l))
run-true (true ∷ bs) zero l = refl
run-true (true ∷ bs) (suc i) l = run-true bs i (omega (arith, l))
run-true (false ∷ bs) i l = absurd (omega (arith, l))

-- all up to where all are acknowledged
acknowledged-run : (n : TheNode) (c : Cluster) (p : ℕ) → Stands n c p → AllAcknowledged c p (run_at n)
acknowledged-run n c p s =
    let r = s.received in
    let flags : run_of n.receipts.acknowledged ≤ length n.receipts.senders = (let l : run_of n.receipts.acknowledged ≤ length n.receipts.acknowledged = run_of-bound n.receipts.acknowledged in omega (arith, l, r.flags)) in
    let many : length (c.world.history p) ≡ n.base + length n.receipts.senders = long n.count n.base n.covered n.receipts (c.world.history p) (c.world.acknowledged p) r in
    (omega (arith, flags, many), each)
  where
    each : (m : ℕ) → 0 < m → m ≤ run_at n → c.world.acknowledged p m ≡ true
    each zero l within = absurd (omega (arith, l))
    each (suc i) l within = by_place (nat_lt i n.base) refl
      where
        by_place : (b : Bool) → nat_lt i n.base ≡ b → c.world.acknowledged p (suc i) ≡ true
        by_place true e = s.received.below i (grind (arith, nat_tests))
        by_place false e =
            let above : n.base ≤ i = grind (arith, nat_tests) in
            let j : ℕ = i - n.base in
            let place : n.base + j ≡ i = omega (arith, above) in
            let inside : j < run_of n.receipts.acknowledged = omega (arith, within, above) in
            let few : j < length n.receipts.senders = (let b : run_of n.receipts.acknowledged ≤ length n.receipts.acknowledged = run_of-bound n.receipts.acknowledged in omega (arith, inside, b, s.received.flags)) in
            ap (λ k. c.world.acknowledged p (suc k)) (sym place) ∙ sym (s.received.acknowledged_is j few) ∙ run-true n.receipts.acknowledged j inside

-- so they stay the first that it received
acknowledged-on : (f : Answering) (states : ℕ → List ℕ) (n : ℕ) (s t : System) (es more : List Event) (p k : ℕ) → Reached (handlers_of f states) n s es → Reached (handlers_of f states) n t (es ++ more)
    → AllAcknowledged (ends n (handlers_of f states) es) p k → take k ((ends n (handlers_of f states) (es ++ more)).world.history p) ≡ take k ((ends n (handlers_of f states) es).world.history p)
acknowledged-on f states n s t es more p k one two all =
    let g : Handlers = handlers_of f states in
    let was = is-run g n s es one in
    let is = is-longer g n t es more two in
    let Q : Cluster → List Message = λ c. take k (c.world.history p) in
    sym (ap Q is.1) ∙ acknowledged-stay n g (acts_of es) (acts_of more) p k one.few (grows f states) is.0 (subst (λ z. AllAcknowledged z p k) (sym was.1) all) ∙ ap Q was.1

-- ---- nothing is lost

module _ (n : ℕ) (f : Handlers) (x y : hosts.System) (p : ℕ) (a b : TheNode) (acts more : List Act) (c d : Cluster) (one : IsRunOf n f acts c) (two : IsRunOf n f (acts ++ more) d) (before : AllStand n x c) (after : AllStand n y d)
    (s : Stands a c p) (t : Stands b d p) (same_was : c.world.handlers ≡ f) (same_is : d.world.handlers ≡ f) (k : take (run_at a) (d.world.history p) ≡ take (run_at a) (c.world.history p)) where
  was-long : length (c.world.history p) ≡ length_of a
  was-long = long a.count a.base a.covered a.receipts (c.world.history p) (c.world.acknowledged p) s.received

  is-long : length (d.world.history p) ≡ length_of b
  is-long = long b.count b.base b.covered b.receipts (d.world.history p) (d.world.acknowledged p) t.received

  state-was : f.state p (c.world.history p) ≡ a.state
  state-was = ap (λ (g : Handlers). g.state p (c.world.history p)) (sym same_was) ∙ s.state

  state-is : f.state p (d.world.history p) ≡ b.state
  state-is = ap (λ (g : Handlers). g.state p (d.world.history p)) (sym same_is) ∙ t.state

  comes-back : run_at a ≡ length_of a → length_of b ≡ length_of a → b.state ≡ a.state
  comes-back all as_many =
      let one : take (run_at a) (d.world.history p) ≡ d.world.history p = take_all (run_at a) (d.world.history p) (omega (arith, all, as_many, is-long)) in
      let two : take (run_at a) (c.world.history p) ≡ c.world.history p = take_all (run_at a) (c.world.history p) (omega (arith, all, was-long)) in
      sym state-is ∙ ap (f.state p) (sym one ∙ k ∙ two) ∙ state-was

  has-back : HasBack n f (AllStand n x) (AllStand n y) p a b
  has-back =
      record {
        acts = acts;
        more = more;
        run = two.0;
        before = (c, one.1, before);
        after = (d, two.1, after);
        many_was = at-received n f acts c p (λ h. length h ≡ length_of a) one was-long;
        many_is = at-received n f (acts ++ more) d p (λ h. length h ≡ length_of b) two is-long;
        state_was = at-received n f acts c p (λ h. f.state p h ≡ a.state) one state-was;
        state_is = at-received n f (acts ++ more) d p (λ h. f.state p h ≡ b.state) two state-is;
        acknowledged = subst (λ z. AllAcknowledged z p (run_at a)) (sym one.1) (acknowledged-run a c p s);
        within = (let low : run_at a ≤ length (c.world.history p) = (acknowledged-run a c p s).0 in omega (arith, low, ap length k, length-take (run_at a) (d.world.history p), length-take (run_at a) (c.world.history p), is-long));
        same = both-received n f acts more c d p (run_at a) one two k;
        back = comes-back;
      }

-- a process that is known stands so
stands-known : (f : Handlers) (n : ℕ) (s : System) (c : Cluster) (p : ℕ) (process : Process) → Holds f n s c → IsFirst n p → s.processes p ≡ process → StandsAs process c p
stands-known f n s c p process h first e = subst (λ z. StandsAs z c p) e (h.each p first).stands

-- so one that is up, and its node
stands-node : (m : TheNode) (process : Process) (c : Cluster) (p : ℕ) → lives.IsUp m process → StandsAs process c p → Stands m c p
stands-node m (Up n) c p e s = subst (λ z. Stands z c p) e s
stands-node m (Covered n) c p e s = subst (λ z. Stands z c p) e s.1
stands-node m other c p e s = absurd e

stands-up : (m : TheNode) (h : Hosted) (c : Cluster) (p : ℕ) → IsUp m h → StandsAs (as_process h) c p → Stands m c p
stands-up m h c p u s = stands-node m (as_process h) c p (is-up m h u) s

-- p is up in one system, and in a later one
pub nothing-is-lost : (images : ℕ → AnyImage) (f : Answering) (states : ℕ → List ℕ) (n : ℕ) (s t : hosts.System) (es : List Event) → AreGood images n s → AreGood images n t → Reached (handlers_of f states) n (view s) es → (two : GoesOn (handlers_of f states) n (view t) es)
    → (p : ℕ) (a b : TheNode) → IsFirst n p → IsUp a (s.processes p) → IsUp b (t.processes p) → HasBack n (handlers_of f states) (AllStand n s) (AllStand n t) p a b
nothing-is-lost images f states n s t es good_s good_t one two p a b first is_a is_b =
    let g : Handlers = handlers_of f states in
    let c : Cluster = ends n g es in
    let d : Cluster = ends n g (es ++ two.more) in
    let was : Holds g n (view s) c = one.led.holds in
    let is : Holds g n (view t) d = two.reached.led.holds in
    let up_a : Stands a c p = stands-up a (s.processes p) c p is_a (was.each p first).stands in
    has-back n g s t p a b (acts_of es) (acts_of two.more) c d (is-run g n (view s) es one) (is-longer g n (view t) es two.more two.reached) (all-stand images g n s c good_s was) (all-stand images g n t d good_t is)
    up_a (stands-up b (t.processes p) d p is_b (is.each p first).stands) was.handlers is.handlers (acknowledged-on f states n (view s) (view t) es two.more p (run_at a) one two.reached (acknowledged-run a c p up_a))

-- ---- what recovers

-- p collects in c, replays behind it, and then it is d
module _ (n : ℕ) (f : Handlers) (p : ℕ) (old : TheCollecting) (new : TheReplaying) (c b d : Cluster) (had : HadReceived c p old.own.base new.plan) (own : new.own ≡ old.own) (s : StandsReplaying new b p)
    (first : take old.own.base (b.world.history p) ≡ take old.own.base (c.world.history p)) (all : take (kept_of old new) (d.world.history p) ≡ take (kept_of old new) (b.world.history p)) where
  abbrev base : ℕ
  base = old.own.base

  abbrev k : ℕ
  k = kept_of old new

  base-is : new.own.base ≡ base
  base-is = ap (λ z. z.base) own

  many : length (b.world.history p) ≡ k
  many = (let l = replays.long new b p s in omega (arith, l, base-is))

  behind : drop base (b.world.history p) ≡ drop base (take k (c.world.history p))
  behind = ap (λ z. drop z (b.world.history p)) (sym base-is) ∙ s.behind ∙ had.same

  kept-same : take k (b.world.history p) ≡ take k (c.world.history p)
  kept-same =
      take_all k (b.world.history p) (omega (arith, many))
      ∙ sym (take-append-drop base (b.world.history p))
      ∙ ap (λ xs. xs ++ drop base (b.world.history p)) first
      ∙ ap (λ xs. take base (c.world.history p) ++ xs) behind
      ∙ ap (λ xs. xs ++ drop base (take k (c.world.history p))) (sym (take-take (c.world.history p) base k (omega arith)))
      ∙ take-append-drop base (take k (c.world.history p))

  pub stays-so : take k (d.world.history p) ≡ take k (c.world.history p)
  stays-so = all ∙ kept-same

  pub is-as-it-was : (m : TheNode) → Stands m d p → d.world.handlers ≡ f → length_of m ≡ k → f.state p (take k (c.world.history p)) ≡ m.state
  is-as-it-was m t handlers as_many =
      let long_is : length (d.world.history p) ≡ length_of m = long m.count m.base m.covered m.receipts (d.world.history p) (d.world.acknowledged p) t.received in
      let whole : take k (d.world.history p) ≡ d.world.history p = take_all k (d.world.history p) (omega (arith, long_is, as_many)) in
      ap (f.state p) (sym stays-so ∙ whole) ∙ ap (λ (g : Handlers). g.state p (d.world.history p)) (sym handlers) ∙ t.state

-- what it covers is acknowledged
acknowledged-covered : (c : Cluster) (p : ℕ) (old : TheCollecting) → worlds.Holds (bare c) → StandsCollecting old c p → AllAcknowledged c p old.own.base
acknowledged-covered c p old b t =
    (omega (arith, t.own.many, length-take old.own.base (c.world.history p)), λ m some low. (b.lawful.tidy p).covered (b.agrees.phases.live p) m some (omega (arith, low, t.own.saved)))

-- all that one has that replays
acknowledged-kept : (new : TheReplaying) (c : Cluster) (p k : ℕ) → StandsReplaying new c p → length (c.world.history p) ≡ k → AllAcknowledged c p k
acknowledged-kept new c p k s many = (omega (arith, many), λ m some low. s.acknowledged m (omega (arith, low, many)))

-- the call is a recovery
recovery-is : (old : TheCollecting) (new : TheReplaying) → Acts (Collects old) (Replays new) → Recovers old new
recovery-is old new (inl g) = let e : Replays new ≡ Collects g.0 = g.1.0 in absurd (cc (e))
recovery-is old new (inr g) = let e : new ≡ g.0 = (let z : Replays new ≡ Replays g.0 = g.1.0 in cc (z)) in subst (Recovers old) (sym e) g.1.1

-- it went on from these events: it had received what it keeps, and these stay its first messages; and when it is up with just these, its
-- state is the one that it had after them
pub record IsBack (n : ℕ) (f : Handlers) (s : hosts.System) (p : ℕ) (old : TheCollecting) (new : TheReplaying) (es : List Event) : Type 0 where
  pub more : List Event
  pub reached : Reached f n (view s) (es ++ more)
  pub had : HadReceived (ends n f es) p old.own.base new.plan
  pub stays : take (kept_of old new) ((ends n f (es ++ more)).world.history p) ≡ take (kept_of old new) ((ends n f es).world.history p)
  pub back : (m : TheNode) → IsUp m (s.processes p) → length_of m ≡ kept_of old new → f.state p (take (kept_of old new) ((ends n f es).world.history p)) ≡ m.state

pub recovers-exactly : (f : Answering) (states : ℕ → List ℕ) (n : ℕ) (s : System) (t : hosts.System) (p : ℕ) (old : TheCollecting) (new : TheReplaying) (es : List Event) → Reached (handlers_of f states) n s es → s.processes p ≡ Collects old
    → DoesIt f n s (Did p (Replays new)) → (two : GoesOn (handlers_of f states) n (after_call s (Did p (Replays new))) es) → GoesOn (handlers_of f states) n (view t) (es ++ two.more) → IsBack n (handlers_of f states) t p old new es
recovers-exactly f states n s t p old new es one is_old does two three =
    let g : Handlers = handlers_of f states in
    let k : Call = Did p (Replays new) in
    let first : IsFirst n p = does.0 in
    let c : Cluster = ends n g es in
    let b : Cluster = ends n g (es ++ two.more) in
    let was = is-run g n s es one in
    let collects : StandsCollecting old c p = stands-known g n s c p (Collects old) one.led.holds first is_old in
    let replays_so : StandsReplaying new b p = stands-known g n (after_call s k) b p (Replays new) two.reached.led.holds first (at-itself p (λ t. (if t then Replays new else s.processes p) ≡ Replays new) refl) in
    let recovers : Recovers old new = recovery-is old new (subst (λ z. Acts z (Replays new)) is_old does.1) in
    let P : ℕ → Type 0 = λ q. HadReceived c q old.own.base new.plan in
    let had : HadReceived c p old.own.base new.plan = subst P collects.own.me (keeps-what-it-had n g (acts_of es) c old new one.few (grows f states) was (subst (StandsCollecting old c) (sym collects.own.me) collects) recovers.all recovers.is) in
    let world : worlds.Holds (bare c) = subst worlds.Holds was.1 (worlds.run-holds n g (acts_of es) one.few (grows f states) was.0) in
    let first_same : take old.own.base (b.world.history p) ≡ take old.own.base (c.world.history p) = acknowledged-on f states n s (after_call s k) es two.more p old.own.base one two.reached (acknowledged-covered c p old world collects) in
    let many : length (b.world.history p) ≡ kept_of old new = (let long = replays.long new b p replays_so in let e : new.own.base ≡ old.own.base = ap (λ z. z.base) recovers.is.own in omega (arith, long, e)) in
    let assoc : (es ++ two.more) ++ three.more ≡ es ++ (two.more ++ three.more) = append_assoc es two.more three.more in
    let last : Reached g n (view t) (es ++ (two.more ++ three.more)) = subst (Reached g n (view t)) assoc three.reached in
    let d : Cluster = ends n g (es ++ (two.more ++ three.more)) in
    let all_same : take (kept_of old new) (d.world.history p) ≡ take (kept_of old new) (b.world.history p) =
    subst (λ xs. take (kept_of old new) ((ends n g xs).world.history p) ≡ take (kept_of old new) (b.world.history p)) assoc
    (acknowledged-on f states n (after_call s k) (view t) (es ++ two.more) three.more p (kept_of old new) two.reached three.reached (acknowledged-kept new b p (kept_of old new) replays_so many)) in
    record {
      more = two.more ++ three.more;
      reached = last;
      had = had;
      stays = stays-so n g p old new c b d had recovers.is.own replays_so first_same all_same;
      back = λ x is_x as_many. is-as-it-was n g p old new c b d had recovers.is.own replays_so first_same all_same x (stands-up x (t.processes p) d p is_x (last.led.holds.each p first).stands) last.led.holds.handlers as_many;
    }
