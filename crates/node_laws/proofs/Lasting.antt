-- What is stored of processes, and what anyone has from durable ones, whatever fails
use Rattle.std.proofs.Common.{◌≡◌, inl, inr, ℕ, ◌<◌, List, [], ◌∷◌, ◌++◌, take, Bool, true, false, refl, sym, ap, ◌∙◌, subst, arith, append_assoc, append-nil}
use Rattle.std.specs.Prelude.{Some, ◌==◌, if◌then◌else◌}
use Rattle.std.proofs.lemmas.Bool.Decides.{nat_tests}
use Rattle.theorems.specs.Growth.{Begins}
use Rattle.theorems.proofs.Changes.{at-itself}
use Rattle.theorems.proofs.ListLemmas.{begins-self, begins-trans}
use Rattle.world.specs.declared.message.Message.{Message}
use Rattle.world.specs.History.{nth}
use Rattle.world.specs.Handlers.{Handlers}
use Rattle.cluster.specs.Cluster.{Cluster}
use Rattle.cluster.specs.Overlap.{Event}
use Rattle.packets.specs.declared.packet.NodePacket.{NodePacket}
use Rattle.node.specs.Node.{TheNode}
use Rattle.node.specs.Answering.{IsOne}
use Rattle.node.specs.Stands.{Each}
use Rattle.node.proofs.Lists.{all-more}
use Rattle.node.proofs.Answering.{grows, one-was}
use Rattle.recovery.specs.declared.lifecycle.Lifecycle.{Lifecycle}
use Rattle.recovery.specs.declared.lifecycle.Lifecycle.TheVariants.{Passing}
use Rattle.recovery.proofs.Lists.{each-append}
use Rattle.recovery.proofs.Orders.{in-order-first}
use Rattle.stores.specs.declared.change.Output.{Output}
use Rattle.node_laws.specs.HostProcess.{IsFirst, IsUp, Pending, Hosted, Runs, Has}
use Rattle.node_laws.specs.HostReplies.{answering}
use Rattle.node_laws.specs.HostSystem.{System, Hosting, HostCall, Stored, DoesIt, start, after, after_call, after_calls, Makes, handlers}
use Rattle.node_laws.specs.HostSystem as hosts
use Rattle.node_laws.specs.HostLaws.{StaysDurable, AreDurable, gave_by, given_by, outputs_of, HostedStays, HostedLast, HostedKeep}
use Rattle.node_laws.specs.Durable.{AreAfter, IsSentBy, HasAfter, Knows}
use Rattle.node_laws.specs.Inside.Process.{Process, as_process, stage_of, seen}
use Rattle.node_laws.specs.Inside.System.{view}
use Rattle.node_laws.proofs.Believed.{believed}
use Rattle.node_laws.proofs.Lives.{WasPut}
use Rattle.node_laws.proofs.Views.{is-up}
use Rattle.node_laws.proofs.Messages.{messages, are-first, are-after, has-more, covered-first}
use Rattle.node_laws.proofs.Bearing.{IsBorne, sent, said, knows}
use Rattle.node_laws.proofs.Led.{Led}
use Rattle.node_laws.proofs.HostEvents.{at_last, stay-at, firm-at, LedBy, leads-by, leads-first}
use Rattle.node_laws.proofs.Promised.{Trace, made, trace-split, calls-split, after-more}

-- ---- at a moment

module _ (h : Hosting) (D : ℕ → Bool) (proper : (p : ℕ) → D p ≡ true → IsFirst h.n p) (s : System) (es : List Event) (r : Led (handlers h) h.n D (view s) es) where
  abbrev F : Handlers
  F = handlers h

  abbrev c : Cluster
  c = at_last h D es

  abbrev process : ℕ → Process
  process p = as_process (s.processes p)

  abbrev pub kept_now : ℕ → List Message
  kept_now p = messages (process p) c p

  some : (p : ℕ) → D p ≡ true → 0 < p
  some p e = (proper p e).0

  pub stored-now : (p : ℕ) → IsFirst h.n p → AreAfter h.n F p (kept_now p) (s.stored p)
  stored-now p l = subst (λ k. AreAfter k F p (kept_now p) (s.stored p)) r.holds.count (are-after F (process p) c p (s.stored p) r.holds.handlers (r.holds.each p l).stored)

  pub up-now : (p : ℕ) → IsFirst h.n p → (m : TheNode) → IsUp m (s.processes p) → (has : HasAfter F p (kept_now p) m) × (kept_now p ++ has.rest ≡ c.world.history p)
  up-now p l m e = has-more F (process p) m c p r.holds.handlers (r.holds.each p l).stands (is-up m (s.processes p) e)

  pub knows-now : (p : ℕ) (hs : List Message) → Begins hs (c.world.history p) → Knows F D kept_now p hs
  knows-now p hs b =
      let ordered = (believed h.n F D es (grows (answering h.n h.images) h.states) r.run).ordered p in
      subst (λ (g : Handlers). Knows g D kept_now p hs) r.holds.handlers (knows D c (firm-at h D es r.run) process some p hs (λ k. in-order-first c p k ordered) b)

  pub said-now : (x : NodePacket) → D x.from ≡ true → IsOne x s.given → IsSentBy F x.from (kept_now x.from) x
  said-now x d i = subst (λ (g : Handlers). IsSentBy g x.from (kept_now x.from) x) r.holds.handlers (said D c (firm-at h D es r.run) process some x d (one-was (WasPut c) x s.given r.holds.given i))

  pub borne-now : (os : List Output) → Each (IsBorne D c) os → Each (λ (o : Output). D o.process ≡ true → nth (F.sends o.process (kept_now o.process) 0) o.ssn ≡ Some o.payload) os
  borne-now os b =
      subst (λ (g : Handlers). Each (λ (o : Output). D o.process ≡ true → nth (g.sends o.process (kept_now o.process) 0) o.ssn ≡ Some o.payload) os) r.holds.handlers
      (all-more (IsBorne D c) (λ (o : Output). D o.process ≡ true → nth (c.world.handlers.sends o.process (kept_now o.process) 0) o.ssn ≡ Some o.payload) os (λ o t d. sent D c (firm-at h D es r.run) process some o.process 0 o.ssn o.payload d (t d)) b)

-- p gave it by then
abbrev Gave : ℕ → System → NodePacket → Type 0
Gave p s x = (x.from ≡ p) × IsOne x s.given

-- these messages are stored of p, and if it is durable, they send all these packets
record At (h : Hosting) (D : ℕ → Bool) (p : ℕ) (s : System) (packets : List NodePacket) (messages : List Message) : Type 0 where
  stored : AreAfter h.n (handlers h) p messages (s.stored p)
  given : D p ≡ true → Each (IsSentBy (handlers h) p messages) packets

-- and if it is up, it has them, or more
abbrev AtEnd : Hosting → (ℕ → Bool) → ℕ → System → List NodePacket → List Message → Type 0
AtEnd h D p s packets messages = At h D p s packets messages × ((m : TheNode) → IsUp m (s.processes p) → HasAfter (handlers h) p messages m)

at-now : (h : Hosting) (D : ℕ → Bool) → ((p : ℕ) → D p ≡ true → IsFirst h.n p) → (p : ℕ) → IsFirst h.n p → (s : System) (es : List Event) → Led (handlers h) h.n D (view s) es → (packets : List NodePacket) → Each (Gave p s) packets
    → AtEnd h D p s packets (messages (as_process (s.processes p)) (at_last h D es) p)
at-now h D proper p l s es r packets gave =
    let Sent : ℕ → NodePacket → Type 0 = λ q x. IsSentBy (handlers h) q (messages (as_process (s.processes q)) (at_last h D es) q) x in (
      record {
        stored = stored-now h D proper s es r p l;
        given = λ d. all-more (Gave p s) (Sent p) packets (λ x o. subst (λ q. Sent q x) o.0 (said-now h D proper s es r x (subst (λ q. D q ≡ true) (sym o.0) d) o.1)) gave;
      },
      λ m e. (up-now h D proper s es r p l m e).0,
    )

-- the first of them with the others behind them
at-more : (h : Hosting) (D : ℕ → Bool) (p : ℕ) (s : System) (packets : List NodePacket) (first all : List Message) (b : Begins first all) → AtEnd h D p s packets all → AtEnd h D p s packets (first ++ b.0)
at-more h D p s packets first all b at = subst (AtEnd h D p s packets) (sym b.1) at

-- ---- what was given

-- what was given stays
given-stays : (s : System) (k : HostCall) (x : NodePacket) → IsOne x s.given → IsOne x (after_call s k).given
given-stays s (hosts.Gave q y new) x i = inr i
given-stays s (hosts.GaveBytes q y bytes new) x i = inr i
given-stays s (hosts.GaveOut y new) x i = inr i
given-stays s other x i = i

given-later : (s : System) (ks : List HostCall) (x : NodePacket) → IsOne x s.given → IsOne x (after_calls s ks).given
given-later s [] x i = i
given-later s (k ∷ ks) x i = given-later (after_call s k) ks x (given-stays s k x i)

-- p's packet is among it
gave-one : (p : ℕ) (s : System) (b : Bool) (x : NodePacket) → Each (λ (y : NodePacket). y.from ≡ p) (if b then x ∷ [] else []) → Each (λ (y : NodePacket). (y.from ≡ p) × IsOne y (x ∷ s.given)) (if b then x ∷ [] else [])
gave-one p s true x o = ((o.0, inl refl), tt)
gave-one p s false x o = tt

gave-here : (p : ℕ) (s : System) (k : HostCall) → Each (λ (y : NodePacket). y.from ≡ p) (gave_by p k) → Each (Gave p (after_call s k)) (gave_by p k)
gave-here p s (hosts.Gave q x new) o = gave-one p s (q == p) x o
gave-here p s (hosts.GaveBytes q x bytes new) o = gave-one p s (q == p) x o
gave-here p s other o = tt

gave-all : (h : Hosting) (p : ℕ) (s : System) (ks : List HostCall) → Trace h.images h.states h.n s ks → Each (Gave p (after_calls s ks)) (given_by p ks)
gave-all h p s [] t = tt
gave-all h p s (k ∷ ks) t =
    let to : System = after_calls (after_call s k) ks in
    each-append (Gave p to) (gave_by p k) (given_by p ks)
    (all-more (Gave p (after_call s k)) (Gave p to) (gave_by p k) (λ x o. (o.0, given-later (after_call s k) ks x o.1)) (gave-here p s k (t.1.0.gave p)))
    (gave-all h p (after_call s k) ks t.1.1)

given-more : (p : ℕ) (ks more : List HostCall) → given_by p (ks ++ more) ≡ given_by p ks ++ given_by p more
given-more p [] more = refl
given-more p (k ∷ ks) more = ap (λ z. gave_by p k ++ z) (given-more p ks more) ∙ sym (append_assoc (gave_by p k) (given_by p ks) (given_by p more))

each-first : {X : Type 0} (P : X → Type 0) (xs ys : List X) → Each P (xs ++ ys) → Each P xs
each-first P [] ys a = tt
each-first P (x ∷ xs) ys a = (a.0, each-first P xs ys a.1)

-- ---- when another checkpoint is stored

abbrev is_storing : ℕ → HostCall → Bool
is_storing p (Stored q bytes) = p == q
is_storing p k = false

-- of these calls the first ones store nothing of p, and behind them comes one that does, or none
abbrev Stops : ℕ → List HostCall → Type 0
Stops p [] = Unit {0}
Stops p (k ∷ ks) = is_storing p k ≡ true

record Apart (p : ℕ) (s : System) (ks : List HostCall) : Type 0 where
  before : List HostCall
  behind : List HostCall
  joined : before ++ behind ≡ ks
  same : (after_calls s before).stored p ≡ s.stored p
  stops : Stops p behind

-- another call leaves what is stored of p
stores-no : (p : ℕ) (s : System) (k : HostCall) → is_storing p k ≡ false → (after_call s k).stored p ≡ s.stored p
stores-no p s (Stored q bytes) e = rw e refl
stores-no p s other e = refl

apart-next : (p : ℕ) (s : System) (k : HostCall) (ks : List HostCall) → Apart p (after_call s k) ks → (b : Bool) → is_storing p k ≡ b → Apart p s (k ∷ ks)
apart-next p s k ks rest true e = record { before = []; behind = k ∷ ks; joined = refl; same = refl; stops = e }
apart-next p s k ks rest false e = record { before = k ∷ rest.before; behind = rest.behind; joined = ap (λ z. k ∷ z) rest.joined; same = rest.same ∙ stores-no p s k e; stops = rest.stops }

apart : (p : ℕ) (s : System) (ks : List HostCall) → Apart p s ks
apart p s [] = record { before = []; behind = []; joined = refl; same = refl; stops = tt }
apart p s (k ∷ ks) = apart-next p s k ks (apart p (after_call s k) ks) (is_storing p k) refl

-- where one is stored next, the process waits for it, and was told of the last
module _ (c : Cluster) (p : ℕ) where
  abbrev IsTold : Process → Type 0
  IsTold process = messages process c p ≡ take (c.world.saved p) (c.world.history p)

  told-stage : (l : Lifecycle) → IsTold (stage_of l)
  told-stage Passing = refl
  told-stage other = refl

  told-pending : (bytes : List ℕ) (host : Hosted) → Has (λ w. w ≡ Pending bytes) host → IsTold (as_process host)
  told-pending bytes (Runs process w) e = subst (λ z. IsTold (seen z process.lifecycle)) (sym e) (told-stage process.lifecycle)
  told-pending bytes other e = absurd e

  told-before : (h : Hosting) (s : System) (k : HostCall) → is_storing p k ≡ true → DoesIt h.images h.n s k → IsTold (as_process (s.processes p))
  told-before h s (Stored q bytes) e m =
      let same : q ≡ p = grind (arith, nat_tests) in
      told-pending bytes (s.processes p) (subst (λ z. Has (λ w. w ≡ Pending bytes) (s.processes z)) same m.1)
  told-before h s other e m = absurd (cc (e))

-- ---- at two moments

-- at the first these messages were stored of p, and at the second these and more
record Between (h : Hosting) (D : ℕ → Bool) (p : ℕ) (calls more : List HostCall) : Type 0 where
  was : List Message
  rest : List Message
  early : At h D p (after h calls) (given_by p calls) was
  late : AtEnd h D p (after h (calls ++ more)) (given_by p (calls ++ more)) (was ++ rest)

durable-split : (p : ℕ) (ks more : List HostCall) → StaysDurable p (ks ++ more) → StaysDurable p ks × StaysDurable p more
durable-split p [] more d = (tt, d)
durable-split p (k ∷ ks) more d = let r = durable-split p ks more d.1 in ((d.0, r.0), r.1)

-- where the second is the first, or another checkpoint is stored next
next-between : (h : Hosting) (D : ℕ → Bool) (p : ℕ) (calls more : List HostCall) → IsFirst h.n p → Makes h (calls ++ more) → AreDurable h D (calls ++ more) → Stops p more → Between h D p calls more
next-between h D p calls [] l g lasting stops =
    let t = made h (calls ++ []) g in
    let on : LedBy h D (start h) [] (calls ++ []) = leads-first h D (calls ++ []) t lasting in
    let end : System = after h (calls ++ []) in
    let packets : List NodePacket = given_by p (calls ++ []) in
    let H : List Message = messages (as_process (end.processes p)) (at_last h D on.more) p in
    let at : AtEnd h D p end packets H = at-now h D (λ q d. (lasting q d).0) p l end on.more on.led packets (gave-all h p (start h) (calls ++ []) t) in
    record { was = H; rest = (begins-self H).0; early = subst (λ z. At h D p (after h z) (given_by p z) H) (append-nil calls) at.0; late = at-more h D p end packets H H (begins-self H) at }
next-between h D p calls (k ∷ ks) l g lasting stops =
    let proper : (q : ℕ) → D q ≡ true → IsFirst h.n q = λ q d. (lasting q d).0 in
    let all = made h (calls ++ k ∷ ks) g in
    let t = trace-split h.images h.states h.n (start h) calls (k ∷ ks) all in
    let does = (calls-split h.images h.n (start h) calls (k ∷ ks) g).1.0 in
    let from : System = after h calls in
    let to : System = after_calls from (k ∷ ks) in
    let is : after h (calls ++ k ∷ ks) ≡ to = after-more (start h) calls (k ∷ ks) in
    let one : LedBy h D (start h) [] calls = leads-first h D calls t.0 (λ q d. ((lasting q d).0, ((lasting q d).1.0, (durable-split q calls (k ∷ ks) (lasting q d).1.1).0))) in
    let two : LedBy h D from one.more (k ∷ ks) = leads-by h D proper from one.more (k ∷ ks) one.led t.1 (λ q d. (durable-split q calls (k ∷ ks) (lasting q d).1.1).1) in
    let packets : List NodePacket = given_by p (calls ++ k ∷ ks) in
    let gave : Each (Gave p to) packets = subst (λ z. Each (Gave p z) packets) is (gave-all h p (start h) (calls ++ k ∷ ks) all) in
    let H : List Message = messages (as_process (from.processes p)) (at_last h D one.more) p in
    let G : List Message = messages (as_process (to.processes p)) (at_last h D (one.more ++ two.more)) p in
    let stays = (stay-at h D one.more two.more p two.led.run).messages in
    let later : Begins H G = subst (λ z. Begins z G) (sym (told-before (at_last h D one.more) p h from k stops does)) (begins-trans _ _ G stays (covered-first (as_process (to.processes p)) (at_last h D (one.more ++ two.more)) p)) in
    record {
      was = H;
      rest = later.0;
      early = (at-now h D proper p l from one.more one.led (given_by p calls) (gave-all h p (start h) calls t.0)).0;
      late = subst (λ z. AtEnd h D p z packets (H ++ later.0)) (sym is) (at-more h D p to packets H G later (at-now h D proper p l to (one.more ++ two.more) two.led packets gave));
    }

-- so at any two: what is stored at the first stays until another checkpoint is stored
between : (h : Hosting) (D : ℕ → Bool) (p : ℕ) (calls more : List HostCall) → IsFirst h.n p → Makes h (calls ++ more) → AreDurable h D (calls ++ more) → Between h D p calls more
between h D p calls more l g lasting =
    let F : Handlers = handlers h in
    let a : Apart p (after h calls) more = apart p (after h calls) more in
    let all : (calls ++ a.before) ++ a.behind ≡ calls ++ more = append_assoc calls a.before a.behind ∙ ap (λ z. calls ++ z) a.joined in
    let b : Between h D p (calls ++ a.before) a.behind = next-between h D p (calls ++ a.before) a.behind l (subst (Makes h) (sym all) g) (subst (AreDurable h D) (sym all) lasting) a.stops in
    record {
      was = b.was;
      rest = b.rest;
      early = record {
        stored = subst (AreAfter h.n F p b.was) (ap (λ (z : System). z.stored p) (after-more (start h) calls a.before) ∙ a.same) b.early.stored;
        given = λ d. each-first (IsSentBy F p b.was) (given_by p calls) (given_by p a.before) (subst (Each (IsSentBy F p b.was)) (given-more p calls a.before) (b.early.given d));
      };
      late = subst (λ z. AtEnd h D p (after h z) (given_by p z) (b.was ++ b.rest)) all b.late;
    }

-- ---- the laws

pub hosted-stays : HostedStays
hosted-stays h calls more p g l =
    let b = between h (λ q. false) p calls more l g (λ q e. absurd (cc (e))) in
    record { was = b.was; more = b.rest; stored_was = b.early.stored; stored_is = b.late.0.stored; up = b.late.1 }

pub hosted-last : HostedLast
hosted-last h calls more p g l durable w =
    let P : ℕ → Type 0 = λ q. IsFirst h.n q × (((h.limits q).durable ≡ true) × StaysDurable q (calls ++ more)) in
    let b = between h (λ q. q == p) p calls more l g (λ q e. let same : p ≡ q = grind (arith, nat_tests) in subst P same (l, (durable, w))) in
    let now : (p == p) ≡ true = at-itself p (λ t. t ≡ true) refl in
    record { was = b.was; more = b.rest; stored_was = b.early.stored; stored_is = b.late.0.stored; given_was = b.early.given now; given_is = b.late.0.given now }

-- all that was given, of each
all-given : (xs : List NodePacket) → Each (λ (x : NodePacket). IsOne x xs) xs
all-given [] = tt
all-given (x ∷ xs) = (inl refl, all-more (λ (y : NodePacket). IsOne y xs) (λ (y : NodePacket). IsOne y (x ∷ xs)) xs (λ y i. inr i) (all-given xs))

pub hosted-keep : HostedKeep
hosted-keep h calls durable g lasting =
    let s : System = after h calls in
    let proper : (p : ℕ) → durable p ≡ true → IsFirst h.n p = λ p d. (lasting p d).0 in
    let on : LedBy h durable (start h) [] calls = leads-first h durable calls (made h calls g) lasting in
    let H : ℕ → List Message = kept_now h durable proper s on.more on.led in
    record {
      messages = H;
      stored = stored-now h durable proper s on.more on.led;
      received = λ p l. knows-now h durable proper s on.more on.led p (H p) (are-first (as_process (s.processes p)) (at_last h durable on.more) p);
      up = λ p l m e.
          let k = up-now h durable proper s on.more on.led p l m e in
          (k.0, knows-now h durable proper s on.more on.led p (H p ++ k.0.rest) (subst (λ z. Begins z ((at_last h durable on.more).world.history p)) (sym k.1) (begins-self _)));
      given = all-more (λ (x : NodePacket). IsOne x s.given) (λ (x : NodePacket). durable x.from ≡ true → IsSentBy (handlers h) x.from (H x.from) x) s.given (λ x i d. said-now h durable proper s on.more on.led x d i) (all-given s.given);
      shown = borne-now h durable proper s on.more on.led (outputs_of (start h) calls) on.borne;
    }
