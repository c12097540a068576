-- One call of a host, as calls of a process by its stages: one or none, and acts of its own behind it
use Rattle.std.proofs.Common.{◌≡◌, inl, inr, ℕ, List, [], ◌∷◌, ◌++◌, true, refl, sym, ap, ◌∙◌, subst, append_assoc}
use Rattle.std.specs.Prelude.{◌⊎◌, if◌then◌else◌}
use Rattle.std.proofs.Math.Path.{fun_ext}
use Rattle.theorems.proofs.Changes.{choose}
use Rattle.world.specs.World.{put}
use Rattle.verifier.specs.declared.any_image.AnyImage.{AnyImage}
use Rattle.packets.specs.declared.packet.NodePacket.{NodePacket}
use Rattle.node.specs.Stands.{Each}
use Rattle.node.specs.Answering.{Answering}
use Rattle.recovery.specs.Collection.{TheCollecting}
use Rattle.recovery.specs.Replays.{TheReplaying}
use Rattle.recovery.specs.declared.lifecycle.Lifecycle.TheVariants.{Collecting}
use Rattle.process.specs.Process.{TheProcess}
use Rattle.node_laws.specs.HostProcess.{IsFirst, Checkpoint, Absent, Hosted, Runs}
use Rattle.node_laws.specs.HostReplies.{answering}
use Rattle.node_laws.specs.HostSystem.{System, HostCall, after_call}
use Rattle.node_laws.specs.HostLaws as laws
use Rattle.node_laws.specs.HostBack.{has_recovered, plan_of, keeps, still}
use Rattle.node_laws.specs.Inside.Process.{Process, Collects, Replays, Killed, Acts, is_exact, as_process, seen}
use Rattle.node_laws.specs.Inside.System.{System as Lived, Call, Did, DoesIt, after_calls, Along, AreExact, FailsAlone, KeepsDurable, view}
use Rattle.node_laws.specs.Inside.System as called
use Rattle.node_laws.proofs.Chains.{Chain}
use Rattle.node_laws.proofs.Moments.{Cut, kept_of, cut, dead-end, not-collecting}
use Rattle.node_laws.proofs.Sound.{raised-here}
use Rattle.node_laws.proofs.Views.{IsGood, AreGood, exact-there}

-- ---- functions with a value that changes

pub put-twice : {X : Type 0} (f : ℕ → X) (p : ℕ) (x y : X) → put (put f p x) p y ≡ put f p y
put-twice f p x y = fun_ext (λ q. choose p (λ j b. (if b then y else (if b then x else f j)) ≡ (if b then y else f j)) refl (λ j o. refl) q)

pub put-same : {X : Type 0} (f : ℕ → X) (p : ℕ) → put f p (f p) ≡ f
put-same f p = fun_ext (λ q. choose p (λ j b. (if b then f p else f j) ≡ f j) refl (λ j o. refl) q)

-- where a process is another, it is so by its stage
pub view-put : (r : System) (f : ℕ → Hosted) (p : ℕ) (h : Hosted) → view (record r { processes = put f p h }) ≡ record (view r) { processes = put (λ q. as_process (f q)) p (as_process h) }
view-put r f p h = ap (λ z. record (view r) { processes = z }) (fun_ext (λ q. choose p (λ j b. as_process (if b then h else f j) ≡ (if b then as_process h else as_process (f j))) refl (λ j o. refl) q))

-- ---- calls behind others

pub after-append : (t : Lived) (xs ys : List Call) → after_calls t (xs ++ ys) ≡ after_calls (after_calls t xs) ys
after-append t [] ys = refl
after-append t (x ∷ xs) ys = after-append (called.after_call t x) xs ys

along-append : (P : Lived → Call → Type 0) (t : Lived) (xs ys : List Call) → Along P t xs → Along P (after_calls t xs) ys → Along P t (xs ++ ys)
along-append P t [] ys g h = h
along-append P t (x ∷ xs) ys g h = (g.0, along-append P (called.after_call t x) xs ys g.1 h)

pub along-split : (P : Lived → Call → Type 0) (t : Lived) (xs ys : List Call) → Along P t (xs ++ ys) → Along P t xs × Along P (after_calls t xs) ys
along-split P t [] ys g = (tt, g)
along-split P t (x ∷ xs) ys g = let r = along-split P (called.after_call t x) xs ys g.1 in ((g.0, r.0), r.1)

-- ---- acts of one process

-- one of the calls that a call of a host is, where X holds if all are exact behind that, A if it fails alone, and E q if it keeps q durable
pub record IsPart (f : Answering) (n : ℕ) (X A : Type 0) (E : ℕ → Type 0) (t : Lived) (c : Call) : Type 0 where
  pub does : DoesIt f n t c
  pub exact : X → AreExact n (called.after_call t c)
  pub alone : A → FailsAlone n t c
  pub durable : (q : ℕ) → E q → KeepsDurable q c

abbrev dids : ℕ → List Process → List Call
dids p [] = []
dids p (x ∷ xs) = Did p x ∷ dids p xs

dids-append : (p : ℕ) (xs ys : List Process) → dids p (xs ++ ys) ≡ dids p xs ++ dids p ys
dids-append p [] ys = refl
dids-append p (x ∷ xs) ys = ap (λ z. Did p x ∷ z) (dids-append p xs ys)

-- by these p is this then, as exact as it was, and nothing else changed
record Ran (f : Answering) (n : ℕ) (X A : Type 0) (E : ℕ → Type 0) (p : ℕ) (new : Process) (t : Lived) (ks : List Call) : Type 0 where
  is : after_calls t ks ≡ record t { processes = put t.processes p new }
  before : AreExact n (after_calls t ks) → AreExact n t
  are : (X → AreExact n (after_calls t ks)) → Along (IsPart f n X A E) t ks

ran : (f : Answering) (n : ℕ) (X A : Type 0) (E : ℕ → Type 0) (p : ℕ) → IsFirst n p → (old : Process) (ps : List Process) (new : Process) (t : Lived) → t.processes p ≡ old → Chain old ps new → Ran f n X A E p new t (dids p ps)
ran f n X A E p first old [] new t is c =
    record { is = ap (λ z. record t { processes = z }) (sym (ap (put t.processes p) (c ∙ sym is) ∙ put-same t.processes p)); before = λ e. e; are = λ e. tt }
ran f n X A E p first old (next ∷ ps) new t is c =
    let u : Lived = called.after_call t (Did p next) in
    let rest : Ran f n X A E p new u (dids p ps) = ran f n X A E p first next ps new u (raised-here t.processes p next) c.1.1 in
    record {
      is = rest.is ∙ ap (λ z. record t { processes = z }) (put-twice t.processes p next new);
      before = λ e. was (rest.before e);
      are = λ e. (record { does = (first, subst (λ z. Acts z next) (sym is) c.0); exact = λ x. rest.before (e x); alone = λ a. tt; durable = λ q d. tt }, rest.are e);
    }
  where
    was : AreExact n (called.after_call t (Did p next)) → AreExact n t
    was e q l =
        choose p (λ j b. is_exact (if b then next else t.processes j) ≡ true → is_exact (t.processes j) ≡ true) (λ x. ap is_exact is ∙ sym c.1.0 ∙ x) (λ j o x. x) q (e q l)

-- ---- the call

-- the moment of recovery among its calls: all is then as behind it, but that p collects
pub record Moment (p : ℕ) (s : System) (t : Lived) (ks : List Call) (now : TheProcess) : Type 0 where
  pub before : List Call
  pub behind : List Call
  pub collected : TheCollecting
  pub replays : TheReplaying
  pub is : ks ≡ before ++ Did p (Replays replays) ∷ behind
  pub stand : after_calls t before ≡ view (still s p now collected)
  pub plan : replays.plan ≡ plan_of now.lifecycle
  pub kept : keeps now.lifecycle ≡ kept_of collected replays

-- these calls lead to the system that is next, and these packets are given by them
pub record Steps (images : ℕ → AnyImage) (n : ℕ) (s next : System) (A : Type 0) (E : ℕ → Type 0) (G : ℕ → List NodePacket) : Type 0 where
  pub calls : List Call
  pub are : Along (IsPart (answering n images) n (laws.AreExact n next) A E) (view s) calls
  pub stand : after_calls (view s) calls ≡ view next
  pub good : AreGood images n next
  pub gave : (q : ℕ) → Each (λ (x : NodePacket). x.from ≡ q) (G q)
  -- where a process collects before them, and doesn't behind them, it recovers among them
  pub moment : (q : ℕ) → IsFirst n q → (from : TheCollecting) → as_process (s.processes q) ≡ Collects from → (now : TheProcess) (w : Checkpoint) → next.processes q ≡ Runs now w → has_recovered now.lifecycle ≡ true → Moment q next (view s) calls now

-- so a call of a host does
abbrev pub StepsBy : (ℕ → AnyImage) → ℕ → System → HostCall → Type 0
StepsBy images n s k = Steps images n s (after_call s k) (laws.FailsAlone n s k) (λ q. laws.KeepsDurable q k) (λ q. laws.gave_by q k)

-- p becomes h, and all others are as in r
module _ (images : ℕ → AnyImage) (n : ℕ) (s : System) (goods : AreGood images n s) (r : System) (A : Type 0) (E : ℕ → Type 0) (p : ℕ) (l : IsFirst n p) (h : Hosted) (good : IsGood (images p) h) where
  abbrev f : Answering
  f = answering n images

  abbrev V : ℕ → Process
  V q = as_process (s.processes q)

  abbrev next : System
  next = record r { processes = put s.processes p h }

  abbrev X : Type 0
  X = laws.AreExact n next

  abbrev Part : Lived → Call → Type 0
  Part t c = IsPart f n X A E t c

  -- what one call makes of one that collects: that it collects, or is killed
  abbrev Lands : Process → Type 0
  Lands first = (from : TheCollecting) → V p ≡ Collects from → ((mid : TheCollecting) × (first ≡ Collects mid)) ⊎ (first ≡ Killed)

  module _ (G : ℕ → List NodePacket) (gave : (q : ℕ) → Each (λ (x : NodePacket). x.from ≡ q) (G q)) (pre : List Call) (first : Process) (ps : List Process) (same : after_calls (view s) pre ≡ record (view r) { processes = put V p first }) (chain : Chain first ps (as_process h)) (lands : Lands first) where
    abbrev mid : Lived
    mid = after_calls (view s) pre

    here : mid.processes p ≡ first
    here = ap (λ (z : Lived). z.processes p) same ∙ raised-here V p first

    reach : (x : Process) → record mid { processes = put mid.processes p x } ≡ record (view r) { processes = put V p x }
    reach x = ap (λ (z : Lived). record z { processes = put z.processes p x }) same ∙ ap (λ z. record (view r) { processes = z }) (put-twice V p first x)

    moved : (now : TheProcess) (w : Checkpoint) → h ≡ Runs now w → has_recovered now.lifecycle ≡ true → ((c : TheCollecting) × (first ≡ Collects c)) ⊎ (first ≡ Killed) → Moment p next (view s) (pre ++ dids p ps) now
    moved now w was rec (inr e) = dead-end ps w now.lifecycle (subst (λ z. Chain z ps (seen w now.lifecycle)) e (subst (λ z. Chain first ps (as_process z)) was chain)) rec
    moved now w was rec (inl c) =
        let k : Cut c.0 ps now.lifecycle = cut c.0 ps w now.lifecycle rec (subst (λ z. Chain z ps (seen w now.lifecycle)) c.1 (subst (λ z. Chain first ps (as_process z)) was chain)) in
        let did : Ran f n X A E p (Collects k.collected) mid (dids p k.before) = ran f n X A E p l (Collects c.0) k.before (Collects k.collected) mid (here ∙ c.1) k.chain in
        let new : Hosted = Runs (record now { lifecycle = Collecting k.collected }) Absent in
        record {
          before = pre ++ dids p k.before;
          behind = dids p k.behind;
          collected = k.collected;
          replays = k.replays;
          is = ap (λ z. pre ++ z) (ap (dids p) k.is ∙ dids-append p k.before (Replays k.replays ∷ k.behind)) ∙ sym (append_assoc pre (dids p k.before) (Did p (Replays k.replays) ∷ dids p k.behind));
          stand = after-append (view s) pre (dids p k.before) ∙ did.is ∙ reach (Collects k.collected) ∙ sym (ap (λ z. view (record r { processes = z })) (put-twice s.processes p h new) ∙ view-put r s.processes p new);
          plan = k.plan;
          kept = k.kept;
        }

    pub build : ((X → AreExact n mid) → Along Part (view s) pre) → Steps images n s next A E G
    build parts =
        let acts : Ran f n X A E p (as_process h) mid (dids p ps) = ran f n X A E p l first ps (as_process h) mid here chain in
        let end : after_calls mid (dids p ps) ≡ view next = acts.is ∙ reach (as_process h) ∙ sym (view-put r s.processes p h) in
        let exact : X → AreExact n (after_calls mid (dids p ps)) = λ x. subst (AreExact n) (sym end) (exact-there n next x) in
        record {
          calls = pre ++ dids p ps;
          are = along-append Part (view s) pre (dids p ps) (parts (λ x. acts.before (exact x))) (acts.are exact);
          stand = after-append (view s) pre (dids p ps) ∙ end;
          good = choose p (λ j b. IsFirst n j → IsGood (images j) (if b then h else s.processes j)) (λ m. good) (λ j o m. goods j m);
          gave = gave;
          moment =
              choose p (λ j b. IsFirst n j → (from : TheCollecting) → V j ≡ Collects from → (now : TheProcess) (w : Checkpoint) → (if b then h else s.processes j) ≡ Runs now w → has_recovered now.lifecycle ≡ true → Moment j next (view s) (pre ++ dids p ps) now)
              (λ m from at now w was rec. moved now w was rec (lands from at)) (λ j o m from at now w was rec. not-collecting w now.lifecycle from (sym (ap as_process was) ∙ at) rec);
        }

  -- acts alone
  pub by-acts : (ps : List Process) → r ≡ s → Chain (V p) ps (as_process h) → Steps images n s next A E (λ q. [])
  by-acts ps e chain = build (λ q. []) (λ q. tt) [] (V p) ps (ap (λ z. record (view s) { processes = z }) (sym (put-same V p)) ∙ ap (λ z. record (view z) { processes = put V p (V p) }) (sym e)) chain (λ from at. inl (from, at)) (λ x. tt)

  -- one call, and acts behind it
  pub by-call : (G : ℕ → List NodePacket) → ((q : ℕ) → Each (λ (x : NodePacket). x.from ≡ q) (G q)) → (one : Call) (first : Process) (ps : List Process) → DoesIt f n (view s) one → called.after_call (view s) one ≡ record (view r) { processes = put V p first }
      → (A → FailsAlone n (view s) one) → ((q : ℕ) → E q → KeepsDurable q one) → Chain first ps (as_process h) → Lands first → Steps images n s next A E G
  by-call G gave one first ps does same alone durable chain lands =
      build G gave (one ∷ []) first ps same chain lands (λ x. (record { does = does; exact = x; alone = alone; durable = durable }, tt))
