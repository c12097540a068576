-- What each call of a host is among calls of processes by their stages
use Rattle.std.proofs.Common.{◌≡◌, inl, inr, ℕ, ◌<◌, List, [], ◌∷◌, ◌++◌, true, refl, sym, ap, ◌∙◌, subst, arith}
use Rattle.std.specs.Prelude.{Some, ◌==◌, if◌then◌else◌}
use Rattle.std.proofs.lemmas.Bool.Decides.{nat_tests}
use Rattle.world.specs.World.{put}
use Rattle.gateway.proofs.Steps.{by-if}
use Rattle.cluster.specs.Cluster.{Cluster}
use Rattle.verifier.specs.declared.any_image.AnyImage.{AnyImage}
use Rattle.interp.specs.Image.{as_image}
use Rattle.packets.specs.declared.packet.NodePacket.{NodePacket}
use Rattle.packets.specs.Format.{IsPacket}
use Rattle.packets.proofs.WholeLemmas.{one_packet}
use Rattle.node.specs.declared.limit.Limits.{Limits}
use Rattle.node.specs.Answering.{Answer, Answering, IsOne, handlers_of}
use Rattle.node.specs.Stands.{Each}
use Rattle.recovery.specs.Collection.{TheCollecting, revived}
use Rattle.process.specs.Process.{TheProcess, is_settled}
use Rattle.process.specs.Calls as process
use Rattle.process.specs.Calls.{Stays, IsHanded, Ticks, Takes, Freezes, Thaws}
use Rattle.process.specs.Packets.{GivesBytes}
use Rattle.process.specs.Job.{IsAnswered, WorksAs}
use Rattle.process.specs.Checkpoints.{IsSavable, Keeps}
use Rattle.process.specs.Suspension.{Suspends}
use Rattle.process.specs.Work as working
use Rattle.node_laws.specs.HostProcess.{IsFirst, Checkpoint, Absent, Pending, Durable, Hosted, Runs, Sleeps, Killed, Alive, Has, Asleep, goes_on, sleeps, keeps}
use Rattle.node_laws.specs.HostReplies.{answering}
use Rattle.node_laws.specs.HostSystem.{System, HostCall, Gave, GaveBytes, Handed, HandedBytes, Worked, Answered, Ticked, Froze, Paused, Stored, Saved, Suspended, Resumed, Died, Revived, GaveOut, HandedOut, DidOut, StoredOut, StoredBut, RevivedOut, AnswersSo, RevivesAs, ResumesAs, DoesIt, after_call}
use Rattle.node_laws.specs.HostLaws as laws
use Rattle.node_laws.specs.Inside.Process.{Process, Up, Covered, Collects, Replays, Gives, Hears, Works, WaitsFor, covered, StandsAs, IsTold, Wakes, IsKilled, stage_of, seen, as_process}
use Rattle.node_laws.specs.Inside.Process as stages
use Rattle.node_laws.specs.Inside.System.{Call, AreExact, KeepsDurable, view}
use Rattle.node_laws.specs.Inside.System as called
use Rattle.node_laws.proofs.Chains.{Chain, chain-append, revived-limits}
use Rattle.node_laws.proofs.Stages.{Waits, GoesOn, passes-on, passed}
use Rattle.node_laws.proofs.Calls.{Is, IsHere, answered, handed-is, taken-is, ticks-is, works-is, froze-is, paused-is, stored-is, saved-is, taken-waits, froze-waits, thawed-waits}
use Rattle.node_laws.proofs.Wakings.{still-seen, wakes-up}
use Rattle.node_laws.proofs.Moments.{not-collecting}
use Rattle.node_laws.proofs.Believed.{Calm}
use Rattle.node_laws.proofs.Lives.{Holds}
use Rattle.node_laws.proofs.Steps.{none-open, giving}
use Rattle.node_laws.proofs.HostStep.{Steps, StepsBy, by-acts, by-call}
use Rattle.node_laws.proofs.Views.{IsGood, AreGood, exact-there, up-so}

-- as it stands in a cluster of n
here-of : (n p : ℕ) (c : Cluster) (process : Process) → Calm c → c.world.count ≡ n → StandsAs process c p → IsHere n p process
here-of n p c (Up m) calm many s = (s.me, (s.count ∙ many, λ e. none-open c p m calm e s))
here-of n p c (Covered m) calm many s = (s.1.me, (s.1.count ∙ many, λ e. none-open c p m calm e s.1))
here-of n p c (Replays m) calm many s = (s.own.me, s.own.count ∙ many)
here-of n p c other calm many s = tt

-- nothing is asked of such a call, and nothing given by it
abbrev free : ℕ → Type 0
free q = Unit {0}

abbrev none : ℕ → List NodePacket
none q = []

module _ (images : ℕ → AnyImage) (states : ℕ → List ℕ) (n : ℕ) (s : System) (goods : AreGood images n s) (c : Cluster) (h : Holds (handlers_of (answering n images) states) n (view s) c) (calm : Calm c) where
  abbrev f : Answering
  f = answering n images

  -- the system where p is this
  abbrev put_at : ℕ → Hosted → System
  put_at p h = record s { processes = put s.processes p h }

  good-of : (p : ℕ) (h : Hosted) → IsFirst n p → s.processes p ≡ h → IsGood (images p) h
  good-of p h l e = subst (IsGood (images p)) e (goods p l)

  -- acts of p alone
  acts : (p : ℕ) (old h : Hosted) (ps : List Process) → IsFirst n p → s.processes p ≡ old → IsGood (images p) h → Chain (as_process old) ps (as_process h) → Steps images n s (put_at p h) (Unit {0}) free none
  acts p old h ps l e good chain = by-acts images n s goods s (Unit {0}) free p l h good ps refl (subst (λ z. Chain (as_process z) ps (as_process h)) (sym e) chain)

  -- ---- packets

  took : (p : ℕ) (x : NodePacket) (old new : TheProcess) (w : Checkpoint) → IsFirst n p → s.processes p ≡ Runs old w → Stays (Takes (Some x)) old new → Steps images n s (record s { processes = put s.processes p (Runs new w); given = x ∷ s.given }) (Unit {0}) free (λ q. if p == q then x ∷ [] else [])
  took p x old new w l e g =
      let good = good-of p (Runs old w) l e in
      let a1 : Is (Gives x) w old.lifecycle new.lifecycle = taken-is x w old.lifecycle new.lifecycle good.1.0 good.1.1.0 g.does in
      let to : Process = seen w new.lifecycle in
      let does : Gives x (as_process (s.processes p)) to = subst (λ z. Gives x (as_process z) to) (sym e) a1.1.1 in
      let at = h.each p l in
      let own : x.from ≡ p = (giving c p (s.stored p) (s.lives p) at.lives x (as_process (s.processes p)) to does at.stands at.stored).0.0 in
      by-call images n s goods (record s { given = x ∷ s.given }) (Unit {0}) free p l (Runs new w) (ap as_image g.image ∙ good.0, (a1.0, (a1.1.0, taken-waits x old.lifecycle new.lifecycle g.does good.1.1.1))) (λ q. if p == q then x ∷ [] else [])
      (λ q. by-if (Each (λ (y : NodePacket). y.from ≡ q)) (p == q) (x ∷ []) [] (λ d. let same : p ≡ q = grind (arith, nat_tests) in (own ∙ same, tt)) (λ d. tt))
      (called.Gave p x to) to [] (l, does) refl (λ z. tt) (λ q z. tt) refl (λ from c. let it = subst (λ z. Gives x z to) c does in inl (it.0, it.1.0))

  heard : (p : ℕ) (x : NodePacket) (old new : TheProcess) (w : Checkpoint) → IsFirst n p → IsOne x s.given → s.processes p ≡ Runs old w → process.Calls (IsHanded x) old new → Steps images n s (put_at p (Runs new w)) (Unit {0}) free none
  heard p x old new w l one e g =
      let good = good-of p (Runs old w) l e in
      let a1 : Is (Hears x) w old.lifecycle g.mid = handed-is x w old.lifecycle g.mid good.1.0 good.1.1.0 good.1.1.1 g.does in
      let c : GoesOn w g.mid new.lifecycle = passes-on w g.mid new.lifecycle a1.0 a1.1.0 g.passes in
      let to : Process = seen w g.mid in
      let does : Hears x (as_process (s.processes p)) to = subst (λ z. Hears x (as_process z) to) (sym e) a1.1.1 in
      by-call images n s goods s (Unit {0}) free p l (Runs new w) (ap as_image g.image ∙ good.0, (c.0, (c.1.0, passed g.mid new.lifecycle g.passes))) none (λ q. tt) (called.Handed p x to) to c.1.1.0 (l, (one, does)) refl (λ z. tt) (λ q z. tt) c.1.1.1
      (λ from at. let it = subst (λ z. Hears x z to) at does in inl (it.0, it.1.0))

  -- ---- its handler, and what is sent again

  worked : (p : ℕ) (old new : TheProcess) (w : Checkpoint) → IsFirst n p → s.processes p ≡ Runs old w → working.Works old new → Steps images n s (put_at p (Runs new w)) (Unit {0}) free none
  worked p old new w l e g =
      let good = good-of p (Runs old w) l e in
      let am : IsHere n p (seen w old.lifecycle) = subst (λ z. IsHere n p (as_process z)) e (here-of n p c (as_process (s.processes p)) calm h.count (h.each p l).stands) in
      let answer : Answer = answered g.who g.answer in
      let a1 : Is (Works f p answer) w old.lifecycle g.mid = works-is images old.image n p w old.lifecycle g.mid g.job g.who g.answer good.0 good.1.0 good.1.1.0 am g.next g.answers g.takes in
      let c : GoesOn w g.mid new.lifecycle = passes-on w g.mid new.lifecycle a1.0 a1.1.0 g.passes in
      let to : Process = seen w g.mid in
      let does : Works f p answer (as_process (s.processes p)) to = subst (λ z. Works f p answer (as_process z) to) (sym e) a1.1.1 in
      by-call images n s goods s (Unit {0}) free p l (Runs new w) (ap as_image g.image ∙ good.0, (c.0, (c.1.0, passed g.mid new.lifecycle g.passes))) none (λ q. tt) (called.Worked p answer to) to c.1.1.0 (l, does) refl (λ z. tt) (λ q z. tt) c.1.1.1
      (λ from at. absurd (subst (λ z. Works f p answer z to) at does))

  ticks : (p : ℕ) (old new : TheProcess) (w : Checkpoint) → IsFirst n p → s.processes p ≡ Runs old w → process.Calls Ticks old new → Steps images n s (put_at p (Runs new w)) (Unit {0}) free none
  ticks p old new w l e g =
      let good = good-of p (Runs old w) l e in
      let b : GoesOn w old.lifecycle g.mid = ticks-is w old.lifecycle g.mid good.1.0 good.1.1.0 g.does in
      let c : GoesOn w g.mid new.lifecycle = passes-on w g.mid new.lifecycle b.0 b.1.0 g.passes in
      acts p (Runs old w) (Runs new w) (b.1.1.0 ++ c.1.1.0) l e (ap as_image g.image ∙ good.0, (c.0, (c.1.0, passed g.mid new.lifecycle g.passes))) (chain-append (seen w old.lifecycle) b.1.1.0 (seen w g.mid) c.1.1.0 (seen w new.lifecycle) b.1.1.1 c.1.1.1)

  -- ---- checkpoints

  freezes : (p : ℕ) (bytes : List ℕ) (old new : TheProcess) (w : Checkpoint) → IsFirst n p → s.processes p ≡ Runs old w → IsSavable old.lifecycle → Keeps old.lifecycle bytes → Stays Freezes old new → Steps images n s (put_at p (Runs new (Pending bytes))) (Unit {0}) free none
  freezes p bytes old new w l e may kept g =
      let good = good-of p (Runs old w) l e in
      let b = froze-is bytes w old.lifecycle new.lifecycle good.1.1.0 may kept g.does in
      acts p (Runs old w) (Runs new (Pending bytes)) b.1.1.0 l e (ap as_image g.image ∙ good.0, (b.0, (b.1.0, froze-waits old.lifecycle new.lifecycle g.does good.1.1.1))) b.1.1.1

  pauses : (p : ℕ) (old new : TheProcess) (w : Checkpoint) → IsFirst n p → s.processes p ≡ Runs old w → Stays Freezes old new → Steps images n s (put_at p (Runs new w)) (Unit {0}) free none
  pauses p old new w l e g =
      let good = good-of p (Runs old w) l e in
      let b : GoesOn w old.lifecycle new.lifecycle = paused-is w old.lifecycle new.lifecycle good.1.0 good.1.1.0 g.does in
      acts p (Runs old w) (Runs new w) b.1.1.0 l e (ap as_image g.image ∙ good.0, (b.0, (b.1.0, froze-waits old.lifecycle new.lifecycle g.does good.1.1.1))) b.1.1.1

  stores : (p : ℕ) (bytes : List ℕ) (old : TheProcess) → IsFirst n p → s.processes p ≡ Runs old (Pending bytes) → Steps images n s (record s { processes = put s.processes p (Runs old Durable); stored = put s.stored p bytes }) (Unit {0}) free none
  stores p bytes old l e =
      let good = good-of p (Runs old (Pending bytes)) l e in
      let to : Process = covered (as_process (s.processes p)) in
      let waits : WaitsFor bytes (as_process (s.processes p)) = subst (λ z. WaitsFor bytes (as_process z)) (sym e) good.1.1.0 in
      by-call images n s goods (record s { stored = put s.stored p bytes }) (Unit {0}) free p l (Runs old Durable) (good.0, (good.1.0, (stored-is bytes old.lifecycle good.1.1.0, good.1.1.1))) none (λ q. tt) (called.Stored p bytes) to [] (l, waits) refl (λ z. tt) (λ q z. tt)
      (ap (λ z. covered (as_process z)) (sym e)) (λ from at. absurd (subst (WaitsFor bytes) at waits))

  saves : (p : ℕ) (old new : TheProcess) → IsFirst n p → s.processes p ≡ Runs old Durable → Stays Thaws old new → Steps images n s (put_at p (Runs new Absent)) (Unit {0}) free none
  saves p old new l e g =
      let good = good-of p (Runs old Durable) l e in
      let b = saved-is old.lifecycle new.lifecycle good.1.1.0 g.does in
      let to : Process = stage_of new.lifecycle in
      let does : IsTold (as_process (s.processes p)) to = subst (λ z. IsTold (as_process z) to) (sym e) b.1 in
      by-call images n s goods s (Unit {0}) free p l (Runs new Absent) (ap as_image g.image ∙ good.0, (b.0, (tt, thawed-waits old.lifecycle new.lifecycle g.does good.1.1.1))) none (λ q. tt) (called.Saved p to) to [] (l, does) refl (λ z. tt) (λ q z. tt) refl (λ from at. absurd (subst (λ z. IsTold z to) at does))

  -- ---- it is suspended, and resumed

  suspends : (p : ℕ) (bytes : List ℕ) (old : TheProcess) (w : Checkpoint) → IsFirst n p → s.processes p ≡ Runs old w → Suspends old.lifecycle bytes → Steps images n s (put_at p (Sleeps old bytes)) (Unit {0}) free none
  suspends p bytes old w l e g = acts p (Runs old w) (Sleeps old bytes) [] l e g (still-seen w old.lifecycle bytes (good-of p (Runs old w) l e).1.1.0 g)

  resumes : (p : ℕ) (limits : Limits) (old new : TheProcess) (bytes : List ℕ) → IsFirst n p → s.processes p ≡ Sleeps old bytes → ResumesAs (images p) limits bytes new → StepsBy images n s (Resumed p limits new)
  resumes p limits old new bytes l e g =
      let r = g.1.1 in
      let to : Process = stages.Up r.node in
      let wakes : Wakes limits (as_process (s.processes p)) to = subst (λ z. Wakes limits (as_process z) to) (sym e) (wakes-up limits g.0 old.lifecycle bytes new (good-of p (Sleeps old bytes) l e) r) in
      by-call images n s goods s (Unit {0}) (λ q. q ≡ p → limits.durable ≡ true) p l (Runs new Absent) (ap as_image r.image_is ∙ g.1.0, (ap is_settled r.lifecycle_is, (tt, subst Waits (sym r.lifecycle_is) tt))) none (λ q. tt) (called.Resumed p limits to) to [] (l, wakes) refl (λ z. tt) (λ q d. d)
      (ap stage_of r.lifecycle_is) (λ from at. absurd (subst (λ z. Wakes limits z to) at wakes))

  -- ---- it is killed, and comes back

  dies : (p : ℕ) → IsFirst n p → StepsBy images n s (Died p)
  dies p l =
      by-call images n s goods s (laws.FailsAlone n s (Died p)) free p l Killed tt none (λ q. tt) (called.Died p) stages.Killed [] l refl (λ b q m o. up-so (b q m o).0 (s.processes q) (b q m o).1) (λ q z. tt) refl (λ from at. inr refl)

  revives : (p : ℕ) (limits : Limits) (life : ℕ) (new : TheProcess) → IsFirst n p → s.processes p ≡ Killed → s.lives p < life → RevivesAs (images p) limits (s.stored p) life new → StepsBy images n s (Revived p limits life new)
  revives p limits life new l e above comes =
      let g = comes.1.1 in
      let n2 : TheCollecting = revived limits g.kept life in
      let dead : IsKilled (as_process (s.processes p)) = subst (λ z. IsKilled (as_process z)) (sym e) tt in
      by-call images n s goods (record s { lives = put s.lives p life }) (Unit {0}) (λ q. q ≡ p → limits.durable ≡ true) p l (Runs new Absent) (ap as_image g.image_is ∙ comes.1.0, (ap is_settled g.lifecycle_is, (tt, subst Waits (sym g.lifecycle_is) tt))) none (λ q. tt) (called.Revived p life n2)
      (stages.Collects n2) [] (l, (dead, (above, (g.kept, (g.is_kept.bytes_are, ((limits, refl), g.revives)))))) refl (λ z. tt) (λ q d same. ap (λ (z : Limits). z.durable) (revived-limits limits g.kept life) ∙ d same) (ap stage_of g.lifecycle_is)
      (λ from at. absurd (subst IsKilled at dead))

  -- ---- the gateway

  -- one call of it is one in both
  out-by : (next : System) (one : Call) → called.DoesIt f n (view s) one → called.after_call (view s) one ≡ view next → next.processes ≡ s.processes → called.FailsAlone n (view s) one → ((q : ℕ) → KeepsDurable q one) → (A : Type 0) → Steps images n s next A free none
  out-by next one does stand same alone durable A =
      record {
        calls = one ∷ [];
        are = (record { does = does; exact = λ x. subst (AreExact n) (sym stand) (exact-there n next x); alone = λ z. alone; durable = λ q z. durable q }, tt);
        stand = stand;
        good = subst (λ z. (p : ℕ) → IsFirst n p → IsGood (images p) (z p)) (sym same) goods;
        gave = λ q. tt;
        moment = λ q l from at now w is rec. not-collecting w now.lifecycle from (sym (ap as_process (ap (λ z. z q) (sym same) ∙ is)) ∙ at) rec;
      }

  -- ---- each call

  -- of a process that runs
  alive : (P : TheProcess → Type 0) (F : Hosted → System) (G : ℕ → List NodePacket) (p : ℕ) → Alive P (s.processes p) → ((old : TheProcess) (w : Checkpoint) → s.processes p ≡ Runs old w → P old → Steps images n s (F (Runs old w)) (Unit {0}) free G)
      → Steps images n s (F (s.processes p)) (Unit {0}) free G
  alive P F G p g goes = by (s.processes p) refl g
    where
      by : (h : Hosted) → s.processes p ≡ h → Alive P h → Steps images n s (F (s.processes p)) (Unit {0}) free G
      by (Runs old w) e b = subst (λ z. Steps images n s (F z) (Unit {0}) free G) (sym e) (goes old w e b)
      by other e b = absurd b

  -- and whose checkpoint is so far
  has : (w : Checkpoint) (h : Hosted) (p : ℕ) → s.processes p ≡ h → Has (λ checkpoint. checkpoint ≡ w) h → (old : TheProcess) × (s.processes p ≡ Runs old w)
  has w (Runs old v) p e g = (old, e ∙ ap (Runs old) g)
  has w other p e g = absurd g

  -- of one that was suspended
  asleep : (P : List ℕ → Type 0) (h : Hosted) (p : ℕ) → s.processes p ≡ h → Asleep P h → (old : TheProcess) × (bytes : List ℕ) × (s.processes p ≡ Sleeps old bytes) × P bytes
  asleep P (Sleeps old bytes) p e g = (old, bytes, e, g)
  asleep P other p e g = absurd g

  pub steps : (k : HostCall) → DoesIt images n s k → StepsBy images n s k
  steps (Gave p x new) g = alive (λ old. Stays (Takes (Some x)) old new) (λ z. record s { processes = put s.processes p (goes_on new z); given = x ∷ s.given }) (λ q. if p == q then x ∷ [] else []) p g.1 (λ old w e does. took p x old new w g.0 e does)
  steps (GaveBytes p x bytes new) g = alive (λ old. GivesBytes bytes old new) (λ z. record s { processes = put s.processes p (goes_on new z); given = x ∷ s.given }) (λ q. if p == q then x ∷ [] else []) p g.1.1
      (λ old w e does. took p x old new w g.0 e (subst (λ z. Stays (Takes (Some z)) old new) (one_packet does.0 x bytes does.1 g.1.0) does.2))
  steps (Handed p x new) g = alive (λ old. process.Calls (IsHanded x) old new) (λ z. put_at p (goes_on new z)) none p g.1.1 (λ old w e does. heard p x old new w g.0 g.1.0 e does)
  steps (HandedBytes p x bytes new) g = alive (λ old. (y : NodePacket) → IsPacket y bytes → process.Calls (IsHanded y) old new) (λ z. put_at p (goes_on new z)) none p g.1.1.1 (λ old w e does. heard p x old new w g.0 g.1.0 e (does x g.1.1.0))
  steps (Worked p new) g = alive (λ old. working.Works old new) (λ z. put_at p (goes_on new z)) none p g.1 (λ old w e does. worked p old new w g.0 e does)
  steps (Answered p ticket state b new) g = alive (λ old. AnswersSo state b old × (IsAnswered ticket state b old new × WorksAs state b old new)) (λ z. put_at p (goes_on new z)) none p g.1
      (λ old w e does. let h = does.0 does.1.0.message does.1.0.who does.1.0.next in worked p old new w g.0 e (does.1.1 does.1.0.message does.1.0.who h.0 does.1.0.next h.1.0 h.1.1.0 h.1.1.1))
  steps (Ticked p new) g = alive (λ old. process.Calls Ticks old new) (λ z. put_at p (goes_on new z)) none p g.1 (λ old w e does. ticks p old new w g.0 e does)
  steps (Froze p bytes new) g = alive (λ old. IsSavable old.lifecycle × (Keeps old.lifecycle bytes × Stays Freezes old new)) (λ z. put_at p (Runs new (Pending bytes))) none p g.1 (λ old w e does. freezes p bytes old new w g.0 e does.0 does.1.0 does.1.1)
  steps (Paused p new) g = alive (λ old. Stays Freezes old new) (λ z. put_at p (goes_on new z)) none p g.1 (λ old w e does. pauses p old new w g.0 e does)
  steps (Stored p bytes) g =
      let h = has (Pending bytes) (s.processes p) p refl g.1 in
      subst (λ z. Steps images n s (record s { processes = put s.processes p (keeps z); stored = put s.stored p bytes }) (Unit {0}) free none) (sym h.1) (stores p bytes h.0 g.0 h.1)
  steps (Saved p new) g = let h = has Durable (s.processes p) p refl g.1.0 in saves p h.0 new g.0 h.1 (subst (Alive (λ old. Stays Thaws old new)) h.1 g.1.1)
  steps (Suspended p bytes) g = alive (λ old. Suspends old.lifecycle bytes) (λ z. put_at p (sleeps bytes z)) none p g.1 (λ old w e does. suspends p bytes old w g.0 e does)
  steps (Resumed p limits new) g = let h = asleep (λ bytes. ResumesAs (images p) limits bytes new) (s.processes p) p refl g.1 in resumes p limits h.0 new h.1 g.0 h.2 h.3
  steps (Died p) g = dies p g
  steps (Revived p limits life new) g = revives p limits life new g.0 g.1.0 g.1.1.0 g.1.1.1
  steps (GaveOut x new) g = out-by (after_call s (GaveOut x new)) (called.GaveOut x new) g refl refl tt (λ q. tt) (Unit {0})
  steps (HandedOut x new) g = out-by (after_call s (HandedOut x new)) (called.HandedOut x new) g refl refl tt (λ q. tt) (Unit {0})
  steps (DidOut new) g = out-by (after_call s (DidOut new)) (called.DidOut new) g refl refl tt (λ q. tt) (Unit {0})
  steps StoredOut g = out-by (after_call s StoredOut) called.StoredOut tt refl refl tt (λ q. tt) (Unit {0})
  steps (StoredBut k) g = out-by (after_call s (StoredBut k)) (called.StoredBut k) tt refl refl tt (λ q. tt) (Unit {0})
  steps (RevivedOut new) g = out-by (after_call s (RevivedOut new)) (called.RevivedOut new) g refl refl tt (λ q. tt) (Unit {0})
