-- What each call of a process makes of the cluster
use Rattle.std.proofs.Common.{◌≡◌, ◌≢◌, inl, inr, ℕ, suc, ◌+◌, ◌≤◌, ◌<◌, List, [], ◌∷◌, ◌++◌, take, refl, sym, ap, ◌∙◌, subst, arith, Bool, true, false}
use Rattle.std.specs.Prelude.{Some, Option, None, ◌⊎◌, if◌then◌else◌}
use Rattle.theorems.proofs.Changes.{at-itself}
use Rattle.world.specs.declared.message.Message.{Message}
use Rattle.world.specs.Handlers.{Handlers}
use Rattle.world.specs.Phases as phases
use Rattle.cluster.specs.Parcels.{Ask, parcel, In}
use Rattle.cluster.specs.Cluster.{Cluster, Live, Dead, Collecting}
use Rattle.cluster.specs.Rules.{Act, Keeps, Dies, Opens, May, IsNode, does}
use Rattle.cluster.specs.Overlap as overlap
use Rattle.cluster.specs.Exact.{MayStep}
use Rattle.cluster.proofs.Goes.{goes-self, goes-act, goes-any}
use Rattle.packets.specs.declared.packet.Body as bodies
use Rattle.packets.specs.declared.packet.Body.TheVariants as packets
use Rattle.packets.specs.declared.packet.NodePacket.{NodePacket}
use Rattle.packets.specs.declared.kept.Kept.{Kept}
use Rattle.packets.specs.Kept.{IsKept}
use Rattle.packets.proofs.KeptLemmas.{one_kept}
use Rattle.packets.specs.Says.{WasSaid}
use Rattle.node.specs.declared.job.OpenJob.{OpenJob}
use Rattle.node.specs.declared.limit.Limits.{Limits}
use Rattle.node.specs.Node.{TheNode}
use Rattle.node.specs.Calls.{handed, did_work}
use Rattle.node.specs.Transmission.{ticked}
use Rattle.node.specs.Checkpoints.{froze}
use Rattle.node.specs.Kept.{kept_of, Covers, IsKeptOf}
use Rattle.node.specs.Suspension.{woken}
use Rattle.node.specs.Stands.{Each, Stands, GoesTo, PutOut, IsHanded, Handles, actor, phase_of, stage_of, job_of, payloads_to}
use Rattle.node.specs.Answering.{Answer, Answering, handlers_of, state_from, sends_from}
use Rattle.node.proofs.Steps.{owes-at, saves-at}
use Rattle.node.proofs.Preservation.{kept-stays, resting-stands}
use Rattle.node.proofs.Answering.{answers, state-more, sends-more}
use Rattle.node.proofs.Suspensions.{woken-stands}
use Rattle.recovery.specs.Collection.{TheCollecting}
use Rattle.recovery.specs.Overlap.{is_loss}
use Rattle.recovery.specs.Stands.{StandsCollecting, OfProcess, IsSaid, IsSent, Reopens}
use Rattle.recovery.specs.Replays.{TheReplaying}
use Rattle.recovery.specs.Replayed.{StandsReplayed}
use Rattle.recovery.specs.StandsAtReplay.{StandsReplaying, AnswersAfter}
use Rattle.recovery.specs.StandsAtReplay as replaying
use Rattle.recovery.proofs.Posts.{own-out, replayed-own}
use Rattle.recovery.specs.RestorationStands.{StandsRestoring}
use Rattle.node_laws.specs.Inside.Process.{Process, Up, Covered, Collects, Replays, Replayed, Restores, Killed, StandsAs, is_exact, Gives, Hears, Works, Acts, WaitsFor, covered, IsTold, Wakes, IsKilled, ComesFrom, IsAnswerAgain}
use Rattle.node_laws.specs.Inside.System.{AreStoredOf}
use Rattle.node_laws.proofs.Believed.{Calm, Believed}
use Rattle.node_laws.proofs.Along.{kept-goes}
use Rattle.node_laws.proofs.Moves.{Moves, IsPlain, moves-own, moves-none}
use Rattle.node_laws.proofs.Losses.{loss-is-dropped, handed-rests, ticked-rests, froze-rests}

-- ---- a node that waits for its checkpoint is as it was

-- it works on nothing
idle : (o : Option OpenJob) → phase_of o ≡ phases.Up → o ≡ None
idle None e = refl
idle (Some j) e = absurd (cc (e))

pub none-open : (c : Cluster) (p : ℕ) (n : TheNode) → Calm c → n.frozen ≡ true → Stands n c p → n.working ≡ None
none-open c p n calm e s = idle n.working (sym s.phase ∙ calm.rests p (s.stage ∙ ap stage_of e))

work-rests : (c : Cluster) (p : ℕ) (n : TheNode) (a : Answer) → Believed c → n.frozen ≡ true → Stands n c p → did_work a.state a.given n.working n ≡ n
work-rests c p n a h e s = ap (λ o. did_work a.state a.given o n) (none-open c p n h.calm e s)

-- ---- the handler's answer to a message that is replayed

answers-again : (f : Answering) (states : ℕ → List ℕ) (n : TheReplaying) (c : Cluster) (p : ℕ) (a : Answer) → c.world.handlers ≡ handlers_of f states → StandsReplaying n c p → IsAnswerAgain f p n a → replaying.Handles a.state a.given n c
answers-again f states n c p a handlers s is j next =
    let h : List Message = take (n.own.base + n.done) (c.world.history p) in
    let here : state_from f p (states p) h ≡ n.own.state = ap (λ (g : Handlers). g.state p h) (sym handlers) ∙ s.own.state in
    let answer : f p (state_from f p (states p) h) (job_of j) ≡ a = ap (λ z. f p z (job_of j)) here ∙ sym (is j next) in
    subst (λ k. AnswersAfter c.world.handlers k (take (n.own.base + n.done) (c.world.history k)) (job_of j) a.state a.given) (sym s.own.me) (record {
      state_is = ap (λ (g : Handlers). g.state p (h ++ job_of j ∷ [])) handlers ∙ state-more f p (states p) h (job_of j) ∙ ap (λ (z : Answer). z.state) answer;
      sends_are = λ d. ap (λ (g : Handlers). g.sends p (h ++ job_of j ∷ []) d) handlers ∙ sends-more f p (states p) h (job_of j) d
          ∙ ap (λ (z : Answer). sends_from f p (states p) h d ++ payloads_to d z.given) answer ∙ ap (λ (g : Handlers). g.sends p h d ++ payloads_to d a.given) (sym handlers);
    })

-- ---- what is put out

-- what was put out says of no process that all is lost; and who asks is a process
of-body : (c : Cluster) (p d : ℕ) (b : bodies.Body) → ((i k : ℕ) → In (parcel p d (Ask i k)) c.parcels → 0 < p) → WasSaid c p d b → OfProcess c p d b
of-body c p d (packets.Ask i k) asks w = let e : Ask i k ≡ w.0 = cc (w.1) in asks i k (subst (λ z. In (parcel p d z) c.parcels) (sym e) w.2)
of-body c p d (packets.Told i j k flags entries) asks w = λ t. absurd (let z : true ≡ false = sym t ∙ w.1.2 in cc)
of-body c p d other asks w = tt

pub put-sent : (c : Cluster) (p : ℕ) (x : NodePacket) → ((i k : ℕ) → In (parcel p x.to (Ask i k)) c.parcels → 0 < p) → PutOut c p x → IsSent c p x
put-sent c p x asks o = (o.from, of-body c p x.to x.body asks o.said, λ e. o)

-- ---- acts before others

moves-after : (p : ℕ) (new : Process) (bytes : List ℕ) (life : ℕ) (c : Cluster) (a : Act) → MayStep c (overlap.Acts true a) → actor a ≡ p → Moves p new bytes life (overlap.goes c (overlap.Acts true a)) → Moves p new bytes life c
moves-after p new bytes life c a may by m = record { events = overlap.Acts true a ∷ m.events; run = (may, m.run); by = (by, m.by); acts = λ e. (tt, m.acts e); has = m.has }

-- a process that becomes another
becomes : (p : ℕ) (old new : Process) (bytes : List ℕ) (life : ℕ) (c : Cluster) → new ≡ old → Moves p old bytes life c → Moves p new bytes life c
becomes p old new bytes life c e m = subst (λ z. Moves p z bytes life c) (sym e) m

-- ---- the calls

module _ (c : Cluster) (p : ℕ) (bytes : List ℕ) (life : ℕ) (low : c.stored p ≤ life) where
  abbrev Goes : Process → Type 0
  Goes new = Moves p new bytes life c

  -- where it goes by events of its own that leave what is stored
  own : (new : Process) (k : Kept) → IsPlain new p → IsKept k bytes × IsKeptOf k c p → GoesTo (is_exact new) p (λ d. StandsAs new d p) c → Goes new
  own new k plain are g = moves-own p new bytes life c k plain are.0 are.1 low g

  -- it is another, which stands, or goes on so
  gone : (mid new : Process) → new ≡ mid → StandsAs mid c p → AreStoredOf bytes mid c p → Goes new
  gone mid new e s are = becomes p mid new bytes life c e (moves-none p mid bytes life c s are low)

  goes : (mid new : Process) (k : Kept) → new ≡ mid → IsPlain mid p → IsKept k bytes × IsKeptOf k c p → GoesTo (is_exact mid) p (λ d. StandsAs mid d p) c → Goes new
  goes mid new k e plain are g = becomes p mid new bytes life c e (own mid k plain are g)

  -- by acts alone
  acts : (mid new : Process) (k : Kept) → new ≡ mid → IsPlain mid p → IsKept k bytes × IsKeptOf k c p → GoesTo true p (λ d. StandsAs mid d p) c → Goes new
  acts mid new k e plain are g = goes mid new k e plain are (goes-any true (is_exact mid) p (λ d. StandsAs mid d p) c (λ t. refl) g)

  -- what its function says of its own number
  at-me : (me : ℕ) (P Q : ℕ → Type 0) → me ≡ p → (P me → Q me) → P p → Q p
  at-me me P Q e f s = subst Q e (f (subst P (sym e) s))

  -- a packet is taken
  pub giving : (x : NodePacket) (old new : Process) → Gives x old new → StandsAs old c p → AreStoredOf bytes old c p → IsSent c p x × Goes new
  giving x (Up n) new g s are =
      let took = at-me n.me (Stands n c) (λ q. PutOut c q x × Stands g.0 c q) s.me (g.1.1.1 c) s in
      (put-sent c p x (λ i k a. s.inside.0) took.0, gone (Up g.0) new g.1.0 took.1 are)
  giving x (Covered n) new g s are =
      let took = at-me n.me (Stands n c) (λ q. PutOut c q x × Stands g.0 c q) s.1.me (g.1.1.1 c) s.1 in
      let waits : g.0.frozen ≡ true = sym (ap (λ (z : TheNode). z.frozen) g.1.1.0) ∙ s.0 in
      (put-sent c p x (λ i k a. s.1.inside.0) took.0, gone (Covered g.0) new g.1.0 (waits, took.1) are)
  giving x (Collects n) new g s are =
      let took = at-me n.own.me (StandsCollecting n c) (λ q. IsSent c q x × StandsCollecting g.0 c q) s.own.me (g.1.1.1 c) s in
      (took.0, gone (Collects g.0) new g.1.0 took.1 are)
  giving x (Replays n) new g s are =
      let took = at-me n.own.me (StandsReplaying n c) (λ q. IsSent c q x × StandsReplaying g.0 c q) s.own.me (g.1.1.1 c) s in
      (took.0, gone (Replays g.0) new g.1.0 took.1 are)
  giving x (Restores n) new g s are =
      let took = at-me n.own.me (StandsRestoring n c) (λ q. IsSent c q x × StandsRestoring g.0 c q) s.own.me (g.1.1.1 c) s in
      (took.0, gone (Restores g.0) new g.1.0 took.1 are)
  giving x (Replayed n) new g s are =
      let out : Each (IsSent c p) (x ∷ g.0.own.out) = subst (Each (IsSent c p)) g.1.1.0 s.own.out in
      (out.0, gone (Replayed g.0) new g.1.0 (subst (λ z. StandsReplayed z c p) (sym g.1.1.1) (replayed-own n c p (own-out n.own c p (c.world.history p) (c.world.trims p) (c.world.numbers p) g.0.own.out out.1 s.own) s)) are)
  giving x Killed new g s are = absurd g

  -- a packet comes to a node that is up: it drops one that says that all is lost
  hearing-up : (x : NodePacket) (n new : TheNode) (loss : Bool) → is_loss x.body ≡ loss → (new ≡ handed x n) × IsHanded x n new → IsSaid c x.from x.to x.body → Stands n c p → GoesTo true p (λ d. Stands new d p) c
  hearing-up x n new true e g said s = goes-self true p (λ d. Stands new d p) c (subst (λ z. Stands z c p) (sym (g.0 ∙ loss-is-dropped.0 x n e)) s)
  hearing-up x n new false e g said s = owes-at (λ d. WasSaid d x.from x.to x.body) n new c p g.1 s (said.1 e)

  -- a packet comes
  pub hearing : (x : NodePacket) (old new : Process) → Hears x old new → IsSaid c x.from x.to x.body → StandsAs old c p → AreStoredOf bytes old c p → Goes new
  hearing x (Up n) new g said s are = acts (Up g.0) new are.0 g.1.0 (λ k d z. z) are.1 (hearing-up x n g.0 (is_loss x.body) refl g.1.1 said s)
  hearing x (Covered n) new g said s are = gone (Covered n) new (g.1.0 ∙ ap Covered (g.1.1 ∙ handed-rests x n s.0)) s are
  hearing x (Collects n) new g said s are = goes (Collects g.0) new are.0 g.1.0 (λ k d z. z) are.1 (at-me n.own.me (StandsCollecting n c) (λ q. GoesTo g.0.own.exact q (λ d. StandsCollecting g.0 d q) c) s.own.me (λ z. g.1.1.1 c z said) s)
  hearing x (Replays n) new g said s are = goes (Replays g.0) new are.0 g.1.0 (λ k d z. z) are.1 (at-me n.own.me (StandsReplaying n c) (λ q. GoesTo g.0.own.exact q (λ d. StandsReplaying g.0 d q) c) s.own.me (λ z. g.1.1.1 c z said) s)
  hearing x (Replayed n) new g said s are = goes (Replayed g.0) new are.0 g.1.0 (λ k d z. z) are.1 (at-me n.own.me (StandsReplayed n c) (λ q. GoesTo g.0.own.exact q (λ d. StandsReplayed g.0 d q) c) s.own.me (λ z. g.1.1.1 c z said) s)
  hearing x (Restores n) new g said s are =
      goes (Restores g.0) new are.0 g.1.0 (λ k d z. z) are.1 (at-me n.own.me (StandsRestoring n c) (λ q. GoesTo g.0.own.exact q (λ d. StandsRestoring g.0 d q) c) s.own.me (λ z. g.1.1.1.1 g.1.1.1.0 c z said) s)
  hearing x Killed new g said s are = absurd g

  -- its handler answered
  pub working : (f : Answering) (states : ℕ → List ℕ) (a : Answer) (old new : Process) → Works f p a old new → c.world.handlers ≡ handlers_of f states → Believed c → StandsAs old c p → AreStoredOf bytes old c p → Goes new
  working f states a (Up n) new g handlers h s are =
      acts (Up g.1.0) new are.0 g.1.1.0 (λ k d z. z) are.1 (owes-at (Handles a.state a.given n) n g.1.0 c p g.1.1.1.1 s (answers f states n c p a handlers s g.0))
  working f states a (Covered n) new g handlers h s are =
      gone (Covered n) new (g.1.0 ∙ ap Covered (g.1.1 ∙ work-rests c p n a h s.0 s.1)) s are
  working f states a (Replays n) new g handlers h s are = goes (Replays g.1.0) new are.0 g.1.1.0 (λ k d z. z) are.1 (at-me n.own.me (StandsReplaying n c) (λ q. GoesTo g.1.0.own.exact q (λ d. StandsReplaying g.1.0 d q) c) s.own.me (λ z. g.1.1.1.1 c z (answers-again f states n c p a handlers s g.0)) s)
  working f states a other new g handlers h s are = absurd g

  -- it acts, or goes on to its next stage
  pub acting : (old new : Process) → Acts old new → Believed c → StandsAs old c p → AreStoredOf bytes old c p → Goes new
  acting (Up n) new g h s are = acts (Up g.0) new are.0 g.1.0 (λ k d z. z) are.1 (owes-at (λ d. Unit {0}) n g.0 c p g.1.1.1 s tt)
  acting (Covered n) new g h s are = gone (Covered n) new (g.1.0 ∙ ap Covered (rests g.1.1)) s are
    where
      rests : (g.0 ≡ ticked n) ⊎ (g.0 ≡ froze n) → g.0 ≡ n
      rests (inl e) = e ∙ ticked-rests n s.0
      rests (inr e) = e ∙ froze-rests n s.0
  acting (Collects n) new (inl g) h s are = goes (Collects g.0) new are.0 g.1.0 (λ k d z. z) are.1 (at-me n.own.me (StandsCollecting n c) (λ q. GoesTo g.0.own.exact q (λ d. StandsCollecting g.0 d q) c) s.own.me (λ z. g.1.1.1 c z tt) s)
  acting (Collects n) new (inr g) h s are = acts (Replays g.0) new are.0 g.1.0 (λ k d z. z) are.1 (at-me n.own.me (StandsCollecting n c) (λ q. GoesTo true q (λ d. StandsReplaying g.0 d q) c) s.own.me (λ z. g.1.1.acts c z (h.ordered n.own.me)) s)
  acting (Replays n) new g h s are = gone (Replayed g.0) new g.1.0 (g.1.1.1.0 c p s) are
  acting (Replayed n) new g h s are = goes (Restores g.0) new are.0 g.1.0 (λ k d z. z) are.1 (at-me n.own.me (StandsReplayed n c) (λ q. GoesTo g.0.own.exact q (λ d. StandsRestoring g.0 d q) c) s.own.me (g.1.1.1 c) s)
  acting (Restores n) new (inl g) h s are = goes (Restores g.0) new are.0 g.1.0 (λ k d z. z) are.1 (at-me n.own.me (StandsRestoring n c) (λ q. GoesTo g.0.own.exact q (λ d. StandsRestoring g.0 d q) c) s.own.me (λ z. g.1.1.1 c z tt) s)
  acting (Restores n) new (inr g) h s are =
      becomes p (Up g.0) new bytes life c g.1.0 (moves-none p (Up g.0) bytes life c (subst (Stands g.0 c) s.own.me (g.1.1.1 c (subst (StandsRestoring n c) (sym s.own.me) s))) are low)
  acting Killed new g h s are = absurd g

  -- its checkpoint is durable
  pub storing : (others : List ℕ) (old : Process) → WaitsFor bytes old → StandsAs old c p → AreStoredOf others old c p → Goes (covered old)
  storing others (Up n) g s are = moves-none p (Covered n) bytes life c (g.0, s) (kept_of n, (g.1.0, covers-at n g.1.1 g.0 s)) low
    where
      covers-at : (n : TheNode) → Covers (kept_of n) n → n.frozen ≡ true → Stands n c p → May c (Keeps p) × IsKeptOf (kept_of n) (does c (Keeps p)) p
      covers-at n cov waits s =
          let P : ℕ → Type 0 = λ q. May c (Keeps q) × IsKeptOf (kept_of n) (does c (Keeps q)) q in
          subst P s.me (cov c (resting-stands n c waits (subst (Stands n c) (sym s.me) s)))
  storing others (Covered n) g s are =
      let P : ℕ → Type 0 = λ q. May c (Keeps q) × IsKeptOf (kept_of n) (does c (Keeps q)) q in
      moves-none p (Covered n) bytes life c s (kept_of n, (g.0, subst P s.1.me (g.1 c (resting-stands n c s.0 (subst (Stands n c) (sym s.1.me) s.1))))) low
  storing others other g s are = absurd g

  -- and it was told so
  pub telling : (old new : Process) → IsTold old new → StandsAs old c p → AreStoredOf bytes old c p → Goes new
  telling (Up n) new g s are = gone (Up n) new (g.1.1.0 ∙ ap Up (g.1.1.1.0 g.0)) s are
  telling (Covered n) new g s are =
      let k = saves-at n g.0 c p g.1.1.1 s.0 s.1 in
      becomes p (Up g.0) new bytes life c g.1.0
      (moves-after p (Up g.0) bytes life c (Keeps p) ((k.0, tt), tt) refl (moves-own p (Up g.0) bytes life (does c (Keeps p)) are.0 (λ m d z. z) are.1.0 are.1.1.1 low (goes-any true g.0.exact p (λ d. Stands g.0 d p) (does c (Keeps p)) (λ t. refl) k.1)))
  telling other new g s are = absurd g

  -- it was suspended, and is resumed
  pub waking : (limits : Limits) (old new : Process) → Wakes limits old new → (c.durable p ≡ true → limits.durable ≡ true) → StandsAs old c p → AreStoredOf bytes old c p → Goes new
  waking limits (Up n) new g lasting s are =
      let to : Process = Up (woken limits n) in
      becomes p to new bytes life c (g.1.1.0 ∙ ap Up g.1.1.1) (moves-none p to bytes life c (woken-stands n limits c p lasting g.0 s) are low)
  waking limits other new g lasting s are = absurd g

-- it is killed
killed : (c : Cluster) (p : ℕ) (bytes : List ℕ) (life : ℕ) (k : Kept) → c.stored p ≤ life → IsNode c p → c.stage p ≢ Dead → IsKept k bytes → IsKeptOf k c p → Moves p Killed bytes life c
killed c p bytes life k low inside alive is kept =
    moves-own p Killed bytes life c k (λ m d z. z) is kept low
    (goes-act true p (λ d. StandsAs Killed d p) c (Dies p) (inside, alive) tt tt refl (inside, at-itself p (λ b. (if b then Dead else c.stage p) ≡ Dead) refl))

runs-on : (b : Bool) → stage_of b ≢ Dead
runs-on true e = absurd (cc (e))
runs-on false e = absurd (cc (e))

pub dying : (c : Cluster) (p : ℕ) (bytes : List ℕ) (life : ℕ) (old : Process) → c.stored p ≤ life → StandsAs old c p → AreStoredOf bytes old c p → Moves p Killed bytes life c
dying c p bytes life (Up n) low s are = killed c p bytes life are.0 low s.inside (λ e. runs-on n.frozen (sym s.stage ∙ e)) are.1.0 are.1.1
dying c p bytes life (Covered n) low s are =
    moves-after p Killed bytes life c (Keeps p) ((are.1.1.0, tt), tt) refl
    (killed (does c (Keeps p)) p bytes life are.0 low s.1.inside (λ e. runs-on n.frozen (sym s.1.stage ∙ e)) are.1.0 are.1.1.1)
dying c p bytes life (Collects n) low s are = killed c p bytes life are.0 low s.own.inside (λ e. let f : Collecting ≡ Dead = sym s.stage ∙ e in absurd (cc (f))) are.1.0 are.1.1
dying c p bytes life Killed low s are = moves-none p Killed bytes life c s are low
dying c p bytes life other low s are = killed c p bytes life are.0 low s.own.inside (λ e. let f : Live ≡ Dead = sym s.stage ∙ e in absurd (cc (f))) are.1.0 are.1.1

-- it comes back
pub reviving : (c : Cluster) (p : ℕ) (bytes : List ℕ) (old : Process) (before life : ℕ) (n : TheCollecting) → (c.durable p ≡ true → n.own.limits.durable ≡ true) → IsKilled old → c.stored p ≤ before → before < life → ComesFrom bytes life n → StandsAs old c p → AreStoredOf bytes old c p → Moves p (Collects n) bytes life c
reviving c p bytes Killed before life n lasting dead low above from s are =
    let k : Kept = are.0 in
    let one : from.0 ≡ k = one_kept from.0 k bytes from.1.0 are.1.0 in
    let early : c.stored p < life = omega (arith, low, above) in
    let stored : IsKeptOf k c p = are.1.1 in
    let P : ℕ → Type 0 = λ q. (c.durable q ≡ true → n.own.limits.durable ≡ true) → c.stage q ≡ Dead → c.stored q < life → IsKeptOf k c q → IsNode c q → Reopens q life (λ d. StandsCollecting n d q) c in
    let owed : P k.me = subst (λ (z : Kept). (c.durable z.me ≡ true → n.own.limits.durable ≡ true) → c.stage z.me ≡ Dead → c.stored z.me < life → IsKeptOf z c z.me → IsNode c z.me → Reopens z.me life (λ d. StandsCollecting n d z.me) c) one (from.1.1.1 c) in
    let r : Reopens p life (λ d. StandsCollecting n d p) c = subst P stored.me owed lasting s.1 early stored s.0 in
    let opens : overlap.Event = overlap.Acts true (Opens p r.skipped) in
    let opened : Cluster = overlap.goes c opens in
    let still : IsKeptOf k opened p = kept-goes k c p opens (kept-stays k p (Opens p r.skipped ∷ []) c ((λ e. absurd (cc (e))), tt) stored) in
    let now : opened.stored p ≡ life = at-itself p (λ b. (if b then suc (r.skipped + c.stored p) else c.stored p) ≡ life) r.incarnation in
    moves-after p (Collects n) bytes life c (Opens p r.skipped) ((r.opens, tt), tt) refl
    (moves-own p (Collects n) bytes life opened k (λ m d z. z) are.1.0 still (omega (arith, now)) (goes-any true n.own.exact p (λ d. StandsCollecting n d p) opened (λ t. refl) r.goes))
reviving c p bytes other before life n lasting dead low above from s are = absurd dead
