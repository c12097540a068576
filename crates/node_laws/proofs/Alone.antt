-- Where failures come one at a time each process stays exact
use Rattle.std.proofs.Common.{◌≡◌, ℕ, ◌<◌, List, [], ◌∷◌, ◌++◌, true, false, refl, sym, ap, ◌∙◌, subst, arith}
use Rattle.std.specs.Prelude.{not, ◌&&◌, ◌==◌, nat_le, slice_index_or}
use Rattle.std.proofs.lemmas.Bool.Decides.{nat_tests}
use Rattle.theorems.proofs.Tests.{both}
use Rattle.world.specs.Handlers.{Handlers}
use Rattle.world.specs.World.{put}
use Rattle.cluster.specs.Cluster.{Cluster}
use Rattle.cluster.specs.Overlap.{Event}
use Rattle.cluster.specs.Exact.{acts_of}
use Rattle.packets.specs.Packet.{in_range}
use Rattle.packets.specs.declared.packet.NodePacket.{NodePacket}
use Rattle.packets.specs.declared.packet.Body.{Body}
use Rattle.packets.specs.declared.packet.Body.TheVariants.{Restored}
use Rattle.packets.specs.declared.kept.Kept.{Kept}
use Rattle.packets.proofs.KeptLemmas.{one_kept}
use Rattle.packets.specs.Says.{WasSaid}
use Rattle.node.specs.declared.limit.Limits.{Limits}
use Rattle.node.specs.Kept.{IsKeptOf}
use Rattle.node.specs.Answering.{Answering, handlers_of, IsOne}
use Rattle.node.proofs.Answering.{grows, one-was}
use Rattle.recovery.specs.Overlap.{is_loss}
use Rattle.recovery.specs.Intake.{sent_to}
use Rattle.recovery.specs.Collection.{TheCollecting, begins, revived}
use Rattle.recovery.specs.Restoration.{TheRestoring, has_answered, above_of, last_ssn}
use Rattle.recovery.specs.RestorationStands.{StandsRestoring}
use Rattle.recovery.proofs.Fits.{pages-fit}
use Rattle.gateway.specs.Gateway.{TheGateway}
use Rattle.node_laws.specs.HostProcess.{IsFirst}
use Rattle.node_laws.specs.Inside.Process.{Process, Collects, Restores, Killed, StandsAs, IsKilled, IsStoredOf, ComesFrom, covered, is_up, stage_of}
use Rattle.node_laws.specs.Inside.System.{System, AreStoredOf, Call, Gave, Handed, Worked, Did, Stored, Saved, Resumed, Died, Revived, GaveOut, HandedOut, DidOut, RevivedOut, DoesIt, after_call, after_calls, Along, FailsAlone, view}
use Rattle.node_laws.specs.HostSystem.{Hosting, start}
use Rattle.node_laws.proofs.HostStep.{IsPart}
use Rattle.node_laws.proofs.Lives.{WasPut}
use Rattle.node_laws.proofs.Back.{Reached, GoesOn, ends, is-run, none-on, joined, one-on}
use Rattle.node_laws.proofs.Sound.{IsSound, AreSound, raised-here}
use Rattle.recovery.proofs.Posts.{for-own}
use Rattle.process.proofs.Bounds.{not-true}
use Rattle.node_laws.proofs.OwnSound.{IsAlone}
use Rattle.node_laws.proofs.CollectingSound as collecting
use Rattle.node_laws.proofs.GatewaySound as gateways
use Rattle.node_laws.proofs.Lone.{Returns, IsOf, stands-of, Good, Goes, Back, Lone, IsLone, is-alone, process-goes, process-dies, only-comes, process-comes}
use Rattle.node_laws.proofs.LoneCalls.{Fits, giving, hearing, working, acting, storing, telling, waking}

-- ---- no page tells of more than was sent

module _ (f : Answering) (states : ℕ → List ℕ) (n : ℕ) (s : System) (es : List Event) (r : Reached (handlers_of f states) n s es) where
  abbrev g : Handlers
  g = handlers_of f states

  abbrev c : Cluster
  c = ends n g es

  -- p is of so many
  is-of : (p : ℕ) → IsFirst n p → IsOf p n (s.processes p)
  is-of p first = let h = r.led.holds in subst (λ k. IsOf p k (s.processes p)) h.count (stands-of (s.processes p) c p (h.each p first).stands)

  page-fits : (x : NodePacket) (m : TheRestoring) (p : ℕ) → WasPut c x → StandsRestoring m c p → Fits x (Restores m)
  page-fits x m p was st mine i j k a flags pairs e range reply =
      let q = for-own m.own x mine in
      let u = both ((i == m.own.life) && nat_le (slice_index_or m.own.heard x.from 0) j && not (has_answered x.from m)) (a == above_of x.from m) reply in
      let v = both ((i == m.own.life) && nat_le (slice_index_or m.own.heard x.from 0) j) (not (has_answered x.from m)) u.0 in
      let w = both (i == m.own.life) (nat_le (slice_index_or m.own.heard x.from 0) j) v.0 in
      let now : i ≡ m.own.life = (let z = w.0 in grind (arith, nat_tests)) in
      let here : StandsRestoring m c m.own.me = subst (StandsRestoring m c) (sym st.own.me) st in
      let P : Body → Type 0 = λ b. WasSaid c x.from m.own.me b in
      let Q : ℕ → Type 0 = λ z. WasSaid c x.from z x.body in
      let R : ℕ → Type 0 = λ z. P (Restored z j k a flags pairs) in
      let said : R m.own.life = subst R now (subst P e (subst Q q.0 (was.2 (ap is_loss e)).said)) in
      let S : ℕ → Type 0 = λ z. in_range (Restored z j k a flags pairs) ≡ true in
      let fit = pages-fit n g (acts_of es) c m x.from j k a flags pairs r.few (grows f states) (is-run g n s es r) here q.1.0 (not-true (has_answered x.from m) v.1) (subst S now range) said in
      let one : nat_le k (sent_to x.from m.own) ≡ true = (let l = fit.0 in grind (arith, nat_tests)) in
      let two : nat_le (last_ssn 0 pairs) (sent_to x.from m.own) ≡ true = (let l = fit.1 in grind (arith, nat_tests)) in
      rw (reply, one, two) refl

  fits-here : (x : NodePacket) (process : Process) (p : ℕ) → WasPut c x → StandsAs process c p → Fits x process
  fits-here x (Restores m) p was st = page-fits x m p was st
  fits-here x other p was st = tt

-- ---- calls

killed-is : (process : Process) → IsKilled process → process ≡ Killed
killed-is Killed d = refl
killed-is other d = absurd d

-- one more packet was given
with-given : (n : ℕ) (processes : ℕ → Process) (lives : ℕ → ℕ) (given out : List NodePacket) (x : NodePacket) → IsSound lives (Back n processes) x → Lone n processes lives given out → Lone n processes lives (x ∷ given) out
with-given n processes lives given out x sound h = record { outside = h.outside; alone = h.alone; good = h.good; given = (sound, h.given); out = h.out }

-- the gateway has this to send
with-out : (n : ℕ) (processes : ℕ → Process) (lives : ℕ → ℕ) (given out new : List NodePacket) → AreSound lives (Back n processes) new → Lone n processes lives given out → Lone n processes lives given new
with-out n processes lives given out new sound h = record { outside = h.outside; alone = h.alone; good = h.good; given = h.given; out = sound }

-- one comes back from what is stored, of which its number and how many there are is known
comes : (lives : ℕ → ℕ) (back : ℕ → Type 0) (n p life : ℕ) (limits : Limits) (k : Kept) (new : TheCollecting) → k.me ≡ p → k.count ≡ n → new ≡ revived limits k life → life ≡ lives p → back p → ((q : ℕ) → back q → q ≡ p) → Good lives back n p (Collects new)
comes lives back n p life limits k new me count is now here only =
    let old : TheCollecting = begins limits k life in
    let a : IsAlone lives back n old.own = record { count = count; life = now ∙ ap lives (sym me); here = subst back (sym me) here; only = λ q b. only q b ∙ sym me } in
    let t = collecting.asks-all lives back n old a in
    let P : TheCollecting → Type 0 = λ z. Good lives back n p (Collects z) in
    subst P (sym is) (record { exact = t.own.exact refl; life = t.own.life ∙ now; knows = t.hears (collecting.begun lives back n limits k life count); out = t.own.out tt })

module _ (f : Answering) (states : ℕ → List ℕ) (n : ℕ) (s : System) (es : List Event) (r : Reached (handlers_of f states) n s es) (h : IsLone n s) where
  abbrev back : ℕ → Type 0
  back = Back n s.processes

  abbrev here : Cluster
  here = ends n (handlers_of f states) es

  -- a packet that was given
  sound-given : (x : NodePacket) → IsOne x s.given → IsSound s.lives back x
  sound-given x one = one-was (IsSound s.lives back) x s.given h.given one

  only : (p : ℕ) → IsFirst n p → Returns (s.processes p) → back p × ((q : ℕ) → back q → q ≡ p)
  only p first b = ((first, b), is-alone n s.processes s.lives s.given s.gateway.out p h first b)

  goes : (p : ℕ) (new : Process) → IsFirst n p → Goes s.lives back n p (s.processes p) new → Lone n (put s.processes p new) s.lives s.given s.gateway.out
  goes p new first w = process-goes n s.processes s.lives s.given s.gateway.out h p first new w

  -- it comes back
  revives : (p life : ℕ) (new : TheCollecting) → IsFirst n p → IsKilled (s.processes p) → s.lives p < life → ComesFrom (s.stored p) life new → Lone n (put s.processes p (Collects new)) (put s.lives p life) s.given s.gateway.out
  revives p life new first dead above from =
      let holds = r.led.holds in
      let are : AreStoredOf (s.stored p) (s.processes p) here p = (holds.each p first).stored in
      let k : Kept = from.0 in
      let one : are.0 ≡ k = one_kept are.0 k (s.stored p) are.1.0 from.1.0 in
      let kept : IsKeptOf k here p = subst (λ z. IsKeptOf z here p) one (subst (λ z. IsStoredOf are.0 z here p) (killed-is (s.processes p) dead) are.1.1) in
      let down : is_up (s.processes p) ≡ false = ap is_up (killed-is (s.processes p) dead) in
      let now : life ≡ put s.lives p life p = sym (raised-here s.lives p life) in
      let b : Back n (put s.processes p (Collects new)) p = (first, subst Returns (sym (raised-here s.processes p (Collects new))) tt) in
      process-comes n s.processes s.lives s.given s.gateway.out h p first (Collects new) life down refl above
      (comes (put s.lives p life) (Back n (put s.processes p (Collects new))) n p life from.1.1.0.0 k new kept.me (kept.count ∙ holds.count) from.1.1.0.1 now b (only-comes n s.processes s.lives s.given s.gateway.out h p first (Collects new) down))

  call-alone : (k : Call) → DoesIt f n s k → FailsAlone n s k → IsLone n (after_call s k)
  call-alone (Gave p x new) m a =
      let t = giving s.lives back n p x (s.processes p) new m.1 (h.good p m.0) in
      process-goes n s.processes s.lives (x ∷ s.given) s.gateway.out (with-given n s.processes s.lives s.given s.gateway.out x t.0 h) p m.0 new t.1
  call-alone (Handed p x new) m a =
      let holds = r.led.holds in
      let fits : Fits x (s.processes p) = fits-here f states n s es r x (s.processes p) p (one-was (WasPut here) x s.given holds.given m.1.0) (holds.each p m.0).stands in
      goes p new m.0 (hearing s.lives back n p x (s.processes p) new m.1.1 (sound-given x m.1.0) fits (is-of f states n s es r p m.0) (only p m.0) (h.good p m.0))
  call-alone (Worked p a new) m l = goes p new m.0 (working s.lives back n p f a (s.processes p) new m.1 (h.good p m.0))
  call-alone (Did p new) m a = goes p new m.0 (acting s.lives back n p (s.processes p) new m.1 (is-of f states n s es r p m.0) (only p m.0) (h.good p m.0))
  call-alone (Stored p bytes) m a = goes p (covered (s.processes p)) m.0 (storing s.lives back n p bytes (s.processes p) m.1 (h.good p m.0))
  call-alone (Saved p new) m a = goes p new m.0 (telling s.lives back n p (s.processes p) new m.1 (h.good p m.0))
  call-alone (Resumed p limits new) m a = goes p new m.0 (waking s.lives back n p limits (s.processes p) new m.1 (h.good p m.0))
  call-alone (Died p) m a = process-dies n s.processes s.lives s.given s.gateway.out h p m Killed refl a
  call-alone (Revived p life new) m a = revives p life new m.0 m.1.0 m.1.1.0 m.1.1.1
  call-alone (GaveOut x new) m a =
      let P : TheGateway → Type 0 = λ z. AreSound s.lives back z.out in
      let out : AreSound s.lives back (x ∷ new.out) = subst P m.1.0 h.out in
      with-given n s.processes s.lives s.given new.out x out.0 (with-out n s.processes s.lives s.given s.gateway.out new.out out.1 h)
  call-alone (HandedOut x new) m a =
      let P : TheGateway → Type 0 = λ z. AreSound s.lives back z.out in
      with-out n s.processes s.lives s.given s.gateway.out new.out (subst P (sym m.1.0) (gateways.hands s.lives back x s.gateway h.outside (sound-given x m.0) h.out)) h
  call-alone (DidOut new) m a = with-out n s.processes s.lives s.given s.gateway.out new.out (gateways.deals s.lives back s.gateway new m.0 h.out) h
  call-alone (RevivedOut new) m a =
      let P : TheGateway → Type 0 = λ z. AreSound s.lives back z.out in
      let out : AreSound s.lives back new.out = subst P (sym m.0) tt in
      with-out n s.processes s.lives s.given s.gateway.out new.out out h
  call-alone other m a = h

-- ---- parts of a call of a host

pub alone-go : (f : Answering) (states : ℕ → List ℕ) (n : ℕ) (X A : Type 0) (E : ℕ → Type 0) → A → (s : System) (es : List Event) (ks : List Call) → Reached (handlers_of f states) n s es → IsLone n s → Along (IsPart f n X A E) s ks → GoesOn (handlers_of f states) n (after_calls s ks) es × IsLone n (after_calls s ks)
alone-go f states n X A E a s es [] r h m = (none-on (handlers_of f states) n s es r, h)
alone-go f states n X A E a s es (k ∷ ks) r h m =
    let lone : IsLone n (after_call s k) = call-alone f states n s es r h k m.0.does (m.0.alone a) in
    let on : GoesOn (handlers_of f states) n (after_call s k) es = one-on f states n s es k r m.0.does (λ p first. (lone.good p first).exact) in
    let rest = alone-go f states n X A E a (after_call s k) (es ++ on.more) ks on.reached lone m.1 in
    (joined (handlers_of f states) n (after_calls (after_call s k) ks) es on.more rest.0, rest.1)

-- at the opening all are up
pub begins-alone : (h : Hosting) → IsLone h.n (view (start h))
begins-alone h =
    let s : System = view (start h) in
    let up : (p : ℕ) → IsFirst h.n p → is_up (s.processes p) ≡ true = λ p l. ap (λ c. is_up (stage_of c)) (h.opens.opened p l).lifecycle_is in
    record {
      outside = refl;
      alone = λ p q a b apart e. up q b;
      good = λ p l. subst (λ c. Good (λ q. 1) (Back h.n s.processes) h.n p (stage_of c)) (sym (h.opens.opened p l).lifecycle_is) (record { exact = refl; life = refl; knows = tt; out = tt });
      given = tt;
      out = tt;
    }
