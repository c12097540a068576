-- What holds of hosted processes
use Rattle.std.proofs.Common.{◌≡◌, ℕ, ◌≤◌, List, [], ◌∷◌, ◌++◌, false, refl, sym, ap, subst}
use Rattle.world.specs.Handlers.{Handlers}
use Rattle.verifier.specs.declared.any_image.AnyImage.{AnyImage}
use Rattle.interp.specs.Image.{as_image}
use Rattle.cluster.specs.Cluster.{Cluster, durable_opening}
use Rattle.cluster.specs.Overlap.{Event, after_events}
use Rattle.cluster.specs.Exact.{acts_of}
use Rattle.cluster.proofs.Promised.{nodes-keep}
use Rattle.node.specs.Answering.{Answering, handlers_of}
use Rattle.node.proofs.Answering.{grows}
use Rattle.process.specs.Process.{is_settled}
use Rattle.node_laws.specs.HostReplies.{answering}
use Rattle.node_laws.specs.HostSystem.{System, Hosting, start, after, Makes, handlers, HostCall, AreCalls, after_call, after_calls}
use Rattle.node_laws.specs.HostLaws.{StayExact, OneAtATime, HostedRun, HostedAlone, HostedRunAlone, HostedBack, HostedBackAlone}
use Rattle.node_laws.specs.HostLaws as laws
use Rattle.node_laws.specs.Inside.System.{view}
use Rattle.node_laws.proofs.Believed.{believed}
use Rattle.node_laws.proofs.Lives.{all-stand}
use Rattle.node_laws.proofs.Led.{Led, LedOn, led-calls, led-first}
use Rattle.node_laws.proofs.Back.{Reached, GoesOn, ends, is-run, none-on, joined, goes-on, nothing-is-lost}
use Rattle.node_laws.proofs.Lone.{IsLone}
use Rattle.node_laws.proofs.Alone.{alone-go, begins-alone}
use Rattle.node_laws.proofs.Stages.{Waits}
use Rattle.node_laws.proofs.Views.{AreGood, exact-here}
use Rattle.node_laws.proofs.HostStep.{StepsBy}
use Rattle.node_laws.proofs.HostSteps.{steps}

-- ---- calls of hosts behind others

pub after-more : (s : System) (ks more : List HostCall) → after_calls s (ks ++ more) ≡ after_calls (after_calls s ks) more
after-more s [] more = refl
after-more s (k ∷ ks) more = after-more (after_call s k) ks more

pub calls-split : (images : ℕ → AnyImage) (n : ℕ) (s : System) (ks more : List HostCall) → AreCalls images n s (ks ++ more) → AreCalls images n s ks × AreCalls images n (after_calls s ks) more
calls-split images n s [] more g = (tt, g)
calls-split images n s (k ∷ ks) more g = let r = calls-split images n (after_call s k) ks more g.1 in ((g.0, r.0), r.1)

pub exact-split : (n : ℕ) (s : System) (ks more : List HostCall) → StayExact n s (ks ++ more) → StayExact n s ks × StayExact n (after_calls s ks) more
exact-split n s [] more g = (tt, g)
exact-split n s (k ∷ ks) more g = let r = exact-split n (after_call s k) ks more g.1 in ((g.0, r.0), r.1)

-- ---- what holds between two calls

pub record State (images : ℕ → AnyImage) (states : ℕ → List ℕ) (n : ℕ) (s : System) : Type 0 where
  pub good : AreGood images n s
  pub events : List Event
  pub led : Led (handlers_of (answering n images) states) n (λ q. false) (view s) events

module _ (images : ℕ → AnyImage) (states : ℕ → List ℕ) (n : ℕ) where
  abbrev f : Answering
  f = answering n images

  abbrev F : Handlers
  F = handlers_of f states

  -- each call is calls of a process by its stages
  abbrev pub Trace : System → List HostCall → Type 0
  Trace s [] = State images states n s
  Trace s (k ∷ ks) = State images states n s × ((one : StepsBy images n s k) × Trace (after_call s k) ks)

  pub trace : (s : System) (ks : List HostCall) → State images states n s → AreCalls images n s ks → Trace s ks
  trace s [] st g = st
  trace s (k ∷ ks) st g =
      let c : Cluster = after_events (durable_opening n F (λ q. false)) st.events in
      let one : StepsBy images n s k = steps images states n s st.good c st.led.holds (believed n F (λ q. false) st.events (grows f states) st.led.run).calm k g.0 in
      let on : LedOn F n (λ q. false) (view (after_call s k)) st.events =
      subst (λ z. LedOn F n (λ q. false) z st.events) one.stand (led-calls f states n (λ q. false) _ _ (λ q. laws.KeepsDurable q k) (λ p e. absurd (cc (e))) (view s) st.events one.calls st.led one.are) in
      (st, (one, trace (after_call s k) ks (record { good = one.good; events = st.events ++ on.more; led = on.led }) g.1))

  pub at-end : (s : System) (ks : List HostCall) → Trace s ks → State images states n (after_calls s ks)
  at-end s [] t = t
  at-end s (k ∷ ks) t = at-end (after_call s k) ks t.1.1

  pub trace-split : (s : System) (ks more : List HostCall) → Trace s (ks ++ more) → Trace s ks × Trace (after_calls s ks) more
  trace-split s [] [] t = (t, t)
  trace-split s [] (k ∷ more) t = (t.0, t)
  trace-split s (k ∷ ks) more t = let r = trace-split (after_call s k) ks more t.1.1 in ((t.0, (t.1.0, r.0)), r.1)

  -- a cluster runs on
  pub runs-on : (s : System) (es : List Event) (ks : List HostCall) → Reached F n (view s) es → Trace s ks → StayExact n s ks → GoesOn F n (view (after_calls s ks)) es
  runs-on s es [] r t e = none-on F n (view s) es r
  runs-on s es (k ∷ ks) r t e =
      let one : StepsBy images n s k = t.1.0 in
      let on : GoesOn F n (view (after_call s k)) es = subst (λ z. GoesOn F n z es) one.stand (goes-on f states n _ _ (λ q. laws.KeepsDurable q k) e.0 (view s) es one.calls r one.are) in
      joined F n (view (after_calls (after_call s k) ks)) es on.more (runs-on (after_call s k) (es ++ on.more) ks on.reached t.1.1 e.1)

  -- so where processes fail one at a time, and all are exact then
  stays-exact : (s : System) (es : List Event) (ks : List HostCall) → Reached F n (view s) es → IsLone n (view s) → Trace s ks → OneAtATime n s ks → StayExact n s ks
  stays-exact s es [] r h t a = tt
  stays-exact s es (k ∷ ks) r h t a =
      let one : StepsBy images n s k = t.1.0 in
      let on : GoesOn F n (view (after_call s k)) es × IsLone n (view (after_call s k)) = subst (λ z. GoesOn F n z es × IsLone n z) one.stand (alone-go f states n _ _ (λ q. laws.KeepsDurable q k) a.0 (view s) es one.calls r h one.are) in
      (exact-here n (after_call s k) (λ p l. (on.1.good p l).exact), stays-exact (after_call s k) (es ++ on.0.more) ks on.0.reached on.1 t.1.1 a.1)

-- ---- from the opening on

pub made : (h : Hosting) (calls : List HostCall) → Makes h calls → Trace h.images h.states h.n (start h) calls
made h calls g =
    trace h.images h.states h.n (start h) calls (record {
      good = λ p l. (ap as_image (h.opens.opened p l).image_is, (ap is_settled (h.opens.opened p l).lifecycle_is, (tt, subst Waits (sym (h.opens.opened p l).lifecycle_is) tt)));
      events = [];
      led = led-first h (λ q. false) (λ p e. absurd (cc (e)));
    }) g

pub reached : (h : Hosting) → h.n ≤ 15 → Reached (handlers h) h.n (view (start h)) []
reached h few = record { few = few; led = led-first h (λ q. false) (λ p e. absurd (cc (e))); are = tt }

-- ---- while failures come one at a time

pub hosted-run : HostedRun
hosted-run h calls few g e =
    let t = made h calls g in
    let on = runs-on h.images h.states h.n (start h) [] calls (reached h few) t e in
    let is = is-run (handlers h) h.n (view (after h calls)) on.more on.reached in
    let c : Cluster = ends h.n (handlers h) on.more in
    let keeps = nodes-keep h.n (handlers h) (acts_of on.more) few (grows (answering h.n h.images) h.states) is.0 in
    record {
      acts = acts_of on.more;
      run = is.0;
      stand = (c, is.1, all-stand h.images (handlers h) h.n (after h calls) c (at-end h.images h.states h.n (start h) calls t).good on.reached.led.holds);
      no_orphan = keeps.0;
      output_once = keeps.1;
      received_once = keeps.2;
    }

pub hosted-alone : HostedAlone
hosted-alone h calls few g one = stays-exact h.images h.states h.n (start h) [] calls (reached h few) (begins-alone h) (made h calls g) one

pub hosted-run-alone : HostedRunAlone
hosted-run-alone h calls few g one = hosted-run h calls few g (hosted-alone h calls few g one)

pub hosted-back : HostedBack
hosted-back h calls more few g e p a b l was is =
    let all = made h (calls ++ more) g in
    let t = trace-split h.images h.states h.n (start h) calls more all in
    let exact = exact-split h.n (start h) calls more e in
    let one = runs-on h.images h.states h.n (start h) [] calls (reached h few) t.0 exact.0 in
    let two = runs-on h.images h.states h.n (after h calls) one.more more one.reached t.1 exact.1 in
    nothing-is-lost h.images (answering h.n h.images) h.states h.n (after h calls) (after h (calls ++ more)) one.more (at-end h.images h.states h.n (start h) calls t.0).good (at-end h.images h.states h.n (start h) (calls ++ more) all).good one.reached
    (subst (λ z. GoesOn (handlers h) h.n (view z) one.more) (sym (after-more (start h) calls more)) two) p a b l was is

pub hosted-back-alone : HostedBackAlone
hosted-back-alone h calls more few g one = hosted-back h calls more few g (hosted-alone h (calls ++ more) few g one)
