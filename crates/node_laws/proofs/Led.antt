-- Whatever fails, the calls of hosts are a run of the whole rules
use Rattle.std.proofs.Common.{◌≡◌, ℕ, List, [], ◌∷◌, ◌++◌, Bool, true, sym, ap, ◌∙◌, subst, append_assoc, append-nil}
use Rattle.world.specs.Handlers.{Handlers}
use Rattle.cluster.specs.Cluster.{Cluster, durable_opening}
use Rattle.cluster.specs.Overlap.{Event, after_events}
use Rattle.cluster.specs.Exact.{Steps}
use Rattle.cluster.proofs.Goes.{steps-on}
use Rattle.node.specs.Answering.{Answering, handlers_of}
use Rattle.node.proofs.Answering.{grows}
use Rattle.node_laws.specs.HostProcess.{IsFirst}
use Rattle.node_laws.specs.HostReplies.{answering}
use Rattle.node_laws.specs.HostSystem as hosts
use Rattle.node_laws.specs.HostSystem.{Hosting, HostCall, start, handlers}
use Rattle.node_laws.specs.HostLaws as laws
use Rattle.node_laws.specs.Inside.System.{System, Call, DoesIt, after_call, after_calls, Along, KeepsDurable, view}
use Rattle.node_laws.proofs.Believed.{believed}
use Rattle.node_laws.proofs.Events.{later-events}
use Rattle.node_laws.proofs.HostStep.{IsPart, StepsBy}
use Rattle.node_laws.proofs.Lives.{Holds, Onward, begins, call-goes}

-- events of a cluster of n, of which these are durable, lead to where all of a system stand
pub record Led (f : Handlers) (n : ℕ) (D : ℕ → Bool) (s : System) (es : List Event) : Type 0 where
  pub run : Steps (durable_opening n f D) es
  pub holds : Holds f n s (after_events (durable_opening n f D) es)

-- so do these and more
pub record LedOn (f : Handlers) (n : ℕ) (D : ℕ → Bool) (s : System) (es : List Event) : Type 0 where
  pub more : List Event
  pub led : Led f n D s (es ++ more)

pub led-none : (f : Handlers) (n : ℕ) (D : ℕ → Bool) (s : System) (es : List Event) → Led f n D s es → LedOn f n D s es
led-none f n D s es r = record { more = []; led = subst (Led f n D s) (sym (append-nil es)) r }

pub led-joined : (f : Handlers) (n : ℕ) (D : ℕ → Bool) (s : System) (es more : List Event) → LedOn f n D s (es ++ more) → LedOn f n D s es
led-joined f n D s es more b = record { more = more ++ b.more; led = subst (Led f n D s) (append_assoc es more b.more) b.led }

module _ (f : Answering) (states : ℕ → List ℕ) (n : ℕ) (D : ℕ → Bool) where
  abbrev F : Handlers
  F = handlers_of f states

  -- by a call that leaves durable ones so
  pub onward : (s : System) (es : List Event) (k : Call) → Led F n D s es → DoesIt f n s k → ((p : ℕ) → D p ≡ true → KeepsDurable p k) → Onward F n (after_events (durable_opening n F D) es) (after_call s k)
  onward s es k r does lasting =
      let c : Cluster = after_events (durable_opening n F D) es in
      call-goes f states n s c k r.holds (believed n F D es (grows f states) r.run) does (λ p e. lasting p (sym (ap (λ (g : ℕ → Bool). g p) (later-events (durable_opening n F D) es).durable) ∙ e))

  led-call : (s : System) (es : List Event) (k : Call) → Led F n D s es → DoesIt f n s k → ((p : ℕ) → D p ≡ true → KeepsDurable p k) → LedOn F n D (after_call s k) es
  led-call s es k r does lasting =
      let one : Onward F n (after_events (durable_opening n F D) es) (after_call s k) = onward s es k r does lasting in
      let both = steps-on (durable_opening n F D) es one.events r.run one.run in
      record { more = one.events; led = record { run = both.0; holds = subst (Holds F n (after_call s k)) (sym both.1) one.holds } }

  -- by parts of a call of a host
  pub led-calls : (X A : Type 0) (E : ℕ → Type 0) → ((p : ℕ) → D p ≡ true → E p) → (s : System) (es : List Event) (ks : List Call) → Led F n D s es → Along (IsPart f n X A E) s ks → LedOn F n D (after_calls s ks) es
  led-calls X A E lasting s es [] r m = led-none F n D s es r
  led-calls X A E lasting s es (k ∷ ks) r m =
      let one : LedOn F n D (after_call s k) es = led-call s es k r m.0.does (λ p d. m.0.durable p (lasting p d)) in
      led-joined F n D (after_calls (after_call s k) ks) es one.more (led-calls X A E lasting (after_call s k) (es ++ one.more) ks one.led m.1)

-- by a call of a host
pub led-on : (h : Hosting) (D : ℕ → Bool) (s : hosts.System) (es : List Event) (k : HostCall) → Led (handlers h) h.n D (view s) es → StepsBy h.images h.n s k → ((p : ℕ) → D p ≡ true → laws.KeepsDurable p k) → LedOn (handlers h) h.n D (view (hosts.after_call s k)) es
led-on h D s es k r one lasting = subst (λ z. LedOn (handlers h) h.n D z es) one.stand (led-calls (answering h.n h.images) h.states h.n D _ _ (λ q. laws.KeepsDurable q k) lasting (view s) es one.calls r one.are)

-- at the opening
pub led-first : (h : Hosting) (D : ℕ → Bool) → ((p : ℕ) → D p ≡ true → IsFirst h.n p × ((h.limits p).durable ≡ true)) → Led (handlers h) h.n D (view (start h)) []
led-first h D lasting = record { run = tt; holds = begins h D lasting }
