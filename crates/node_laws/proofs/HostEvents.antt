-- Whatever fails, the calls of hosts are a run of the whole rules, and all agree with its cluster at their end
use Rattle.std.proofs.Common.{◌≡◌, ℕ, List, [], ◌∷◌, ◌++◌, Bool, true, refl, sym, subst, append_assoc, append-nil}
use Rattle.theorems.proofs.ListLemmas.{nth-prefix}
use Rattle.cluster.specs.Cluster.{Cluster, durable_opening}
use Rattle.cluster.specs.Overlap.{Event, after_events}
use Rattle.cluster.specs.Exact.{Steps}
use Rattle.cluster.proofs.Goes.{steps-are-events}
use Rattle.cluster.specs.DurablePromises.{lasts, Stays}
use Rattle.cluster.proofs.Firm.{Firm}
use Rattle.cluster.proofs.DurablePromised.{opens-firm, checkpoints-stay}
use Rattle.node.specs.Stands.{Each}
use Rattle.node.proofs.Lists.{all-more}
use Rattle.node.proofs.Answering.{grows}
use Rattle.recovery.proofs.Lists.{each-append}
use Rattle.recovery.proofs.Preservation.{each-take}
use Rattle.node_laws.specs.HostProcess.{IsFirst}
use Rattle.node_laws.specs.HostReplies.{answering}
use Rattle.node_laws.specs.HostSystem.{System, Hosting, HostCall, DidOut, start, after, after_call, after_calls, handlers}
use Rattle.node_laws.specs.HostLaws.{StaysDurable, AreDurable, shown_by, outputs_of, HostedEvents}
use Rattle.node_laws.specs.Inside.System.{view}
use Rattle.node_laws.proofs.Events.{later-self, later-events}
use Rattle.node_laws.proofs.Lives.{all-stand}
use Rattle.node_laws.proofs.Untaken.{goes-taken-out}
use Rattle.node_laws.proofs.Bearing.{IsBorne, firm-after, borne-ahead}
use Rattle.node_laws.proofs.Led.{Led, LedOn, led-on, led-first}
use Rattle.node_laws.proofs.Promised.{Trace, made, at-end}

module _ (h : Hosting) (D : ℕ → Bool) where
  -- the cluster after these events
  abbrev pub at_last : List Event → Cluster
  at_last es = after_events (durable_opening h.n (handlers h) D) es

  -- what checkpoints send only grows
  pub stay-at : (es more : List Event) (p : ℕ) → Steps (durable_opening h.n (handlers h) D) (es ++ more) → Stays (at_last es) (at_last (es ++ more)) p
  stay-at es more p r = checkpoints-stay h.n (handlers h) D es more p (grows (answering h.n h.images) h.states) (steps-are-events (durable_opening h.n (handlers h) D) (es ++ more) r)

  -- nobody has more of its durable processes than their checkpoints send
  pub firm-at : (es : List Event) → Steps (durable_opening h.n (handlers h) D) es → Firm (lasts D) (at_last es)
  firm-at es r = firm-after D (durable_opening h.n (handlers h) D) es refl (opens-firm h.n (handlers h) D (grows (answering h.n h.images) h.states)) r

  -- more events lead to where all of a system stand behind these calls, and the outputs that the gateway gave by them are what
  -- checkpoints send
  pub record LedBy (s : System) (es : List Event) (ks : List HostCall) : Type 0 where
    pub more : List Event
    pub led : Led (handlers h) h.n D (view (after_calls s ks)) (es ++ more)
    pub borne : Each (IsBorne D (at_last (es ++ more))) (outputs_of s ks)

  module _ (proper : (p : ℕ) → D p ≡ true → IsFirst h.n p) where
    -- what it gives by one call
    borne-by : (s : System) (es : List Event) (k : HostCall) → Led (handlers h) h.n D (view s) es → Each (IsBorne D (at_last es)) (shown_by s k)
    borne-by s es (DidOut new) r =
        let goes = goes-taken-out s.taken s.gateway (at_last es) (r.holds.ahead (at_last es) r.holds.durable (later-self (at_last es))) in
        each-take (IsBorne D (at_last es)) _ s.gateway.store.outputs
        (borne-ahead D (at_last es) (λ p e. (proper p e).0) (later-events (durable_opening h.n (handlers h) D) es).durable (firm-at es r.run) s.gateway goes)
    borne-by s es other r = tt

    -- call by call
    pub leads-by : (s : System) (es : List Event) (ks : List HostCall) → Led (handlers h) h.n D (view s) es → Trace h.images h.states h.n s ks → ((p : ℕ) → D p ≡ true → StaysDurable p ks) → LedBy s es ks
    leads-by s es [] r t lasting = record { more = []; led = subst (Led (handlers h) h.n D (view s)) (sym (append-nil es)) r; borne = tt }
    leads-by s es (k ∷ ks) r t lasting =
        let one : LedOn (handlers h) h.n D (view (after_call s k)) es = led-on h D s es k r t.1.0 (λ p d. (lasting p d).0) in
        let rest : LedBy (after_call s k) (es ++ one.more) ks = leads-by (after_call s k) (es ++ one.more) ks one.led t.1.1 (λ p d. (lasting p d).1) in
        let all : (es ++ one.more) ++ rest.more ≡ es ++ (one.more ++ rest.more) = append_assoc es one.more rest.more in
        let led : Led (handlers h) h.n D (view (after_calls (after_call s k) ks)) (es ++ (one.more ++ rest.more)) = subst (Led (handlers h) h.n D (view (after_calls (after_call s k) ks))) all rest.led in
        let to : Cluster = at_last (es ++ (one.more ++ rest.more)) in
        record {
          more = one.more ++ rest.more;
          led = led;
          borne = each-append (IsBorne D to) (shown_by s k) (outputs_of (after_call s k) ks)
              (all-more (IsBorne D (at_last es)) (IsBorne D to) (shown_by s k) (λ o b e. nth-prefix _ _ o.ssn o.payload
              ((stay-at es (one.more ++ rest.more) o.process led.run).sends 0) (b e)) (borne-by s es k r))
              (subst (λ z. Each (IsBorne D (at_last z)) (outputs_of (after_call s k) ks)) all rest.borne);
        }

-- from the opening on
pub leads-first : (h : Hosting) (D : ℕ → Bool) (calls : List HostCall) → Trace h.images h.states h.n (start h) calls → AreDurable h D calls → LedBy h D (start h) [] calls
leads-first h D calls t lasting = leads-by h D (λ p d. (lasting p d).0) (start h) [] calls (led-first h D (λ p d. ((lasting p d).0, (lasting p d).1.0))) t (λ p d. (lasting p d).1.1)

pub hosted-events : HostedEvents
hosted-events h calls D g lasting =
    let t = made h calls g in
    let on : LedBy h D (start h) [] calls = leads-first h D calls t lasting in
    record {
      events = on.more;
      run = on.led.run;
      stand = all-stand h.images (handlers h) h.n (after h calls) (after_events (durable_opening h.n (handlers h) D) on.more) (at-end h.images h.states h.n (start h) calls t).good on.led.holds;
    }
