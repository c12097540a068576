-- Calls of processes and of the gateway, one after another
use Rattle.std.proofs.Common.{◌≡◌, ◌≢◌, ℕ, ◌≤◌, List, [], ◌∷◌, ◌++◌, take, drop, Bool, true, false, refl, sym, ap, ◌∙◌, subst, arith}
use Rattle.std.specs.Prelude.{Some, if◌then◌else◌}
use Rattle.std.proofs.lemmas.List.{take-append-drop}
use Rattle.theorems.proofs.Changes.{at-itself, choose}
use Rattle.world.specs.Handlers.{Handlers}
use Rattle.world.specs.World.{put}
use Rattle.packets.specs.declared.packet.NodePacket.{NodePacket}
use Rattle.packets.specs.Says.{WasSaid}
use Rattle.verifier.specs.declared.any_image.AnyImage.{AnyImage}
use Rattle.cluster.specs.Cluster.{Cluster, durable_opening}
use Rattle.cluster.specs.Overlap.{Event, after_events}
use Rattle.cluster.specs.Exact.{Steps}
use Rattle.cluster.proofs.Goes.{own-events}
use Rattle.node.specs.Node.{TheNode, new_node}
use Rattle.node.specs.Kept.{kept_of}
use Rattle.node.specs.Stands.{Each, Stands, PutOut, BeginsWith, IsAct}
use Rattle.recovery.specs.declared.lifecycle.Lifecycle.TheVariants.{Up}
use Rattle.node.specs.Answering.{Answering, handlers_of}
use Rattle.node.proofs.Lists.{all-more}
use Rattle.recovery.specs.Overlap.{is_loss}
use Rattle.recovery.specs.Stands.{IsSent}
use Rattle.recovery.proofs.Posts.{outs-still}
use Rattle.node.proofs.Answering.{one-was}
use Rattle.stores.specs.declared.change.Output.{Output}
use Rattle.gateway.specs.Gateway.{TheGateway, new_gateway}
use Rattle.gateway.specs.Calls as outside
use Rattle.gateway.specs.Stands as gateways
use Rattle.gateway.proofs.Openings as gateway_opening
use Rattle.gateway.proofs.Steps.{stays}
use Rattle.gateway.proofs.Views.{takes-so}
use Rattle.node_laws.specs.HostProcess.{IsFirst}
use Rattle.node_laws.proofs.JointGateways.{gateway-stands}
use Rattle.node_laws.specs.Inside.Process.{Process, Collects, Killed, StandsAs, IsStoredOf, is_exact, covered, stage_of}
use Rattle.node_laws.specs.Inside.System.{KeepsDurable, System, Call, Gave, Handed, Worked, Did, Stored, Saved, Resumed, Died, Revived, GaveOut, HandedOut, DidOut, StoredOut, StoredBut, RevivedOut, DoesIt, after_call, AreExact, view}
use Rattle.node_laws.specs.HostSystem as hosts
use Rattle.node_laws.specs.HostSystem.{handed_out, untaken, Hosting, start, handlers}
use Rattle.node_laws.specs.Agreement.{AllStand}
use Rattle.process.specs.Checkpoints.{Keeps}
use Rattle.node_laws.proofs.Believed.{Calm, Believed, calm-after}
use Rattle.node_laws.proofs.Events.{Later, later-self, later-events, put-later}
use Rattle.node_laws.proofs.First.{kept-first}
use Rattle.node_laws.proofs.Views.{AreGood, agrees}
use Rattle.node_laws.proofs.HostStep.{put-same}
use Rattle.node_laws.proofs.Moves.{Has, Moves, has-still}
use Rattle.node_laws.proofs.Steps.{put-sent, giving, hearing, working, acting, storing, telling, waking, dying, reviving}
use Rattle.node_laws.proofs.Losses.{loss-is-dropped}
use Rattle.node_laws.proofs.Untaken.{goes-fewer, goes-taken-out, dealing, handing}
use Rattle.node_laws.proofs.Gateways.{Ahead, ahead-none, ahead-still, ahead-acts, out-more, stands-as}

-- a packet was sent by whoever it says
abbrev pub WasPut : Cluster → NodePacket → Type 0
WasPut c x = IsSent c x.from x

-- a cluster of n in which all of a system stand, and in which was sent what was given
pub record Holds (f : Handlers) (n : ℕ) (s : System) (c : Cluster) : Type 0 where
  pub count : c.world.count ≡ n
  pub handlers : c.world.handlers ≡ f
  -- the gateway isn't durable
  pub gate : c.durable 0 ≡ false
  pub each : (p : ℕ) → IsFirst n p → Has (s.processes p) (s.stored p) (s.lives p) c p
  pub durable : gateways.Stands s.durable c
  pub ahead : Ahead s.durable (untaken s.taken s.gateway) c
  pub given : Each (WasPut c) s.given

-- by events the cluster comes to one in which they do; where all processes are exact then, these are acts
pub record Onward (f : Handlers) (n : ℕ) (c : Cluster) (s : System) : Type 0 where
  pub events : List Event
  pub run : Steps c events
  pub acts : AreExact n s → Each IsAct events
  pub holds : Holds f n s (after_events c events)

given-still : (c d : Cluster) (xs : List NodePacket) → Later c d → Each (WasPut c) xs → Each (WasPut d) xs
given-still c d xs l h = all-more (WasPut c) (WasPut d) xs (λ x o. (outs-still c d x.from (x ∷ []) (sym l.count) l.parcels l.said (o, tt)).0) h

-- of a function that is changed at p, what holds at each place
pub at-each : {X : Type 0} (P : ℕ → X → Type 0) (f : ℕ → X) (p q : ℕ) (x : X) → (q ≢ p → P q (f q)) → P p x → P q (put f p x q)
at-each P f p q x others here = choose p (λ j b. (j ≢ p → P j (f j)) → P j (if b then x else f j)) (λ o. here) (λ j o w. w o) q others

module _ (f : Handlers) (n : ℕ) (s : System) (c : Cluster) (h : Holds f n s c) where
  -- a process goes on, and these bytes are stored of it, and this life
  process-goes : (p : ℕ) (new : Process) (bytes : List ℕ) (life : ℕ) → IsFirst n p → Moves p new bytes life c → Onward f n c (record s { processes = put s.processes p new; stored = put s.stored p bytes; lives = put s.lives p life })
  process-goes p new bytes life first m =
      let d : Cluster = after_events c m.events in
      let l : Later c d = later-events c m.events in
      record {
        events = m.events;
        run = m.run;
        acts = λ e. m.acts (at-itself p (λ b. is_exact (if b then new else s.processes p) ≡ true → is_exact new ≡ true) (λ z. z) (e p first));
        holds = record {
          count = l.count ∙ h.count;
          handlers = l.handlers ∙ h.handlers;
          gate = ap (λ f. f 0) l.durable ∙ h.gate;
          each = choose p (λ j b. IsFirst n j → Has (if b then new else s.processes j) (if b then bytes else s.stored j) (if b then life else s.lives j) d j) (λ l. m.has)
              (λ j o l. has-still (s.processes j) (s.stored j) (s.lives j) j p m.events c (λ e. o (sym e)) m.by (h.each j l));
          durable = gateway-stands s.durable c p m.events first.0 m.by h.durable;
          ahead = ahead-still s.durable (untaken s.taken s.gateway) c d l h.ahead;
          given = given-still c d s.given l h.given;
        };
      }

  -- where its life is the same
  pub process-stores : (p : ℕ) (new : Process) (bytes : List ℕ) → IsFirst n p → Moves p new bytes (s.lives p) c → Onward f n c (record s { processes = put s.processes p new; stored = put s.stored p bytes })
  process-stores p new bytes first m = subst (λ z. Onward f n c (record s { processes = put s.processes p new; stored = put s.stored p bytes; lives = z })) (put-same s.lives p) (process-goes p new bytes (s.lives p) first m)

  -- or what is stored
  pub process-comes : (p : ℕ) (new : Process) (life : ℕ) → IsFirst n p → Moves p new (s.stored p) life c → Onward f n c (record s { processes = put s.processes p new; lives = put s.lives p life })
  process-comes p new life first m = subst (λ z. Onward f n c (record s { processes = put s.processes p new; stored = z; lives = put s.lives p life })) (put-same s.stored p) (process-goes p new (s.stored p) life first m)

  -- or both
  pub process-acts : (p : ℕ) (new : Process) → IsFirst n p → Moves p new (s.stored p) (s.lives p) c → Onward f n c (record s { processes = put s.processes p new })
  process-acts p new first m = subst (λ z. Onward f n c (record s { processes = put s.processes p new; stored = z })) (put-same s.stored p) (process-stores p new (s.stored p) first m)

  -- the gateway goes on to where it is durable so, and goes on from there
  gateway-moves : (new durable : TheGateway) (taken : List Output) → (g : gateways.Goes durable c) → Ahead durable (untaken taken new) (after_events c g.events) → Onward f n c (record s { gateway = new; durable = durable; taken = taken })
  gateway-moves new durable taken g ahead =
      let l : Later c (after_events c g.events) = later-events c g.events in
      record {
        events = g.events;
        run = g.run;
        acts = λ e. g.acts refl;
        holds = record {
          count = l.count ∙ h.count;
          handlers = l.handlers ∙ h.handlers;
          gate = ap (λ f. f 0) l.durable ∙ h.gate;
          each = λ q l. has-still (s.processes q) (s.stored q) (s.lives q) q 0 g.events c (λ e. absurd (omega (arith, l.0, e))) (own-events 0 g.events g.by) (h.each q l);
          durable = g.stands;
          ahead = ahead;
          given = given-still c (after_events c g.events) s.given l h.given;
        };
      }

  -- and is durable as it is, but that these outputs were taken
  gateway-goes : (new : TheGateway) (taken : List Output) → gateways.Goes (untaken taken new) c → Onward f n c (record s { gateway = new; durable = untaken taken new; taken = taken })
  gateway-goes new taken g = gateway-moves new (untaken taken new) taken g (ahead-none (untaken taken new) (after_events c g.events))

  -- it goes on, and isn't durable yet
  gateway-waits : (new : TheGateway) (taken : List Output) → Ahead s.durable (untaken taken new) c → Onward f n c (record s { gateway = new; taken = taken })
  gateway-waits new taken a =
      record {
        events = [];
        run = tt;
        acts = λ e. tt;
        holds = record { count = h.count; handlers = h.handlers; gate = h.gate; each = h.each; durable = h.durable; ahead = a; given = h.given };
      }

-- a packet more was given, where it was sent
given-there : (f : Handlers) (n : ℕ) (c : Cluster) (s : System) (x : NodePacket) → (w : Onward f n c s) → WasPut (after_events c w.events) x → Onward f n c (record s { given = x ∷ s.given })
given-there f n c s x w o =
    let h = w.holds in
    record {
      events = w.events;
      run = w.run;
      acts = w.acts;
      holds = record { count = h.count; handlers = h.handlers; gate = h.gate; each = h.each; durable = h.durable; ahead = h.ahead; given = (o, h.given) };
    }

-- or had been before
given-more : (f : Handlers) (n : ℕ) (c : Cluster) (s : System) (x : NodePacket) → WasPut c x → Onward f n c s → Onward f n c (record s { given = x ∷ s.given })
given-more f n c s x o w = given-there f n c s x w (given-still c (after_events c w.events) (x ∷ []) (later-events c w.events) (o, tt)).0

-- what a packet of a process says, as one of its own number
from-own : (c : Cluster) (p : ℕ) (x : NodePacket) → IsSent c p x → WasPut c x
from-own c p x o = subst (λ k. IsSent c k x) (sym o.0) o

-- what one of the gateway says, which asks for no log
from-gateway : (c : Cluster) (x : NodePacket) → Calm c → PutOut c 0 x → WasPut c x
from-gateway c x calm o = from-own c 0 x (put-sent c 0 x (λ i k a. absurd (calm.silent x.to i k a)) o)

-- a packet comes to the gateway: it drops one that says that all is lost
handing-out : (s : System) (c : Cluster) (x : NodePacket) (new : TheGateway) (loss : Bool) → is_loss x.body ≡ loss → WasPut c x → new ≡ outside.handed x s.gateway → Ahead s.durable (untaken s.taken s.gateway) c
    → Ahead s.durable (untaken s.taken new) c
handing-out s c x new true e o g a = subst (λ z. Ahead s.durable (untaken s.taken z) c) (sym (g ∙ loss-is-dropped.1 x s.gateway e)) a
handing-out s c x new false e o g a =
    ahead-acts (λ d. WasSaid d x.from x.to x.body) s.durable (untaken s.taken s.gateway) (untaken s.taken new) c (λ d l. (put-later c d x.from x l (o.2 e)).said) (handing s.taken x s.gateway new g) a

-- the gateway gives a packet: its store is durable, but which outputs were taken, and so is where it was put out
giving-out : (f : Handlers) (n : ℕ) (s : System) (c : Cluster) (x : NodePacket) (new : TheGateway) → Holds f n s c → Calm c → s.durable.store ≡ (untaken s.taken s.gateway).store → gateways.Takes (Some x) s.gateway new
    → Onward f n c (record s { gateway = new; given = x ∷ s.given })
unfolding gateway-moves
giving-out f n s c x new h calm lasts m =
    let old : TheGateway = untaken s.taken s.gateway in
    let next : TheGateway = untaken s.taken new in
    let g : gateways.Goes old c = h.ahead c h.durable (later-self c) in
    let d : Cluster = after_events c g.events in
    let out : old.out ≡ x ∷ new.out = ap (λ (z : TheGateway). z.out) m.0 in
    let took = (takes-so (Some x) old new.out out).1 d g.stands in
    let is : record old { out = new.out } ≡ next = ap (λ (z : TheGateway). record (untaken s.taken z) { out = new.out }) m.0 in
    let now : gateways.Stands next d = subst (λ z. gateways.Stands z d) is took.1 in
    let store : s.durable.store ≡ next.store = lasts ∙ ap (λ (z : TheGateway). (untaken s.taken z).store) m.0 in
    let kept : gateways.Stands s.durable d = stands-as next s.durable d store (out-more s.durable c d (later-events c g.events) h.durable.out) now in
    let ahead : Ahead s.durable next d = λ b stands l. stays next b (stands-as s.durable next b (sym store) (out-more next d b l now.out) stands) in
    let onward = gateway-moves f n s c h new s.durable s.taken (record { events = g.events; run = g.run; by = g.by; acts = g.acts; stands = kept }) ahead in
    given-there f n c (record s { gateway = new }) x onward (from-gateway d x (calm-after c g.events g.run calm) took.0)

-- each call
pub call-goes : (f : Answering) (states : ℕ → List ℕ) (n : ℕ) (s : System) (c : Cluster) (k : Call) → Holds (handlers_of f states) n s c → Believed c → DoesIt f n s k → ((p : ℕ) → c.durable p ≡ true → KeepsDurable p k) → Onward (handlers_of f states) n c (after_call s k)
call-goes f states n s c (Gave p x new) h b m lasting =
    let g = giving c p (s.stored p) (s.lives p) (h.each p m.0).lives x (s.processes p) new m.1 (h.each p m.0).stands (h.each p m.0).stored in
    given-more (handlers_of f states) n c (record s { processes = put s.processes p new }) x (from-own c p x g.0) (process-acts (handlers_of f states) n s c h p new m.0 g.1)
call-goes f states n s c (Handed p x new) h b m lasting =
    let o : WasPut c x = one-was (WasPut c) x s.given h.given m.1.0 in
    process-acts (handlers_of f states) n s c h p new m.0 (hearing c p (s.stored p) (s.lives p) (h.each p m.0).lives x (s.processes p) new m.1.1 (o.1, λ e. (o.2 e).said) (h.each p m.0).stands (h.each p m.0).stored)
call-goes f states n s c (Worked p a new) h b m lasting =
    process-acts (handlers_of f states) n s c h p new m.0 (working c p (s.stored p) (s.lives p) (h.each p m.0).lives f states a (s.processes p) new m.1 h.handlers b (h.each p m.0).stands (h.each p m.0).stored)
call-goes f states n s c (Did p new) h b m lasting =
    process-acts (handlers_of f states) n s c h p new m.0 (acting c p (s.stored p) (s.lives p) (h.each p m.0).lives (s.processes p) new m.1 b (h.each p m.0).stands (h.each p m.0).stored)
call-goes f states n s c (Stored p bytes) h b m lasting =
    process-stores (handlers_of f states) n s c h p (covered (s.processes p)) bytes m.0 (storing c p bytes (s.lives p) (h.each p m.0).lives (s.stored p) (s.processes p) m.1 (h.each p m.0).stands (h.each p m.0).stored)
call-goes f states n s c (Saved p new) h b m lasting =
    process-acts (handlers_of f states) n s c h p new m.0 (telling c p (s.stored p) (s.lives p) (h.each p m.0).lives (s.processes p) new m.1 (h.each p m.0).stands (h.each p m.0).stored)
call-goes f states n s c (Resumed p limits new) h b m lasting =
    process-acts (handlers_of f states) n s c h p new m.0 (waking c p (s.stored p) (s.lives p) (h.each p m.0).lives limits (s.processes p) new m.1 (λ e. lasting p e refl) (h.each p m.0).stands (h.each p m.0).stored)
call-goes f states n s c (Died p) h b m lasting = process-acts (handlers_of f states) n s c h p Killed m (dying c p (s.stored p) (s.lives p) (s.processes p) (h.each p m).lives (h.each p m).stands (h.each p m).stored)
call-goes f states n s c (Revived p life new) h b m lasting =
    process-comes (handlers_of f states) n s c h p (Collects new) life m.0 (reviving c p (s.stored p) (s.processes p) (s.lives p) life new (λ e. lasting p e refl) m.1.0 (h.each p m.0).lives m.1.1.0 m.1.1.1 (h.each p m.0).stands (h.each p m.0).stored)
call-goes f states n s c (GaveOut x new) h b m lasting = giving-out (handlers_of f states) n s c x new h b.calm m.0 m.1
call-goes f states n s c (HandedOut x new) h b m lasting =
    let o : WasPut c x = one-was (WasPut c) x s.given h.given m.0 in
    gateway-waits (handlers_of f states) n s c h new s.taken (handing-out s c x new (is_loss x.body) refl o m.1.0 h.ahead)
call-goes f states n s c (DidOut new) h b m lasting =
    let more : List Output = s.taken ++ handed_out s.gateway new in
    gateway-waits (handlers_of f states) n s c h new more (ahead-acts (λ d. Unit {0}) s.durable (untaken s.taken s.gateway) (untaken more new) c (λ d l. tt) (dealing s.taken s.gateway new m.0) h.ahead)
call-goes f states n s c StoredOut h b m lasting = gateway-goes (handlers_of f states) n s c h s.gateway [] (goes-taken-out s.taken s.gateway c (h.ahead c h.durable (later-self c)))
call-goes f states n s c (StoredBut k) h b m lasting =
    let all : gateways.Goes (untaken (take k s.taken ++ drop k s.taken) s.gateway) c = subst (λ z. gateways.Goes (untaken z s.gateway) c) (sym (take-append-drop k s.taken)) (h.ahead c h.durable (later-self c)) in
    gateway-goes (handlers_of f states) n s c h s.gateway (drop k s.taken) (goes-fewer (take k s.taken) (drop k s.taken) s.gateway c all)
call-goes f states n s c (RevivedOut new) h b m lasting =
    gateway-goes (handlers_of f states) n s c h new [] (stays new c ((m.1 s.durable refl).0 c h.durable))

-- at the opening all stand, whichever of the processes with durable limits are durable
pub begins : (h : Hosting) (D : ℕ → Bool) → ((p : ℕ) → D p ≡ true → IsFirst h.n p × ((h.limits p).durable ≡ true)) → Holds (handlers h) h.n (view (start h)) (durable_opening h.n (handlers h) D)
begins h D lasting =
    let g : Handlers = handlers h in
    let c : Cluster = durable_opening h.n g D in
    let begin : (p : ℕ) → BeginsWith g p (h.states p) = λ p. record { state_is = refl; sends_are = λ d. refl } in
    let new : ℕ → TheNode = λ p. new_node (h.limits p) p h.n (h.states p) in
    let stands : (p : ℕ) → IsFirst h.n p → Stands (new p) c p = λ p low. (h.opens.opened p low).stands g D (λ e. (lasting p e).1) (begin p) in
    let keeps : (p : ℕ) → IsFirst h.n p → Keeps (Up (new p)) (h.bytes p) = λ p low. subst (λ z. Keeps z (h.bytes p)) (h.opens.opened p low).lifecycle_is (h.opens.stored p low) in
    let outside = gateway_opening.stands-opened h.n h.page h.tick g in
    record {
      count = refl;
      handlers = refl;
      gate = not-outside (D 0) refl;
      each = λ p low. record {
        stands = subst (λ z. StandsAs (stage_of z) c p) (sym (h.opens.opened p low).lifecycle_is) (stands p low);
        stored = (kept_of (new p), ((keeps p low).0, subst (λ z. IsStoredOf (kept_of (new p)) (stage_of z) c p) (sym (h.opens.opened p low).lifecycle_is) (kept-first (h.limits p) p h.n (h.states p) g D (keeps p low).1 (stands p low))));
        lives = (let e : 1 ≤ 1 = omega arith in e);
      };
      durable = record { count = outside.count; stage = outside.stage; greeted = outside.greeted; phase = outside.phase; life = outside.life; history = outside.history; exact = outside.exact; logs = outside.logs; shown = outside.shown; outputs = outside.outputs; heard = outside.heard; resumed = outside.resumed; out = outside.out };
      ahead = ahead-none (new_gateway h.n h.page h.tick) c;
      given = tt;
    }
  where
    -- the gateway is none of them
    not-outside : (b : Bool) → D 0 ≡ b → D 0 ≡ false
    not-outside true e = let l = (lasting 0 e).0.0 in absurd (omega (arith, l))
    not-outside false e = e

-- where all hold, all stand
pub all-stand : (images : ℕ → AnyImage) (f : Handlers) (n : ℕ) (s : hosts.System) (c : Cluster) → AreGood images n s → Holds f n (view s) c → AllStand n s c
all-stand images f n s c good h =
    record {
      processes = λ p l. (agrees (h.each p l).stored.0 (images p) (s.processes p) c p (good p l) (h.each p l).stands (h.each p l).stored.1.1).0;
      stored = λ p l. let a = (h.each p l).stored in (a.0, (a.1.0, (agrees a.0 (images p) (s.processes p) c p (good p l) (h.each p l).stands a.1.1).1));
      lives = λ p l. (h.each p l).lives;
      durable = h.durable;
      gateway = goes-taken-out s.taken s.gateway c (h.ahead c h.durable (later-self c));
      shown = λ p first. h.durable.shown p (first.0, subst (λ k. p ≤ k) (sym h.count) first.1);
    }
