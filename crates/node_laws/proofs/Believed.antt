-- What holds of a cluster along each run of events, whatever fails
use Rattle.std.proofs.Common.{◌≡◌, ◌≢◌, inl, inr, ℕ, zero, suc, ◌+◌, ◌<◌, List, [], ◌∷◌, length, Bool, true, false, refl, sym, ap, ◌∙◌, subst, arith}
use Rattle.std.specs.Prelude.{None, Some, ◌&&◌, nat_lt, if◌then◌else◌}
use Rattle.theorems.specs.Growth.{Grows}
use Rattle.theorems.proofs.Changes.{choose}
use Rattle.world.specs.Handlers.{Handlers}
use Rattle.world.specs.World.{put}
use Rattle.world.specs.Phases.{Phase, Up, Busy, Replaying, is_up}
use Rattle.cluster.specs.Parcels.{Body, Delivery, Number, Acknowledgement, Ask, Restored, Parcel, parcel, In}
use Rattle.cluster.specs.Cluster.{Stage, Live, Frozen, Dead, Collecting, Cluster, is_live, takes, durable_opening}
use Rattle.cluster.specs.Rules.{Act, Puts, Arrives, Works, Replays, Recovers, Freezes, Thaws, Dies, Opens, May, MayPut, MayTake, arrived, does}
use Rattle.cluster.specs.Overlap.{Event, Acts, Meets, Lacks, Leaves, Doubts, Might, loss, cut, moves, goes, after_events}
use Rattle.cluster.specs.Exact.{Steps}
use Rattle.cluster.proofs.Goes.{steps-are-events}
use Rattle.cluster.specs.DurablePromises.{InOrder}
use Rattle.cluster.proofs.Order.{always-in-order}
use Rattle.gateway.proofs.Steps.{by-if}

-- ---- stages and phases

abbrev Rests : (ℕ → Stage) → (ℕ → Phase) → Type 0
Rests s x = (p : ℕ) → s p ≡ Frozen → x p ≡ Up

-- a node that isn't frozen is in any phase
turn : (s : ℕ → Stage) (f : ℕ → Phase) (p : ℕ) (x : Phase) → s p ≢ Frozen → Rests s f → Rests s (put f p x)
turn s f p x ne h = choose p (λ j b. s j ≡ Frozen → (if b then x else f j) ≡ Up) (λ e. absurd (ne e)) (λ j o. h j)

-- or is at another stage
leave : (s : ℕ → Stage) (f : ℕ → Phase) (p : ℕ) (t : Stage) → t ≢ Frozen → Rests s f → Rests (put s p t) f
leave s f p t ne h = choose p (λ j b. (if b then t else s j) ≡ Frozen → f j ≡ Up) (λ e. absurd (ne e)) (λ j o. h j)

live-not : (s : Stage) → s ≡ Live → s ≢ Frozen
live-not s e f = let z : Live ≡ Frozen = sym e ∙ f in cc

takes-not : (c : Cluster) (p : ℕ) → takes c p ≡ true → c.stage p ≢ Frozen
takes-not c p t e = let z : true ≡ false = sym t ∙ ap (λ s. is_live s && (c.greeted p && is_up (c.world.phase p))) e in cc

-- ---- packets that are taken

stage-taken : (c : Cluster) (q d : ℕ) (x : Body) → (arrived c q d x).stage ≡ c.stage
stage-taken c q d (Restored i j n s (Some u) f) = refl
stage-taken c q zero (Delivery i ssn x) = refl
stage-taken c zero d (Restored i j n s None f) = refl
stage-taken c q d x = refl

rests-taken : (c : Cluster) (q d : ℕ) (x : Body) → MayTake c q d x → Rests c.stage c.world.phase → Rests (arrived c q d x).stage (arrived c q d x).world.phase
rests-taken c q d (Restored i j n s (Some u) f) may h = h
rests-taken c q zero (Delivery i ssn x) may h = h
rests-taken c q (suc d) (Delivery i ssn x) may h = turn c.stage c.world.phase (suc d) (Busy _) (takes-not c (suc d) may.1) h
rests-taken c zero d (Restored i j n s None f) may h = h
rests-taken c (suc q) d (Restored i j n s None f) may h = turn c.stage c.world.phase d _ (live-not (c.stage d) may.1) h
rests-taken c q d x may h = h

-- the acknowledgement of an RSN is no Ask
silent-taken : (c : Cluster) (q d : ℕ) (x : Body) (e i k : ℕ) → In (parcel 0 e (Ask i k)) (arrived c q d x).parcels → In (parcel 0 e (Ask i k)) c.parcels
silent-taken c q d (Restored i j n s (Some u) f) e i2 k2 a = a
silent-taken c q zero (Delivery i ssn x) e i2 k2 a = a
silent-taken c q d (Number i ssn k) e i2 k2 (inl same) = absurd (let z : Ask i2 k2 ≡ Acknowledgement i k = ap (λ (z : Parcel). z.body) same in cc)
silent-taken c q d (Number i ssn k) e i2 k2 (inr a) = a
silent-taken c zero d (Restored i j n s None f) e i2 k2 a = a
silent-taken c q d x e i2 k2 a = a

-- ---- acts

-- the gateway runs, a node that waits for its checkpoint is up, and the gateway asks for no log
pub record Calm (c : Cluster) : Type 0 where
  pub gate : c.stage 0 ≡ Live
  pub rests : Rests c.stage c.world.phase
  pub silent : (d i k : ℕ) → In (parcel 0 d (Ask i k)) c.parcels → ⊥

-- a node is at another stage
staged : (c : Cluster) (p : ℕ) (t : Stage) → 0 < p → c.stage 0 ≡ Live → put c.stage p t 0 ≡ Live
staged c p t some h = choose p (λ j b. j ≡ 0 → (if b then t else c.stage j) ≡ Live) (λ e. absurd (omega (arith, some, e))) (λ j o e. ap c.stage e ∙ h) 0 refl

calm-act : (c : Cluster) (a : Act) → May c a → Calm c → Calm (does c a)
calm-act c (Puts p d x) may h = record { gate = h.gate; rests = h.rests; silent = silent }
  where
    silent : (e i k : ℕ) → In (parcel 0 e (Ask i k)) (parcel p d x ∷ c.parcels) → ⊥
    silent e i k (inl same) =
        let P : Parcel → Type 0 = λ z. MayPut c z.from z.to z.body in
        let asks : MayPut c 0 e (Ask i k) = subst P (sym same) may.3 in
        let z : Live ≡ Collecting = sym h.gate ∙ asks.0 in cc
    silent e i k (inr a) = h.silent e i k a
calm-act c (Arrives q d x) may h = record { gate = ap (λ s. s 0) (stage-taken c q d x) ∙ h.gate; rests = rests-taken c q d x may.1 h.rests; silent = λ e i k a. h.silent e i k (silent-taken c q d x e i k a) }
calm-act c (Works p m) may h = record { gate = h.gate; rests = choose p (λ j b. c.stage j ≡ Frozen → (if b then Up else c.world.phase j) ≡ Up) (λ e. refl) (λ j o. h.rests j); silent = h.silent }
calm-act c (Replays p j) may h =
    let on : (x : Phase) → Calm (record c { world = record c.world { phase = put c.world.phase p x } }) = λ x. record { gate = h.gate; rests = turn c.stage c.world.phase p x (live-not (c.stage p) may.1) h.rests; silent = h.silent } in
    by-if Calm (nat_lt (c.world.saved p + suc j) (length (c.world.history p))) _ _ (λ t. on (Replaying (suc j) false false)) (λ t. record { gate = h.gate; rests = (on _).rests; silent = h.silent })
calm-act c (Recovers p k) may h =
    let gate : put c.stage p Live 0 ≡ Live = staged c p Live may.0.0 h.gate in
    let rests : (x : Phase) → Rests (put c.stage p Live) (put c.world.phase p x) = λ x. choose p (λ j b. (if b then Live else c.stage j) ≡ Frozen → (if b then x else c.world.phase j) ≡ Up) (λ e. absurd (live-not Live refl e)) (λ j o. h.rests j) in
    by-if Calm (nat_lt (c.world.saved p) k) _ _ (λ t. record { gate = gate; rests = rests _; silent = h.silent }) (λ t. record { gate = gate; rests = rests _; silent = h.silent })
calm-act c (Freezes p) may h = record { gate = staged c p Frozen may.0.0 h.gate; rests = choose p (λ j b. (if b then Frozen else c.stage j) ≡ Frozen → c.world.phase j ≡ Up) (λ e. may.2) (λ j o. h.rests j); silent = h.silent }
calm-act c (Thaws p) may h = record { gate = staged c p Live may.0.0 h.gate; rests = leave c.stage c.world.phase p Live (λ e. absurd (cc (e))) h.rests; silent = h.silent }
calm-act c (Dies p) may h = record { gate = staged c p Dead may.0.0 h.gate; rests = leave c.stage c.world.phase p Dead (λ e. absurd (cc (e))) h.rests; silent = h.silent }
calm-act c (Opens p n) may h = record { gate = staged c p Collecting may.0.0 h.gate; rests = leave c.stage c.world.phase p Collecting (λ e. absurd (cc (e))) h.rests; silent = h.silent }
calm-act c act may h = record { gate = h.gate; rests = h.rests; silent = h.silent }

-- ---- events

calm-taken : (c : Cluster) (q d : ℕ) (x : Body) → MayTake c q d x → Calm c → Calm (arrived c q d x)
calm-taken c q d x may h = record { gate = ap (λ s. s 0) (stage-taken c q d x) ∙ h.gate; rests = rests-taken c q d x may h.rests; silent = λ e i k a. h.silent e i k (silent-taken c q d x e i k a) }

calm-moves : (c : Cluster) (e : Event) → Might c e → Calm c → Calm (moves c e)
calm-moves c (Acts exact a) may h = calm-act c a may.0 h
calm-moves c (Meets q p i k) may h = record { gate = h.gate; rests = turn c.stage c.world.phase q _ (live-not (c.stage q) may.1.0) h.rests; silent = h.silent }
calm-moves c (Lacks q p i j k) may h = calm-taken c q p (loss i j k) may.1 h
calm-moves c (Leaves p q) may h = record { gate = h.gate; rests = turn c.stage c.world.phase p _ (live-not (c.stage p) may.0) h.rests; silent = h.silent }
calm-moves c (Doubts q p (Restored i j n s (Some u) f)) may h = calm-taken c q p (cut c p q (Restored i j n s (Some u) f)) may.2 h
calm-moves c (Doubts zero p (Restored i j n s None f)) may h = calm-taken c zero p (cut c p zero (Restored i j n s None f)) may.2 h
calm-moves c (Doubts (suc q) p (Restored i j n s None f)) may h = calm-taken c (suc q) p (cut c p (suc q) (Restored i j n s None f)) may.2 h
calm-moves c (Doubts q p x) may h = absurd may.0
calm-moves c other may h = h

calm-event : (c : Cluster) (e : Event) → Might c e → Calm c → Calm (goes c e)
calm-event c e may h = let t = calm-moves c e may h in record { gate = t.gate; rests = t.rests; silent = t.silent }

pub calm-after : (c : Cluster) (es : List Event) → Steps c es → Calm c → Calm (after_events c es)
calm-after c [] r h = h
calm-after c (e ∷ es) r h = calm-after (goes c e) es r.1 (calm-event c e r.0.0 h)

-- and what each received is in order
pub record Believed (c : Cluster) : Type 0 where
  pub calm : Calm c
  pub ordered : (p : ℕ) → InOrder (c.world.history p)

pub believed : (n : ℕ) (f : Handlers) (durable : ℕ → Bool) (es : List Event) → Grows f → Steps (durable_opening n f durable) es → Believed (after_events (durable_opening n f durable) es)
believed n f durable es grows r =
    let c : Cluster = durable_opening n f durable in
    record { calm = calm-after c es r (record { gate = refl; rests = λ p e. refl; silent = λ d i k a. a }); ordered = (always-in-order n f durable es grows (steps-are-events c es r)).0 }
