-- A process passes from stage to stage
use Rattle.std.proofs.Common.{◌≡◌, inl, inr, List, [], ◌∷◌, ◌++◌, true, false, refl, sym, ap, ◌∙◌, subst}
use Rattle.node.specs.Node.{TheNode}
use Rattle.node.specs.Transmission.{ticked}
use Rattle.recovery.specs.Restoration.{up, is_up}
use Rattle.recovery.specs.declared.lifecycle.Lifecycle.{Lifecycle}
use Rattle.recovery.specs.declared.lifecycle.Lifecycle.TheVariants.{Up, Collecting, Replaying, Replayed, Restoring, Passing}
use Rattle.process.specs.Process.{is_settled}
use Rattle.recovery.specs.Transitions.{Recovers, Finishes, Begun, Returns, Passes}
use Rattle.node_laws.specs.Inside.Process.{Process, WaitsFor, stage_of, seen}
use Rattle.node_laws.specs.Inside.Process as lives
use Rattle.node_laws.specs.HostProcess.{Checkpoint, Absent, Pending, Durable}
use Rattle.node_laws.proofs.Chains.{Chain, chain-append, ticked-exact, begun-exact}

-- by acts of its own it goes from one stage to another
abbrev pub Goes : Lifecycle → Lifecycle → Type 0
Goes c d = (is_settled d ≡ true) × ((ps : List Process) × Chain (stage_of c) ps (stage_of d))

pub same : (c d : Lifecycle) → is_settled c ≡ true → d ≡ c → Goes c d
same c d s e = (subst (λ z. is_settled z ≡ true) (sym e) s, ([], ap stage_of e))

goes-append : (a b c : Lifecycle) → Goes a b → Goes b c → Goes a c
goes-append a b c f g = (g.0, (f.1.0 ++ g.1.0, chain-append (stage_of a) f.1.0 (stage_of b) g.1.0 (stage_of c) f.1.1 g.1.1))

pub unsettled : {P : Type 0} → is_settled Passing ≡ true → P
unsettled {P} s = absurd (cc (s))

recovers : (c d : Lifecycle) → is_settled c ≡ true → Recovers c d → Goes c d
recovers (Collecting n) (Replaying m) s g = (refl, (lives.Replays m ∷ [], (inr (m, (refl, record { all = g.0; is = g.1; acts = g.2 })), (ap (λ z. z.exact) g.1.own, refl))))
recovers Passing d s g = unsettled s
recovers other d s g = same other d s g

finishes : (c d : Lifecycle) → is_settled c ≡ true → Finishes c d → Goes c d
finishes (Replaying n) (Replayed m) s g = (refl, (lives.Replayed m ∷ [], ((m, (refl, (g.1, (g.2, g.0)))), (ap (λ z. z.own.exact) g.1, refl))))
finishes Passing d s g = unsettled s
finishes (Replaying n) other s g = same (Replaying n) other s g.1
finishes other d s g = same other d s g

begins : (c d : Lifecycle) → is_settled c ≡ true → Begun c d → Goes c d
begins (Replayed n) (Restoring m) s g = (refl, (lives.Restores m ∷ [], ((m, (refl, g)), (ap (λ z. z.own.exact) g.0 ∙ begun-exact n, refl))))
begins Passing d s g = unsettled s
begins other d s g = same other d s g

returns : (c d : Lifecycle) → is_settled c ≡ true → Returns c d → Goes c d
returns (Restoring n) (Up m) s g =
    let first : TheNode = g.1.0 in
    let is : first ≡ up n = g.1.1.0 in
    let ticks : m ≡ ticked first = g.1.1.2 in
    (refl, (lives.Up first ∷ lives.Up m ∷ [], (inr (first, (refl, (is, g.1.1.1))), (ap (λ z. z.exact) is, ((m, (refl, (inl ticks, g.1.1.3))), (ap (λ z. z.exact) ticks ∙ ticked-exact first, refl))))))
returns Passing d s g = unsettled s
returns (Restoring n) other s g = same (Restoring n) other s g.1
returns other d s g = same other d s g

pub passes : (c d : Lifecycle) → is_settled c ≡ true → Passes c d → Goes c d
passes c d s g =
    let one : Goes c g.told = recovers c g.told s g.recovers in
    let two : Goes g.told g.ran = finishes g.told g.ran one.0 g.finishes in
    let three : Goes g.ran g.asks = begins g.ran g.asks two.0 g.begins in
    let four : Goes g.asks d = returns g.asks d three.0 g.returns in
    goes-append c g.told d one (goes-append g.told g.ran d two (goes-append g.ran g.asks d three four))

-- one that is up does not
pub passes-up : (n : TheNode) (d : Lifecycle) → Passes (Up n) d → d ≡ Up n
passes-up n d g =
    let one : g.told ≡ Up n = g.recovers in
    let two : g.ran ≡ Up n = subst (λ z. Finishes z g.ran) one g.finishes in
    let three : g.asks ≡ Up n = subst (λ z. Begun z g.asks) two g.begins in
    subst (λ z. Returns z d) three g.returns

-- between two calls one that restores its RSNs still waits for an answer
abbrev pub Waits : Lifecycle → Type 0
Waits (Restoring n) = is_up n ≡ false
Waits c = Unit {0}

returned : (c d : Lifecycle) → Returns c d → Waits d
returned (Restoring n) (Up m) g = tt
returned (Restoring n) d g = subst Waits (sym g.1) g.0
returned (Up n) d g = subst Waits (sym g) tt
returned (Collecting n) d g = subst Waits (sym g) tt
returned (Replaying n) d g = subst Waits (sym g) tt
returned (Replayed n) d g = subst Waits (sym g) tt
returned Passing d g = subst Waits (sym g) tt

pub passed : (c d : Lifecycle) → Passes c d → Waits d
passed c d g = returned g.asks d g.returns

-- ---- with its checkpoint

-- it waits for what is pending, and for what is durable
abbrev pub Fits : Checkpoint → Lifecycle → Type 0
Fits Absent c = Unit {0}
Fits (Pending bytes) c = WaitsFor bytes (stage_of c)
Fits Durable (Up n) = n.frozen ≡ true
Fits Durable c = ⊥

abbrev pub GoesOn : Checkpoint → Lifecycle → Lifecycle → Type 0
GoesOn w c d = (is_settled d ≡ true) × (Fits w d × ((ps : List Process) × Chain (seen w c) ps (seen w d)))

pub on : (w : Checkpoint) (c d : Lifecycle) → is_settled c ≡ true → Fits w c → d ≡ c → GoesOn w c d
on w c d s f e = (subst (λ z. is_settled z ≡ true) (sym e) s, (subst (Fits w) (sym e) f, ([], ap (seen w) e)))

pub passes-on : (w : Checkpoint) (c d : Lifecycle) → is_settled c ≡ true → Fits w c → Passes c d → GoesOn w c d
passes-on Absent c d s f g = let t : Goes c d = passes c d s g in (t.0, (tt, t.1))
passes-on w (Up n) d s f g = on w (Up n) d s f (passes-up n d g)
passes-on w c d s f g = absurd f
