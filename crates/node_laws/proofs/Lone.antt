-- What holds where failures come one at a time
use Rattle.std.proofs.Common.{inl, inr, ◌≡◌, ◌≢◌, ℕ, ◌<◌, List, [], Bool, true, false, refl, sym, ◌∙◌, subst, arith}
use Rattle.std.specs.Prelude.{◌⊎◌, if◌then◌else◌}
use Rattle.std.proofs.lemmas.Bool.{cases_eq}
use Rattle.world.specs.World.{put}
use Rattle.packets.specs.declared.packet.NodePacket.{NodePacket}
use Rattle.cluster.specs.Cluster.{Cluster}
use Rattle.node_laws.specs.HostProcess.{IsFirst}
use Rattle.node_laws.specs.Inside.Process.{Process, Up, Covered, Collects, Replays, Replayed, Restores, Killed, StandsAs, is_exact, is_up}
use Rattle.node_laws.specs.Inside.System.{System}
use Rattle.theorems.proofs.Changes.{choose}
use Rattle.node_laws.proofs.Lives.{at-each}
use Rattle.node_laws.proofs.Sound.{AreSound, sound-still, sound-anew, raised-other}
use Rattle.node_laws.proofs.OwnSound.{HasHeard}
use Rattle.node_laws.proofs.CollectingSound.{Hears}

-- ---- of a process

-- it is alive, and not up yet
abbrev pub Returns : Process → Type 0
Returns (Collects n) = Unit {0}
Returns (Replays n) = Unit {0}
Returns (Replayed n) = Unit {0}
Returns (Restores n) = Unit {0}
Returns process = ⊥

-- this is its life
abbrev pub HasLife : ℕ → Process → Type 0
HasLife life (Up n) = n.life ≡ life
HasLife life (Covered n) = n.life ≡ life
HasLife life (Collects n) = n.own.life ≡ life
HasLife life (Replays n) = n.own.life ≡ life
HasLife life (Replayed n) = n.own.life ≡ life
HasLife life (Restores n) = n.own.life ≡ life
HasLife life Killed = Unit {0}

-- once it has recovered it has heard of the life of now of each other; before, of each that has told all
abbrev pub Knows : (ℕ → ℕ) → ℕ → Process → Type 0
Knows lives top (Collects n) = Hears lives top n
Knows lives top (Replays n) = HasHeard lives top n.own
Knows lives top (Replayed n) = HasHeard lives top n.own
Knows lives top (Restores n) = HasHeard lives top n.own
Knows lives top process = Unit {0}

-- what it has to send
abbrev pub out_of : Process → List NodePacket
out_of (Up n) = n.out
out_of (Covered n) = n.out
out_of (Collects n) = n.own.out
out_of (Replays n) = n.own.out
out_of (Replayed n) = n.own.out
out_of (Restores n) = n.own.out
out_of Killed = []

-- it is p, of so many
abbrev pub IsOf : ℕ → ℕ → Process → Type 0
IsOf p top (Up n) = n.me ≡ p
IsOf p top (Covered n) = n.me ≡ p
IsOf p top (Collects n) = (n.own.me ≡ p) × (n.own.count ≡ top)
IsOf p top (Replays n) = (n.own.me ≡ p) × (n.own.count ≡ top)
IsOf p top (Replayed n) = (n.own.me ≡ p) × (n.own.count ≡ top)
IsOf p top (Restores n) = (n.own.me ≡ p) × (n.own.count ≡ top)
IsOf p top Killed = Unit {0}

pub stands-of : (process : Process) (c : Cluster) (p : ℕ) → StandsAs process c p → IsOf p c.world.count process
stands-of (Up n) c p s = s.me
stands-of (Covered n) c p s = s.1.me
stands-of Killed c p s = tt
stands-of other c p s = (s.own.me, s.own.count)

pub returns-down : (process : Process) → Returns process → is_up process ≡ false
returns-down (Up n) r = absurd r
returns-down (Covered n) r = absurd r
returns-down Killed r = absurd r
returns-down other r = refl

-- of process p: it is exact, in its life of now, knows the others', and what it has to send is sound
pub record Good (lives : ℕ → ℕ) (back : ℕ → Type 0) (top p : ℕ) (process : Process) : Type 0 where
  pub exact : is_exact process ≡ true
  pub life : HasLife (lives p) process
  pub knows : Knows lives top process
  pub out : AreSound lives back (out_of process)

-- ---- of a system

-- which of so many come back
abbrev pub Back : ℕ → (ℕ → Process) → ℕ → Type 0
Back n processes q = IsFirst n q × Returns (processes q)

-- one at most isn't up; each is good; and so is what was given, and what the gateway has to send
pub record Lone (n : ℕ) (processes : ℕ → Process) (lives : ℕ → ℕ) (xs ys : List NodePacket) : Type 0 where
  pub outside : lives 0 ≡ 1
  pub alone : (p q : ℕ) → IsFirst n p → IsFirst n q → p ≢ q → is_up (processes p) ≡ false → is_up (processes q) ≡ true
  pub good : (p : ℕ) → IsFirst n p → Good lives (Back n processes) n p (processes p)
  pub given : AreSound lives (Back n processes) xs
  pub out : AreSound lives (Back n processes) ys

abbrev pub IsLone : ℕ → System → Type 0
IsLone n s = Lone n s.processes s.lives s.given s.gateway.out

-- where less comes back
good-still : (lives : ℕ → ℕ) (b d : ℕ → Type 0) (top p : ℕ) (process : Process) → ((q : ℕ) → d q → b q) → Good lives b top p process → Good lives d top p process
good-still lives b d top p process less g = record { exact = g.exact; life = g.life; knows = g.knows; out = sound-still lives b d less (out_of process) g.out }

-- nobody else comes back where p isn't up
pub only-one : (n : ℕ) (processes : ℕ → Process) (lives : ℕ → ℕ) (given out : List NodePacket) (p : ℕ) → Lone n processes lives given out → IsFirst n p → is_up (processes p) ≡ false → (q : ℕ) → Back n processes q → q ≡ p
only-one n processes lives given out p h first down q b = by (cases_eq q p)
  where
    by : (q ≡ p) ⊎ (q ≢ p) → q ≡ p
    by (inl e) = e
    by (inr o) = absurd (let z : true ≡ false = sym (h.alone p q first b.0 (λ e. o (sym e)) down) ∙ returns-down (processes q) b.1 in cc (z))

-- so one that comes back is alone
pub is-alone : (n : ℕ) (processes : ℕ → Process) (lives : ℕ → ℕ) (given out : List NodePacket) (p : ℕ) → Lone n processes lives given out → IsFirst n p → Returns (processes p) → (q : ℕ) → Back n processes q → q ≡ p
is-alone n processes lives given out p h first r = only-one n processes lives given out p h first (returns-down (processes p) r)

-- ---- a process goes on

-- it doesn't go down by that, nor begin to come back
pub record Goes (lives : ℕ → ℕ) (back : ℕ → Type 0) (top p : ℕ) (old new : Process) : Type 0 where
  pub good : Good lives back top p new
  pub up : is_up new ≡ false → is_up old ≡ false
  pub returns : Returns new → Returns old

-- of two places of a function that is changed at p
at-two : {X : Type 0} (P : ℕ → ℕ → X → X → Type 0) (f : ℕ → X) (p : ℕ) (x : X) (q r : ℕ) → q ≢ r → (q ≢ p → r ≢ p → P q r (f q) (f r)) → (r ≢ p → P p r x (f r)) → (q ≢ p → P q p (f q) x) → P q r (put f p x q) (put f p x r)
at-two P f p x q r apart neither first second =
    choose p (λ j b. j ≢ r → (j ≢ p → r ≢ p → P j r (f j) (f r)) → (j ≢ p → P j p (f j) x) → P j r (if b then x else f j) (put f p x r))
    (λ o n s. at-each (λ k z. p ≢ k → P p k x z) f p r x (λ u w. first u) (λ w. absurd (w refl)) o)
    (λ j u o n s. at-each (λ k z. P j k (f j) z) f p r x (n u) (s u)) q apart neither second

module _ (n : ℕ) (processes : ℕ → Process) (lives : ℕ → ℕ) (given out : List NodePacket) (h : Lone n processes lives given out) (p : ℕ) (first : IsFirst n p) (new : Process) where
  abbrev changed : ℕ → Process
  changed = put processes p new

  -- who comes back came back
  less : (Returns new → Returns (processes p)) → (q : ℕ) → Back n changed q → Back n processes q
  less returns q b = (b.0, at-each (λ (k : ℕ) (z : Process). Returns z → Returns (processes k)) processes p q new (λ o w. w) returns b.1)

  -- any change that leaves one at most that isn't up
  changes : Good lives (Back n processes) n p new → (Returns new → Returns (processes p)) → ((q r : ℕ) → IsFirst n q → IsFirst n r → q ≢ r → is_up (changed q) ≡ false → is_up (changed r) ≡ true) → Lone n changed lives given out
  changes good returns alone =
      let fewer : (q : ℕ) → Back n changed q → Back n processes q = less returns in
      record {
        outside = h.outside;
        alone = alone;
        good = λ q l. good-still lives (Back n processes) (Back n changed) n q (changed q) fewer (at-each (λ k z. Good lives (Back n processes) n k z) processes p q new (λ o. h.good q l) good);
        given = sound-still lives (Back n processes) (Back n changed) fewer given h.given;
        out = sound-still lives (Back n processes) (Back n changed) fewer out h.out;
      }

  pub process-goes : Goes lives (Back n processes) n p (processes p) new → Lone n changed lives given out
  process-goes g =
      changes g.good g.returns
      (λ q r a b apart. at-two (λ j k x y. IsFirst n j → IsFirst n k → is_up x ≡ false → is_up y ≡ true) processes p new q r apart (λ u v c d e. h.alone q r c d apart e)
      (λ v c d e. h.alone p r c d (λ z. v (sym z)) (g.up e)) (λ u c d e. second q u c d e (is_up new) refl) a b)
    where
      second : (q : ℕ) → q ≢ p → IsFirst n q → IsFirst n p → is_up (processes q) ≡ false → (b : Bool) → is_up new ≡ b → is_up new ≡ true
      second q u c d e true f = f
      second q u c d e false f = absurd (let z : true ≡ false = sym (h.alone q p c d u e) ∙ g.up f in cc (z))

  -- it is killed, while all others are up
  pub process-dies : new ≡ Killed → ((q : ℕ) → IsFirst n q → q ≢ p → is_up (processes q) ≡ true) → Lone n changed lives given out
  process-dies e others =
      let P : Process → Type 0 = λ z. Good lives (Back n processes) n p z × (Returns z → Returns (processes p)) in
      let k : P new = subst P (sym e) (record { exact = refl; life = tt; knows = tt; out = tt }, λ r. absurd r) in
      changes k.0 k.1
      (λ q r a b apart. at-two (λ i j x y. IsFirst n i → IsFirst n j → is_up x ≡ false → is_up y ≡ true) processes p new q r apart (λ u v c d f. others r d v)
      (λ v c d f. others r d v) (λ u c d f. absurd (let z : true ≡ false = sym (others q c u) ∙ f in cc (z))) a b)

  -- and nobody else does
  pub only-comes : is_up (processes p) ≡ false → (q : ℕ) → Back n changed q → q ≡ p
  only-comes down q b = by (cases_eq q p)
    where
      by : (q ≡ p) ⊎ (q ≢ p) → q ≡ p
      by (inl e) = e
      by (inr o) = only-one n processes lives given out p h first down q (b.0, subst Returns (raised-other processes p q new o) b.1)

  -- it comes back in a greater life
  pub process-comes : (life : ℕ) → is_up (processes p) ≡ false → is_up new ≡ false → lives p < life → Good (put lives p life) (Back n changed) n p new → Lone n changed (put lives p life) given out
  process-comes life down still above good =
      record {
        outside = raised-other lives p 0 life (λ e. absurd (let s = first.0 in omega (arith, e, s))) ∙ h.outside;
        alone = λ q r a b apart. at-two (λ i j x y. IsFirst n i → IsFirst n j → is_up x ≡ false → is_up y ≡ true) processes p new q r apart (λ u v c d e. h.alone q r c d apart e)
            (λ v c d e. h.alone p r c d (λ z. v (sym z)) down) (λ u c d e. absurd (let z : true ≡ false = sym (h.alone q p c d u e) ∙ down in cc (z))) a b;
        good = λ q l. at-each (λ k z. Good (put lives p life) (Back n changed) n k z) processes p q new (λ o. other q l o) good;
        given = anew given h.given;
        out = anew out h.out;
      }
    where
      anew : (xs : List NodePacket) → AreSound lives (Back n processes) xs → AreSound (put lives p life) (Back n changed) xs
      anew xs s = sound-anew lives (Back n processes) (Back n changed) p life above (only-comes down) xs s

      -- each other is up
      up-knows : (process : Process) → is_up process ≡ true → Knows (put lives p life) n process
      up-knows (Up m) e = tt
      up-knows (Covered m) e = tt
      up-knows Killed e = tt
      up-knows other e = absurd (cc (e))

      other : (q : ℕ) → IsFirst n q → q ≢ p → Good (put lives p life) (Back n changed) n q (processes q)
      other q l o =
          let g = h.good q l in
          record {
            exact = g.exact;
            life = subst (λ k. HasLife k (processes q)) (sym (raised-other lives p q life o)) g.life;
            knows = up-knows (processes q) (h.alone p q first l (λ e. o (sym e)) down);
            out = anew (out_of (processes q)) g.out;
          }
