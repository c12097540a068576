-- What is safe stays safe, if what is secured stays secured
use Rattle.std.proofs.Common.{◌≡◌, ℕ, ◌<◌, ◌≤◌, List, length, take, true, false, refl, sym, ◌∙◌, arith}
use Rattle.std.specs.Prelude.{Option}
use Rattle.world.specs.declared.message.Message.{Message}
use Rattle.world.specs.Phases.{Phase, Up, Busy, Down, Replaying, Resync, is_down}
use Rattle.world.specs.World.{World}
use Rattle.world.specs.Logs.{payloads}
use Rattle.world.specs.declared.packet.Packet.{Packet}
use Rattle.theorems.specs.Growth.{Begins}
use Rattle.theorems.specs.Kept.{Held}
use Rattle.theorems.specs.Invariants.Secured.{Secured, Safe, Covers}
use Rattle.theorems.specs.Invariants.Exact.{JobSafe}
use Rattle.theorems.proofs.ListLemmas.{take-all, nth-prefix, begins-self, begins-trans, begins-length, begins-take}

-- from v to w nothing that was secured is lost
pub record Carries (v w : World) : Type 0 where
  pub secured : (p k : ℕ) → Secured v p k → Secured w p k
  pub same : (p k : ℕ) → Secured v p k → take k (w.history p) ≡ take k (v.history p)
  pub payloads_grow : (s : ℕ) (h : List Message) (d : ℕ) → Begins (payloads v s h d) (payloads w s h d)

-- a safe message stays safe
pub safe : {v w : World} → Carries v w → (d : ℕ) (m : Message) → Safe v d m → Safe w d m
safe {v} {w} c d m a =
    let e : take a.upto (w.history m.sender) ≡ take a.upto (v.history m.sender) = c.same m.sender a.upto a.secured in
    record { upto = a.upto; secured = c.secured m.sender a.upto a.secured; sends = rw e (nth-prefix _ _ m.ssn m.payload (c.payloads_grow m.sender (take a.upto (v.history m.sender)) d) a.sends) }

-- and so does the message that a process works on
pub job-safe : {v w : World} → Carries v w → (p : ℕ) (phase : Phase) → JobSafe v p phase → JobSafe w p phase
job-safe c p Up h = tt
job-safe c p (Busy m) h = safe c p m h
job-safe c p Down h = tt
job-safe c p (Replaying j working alone) h = tt
job-safe c p (Resync todo) h = tt

-- from v to w histories grow at the end, what is acknowledged stays so, and a number that is held for a process that is down is still held
pub record Grown (v w : World) : Type 0 where
  pub down : (p : ℕ) → is_down (w.phase p) ≡ is_down (v.phase p)
  pub history : (p : ℕ) → Begins (v.history p) (w.history p)
  pub acknowledged : (p m : ℕ) → 0 < m → m ≤ length (v.history p) → v.acknowledged p m ≡ true → w.acknowledged p m ≡ true
  pub held : (p : ℕ) → is_down (v.phase p) ≡ true → (v.saved p ≡ w.saved p) × ((m : ℕ) → v.saved p < m → m ≤ length (v.history p) → Held v p m → Held w p m)
  pub payloads_grow : (s : ℕ) (h : List Message) (d : ℕ) → Begins (payloads v s h d) (payloads w s h d)

-- in a world that grew nothing that was secured is lost
pub carries-grown : {v w : World} → Grown v w → Carries v w
carries-grown {v} {w} g =
    record {
      secured = λ p k s. let within : length (v.history p) ≤ length (w.history p) = begins-length _ _ (g.history p) in
          let inside : k ≤ length (v.history p) = s.within in
          record {
            within = omega arith;
            held = λ d m a b. let was : is_down (v.phase p) ≡ true = sym (g.down p) ∙ d in let at : v.saved p ≡ w.saved p = (g.held p was).0 in
                let above : v.saved p < m = omega arith in (g.held p was).1 m above (omega arith) (s.held was m above b);
            acknowledged = λ d m a b. g.acknowledged p m a (omega arith) (s.acknowledged (sym (g.down p) ∙ d) m a b);
          };
      same = λ p k s. begins-take _ _ (g.history p) k s.within;
      payloads_grow = g.payloads_grow;
    }

-- what secured messages send is still sent by secured ones
pub covers : {v w : World} → Carries v w → (p d n : ℕ) → Covers v p d n → Covers w p d n
covers {v} {w} c p d n a =
    let e : take a.upto (w.history p) ≡ take a.upto (v.history p) = c.same p a.upto a.secured in
    let more : length (payloads v p (take a.upto (v.history p)) d) ≤ length (payloads w p (take a.upto (v.history p)) d) = begins-length _ _ (c.payloads_grow p (take a.upto (v.history p)) d) in
    let within : n ≤ length (payloads v p (take a.upto (v.history p)) d) = a.within in
    record { upto = a.upto; secured = c.secured p a.upto a.secured; within = rw e (omega arith) }

-- nothing sends nothing
pub covers-none : (w : World) (p d : ℕ) → Covers w p d 0
covers-none w p d = record { upto = 0; secured = record { within = omega arith; held = λ _ m a b. absurd (omega arith); acknowledged = λ _ m a b. absurd (omega arith) }; within = omega arith }

-- if all is acknowledged, all is secured
pub covers-all : (w : World) (p d n : ℕ) → is_down (w.phase p) ≡ false → ((m : ℕ) → 0 < m → m ≤ length (w.history p) → w.acknowledged p m ≡ true) → n ≤ length (payloads w p (w.history p) d) → Covers w p d n
covers-all w p d n live all l =
    record {
      upto = length (w.history p);
      secured = record { within = omega arith; held = λ f m _ _. absurd (let g : true ≡ false = sym f ∙ live in cc); acknowledged = λ _. all };
      within = rw (take-all (w.history p)) l;
    }

pub secured-none : (w : World) (p : ℕ) → Secured w p 0
secured-none w p = record { within = omega arith; held = λ _ m a b. absurd (omega arith); acknowledged = λ _ m a b. absurd (omega arith) }

-- nothing is lost if nothing changes
pub carries-self : (w : World) → Carries w w
carries-self w = record { secured = λ p k s. s; same = λ p k s. refl; payloads_grow = λ s h d. begins-self _ }

pub carries-trans : {u v w : World} → Carries u v → Carries v w → Carries u w
carries-trans {u} {v} {w} a b =
    record {
      secured = λ p k s. b.secured p k (a.secured p k s);
      same = λ p k s. b.same p k (a.secured p k s) ∙ a.same p k s;
      payloads_grow = λ s h d. begins-trans (payloads u s h d) (payloads v s h d) (payloads w s h d) (a.payloads_grow s h d) (b.payloads_grow s h d);
    }

-- other wires, released counts and shown outputs cost nothing
pub carries-beside : {v w : World} → Carries v w → (released : ℕ → ℕ → ℕ) (shown : List Message) (wire : ℕ → Option Packet) (n : ℕ) → Carries v (record w { released = released; shown = shown; wire = wire; started = n })
carries-beside c released shown wire n = record { secured = c.secured; same = c.same; payloads_grow = c.payloads_grow }
