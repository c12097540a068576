-- What holds of nodes, whatever fails: of those whose messages last nobody has more than their checkpoints send
use Rattle.std.proofs.Common.{◌≡◌, ◌≢◌, ℕ, suc, ◌<◌, ◌≤◌, List, length, Bool, true, arith}
use Rattle.std.specs.Prelude.{Option, Some, None}
use Rattle.world.specs.declared.message.Message.{Message}
use Rattle.world.specs.History.{Payload, nth, count_of}
use Rattle.world.specs.Phases.{Busy}
use Rattle.theorems.specs.Growth.{Begins, Grows}
use Rattle.theorems.proofs.ListLemmas.{nth-prefix, begins-length}
use Rattle.cluster.specs.Parcels.{Body, Delivery, Number, Told, Restored, parcel, In, reaches}
use Rattle.cluster.specs.Cluster.{Collected, Cluster}
use Rattle.cluster.specs.Rules.{message}
use Rattle.cluster.specs.Overlap.{kept_sends}
use Rattle.cluster.specs.DurablePromises.{AreFirst}
use Rattle.cluster.proofs.Firsts.{first-more}

-- what each sends to each by the messages that its checkpoint covers
abbrev pub Sends : Type 0
Sends = ℕ → ℕ → List Payload

-- this message to d is one of these, if its sender's last
abbrev pub IsGood : (ℕ → Bool) → Sends → ℕ → Message → Type 0
IsGood last k d m = last m.sender ≡ true → nth (k m.sender d) m.ssn ≡ Some m.payload

-- s has a message to d with this SSN among these, if they last
abbrev pub IsThere : (ℕ → Bool) → Sends → ℕ → ℕ → ℕ → Type 0
IsThere last k s d ssn = last s ≡ true → (0 < ssn) × (ssn ≤ length (k s d))

-- what was put out speaks of these alone
abbrev pub IsTrue : (ℕ → Bool) → Sends → ℕ → ℕ → Body → Type 0
IsTrue last k p d (Delivery i ssn x) = IsGood last k d (message p ssn x)
IsTrue last k p d (Number i ssn n) = IsThere last k d p ssn
IsTrue last k p d (Told i j n u f) = (m : ℕ) (x : Message) → n < m → reaches u m ≡ true → f m ≡ Some x → IsGood last k d x
IsTrue last k p d (Restored i j n s u f) = (ssn m : ℕ) → s < ssn → reaches u ssn ≡ true → f ssn ≡ Some m → IsThere last k d p ssn
IsTrue last k p d other = Unit {0}

-- and what one that collects was told
abbrev pub IsGoodSoFar : (ℕ → Bool) → Sends → ℕ → Option Collected → Type 0
IsGoodSoFar last k p None = Unit {0}
IsGoodSoFar last k p (Some t) = (m : ℕ) (x : Message) → reaches t.upto m ≡ true → t.entries m ≡ Some x → IsGood last k p x

-- all that nodes have of those whose messages last is among these
abbrev pub FirmBy : (ℕ → Bool) → Sends → Cluster → Type 0
FirmBy last k c =
    record {
      grows : Grows c.world.handlers;
      within : (p : ℕ) → c.world.saved p ≤ length (c.world.history p);
      parcels : (p d : ℕ) (x : Body) → In (parcel p d x) c.parcels → (p ≢ d) × IsTrue last k p d x;
      jobs : (d : ℕ) (m : Message) → c.world.phase d ≡ Busy m → IsGood last k d m × (m.ssn ≡ suc (count_of m.sender (c.world.history d)));
      numbers : (s d ssn m : ℕ) → c.world.numbers s d ssn ≡ Some m → IsThere last k s d ssn;
      told : (p q : ℕ) → IsGoodSoFar last k p (c.told p q);
      own : (p : ℕ) → c.told p p ≡ None;
      received : (p d : ℕ) → last p ≡ true → AreFirst (c.world.history d) p (k p d);
      shown : (p : ℕ) → last p ≡ true → AreFirst c.world.shown p (k p 0);
    }

-- and so is sent by what their checkpoints cover
abbrev pub Firm : (ℕ → Bool) → Cluster → Type 0
Firm last c = FirmBy last (kept_sends c) c

-- where checkpoints send more, all of it still holds
module _ (last : ℕ → Bool) (k l : Sends) (more : (p d : ℕ) → Begins (k p d) (l p d)) where
  pub good-more : (d : ℕ) (m : Message) → IsGood last k d m → IsGood last l d m
  good-more d m g e = nth-prefix _ _ m.ssn m.payload (more m.sender d) (g e)

  pub there-more : (s d ssn : ℕ) → IsThere last k s d ssn → IsThere last l s d ssn
  there-more s d ssn g e = let t = g e in let n : length (k s d) ≤ length (l s d) = begins-length _ _ (more s d) in (t.0, omega arith)

  pub true-more : (p d : ℕ) (x : Body) → IsTrue last k p d x → IsTrue last l p d x
  true-more p d (Delivery i ssn x) g = good-more d (message p ssn x) g
  true-more p d (Number i ssn n) g = there-more d p ssn g
  true-more p d (Told i j n u f) g = λ m x a b e. good-more d x (g m x a b e)
  true-more p d (Restored i j n s u f) g = λ ssn m a b e. there-more d p ssn (g ssn m a b e)
  true-more p d other g = tt

  pub so-far-more : (p : ℕ) (t : Option Collected) → IsGoodSoFar last k p t → IsGoodSoFar last l p t
  so-far-more p None g = tt
  so-far-more p (Some t) g = λ m x a e. good-more p x (g m x a e)

  pub firm-more : (c : Cluster) → FirmBy last k c → FirmBy last l c
  firm-more c h =
      record {
        grows = h.grows;
        within = h.within;
        parcels = λ p q y i. let t = h.parcels p q y i in (t.0, true-more p q y t.1);
        jobs = λ q m e. let t = h.jobs q m e in (good-more q m t.0, t.1);
        numbers = λ s q ssn m e. there-more s q ssn (h.numbers s q ssn m e);
        told = λ p q. so-far-more p (c.told p q) (h.told p q);
        own = h.own;
        received = λ p q t. first-more (c.world.history q) p (k p q) (l p q) (more p q) (h.received p q t);
        shown = λ p t. first-more c.world.shown p (k p 0) (l p 0) (more p 0) (h.shown p t);
      }
