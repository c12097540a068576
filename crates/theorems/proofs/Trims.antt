-- A trim
use Rattle.std.proofs.Common.{◌≡◌, ℕ, suc, ◌<◌, ◌≤◌, length, take, Bool, true, false, refl, sym, subst, arith, min, max}
use Rattle.std.specs.Prelude.{Some, slice_get, if◌then◌else◌, ◌==◌}
use Rattle.std.proofs.lemmas.Bool.Decides.{nat_tests}
use Rattle.world.specs.History.{count_of}
use Rattle.world.specs.Phases.{is_up}
use Rattle.world.specs.World.{World}
use Rattle.world.specs.Logs.{sent, covered}
use Rattle.world.specs.Calls.{trim, trimmed}
use Rattle.theorems.specs.Invariants.Sound.{Sound}
use Rattle.theorems.specs.Invariants.Exact.{Exact}
use Rattle.theorems.proofs.Changes.{choose}
use Rattle.theorems.proofs.ListLemmas.{at-number}
use Rattle.theorems.proofs.HistoryLemmas.{above}
use Rattle.theorems.proofs.SecuredLemmas.{Carries}
use Rattle.theorems.proofs.Frames.{sound-left, carries-kept, exact-carried}

trimmed-most : (w : World) (d s i : ℕ) → w.trims s d < i → covered w s d < i → trimmed w d s < i
trimmed-most w d s i a b = split (is_up (w.phase s))
  where
    split : (u : Bool) → (if u then max (w.trims s d) (min (covered w s d) (length (sent w s d))) else w.trims s d) < i
    split true = omega arith
    split false = a

trimmed-least : (w : World) (d s : ℕ) → w.trims s d ≤ trimmed w d s
trimmed-least w d s = split (is_up (w.phase s))
  where
    split : (u : Bool) → w.trims s d ≤ (if u then max (w.trims s d) (min (covered w s d) (length (sent w s d))) else w.trims s d)
    split true = omega arith
    split false = omega arith

covered-inside : (w : World) (s d : ℕ) → 0 < d → covered w s d ≡ count_of s (take (w.saved d) (w.history d))
covered-inside w s d a = let e : (d == 0) ≡ false = grind (arith, nat_tests) in rw e refl

pub sound-trim : (w : World) (d : ℕ) → Sound w → Sound (trim w d)
sound-trim w d h =
    sound-left w w.numbers w.released w.inputs w.feeds w.started (trim w d).trims w.wire w.shown (record {
      covered = λ p a s. choose d (λ j b. 0 < j → (if b then trimmed w d s else w.trims s j) ≤ count_of s (take (w.saved j) (w.history j)))
          (λ a. let x : w.trims s d ≤ count_of s (take (w.saved d) (w.history d)) = h.covered d a s in
          let y : trimmed w d s < suc (count_of s (take (w.saved d) (w.history d))) = trimmed-most w d s _ (omega arith) (rw (covered-inside w s d a) (omega arith)) in omega arith)
          (λ j _ a. h.covered j a s) p a;
      shown_covered = λ s. choose d (λ q b. q ≡ 0 → (if b then trimmed w d s else w.trims s q) ≤ count_of s w.shown) (λ e. let P : ℕ → Type 0 = λ q. trimmed w q s ≤ count_of s w.shown in subst P (sym e) (outside s))
          (λ q _ e. let P : ℕ → Type 0 = λ i. w.trims s i ≤ count_of s w.shown in subst P (sym e) (h.shown_covered s)) 0 refl;
      above = λ s q. choose d (λ j b. w.saved_trims s j ≤ (if b then trimmed w d s else w.trims s j)) (let a : w.saved_trims s d ≤ w.trims s d = h.trims s d in let b : w.trims s d ≤ trimmed w d s = trimmed-least w d s in omega arith) (λ j _. h.trims s j) q;
      packets = h.packets;
      next = h.shown;
    }) h
  where
    outside : (s : ℕ) → trimmed w 0 s ≤ count_of s w.shown
    outside s =
        let a : w.trims s 0 ≤ count_of s w.shown = h.shown_covered s in
        let b : trimmed w 0 s < suc (count_of s w.shown) = trimmed-most w 0 s (suc (count_of s w.shown)) (omega arith) (omega arith) in
        omega arith

pub carries-trim : (w : World) (d : ℕ) → Sound w → Exact w → Carries w (trim w d)
carries-trim w d s h =
    carries-kept w (trim w d).trims w.numbers (λ q m _ a l. record {
      by = l.by;
      ssn = l.ssn;
      number = l.number;
      entry = record {
        live = l.entry.live;
        within = l.entry.within;
        above = choose d (λ j b. w.saved j < m → w.numbers l.by j l.ssn ≡ Some m → w.trims l.by j < l.ssn → (if b then trimmed w d l.by else w.trims l.by j) < l.ssn) (later m l.by l.ssn) (λ j _ _ _ e. e) q a l.number l.entry.above;
      };
    })
  where
    later : (m a i : ℕ) → w.saved d < m → w.numbers a d i ≡ Some m → w.trims a d < i → trimmed w d a < i
    later m a i l e t =
        let n = h.recorded a d i m e in
        let at : (k : ℕ) × (m ≡ suc k) × (slice_get (w.history d) k ≡ Some n.message) = at-number (w.history d) m n.message n.at in
        let number : m ≡ suc at.0 = at.1 in
        let next = s.received d at.0 n.message at.2 in
        let b : count_of n.message.sender (take (w.saved d) (w.history d)) < n.message.ssn = above w.count d (w.history d) (s.received d) at.0 n.message at.2 (w.saved d) (omega arith) in
        trimmed-most w d a i t (rw (covered-inside w a d next.target) (rw (n.sender, n.ssn) at b))

pub exact-trim : (w : World) (d : ℕ) → Sound w → Exact w → Exact (trim w d)
exact-trim w d s h = exact-carried w (trim w d).trims w.inputs w.feeds (carries-trim w d s h) s h
