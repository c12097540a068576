-- A checkpoint
use Rattle.std.proofs.Common.{◌≡◌, ℕ, ◌<◌, ◌≤◌, length, take, true, false, refl, sym, ◌∙◌, arith}
use Rattle.std.specs.Prelude.{Some, nat_le, if◌then◌else◌}
use Rattle.world.specs.declared.message.Message.{Message}
use Rattle.world.specs.History.{nth, count_of}
use Rattle.world.specs.Phases.{Up, is_down}
use Rattle.world.specs.World.{World}
use Rattle.world.specs.Logs.{payloads, sent, sent_in_all, length_in}
use Rattle.world.specs.Calls.{checkpoint}
use Rattle.theorems.specs.Growth.{Begins}
use Rattle.theorems.specs.Invariants.Secured.{Covers}
use Rattle.theorems.specs.Invariants.Sound.{Replays, is_recovering, Sound}
use Rattle.theorems.specs.Invariants.Exact.{IsRecorded, is_restored, Exact}
use Rattle.theorems.proofs.Changes.{choose, at-itself}
use Rattle.theorems.proofs.Tests.{at_most, is_at_most}
use Rattle.theorems.proofs.ListLemmas.{nth-within, begins-self, begins-length}
use Rattle.theorems.proofs.HistoryLemmas.{count-mono}
use Rattle.theorems.proofs.SecuredLemmas.{Carries, safe, job-safe, carries-grown, covers, covers-all}
use Rattle.theorems.proofs.Frames.{true-by}

pub sound-checkpoint : (w : World) (p : ℕ) → w.phase p ≡ Up → Sound w → Sound (checkpoint w p)
sound-checkpoint w p up h =
    record {
      grows = h.grows;
      outside = h.outside;
      received = h.received;
      working = h.working;
      saved = choose p (λ j b. (if b then length (w.history p) else w.saved j) ≤ length (w.history j)) (omega arith) (λ j _. h.saved j);
      replays = choose p (λ j b. Replays (if b then length (w.history p) else w.saved j) (length (w.history j)) (w.phase j)) (rw up tt) (λ j _. h.replays j);
      acknowledged = choose p (λ j b. (m : ℕ) → (if b then (λ k. nat_le k (length (w.history p))) else w.acknowledged j) m ≡ true → m ≤ length (w.history j)) (λ m e. at_most m _ e) (λ j _. h.acknowledged j);
      recovering = choose p (λ j b. is_recovering (w.phase j) ≡ true → (m : ℕ) → 0 < m → m ≤ length (w.history j) → (if b then (λ k. nat_le k (length (w.history p))) else w.acknowledged j) m ≡ true) (λ _ m _ l. is_at_most m _ l) (λ j _. h.recovering j);
      covered = choose p (λ j b. 0 < j → (s : ℕ) → w.trims s j ≤ count_of s (take (if b then length (w.history p) else w.saved j) (w.history j)))
          (λ a s. let x : w.trims s p ≤ count_of s (take (w.saved p) (w.history p)) = h.covered p a s in let y : count_of s (take (w.saved p) (w.history p)) ≤ count_of s (take (length (w.history p)) (w.history p)) = count-mono s (w.history p) _ _ (h.saved p) in omega arith)
          (λ j _. h.covered j);
      shown_covered = h.shown_covered;
      trims = λ s d. choose p (λ j b. (if b then w.trims p else w.saved_trims j) d ≤ w.trims j d) (omega arith) (λ j _. h.trims j d) s;
      packets = h.packets;
      shown = h.shown;
    }

pub carries-checkpoint : (w : World) (p : ℕ) → w.phase p ≡ Up → Carries w (checkpoint w p)
carries-checkpoint w p up =
    let v : World = checkpoint w p in
    let live : is_down (w.phase p) ≡ false = rw up refl in
    let same : (a d : ℕ) → Begins (sent w a d) (sent v a d) = λ a d. choose p (λ j b. Begins (sent w j d) (payloads w j (take (length_in (w.history j) (if b then length (w.history p) else w.saved j) (w.phase j)) (w.history j)) d)) (rw up (begins-self _)) (λ j _. begins-self _) a in
    carries-grown (record {
      down = λ q. refl;
      history = λ q. begins-self _;
      acknowledged = λ q m a l. choose p (λ j b. m ≤ length (w.history j) → w.acknowledged j m ≡ true → (if b then (λ k. nat_le k (length (w.history p))) else w.acknowledged j) m ≡ true) (λ l _. is_at_most m _ l) (λ j _ _ e. e) q l;
      payloads_grow = λ a g d. begins-self _;
      held = λ q d. (
        choose p (λ j b. is_down (w.phase j) ≡ true → w.saved j ≡ (if b then length (w.history p) else w.saved j)) (λ e. absurd (let f : true ≡ false = sym e ∙ live in cc)) (λ j _ _. refl) q d,
        λ m _ _ l. record {
          by = l.by;
          ssn = l.ssn;
          number = l.number;
          entry = record {
            live = l.entry.live;
            above = l.entry.above;
            within = let a : length (sent w l.by q) ≤ length (sent v l.by q) = begins-length _ _ (same l.by q) in let b : l.ssn ≤ length (sent w l.by q) = l.entry.within in omega arith;
          };
        },
      );
    })

pub exact-checkpoint : (w : World) (p : ℕ) → w.phase p ≡ Up → Sound w → Exact w → Exact (checkpoint w p)
exact-checkpoint w p up s h =
    let v : World = checkpoint w p in
    let n : ℕ = length (w.history p) in
    let live : is_down (w.phase p) ≡ false = rw up refl in
    let c : Carries w v = carries-checkpoint w p up in
    let recorded : (q m : ℕ) → m ≤ length (w.history q) → IsRecorded w q m → IsRecorded v q m =
    λ q m l r. choose p (λ j b. m ≤ length (w.history j) → (w.saved j < m → (x : Message) → nth (w.history j) m ≡ Some x → is_restored (w.phase x.sender) j ≡ true → w.numbers x.sender j x.ssn ≡ Some m)
    → (if b then length (w.history p) else w.saved j) < m → (x : Message) → nth (w.history j) m ≡ Some x → is_restored (w.phase x.sender) j ≡ true → w.numbers x.sender j x.ssn ≡ Some m)
    (λ l _ a. absurd (omega arith)) (λ j _ _ r. r) q l r in
    record {
      alone = h.alone;
      recorded = h.recorded;
      acknowledged = choose p (λ j b. (m : ℕ) → (if b then (λ k. nat_le k (length (w.history p))) else w.acknowledged j) m ≡ true → IsRecorded v j m)
          (λ m e a. absurd (let l : m ≤ length (w.history p) = at_most m _ e in let b : length (w.history p) < m = at-itself p (λ b. (if b then length (w.history p) else w.saved p) < m → length (w.history p) < m) (λ z. z) a in omega arith))
          (λ j _ m e. recorded j m (s.acknowledged j m e) (h.acknowledged j m e));
      packets = λ j. true-by w v (safe c) (λ _ _ _ _ _ _ f. f) (λ t r m k _ f e. let y = f e in record { message = y.message; at = y.at; sender = y.sender; recorded = recorded r m (nth-within (w.history r) m y.message y.at).1 y.recorded }) (w.wire j) (s.packets j) (h.packets j);
      working = λ q. job-safe c q (w.phase q) (h.working q);
      received = λ q j y e. safe c q y (h.received q j y e);
      shown = λ j y e. safe c 0 y (h.shown j y e);
      released = choose p (λ j b. (d : ℕ) → Covers v j d ((if b then sent_in_all w p else w.released j) d))
          (λ d. covers-all v p d (sent_in_all w p d) live (λ m a l. at-itself p (λ b. (if b then (λ k. nat_le k (length (w.history p))) else w.acknowledged p) m ≡ true) (is_at_most m _ l)) (omega arith))
          (λ j _ d. covers c j d (w.released j d) (h.released j d));
    }
