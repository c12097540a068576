-- What each change leaves tidy
use Rattle.std.proofs.Common.{◌≡◌, ◌⊎◌, inl, inr, ℕ, ◌-◌, ◌<◌, ◌≤◌, List, [], ◌∷◌, ◌++◌, length, take, max, min, Bool, true, false, refl, sym, ◌∙◌, arith, length-append}
use Rattle.std.specs.Prelude.{Option, Some, None, nat_le, if◌then◌else◌}
use Rattle.world.specs.declared.message.Message.{Message}
use Rattle.world.specs.History.{Payload}
use Rattle.world.specs.Phases.{Phase, Up, Busy, Down, Replaying, Resync, is_up, is_down}
use Rattle.world.specs.Handlers.{Handlers}
use Rattle.world.specs.World.{World, put, opening}
use Rattle.world.specs.Logs.{payloads, sent, sent_in_all, run_to, covered, length_in, length_of, is_entry}
use Rattle.world.specs.Plan.{gather}
use Rattle.world.specs.Calls.{input, recorded, acknowledge, commit, checkpoint, trim, trimmed, crash, up_to, keep, phase_with, released_with, ready}
use Rattle.theorems.specs.Growth.{Grows}
use Rattle.theorems.specs.Kept.{IsEntry}
use Rattle.theorems.specs.Invariants.Sound.{Sound}
use Rattle.theorems.specs.Invariants.Tidy.{is_behind, IsTidy, Tidy}
use Rattle.theorems.proofs.Changes.{choose, at-itself}
use Rattle.theorems.proofs.Tests.{is_at_most}
use Rattle.theorems.proofs.ListLemmas.{take-all, take-push, begins-length}
use Rattle.theorems.proofs.PhaseLemmas.{up-length, with-length}
use Rattle.theorems.proofs.LogLemmas.{payloads-prefix, entry-when}
use Rattle.theorems.proofs.Wire.{carries-input}
use Rattle.theorems.proofs.Receipts.{recorded-cases}
use Rattle.theorems.proofs.RunLemmas.{run_to-is}
use Rattle.theorems.proofs.Recoveries.{up_to-is}

pub opens-tidy : (n : ℕ) (f : Handlers) → Tidy (opening n f)
opens-tidy n f p =
    record {
      covered = λ _ m a b. absurd (omega arith);
      trimmed = λ d. omega arith;
      saved_trimmed = λ d. omega arith;
      back = λ _ d. refl;
      gated = λ d. omega arith;
      shut = λ _ d. refl;
      numbered = λ d i m e. absurd (cc);
      unnumbered = λ _ d i. refl;
    }

-- what a longer history sends is no less
pub sent-more : (w : World) → Grows w.handlers → (p : ℕ) (h : List Message) (d j k : ℕ) → j ≤ k → length (payloads w p (take j h) d) ≤ length (payloads w p (take k h) d)
sent-more w g p h d j k l = begins-length _ _ (payloads-prefix w g p h d j k l)

-- p's phase becomes x
pub tidy-phase : (w : World) (p : ℕ) (x : Phase) → Grows w.handlers → (is_down x ≡ false → (m : ℕ) → 0 < m → m ≤ w.saved p → w.acknowledged p m ≡ true) → (is_up x ≡ false → is_up (w.phase p) ≡ false)
    → (is_behind x ≡ true → is_behind (w.phase p) ≡ true) → length_in (w.history p) (w.saved p) (w.phase p) ≤ length_in (w.history p) (w.saved p) x → Tidy w → Tidy (record w { phase = put w.phase p x })
tidy-phase w p x g acks up behind forth h =
    choose p (λ j b. IsTidy (if b then x else w.phase j) (w.saved j) (w.acknowledged j) (w.trims j) (w.saved_trims j) (w.released j) (w.numbers j)
    (λ d. length (payloads w j (take (length_in (w.history j) (w.saved j) (if b then x else w.phase j)) (w.history j)) d)) (λ d. length (payloads w j (take (w.saved j) (w.history j)) d)))
    (record {
      covered = acks;
      trimmed = λ d. let a : w.trims p d ≤ length (sent w p d) = (h p).trimmed d in let b = more d in omega arith;
      saved_trimmed = (h p).saved_trimmed;
      back = λ e. (h p).back (up e);
      gated = λ d. let a : w.released p d ≤ length (sent w p d) = (h p).gated d in let b = more d in omega arith;
      shut = λ e. (h p).shut (up e);
      numbered = λ d i m e. let a : (0 < i) × (i ≤ length (sent w p d)) = (h p).numbered d i m e in let b = more d in (a.0, omega arith);
      unnumbered = λ e. (h p).unnumbered (behind e);
    })
    (λ j _. h j)
  where
    more : (d : ℕ) → length (sent w p d) ≤ length (payloads w p (take (length_in (w.history p) (w.saved p) x) (w.history p)) d)
    more d = sent-more w g p (w.history p) d _ _ forth

-- p's released counts become f
pub tidy-released : (w : World) (p : ℕ) (f : ℕ → ℕ) → (is_up (w.phase p) ≡ false → (d : ℕ) → f d ≡ 0) → ((d : ℕ) → f d ≤ length (sent w p d)) → Tidy w → Tidy (record w { released = put w.released p f })
tidy-released w p f shut gated h =
    choose p (λ j b. IsTidy (w.phase j) (w.saved j) (w.acknowledged j) (w.trims j) (w.saved_trims j) (if b then f else w.released j) (w.numbers j) (λ d. length (sent w j d)) (λ d. length (payloads w j (take (w.saved j) (w.history j)) d)))
    (let t = h p in record { covered = t.covered; trimmed = t.trimmed; saved_trimmed = t.saved_trimmed; back = t.back; gated = gated; shut = shut; numbered = t.numbered; unnumbered = t.unnumbered })
    (λ j _. h j)

-- other numbers are recorded
pub tidy-numbers : (w : World) (f : ℕ → ℕ → ℕ → Option ℕ) → ((p d i m : ℕ) → f p d i ≡ Some m → (0 < i) × (i ≤ length (sent w p d))) → ((p : ℕ) → is_behind (w.phase p) ≡ true → (d i : ℕ) → f p d i ≡ None) → Tidy w
    → Tidy (record w { numbers = f })
tidy-numbers w f numbered unnumbered h p =
    let t = h p in record { covered = t.covered; trimmed = t.trimmed; saved_trimmed = t.saved_trimmed; back = t.back; gated = t.gated; shut = t.shut; numbered = numbered p; unnumbered = unnumbered p }

not-up : (x : Phase) → is_up x ≡ true → is_up x ≡ false → ⊥
not-up x a b = cc

pub tidy-input : (w : World) (d feed : ℕ) (x : Payload) → Tidy w → Tidy (input w d feed x)
tidy-input w d feed x h p =
    let t = h p in
    record {
      covered = t.covered;
      trimmed = λ e. let a : w.trims p e ≤ length (sent w p e) = t.trimmed e in let b : length (sent w p e) ≤ length (sent (input w d feed x) p e) = more (take (length_of w p) (w.history p)) e in omega arith;
      saved_trimmed = λ e. let a : w.saved_trims p e ≤ length (payloads w p (take (w.saved p) (w.history p)) e) = t.saved_trimmed e in let b : length (payloads w p (take (w.saved p) (w.history p)) e) ≤ length (payloads (input w d feed x) p (take (w.saved p) (w.history p)) e) = more (take (w.saved p) (w.history p)) e in omega arith;
      back = t.back;
      gated = λ e. let a : w.released p e ≤ length (sent w p e) = t.gated e in let b : length (sent w p e) ≤ length (sent (input w d feed x) p e) = more (take (length_of w p) (w.history p)) e in omega arith;
      shut = t.shut;
      numbered = λ e i m n. let a : (0 < i) × (i ≤ length (sent w p e)) = t.numbered e i m n in let b : length (sent w p e) ≤ length (sent (input w d feed x) p e) = more (take (length_of w p) (w.history p)) e in (a.0, omega arith);
      unnumbered = t.unnumbered;
    }
  where
    more : (g : List Message) (e : ℕ) → length (payloads w p g e) ≤ length (payloads (input w d feed x) p g e)
    more g e = begins-length _ _ ((carries-input w d feed x).payloads_grow p g e)

-- a number is recorded at an entry
pub tidy-recorded : (w : World) (s r i k : ℕ) → is_up (w.phase s) ≡ true → is_entry w s r i ≡ true → Tidy w → Tidy (record w { numbers = recorded w s r i k })
tidy-recorded w s r i k up entry h = tidy-numbers w (recorded w s r i k) (λ a q j m e. numbered a q j m e (recorded-cases w s r i k a q j)) (λ a b q j. unnumbered a b q j (recorded-cases w s r i k a q j)) h
  where
    is : IsEntry w s r i
    is = entry-when w s r i entry

    numbered : (a q j m : ℕ) → recorded w s r i k a q j ≡ Some m → ((a ≡ s) × (q ≡ r) × (j ≡ i) × (recorded w s r i k a q j ≡ Some k)) ⊎ (recorded w s r i k a q j ≡ w.numbers a q j) → (0 < j) × (j ≤ length (sent w a q))
    numbered a q j m e (inl t) = let l : w.trims s r < i = is.above in let n : i ≤ length (sent w s r) = is.within in rw (t.0, t.1, t.2) ((omega arith, n))
    numbered a q j m e (inr t) = (h a).numbered q j m (sym t ∙ e)

    up-front : (x : Phase) → is_up x ≡ true → is_behind x ≡ false
    up-front Up e = refl
    up-front (Busy m) e = refl
    up-front Down e = absurd (cc)
    up-front (Replaying j working alone) e = absurd (cc)
    up-front (Resync todo) e = absurd (cc)

    unnumbered : (a : ℕ) → is_behind (w.phase a) ≡ true → (q j : ℕ) → ((a ≡ s) × (q ≡ r) × (j ≡ i) × (recorded w s r i k a q j ≡ Some k)) ⊎ (recorded w s r i k a q j ≡ w.numbers a q j) → recorded w s r i k a q j ≡ None
    unnumbered a b q j (inl t) = absurd (let c : is_behind (w.phase s) ≡ true = rw t.0 at b in let d : is_behind (w.phase s) ≡ false = up-front (w.phase s) up in cc)
    unnumbered a b q j (inr t) = t ∙ (h a).unnumbered b q j

pub tidy-acknowledge : (w : World) (key r k : ℕ) → Grows w.handlers → is_up (w.phase r) ≡ true → Tidy w → Tidy (acknowledge w key r k)
tidy-acknowledge w key r k g up h =
    choose r (λ j b. IsTidy (w.phase j) (w.saved j) (if b then put (w.acknowledged r) k true else w.acknowledged j) (w.trims j) (w.saved_trims j)
    (if b then (λ d. max (w.released r d) (length (payloads w r (take (run_to (put (w.acknowledged r) k true) (length (w.history r))) (w.history r)) d))) else w.released j) (w.numbers j) (λ d. length (sent w j d)) (λ d. length (payloads w j (take (w.saved j) (w.history j)) d)))
    (let t = h r in
    record {
      covered = λ e m a b. choose k (λ i c. w.acknowledged r i ≡ true → (if c then true else w.acknowledged r i) ≡ true) (λ _. refl) (λ i _ f. f) m (t.covered e m a b);
      trimmed = t.trimmed;
      saved_trimmed = t.saved_trimmed;
      back = t.back;
      gated = gate;
      shut = λ e. absurd (not-up (w.phase r) up e);
      numbered = t.numbered;
      unnumbered = t.unnumbered;
    })
    (λ j _. h j)
  where
    gate : (d : ℕ) → max (w.released r d) (length (payloads w r (take (run_to (put (w.acknowledged r) k true) (length (w.history r))) (w.history r)) d)) ≤ length (sent w r d)
    gate d =
        let run : run_to (put (w.acknowledged r) k true) (length (w.history r)) ≤ length (w.history r) = (run_to-is (put (w.acknowledged r) k true) (length (w.history r))).0 in
        let whole : length_of w r ≡ length (w.history r) = up-length (w.phase r) up (w.history r) (w.saved r) in
        let a : w.released r d ≤ length (sent w r d) = (h r).gated d in
        let b : length (payloads w r (take (run_to (put (w.acknowledged r) k true) (length (w.history r))) (w.history r)) d) ≤ length (sent w r d) = sent-more w g r (w.history r) d _ (length_of w r) (omega arith) in
        omega arith

pub tidy-commit : (w : World) (p : ℕ) (m : Message) (new : ℕ) → w.phase p ≡ Busy m → Sound w → Tidy w → Tidy (commit w p m new)
tidy-commit w p m new busy s h =
    choose p (λ j b. IsTidy (if b then Up else w.phase j) (w.saved j) (w.acknowledged j) (w.trims j) (w.saved_trims j) (w.released j) (w.numbers j)
    (λ d. length (payloads w j (take (length_in (if b then w.history p ++ m ∷ [] else w.history j) (w.saved j) (if b then Up else w.phase j)) (if b then w.history p ++ m ∷ [] else w.history j)) d))
    (λ d. length (payloads w j (take (w.saved j) (if b then w.history p ++ m ∷ [] else w.history j)) d)))
    (let t = h p in
    record {
      covered = λ _. t.covered (rw busy refl);
      trimmed = λ d. let a : w.trims p d ≤ length (sent w p d) = t.trimmed d in let b = more d in omega arith;
      saved_trimmed = λ d. rw (take-push (w.history p) (m ∷ []) (w.saved p) (s.saved p)) (t.saved_trimmed d);
      back = λ e. absurd (cc);
      gated = λ d. let a : w.released p d ≤ length (sent w p d) = t.gated d in let b = more d in omega arith;
      shut = λ e. absurd (cc);
      numbered = λ d i n e. let a : (0 < i) × (i ≤ length (sent w p d)) = t.numbered d i n e in let b = more d in (a.0, omega arith);
      unnumbered = λ e. absurd (cc);
    })
    (λ j _. h j)
  where
    more : (d : ℕ) → length (sent w p d) ≤ length (payloads w p (take (length (w.history p ++ m ∷ [])) (w.history p ++ m ∷ [])) d)
    more d = rw (busy, ← take-push (w.history p) (m ∷ []) (length (w.history p)) (omega arith)) (sent-more w s.grows p (w.history p ++ m ∷ []) d (length (w.history p)) _ (omega (arith, length-append {A = Message})))

pub tidy-checkpoint : (w : World) (p : ℕ) → w.phase p ≡ Up → Tidy w → Tidy (checkpoint w p)
tidy-checkpoint w p up h =
    choose p (λ j b. IsTidy (w.phase j) (if b then length (w.history p) else w.saved j) (if b then (λ k. nat_le k (length (w.history p))) else w.acknowledged j) (w.trims j) (if b then w.trims p else w.saved_trims j)
    (if b then sent_in_all w p else w.released j) (w.numbers j) (λ d. length (payloads w j (take (length_in (w.history j) (if b then length (w.history p) else w.saved j) (w.phase j)) (w.history j)) d))
    (λ d. length (payloads w j (take (if b then length (w.history p) else w.saved j) (w.history j)) d)))
    (let t : IsTidy Up (w.saved p) (w.acknowledged p) (w.trims p) (w.saved_trims p) (w.released p) (w.numbers p) (λ d. length (payloads w p (take (length (w.history p)) (w.history p)) d)) (λ d. length (payloads w p (take (w.saved p) (w.history p)) d)) = rw up at (h p) in
    rw up (record {
      covered = λ _ m a b. is_at_most m _ b;
      trimmed = t.trimmed;
      saved_trimmed = t.trimmed;
      back = λ e. absurd (cc);
      gated = λ d. rw (take-all (w.history p)) (omega arith);
      shut = λ e. absurd (cc);
      numbered = t.numbered;
      unnumbered = t.unnumbered;
    }))
    (λ j _. h j)

pub tidy-trim : (w : World) (d : ℕ) → Tidy w → Tidy (trim w d)
tidy-trim w d h p =
    let t = h p in
    record {
      covered = t.covered;
      trimmed = choose d (λ e b. (if b then trimmed w d p else w.trims p e) ≤ length (sent w p e)) (within (is_up (w.phase p))) (λ e _. t.trimmed e);
      saved_trimmed = t.saved_trimmed;
      back = λ e. choose d (λ q b. (if b then trimmed w d p else w.trims p q) ≡ w.saved_trims p q) (rw e (t.back e d)) (λ q _. t.back e q);
      gated = t.gated;
      shut = t.shut;
      numbered = t.numbered;
      unnumbered = t.unnumbered;
    }
  where
    within : (u : Bool) → (if u then max (w.trims p d) (min (covered w p d) (length (sent w p d))) else w.trims p d) ≤ length (sent w p d)
    within true = let a : w.trims p d ≤ length (sent w p d) = (h p).trimmed d in omega arith
    within false = (h p).trimmed d

pub tidy-crash : (w : World) (p : ℕ) → Tidy w → Tidy (crash w p)
tidy-crash w p h =
    choose p (λ j b. IsTidy (if b then Down else w.phase j) (w.saved j) (if b then (λ _. false) else w.acknowledged j) (if b then w.saved_trims p else w.trims j) (w.saved_trims j) (if b then (λ _. 0) else w.released j) (if b then (λ _ _. None) else w.numbers j)
    (λ d. length (payloads w j (take (length_in (w.history j) (w.saved j) (if b then Down else w.phase j)) (w.history j)) d)) (λ d. length (payloads w j (take (w.saved j) (w.history j)) d)))
    (record {
      covered = λ e. absurd (cc);
      trimmed = (h p).saved_trimmed;
      saved_trimmed = (h p).saved_trimmed;
      back = λ _ d. refl;
      gated = λ d. omega arith;
      shut = λ _ d. refl;
      numbered = λ d i m e. absurd (cc);
      unnumbered = λ _ d i. refl;
    })
    (λ j _. h j)

-- the kept number cuts p's history, and its senders' numbers
pub tidy-keep : (w : World) (p k : ℕ) → w.phase p ≡ Down → take (w.saved p) (gather w p (take (w.saved p) (w.history p)) (k - w.saved p)) ≡ take (w.saved p) (w.history p) → Tidy w → Tidy (keep w p k)
tidy-keep w p k down same h =
    choose p (λ j b. IsTidy (w.phase j) (w.saved j) (if b then (λ m. nat_le m k) else w.acknowledged j) (w.trims j) (w.saved_trims j) (w.released j) (put (w.numbers j) p (λ i. up_to k (w.numbers j p i)))
    (λ d. length (payloads w j (take (length_in (if b then gathered else w.history j) (w.saved j) (w.phase j)) (if b then gathered else w.history j)) d))
    (λ d. length (payloads w j (take (w.saved j) (if b then gathered else w.history j)) d)))
    (let t : IsTidy Down (w.saved p) (w.acknowledged p) (w.trims p) (w.saved_trims p) (w.released p) (w.numbers p) (λ d. length (payloads w p (take (w.saved p) (w.history p)) d)) (λ d. length (payloads w p (take (w.saved p) (w.history p)) d)) = rw down at (h p) in
    rw (down, same) (record {
      covered = λ e. absurd (cc);
      trimmed = t.trimmed;
      saved_trimmed = t.saved_trimmed;
      back = t.back;
      gated = t.gated;
      shut = t.shut;
      numbered = λ d i m e. t.numbered d i m (fewer p d i m e);
      unnumbered = λ e d i. none p d i (t.unnumbered e d i);
    }))
    (λ j _. let t = h j in
    record {
      covered = t.covered;
      trimmed = t.trimmed;
      saved_trimmed = t.saved_trimmed;
      back = t.back;
      gated = t.gated;
      shut = t.shut;
      numbered = λ d i m e. t.numbered d i m (fewer j d i m e);
      unnumbered = λ e d i. none j d i (t.unnumbered e d i);
    })
  where
    gathered : List Message
    gathered = gather w p (take (w.saved p) (w.history p)) (k - w.saved p)

    up_to-none : (o : Option ℕ) → o ≡ None → up_to k o ≡ None
    up_to-none None e = refl
    up_to-none (Some m) e = absurd (cc)

    fewer : (j d i m : ℕ) → put (w.numbers j) p (λ i. up_to k (w.numbers j p i)) d i ≡ Some m → w.numbers j d i ≡ Some m
    fewer j d i m = choose p (λ q b. (if b then (λ i. up_to k (w.numbers j p i)) else w.numbers j q) i ≡ Some m → w.numbers j q i ≡ Some m) (λ e. (up_to-is k m (w.numbers j p i) e).0) (λ q _ e. e) d

    none : (j d i : ℕ) → w.numbers j d i ≡ None → put (w.numbers j) p (λ i. up_to k (w.numbers j p i)) d i ≡ None
    none j d i = choose p (λ q b. w.numbers j q i ≡ None → (if b then (λ i. up_to k (w.numbers j p i)) else w.numbers j q) i ≡ None) (λ e. up_to-none (w.numbers j p i) e) (λ q _ e. e) d

-- the phases in which a process has its numbers, or not all of them yet
with-up : (rs : List ℕ) → is_behind (phase_with rs) ≡ false
with-up [] = refl
with-up (r ∷ rs) = refl

-- p, which isn't down or has all that its checkpoint covers acknowledged, has these peers to do
pub tidy-ready : (w : World) (p : ℕ) (rs : List ℕ) → Grows w.handlers → ((m : ℕ) → 0 < m → m ≤ w.saved p → w.acknowledged p m ≡ true) → is_up (w.phase p) ≡ false → length_in (w.history p) (w.saved p) (w.phase p) ≤ length (w.history p)
    → Tidy w → Tidy (ready w p rs)
tidy-ready w p rs g acks not-up forth h =
    let v : World = record w { phase = put w.phase p (phase_with rs) } in
    let t : Tidy v = tidy-phase w p (phase_with rs) g (λ _. acks) (λ _. not-up) (λ e. absurd (let f : is_behind (phase_with rs) ≡ false = with-up rs in cc)) (rw (with-length rs (w.history p) (w.saved p)) forth) h in
    tidy-released v p (released_with w p rs) (shut rs) (gated rs) t
  where
    shut : (qs : List ℕ) → is_up (put w.phase p (phase_with qs) p) ≡ false → (d : ℕ) → released_with w p qs d ≡ 0
    shut [] e d = absurd (let f : is_up (put w.phase p Up p) ≡ true = at-itself p (λ b. is_up (if b then Up else w.phase p) ≡ true) refl in cc)
    shut (q ∷ qs) e d = (h p).shut not-up d

    gated : (qs : List ℕ) (d : ℕ) → released_with w p qs d ≤ length (payloads w p (take (length_in (w.history p) (w.saved p) (put w.phase p (phase_with qs) p)) (w.history p)) d)
    gated [] d = at-itself p (λ b. sent_in_all w p d ≤ length (payloads w p (take (length_in (w.history p) (w.saved p) (if b then Up else w.phase p)) (w.history p)) d)) (rw (take-all (w.history p)) (omega arith))
    gated (q ∷ qs) d = let a : w.released p d ≡ 0 = (h p).shut not-up d in omega arith
