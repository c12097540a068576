-- The moment of recovery
use Rattle.std.proofs.Common.{◌≡◌, ◌≢◌, ℕ, zero, suc, ◌+◌, ◌-◌, ◌<◌, ◌≤◌, List, length, take, Bool, true, false, refl, sym, ap, ◌∙◌, subst, arith}
use Rattle.std.specs.Prelude.{Option, Some, None, not, ◌&&◌, ◌==◌, nat_lt, nat_le, if◌then◌else◌}
use Rattle.std.proofs.lemmas.Bool.Decides.{nat_tests}
use Rattle.world.specs.declared.message.Message.{Message}
use Rattle.world.specs.declared.call.Call.TheVariants.{Crash, Recover}
use Rattle.world.specs.declared.answer.Answer.TheVariants.{Crashed, Kept}
use Rattle.world.specs.History.{nth}
use Rattle.world.specs.Phases.{Phase, Down, Replaying, is_up, is_down, is_working}
use Rattle.world.specs.World.{World, put, is_inside}
use Rattle.world.specs.Logs.{payloads, length_in, length_of}
use Rattle.world.specs.Plan.{found, chosen, gather, if_next}
use Rattle.world.specs.Bounds.{WIRE, any_below, open_jobs}
use Rattle.world.specs.Calls.{crash, keep, recover, ready, peers, phase_with, released_with}
use Rattle.world.specs.Refusals.{one_if, others_up}
use Rattle.theorems.specs.Kept.{IsEntry, Held}
use Rattle.theorems.specs.Invariants.Exact.{is_restored}
use Rattle.theorems.proofs.Changes.{elsewhere, at-itself}
use Rattle.theorems.proofs.LogLemmas.{entry-of}
use Rattle.theorems.proofs.ListLemmas.{at-number, take-length}
use Rattle.theorems.proofs.PhaseLemmas.{up-length, with-down, with-restored}
use Rattle.theorems.proofs.PlanLemmas.{Lies, found-lies, lies-is}
use Rattle.theorems.proofs.Tests.{different}
use Rattle.cluster.specs.Cluster.{Cluster}
use Rattle.cluster.specs.Rules.{Recovers, May, does, kept_by, taken_back, goes_on}
use Rattle.cluster.specs.Inside.Journals.{IsStep, entry, Leads}
use Rattle.cluster.specs.Inside.Agrees.{Beside, world, Agrees}
use Rattle.cluster.specs.Inside.Simulation.{IsJournalOf}
use Rattle.cluster.proofs.Worlds.{Lawful, lawful-step, leads-by}
use Rattle.cluster.proofs.CountLemmas.{put-put}
use Rattle.cluster.proofs.Facts.{true-not-false, back-is}
use Rattle.cluster.proofs.Wires.{step-of, below-self}
use Rattle.cluster.proofs.Preservation.{lose-all}
use Rattle.cluster.proofs.Replays.{with-busy, with-working, is-peer}
use Rattle.cluster.proofs.Plans.{gather-held}
use Rattle.cluster.proofs.RecoveryPoint.{back, Tells, kept-is, within, held, no-next}
use Rattle.cluster.proofs.RecoveredCluster as after

none-below : (test : ℕ → Bool) (n : ℕ) → ((j : ℕ) → j < n → test j ≡ false) → any_below test n ≡ false
none-below test zero none = refl
none-below test (suc n) none = rw (none n (omega arith)) (none-below test n (λ j a. none j (omega arith)))

module _ (c : Cluster) (b : Beside) (p k : ℕ) (h : Agrees c b) (l : Lawful (world c b)) (may : May c (Recovers p k)) where
  abbrev w : World
  w = world c b

  abbrev g : List Message
  g = c.world.history p

  -- The world's side

  abbrev crashed : World
  crashed = crash w p

  singly : others_up w p ≡ true
  singly = let e : any_below (λ q. not (q == p) && not (is_up (c.world.phase q))) (suc c.world.count) ≡ false = none-below (λ q. not (q == p) && not (is_up (c.world.phase q))) (suc c.world.count) (λ q a. each q a (q == p) refl) in rw e refl
    where
      each : (q : ℕ) → q < suc c.world.count → (t : Bool) → (q == p) ≡ t → (not t && not (is_up (c.world.phase q))) ≡ false
      each q a true e = refl
      each q a false e = let u : is_up (c.world.phase q) ≡ true = (back-is c q (back c b p k h l may q (omega arith) (different q p e))).0 in rw u refl

  inside : not (is_inside w p) ≡ false
  inside = go may.0.0 may.0.1
    where
      go : 0 < p → p ≤ c.world.count → not (is_inside w p) ≡ false
      go x y = grind (arith, nat_tests)

  crashes : IsStep w (entry (Crash p) (Crashed (b.incarnation p + 1)))
  crashes = step-of w (Crash p) (Crashed (b.incarnation p + 1)) (open_jobs w - one_if (is_working (c.world.phase p)) + 1) (inside, (h.phases.live p, (below-self (open_jobs w - one_if (is_working (c.world.phase p)) + 1), tt))) refl singly

  lawful : Lawful crashed
  lawful = lawful-step w (entry (Crash p) (Crashed (b.incarnation p + 1))) crashes l

  -- what peers hold of p the world holds too when p has crashed
  still-held : (m : ℕ) → c.world.saved p < m → m ≤ k → Held crashed p m
  still-held m a z = go (held c b p k h l may m a z)
    where
      go : ((x : Message) × Tells c b p k h l may m x) → Held crashed p m
      go t =
          let at = at-number g m t.0 t.1.at in
          let q : ℕ = t.1.by in
          let long_ : length_of w q ≡ length (c.world.history q) = up-length (c.world.phase q) (back-is c q (back c b p k h l may q t.1.inside t.1.other)).0 (c.world.history q) (c.world.saved q) in
          let Q : ℕ → Type 0 = λ s. length_of w s ≡ length (c.world.history s) in
          let entry_ : IsEntry w t.0.sender p t.0.ssn = entry-of w l.sound l.exact p at.0 t.0 at.2 (let u : m ≡ suc at.0 = at.1 in omega arith) (h.phases.live t.0.sender) (subst Q (sym t.1.from) long_) in
          let R : ℕ → Type 0 = λ s. IsEntry w s p t.0.ssn in
          record {
            by = q;
            ssn = t.0.ssn;
            number = elsewhere p (λ j s. b.numbers j p t.0.ssn ≡ Some m → (if s then (λ (x : ℕ) (y : ℕ). None) else b.numbers j) p t.0.ssn ≡ Some m) (λ j e. e) q t.1.other t.1.number;
            entry = elsewhere p (λ j s. IsEntry w j p t.0.ssn → record {
              live : is_down (if s then Down else c.world.phase j) ≡ false;
              above : (if s then b.saved_trims p else b.trims j) p < t.0.ssn;
              within : t.0.ssn ≤ length (payloads w j (take (length_in (c.world.history j) (c.world.saved j) (if s then Down else c.world.phase j)) (c.world.history j)) p);
            }) (λ j e. e) q t.1.other (subst R t.1.from entry_);
          }

  gathered : gather crashed p (take (c.world.saved p) g) (k - c.world.saved p) ≡ take k g
  gathered = gather-held crashed p lawful.sound lawful.exact k may.3 (within c b p k h l may) still-held

  -- and no more
  none-next : chosen crashed p (take k g) ≡ None
  none-next = split (found crashed p (suc k)) refl
    where
      wrong : (x : Message) → found crashed p (suc k) ≡ Some x → ⊥
      wrong x e =
          let t : Lies crashed p (suc k) x = found-lies crashed p (suc k) x e in
          let at : nth g (suc k) ≡ Some x = lies-is crashed p lawful.sound lawful.exact (suc k) x t in
          let n : t.by ≢ p = λ f. true-not-false (at-itself p (λ s. is_down (if s then Down else c.world.phase p) ≡ true) refl) (let P : ℕ → Type 0 = λ j. is_down (put c.world.phase p Down j) ≡ false in let u : is_down (put c.world.phase p Down p) ≡ false = subst P f t.entry.live in u) in
          let number : b.numbers t.by p t.ssn ≡ Some (suc k) = elsewhere p (λ j s. (if s then (λ (x : ℕ) (y : ℕ). None) else b.numbers j) p t.ssn ≡ Some (suc k) → b.numbers j p t.ssn ≡ Some (suc k)) (λ j f. f) t.by n t.number in
          let P : ℕ → Type 0 = λ i. b.numbers t.by p i ≡ Some (suc k) in
          no-next c b p k h l may t.by x t.below n at t.sender (subst P (sym t.of) number)

      split : (o : Option Message) → found crashed p (suc k) ≡ o → chosen crashed p (take k g) ≡ None
      split (Some x) e = absurd (wrong x e)
      split None e = ap (λ j. if_next (take k g) (found crashed p (suc j))) (take-length g k (within c b p k h l may)) ∙ ap (if_next (take k g)) e

  recovers : IsStep crashed (entry (Recover p) (Kept k))
  recovers =
      step-of crashed (Recover p) (Kept k) (open_jobs crashed + 1) (inside, (rw others refl, (rw down_ refl, (below-self (open_jobs crashed + 1), tt)))) (may.3, ap length gathered ∙ take-length g k (within c b p k h l may), (let P : List Message → Type 0 = λ y. chosen crashed p y ≡ None in subst P (sym gathered) none-next)) refl
    where
      down_ : is_down (crashed.phase p) ≡ true
      down_ = at-itself p (λ s. is_down (if s then Down else c.world.phase p) ≡ true) refl

      others : others_up crashed p ≡ true
      others = let e : any_below (λ q. not (q == p) && not (is_up (crashed.phase q))) (suc c.world.count) ≡ false = none-below (λ q. not (q == p) && not (is_up (crashed.phase q))) (suc c.world.count) (λ q a. each q a (q == p) refl) in rw e refl
        where
          each : (q : ℕ) → q < suc c.world.count → (t : Bool) → (q == p) ≡ t → (not t && not (is_up (if t then Down else c.world.phase q))) ≡ false
          each q a true e = refl
          each q a false e = let u : is_up (c.world.phase q) ≡ true = (back-is c q (back c b p k h l may q (omega arith) (different q p e))).0 in rw u refl

  -- Both

  leads-on : (v : World) → Leads (recover crashed p k false) v → Leads w v
  leads-on v t = leads-by w v (entry (Crash p) (Crashed (b.incarnation p + 1))) crashes (leads-by crashed v (entry (Recover p) (Kept k)) recovers t)

  abbrev made : (ℕ → ℕ → ℕ) → List Message → (ℕ → Phase) → (ℕ → ℕ → Bool) → World
  made r y f a = record (world c (after.b' c b p k h l may)) { history = put c.world.history p y; phase = f; acknowledged = a; released = r }

  abbrev all-to : ℕ → ℕ → Bool
  all-to = put c.world.acknowledged p (λ m. nat_le m k)

  abbrev all-to-again : ℕ → ℕ → Bool
  all-to-again = put (put c.world.acknowledged p (λ _. false)) p (λ m. nat_le m k)

  abbrev ps : List ℕ
  ps = peers c.world p false

  -- what is released with this history
  abbrev rel : List Message → ℕ → ℕ → ℕ
  rel y = put (put c.world.released p (λ _. 0)) p (released_with (record c.world { history = put c.world.history p y; released = put c.world.released p (λ _. 0) }) p ps)

  kept-path : gather crashed p (take (c.world.saved p) g) (k - c.world.saved p) ≡ kept_by c p k
  kept-path = gathered ∙ sym (kept-is c b p k h l may)

  -- the world's ends are the cluster's
  same-end : (r : List Message → ℕ → ℕ → ℕ) (x : Phase) → made (r (gather crashed p (take (c.world.saved p) g) (k - c.world.saved p))) (gather crashed p (take (c.world.saved p) g) (k - c.world.saved p)) (put (put c.world.phase p Down) p x) all-to-again ≡ made (r (kept_by c p k)) (kept_by c p k) (put c.world.phase p x) all-to
  same-end r x =
      ap (λ y. made (r y) y (put (put c.world.phase p Down) p x) all-to-again) kept-path
      ∙ ap (λ (f : ℕ → Phase). made (r (kept_by c p k)) (kept_by c p k) f all-to-again) (put-put c.world.phase p Down x)
      ∙ ap (λ (a : ℕ → ℕ → Bool). made (r (kept_by c p k)) (kept_by c p k) (put c.world.phase p x) a) (put-put c.world.acknowledged p (λ _. false) (λ m. nat_le m k))

  pub step-recovers : IsJournalOf (world c b) (does c (Recovers p k))
  step-recovers = split (nat_lt (c.world.saved p) k) refl
    where
      split : (t : Bool) → nat_lt (c.world.saved p) k ≡ t
          → IsJournalOf (world c b) (if t then record (taken_back c p k) { world = record (taken_back c p k).world { phase = put c.world.phase p (Replaying 0 false false) } } else goes_on (taken_back c p k) p (peers c.world p false))
      split true e =
          record {
            beside = after.b' c b p k h l may;
            leads = leads-on _
                (let P : Bool → Type 0 = λ t. Leads (if t then record (keep crashed p k) { phase = put crashed.phase p (Replaying 0 false false) } else ready (keep crashed p k) p (peers crashed p false))
                (made (put c.world.released p (λ _. 0)) (kept_by c p k) (put c.world.phase p (Replaying 0 false false)) all-to) in
                let Q : World → Type 0 = λ v. Leads (record (keep crashed p k) { phase = put crashed.phase p (Replaying 0 false false) }) v in
                subst P (sym e) (subst Q (same-end (λ _. put c.world.released p (λ _. 0)) (Replaying 0 false false)) (lose-all (record (keep crashed p k) { phase = put crashed.phase p (Replaying 0 false false) }) p may.0.0 WIRE)));
            agrees =
                let P : List Message → Type 0 = λ y. Agrees (after.came c b p k h l may (Replaying 0 false false) (put c.world.released p (λ _. 0)) refl refl refl (λ q _ _ _. refl) gone y) (after.b' c b p k h l may) in
                subst P (sym (kept-is c b p k h l may)) (after.agrees-came c b p k h l may (Replaying 0 false false) (put c.world.released p (λ _. 0)) refl refl refl (λ q _ _ _. refl) gone);
          }
        where
          gone : (q r : ℕ) → q ≢ p → put c.world.released p (λ _. 0) q r ≡ c.world.released q r
          gone q r n = elsewhere p (λ j s. (if s then (λ (i : ℕ). 0) else c.world.released j) r ≡ c.world.released j r) (λ j. refl) q n
      split false e =
          record {
            beside = after.b' c b p k h l may;
            leads = leads-on _
                (let P : Bool → Type 0 = λ t. Leads (if t then record (keep crashed p k) { phase = put crashed.phase p (Replaying 0 false false) } else ready (keep crashed p k) p (peers crashed p false))
                (made (rel (kept_by c p k)) (kept_by c p k) (put c.world.phase p (phase_with ps)) all-to) in
                let Q : World → Type 0 = λ v. Leads (ready (keep crashed p k) p (peers crashed p false)) v in
                subst P (sym e) (subst Q (same-end rel (phase_with ps)) (lose-all (ready (keep crashed p k) p (peers crashed p false)) p may.0.0 WIRE)));
            agrees =
                let P : List Message → Type 0 = λ y. Agrees (after.came c b p k h l may (phase_with ps) (rel (kept_by c p k)) (with-down ps) (with-busy ps) (with-working ps) peer gone y) (after.b' c b p k h l may) in
                subst P (sym (kept-is c b p k h l may)) (after.agrees-came c b p k h l may (phase_with ps) (rel (kept_by c p k)) (with-down ps) (with-busy ps) (with-working ps) peer gone);
          }
        where
          gone : (q r : ℕ) → q ≢ p → rel (kept_by c p k) q r ≡ c.world.released q r
          gone q r n = ap (λ (f : ℕ → ℕ → ℕ). f q r) (put-put c.world.released p (λ _. 0) (released_with (record c.world { history = put c.world.history p (kept_by c p k); released = put c.world.released p (λ _. 0) }) p ps))
              ∙ elsewhere p (λ j s. (if s then released_with (record c.world { history = put c.world.history p (kept_by c p k); released = put c.world.released p (λ _. 0) }) p ps else c.world.released j) r ≡ c.world.released j r) (λ j. refl) q n

          peer : (q : ℕ) → 0 < q → q ≤ c.world.count → q ≢ p → is_restored (phase_with ps) q ≡ false
          peer q a z n = split_ (is_restored (phase_with ps) q) refl
            where
              split_ : (t : Bool) → is_restored (phase_with ps) q ≡ t → t ≡ false
              split_ true f = absurd (true-not-false (is-peer c.world p q a z n) (with-restored ps q f))
              split_ false f = refl
