-- All nodes come back, those whose lives began last first: whoever isn't up told the others of a loss, or its life began after theirs
use Rattle.std.proofs.Common.{◌≡◌, ◌≢◌, inl, inr, ℕ, zero, suc, ◌<◌, ◌≤◌, List, [], ◌∷◌, Bool, true, false, refl, sym, ap, ◌∙◌, arith}
use Rattle.std.specs.Prelude.{◌==◌}
use Rattle.std.specs.List.{list_all}
use Rattle.std.proofs.lemmas.Bool.Decides.{nat_tests}
use Rattle.theorems.proofs.Changes.{choose}
use Rattle.cluster.specs.Cluster.{Cluster, runs, is_well, durable_opening}
use Rattle.cluster.specs.Rules.{IsNode}
use Rattle.cluster.proofs.Facts.{true-not-false}
use Rattle.cluster.specs.Overlap.{Event, goes, after_events}
use Rattle.cluster.specs.Return.{is_quiet, AllUp, AllComeBack}
use Rattle.cluster.proofs.Ages.{un-gate, is_some, at_stage, has_told, Aged}
use Rattle.cluster.proofs.Births.{Orderly, always-orderly}
use Rattle.cluster.proofs.WakeUps.{Calm, Goes, go-on, IsAwake, AllReady, rouse-all}
use Rattle.cluster.proofs.Recoveries.{AllAwake, recover-all}
use Rattle.cluster.proofs.Raises.{Stand, Raised, well-kept, raise}

module _ (born : ℕ → ℕ) (now : ℕ) where
  -- of those that aren't up none began after b
  abbrev Old : ℕ → Cluster → Type 0
  Old b c = (q : ℕ) → q ≤ c.world.count → is_well c q ≡ false → born q ≤ b

  -- a node that began last can come back
  stands : (s : Cluster) → Aged born now s → AllAwake s → (p : ℕ) → IsNode s p → is_well s p ≡ false → Old (born p) s → Stand born now p s
  stands s h awake p node un old =
      record {
        aged = h;
        node = node;
        live = (awake p node.1).0;
        awake = λ q a n. awake q a;
        lost = λ q a n w. told q a n w (s.lost p q) refl;
      }
    where
      told : (q : ℕ) → q ≤ s.world.count → q ≢ p → is_well s q ≡ false → (b : Bool) → s.lost p q ≡ b → s.lost p q ≡ true
      told q a n w true e = e
      told q a n w false e =
          let t : has_told s p q ≡ true = ap (λ x. at_stage x (is_some (s.told p q))) (awake p node.1).0 in
          let l : born q ≤ born p = old q a w in
          elim (h.later p q a (λ f. n (sym f)) t un e) [ inl v ↦ absurd (true-not-false v w) | inr r ↦ elim r [ inl d ↦ absurd (true-not-false (ap runs (awake q a).0) (ap runs d)) | inr m ↦ absurd (omega arith) ] ]

  -- it is up, and all is as it was of the others
  raised-awake : (p : ℕ) (s t : Cluster) → Raised born now p s t → AllAwake s → AllAwake t
  raised-awake p s t r awake =
      let same : t.world.count ≡ s.world.count = r.0.count in
      choose p (λ q _. q ≤ t.world.count → IsAwake t q) (λ a. (r.0.stage p ∙ (awake p (omega arith)).0, λ _. r.2))
      (λ q z a. let w = awake q (omega arith) in (r.0.stage q ∙ w.0, λ v. r.0.phase q z ∙ w.1 (sym (well-kept born now p s t r.0 q z) ∙ v)))

  -- whoever isn't up after it wasn't so before, and isn't p
  raised-un : (p : ℕ) (s t : Cluster) → Raised born now p s t → (q : ℕ) → is_well t q ≡ false → (q ≢ p) × (is_well s q ≡ false)
  raised-un p s t r = choose p (λ q _. is_well t q ≡ false → (q ≢ p) × (is_well s q ≡ false)) (λ w. absurd (true-not-false r.1 w)) (λ q z w. (z, sym (well-kept born now p s t r.0 q z) ∙ w))

  -- of those that aren't up and began at b none is at m or above
  abbrev Below : ℕ → ℕ → Cluster → Type 0
  Below b m c = (q : ℕ) → m ≤ q → q ≤ c.world.count → is_well c q ≡ false → born q < b

  -- those that began at b come back, one after the other
  these : (b m : ℕ) (s : Cluster) → Aged born now s → AllAwake s → m ≤ suc s.world.count → Old b s → Below b m s
      → ((t : Cluster) → Aged born now t → AllAwake t → Below b 0 t → Goes t AllUp) → Goes s AllUp
  these b zero s h awake l old below more = more s h awake below
  these b (suc m) s h awake l old below more = split (λ t x y z v w. these b m t x y z v w more) (is_well s m) refl (born m == b) refl
    where
      past : (t : Cluster) → t.world.count ≡ s.world.count → ((q : ℕ) → is_well t q ≡ false → is_well s q ≡ false) → (is_well t m ≡ false → born m < b) → Below b m t
      past t same un here = choose m (λ q _. m ≤ q → q ≤ t.world.count → is_well t q ≡ false → born q < b) (λ _ _. here) (λ q z a c w. below q (omega arith) (omega arith) (un q w))

      split : ((t : Cluster) → Aged born now t → AllAwake t → m ≤ suc t.world.count → Old b t → Below b m t → Goes t AllUp) → (x : Bool) → is_well s m ≡ x → (y : Bool) → (born m == b) ≡ y → Goes s AllUp
      split go true e y f = go s h awake (omega arith) old (past s refl (λ q w. w) (λ w. absurd (true-not-false e w)))
      split go false e false f = go s h awake (omega arith) old (past s refl (λ q w. w) (λ w. let d : born m ≢ b = grind (arith, nat_tests) in let o : born m ≤ b = old m (omega arith) w in omega arith))
      split go false e true f =
          let is : born m ≡ b = grind (arith, nat_tests) in
          let node : IsNode s m = (let n : 0 ≢ m = un-gate s h.plain m e in omega arith, omega arith) in
          go-on s (Raised born now m s) AllUp (raise born now m s (stands s h awake m node e (λ q a w. let o : born q ≤ b = old q a w in omega arith))) (λ t r.
          let same : t.world.count ≡ s.world.count = r.0.count in
          go t r.0.aged (raised-awake m s t r awake) (omega arith) (λ q a w. old q (omega arith) (raised-un m s t r q w).1)
          (past t same (λ q w. (raised-un m s t r q w).1) (λ w. absurd ((raised-un m s t r m w).0 refl))))

  -- those that began later come first
  latest-first : (b : ℕ) (s : Cluster) → Aged born now s → AllAwake s → Old b s → Goes s AllUp
  latest-first zero s h awake old = these 0 (suc s.world.count) s h awake (omega arith) old (λ q a c w. absurd (omega arith)) (λ t g up below.
      ([], tt, tt, λ q a. all t below q a (is_well t q) refl))
    where
      all : (t : Cluster) → Below 0 0 t → (q : ℕ) → q ≤ t.world.count → (b : Bool) → is_well t q ≡ b → is_well t q ≡ true
      all t below q a true e = e
      all t below q a false e = let l : born q < 0 = below q (omega arith) a e in absurd (omega arith)
  latest-first (suc b) s h awake old = these (suc b) (suc s.world.count) s h awake (omega arith) old (λ q a c w. absurd (omega arith)) (λ t g up below.
      latest-first b t g up (λ q a w. let l : born q < suc b = below q (omega arith) a w in omega arith))

-- wherever an orderly run led
pub orderly-back : (s : Cluster) → Orderly s → Goes s AllUp
orderly-back s h =
    go-on s (λ t. Orderly t × AllReady t) AllUp (rouse-all s.world.count s h (omega arith) (λ q a b. absurd (omega arith))) (λ t u.
    go-on t (λ t. Orderly t × AllAwake t) AllUp (recover-all t.world.count t u.0 (omega arith) u.1 (λ q a b. absurd (omega arith))) (λ v w.
    latest-first w.0.0 w.0.1 w.0.1 v w.0.2 w.1 (λ q a e. w.0.2.past q)))

calm-quiet : (s : Cluster) (es : List Event) → Calm s es → list_all is_quiet es ≡ true
calm-quiet s [] c = refl
calm-quiet s (e ∷ es) c = rw (c.0.0, calm-quiet (goes s e) es c.1) refl

pub all-come-back : AllComeBack
all-come-back n f durable es r = let t = orderly-back (after_events (durable_opening n f durable) es) (always-orderly n f durable es r) in (t.0, t.1, calm-quiet (after_events (durable_opening n f durable) es) t.0 t.2, t.3)
