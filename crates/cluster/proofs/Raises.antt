-- How a node is up again whose peers are all up, or told it that what they had is lost
use Rattle.std.proofs.Common.{◌≡◌, ◌≢◌, inl, inr, ℕ, zero, suc, ◌+◌, ◌<◌, ◌≤◌, List, [], ◌∷◌, length, Bool, true, false, refl, sym, ap, ◌∙◌, subst, arith}
use Rattle.std.specs.Prelude.{◌⊎◌, Some, None, ◌==◌, nat_lt, if◌then◌else◌}
use Rattle.std.proofs.lemmas.Bool.Decides.{nat_tests}
use Rattle.world.specs.declared.message.Message.{Message}
use Rattle.world.specs.History.{rsn_of}
use Rattle.world.specs.Phases.{Phase, Up, Busy, Down, Replaying, Resync, is_up, is_busy, is_replaying, todo_of, has, without}
use Rattle.world.specs.World.{put}
use Rattle.world.specs.Logs.{covered}
use Rattle.world.specs.Calls.{phase_with, peers}
use Rattle.cluster.specs.Parcels.{Body, Resume, Restored}
use Rattle.cluster.specs.Cluster.{Live, Cluster, runs, is_well}
use Rattle.cluster.specs.Rules.{Puts, Arrives, Works, Replays, IsNode, MayTake, goes_on}
use Rattle.cluster.proofs.Facts.{well-is, is-well, unphased}
use Rattle.cluster.specs.Overlap.{Acts, Leaves, goes}
use Rattle.cluster.specs.Exact.{MayStep}
use Rattle.cluster.proofs.Sane.{without-shorter}
use Rattle.cluster.proofs.Ages.{IsSound, is_some, at_stage, has_told, Aged}
use Rattle.cluster.proofs.DurableTurns.{put-other, put2-same}
use Rattle.cluster.proofs.Births.{put-same, step-aged}
use Rattle.cluster.proofs.WakeUps.{Goes, two-down, go-first, go-last, go-on, IsAwake}

module _ (born : ℕ → ℕ) (now p : ℕ) where
  -- p runs; its peers do too, and each that isn't up told it that what it had is lost
  abbrev pub Stand : Cluster → Type 0
  Stand s =
      record {
        aged : Aged born now s;
        node : IsNode s p;
        live : s.stage p ≡ Live;
        awake : (q : ℕ) → q ≤ s.world.count → q ≢ p → IsAwake s q;
        lost : (q : ℕ) → q ≤ s.world.count → q ≢ p → is_well s q ≡ false → s.lost p q ≡ true;
      }

  -- of the others all is as before
  abbrev pub Kept : Cluster → Cluster → Type 0
  Kept s t =
      record {
        aged : Aged born now t;
        count : t.world.count ≡ s.world.count;
        stage : (r : ℕ) → t.stage r ≡ s.stage r;
        greeted : (r : ℕ) → r ≢ p → t.greeted r ≡ s.greeted r;
        phase : (r : ℕ) → r ≢ p → t.world.phase r ≡ s.world.phase r;
        lost : (q : ℕ) → t.lost p q ≡ s.lost p q;
      }

  kept-kept : (s t u : Cluster) → Kept s t → Kept t u → Kept s u
  kept-kept s t u a b =
      record {
        aged = b.aged;
        count = b.count ∙ a.count;
        stage = λ r. b.stage r ∙ a.stage r;
        greeted = λ r n. b.greeted r n ∙ a.greeted r n;
        phase = λ r n. b.phase r n ∙ a.phase r n;
        lost = λ q. b.lost q ∙ a.lost q;
      }

  pub well-kept : (s t : Cluster) → Kept s t → (q : ℕ) → q ≢ p → is_well t q ≡ is_well s q
  well-kept s t k q n = rw (k.stage q, k.greeted q n, k.phase q n) refl

  stand-kept : (s t : Cluster) → Stand s → Kept s t → Stand t
  stand-kept s t h k =
      let same : t.world.count ≡ s.world.count = k.count in
      let l : p ≤ s.world.count = h.node.1 in
      record {
        aged = k.aged;
        node = (h.node.0, omega arith);
        live = k.stage p ∙ h.live;
        awake = λ q a n. let w = h.awake q (omega arith) n in (k.stage q ∙ w.0, λ e. k.phase q n ∙ w.1 (sym (well-kept s t k q n) ∙ e));
        lost = λ q a n e. k.lost q ∙ h.lost q (omega arith) n (sym (well-kept s t k q n) ∙ e);
      }

  -- and p is up, and waits for messages
  abbrev pub Raised : Cluster → Cluster → Type 0
  Raised s t = Kept s t × (is_well t p ≡ true) × (t.world.phase p ≡ Up)

  -- p's life is the one that its peers heard of
  heard-life : (s : Cluster) → Stand s → (q : ℕ) → q ≤ s.world.count → q ≢ p → s.heard q p ≡ s.world.incarnation p
  heard-life s h q a n =
      let l : s.world.incarnation p ≡ s.stored p = h.aged.plain.settled p (ap runs h.live) in
      let t : has_told s p q ≡ true = ap (λ x. at_stage x (is_some (s.told p q))) h.live in
      let u : has_told s q p ≡ true = ap (λ x. at_stage x (is_some (s.told q p))) (h.awake q a n).0 in
      elim (h.aged.knows p q a (λ e. n (sym e)) t) [ inl e ↦ e.0 ∙ sym l | inr b ↦ elim (h.aged.knows q p h.node.1 n u) [ inl e ↦ e.1 ∙ sym l | inr d ↦ absurd (omega arith) ] ]

  -- it still restores its numbers from the others
  abbrev Fewer : ℕ → Cluster → Cluster → Type 0
  Fewer q s t = Kept s t × (t.world.phase p ≡ phase_with (without (todo_of (s.world.phase p)) q))

  -- q, which is up, obeyed its Resume
  abbrev Obeyed : ℕ → Cluster → Cluster → Type 0
  Obeyed q s t = Kept s t × (t.greeted p ≡ s.greeted p) × (t.world.phase p ≡ s.world.phase p) × (t.resumed q p ≡ true)

  not-busy : (c : Cluster) (q : ℕ) → c.world.phase q ≡ Up → (m : Message) → c.world.phase q ≡ Busy m → ⊥
  not-busy c q w m e = let t : false ≡ true = ap is_busy (sym w ∙ e) in cc

  module _ (s : Cluster) (h : Stand s) (un : is_well s p ≡ false) (q : ℕ) (a : q ≤ s.world.count) (n : q ≢ p) (well : is_well s q ≡ true) where
    abbrev resume : Body
    resume = Resume (s.world.incarnation p) (length (s.world.history p)) (s.restoring p q)

    abbrev asked : Cluster
    asked = goes s (Acts true (Puts p q resume))

    obeys : Goes s (Obeyed q s)
    obeys = go-first s (Obeyed q s) (Acts true (Puts p q resume)) may (refl, λ _ _. refl) (split (s.resumed q p) refl)
      where
        may : MayStep s (Acts true (Puts p q resume))
        may = (((h.node.1, a, (λ e. n (sym e)), (h.live, un, refl, refl, refl)), tt), tt)

        aged : Aged born now asked
        aged = step-aged born now s (Acts true (Puts p q resume)) refl h.aged may

        split : (b : Bool) → s.resumed q p ≡ b → Goes asked (Obeyed q s)
        split true e = ([], tt, tt, (record { aged = aged; count = refl; stage = λ r. refl; greeted = λ r _. refl; phase = λ r _. refl; lost = λ r. refl }, refl, refl, e))
        split false e =
            let w = h.awake q a n in
            let up : s.world.phase q ≡ Up = w.1 well in
            let g : s.greeted q ≡ true = (well-is s q well).1 in
            let m : MayStep asked (Acts true (Arrives p q resume)) = (((inl refl, ((rw (w.0, g, up) refl), sym (heard-life s h q a n), e, (λ x f. absurd (not-busy s q up x f)))), tt), tt) in
            let later : Aged born now (goes asked (Acts true (Arrives p q resume))) = step-aged born now asked (Acts true (Arrives p q resume)) refl aged m in
            go-last asked (Obeyed q s) (Acts true (Arrives p q resume)) m (refl, λ _ _. refl)
            (record { aged = later; count = refl; stage = λ r. refl; greeted = λ r _. refl; phase = λ r _. refl; lost = λ r. refl }, refl, refl, put2-same s.resumed q p true)

    -- what it answers then
    abbrev answer : Body
    answer = Restored (s.world.incarnation p) (s.world.incarnation q) (covered s.world p q) (s.restoring p q) None (rsn_of (s.world.history q) p)

    may-answer : s.resumed q p ≡ true → MayStep s (Acts true (Puts q p answer))
    may-answer e =
        let up : s.world.phase q ≡ Up = (h.awake q a n).1 well in
        (((a, h.node.1, n, (well, sym (heard-life s h q a n), e, (λ m f. absurd (not-busy s q up m f)), refl, refl, (λ v f. absurd (let z : None ≡ Some v = f in cc)), (λ ssn _ _. refl))), tt), tt)

    low : s.heard p q ≤ s.world.incarnation q
    low = let l : s.heard p q ≤ s.stored q = h.aged.plain.low p q in let e : s.world.incarnation q ≡ s.stored q = h.aged.plain.settled q (ap runs (h.awake q a n).0) in omega arith

    abbrev told : Cluster
    told = goes s (Acts true (Puts q p answer))

    abbrev taken : Cluster
    taken = goes told (Acts (s.exact q) (Arrives q p answer))

    -- and p takes in
    answers : s.resumed q p ≡ true → (P : Cluster → Type 0) → MayTake told q p answer → (Aged born now taken → P taken) → Goes s P
    answers e P take more =
        let first : Aged born now told = step-aged born now s (Acts true (Puts q p answer)) refl h.aged (may-answer e) in
        let m : MayStep told (Acts (s.exact q) (Arrives q p answer)) = (((inl refl, take), tt), inl refl) in
        go-first s P (Acts true (Puts q p answer)) (may-answer e) (refl, λ _ _. refl)
        (go-last told P (Acts (s.exact q) (Arrives q p answer)) m (refl, λ _ _. refl) (more (step-aged born now told (Acts (s.exact q) (Arrives q p answer)) refl first m)))

  -- of another node
  restores-one : (s : Cluster) (h : Stand s) (un : is_well s p ≡ false) (q : ℕ) (a : q ≤ s.world.count) (n : q ≢ p) (well : is_well s q ≡ true)
      → s.resumed q p ≡ true → IsNode s q → has (todo_of (s.world.phase p)) q ≡ true → Goes s (Fewer q s)
  restores-one s h un zero a n well e other todo = absurd (let l : 0 < 0 = other.0 in omega arith)
  restores-one s h un (suc v) a n well e other todo =
      let q : ℕ = suc v in
      let x : Phase = phase_with (without (todo_of (s.world.phase p)) q) in
      answers s h un (suc v) a n well e (Fewer q s) (other, h.live, refl, todo, refl, low s h un (suc v) a n well)
      (λ aged. (record { aged = aged; count = refl; stage = λ r. refl; greeted = λ r _. refl; phase = put-other s.world.phase p x; lost = λ r. refl }, put-same s.world.phase p x))

  -- the gateway greets it
  abbrev Greeted : Cluster → Cluster → Type 0
  Greeted s t = Kept s t × (t.greeted p ≡ true) × (t.world.phase p ≡ s.world.phase p)

  gate-other : (s : Cluster) → Stand s → 0 ≢ p
  gate-other s h e = let l : 0 < p = h.node.0 in omega arith

  gate-well : (s : Cluster) → Stand s → is_well s 0 ≡ true
  gate-well s h = let g = h.aged.plain.gateway in rw (g.0, g.1, g.2) refl

  greets-one : (s : Cluster) (h : Stand s) (un : is_well s p ≡ false) → s.greeted p ≡ false → is_up (s.world.phase p) ≡ true → s.resumed 0 p ≡ true → Goes s (Greeted s)
  greets-one s h un g up e =
      answers s h un 0 (omega arith) (gate-other s h) (gate-well s h) e (Greeted s) (h.live, refl, g, not-replaying (s.world.phase p) up)
      (λ aged. (record { aged = aged; count = refl; stage = λ r. refl; greeted = put-other s.greeted p true; phase = λ r _. refl; lost = λ r. refl }, put-same s.greeted p true, refl))
    where
      not-replaying : (x : Phase) → is_up x ≡ true → is_replaying x ≡ false
      not-replaying Up e = refl
      not-replaying (Busy m) e = refl
      not-replaying Down e = refl
      not-replaying (Replaying j w a) e = absurd (cc)
      not-replaying (Resync rs) e = refl

  kept-here : (s : Cluster) → Stand s → Kept s s
  kept-here s h = record { aged = h.aged; count = refl; stage = λ r. refl; greeted = λ r _. refl; phase = λ r _. refl; lost = λ r. refl }

  -- it finishes the message that it works on
  finish : (s : Cluster) → Stand s → s.greeted p ≡ true → is_up (s.world.phase p) ≡ true → Goes s (Raised s)
  finish s h g up = split (s.world.phase p) refl up
    where
      split : (x : Phase) → s.world.phase p ≡ x → is_up x ≡ true → Goes s (Raised s)
      split Up e u = ([], tt, tt, (kept-here s h, (rw (h.live, g, e) refl), e))
      split (Busy m) e u =
          let may : MayStep s (Acts true (Works p m)) = (((h.node, (rw (h.live, g, e) refl), e), tt), tt) in
          let there : put s.world.phase p Up p ≡ Up = put-same s.world.phase p Up in
          go-last s (Raised s) (Acts true (Works p m)) may (refl, λ _ _. refl) (
            record { aged = step-aged born now s (Acts true (Works p m)) refl h.aged may; count = refl; stage = λ r. refl; greeted = λ r _. refl; phase = λ r n. put-other s.world.phase p Up r n; lost = λ r. refl },
            is-well (goes s (Acts true (Works p m))) p (ap runs h.live) g (ap is_up there),
            there,
          )
      split x e u = absurd (cc)

  -- before that, the gateway answers
  lands : (s : Cluster) → Stand s → is_up (s.world.phase p) ≡ true → Goes s (Raised s)
  lands s h up = split (s.greeted p) refl
    where
      split : (b : Bool) → s.greeted p ≡ b → Goes s (Raised s)
      split true g = finish s h g up
      split false g =
          let un : is_well s p ≡ false = (rw (h.live, g) refl) in
          go-on s (Obeyed 0 s) (Raised s) (obeys s h un 0 (omega arith) (gate-other s h) (gate-well s h)) (λ t o.
          let v : is_well t p ≡ false = (rw (o.0.stage p, o.1, o.2) un) in
          go-on t (Greeted t) (Raised s) (greets-one t (stand-kept s t h o.0) v (o.1 ∙ g) (ap is_up o.2 ∙ up) o.3) (λ u r.
          let w : Kept s u = kept-kept s t u o.0 r.0 in
          go-on u (Raised u) (Raised s) (finish u (stand-kept s u h w) r.1 (ap is_up r.2 ∙ ap is_up o.2 ∙ up)) (λ x y. ([], tt, tt, (kept-kept s u x w y.0, y.1, y.2)))))

  -- and before that each of those from which it restores its numbers, or it leaves that one
  fewer : (s : Cluster) → Stand s → (q : ℕ) → has (todo_of (s.world.phase p)) q ≡ true → is_up (s.world.phase p) ≡ false → Goes s (Fewer q s)
  fewer s h q todo down = split (is_well s q) refl
    where
      split : (b : Bool) → is_well s q ≡ b → Goes s (Fewer q s)
      split true w =
          let that = h.aged.plain.todo p q todo in
          let un : is_well s p ≡ false = unphased (runs (s.stage p)) (s.greeted p) (is_up (s.world.phase p)) down in
          go-on s (Obeyed q s) (Fewer q s) (obeys s h un q that.0.1 that.1 w) (λ t o.
          let same : t.world.count ≡ s.world.count = o.0.count in
          let l : q ≤ s.world.count = that.0.1 in
          let v : is_well t p ≡ false = (rw (o.0.stage p, o.1, o.2) un) in
          let here : has (todo_of (t.world.phase p)) q ≡ true = ap (λ x. has (todo_of x) q) o.2 ∙ todo in
          go-on t (Fewer q t) (Fewer q s) (restores-one t (stand-kept s t h o.0) v q (omega arith) that.1 (well-kept s t o.0 q that.1 ∙ w) o.3 (that.0.0, omega arith) here) (λ u r.
          ([], tt, tt, (kept-kept s t u o.0 r.0, r.1 ∙ ap (λ x. phase_with (without (todo_of x) q)) o.2))))
      split false w =
          let that = h.aged.plain.todo p q todo in
          let m : MayStep s (Leaves p q) = ((h.live, todo), h.lost q that.0.1 that.1 w) in
          go-last s (Fewer q s) (Leaves p q) m (refl, λ r o. absurd (two-down s p q r that.1 h.node.1 that.0.1 (unphased (runs (s.stage p)) (s.greeted p) (is_up (s.world.phase p)) down) w o)) (
            record { aged = step-aged born now s (Leaves p q) refl h.aged m; count = refl; stage = λ r. refl; greeted = λ r _. refl; phase = λ r n. put-other s.world.phase p (phase_with (without (todo_of (s.world.phase p)) q)) r n; lost = λ r. refl },
            put-same s.world.phase p (phase_with (without (todo_of (s.world.phase p)) q)),
          )

  restores : (k : ℕ) (s : Cluster) → Stand s → (rs : List ℕ) → length rs ≤ k → s.world.phase p ≡ phase_with rs → Goes s (Raised s)
  restores k s h [] l e = lands s h (ap is_up e)
  restores zero s h (q ∷ rs) l e = absurd (omega arith)
  restores (suc k) s h (q ∷ rs) l e =
      let todo : todo_of (s.world.phase p) ≡ q ∷ rs = ap todo_of e in
      let me : (q == q) ≡ true = grind (arith, nat_tests) in
      let it : has (todo_of (s.world.phase p)) q ≡ true = ap (λ xs. has xs q) todo ∙ (rw me refl) in
      let less : length (without (q ∷ rs) q) ≤ length rs = rw me (without-shorter rs q) in
      let P : List ℕ → Type 0 = λ xs. length (without xs q) ≤ length rs in
      let m : length (without (todo_of (s.world.phase p)) q) ≤ length rs = subst P (sym todo) less in
      go-on s (Fewer q s) (Raised s) (fewer s h q it (ap is_up e)) (λ t r.
      go-on t (Raised t) (Raised s) (restores k t (stand-kept s t h r.0) (without (todo_of (s.world.phase p)) q) (omega arith) r.1) (λ u x. ([], tt, tt, (kept-kept s t u r.0 x.0, x.1, x.2))))

  -- and before that it replays
  abbrev Replayed : ℕ → Cluster → Cluster → Type 0
  Replayed j s d =
      record {
        count : d.world.count ≡ s.world.count;
        stage : (r : ℕ) → d.stage r ≡ s.stage r;
        greeted : (r : ℕ) → d.greeted r ≡ s.greeted r;
        phase : (r : ℕ) → r ≢ p → d.world.phase r ≡ s.world.phase r;
        history : length (d.world.history p) ≡ length (s.world.history p);
        saved : d.world.saved p ≡ s.world.saved p;
        next : ((s.world.saved p + suc j < length (s.world.history p)) × (d.world.phase p ≡ Replaying (suc j) false false)) ⊎ (d.world.phase p ≡ phase_with (peers s.world p false));
      }

  replays-one : (s : Cluster) → Stand s → (j : ℕ) → s.world.phase p ≡ Replaying j false false → Goes s (λ t. Aged born now t × Replayed j s t × ((q : ℕ) → t.lost p q ≡ s.lost p q))
  replays-one s h j e =
      let m : MayStep s (Acts true (Replays p j)) = (((h.node, h.live, e), tt), tt) in
      go-first s (λ t. Aged born now t × Replayed j s t × ((q : ℕ) → t.lost p q ≡ s.lost p q)) (Acts true (Replays p j)) m (refl, λ _ _. refl)
      ([], tt, tt, (step-aged born now s (Acts true (Replays p j)) refl h.aged m, split (nat_lt (s.world.saved p + suc j) (length (s.world.history p))) refl, λ q. refl))
    where
      turned : (x : Phase) → ((s.world.saved p + suc j < length (s.world.history p)) × (x ≡ Replaying (suc j) false false)) ⊎ (x ≡ phase_with (peers s.world p false)) → Replayed j s (record s { world = record s.world { phase = put s.world.phase p x } })
      turned x n =
          record {
            count = refl;
            stage = λ r. refl;
            greeted = λ r. refl;
            phase = λ r o. put-other s.world.phase p x r o;
            history = refl;
            saved = refl;
            next = elim n [ inl f ↦ inl (f.0, put-same s.world.phase p x ∙ f.1) | inr f ↦ inr (put-same s.world.phase p x ∙ f) ];
          }

      split : (b : Bool) → nat_lt (s.world.saved p + suc j) (length (s.world.history p)) ≡ b → Replayed j s (if b then record s { world = record s.world { phase = put s.world.phase p (Replaying (suc j) false false) } } else goes_on s p (peers s.world p false))
      split true f = turned (Replaying (suc j) false false) (inl ((grind (arith, nat_tests)), refl))
      split false f = turned (phase_with (peers s.world p false)) (inr refl)

  replays-on : (s : Cluster) → Stand s → (j : ℕ) → s.world.phase p ≡ Replaying j false false
      → ((t : Cluster) → Replayed j s t → Stand t → s.world.saved p + suc j < length (s.world.history p) → t.world.phase p ≡ Replaying (suc j) false false → Goes t (Raised t)) → Goes s (Raised s)
  replays-on s h j e more =
      go-on s (λ t. Aged born now t × Replayed j s t × ((q : ℕ) → t.lost p q ≡ s.lost p q)) (Raised s) (replays-one s h j e) (λ t r.
      let w : Kept s t = record { aged = r.0; count = r.1.count; stage = r.1.stage; greeted = λ x _. r.1.greeted x; phase = r.1.phase; lost = r.2 } in
      go-on t (Raised t) (Raised s) (elim r.1.next [ inl f ↦ more t r.1 (stand-kept s t h w) f.0 f.1 | inr f ↦ restores (length (peers s.world p false)) t (stand-kept s t h w) (peers s.world p false) (omega arith) f ])
      (λ u x. ([], tt, tt, (kept-kept s t u w x.0, x.1, x.2))))

  replays : (k : ℕ) (s : Cluster) → Stand s → (j : ℕ) → length (s.world.history p) ≤ s.world.saved p + j + k → s.world.phase p ≡ Replaying j false false → Goes s (Raised s)
  replays zero s h j l e = replays-on s h j e (λ t r g b f. absurd (omega arith))
  replays (suc k) s h j l e = replays-on s h j e (λ t r g b f.
      let n : length (t.world.history p) ≡ length (s.world.history p) = r.history in
      let m : t.world.saved p ≡ s.world.saved p = r.saved in
      replays k t g (suc j) (omega arith) f)

  -- wherever it is
  pub raise : (s : Cluster) → Stand s → Goes s (Raised s)
  raise s h = split (s.world.phase p) refl (h.aged.plain.sound p)
    where
      split : (x : Phase) → s.world.phase p ≡ x → IsSound x → Goes s (Raised s)
      split Up e o = lands s h (ap is_up e)
      split (Busy m) e o = lands s h (ap is_up e)
      split Down e o = absurd (o)
      split (Replaying j w a) e o = at w a e o
        where
          at : (w a : Bool) → s.world.phase p ≡ Replaying j w a → (w ≡ false) × (a ≡ false) → Goes s (Raised s)
          at false false e o = replays (length (s.world.history p)) s h j (omega arith) e
          at true a e o = absurd (let z : true ≡ false = o.0 in cc)
          at false true e o = absurd (let z : true ≡ false = o.1 in cc)
      split (Resync []) e o = absurd (o)
      split (Resync (q ∷ rs)) e o = restores (length (q ∷ rs)) s h (q ∷ rs) (omega arith) e
