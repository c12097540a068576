-- A process that has replayed asks its peers
use Rattle.std.proofs.Common.{◌≡◌, ◌≢◌, ℕ, zero, suc, ◌+◌, ◌<◌, ◌≤◌, List, [], ◌∷◌, Bool, true, false, refl, sym, ap, ◌∙◌, subst, arith}
use Rattle.std.specs.Prelude.{not, slice_index_or, slice_set, ◌&&◌, ◌==◌, nat_lt, if◌then◌else◌}
use Rattle.std.proofs.lemmas.Bool.Decides.{nat_tests}
use Rattle.std.proofs.lemmas.List.{get_or-replicate, get_or-set_other}
use Rattle.world.specs.Phases.{Phase, todo_of, has, without, those}
use Rattle.world.specs.World.{World, put}
use Rattle.world.specs.Logs.{sent_in_all}
use Rattle.world.specs.Calls.{phase_with, released_with}
use Rattle.theorems.proofs.Changes.{at-itself}
use Rattle.cluster.specs.Cluster.{Cluster}
use Rattle.cluster.specs.Overlap.{Leaves, goes}
use Rattle.node.specs.Node.{log_at}
use Rattle.cluster.proofs.Goes.{goes-self, goes-one, goes-then, goes-any}
use Rattle.recovery.specs.Stands.{GoesTo}
use Rattle.recovery.specs.Replayed.{TheReplayed, StandsReplayed}
use Rattle.recovery.specs.Restoration.{TheRestoring, has_answered, left, begins, begun}
use Rattle.recovery.specs.RestorationStands.{StandsRestoring, Begins}
use Rattle.recovery.proofs.Left.{both-off, has-is, those-same, todo-is, without-those}
use Rattle.recovery.proofs.Notes.{each-none}
use Rattle.recovery.proofs.Posts.{own-with}
use Rattle.recovery.proofs.RestorationInquiries.{At, asking, only-below}

-- of the cluster c only the phase of p and what it released changed, and p waits for these peers
record Waits (c : Cluster) (p : ℕ) (ps : List ℕ) (e : Cluster) : Type 0 where
  ph : ℕ → Phase
  rel : ℕ → ℕ → ℕ
  is : e ≡ record c { world = record c.world { phase = ph; released = rel } }
  phase : ph p ≡ phase_with ps
  released : ps ≡ [] → (d : ℕ) → rel p d ≡ sent_in_all c.world p d

-- it leaves one of them
leaves-one : (c : Cluster) (p : ℕ) (ps : List ℕ) (ph : ℕ → Phase) (rel : ℕ → ℕ → ℕ) (q : ℕ) → ph p ≡ phase_with ps → Waits c p (without ps q) (goes (record c { world = record c.world { phase = ph; released = rel } }) (Leaves p q))
leaves-one c p ps ph rel q phase =
    let rest : List ℕ = without (todo_of (ph p)) q in
    let same : rest ≡ without ps q = ap (λ x. without (todo_of x) q) phase ∙ ap (λ x. without x q) (todo-is ps) in
    let w : World = record c.world { phase = ph; released = rel } in
    record {
      ph = put ph p (phase_with rest);
      rel = put rel p (released_with w p rest);
      is = refl;
      phase = at-itself p (λ b. (if b then phase_with rest else ph p) ≡ phase_with (without ps q)) (ap phase_with same);
      released = λ none k. at-itself p (λ b. (if b then released_with w p rest else rel p) k ≡ sent_in_all c.world p k) (ap (λ x. released_with w p x k) (same ∙ none));
    }

-- a place that is set to on is on, or past the end
set-on : (xs : List Bool) (i : ℕ) → slice_index_or (slice_set xs i true) i true ≡ true
set-on [] i = refl
set-on (x ∷ xs) zero = refl
set-on (x ∷ xs) (suc i) = set-on xs i

module _ (r : TheReplayed) (c : Cluster) (s : StandsReplayed r c r.own.me) where
  abbrev p : ℕ
  p = r.own.me

  abbrev n : TheRestoring
  n = begins r

  abbrev count : ℕ
  count = c.world.count

  some : 0 < p
  some = s.own.inside.0

  alone : has_answered p n ≡ true
  alone = set-on r.own.lost p

  other-is : (q : ℕ) → q ≢ p → has_answered q n ≡ slice_index_or r.own.lost q true
  other-is q apart = get_or-set_other r.own.lost p q true true apart

  gateway : has_answered 0 n ≡ false
  gateway = other-is 0 (λ e. absurd (omega (arith, e, some))) ∙ s.own.greets

  -- after the first d nodes: a peer that didn't lose what it had, or is none of these
  abbrev waits : ℕ → ℕ → Bool
  waits d q = not (q == p) && not (nat_lt q d && has_answered q n)

  waits-next : (d q : ℕ) → q ≢ d → waits (suc d) q ≡ waits d q
  waits-next d q other = let e : nat_lt q (suc d) ≡ nat_lt q d = grind (arith, nat_tests) in rw e refl

  abbrev AtFirst : ℕ → Cluster → Type 0
  AtFirst d = Waits c p (those (waits d) count)

  -- who waits for the same goes on as it is
  still : (d : ℕ) (e : Cluster) → waits d d ≡ waits (suc d) d → AtFirst d e → GoesTo r.own.exact p (AtFirst (suc d)) e
  still d e here t = goes-self r.own.exact p (AtFirst (suc d)) e (subst (λ ps. Waits c p ps e) (those-same (waits d) (waits (suc d)) count (λ q above under. each q (q == d) refl)) t)
    where
      each : (q : ℕ) (b : Bool) → (q == d) ≡ b → waits d q ≡ waits (suc d) q
      each q true z = let same : d ≡ q = grind (arith, nat_tests) in let P : ℕ → Type 0 = λ y. waits d y ≡ waits (suc d) y in subst P same here
      each q false z = let other : q ≢ d = grind (arith, nat_tests) in sym (waits-next d q other)

  step : (d : ℕ) → d ≤ count → (e : Cluster) → AtFirst d e → GoesTo r.own.exact p (AtFirst (suc d)) e
  step d under e t = split (has_answered d n) refl (d == p) refl
    where
      split : (b : Bool) → has_answered d n ≡ b → (x : Bool) → (d == p) ≡ x → GoesTo r.own.exact p (AtFirst (suc d)) e
      split false unanswered x z = still d e (rw (unanswered, both-off (nat_lt d d), both-off (nat_lt d (suc d))) refl) t
      split true gone true z = still d e (rw z refl) t
      split true was false z =
          let apart : d ≢ p = grind (arith, nat_tests) in
          let P : ℕ → Type 0 = λ y. has_answered y n ≡ true in
          let none : d ≢ 0 = λ y. (let on : has_answered 0 n ≡ true = subst P y was in absurd (cc (on, gateway))) in
          let lost : slice_index_or r.own.lost d true ≡ true = sym (other-is d apart) ∙ was in
          let same : nat_lt d d ≡ false = grind (arith, nat_tests) in
          let next : nat_lt d (suc d) ≡ true = grind (arith, nat_tests) in
          let here : waits d d ≡ true = rw (z, same) refl in
          let gone : waits (suc d) d ≡ false = rw (z, next, was) refl in
          let to_do : has (todo_of (t.ph p)) d ≡ true = ap (λ x. has (todo_of x) d) t.phase ∙ ap (λ x. has x d) (todo-is (those (waits d) count)) ∙ has-is (waits d) count d (omega (arith, none)) under ∙ here in
          subst (GoesTo r.own.exact p (AtFirst (suc d))) (sym t.is)
          (goes-one r.own.exact p (AtFirst (suc d)) (record c { world = record c.world { phase = t.ph; released = t.rel } }) (Leaves p d) ((s.stage, to_do), s.own.lost d under ∙ lost) refl (λ exact. absurd (let off = s.own.sure exact d under in cc (lost, off)))
          (let P : List ℕ → Type 0 = λ ps. Waits c p ps (goes (record c { world = record c.world { phase = t.ph; released = t.rel } }) (Leaves p d)) in
          subst P (without-those (waits d) (waits (suc d)) count d (waits-next d) gone) (leaves-one c p (those (waits d) count) t.ph t.rel d t.phase)))

  leaving : (d : ℕ) → d ≤ suc count → GoesTo r.own.exact p (AtFirst d) c
  leaving zero l = goes-self r.own.exact p (AtFirst 0) c
      (subst (λ ps. Waits c p ps c) (those-same (λ q. not (q == p) && true) (waits 0) count (λ q above under. (let e : nat_lt q 0 ≡ false = grind (arith, nat_tests) in rw e refl)))
      (record { ph = c.world.phase; rel = c.world.released; is = refl; phase = s.phase; released = s.released }))
  leaving (suc d) l = goes-then r.own.exact p (AtFirst d) (AtFirst (suc d)) c (leaving d (omega (arith, l))) (λ e t. step d (omega (arith, l)) e t)

  left-is : those (waits (suc count)) count ≡ left n
  left-is = those-same (waits (suc count)) (λ q. not (has_answered q n)) count (λ q above under. each q under (q == p) refl) ∙ ap (those (λ q. not (has_answered q n))) (sym s.own.count)
    where
      each : (q : ℕ) → q ≤ count → (b : Bool) → (q == p) ≡ b → waits (suc count) q ≡ not (has_answered q n)
      each q l true e =
          let same : p ≡ q = grind (arith, nat_tests) in
          let P : ℕ → Type 0 = λ z. has_answered z n ≡ true in
          let is : has_answered q n ≡ true = subst P same alone in
          rw (e, is) refl
      each q l false e = let inside : nat_lt q (suc count) ≡ true = grind (arith, nat_tests) in rw (e, inside) refl

  stands-begun : (e : Cluster) → AtFirst (suc count) e → StandsRestoring n e p
  stands-begun e t =
      let d : Cluster = record c { world = record c.world { phase = t.ph; released = t.rel } } in
      subst (At n p) (sym t.is) (record {
        stage = s.stage;
        greeted = s.greeted ∙ sym gateway;
        phase = t.phase ∙ ap phase_with left-is;
        life = s.life;
        own = own-with r.own c d p _ refl refl refl refl (λ x i. i) (λ f i. i) s.own s.own.logs s.own.held s.own.heard s.own.exact s.own.lost s.own.sure s.own.greets s.own.out;
        received = s.received;
        acknowledged = s.acknowledged;
        known = λ d l o. (let k = s.own.logs d l o in each-none (log_at r.own.logs d).numbers (λ i inside. k.numbers_are i (omega (arith, inside, k.as_many)) ∙ s.numbers d (suc ((log_at r.own.logs d).dropped + i))));
        fresh = λ q ssn l open_is above. s.numbers q ssn;
        resumed = s.resumed;
        restoring = λ q l. s.restoring q ∙ sym (get_or-replicate (r.own.count + 1) q 0 0 (omega (arith, l, s.own.count)));
        released = λ none d. t.released (left-is ∙ none) d;
      })

  goes-begun : GoesTo (begun r).own.exact p (At (begun r) p) c
  goes-begun =
      let same : (begun r).own.exact ≡ r.own.exact = ap (λ (z : TheRestoring). z.own.exact) (only-below n (r.own.count + 1)) in
      goes-then (begun r).own.exact p (At n p) (At (begun r) p) c
      (goes-any r.own.exact (begun r).own.exact p (At n p) c (λ z. sym same ∙ z) (goes-then r.own.exact p (AtFirst (suc count)) (At n p) c (leaving (suc count) (omega arith)) (λ e t. goes-self r.own.exact p (At n p) e (stands-begun e t))))
      (λ e t. asking n alone e t tt)

pub beginning : (r : TheReplayed) → Begins r (begun r)
beginning r c s = goes-begun r c s
