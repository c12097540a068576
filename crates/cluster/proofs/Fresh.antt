-- What a node that collects is told bears numbers that it gave since its checkpoint
use Rattle.std.proofs.Common.{◌≡◌, ◌≢◌, ◌⊎◌, inl, inr, ℕ, zero, suc, ◌+◌, ◌<◌, ◌≤◌, List, [], ◌∷◌, ◌++◌, length, drop, Bool, true, false, refl, sym, ap, ◌∙◌, subst, arith}
use Rattle.std.specs.Prelude.{Option, Some, None, is_some, ◌&&◌, ◌==◌, nat_lt, nat_le, if◌then◌else◌}
use Rattle.std.proofs.lemmas.Bool.Decides.{nat_tests}
use Rattle.world.specs.declared.message.Message.{Message}
use Rattle.world.specs.History.{nth, rsn_of}
use Rattle.world.specs.Phases.{Up, is_up, todo_of, has}
use Rattle.world.specs.World.{put}
use Rattle.world.specs.Logs.{sent}
use Rattle.world.specs.Bounds.{count_below}
use Rattle.world.specs.Plan.{logged_as}
use Rattle.world.specs.Calls.{up_to}
use Rattle.theorems.specs.Invariants.Exact.{Names}
use Rattle.theorems.proofs.Changes.{choose}
use Rattle.theorems.proofs.HistoryLemmas.{names-found}
use Rattle.theorems.proofs.ListLemmas.{nth-take}
use Rattle.theorems.proofs.PhaseLemmas.{resync-phase}
use Rattle.theorems.proofs.PlanLemmas.{first_below-at, logged_as-at}
use Rattle.theorems.proofs.Recoveries.{up_to-is}
use Rattle.theorems.proofs.Tests.{both}
use Rattle.cluster.specs.Parcels.{Body, Delivery, Number, Ask, Told, Resume, Restored, Parcel, parcel, In, reaches}
use Rattle.cluster.specs.Cluster.{Stage, Live, Frozen, Dead, Collecting, Collected, Cluster, opening, runs, is_well}
use Rattle.cluster.specs.Rules.{Act, Puts, Arrives, Works, Replays, Recovers, Freezes, Keeps, Thaws, Dies, Opens, MayPut, May, does, Asks, entry_of, entry_in, with_page, entered, taken_back, kept_by, put2, Run, after_run}
use Rattle.cluster.specs.Memory.{receipts, how_many, is_of, counts, taken_since, holds, ToldIsNew}
use Rattle.cluster.specs.Inside.Agrees.{Beside, world, restored_so_far, is_back, Agrees}
use Rattle.cluster.proofs.Worlds.{Lawful}
use Rattle.cluster.proofs.Facts.{choose2, takes-is, is-well, well-back, back-answered, true-not-false, not-well-collecting}
use Rattle.cluster.proofs.Growth.{either-way}
use Rattle.cluster.proofs.RecoveryPoint.{kept-is}
use Rattle.cluster.proofs.Records.{names}
use Rattle.cluster.proofs.MemoryLemmas.{receipts-step}
use Rattle.cluster.proofs.Settings.{does-count}
use Rattle.cluster.proofs.Runs.{Holds, opens-holds, step-holds, run-count}
use Rattle.cluster.proofs.NumberCounts.{few-numbers}

-- what a peer q told, to one whose checkpoint covers so many: numbers of these messages of q behind those
abbrev IsOf : ℕ → List Message → ℕ → Option Collected → Type 0
IsOf saved took q None = Unit {0}
IsOf saved took q (Some t) = record { past : (v : ℕ) → t.upto ≡ Some v → saved < v; names : (m : ℕ) (x : Message) → reaches t.upto m ≡ true → t.entries m ≡ Some x → (saved < m) × Names took m q x.ssn }

-- whether it is what is told to one that collects
abbrev is_told : Body → Bool
is_told (Told i j k u f) = true
is_told x = false

module _ (p : ℕ) where
  -- p has no others than these messages; each number that a log has for p behind its checkpoint is of one of them; and so is each
  -- that was told to p, which collects, or that it has collected
  abbrev pub Of : Cluster → ℕ → List Message → Type 0
  Of c saved took =
      record {
        begins : (m : ℕ) (x : Message) → nth (c.world.history p) m ≡ Some x → nth took m ≡ Some x;
        numbers : (q ssn m : ℕ) → q ≤ c.world.count → q ≢ p → c.world.numbers q p ssn ≡ Some m → saved < m → Names took m q ssn;
        told : (q i j k : ℕ) (u : Option ℕ) (f : ℕ → Option Message) → In (parcel q p (Told i j k u f)) c.parcels → c.stage p ≡ Collecting → i ≡ c.stored p
            → ((v : ℕ) → u ≡ Some v → k < v) × ((m : ℕ) (x : Message) → k < m → reaches u m ≡ true → f m ≡ Some x → saved < m → Names took m q x.ssn);
        collected : (q : ℕ) → c.stage p ≡ Collecting → IsOf saved took q (c.told p q);
      }

  -- there are such messages, and behind its checkpoint p has taken no fewer since
  abbrev pub Fresh : Cluster → ((Message → Bool) → ℕ) → Type 0
  Fresh c k =
      record {
        took : List Message;
        of : Of c (c.world.saved p) took;
        few : (test : Message → Bool) → how_many test (drop (c.world.saved p) took) ≤ k test;
        new : (test : Message → Bool) → how_many test (receipts c p) ≤ k test;
        frozen : (q : ℕ) → c.stage q ≡ Frozen → c.greeted q ≡ true;
      }

  names-more : (c : Cluster) (saved : ℕ) (took : List Message) → Of c saved took → (m q ssn : ℕ) → Names (c.world.history p) m q ssn → Names took m q ssn
  names-more c saved took h m q ssn n = record { message = n.message; at = h.begins m n.message n.at; sender = n.sender; ssn = n.ssn }

  module _ (c : Cluster) (b : Beside) (agrees : Agrees c b) (lawful : Lawful (world c b)) where
    -- where p is up, these are the messages that it received
    of-well : p ≤ c.world.count → is_well c p ≡ true → Of c (c.world.saved p) (c.world.history p)
    of-well pa well =
        record {
          begins = λ m x e. e;
          numbers = λ q ssn m qa ne e low. elim (agrees.numbered.logged q p ssn m qa pa ne e) [
            | inl y ↦ lawful.exact.recorded q p ssn m y
            | inr (inl y) ↦ absurd (true-not-false (back-answered c p q (well-back c p well)) y.0)
            | inr (inr (inl y)) ↦ absurd (omega arith)
            | inr (inr (inr y)) ↦ so-far q ssn m (sym (agrees.numbered.partly q p ssn y) ∙ e)
          ];
          told = λ q i j k u f a s e. absurd (collecting s);
          collected = λ q s. absurd (collecting s);
        }
      where
        collecting : c.stage p ≡ Collecting → ⊥
        collecting s = true-not-false well (not-well-collecting c b agrees p s)

        so-far : (q ssn m : ℕ) → restored_so_far c q p ssn ≡ Some m → Names (c.world.history p) m q ssn
        so-far q ssn m = split (nat_lt 0 ssn && nat_le ssn (c.restoring q p))
          where
            split : (t : Bool) → (if t then rsn_of (c.world.history p) q ssn else None) ≡ Some m → Names (c.world.history p) m q ssn
            split true g = names-found (c.world.history p) q ssn m g
            split false g = absurd (cc)

    module _ (took : List Message) (h : Of c (c.world.saved p) took) where
      -- other numbers in logs: each was there, or names what p received
      numbered : (numbers : ℕ → ℕ → ℕ → Option ℕ) → ((q ssn m : ℕ) → numbers q p ssn ≡ Some m → (c.world.numbers q p ssn ≡ Some m) ⊎ Names (c.world.history p) m q ssn) → (q ssn m : ℕ) → q ≤ c.world.count → q ≢ p → numbers q p ssn ≡ Some m → c.world.saved p < m → Names took m q ssn
      numbered numbers old q ssn m qa ne e low = elim (old q ssn m e) [ inl y ↦ h.numbers q ssn m qa ne y low | inr y ↦ names-more c (c.world.saved p) took h m q ssn y ]

      -- a page that is put out
      puts : (r d : ℕ) (x : Body) → May c (Puts r d x) → Of (does c (Puts r d x)) (c.world.saved p) took
      puts r d x may =
          record { begins = h.begins; numbers = h.numbers; told = λ q i j k u f a s e. elim a [ inl y ↦ page q i j k u f y | inr y ↦ h.told q i j k u f y s e ]; collected = h.collected }
        where
          page : (q i j k : ℕ) (u : Option ℕ) (f : ℕ → Option Message) → parcel q p (Told i j k u f) ≡ parcel r d x → ((v : ℕ) → u ≡ Some v → k < v) × ((m : ℕ) (y : Message) → k < m → reaches u m ≡ true → f m ≡ Some y → c.world.saved p < m → Names took m q y.ssn)
          page q i j k u f y =
              let P : Parcel → Type 0 = λ z. (z.from ≤ c.world.count) × (z.to ≤ c.world.count) × (z.from ≢ z.to) × MayPut c z.from z.to z.body in
              let t : (q ≤ c.world.count) × (p ≤ c.world.count) × (q ≢ p) × MayPut c q p (Told i j k u f) = subst P (sym y) may in
              (t.3.3, λ m z above far g low. entry m q z t.0 t.2 low (sym (t.3.4 m above far) ∙ g))
            where
              entry : (m q : ℕ) (z : Message) → q ≤ c.world.count → q ≢ p → c.world.saved p < m → entry_of c q p m ≡ Some z → Names took m q z.ssn
              entry m q z qa ne low g =
                  let r = first_below-at (logged_as c.world p m q) (suc (length (sent c.world q p))) z g in
                  let t = logged_as-at c.world p m q r.0 z r.2 in
                  let P : ℕ → Type 0 = λ i. Names took m q i in
                  subst P (sym t.3) (h.numbers q r.0 m qa ne t.1 low)

      -- p is in another stage, and doesn't collect
      restages : (r : ℕ) (x : Stage) → (x ≡ Collecting → ⊥) → Of (record c { stage = put c.stage r x }) (c.world.saved p) took
      restages r x other =
          let back : put c.stage r x p ≡ Collecting → c.stage p ≡ Collecting = choose r (λ j t. (if t then x else c.stage j) ≡ Collecting → c.stage j ≡ Collecting) (λ e. absurd (other e)) (λ j _ e. e) p in
          record { begins = h.begins; numbers = h.numbers; told = λ q i j k u f a s e. h.told q i j k u f a (back s) e; collected = λ q s. h.collected q (back s) }

      records : (r s i ssn k : ℕ) → May c (Arrives r s (Number i ssn k)) → Of (does c (Arrives r s (Number i ssn k))) (c.world.saved p) took
      records r s i ssn k may =
          record {
            begins = h.begins;
            numbers = numbered (does c (Arrives r s (Number i ssn k))).world.numbers (λ x j m e. choose2 s r (λ y z t. (if t then put (c.world.numbers s r) ssn (Some k) else c.world.numbers y z) j ≡ Some m → (c.world.numbers y z j ≡ Some m) ⊎ Names (c.world.history z) m y j)
                (λ f. choose ssn (λ n t. (if t then Some k else c.world.numbers s r n) ≡ Some m → (c.world.numbers s r n ≡ Some m) ⊎ Names (c.world.history r) m s n)
                (λ g. let same : k ≡ m = cc in let P : ℕ → Type 0 = λ n. Names (c.world.history r) n s ssn in inr (subst P same (names c b r s i ssn k agrees lawful may))) (λ n _ g. inl g) j f)
                (λ y z _ f. inl f) x p e);
            told = λ q i' j k' u f a t e. elim a [ inl y ↦ absurd (let z : true ≡ false = ap (λ (x : Parcel). is_told x.body) y in cc) | inr y ↦ h.told q i' j k' u f y t e ];
            collected = h.collected;
          }

      -- what one told is forgotten
      hears : (u v i k : ℕ) → Of (does c (Arrives u v (Ask i k))) (c.world.saved p) took
      hears u v i k =
          record { begins = h.begins; numbers = h.numbers; told = h.told; collected = λ q s. forgets q ((p == v) && (q == u)) (h.collected q s) }
        where
          forgets : (q : ℕ) (t : Bool) → IsOf (c.world.saved p) took q (c.told p q) → IsOf (c.world.saved p) took q (if t then None else c.told p q)
          forgets q true y = tt
          forgets q false y = y

      -- one page more
      page-of : (q k : ℕ) (u : Option ℕ) (f : ℕ → Option Message) (o : Option Collected) → Asks (c.world.saved p) o k → IsOf (c.world.saved p) took q o → ((v : ℕ) → u ≡ Some v → k < v)
          → ((m : ℕ) (x : Message) → k < m → reaches u m ≡ true → f m ≡ Some x → c.world.saved p < m → Names took m q x.ssn) → IsOf (c.world.saved p) took q (Some (with_page o k u f))
      page-of q k u f o asks old ahead is = record { past = λ v e. let l : c.world.saved p ≤ k = low o asks old in let a : k < v = ahead v e in omega arith; names = λ m x far e. split (nat_le m k) m refl x far e }
        where
          low : (o : Option Collected) → Asks (c.world.saved p) o k → IsOf (c.world.saved p) took q o → c.world.saved p ≤ k
          low None asks old = omega arith
          low (Some t) asks old = let l : c.world.saved p < k = old.past k asks in omega arith

          before : (o : Option Collected) → Asks (c.world.saved p) o k → IsOf (c.world.saved p) took q o → (m : ℕ) (x : Message) → nat_le m k ≡ true → entry_in o m ≡ Some x → (c.world.saved p < m) × Names took m q x.ssn
          before None asks old m x l e = absurd (cc)
          before (Some t) asks old m x l e = old.names m x (rw asks l) e

          split : (t : Bool) → (m : ℕ) → nat_le m k ≡ t → (x : Message) → reaches u m ≡ true → (if t then entry_in o m else f m) ≡ Some x → (c.world.saved p < m) × Names took m q x.ssn
          split true m l x far e = before o asks old m x l e
          split false m l x far e = let a : k < m = grind (arith, nat_tests) in let z : c.world.saved p ≤ k = low o asks old in (omega arith, is m x a far e (omega arith))

      collects : (r v i j k : ℕ) (u : Option ℕ) (f : ℕ → Option Message) → May c (Arrives r v (Told i j k u f)) → Of (does c (Arrives r v (Told i j k u f))) (c.world.saved p) took
      collects r v i j k u f may =
          record { begins = h.begins; numbers = h.numbers; told = h.told; collected = collected }
        where
          here : v ≡ p → c.stage p ≡ Collecting → IsOf (c.world.saved p) took r (Some (with_page (c.told v r) k u f))
          here e s =
              let P : ℕ → Type 0 = λ x. In (parcel r x (Told i j k u f)) c.parcels × (i ≡ c.stored x) × Asks (c.world.saved x) (c.told x r) k in
              let t = subst P e (may.0, may.1.1, may.1.3) in
              let m = h.told r i j k u f t.0 s t.1 in
              let Q : ℕ → Type 0 = λ x. IsOf (c.world.saved p) took r (Some (with_page (c.told x r) k u f)) in
              subst Q (sym e) (page-of r k u f (c.told p r) t.2 (h.collected r s) m.0 m.1)

          collected : (q : ℕ) → c.stage p ≡ Collecting → IsOf (c.world.saved p) took q (put2 c.told v r (Some (with_page (c.told v r) k u f)) p q)
          collected q s = choose2 v r (λ x y t. x ≡ p → IsOf (c.world.saved p) took y (if t then Some (with_page (c.told v r) k u f) else c.told x y)) (λ e. here e s)
              (λ x y _ e. let P : ℕ → Type 0 = λ z. IsOf (c.world.saved p) took y (c.told z y) in subst P (sym e) (h.collected y s)) p q refl

      -- p keeps the first of what it had
      recovers : (r n : ℕ) → May c (Recovers r n) → Of (taken_back c r n) (c.world.saved p) took
      recovers r n may =
          record {
            begins = λ m x e. h.begins m x (kept m x e);
            numbers = λ q ssn m qa ne e low. h.numbers q ssn m qa ne (choose r (λ j t. (if t then (λ (a i : ℕ). None) else c.world.numbers j) p ssn ≡ Some m → c.world.numbers j p ssn ≡ Some m) (λ f. absurd (cc)) (λ j _ f. f) q e) low;
            told = λ q i j k u f a s e. h.told q i j k u f a (back s) e;
            collected = λ q. choose r (λ j t. (c.stage j ≡ Collecting → IsOf (c.world.saved p) took q (c.told j q)) → (if t then Live else c.stage j) ≡ Collecting → IsOf (c.world.saved p) took q ((if t then (λ (i : ℕ). None) else c.told j) q)) (λ _ _. tt) (λ j _ k. k) p (h.collected q);
          }
        where
          back : put c.stage r Live p ≡ Collecting → c.stage p ≡ Collecting
          back = choose r (λ j t. (if t then Live else c.stage j) ≡ Collecting → c.stage j ≡ Collecting) (λ e. absurd (cc)) (λ j _ e. e) p

          kept : (m : ℕ) (x : Message) → nth (put c.world.history r (kept_by c r n) p) m ≡ Some x → nth (c.world.history p) m ≡ Some x
          kept m x = choose r (λ j t. nth (if t then kept_by c r n else c.world.history j) m ≡ Some x → nth (c.world.history j) m ≡ Some x)
              (λ f. let P : List Message → Type 0 = λ z. nth z m ≡ Some x in nth-take (c.world.history r) n m x (subst P (kept-is c b r n agrees lawful may) f)) (λ j _ f. f) p

      -- numbers above k are forgotten
      obeys : (u v i k s : ℕ) → Of (does c (Arrives u v (Resume i k s))) (c.world.saved p) took
      obeys u v i k s =
          record {
            begins = h.begins;
            numbers = numbered (does c (Arrives u v (Resume i k s))).world.numbers (λ x j m e. choose2 v u (λ y z t. (if t then (λ n. up_to k (c.world.numbers v u n)) else c.world.numbers y z) j ≡ Some m → (c.world.numbers y z j ≡ Some m) ⊎ Names (c.world.history z) m y j)
                (λ f. inl (up_to-is k m (c.world.numbers v u j) f).0) (λ y z _ f. inl f) x p e);
            told = h.told;
            collected = h.collected;
          }

      -- a page of numbers arrives: those under which q has the messages of r
      enters : (q r i j n s : ℕ) (u : Option ℕ) (f : ℕ → Option ℕ) → In (parcel q r (Restored i j n s u f)) c.parcels → i ≡ c.world.incarnation r → has (todo_of (c.world.phase r)) q ≡ true → Of (record c { world = record c.world { numbers = put2 c.world.numbers r q (entered c r q s u f) } }) (c.world.saved p) took
      enters q r i j n s u f a now has_ =
          record {
            begins = h.begins;
            numbers = numbered (put2 c.world.numbers r q (entered c r q s u f)) (λ x y m e. choose2 r q (λ z w t. (if t then entered c r q s u f else c.world.numbers z w) y ≡ Some m → (c.world.numbers z w y ≡ Some m) ⊎ Names (c.world.history w) m z y)
                (entry y m (nat_lt s y) refl (reaches u y) refl) (λ z w _ g. inl g) x p e);
            told = h.told;
            collected = h.collected;
          }
        where
          unback : is_back c r ≡ false
          unback = rw (resync-phase (c.world.phase r) q has_).1 refl

          entry : (y m : ℕ) (t : Bool) → nat_lt s y ≡ t → (w : Bool) → reaches u y ≡ w → (if t && w then f y else c.world.numbers r q y) ≡ Some m → (c.world.numbers r q y ≡ Some m) ⊎ Names (c.world.history q) m r y
          entry y m false e w g o = inl o
          entry y m true e false g o = inl o
          entry y m true e true g o = inr (names-found (c.world.history q) r y m (sym (((agrees.parcels q r (Restored i j n s u f) a).3.now now unback).2 y (grind (arith, nat_tests)) g) ∙ o))

      -- what was told before p was opened is to an earlier incarnation
      opens : (r n : ℕ) → Of (does c (Opens r n)) (c.world.saved p) took
      opens r n =
          record {
            begins = h.begins;
            numbers = h.numbers;
            told = λ q i j k u f a.
                let X : Type 0 = ((v : ℕ) → u ≡ Some v → k < v) × ((m : ℕ) (x : Message) → k < m → reaches u m ≡ true → f m ≡ Some x → c.world.saved p < m → Names took m q x.ssn) in
                choose r (λ x t. i ≤ c.stored x → (c.stage x ≡ Collecting → i ≡ c.stored x → X) → (if t then Collecting else c.stage x) ≡ Collecting → i ≡ (if t then suc (n + c.stored r) else c.stored x) → X)
                (λ l _ _ g. absurd (omega arith)) (λ x _ _ k. k) p (agrees.parcels q p (Told i j k u f) a).3.past (h.told q i j k u f a);
            collected = λ q. choose r (λ j t. (c.stage j ≡ Collecting → IsOf (c.world.saved p) took q (c.told j q)) → (if t then Collecting else c.stage j) ≡ Collecting → IsOf (c.world.saved p) took q ((if t then (λ (i : ℕ). None) else c.told j) q)) (λ _ _. tt) (λ j _ k. k) p (h.collected q);
          }

      -- another works, or has a durable checkpoint
      works : (r : ℕ) (m : Message) → (p == r) ≡ false → Of (does c (Works r m)) (c.world.saved p) took
      works r m e = let P : List Message → Type 0 = λ z. (m : ℕ) (x : Message) → nth z m ≡ Some x → nth took m ≡ Some x in record { begins = subst P (unput r (c.world.history r ++ m ∷ []) e) h.begins; numbers = h.numbers; told = h.told; collected = h.collected }
        where
          unput : (r : ℕ) (x : List Message) → (p == r) ≡ false → c.world.history p ≡ put c.world.history r x p
          unput r x e = rw e refl

      keeps : (r : ℕ) → (p == r) ≡ false → Of (does c (Keeps r)) ((does c (Keeps r)).world.saved p) took
      keeps r e = let P : ℕ → Type 0 = λ z. Of (does c (Keeps r)) z took in let same : c.world.saved p ≡ put c.world.saved r (length (c.world.history r)) p = rw e refl in subst P same record { begins = h.begins; numbers = h.numbers; told = h.told; collected = h.collected }

    -- whether the act is that p takes a message, or that a checkpoint of p becomes durable: then p is up
    abbrev renews : Act → Bool
    renews (Works q m) = p == q
    renews (Keeps q) = p == q
    renews a = false

    -- all others leave such messages
    of-step : (took : List Message) → Of c (c.world.saved p) took → (a : Act) → May c a → renews a ≡ false → Of (does c a) ((does c a).world.saved p) took
    of-step took h (Arrives q r (Restored i j n s (Some u) f)) may e = enters took h q r i j n s (Some u) f may.0 may.1.2 may.1.3
    of-step took h (Puts r d x) may e = puts took h r d x may
    of-step took h (Arrives q zero (Delivery i ssn x)) may e = h
    of-step took h (Works r m) may e = works took h r m e
    of-step took h (Replays r j) may e = either-way (nat_lt (c.world.saved r + suc j) (length (c.world.history r))) _ _ (λ v. Of v (v.world.saved p) took) h h
    of-step took h (Arrives r s (Number i ssn k)) may e = records took h r s i ssn k may
    of-step took h (Arrives u v (Ask i k)) may e = hears took h u v i k
    of-step took h (Arrives r v (Told i j k u f)) may e = collects took h r v i j k u f may
    of-step took h (Recovers r n) may e = either-way (nat_lt (c.world.saved r) n) _ _ (λ v. Of v (v.world.saved p) took) (recovers took h r n may) (recovers took h r n may)
    of-step took h (Arrives u v (Resume i k s)) may e = obeys took h u v i k s
    of-step took h (Arrives (suc q) r (Restored i j n s None f)) may e = enters took h (suc q) r i j n s None f may.0 may.1.2 may.1.3
    of-step took h (Freezes r) may e = restages took h r Frozen (λ y. cc)
    of-step took h (Keeps r) may e = keeps took h r e
    of-step took h (Thaws r) may e = restages took h r Live (λ y. cc)
    of-step took h (Dies r) may e = restages took h r Dead (λ y. cc)
    of-step took h (Opens r n) may e = opens took h r n
    of-step took h act may e = h

    few-step : (took : List Message) (k : (Message → Bool) → ℕ) → ((test : Message → Bool) → how_many test (drop (c.world.saved p) took) ≤ k test) → (a : Act) → renews a ≡ false → (test : Message → Bool) → how_many test (drop ((does c a).world.saved p) took) ≤ counts test p a (k test)
    few-step took k h (Arrives q r (Restored i j n s (Some u) f)) e test = h test
    few-step took k h (Arrives q zero (Delivery i ssn x)) e test = h test
    few-step took k h (Works r m) e test = rw e (h test)
    few-step took k h (Replays r j) e test = either-way (nat_lt (c.world.saved r + suc j) (length (c.world.history r))) _ _ (λ v. how_many test (drop (v.world.saved p) took) ≤ k test) (h test) (h test)
    few-step took k h (Recovers r n) e test = either-way (nat_lt (c.world.saved r) n) _ _ (λ v. how_many test (drop (v.world.saved p) took) ≤ k test) (h test) (h test)
    few-step took k h (Arrives zero r (Restored i j n s None f)) e test = h test
    few-step took k h (Keeps r) e test = rw e (h test)
    few-step took k h act e test = h test

    -- one that is frozen was up
    frozen-step : ((q : ℕ) → c.stage q ≡ Frozen → c.greeted q ≡ true) → (a : Act) → May c a → (q : ℕ) → (does c a).stage q ≡ Frozen → (does c a).greeted q ≡ true
    frozen-step h (Arrives q r (Restored i j n s (Some u) f)) may = h
    frozen-step h (Arrives q zero (Delivery i ssn x)) may = h
    frozen-step h (Replays r j) may = either-way (nat_lt (c.world.saved r + suc j) (length (c.world.history r))) _ _ (λ v. (q : ℕ) → v.stage q ≡ Frozen → v.greeted q ≡ true) h h
    frozen-step h (Recovers r n) may =
        let lives : (q : ℕ) → (taken_back c r n).stage q ≡ Frozen → (taken_back c r n).greeted q ≡ true = choose r (λ j t. (if t then Live else c.stage j) ≡ Frozen → (if t then false else c.greeted j) ≡ true) (λ e. absurd (cc)) (λ j _. h j) in
        either-way (nat_lt (c.world.saved r) n) _ _ (λ v. (q : ℕ) → v.stage q ≡ Frozen → v.greeted q ≡ true) lives lives
    frozen-step h (Arrives zero r (Restored i j n s None f)) may = choose r (λ j t. c.stage j ≡ Frozen → (if t then true else c.greeted j) ≡ true) (λ _. refl) (λ j _. h j)
    frozen-step h (Freezes r) may = choose r (λ j t. (if t then Frozen else c.stage j) ≡ Frozen → c.greeted j ≡ true) (λ _. (takes-is c r may.1).1) (λ j _. h j)
    frozen-step h (Thaws r) may = choose r (λ j t. (if t then Live else c.stage j) ≡ Frozen → c.greeted j ≡ true) (λ e. absurd (cc)) (λ j _. h j)
    frozen-step h (Dies r) may = choose r (λ j t. (if t then Dead else c.stage j) ≡ Frozen → c.greeted j ≡ true) (λ e. absurd (cc)) (λ j _. h j)
    frozen-step h (Opens r n) may = choose r (λ j t. (if t then Collecting else c.stage j) ≡ Frozen → c.greeted j ≡ true) (λ e. absurd (cc)) (λ j _. h j)
    frozen-step h act may = h

    renews-well : ((q : ℕ) → c.stage q ≡ Frozen → c.greeted q ≡ true) → (a : Act) → May c a → renews a ≡ true → is_well (does c a) p ≡ true
    renews-well frozen (Arrives q r (Restored i j n s (Some u) f)) may e = absurd (cc)
    renews-well frozen (Works r m) may e =
        let same : r ≡ p = grind (arith, nat_tests) in
        let t = takes-is c r may.1 in
        let P : ℕ → Type 0 = λ j. (runs (c.stage j) ≡ true) × (c.greeted j ≡ true) in
        let w : (runs (c.stage p) ≡ true) × (c.greeted p ≡ true) = subst P same (ap runs t.0, t.1) in
        is-well (does c (Works r m)) p w.0 w.1 (let Q : Bool → Type 0 = λ z. is_up (if z then Up else c.world.phase p) ≡ true in subst Q (sym e) refl)
    renews-well frozen (Keeps r) may e =
        let same : r ≡ p = grind (arith, nat_tests) in
        let P : ℕ → Type 0 = λ j. c.stage j ≡ Frozen in
        let at : c.stage p ≡ Frozen = subst P same may.1 in
        is-well (does c (Keeps r)) p (ap runs at) (frozen p at) (ap is_up (agrees.stages.frozen p at))
    renews-well frozen (Arrives q zero (Delivery i ssn x)) may e = absurd (cc)
    renews-well frozen (Arrives zero r (Restored i j n s None f)) may e = absurd (cc)
    renews-well frozen act may e = absurd (cc)

  fresh-step : (c : Cluster) (h : Holds c) (a : Act) (may : May c a) (v : Holds (does c a)) → p ≤ (does c a).world.count → (k : (Message → Bool) → ℕ) → Fresh c k → Fresh (does c a) (λ test. counts test p a (k test))
  fresh-step c h a may v pa k f = split (renews c h.beside h.agrees h.lawful a) refl
    where
      new : (test : Message → Bool) → how_many test (receipts (does c a) p) ≤ counts test p a (k test)
      new test = receipts-step test p c h.beside h.agrees h.lawful (k test) (f.new test) a may

      split : (t : Bool) → renews c h.beside h.agrees h.lawful a ≡ t → Fresh (does c a) (λ test. counts test p a (k test))
      split true e =
          let well : is_well (does c a) p ≡ true = renews-well c h.beside h.agrees h.lawful f.frozen a may e in
          record { took = (does c a).world.history p; of = of-well (does c a) v.beside v.agrees v.lawful pa well; few = new; new = new; frozen = frozen-step c h.beside h.agrees h.lawful f.frozen a may }
      split false e =
          record {
            took = f.took;
            of = of-step c h.beside h.agrees h.lawful f.took f.of a may e;
            few = few-step c h.beside h.agrees h.lawful f.took k f.few a e;
            new = new;
            frozen = frozen-step c h.beside h.agrees h.lawful f.frozen a may;
          }

  fresh-run : (c : Cluster) (acts : List Act) → c.world.count ≤ 15 → p ≤ c.world.count → Holds c → Run c acts → (k : (Message → Bool) → ℕ) → Fresh c k → Fresh (after_run c acts) (λ test. taken_since test p (k test) acts)
  fresh-run c [] n pa h r k f = f
  fresh-run c (a ∷ acts) n pa h r k f =
      let s = step-holds c a n h r.0 in
      let e : (does c a).world.count ≡ c.world.count = does-count c a in
      fresh-run (does c a) acts s.1 (omega arith) s.0 r.1 (λ test. counts test p a (k test)) (fresh-step c h a r.0 s.0 (omega arith) k f)

-- so of each peer it holds no more than it took of that one
few-held : (c : Cluster) (p q k : ℕ) (took : List Message) → IsOf (c.world.saved p) took q (c.told p q) → count_below (holds (c.told p q)) k ≤ how_many (is_of q) (drop (c.world.saved p) took)
few-held c p q k took is = few-numbers (is_of q) (c.world.saved p) took (holds (c.told p q)) (each (c.told p q) is) k
  where
    each : (o : Option Collected) → IsOf (c.world.saved p) took q o → (m : ℕ) → holds o m ≡ true → (c.world.saved p < m) × (x : Message) × (nth took m ≡ Some x) × (is_of q x ≡ true)
    each None is m e = absurd (cc)
    each (Some t) is m e = let y = both (reaches t.upto m) (is_some (t.entries m)) e in entry (t.entries m) refl y.1 y.0
      where
        entry : (o : Option Message) → t.entries m ≡ o → is_some o ≡ true → reaches t.upto m ≡ true → (c.world.saved p < m) × (x : Message) × (nth took m ≡ Some x) × (is_of q x ≡ true)
        entry None g s far = absurd (cc)
        entry (Some x) g s far = let n = is.names m x far g in let z : n.1.message.sender ≡ q = n.1.sender in (n.0, n.1.message, n.1.at, grind (arith, nat_tests))

pub told-is-new : ToldIsNew
told-is-new n f acts p q k s node at =
    let e : (after_run (opening n f) acts).world.count ≡ n = run-count (opening n f) acts in
    let pa : p ≤ (after_run (opening n f) acts).world.count = node.1 in
    let start : Fresh p (opening n f) (λ test. 0) = record {
      took = [];
      of = record { begins = λ m x y. y; numbers = λ q ssn m _ _ y _. absurd (cc); told = λ q i j m u h a s y. absurd a; collected = λ q s. tt };
      few = λ test. omega arith;
      new = λ test. omega arith;
      frozen = λ q y. absurd (cc);
    } in
    let t : Fresh p (after_run (opening n f) acts) (λ test. taken_since test p 0 acts) = fresh-run p (opening n f) acts s.few (omega arith) (opens-holds n f s.grows) s.run (λ test. 0) start in
    let a : count_below (holds ((after_run (opening n f) acts).told p q)) k ≤ how_many (is_of q) (drop ((after_run (opening n f) acts).world.saved p) t.took) = few-held (after_run (opening n f) acts) p q k t.took (t.of.collected q at) in
    let z : how_many (is_of q) (drop ((after_run (opening n f) acts).world.saved p) t.took) ≤ taken_since (is_of q) p 0 acts = t.few (is_of q) in
    omega arith
