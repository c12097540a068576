-- Each event leaves it so
use Rattle.std.proofs.Common.{zero, ◌≡◌, ◌≢◌, inl, inr, ℕ, suc, ◌+◌, ◌-◌, ◌<◌, ◌≤◌, List, [], ◌∷◌, ◌++◌, length, take, Bool, true, false, refl, sym, ap, ◌∙◌, subst, arith, length-append}
use Rattle.std.specs.Prelude.{Option, Some, None, ◌&&◌, nat_lt, nat_le, if◌then◌else◌}
use Rattle.std.proofs.lemmas.Bool.Decides.{nat_tests}
use Rattle.world.specs.declared.message.Message.{Message}
use Rattle.world.specs.History.{Payload, nth, count_of}
use Rattle.world.specs.Phases.{Phase, Up, Busy, Replaying, todo_of, without, is_busy}
use Rattle.world.specs.World.{put}
use Rattle.world.specs.Logs.{sent, length_of}
use Rattle.world.specs.Plan.{logged_as}
use Rattle.world.specs.Calls.{phase_with, peers, up_to}
use Rattle.theorems.specs.Growth.{Begins}
use Rattle.theorems.specs.Invariants.Exact.{Names}
use Rattle.theorems.proofs.Changes.{choose}
use Rattle.theorems.proofs.PhaseLemmas.{up-length}
use Rattle.theorems.proofs.ListLemmas.{at-number, nth-prefix, nth-within, nth-of, some-same, take-length, begins-length}
use Rattle.theorems.proofs.LogLemmas.{payloads-prefix}
use Rattle.theorems.proofs.HistoryLemmas.{names-found}
use Rattle.theorems.proofs.PlanLemmas.{first_below-at, logged_as-at}
use Rattle.theorems.proofs.Recoveries.{up_to-is}
use Rattle.cluster.specs.Parcels.{Body, Delivery, Number, Acknowledgement, Ask, Told, Resume, Restored, Parcel, parcel, In, reaches}
use Rattle.cluster.specs.Cluster.{Collected, Cluster, is_well}
use Rattle.cluster.specs.Rules.{Act, Input, Puts, Arrives, Works, Replays, Recovers, Keeps, Opens, MayPut, MayTake, May, arrived, does, message, entry_of, entry_in, with_page, Asks, IsAll, told_by, kept_by, entered, put2, goes_on, takes_in, taken_back}
use Rattle.cluster.proofs.Facts.{choose2, well-is, cut-taken}
use Rattle.cluster.proofs.Growth.{either-way, plan-begins, takes-back}
use Rattle.cluster.specs.Overlap.{Event, Acts, Meets, Loses, Lacks, Leaves, Doubts, IsKept, Might, loss, cut, restores_anew, goes, kept_sends}
use Rattle.cluster.specs.DurablePromises.{AreFirst}
use Rattle.cluster.proofs.Firsts.{first-push, first-take, first-plan}
use Rattle.cluster.proofs.Firm.{Sends, IsGood, IsThere, IsTrue, IsGoodSoFar, Firm, good-more, firm-more}
use Rattle.cluster.proofs.DurableGrowth.{sends-continue, goes-sends}

-- Phases in which nothing is worked on
abbrev pub IsIdle : Phase → Type 0
IsIdle x = (m : Message) → x ≡ Busy m → ⊥

-- who restores its numbers has no job open
with-idle : (rs : List ℕ) → IsIdle (phase_with rs)
with-idle [] m e = let t : false ≡ true = ap is_busy e in cc
with-idle (r ∷ rs) m e = let t : false ≡ true = ap is_busy e in cc

-- who restores anew has no other job open than before
anew-idle : (count : ℕ) (x : Phase) (p : ℕ) → (m : Message) → restores_anew count x p ≡ Busy m → x ≡ Busy m
anew-idle count (Replaying j w a) p m e = e
anew-idle count other p m e = absurd (let t : false ≡ true = ap is_busy e in cc)

-- those of these nodes send only what their checkpoints cover
abbrev pub IsSafe : (ℕ → Bool) → Cluster → Event → Type 0
IsSafe last c (Acts exact a) = IsKept (record c { durable = last }) a
IsSafe last c e = Unit {0}

module _ (last : ℕ → Bool) (c : Cluster) (h : Firm last c) where
  abbrev k : Sends
  k = kept_sends c

  -- the job of each is one that may be
  abbrev Jobs : (ℕ → Phase) → Type 0
  Jobs f = (d : ℕ) (m : Message) → f d ≡ Busy m → IsGood last k d m × (m.ssn ≡ suc (count_of m.sender (c.world.history d)))

  jobs-idle : (p : ℕ) (x : Phase) → IsIdle x → Jobs (put c.world.phase p x)
  jobs-idle p x idle = choose p (λ j t. (m : Message) → (if t then x else c.world.phase j) ≡ Busy m → IsGood last k j m × (m.ssn ≡ suc (count_of m.sender (c.world.history j)))) (λ m e. absurd (idle m e)) (λ j _. h.jobs j)

  -- what a node that is up sent begins with what its checkpoint covers
  kept-sent : (p d : ℕ) → is_well c p ≡ true → Begins (k p d) (sent c.world p d)
  kept-sent p d well =
      let n : length_of c.world p ≡ length (c.world.history p) = up-length (c.world.phase p) (well-is c p well).2 (c.world.history p) (c.world.saved p) in
      let i : c.world.saved p ≤ length (c.world.history p) = h.within p in
      payloads-prefix c.world h.grows p (c.world.history p) d (c.world.saved p) (length_of c.world p) (omega arith)

  -- what p has of d is there
  named : (p d ssn m : ℕ) → Names (c.world.history p) m d ssn → IsThere last k d p ssn
  named p d ssn m n e =
      let a = at-number (c.world.history p) m n.message n.at in
      let f : AreFirst (c.world.history p) d (k d p) = h.received d p e in
      let P : ℕ → Type 0 = λ i. (0 < i) × (i ≤ length (k d p)) in
      subst P n.ssn (nth-within (k d p) n.message.ssn n.message.payload (f.each a.0 n.message a.2 n.sender))

  -- what p sends where it has it there is good
  there-good : (p d ssn : ℕ) (x : Payload) → is_well c p ≡ true → nth (sent c.world p d) ssn ≡ Some x → 0 < ssn → ssn ≤ length (k p d) → nth (k p d) ssn ≡ Some x
  there-good p d ssn x well at a b =
      let n = nth-of (k p d) ssn a b in
      let same : n.0 ≡ x = some-same n.0 x _ (nth-prefix (k p d) (sent c.world p d) ssn n.0 (kept-sent p d well) n.1) at in
      let P : Payload → Type 0 = λ y. nth (k p d) ssn ≡ Some y in
      subst P same n.1

  -- an entry of a log
  entry-good : (p d m : ℕ) (x : Message) → is_well c p ≡ true → entry_of c p d m ≡ Some x → IsGood last k d x
  entry-good p d m x well e l =
      let b = first_below-at (logged_as c.world d m p) (suc (length (sent c.world p d))) x e in
      let t = logged_as-at c.world d m p b.0 x b.2 in
      let P : ℕ → Type 0 = λ s. last s ≡ true in
      let r : (0 < b.0) × (b.0 ≤ length (k p d)) = h.numbers p d b.0 m t.1 (subst P t.2 l) in
      let Q : ℕ → ℕ → Type 0 = λ s i. nth (k s d) i ≡ Some x.payload in
      let g : Q p b.0 = there-good p d b.0 x.payload well t.4 r.0 r.1 in
      let Q1 : ℕ → Type 0 = λ s. Q s b.0 in
      let Q2 : ℕ → Type 0 = λ i. Q x.sender i in
      subst Q2 (sym t.3) (subst Q1 (sym t.2) g)

  put-true : (p d : ℕ) (x : Body) → MayPut c p d x → IsKept (record c { durable = last }) (Puts p d x) → IsTrue last k p d x
  put-true p d (Delivery i ssn x) may kept = λ e. let t : c.world.trims p d < ssn = may.3 in there-good p d ssn x may.0 may.4 (omega arith) (kept e)
  put-true p d (Number i ssn n) may kept = named p d ssn n may.2
  put-true p d (Told i j n u f) may kept = λ m x a b e. entry-good p d m x may.0 (sym (may.4 m a b) ∙ e)
  put-true p d (Restored i j n s u f) may kept = λ ssn m a b e. named p d ssn m (names-found (c.world.history p) d ssn m (sym (may.7 ssn a b) ∙ e))
  put-true p d other may kept = tt

  -- one parcel more
  parcel-more : (p d : ℕ) (x : Body) → p ≢ d → IsTrue last k p d x → (a b : ℕ) (y : Body) → In (parcel a b y) (parcel p d x ∷ c.parcels) → (a ≢ b) × IsTrue last k a b y
  parcel-more p d x ne t a b y (inl e) = let P : Parcel → Type 0 = λ z. (z.from ≢ z.to) × IsTrue last k z.from z.to z.body in subst P (sym e) (ne, t)
  parcel-more p d x ne t a b y (inr i) = h.parcels a b y i

  -- what is collected is changed for one, and nobody collects of itself
  told-changed : (p q : ℕ) (o : Option Collected) → IsGoodSoFar last k p o → (a b : ℕ) → IsGoodSoFar last k a (put2 c.told p q o a b)
  told-changed p q o g = choose2 p q (λ a b t. IsGoodSoFar last k a (if t then o else c.told a b)) g (λ a b _. h.told a b)

  own-changed : (p q : ℕ) (o : Option Collected) → (p ≡ q → o ≡ None) → (a : ℕ) → put2 c.told p q o a a ≡ None
  own-changed p q o none a = choose2 p q (λ a b t. a ≡ b → (if t then o else c.told a b) ≡ None) none (λ a b _ e. let P : ℕ → Type 0 = λ z. c.told a z ≡ None in subst P e (h.own a)) a a refl

  -- a page more
  page-good : (p q n : ℕ) (u : Option ℕ) (f : ℕ → Option Message) → Asks (c.world.saved p) (c.told p q) n → ((m : ℕ) (x : Message) → n < m → reaches u m ≡ true → f m ≡ Some x → IsGood last k p x)
      → (m : ℕ) (x : Message) → reaches u m ≡ true → (if nat_le m n then entry_in (c.told p q) m else f m) ≡ Some x → IsGood last k p x
  page-good p q n u f asks page m x r = split (nat_le m n) refl
    where
      before : (o : Option Collected) → IsGoodSoFar last k p o → Asks (c.world.saved p) o n → nat_le m n ≡ true → entry_in o m ≡ Some x → IsGood last k p x
      before None g a l e = absurd (let z : None ≡ Some x = e in cc)
      before (Some t) g a l e = let P : Option ℕ → Type 0 = λ v. reaches v m ≡ true in g m x (subst P (sym a) l) e

      split : (b : Bool) → nat_le m n ≡ b → (if b then entry_in (c.told p q) m else f m) ≡ Some x → IsGood last k p x
      split true l e = before (c.told p q) (h.told p q) asks l e
      split false l e = page m x (grind (arith, nat_tests)) r e

  -- what all that were asked told
  all-good : (p : ℕ) → ((q : ℕ) → q ≤ c.world.count → q ≢ p → IsAll (c.told p q)) → (m : ℕ) (x : Message) → told_by c p m ≡ Some x → IsGood last k p x
  all-good p all m x e = let b = first_below-at (λ q. entry_in (c.told p q) m) (suc c.world.count) x e in let l : b.0 < suc c.world.count = b.1 in one b.0 (omega arith) b.2
    where
      told : (o : Option Collected) → IsGoodSoFar last k p o → IsAll o → entry_in o m ≡ Some x → IsGood last k p x
      told None g a e = absurd (a)
      told (Some t) g a e = let P : Option ℕ → Type 0 = λ v. reaches v m ≡ true in g m x (subst P (sym a) refl) e

      one : (q : ℕ) → q ≤ c.world.count → entry_in (c.told p q) m ≡ Some x → IsGood last k p x
      one =
          choose p (λ q _. q ≤ c.world.count → entry_in (c.told p q) m ≡ Some x → IsGood last k p x) (λ _ e. absurd (let z : None ≡ Some x = sym (ap (λ o. entry_in o m) (h.own p)) ∙ e in cc))
          (λ q n l e. told (c.told p q) (h.told p q) (all q l n) e)

  -- numbers that are entered
  page-there : (p q s : ℕ) (u : Option ℕ) (f : ℕ → Option ℕ) → ((ssn m : ℕ) → s < ssn → reaches u ssn ≡ true → f ssn ≡ Some m → IsThere last k p q ssn)
      → (a b ssn m : ℕ) → put2 c.world.numbers p q (entered c p q s u f) a b ssn ≡ Some m → IsThere last k a b ssn
  page-there p q s u f page = choose2 p q (λ a b t. (ssn m : ℕ) → (if t then entered c p q s u f else c.world.numbers a b) ssn ≡ Some m → IsThere last k a b ssn) (λ ssn m. split ssn m (nat_lt s ssn) refl (reaches u ssn) refl) (λ a b _ ssn m e. h.numbers a b ssn m e)
    where
      split : (ssn m : ℕ) (x : Bool) → nat_lt s ssn ≡ x → (y : Bool) → reaches u ssn ≡ y → (if x && y then f ssn else c.world.numbers p q ssn) ≡ Some m → IsThere last k p q ssn
      split ssn m true a true b e = page ssn m (grind (arith, nat_tests)) b e
      split ssn m true a false b e = h.numbers p q ssn m e
      split ssn m false a y b e = h.numbers p q ssn m e

  -- Events by which checkpoints cover nothing new

  these : (ps : List Parcel) (x : ℕ → Phase) (ns : ℕ → ℕ → ℕ → Option ℕ) (ts : ℕ → ℕ → Option Collected) → ((a b : ℕ) (y : Body) → In (parcel a b y) ps → (a ≢ b) × IsTrue last k a b y) → Jobs x → ((s d ssn m : ℕ) → ns s d ssn ≡ Some m → IsThere last k s d ssn)
      → ((p q : ℕ) → IsGoodSoFar last k p (ts p q)) → ((p : ℕ) → ts p p ≡ None) → Firm last (record c { parcels = ps; told = ts; world = record c.world { phase = x; numbers = ns } })
  these ps x ns ts parcels jobs numbers told own =
      record { grows = h.grows; within = h.within; parcels = parcels; jobs = jobs; numbers = numbers; told = told; own = own; received = h.received; shown = h.shown }

  with-parcel : (p d : ℕ) (x : Body) → p ≢ d → IsTrue last k p d x → Firm last (does c (Puts p d x))
  with-parcel p d x ne t = these (parcel p d x ∷ c.parcels) c.world.phase c.world.numbers c.told (parcel-more p d x ne t) h.jobs h.numbers h.told h.own

  with-phase : (p : ℕ) (x : Phase) → IsIdle x → Firm last (record c { world = record c.world { phase = put c.world.phase p x } })
  with-phase p x idle = these c.parcels (put c.world.phase p x) c.world.numbers c.told h.parcels (jobs-idle p x idle) h.numbers h.told h.own

  with-told : (p q : ℕ) (o : Option Collected) → (p ≡ q → o ≡ None) → IsGoodSoFar last k p o → Firm last (record c { told = put2 c.told p q o })
  with-told p q o none g = these c.parcels c.world.phase c.world.numbers (put2 c.told p q o) h.parcels h.jobs h.numbers (told-changed p q o g) (own-changed p q o none)

  with-numbers : (f : ℕ → ℕ → ℕ → Option ℕ) → ((s d ssn m : ℕ) → f s d ssn ≡ Some m → IsThere last k s d ssn) → Firm last (record c { world = record c.world { numbers = f } })
  with-numbers f g = these c.parcels c.world.phase f c.told h.parcels h.jobs g h.told h.own

  starts : (p d i ssn : ℕ) (x : Payload) → IsGood last k (suc d) (message p ssn x) → MayTake c p (suc d) (Delivery i ssn x) → Firm last (arrived c p (suc d) (Delivery i ssn x))
  starts p e i ssn x g may =
      let d : ℕ = suc e in
      let n : ssn ≡ suc (count_of p (c.world.history d)) = may.4 in
      these c.parcels (put c.world.phase d (Busy (message p ssn x))) c.world.numbers c.told h.parcels
      (choose d (λ j t. (m : Message) → (if t then Busy (message p ssn x) else c.world.phase j) ≡ Busy m → IsGood last k j m × (m.ssn ≡ suc (count_of m.sender (c.world.history j))))
      (λ m e. let same : message p ssn x ≡ m = cc in let P : Message → Type 0 = λ y. IsGood last k d y × (y.ssn ≡ suc (count_of y.sender (c.world.history d))) in subst P same (g, n)) (λ j _. h.jobs j)) h.numbers h.told h.own

  shows : (p i ssn : ℕ) (x : Payload) → IsGood last k 0 (message p ssn x) → MayTake c p zero (Delivery i ssn x) → Firm last (arrived c p zero (Delivery i ssn x))
  shows p i ssn x g may =
      let shown : (q : ℕ) → last q ≡ true → AreFirst (c.world.shown ++ message p ssn x ∷ []) q (k q 0) = λ q l. first-push c.world.shown (message p ssn x) q (k q 0) may.1 (λ e. let P : ℕ → Type 0 = λ z. (last z ≡ true → nth (k z 0) ssn ≡ Some x) in subst P e g l) (h.shown q l) in
      record { grows = h.grows; within = h.within; parcels = h.parcels; jobs = h.jobs; numbers = h.numbers; told = h.told; own = h.own; received = h.received; shown = shown }

  records : (r s i ssn n : ℕ) → r ≢ s → IsThere last k s r ssn → Firm last (arrived c r s (Number i ssn n))
  records r s i ssn n ne there =
      these (parcel s r (Acknowledgement i n) ∷ c.parcels) c.world.phase (put2 c.world.numbers s r (put (c.world.numbers s r) ssn (Some n))) c.told (parcel-more s r (Acknowledgement i n) (λ e. ne (sym e)) tt) h.jobs
      (choose2 s r (λ a b y. (j m : ℕ) → (if y then put (c.world.numbers s r) ssn (Some n) else c.world.numbers a b) j ≡ Some m → IsThere last k a b j)
      (choose ssn (λ j y. (m : ℕ) → (if y then Some n else c.world.numbers s r j) ≡ Some m → IsThere last k s r j) (λ m _. there) (λ j _ m e. h.numbers s r j m e)) (λ a b _ j m e. h.numbers a b j m e)) h.told h.own

  obeys : (p q i n s : ℕ) → Firm last (arrived c p q (Resume i n s))
  obeys p q i n s =
      with-numbers (put2 c.world.numbers q p (λ ssn. up_to n (c.world.numbers q p ssn)))
      (choose2 q p (λ a b t. (ssn m : ℕ) → (if t then (λ ssn. up_to n (c.world.numbers q p ssn)) else c.world.numbers a b) ssn ≡ Some m → IsThere last k a b ssn)
      (λ ssn m e. h.numbers q p ssn m (up_to-is n m (c.world.numbers q p ssn) e).0) (λ a b _ ssn m e. h.numbers a b ssn m e))

  restores : (q p i j n s : ℕ) (f : ℕ → Option ℕ) → IsTrue last k q p (Restored i j n s None f) → Firm last (goes_on (takes_in c p q j n s None f) p (without (todo_of (c.world.phase p)) q))
  restores q p i j n s f page =
      let x : Phase = phase_with (without (todo_of (c.world.phase p)) q) in
      these c.parcels (put c.world.phase p x) (put2 c.world.numbers p q (entered c p q s None f)) c.told h.parcels (jobs-idle p x (with-idle _)) (page-there p q s None f page) h.told h.own

  opens : (p n : ℕ) → Firm last (does c (Opens p n))
  opens p n =
      these c.parcels c.world.phase c.world.numbers (put c.told p (λ _. None)) h.parcels h.jobs h.numbers (λ a b. choose p (λ j t. IsGoodSoFar last k j ((if t then (λ _. None) else c.told j) b)) tt (λ j _. h.told j b) a)
      (λ a. choose p (λ j t. (if t then (λ _. None) else c.told j) j ≡ None) refl (λ j _. h.own j) a)

  -- a packet is taken that is true
  takes-firm : (q p : ℕ) (x : Body) → q ≢ p → IsTrue last k q p x → MayTake c q p x → Firm last (arrived c q p x)
  takes-firm q p (Restored i j n s (Some u) f) ne t may = with-numbers (put2 c.world.numbers p q (entered c p q s (Some u) f)) (page-there p q s (Some u) f t)
  takes-firm p (suc d) (Delivery i ssn x) ne t may = starts p d i ssn x t may
  takes-firm p zero (Delivery i ssn x) ne t may = shows p i ssn x t may
  takes-firm r s (Number i ssn n) ne t may = records r s i ssn n ne t
  takes-firm p q (Ask i n) ne t may = with-told q p None (λ _. refl) tt
  takes-firm q p (Told i j n u f) ne t may = with-told p q (Some (with_page (c.told p q) n u f)) (λ e. absurd (ne (sym e))) (page-good p q n u f may.3 t)
  takes-firm p q (Resume i n s) ne t may = obeys p q i n s
  takes-firm (suc q) p (Restored i j n s None f) ne t may = restores (suc q) p i j n s f t
  takes-firm q p x ne t may = h

  -- and so is what it is cut to
  cut-true : (q p : ℕ) (x : Body) → IsTrue last k q p x → IsTrue last k q p (cut c p q x)
  cut-true q p (Restored i j n s u f) t = λ ssn m a b. split ssn m a b (nat_le ssn (length (sent c.world p q)))
    where
      split : (ssn m : ℕ) → s < ssn → reaches u ssn ≡ true → (y : Bool) → (if y then f ssn else None) ≡ Some m → IsThere last k p q ssn
      split ssn m a b true e = t ssn m a b e
      split ssn m a b false e = absurd (let z : None ≡ Some m = e in cc)
  cut-true q p x t = t

  meets : (q p i n : ℕ) → Firm last (goes c (Meets q p i n))
  meets q p i n =
      these c.parcels (put c.world.phase q (restores_anew c.world.count (c.world.phase q) p)) (put2 c.world.numbers q p (λ _. None)) c.told h.parcels
      (choose q (λ j t. (m : Message) → (if t then restores_anew c.world.count (c.world.phase q) p else c.world.phase j) ≡ Busy m → IsGood last k j m × (m.ssn ≡ suc (count_of m.sender (c.world.history j)))) (λ m e. h.jobs q m (anew-idle c.world.count (c.world.phase q) p m e)) (λ j _. h.jobs j))
      (choose2 q p (λ a b t. (ssn m : ℕ) → (if t then (λ _. None) else c.world.numbers a b) ssn ≡ Some m → IsThere last k a b ssn) (λ ssn m e. absurd (let z : None ≡ Some m = e in cc)) (λ a b _ ssn m e. h.numbers a b ssn m e)) h.told h.own

  -- Events by which they do

  input-firm : (d : ℕ) (x : Payload) → Firm last (does c (Input d x))
  input-firm d x = firm-more last k (kept_sends (does c (Input d x))) (goes-sends c (Acts true (Input d x)) h.grows h.within) c h

  keeps : (p : ℕ) → Firm last (does c (Keeps p))
  keeps p =
      let r = firm-more last k (kept_sends (does c (Keeps p))) (goes-sends c (Acts true (Keeps p)) h.grows h.within) c h in
      let within = choose p (λ j t. (if t then length (c.world.history p) else c.world.saved j) ≤ length (c.world.history j)) (omega arith) (λ j _. h.within j) in
      record { grows = h.grows; within = within; parcels = r.parcels; jobs = r.jobs; numbers = r.numbers; told = r.told; own = h.own; received = r.received; shown = r.shown }

  works : (p : ℕ) (m : Message) → May c (Works p m) → Firm last (does c (Works p m))
  works p m may =
      let l : Sends = kept_sends (does c (Works p m)) in
      let r = firm-more last k (kept_sends (does c (Works p m))) (goes-sends c (Acts true (Works p m)) h.grows h.within) c h in
      let job : IsGood last l p m × (m.ssn ≡ suc (count_of m.sender (c.world.history p))) = r.jobs p m may.2 in
      let long : length (c.world.history p ++ m ∷ []) ≡ length (c.world.history p) + 1 = length-append _ _ in
      let low : c.world.saved p ≤ length (c.world.history p) = h.within p in
      record {
        grows = h.grows;
        within = choose p (λ j t. c.world.saved j ≤ length (if t then c.world.history p ++ m ∷ [] else c.world.history j)) (omega arith) (λ j _. h.within j);
        parcels = r.parcels;
        jobs = choose p (λ j t. (y : Message) → (if t then Up else c.world.phase j) ≡ Busy y → IsGood last l j y × (y.ssn ≡ suc (count_of y.sender (if t then c.world.history p ++ m ∷ [] else c.world.history j))))
            (λ y e. absurd (let t : false ≡ true = ap is_busy e in cc)) (λ j _. r.jobs j);
        numbers = r.numbers;
        told = r.told;
        own = h.own;
        received = λ s d t. choose p (λ j y. AreFirst (if y then c.world.history p ++ m ∷ [] else c.world.history j) s (l s j))
            (first-push (c.world.history p) m s (l s p) job.1 (λ e. let P : ℕ → Type 0 = λ z. (last z ≡ true → nth (l z p) m.ssn ≡ Some m.payload) in subst P e job.0 t) (r.received s p t)) (λ j _. r.received s j t) d;
        shown = r.shown;
      }

  -- p has collected
  module _ (p n : ℕ) (may : May c (Recovers p n)) where
    recovers : (x : Phase) → IsIdle x → ((q d : ℕ) → Begins (k q d) (kept_sends (record (taken_back c p n) { world = record (taken_back c p n).world { phase = put c.world.phase p x } }) q d)) → Firm last (record (taken_back c p n) { world = record (taken_back c p n).world { phase = put c.world.phase p x } })
    recovers x idle more =
        let l : Sends = kept_sends (record (taken_back c p n) { world = record (taken_back c p n).world { phase = put c.world.phase p x } }) in
        let r = firm-more last k l more c h in
        let low : c.world.saved p ≤ length (c.world.history p) = h.within p in
        let b : Begins (take (c.world.saved p) (c.world.history p)) (kept_by c p n) = plan-begins (told_by c p) (take (c.world.saved p) (c.world.history p)) (n - c.world.saved p) in
        let long : length (take (c.world.saved p) (c.world.history p)) ≡ c.world.saved p = take-length (c.world.history p) (c.world.saved p) low in
        let longer : length (take (c.world.saved p) (c.world.history p)) ≤ length (kept_by c p n) = begins-length _ _ b in
        record {
          grows = h.grows;
          within = choose p (λ j t. c.world.saved j ≤ length (if t then kept_by c p n else c.world.history j)) (omega arith) (λ j _. h.within j);
          parcels = r.parcels;
          jobs = choose p (λ j t. (y : Message) → (if t then x else c.world.phase j) ≡ Busy y → IsGood last l j y × (y.ssn ≡ suc (count_of y.sender (if t then kept_by c p n else c.world.history j)))) (λ y e. absurd (idle y e)) (λ j _. r.jobs j);
          numbers = λ s d ssn m. choose p (λ j t. (if t then (λ _ _. None) else c.world.numbers j) d ssn ≡ Some m → IsThere last l j d ssn) (λ e. absurd (let z : None ≡ Some m = e in cc)) (λ j _. r.numbers j d ssn m) s;
          told = λ a d. choose p (λ j t. IsGoodSoFar last l j ((if t then (λ _. None) else c.told j) d)) tt (λ j _. r.told j d) a;
          own = λ a. choose p (λ j t. (if t then (λ _. None) else c.told j) j ≡ None) refl (λ j _. h.own j) a;
          received = λ s d t. choose p (λ j y. AreFirst (if y then kept_by c p n else c.world.history j) s (l s j))
              (first-plan (told_by c p) (take (c.world.saved p) (c.world.history p)) (n - c.world.saved p) s (l s p)
              (λ m y e f. let P : ℕ → Type 0 = λ z. (last z ≡ true → nth (l z p) y.ssn ≡ Some y.payload) in subst P f (good-more last k l more p y (all-good p may.2 m y e)) t)
              (first-take (c.world.history p) (c.world.saved p) s (l s p) (r.received s p t))) (λ j _. r.received s j t) d;
          shown = r.shown;
        }

    recovers-firm : Firm last (does c (Recovers p n))
    recovers-firm = either-way (nat_lt (c.world.saved p) n) _ _ (Firm last)
        (recovers (Replaying 0 false false) (λ m e. let t : false ≡ true = ap is_busy e in cc) more)
        (recovers (phase_with (peers c.world p false)) (with-idle (peers c.world p false)) more)
      where
        more : (q d : ℕ) → Begins (k q d) (kept_sends (taken_back c p n) q d)
        more = sends-continue c (taken_back c p n) h.grows refl (takes-back c p n (h.within p))

  does-firm : (a : Act) → May c a → IsKept (record c { durable = last }) a → Firm last (does c a)
  does-firm (Input d x) may kept = input-firm d x
  does-firm (Puts p d x) may kept = with-parcel p d x may.2 (put-true p d x may.3 kept)
  does-firm (Arrives q p x) may kept = let t = h.parcels q p x may.0 in takes-firm q p x t.0 t.1 may.1
  does-firm (Works p m) may kept = works p m may
  does-firm (Replays p j) may kept = either-way (nat_lt (c.world.saved p + suc j) (length (c.world.history p))) _ _ (Firm last)
      (with-phase p (Replaying (suc j) false false) (λ m e. let t : false ≡ true = ap is_busy e in cc)) (with-phase p (phase_with (peers c.world p false)) (with-idle (peers c.world p false)))
  does-firm (Recovers p n) may kept = recovers-firm p n may
  does-firm (Keeps p) may kept = keeps p
  does-firm (Opens p n) may kept = opens p n
  does-firm act may kept = h

  pub goes-firm : (e : Event) → Might c e → IsSafe last c e → Firm last (goes c e)
  goes-firm (Acts exact a) may kept = does-firm a may.0 kept
  goes-firm (Meets q p i n) may kept = meets q p i n
  goes-firm (Loses q p i j n) may kept = h
  goes-firm (Lacks q p i j n) may kept = takes-firm q p (loss i j n) may.0 (λ m x _ _ e. absurd (let z : None ≡ Some x = e in cc)) may.1
  goes-firm (Leaves p q) may kept = with-phase p (phase_with (without (todo_of (c.world.phase p)) q)) (with-idle (without (todo_of (c.world.phase p)) q))
  goes-firm (Doubts q p x) may kept = let t = h.parcels q p x may.1 in takes-firm q p (cut c p q x) t.0 (cut-true q p x t.1) (cut-taken c q p x may.2)
