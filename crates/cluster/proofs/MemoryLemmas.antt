-- What a node keeps of what it received came since its checkpoint, and its logs wait for their receivers
use Rattle.std.proofs.Common.{◌≡◌, ℕ, zero, suc, ◌+◌, ◌<◌, ◌≤◌, List, [], ◌∷◌, ◌++◌, length, take, drop, Bool, true, false, refl, subst, arith}
use Rattle.std.specs.Prelude.{None, Some, ◌==◌, nat_lt, if◌then◌else◌}
use Rattle.world.specs.declared.message.Message.{Message}
use Rattle.world.specs.History.{count_of}
use Rattle.world.specs.Phases.{Phase, Down, is_busy}
use Rattle.world.specs.World.{put}
use Rattle.world.specs.Logs.{payloads, sent, sent_in_all, covered, length_in}
use Rattle.world.specs.Refusals.{one_if}
use Rattle.theorems.specs.Orphans.{payloads_of}
use Rattle.theorems.specs.Invariants.Sound.{Replays}
use Rattle.theorems.proofs.Changes.{choose}
use Rattle.theorems.proofs.ListLemmas.{take-all, begins-length}
use Rattle.theorems.proofs.PhaseLemmas.{up-length}
use Rattle.theorems.proofs.TidyLemmas.{sent-more}
use Rattle.cluster.specs.Parcels.{Delivery, Restored}
use Rattle.cluster.specs.Cluster.{Cluster, opening, is_well, waiting, WINDOW}
use Rattle.cluster.specs.Rules.{Act, Arrives, Works, Replays as ReplaysOne, Recovers, Keeps, May, does, kept_by, Run, after_run}
use Rattle.cluster.specs.Memory.{receipts, how_many, is_of, counts, taken_since, unsaved, LogHas, ReceiptsAreNew, LogsWait, FewWait}
use Rattle.cluster.specs.Inside.Agrees.{Beside, world, Agrees}
use Rattle.cluster.proofs.Worlds.{Lawful}
use Rattle.cluster.proofs.Facts.{well-is}
use Rattle.cluster.proofs.Growth.{either-way}
use Rattle.cluster.proofs.RecoveryPoint.{kept-is}
use Rattle.cluster.proofs.Promised.{output-once-node, received-once-node}
use Rattle.cluster.proofs.Runs.{Holds, run-holds, step-holds, opens-holds}

-- Receipts

-- behind the first k of a history with one message more there is at most that one more
many-push : (test : Message → Bool) (k : ℕ) (h : List Message) (m : Message) → how_many test (drop k (h ++ m ∷ [])) ≤ (if test m then 1 else 0) + how_many test (drop k h)
many-push test zero [] m = omega arith
many-push test zero (x ∷ h) m = let r : how_many test (drop 0 (h ++ m ∷ [])) ≤ (if test m then 1 else 0) + how_many test (drop 0 h) = many-push test zero h m in omega arith
many-push test (suc k) [] m = nothing k
  where
    nothing : (k : ℕ) → how_many test (drop k []) ≤ (if test m then 1 else 0) + 0
    nothing zero = omega arith
    nothing (suc k) = omega arith
many-push test (suc k) (x ∷ h) m = many-push test k h m

-- and of a beginning of it, no more
pub many-take : (test : Message → Bool) (k n : ℕ) (h : List Message) → how_many test (drop k (take n h)) ≤ how_many test (drop k h)
many-take test zero zero [] = omega arith
many-take test zero (suc n) [] = omega arith
many-take test (suc k) zero [] = omega arith
many-take test (suc k) (suc n) [] = omega arith
many-take test zero zero (x ∷ h) = omega arith
many-take test (suc k) zero (x ∷ h) = omega arith
many-take test zero (suc n) (x ∷ h) = let r : how_many test (drop 0 (take n h)) ≤ how_many test (drop 0 h) = many-take test zero n h in omega arith
many-take test (suc k) (suc n) (x ∷ h) = many-take test k n h

-- behind all there is none
many-none : (test : Message → Bool) (h : List Message) → how_many test (drop (length h) h) ≡ 0
many-none test [] = refl
many-none test (x ∷ h) = many-none test h

module _ (test : Message → Bool) (p : ℕ) (c : Cluster) (b : Beside) (agrees : Agrees c b) (lawful : Lawful (world c b)) (k : ℕ) (h : how_many test (receipts c p) ≤ k) where
  works : (q : ℕ) (m : Message) → how_many test (receipts (does c (Works q m)) p) ≤ (if p == q then (if test m then 1 else 0) + k else k)
  works q m =
      choose q (λ j t. how_many test (receipts c j) ≤ k → how_many test (drop (c.world.saved j) (if t then c.world.history q ++ m ∷ [] else c.world.history j)) ≤ (if t then (if test m then 1 else 0) + k else k))
      (λ g. let r : how_many test (drop (c.world.saved q) (c.world.history q ++ m ∷ [])) ≤ (if test m then 1 else 0) + how_many test (receipts c q) = many-push test (c.world.saved q) (c.world.history q) m in omega arith) (λ j _ g. g) p h

  keeps : (q : ℕ) → how_many test (receipts (does c (Keeps q)) p) ≤ (if p == q then 0 else k)
  keeps q =
      choose q (λ j t. how_many test (receipts c j) ≤ k → how_many test (drop (if t then length (c.world.history q) else c.world.saved j) (c.world.history j)) ≤ (if t then 0 else k))
      (λ g. let r : how_many test (drop (length (c.world.history q)) (c.world.history q)) ≡ 0 = many-none test (c.world.history q) in omega arith) (λ j _ g. g) p h

  recovers : (q n : ℕ) → May c (Recovers q n) → how_many test (drop (c.world.saved p) (put c.world.history q (kept_by c q n) p)) ≤ k
  recovers q n may =
      choose q (λ j t. how_many test (receipts c j) ≤ k → how_many test (drop (c.world.saved j) (if t then kept_by c q n else c.world.history j)) ≤ k)
      (λ g. let r : how_many test (drop (c.world.saved q) (take n (c.world.history q))) ≤ how_many test (receipts c q) = many-take test (c.world.saved q) n (c.world.history q) in rw (kept-is c b q n agrees lawful may) (omega arith)) (λ j _ g. g) p h

  -- each step keeps at most what it may
  pub receipts-step : (a : Act) → May c a → how_many test (receipts (does c a) p) ≤ counts test p a k
  receipts-step (Arrives q r (Restored i j n s (Some u) f)) may = h
  receipts-step (Arrives q zero (Delivery i ssn x)) may = h
  receipts-step (Works q m) may = works q m
  receipts-step (ReplaysOne q j) may = either-way (nat_lt (c.world.saved q + suc j) (length (c.world.history q))) _ _ (λ v. how_many test (receipts v p) ≤ k) h h
  receipts-step (Recovers q n) may = either-way (nat_lt (c.world.saved q) n) _ _ (λ v. how_many test (receipts v p) ≤ k) (recovers q n may) (recovers q n may)
  receipts-step (Arrives zero q (Restored i j n s None f)) may = h
  receipts-step (Keeps q) may = keeps q
  receipts-step act may = h

-- and so each run
receipts-run : (test : Message → Bool) (p : ℕ) (c : Cluster) (acts : List Act) → c.world.count ≤ 15 → Holds c → Run c acts → (k : ℕ) → how_many test (receipts c p) ≤ k → how_many test (receipts (after_run c acts) p) ≤ taken_since test p k acts
receipts-run test p c [] n h r k l = l
receipts-run test p c (a ∷ acts) n h r k l = let s = step-holds c a n h r.0 in receipts-run test p (does c a) acts s.1 s.0 r.1 (counts test p a k) (receipts-step test p c h.beside h.agrees h.lawful k l a r.0)

pub receipts-are-new : ReceiptsAreNew
receipts-are-new n f acts p test s = receipts-run test p (opening n f) acts s.few (opens-holds n f s.grows) s.run 0 (omega arith)

-- Logs

-- as many payloads as messages
pub count-payloads : (p : ℕ) (h : List Message) → length (payloads_of p h) ≡ count_of p h
count-payloads p [] = refl
count-payloads p (m ∷ h) = split (m.sender == p) (count-payloads p h)
  where
    split : (b : Bool) → length (payloads_of p h) ≡ count_of p h → length (if b then m.payload ∷ payloads_of p h else payloads_of p h) ≡ (if b then 1 else 0) + count_of p h
    split true e = omega arith
    split false e = omega arith

-- the messages of a sender among the first k, and those behind them
count-parts : (s k : ℕ) (h : List Message) → count_of s h ≡ count_of s (take k h) + how_many (is_of s) (drop k h)
count-parts s zero [] = refl
count-parts s (suc k) [] = refl
count-parts s zero (m ∷ h) = let r : count_of s h ≡ count_of s (take 0 h) + how_many (is_of s) (drop 0 h) = count-parts s zero h in let z : count_of s (take 0 h) ≡ 0 = none h in omega arith
  where
    none : (h : List Message) → count_of s (take 0 h) ≡ 0
    none [] = refl
    none (x ∷ h) = refl
count-parts s (suc k) (m ∷ h) = let r : count_of s h ≡ count_of s (take k h) + how_many (is_of s) (drop k h) = count-parts s k h in omega arith

-- a node has no more of its history in its state than all
within-history : (x : Phase) (h : List Message) (saved : ℕ) → saved ≤ length h → Replays saved (length h) x → length_in h saved x ≤ length h
within-history Down h saved l r = l
within-history other h saved l r = omega arith

module _ (c : Cluster) (b : Beside) (agrees : Agrees c b) (lawful : Lawful (world c b)) where
  -- what anyone took was sent
  pub taken-sent : (p d : ℕ) → count_of p (if d == 0 then c.world.shown else c.world.history d) ≤ sent_in_all c.world p d
  taken-sent p = choose 0 (λ d t. count_of p (if t then c.world.shown else c.world.history d) ≤ sent_in_all c.world p d)
      (let l : length (payloads_of p c.world.shown) ≤ sent_in_all c.world p 0 = begins-length _ _ (output-once-node c b agrees lawful p) in
      let q : length (payloads_of p c.world.shown) ≡ count_of p c.world.shown = count-payloads p c.world.shown in
      omega arith)
      (λ d _.
      let l : length (payloads_of p (c.world.history d)) ≤ sent_in_all c.world p d = begins-length _ _ ((received-once-node c b agrees lawful).order p d) in
      let q : length (payloads_of p (c.world.history d)) ≡ count_of p (c.world.history d) = count-payloads p (c.world.history d) in
      omega arith)

  -- what anyone took it has for good, or took since its checkpoint
  pub taken-parts : (p d : ℕ) → count_of p (if d == 0 then c.world.shown else c.world.history d) ≡ covered c.world p d + unsaved c p d
  taken-parts p d = split (d == 0)
    where
      split : (t : Bool) → count_of p (if t then c.world.shown else c.world.history d) ≡ count_of p (if t then c.world.shown else take (c.world.saved d) (c.world.history d)) + (if t then 0 else how_many (is_of p) (receipts c d))
      split true = omega arith
      split false = count-parts p (c.world.saved d) (c.world.history d)

  -- one that is up has sent all that its history sends
  pub well-sent : (p d : ℕ) → is_well c p ≡ true → length (sent c.world p d) ≡ sent_in_all c.world p d
  well-sent p d w =
      let n : length_in (c.world.history p) (c.world.saved p) (c.world.phase p) ≡ length (c.world.history p) = up-length (c.world.phase p) (well-is c p w).2 (c.world.history p) (c.world.saved p) in
      rw n (rw (take-all (c.world.history p)) refl)

  log-has : (p d : ℕ) → LogHas c p d
  log-has p d =
      let trimmed : c.world.trims p d ≤ covered c.world p d = agrees.trimmed.trimmed p d in
      let parts : count_of p (if d == 0 then c.world.shown else c.world.history d) ≡ covered c.world p d + unsaved c p d = taken-parts p d in
      let all : count_of p (if d == 0 then c.world.shown else c.world.history d) ≤ sent_in_all c.world p d = taken-sent p d in
      let few : length (sent c.world p d) ≤ sent_in_all c.world p d = so-far in
      record { most = omega arith; whole = λ w. let e : length (sent c.world p d) ≡ sent_in_all c.world p d = well-sent p d w in omega arith }
    where
      so-far : length (sent c.world p d) ≤ sent_in_all c.world p d
      so-far =
          let l : length_in (c.world.history p) (c.world.saved p) (c.world.phase p) ≤ length (c.world.history p) = within-history (c.world.phase p) (c.world.history p) (c.world.saved p) (lawful.sound.saved p) (lawful.sound.replays p) in
          let P : List Message → Type 0 = λ h. length (sent c.world p d) ≤ length (payloads c.world p h d) in
          subst P (take-all (c.world.history p)) (sent-more c.world lawful.sound.grows p (c.world.history p) d _ _ l)

  few-wait : (p : ℕ) → (0 < p) × (p ≤ c.world.count) → waiting c p ≤ WINDOW
  few-wait p i = let l : waiting c p + one_if (is_busy (c.world.phase p)) ≤ WINDOW = agrees.wired.window p i in omega arith

pub logs-wait : LogsWait
logs-wait n f acts p d s = let h = run-holds n f acts s.few s.grows s.run in log-has _ h.beside h.agrees h.lawful p d

pub few-numbers-wait : FewWait
few-numbers-wait n f acts p s i = let h = run-holds n f acts s.few s.grows s.run in few-wait _ h.beside h.agrees h.lawful p i
