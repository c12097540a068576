-- What a page tells of was sent
use Rattle.std.proofs.Common.{◌≡◌, ◌≢◌, ℕ, zero, suc, ◌+◌, ◌<◌, ◌≤◌, List, [], ◌∷◌, ◌++◌, length, take, Bool, true, false, refl, sym, ap, ◌∙◌, subst, arith}
use Rattle.std.specs.Prelude.{Option, Some, None, ◌==◌, nat_lt, nat_le, if◌then◌else◌}
use Rattle.std.proofs.lemmas.Bool.Decides.{nat_tests}
use Rattle.std.proofs.lemmas.List.{length-append}
use Rattle.world.specs.declared.message.Message.{Message}
use Rattle.world.specs.History.{nth, count_of, rsn_of}
use Rattle.world.specs.Phases.{is_up}
use Rattle.world.specs.Logs.{payloads, covered}
use Rattle.theorems.specs.Invariants.Exact.{Names}
use Rattle.theorems.specs.Orphans.{payloads_of}
use Rattle.theorems.proofs.HistoryLemmas.{names-found}
use Rattle.theorems.proofs.ListLemmas.{at-number, nth-within, begins-length}
use Rattle.cluster.specs.Parcels.{Body, Restored, In, parcel, reaches}
use Rattle.cluster.specs.Cluster.{Cluster}
use Rattle.cluster.specs.Exact.{bare}
use Rattle.cluster.specs.Promises.{NoOrphanNode, OutputOnce, ReceivedOnce}
use Rattle.cluster.specs.Inside.Agrees.{is_back}
use Rattle.cluster.proofs.Promised.{nodes-keep}
use Rattle.cluster.proofs.Runs.{Holds, run-holds}
use Rattle.packets.specs.Packet.{is_done}
use Rattle.packets.specs.declared.page.Pair.{Pair}
use Rattle.packets.specs.declared.page.Flags.{Flags}
use Rattle.node.specs.Node.{log_at}
use Rattle.packets.specs.Says.{last_behind, restored_end, first_number}
use Rattle.recovery.specs.Intake.{AscendFrom, sent_to}
use Rattle.recovery.proofs.Notes.{ssns, last-above}
use Rattle.recovery.specs.Restoration.{TheRestoring, has_answered, left, last_ssn}
use Rattle.recovery.specs.RestorationStands.{StandsRestoring}
use Rattle.recovery.specs.Fits.{PagesFit}
use Rattle.recovery.proofs.Left.{both-off, waits-on}
use Rattle.recovery.proofs.RestorationPages.{page-in-range}
use Rattle.recovery.proofs.RestorationInquiries.{left-has}

-- as many payloads as messages
many-payloads : (s : ℕ) (h : List Message) → length (payloads_of s h) ≡ count_of s h
many-payloads s [] = refl
many-payloads s (m ∷ ms) = split (m.sender == s) (many-payloads s ms)
  where
    split : (b : Bool) → length (payloads_of s ms) ≡ count_of s ms → length (if b then m.payload ∷ payloads_of s ms else payloads_of s ms) ≡ (if b then 1 else 0) + count_of s ms
    split true e = omega (arith, e)
    split false e = omega (arith, e)

-- of the first messages no more are of a sender than of all
count-first : (s k : ℕ) (h : List Message) → count_of s (take k h) ≤ count_of s h
count-first s zero h = omega arith
count-first s (suc k) [] = omega arith
count-first s (suc k) (m ∷ ms) = let e : count_of s (take k ms) ≤ count_of s ms = count-first s k ms in omega (arith, e)

-- a page has a number for its last SSN
last-number : (x : Pair) (xs : List Pair) → AscendFrom x.ssn xs → (m : ℕ) × (first_number (x ∷ xs) (last_behind x.ssn (ssns xs)) ≡ Some m)
last-number x [] a = let e : (x.ssn == x.ssn) ≡ true = grind (arith, nat_tests) in (x.number, rw e refl)
last-number x (y ∷ ys) a =
    let rest = last-number y ys a.1 in
    let next : x.ssn < y.ssn = a.0 in
    let far : y.ssn ≤ last_behind y.ssn (ssns ys) = last-above y.ssn ys a.1 in
    let apart : (x.ssn == last_behind y.ssn (ssns ys)) ≡ false = (let g : x.ssn < last_behind y.ssn (ssns ys) = omega (arith, next, far) in grind (arith, nat_tests)) in
    (rest.0, rw apart rest.1)

-- it reaches that
reaches-last : (done : Bool) (v : ℕ) → reaches (if done then None else Some v) v ≡ true
reaches-last true v = refl
reaches-last false v = let e : nat_le v v ≡ true = grind (arith, nat_tests) in e

-- as long as a process waits for one it isn't back
not-back : (n : TheRestoring) (c : Cluster) (q : ℕ) → StandsRestoring n c n.own.me → q ≤ n.own.count → has_answered q n ≡ false → is_back c n.own.me ≡ false
not-back n c zero s low open_is = let e : c.greeted n.own.me ≡ false = s.greeted ∙ open_is in rw e (both-off (is_up (c.world.phase n.own.me)))
not-back n c (suc q) s low open_is =
    let e : is_up (c.world.phase n.own.me) ≡ false = ap is_up s.phase ∙ waits-on (left n) (suc q) (left-has n (suc q) (omega arith) low open_is) in
    rw e refl

module _ (n : TheRestoring) (c : Cluster) (from j k s : ℕ) (flags : Flags) (pairs : List Pair) (f : ℕ → Option ℕ) (h : Holds (bare c)) (orphan : NoOrphanNode (bare c)) (shown : OutputOnce (bare c)) (received : ReceivedOnce (bare c)) (st : StandsRestoring n c n.own.me)
    (low : from ≤ n.own.count) (other : from ≢ n.own.me) (open_is : has_answered from n ≡ false) (page : AscendFrom s pairs) (given : In (parcel from n.own.me (Restored n.own.life j k s (restored_end flags s pairs) f)) c.parcels)
    (says : (ssn : ℕ) → s < ssn → k < ssn → reaches (restored_end flags s pairs) ssn ≡ true → f ssn ≡ first_number pairs ssn) where
  abbrev p : ℕ
  p = n.own.me

  abbrev sent : ℕ
  sent = sent_to from n.own

  inner : (p == 0) ≡ false
  inner = let z : 0 < p = st.own.inside.0 in grind (arith, nat_tests)

  -- how much p sent there
  sent-is : length (payloads c.world p (c.world.history p) from) ≡ sent
  sent-is =
      let t = st.own.logs from (omega (arith, low, st.own.count)) other in
      let e : length (t.before ++ (log_at n.own.logs from).payloads) ≡ length t.before + length (log_at n.own.logs from).payloads = length-append t.before (log_at n.own.logs from).payloads in
      rw inner (ap length (sym t.joined) ∙ omega (arith, e, t.many))

  fine : (k ≤ covered c.world p from) × ((ssn : ℕ) → s < ssn → reaches (restored_end flags s pairs) ssn ≡ true → f ssn ≡ rsn_of (c.world.history from) p ssn)
  fine =
      let x = (h.agrees.parcels from p (Restored n.own.life j k s (restored_end flags s pairs) f) given).3 in
      (x.covers, (x.now (sym st.life) (not-back n c from st low open_is)).2)

  covered-sent : covered c.world p from ≤ sent
  covered-sent = split (from == 0) refl
    where
      split : (b : Bool) → (from == 0) ≡ b → count_of p (if b then c.world.shown else take (c.world.saved from) (c.world.history from)) ≤ sent
      split true e =
          let same : 0 ≡ from = grind (arith, nat_tests) in
          let most : length (payloads_of p c.world.shown) ≤ length (payloads c.world p (c.world.history p) 0) = begins-length _ _ (shown p) in
          let P : ℕ → Type 0 = λ z. length (payloads_of p c.world.shown) ≤ length (payloads c.world p (c.world.history p) z) in
          let here : length (payloads_of p c.world.shown) ≤ length (payloads c.world p (c.world.history p) from) = subst P same most in
          omega (arith, many-payloads p c.world.shown, here, sent-is)
      split false e =
          let most : length (payloads_of p (c.world.history from)) ≤ length (payloads c.world p (c.world.history p) from) = begins-length _ _ (received.order p from) in
          omega (arith, many-payloads p (c.world.history from), most, sent-is, count-first p (c.world.saved from) (c.world.history from))

  -- a message that was received was sent
  found-sent : (ssn m : ℕ) → rsn_of (c.world.history from) p ssn ≡ Some m → ssn ≤ sent
  found-sent ssn m e =
      let names : Names (c.world.history from) m p ssn = names-found (c.world.history from) p ssn m e in
      let at = at-number (c.world.history from) m names.message names.at in
      let got = orphan.received from at.0 names.message at.2 in
      let P : ℕ → Type 0 = λ z. nth (payloads c.world z (c.world.history z) from) names.message.ssn ≡ Some names.message.payload in
      let here : nth (payloads c.world p (c.world.history p) from) names.message.ssn ≡ Some names.message.payload = subst P names.sender got in
      let inside = (nth-within (payloads c.world p (c.world.history p) from) names.message.ssn names.message.payload here).1 in
      omega (arith, inside, names.ssn, sent-is)

  covered-fits : k ≤ sent
  covered-fits = omega (arith, fine.0, covered-sent)

  last-fits : (xs : List Pair) → xs ≡ pairs → last_ssn 0 xs ≤ sent
  last-fits [] e = omega arith
  last-fits (x ∷ xs) e =
      let P : List Pair → Type 0 = λ ys. AscendFrom s ys in
      let own : AscendFrom s (x ∷ xs) = subst P (sym e) page in
      let v : ℕ = last_behind x.ssn (ssns xs) in
      let first : s < x.ssn = own.0 in
      let far : x.ssn ≤ v = last-above x.ssn xs own.1 in
      let above : s < v = omega (arith, first, far) in
      let number = last-number x xs own.1 in
      let here : first_number pairs v ≡ Some number.0 = ap (λ ys. first_number ys v) (sym e) ∙ number.1 in
      let Q : List Pair → Type 0 = λ ys. reaches (restored_end flags s ys) v ≡ true in
      let there : reaches (restored_end flags s pairs) v ≡ true = subst Q e (reaches-last (is_done flags) v) in
      split v number.0 above here there (nat_lt k v) refl
    where
      split : (v m : ℕ) → s < v → first_number pairs v ≡ Some m → reaches (restored_end flags s pairs) v ≡ true → (b : Bool) → nat_lt k v ≡ b → v ≤ sent
      split v m above here there true e = found-sent v m (sym (fine.1 v above there) ∙ says v above (let g : k < v = grind (arith, nat_tests) in g) there ∙ here)
      split v m above here there false e = (let g : v ≤ k = grind (arith, nat_tests) in omega (arith, g, covered-fits))

pub pages-fit : PagesFit
pages-fit count f acts c n from j k s flags pairs few grows run st low open_is fits said =
    let h : Holds (bare c) = subst Holds run.1 (run-holds count f acts few grows run.0) in
    let Keeps : Cluster → Type 0 = λ d. NoOrphanNode d × OutputOnce d × ReceivedOnce d in
    let keeps : Keeps (bare c) = subst Keeps run.1 (nodes-keep count f acts few grows run.0) in
    let me = n.own.me in
    let g = said.1.0 in
    let given : In (parcel from me (Restored n.own.life j k s (restored_end flags s pairs) g)) c.parcels = (let P : Body → Type 0 = λ b. In (parcel from me b) c.parcels in subst P said.1.1 said.2) in
    let other : from ≢ me = (h.agrees.parcels from me (Restored n.own.life j k s (restored_end flags s pairs) g) given).2 in
    let page = page-in-range n.own.life j k s flags pairs fits in
    (covered-fits n c from j k s flags pairs g h keeps.0 keeps.1 keeps.2 st low other open_is page given said.1.2, last-fits n c from j k s flags pairs g h keeps.0 keeps.1 keeps.2 st low other open_is page given said.1.2 pairs refl)
