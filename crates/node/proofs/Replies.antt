-- One that comes back is answered
use Rattle.std.proofs.Common.{◌≡◌, ◌≢◌, inl, ℕ, zero, suc, ◌<◌, ◌≤◌, List, [], ◌∷◌, length, map, take, Bool, true, false, refl, sym, ap, ◌∙◌, subst, arith}
use Rattle.std.specs.Prelude.{Option, Some, None, ◌==◌, ◌&&◌, ◌||◌, not, nat_lt, if◌then◌else◌, slice_index_or, slice_set}
use Rattle.std.proofs.lemmas.Bool.Decides.{nat_tests}
use Rattle.std.proofs.lemmas.List.{get_or-set_same, get_or-set_other, length-map}
use Rattle.world.specs.declared.message.Message.{Message}
use Rattle.world.specs.History.{Payload, rsn_of}
use Rattle.world.specs.Phases.{Busy}
use Rattle.world.specs.Calls.{up_to}
use Rattle.theorems.proofs.Changes.{at-itself}
use Rattle.theorems.proofs.Tests.{neither, not-false}
use Rattle.cluster.specs.Parcels.{Ask, Told, Resume, Restored, In, parcel, flagged}
use Rattle.cluster.specs.Rules.{Arrives, entry_of, put2}
use Rattle.node.specs.declared.job.OpenJob.{OpenJob}
use Rattle.node.specs.Queue.{TheQueue, forgotten_above}
use Rattle.node.specs.Node.{TheNode, Within, log_at, posts, covered_of}
use Rattle.packets.specs.Packet.{is_exact, flags_of}
use Rattle.packets.specs.declared.page.LoggedMessage.{LoggedMessage}
use Rattle.rsn.specs.Receipts.{numbers_of}
use Rattle.node.specs.Pages.{entries_in, told_of, told_page, told_all, pairs_above, most_pairs, restored_all, restored_of}
use Rattle.node.specs.Answers.{heard_of, hears, asked_by, works_for, obeys, resumed_by}
use Rattle.packets.specs.Says.{told_end, restored_end}
use Rattle.node.specs.Stands.{Stands, KeepsOf, IsShut, sent_by, most_released, Receives, Acts, phase_of, job_of}
use Rattle.node.proofs.Logs.{changed-at}
use Rattle.cluster.proofs.Goes.{goes-act}
use Rattle.node.proofs.Puts.{stands-takes, stands-well, posted, stays}
use Rattle.node.proofs.StandsLemmas.{stands-with}
use Rattle.node.proofs.Steps.{owes-then, by-if}
use Rattle.node.proofs.Arrivals.{covers}
use Rattle.packets.proofs.PageLemmas.{Ordered}
use Rattle.packets.proofs.Reports.{entries-ordered, page-told, page-goes, lost-is, exact-is}
use Rattle.node.proofs.Reports.{log-told}
use Rattle.node.proofs.PairRanges.{pairs-fit}
use Rattle.node.proofs.Restoration.{history-told, pairs-told, pairs-go}

-- a list with one value changed, as a function with one
set-at : {X : Type 0} (xs : List X) (r : ℕ) (v d : X) (q : ℕ) → r < length xs → (if q == r then v else slice_index_or xs q d) ≡ slice_index_or (slice_set xs r v) q d
set-at xs r v d q wide = split (q == r) refl
  where
    split : (b : Bool) → (q == r) ≡ b → (if b then v else slice_index_or xs q d) ≡ slice_index_or (slice_set xs r v) q d
    split true e = let same : q ≡ r = grind (arith, nat_tests) in sym (ap (λ z. slice_index_or (slice_set xs r v) z d) same ∙ get_or-set_same xs r v d wide)
    split false e = let apart : q ≢ r = grind (arith, nat_tests) in sym (get_or-set_other xs r q v d apart)

-- ---- Ask

-- the entries of its log are in the order of their numbers
ordered : (n : TheNode) (d k : ℕ) → Ordered (suc k) (entries_in k (log_at n.logs d))
ordered n d k = let q = log_at n.logs d in entries-ordered k q.dropped q.payloads q.numbers

-- a page of its log it may tell to one of whose incarnation it has heard
telling : (n : TheNode) (d i k : ℕ) → d ≤ n.count → d ≢ n.me → heard_of d n ≡ i → Acts n (posts d (told_of d i k n) n)
telling n d i k low other heard c s u =
    let within : d ≤ c.world.count = omega (arith, low, s.count) in
    let all : List LoggedMessage = entries_in k (log_at n.logs d) in
    let end : Option ℕ = told_end (flags_of (told_all d k n) false n.exact) k (told_page d k n) in
    posted n c d (told_of d i k n) (Told i n.life k end (entry_of c n.me d))
    (entry_of c n.me d, refl, lost-is (told_all d k n) n.exact, λ m above reach. log-told n c d s within other k m above ∙ page-told n.limits.page n.me k m n.exact all above (ordered n d k) reach)
    s low other
    (stands-well n c n.me s, sym (s.heard d within ∙ heard), sym s.life, λ v e. page-goes n.limits.page k v n.exact all (ordered n d k) e, λ m above reach. refl) tt
    (inl (ap (λ z. flagged (parcel n.me d (Told i n.life k end (entry_of c n.me d))) z false) (exact-is (told_all d k n) n.exact ∙ sym s.exact)))

-- it hears of a newer incarnation
hearing : (n : TheNode) (d i k : ℕ) → n.frozen ≡ false → d ≤ n.count → d < length n.heard → d < length n.resumed → heard_of d n < i
    → Receives d (Ask i k) n (record n { heard = slice_set n.heard d i; resumed = slice_set n.resumed d false })
hearing n d i k live low wide broad newer c s given =
    let within : d ≤ c.world.count = omega (arith, low, s.count) in
    goes-act true n.me (λ e. Stands (record n { heard = slice_set n.heard d i; resumed = slice_set n.resumed d false }) e n.me) c (Arrives d n.me (Ask i k))
    (given, (omega (arith, s.heard d within, newer), inl (stands-takes n c n.me live s))) tt tt refl
    (stands-with n c n.me s s.logs s.gates
    (λ q l. at-itself n.me (λ t. (if t && (q == d) then i else c.heard n.me q) ≡ slice_index_or (slice_set n.heard d i) q 0)
    (ap (λ z. if q == d then i else z) (s.heard q l) ∙ set-at n.heard d i 0 q wide))
    (λ q l. at-itself n.me (λ t. (if t && (q == d) then false else c.resumed n.me q) ≡ slice_index_or (slice_set n.resumed d false) q true)
    (ap (λ z. if q == d then false else z) (s.resumed q l) ∙ set-at n.resumed d false true q broad))
    s.out)

-- an Ask comes
pub asks : (n : TheNode) (from i k : ℕ) → Within n → n.frozen ≡ false → from ≤ n.count → from ≢ n.me → Receives from (Ask i k) n (asked_by from i k n)
asks n from i k w live low other =
    by-if P (nat_lt i (heard_of from n)) n (posts from (told_of from i k n) (hears from i n)) (λ e c s given. stays n c s)
    (λ e. by-if (λ m. P (posts from (told_of from i k n) m)) (nat_lt (heard_of from n) i) newer n
    (λ f. owes-then (λ c. In (parcel from n.me (Ask i k)) c.parcels) n newer (posts from (told_of from i k n) newer)
    (hearing n from i k live low wide broad (grind (arith, nat_tests))) (telling newer from i k low other here))
    (λ f c s given. telling n from i k low other (grind (arith, nat_tests)) c s tt))
  where
    P : TheNode → Type 0
    P new = Receives from (Ask i k) n new

    newer : TheNode
    newer = record n { heard = slice_set n.heard from i; resumed = slice_set n.resumed from false }

    wide : from < length n.heard
    wide = omega (arith, w.heard_wide, low)

    broad : from < length n.resumed
    broad = omega (arith, w.resumed_wide, low)

    here : slice_index_or (slice_set n.heard from i) from 0 ≡ i
    here = get_or-set_same n.heard from i 0 wide

-- ---- Resume

no-job : (o : Option OpenJob) (d : ℕ) (m : Message) → works_for d o ≡ false → phase_of o ≡ Busy m → m.sender ≢ d
no-job None d m off e f = absurd (cc)
no-job (Some j) d m off e f =
    let is : job_of j ≡ m = (cc) in
    let same : j.sender ≡ m.sender = ap (λ (x : Message). x.sender) is in
    let apart : j.sender ≢ d = grind (arith, nat_tests) in
    apart (same ∙ f)

-- a page of what it received it may tell to one whose Resume it has obeyed
restoring : (n : TheNode) (d i a : ℕ) → d ≤ n.count → d ≢ n.me → heard_of d n ≡ i → slice_index_or n.resumed d true ≡ true → works_for d n.working ≡ false → 0 < most_pairs n.limits.page → Acts n (posts d (restored_of d i a n) n)
restoring n d i a low other heard obeyed free some c s u =
    let within : d ≤ c.world.count = omega (arith, low, s.count) in
    let covered : ℕ = covered_of d n in
    let ks : List ℕ = numbers_of d n.receipts in
    let end : Option ℕ = restored_end (flags_of (restored_all d a n) false n.exact) a (take (most_pairs n.limits.page) (pairs_above d a n)) in
    posted n c d (restored_of d i a n) (Restored i n.life covered a end (rsn_of (c.world.history n.me) d))
    (rsn_of (c.world.history n.me) d, refl, λ ssn above behind reach. history-told n c d ssn s low behind ∙ pairs-told (most_pairs n.limits.page) some n.base covered a n.exact ks ssn above behind reach)
    s low other (
      stands-well n c n.me s,
      sym (s.heard d within ∙ heard),
      s.resumed d within ∙ obeyed,
      λ m e. no-job n.working d m free (sym s.phase ∙ e),
      sym s.life,
      covers n c n.me d s low s.inside.0,
      λ v e. pairs-go (most_pairs n.limits.page) some n.base covered a n.exact ks v e,
      λ ssn above reach. refl,
    ) tt
    (inl (ap (λ z. flagged (parcel n.me d (Restored i n.life covered a end (rsn_of (c.world.history n.me) d))) z false) (exact-is (restored_all d a n) n.exact ∙ sym s.exact)))

get-map : {X Y : Type 0} (f : X → Y) (xs : List X) (i : ℕ) (d : X) → slice_index_or (map f xs) i (f d) ≡ f (slice_index_or xs i d)
get-map f [] i d = refl
get-map f (x ∷ xs) zero d = refl
get-map f (x ∷ xs) (suc i) d = get-map f xs i d

-- a queue whose numbers above k are forgotten
kept-forgotten : (q : TheQueue) (dropped : ℕ) (xs : List Payload) (numbers : ℕ → Option ℕ) (k : ℕ) → KeepsOf q dropped xs numbers → KeepsOf (forgotten_above k q) dropped xs (λ ssn. up_to k (numbers ssn))
kept-forgotten q dropped xs numbers k s =
    record {
      before = s.before;
      many = s.many;
      joined = s.joined;
      dropped_is = s.dropped_is;
      as_many = length-map q.numbers (up_to k) ∙ s.as_many;
      numbers_are = λ i l. get-map (up_to k) q.numbers i None ∙ ap (up_to k) (s.numbers_are i l);
      beyond = λ i l. ap (up_to k) (s.beyond i l);
    }

-- it obeys a Resume
obeying : (n : TheNode) (d i k a : ℕ) → n.frozen ≡ false → d ≤ n.count → d ≢ n.me → d < length n.logs → d < length n.resumed → heard_of d n ≡ i → slice_index_or n.resumed d true ≡ false → works_for d n.working ≡ false
    → Receives d (Resume i k a) n (record n { logs = slice_set n.logs d (forgotten_above k (log_at n.logs d)); resumed = slice_set n.resumed d true })
obeying n d i k a live low other wide broad heard fresh free c s given =
    goes-act true n.me (λ e. Stands (record n { logs = slice_set n.logs d (forgotten_above k (log_at n.logs d)); resumed = slice_set n.resumed d true }) e n.me) c (Arrives d n.me (Resume i k a))
    (given, (stands-takes n c n.me live s, sym (s.heard d within ∙ heard), s.resumed d within ∙ fresh, λ m e. no-job n.working d m free (sym s.phase ∙ e))) tt tt refl
    (stands-with n c n.me s logs gates s.heard
    (λ q l. at-itself n.me (λ t. (if t && (q == d) then true else c.resumed n.me q) ≡ slice_index_or (slice_set n.resumed d true) q true)
    (ap (λ z. if q == d then true else z) (s.resumed q l) ∙ set-at n.resumed d true true q broad))
    s.out)
  where
    within : d ≤ c.world.count
    within = omega (arith, low, s.count)

    here : (e : ℕ) → e ≡ d → KeepsOf (forgotten_above k (log_at n.logs d)) (c.world.trims n.me e) (c.world.handlers.sends n.me (c.world.history n.me) e) (if e == d then (λ (ssn : ℕ). up_to k (c.world.numbers n.me d ssn)) else c.world.numbers n.me e)
    here e same =
        let on : (e == d) ≡ true = grind (arith, nat_tests) in
        let Q : ℕ → Type 0 = λ z. KeepsOf (forgotten_above k (log_at n.logs d)) (c.world.trims n.me z) (c.world.handlers.sends n.me (c.world.history n.me) z) (λ ssn. up_to k (c.world.numbers n.me d ssn)) in
        rw on (subst Q (sym same) (kept-forgotten (log_at n.logs d) (c.world.trims n.me d) (c.world.handlers.sends n.me (c.world.history n.me) d) (c.world.numbers n.me d) k (s.logs d within other)))

    there : (e : ℕ) → e ≤ c.world.count → e ≢ n.me → e ≢ d → KeepsOf (log_at n.logs e) (c.world.trims n.me e) (c.world.handlers.sends n.me (c.world.history n.me) e) (if e == d then (λ (ssn : ℕ). up_to k (c.world.numbers n.me d ssn)) else c.world.numbers n.me e)
    there e l o apart = let off : (e == d) ≡ false = grind (arith, nat_tests) in rw off (s.logs e l o)

    logs : (e : ℕ) → e ≤ c.world.count → e ≢ n.me → KeepsOf (log_at (slice_set n.logs d (forgotten_above k (log_at n.logs d))) e) (c.world.trims n.me e) (c.world.handlers.sends n.me (c.world.history n.me) e) (put2 c.world.numbers n.me d (λ ssn. up_to k (c.world.numbers n.me d ssn)) n.me e)
    logs e l o = at-itself n.me (λ t. KeepsOf (log_at (slice_set n.logs d (forgotten_above k (log_at n.logs d))) e) (c.world.trims n.me e) (c.world.handlers.sends n.me (c.world.history n.me) e) (if t && (e == d) then (λ ssn. up_to k (c.world.numbers n.me d ssn)) else c.world.numbers n.me e))
        (changed-at (λ q. KeepsOf q (c.world.trims n.me e) (c.world.handlers.sends n.me (c.world.history n.me) e) (if e == d then (λ (ssn : ℕ). up_to k (c.world.numbers n.me d ssn)) else c.world.numbers n.me e)) n.logs d (forgotten_above k (log_at n.logs d)) e wide (here e) (there e l o))

    gates : (e : ℕ) → e ≤ c.world.count → e ≢ n.me → IsShut (log_at (slice_set n.logs d (forgotten_above k (log_at n.logs d))) e) (length (c.world.history n.me)) (most_released n.limits.durable c n.me e) (sent_by c.world.handlers n.me (c.world.history n.me) e)
    gates e l o = changed-at (λ q. IsShut q (length (c.world.history n.me)) (most_released n.limits.durable c n.me e) (sent_by c.world.handlers n.me (c.world.history n.me) e)) n.logs d (forgotten_above k (log_at n.logs d)) e wide
        (λ same. let Q : ℕ → Type 0 = λ z. IsShut (forgotten_above k (log_at n.logs z)) (length (c.world.history n.me)) (most_released n.limits.durable c n.me e) (sent_by c.world.handlers n.me (c.world.history n.me) e) in
        let g = s.gates e l o in subst Q same (record { within = g.within; waits = g.waits }))
        (λ apart. s.gates e l o)

-- a Resume comes
pub resumes : (n : TheNode) (from i k a : ℕ) → Within n → n.frozen ≡ false → from ≤ n.count → from ≢ n.me → Receives from (Resume i k a) n (resumed_by from i k a n)
resumes n from i k a w live low other =
    by-if P (not (i == heard_of from n) || works_for from n.working) n (posts from (restored_of from i a n) (obeys from k n)) (λ e c s given. stays n c s)
    (λ e. let off = neither (not (i == heard_of from n)) (works_for from n.working) e in
    let here : (i == heard_of from n) ≡ true = not-false (i == heard_of from n) off.0 in
    let heard : heard_of from n ≡ i = grind (arith, nat_tests) in
    by-if (λ m. P (posts from (restored_of from i a n) m)) (slice_index_or n.resumed from true) n newer
    (λ f c s given. restoring n from i a low other heard f off.1 some c s tt)
    (λ f. owes-then (λ c. In (parcel from n.me (Resume i k a)) c.parcels) n newer (posts from (restored_of from i a n) newer)
    (obeying n from i k a live low other wide broad heard f off.1) (restoring newer from i a low other heard (get_or-set_same n.resumed from true true broad) off.1 some)))
  where
    P : TheNode → Type 0
    P new = Receives from (Resume i k a) n new

    newer : TheNode
    newer = record n { logs = slice_set n.logs from (forgotten_above k (log_at n.logs from)); resumed = slice_set n.resumed from true }

    wide : from < length n.logs
    wide = omega (arith, w.logs_wide, low)

    broad : from < length n.resumed
    broad = omega (arith, w.resumed_wide, low)

    some : 0 < most_pairs n.limits.page
    some = pairs-fit n.limits.page w.allowed.page.0
