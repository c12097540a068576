-- Logs through the calls of a process: none keeps more messages, but where its handler works
use Rattle.std.proofs.Common.{◌≡◌, ◌∙◌, ◌≤◌, ◌+◌, ◌-◌, ◌^◌, ℕ, zero, suc, List, [], ◌∷◌, ◌++◌, length, map, min, refl, sym, ap, arith, length-append, length-drop}
use Rattle.std.specs.Prelude.{Option, Some, None, Bool, true, false, not, ◌&&◌, ◌||◌, ◌==◌, nat_lt, nat_le, is_none, is_some, if◌then◌else◌, slice_index_or, slice_set}
use Rattle.std.proofs.lemmas.List.Recursion.{is_sum_by}
use Rattle.packets.specs.Packet.{is_done, in_range}
use Rattle.packets.specs.declared.packet.Body.{Body}
use Rattle.packets.specs.declared.packet.Body.TheVariants as body
use Rattle.packets.specs.declared.packet.NodePacket.{NodePacket}
use Rattle.packets.specs.declared.page.Flags.{Flags}
use Rattle.packets.specs.declared.page.Pair.{Pair}
use Rattle.node.specs.declared.job.OpenJob.{OpenJob}
use Rattle.node.specs.declared.job.Given.{Given}
use Rattle.node.specs.Queue as queue
use Rattle.node.specs.Queue.{TheQueue, appended, dropped_to, dropped_first}
use Rattle.node.specs.Node.{TheNode, log_at, posts, logged, given_to, tells, numbered, counted, next_number, covered_of}
use Rattle.rsn.specs.Receipts.{numbers_of, acknowledged_of, run_of}
use Rattle.recovery.specs.Collected.{none_told, with_page}
use Rattle.node.specs.Pages.{told_of, restored_of}
use Rattle.node.specs.Calls as up
use Rattle.node.specs.Answers as asking
use Rattle.node.specs.Transmission as sending
use Rattle.node.specs.Checkpoints as saving
use Rattle.node.specs.Status.{entries_kept}
use Rattle.recovery.specs.Own as own
use Rattle.recovery.specs.Own.{TheOwn}
use Rattle.recovery.specs.Collection as collecting
use Rattle.recovery.specs.Collection.{TheCollecting}
use Rattle.recovery.specs.Overlap as meeting
use Rattle.recovery.specs.Intake as entering
use Rattle.recovery.specs.Restoration as restoring
use Rattle.recovery.specs.Restoration.{TheRestoring}

-- ---- logs

-- how many messages they keep
abbrev pub kept : List TheQueue → ℕ
kept [] = 0
kept (q ∷ logs) = length q.payloads + kept logs

-- no more in one than in the other
abbrev pub NoMore : List TheQueue → List TheQueue → Type 0
NoMore old new = kept new ≤ kept old

pub same : (old new : List TheQueue) → new ≡ old → NoMore old new
same old new e = let k : kept new ≡ kept old = ap kept e in omega arith

pub then_no_more : (a b c : List TheQueue) → NoMore a b → NoMore b c → NoMore a c
then_no_more a b c h k = omega arith

-- what a host reads
pub entries : (logs : List TheQueue) → entries_kept logs ≡ min (kept logs) (2 ^ 64 - 1)
entries logs = ap (λ n. min n (2 ^ 64 - 1)) (sym (is_sum_by kept (λ (q : TheQueue). length q.payloads) refl (λ q qs. refl) logs))

pub entries_more : (old new : List TheQueue) (n : ℕ) → kept new ≤ kept old + n → entries_kept new ≤ entries_kept old + n
entries_more old new n h =
    let a = entries old in
    let b = entries new in
    omega arith

pub entries_no_more : (old new : List TheQueue) → NoMore old new → entries_kept new ≤ entries_kept old
entries_no_more old new h =
    let a = entries old in
    let b = entries new in
    omega arith

-- one log in place of another
pub in_place : (logs : List TheQueue) (d : ℕ) (q : TheQueue) → kept (slice_set logs d q) + length (log_at logs d).payloads ≤ kept logs + length q.payloads
in_place [] d q = omega arith
in_place (x ∷ logs) zero q = omega arith
in_place (x ∷ logs) (suc d) q = let i = in_place logs d q in omega arith

pub set_no_more : (logs : List TheQueue) (d : ℕ) (q : TheQueue) → length q.payloads ≤ length (log_at logs d).payloads → NoMore logs (slice_set logs d q)
set_no_more logs d q h = let i = in_place logs d q in omega arith

-- whichever of two
pub either : {A : Type 0} (P : A → Type 0) (b : Bool) (x y : A) → P x → P y → P (if b then x else y)
either P true x y h k = h
either P false x y h k = k

-- ---- a node that is up

abbrev Up : TheNode → TheNode → Type 0
Up old new = NoMore old.logs new.logs

stays : (n : TheNode) → Up n n
stays n = omega arith

-- it drops no more than it has
dropped : (k : ℕ) (q : TheQueue) → length (dropped_first k q).payloads ≤ length q.payloads
dropped k q = let l = length-drop k q.payloads in omega arith

sends : (to first k : ℕ) (n : TheNode) → (sending.sends to first k n).logs ≡ n.logs
sends to first zero n = refl
sends to first (suc k) n = sends to first k n

released_to : (to : ℕ) (n : TheNode) → Up n (sending.released_to to n)
released_to to n =
    let m = sending.unlocked to n in
    let s : (sending.sends_on to (log_at n.logs to).released m).logs ≡ m.logs = sends to (sending.first_to_send (log_at n.logs to).released (log_at m.logs to)) (sending.many_to_send m.limits.tick (log_at n.logs to).released (log_at m.logs to)) m in
    let u : Up n m = set_no_more n.logs to (queue.released_by (sending.freed n) (log_at n.logs to)) (omega arith) in
    then_no_more n.logs m.logs (sending.released_to to n).logs u (same m.logs (sending.released_to to n).logs s)

released_below : (me d : ℕ) (n : TheNode) → Up n (sending.released_below me d n)
released_below me zero n = stays n
released_below me (suc d) n =
    let m = sending.released_below me d n in
    let before : Up n m = released_below me d n in
    either (λ (x : TheNode). Up n x) (d == me) m (sending.released_to d m) before (then_no_more n.logs m.logs (sending.released_to d m).logs before (released_to d m))

released : (n : TheNode) → Up n (sending.released n)
released n = released_below n.me (n.count + 1) n

resends : (to s k left : ℕ) (n : TheNode) → Up n (sending.resends to s k left n)
resends to s zero left n = stays n
resends to s (suc k) zero n = stays n
resends to s (suc k) (suc left) n =
    either (λ (x : TheNode). Up n x) (is_none (queue.number_of (s + 1) (log_at n.logs to))) (sending.resends to (s + 1) k left (sending.delivers to (s + 1) n)) (sending.resends to (s + 1) k (suc left) n)
    (resends to (s + 1) k left (sending.delivers to (s + 1) n)) (resends to (s + 1) k (suc left) n)

renumbers : (to place k left : ℕ) (n : TheNode) → Up n (sending.renumbers to place k left n)
renumbers to place zero left n = stays n
renumbers to place (suc k) zero n = stays n
renumbers to place (suc k) (suc left) n =
    let told = tells to (covered_of to n + place + 1) n in
    either (λ (x : TheNode). Up n x) (sending.is_told_at to place n) (sending.renumbers to (place + 1) k (suc left) n) (sending.renumbers to (place + 1) k left told)
    (renumbers to (place + 1) k (suc left) n) (renumbers to (place + 1) k left told)

ticked_below : (me d : ℕ) (n : TheNode) → Up n (sending.ticked_below me d n)
ticked_below me zero n = stays n
ticked_below me (suc d) n =
    let m = sending.ticked_below me d n in
    let sent = sending.resent d m in
    let new = sending.renumbered d sent in
    let before : Up n m = ticked_below me d n in
    let again : Up m sent = resends d (log_at m.logs d).dropped ((log_at m.logs d).released - (log_at m.logs d).dropped) m.limits.tick m in
    let told : Up sent new = renumbers d (run_of (acknowledged_of d sent.receipts)) (length (numbers_of d sent.receipts) - run_of (acknowledged_of d sent.receipts)) sent.limits.tick sent in
    either (λ (x : TheNode). Up n x) (d == me) m new before (then_no_more n.logs m.logs new.logs before (then_no_more m.logs sent.logs new.logs again told))

pub ticked : (n : TheNode) → Up n (sending.ticked n)
ticked n = either (λ (x : TheNode). Up n x) n.frozen n (sending.ticked_below n.me (n.count + 1) n) (stays n) (ticked_below n.me (n.count + 1) n)

says_below : (me d : ℕ) (n : TheNode) → Up n (saving.says_below me d n)
says_below me zero n = stays n
says_below me (suc d) n =
    let m = saving.says_below me d n in
    let before : Up n m = says_below me d n in
    let said : Up m (saving.says_covered d m) = either (λ (x : TheNode). Up m x) (nat_lt 0 (covered_of d m)) (posts d (body.Saved (covered_of d m)) m) m (stays m) (stays m) in
    either (λ (x : TheNode). Up n x) (d == me) m (saving.says_covered d m) before (then_no_more n.logs m.logs (saving.says_covered d m).logs before said)

pub saved : (n : TheNode) → Up n (saving.saved n)
saved n =
    let t = saving.thawed n in
    let m = sending.released t in
    let says : Up m (saving.says_below m.me (m.count + 1) m) = says_below m.me (m.count + 1) m in
    either (λ (x : TheNode). Up n x) n.frozen (saving.thaws n) n (then_no_more n.logs m.logs (saving.thaws n).logs (released t) says) (stays n)

pub froze : (n : TheNode) → Up n (saving.froze n)
froze n = either (λ (x : TheNode). Up n x) (saving.may_freeze n) (record n { frozen = true }) n (stays n) (stays n)

-- ---- what others say to it

delivered : (from life ssn : ℕ) (x : List ℕ) (n : TheNode) → Up n (up.delivered from life ssn x n)
delivered from life ssn x n =
    let place = ssn - covered_of from n - 1 in
    let known = length (numbers_of from n.receipts) in
    let opened = record n { working = Some (record { sender = from; ssn = ssn; payload = x }) } in
    let next = if (place == known) && up.takes_more n then opened else n in
    let again = if nat_lt place known then tells from ssn n else next in
    let covered = if nat_le ssn (covered_of from n) then posts from (body.Saved (covered_of from n)) n else again in
    let next_is : Up n next = either (λ (m : TheNode). Up n m) ((place == known) && up.takes_more n) opened n (stays n) (stays n) in
    let again_is : Up n again = either (λ (m : TheNode). Up n m) (nat_lt place known) (tells from ssn n) next (stays n) next_is in
    let covered_is : Up n covered = either (λ (m : TheNode). Up n m) (nat_le ssn (covered_of from n)) (posts from (body.Saved (covered_of from n)) n) again (stays n) again_is in
    either (λ (m : TheNode). Up n m) (is_some n.working || not (life == slice_index_or n.heard from 0)) n covered (stays n) covered_is

recorded_by : (from life ssn k : ℕ) (n : TheNode) → Up n (up.recorded_by from life ssn k n)
recorded_by from life ssn k n =
    let set : Up n (numbered from ssn k n) = set_no_more n.logs from (queue.recorded ssn k (log_at n.logs from)) (omega arith) in
    either (λ (x : TheNode). Up n x) ((life == slice_index_or n.heard from 0) && queue.is_kept ssn (log_at n.logs from)) (posts from (body.Acknowledgement life k) (numbered from ssn k n)) n set (stays n)

acknowledged_by : (life k : ℕ) (n : TheNode) → Up n (up.acknowledged_by life k n)
acknowledged_by life k n =
    either (λ (x : TheNode). Up n x) ((life == n.life) && nat_lt n.base k && nat_le k (n.base + length n.receipts.senders) && not (slice_index_or n.receipts.acknowledged (k - n.base - 1) false))
    (sending.released (counted (k - n.base) n)) n (released (counted (k - n.base) n)) (stays n)

pub dropped_by : (from k : ℕ) (n : TheNode) → Up n (up.dropped_by from k n)
dropped_by from k n =
    let q = log_at n.logs from in
    set_no_more n.logs from (dropped_to k q) (dropped (min (k - q.dropped) (length q.payloads)) q)

asked_by : (d i k : ℕ) (n : TheNode) → Up n (asking.asked_by d i k n)
asked_by d i k n =
    let m = asking.hears d i n in
    let hears : Up n m = either (λ (x : TheNode). Up n x) (nat_lt (asking.heard_of d n) i) (record n { heard = slice_set n.heard d i; resumed = slice_set n.resumed d false }) n (stays n) (stays n) in
    either (λ (x : TheNode). Up n x) (nat_lt i (asking.heard_of d n)) n (posts d (told_of d i k n) m) (stays n) hears

resumed_by : (d i k s : ℕ) (n : TheNode) → Up n (asking.resumed_by d i k s n)
resumed_by d i k s n =
    let forgot : NoMore n.logs (slice_set n.logs d (queue.forgotten_above k (log_at n.logs d))) = set_no_more n.logs d (queue.forgotten_above k (log_at n.logs d)) (omega arith) in
    let obeys : Up n (asking.obeys d k n) =
    either (λ (x : TheNode). Up n x) (slice_index_or n.resumed d true) n (record n { logs = slice_set n.logs d (queue.forgotten_above k (log_at n.logs d)); resumed = slice_set n.resumed d true }) (stays n) forgot in
    either (λ (x : TheNode). Up n x) (not (i == asking.heard_of d n) || asking.works_for d n.working) n (posts d (restored_of d i s n) (asking.obeys d k n)) (stays n) obeys

told : (from : ℕ) (b : Body) (n : TheNode) → Up n (up.told from b n)
told from (body.Delivery i ssn x) n = delivered from i ssn x n
told from (body.Number i ssn k) n = recorded_by from i ssn k n
told from (body.Acknowledgement i k) n = acknowledged_by i k n
told from (body.Saved k) n = dropped_by from k n
told from (body.Ask i k) n = asked_by from i k n
told from (body.Resume i k s) n = resumed_by from i k s n
told from (body.Told i j k flags page) n = stays n
told from (body.Restored i j c s flags pairs) n = stays n

pub handed : (x : NodePacket) (n : TheNode) → Up n (up.handed x n)
handed x n = either (λ (m : TheNode). Up n m) (up.is_for n x) (up.told x.from x.body n) n (told x.from x.body n) (stays n)

-- its handler worked

pub given : (k : ℕ) (xs : List Given) (logs : List TheQueue) → kept (given_to k xs logs) ≤ kept logs + length xs
given k [] logs = omega arith
given k (s ∷ xs) logs =
    let q = log_at logs s.to in
    let more : length (q.payloads ++ s.payload ∷ []) ≡ length q.payloads + 1 = length-append q.payloads (s.payload ∷ []) in
    let one = in_place logs s.to (appended s.payload k q) in
    let rest = given k xs (logged k s logs) in
    omega arith

pub worked : (state : List ℕ) (xs : List Given) (o : Option OpenJob) (n : TheNode) → kept (up.did_work state xs o n).logs ≤ kept n.logs + length xs
worked state xs None n = omega arith
worked state xs (Some j) n = given (next_number n) xs n.logs

-- ---- one that collects

asks : (to : ℕ) (n : TheCollecting) → (collecting.asks to n).own.logs ≡ n.own.logs
asks to n = either (λ (m : TheCollecting). m.own.logs ≡ n.own.logs) (collecting.told_of n.told to).done n (record n { own = own.posts to (body.Ask n.own.life (collecting.told_of n.told to).cursor) n.own }) refl refl

asks_below : (me d : ℕ) (n : TheCollecting) → (collecting.asks_below me d n).own.logs ≡ n.own.logs
asks_below me zero n = refl
asks_below me (suc d) n =
    let m = collecting.asks_below me d n in
    either (λ (x : TheCollecting). x.own.logs ≡ n.own.logs) (d == me) m (collecting.asks d m) (asks_below me d n) (asks d m ∙ asks_below me d n)

pub asked : (n : TheCollecting) → (collecting.asked n).own.logs ≡ n.own.logs
asked n = asks_below n.own.me (n.own.count + 1) n

collecting_heard : (from : ℕ) (b : Body) (n : TheCollecting) → (collecting.heard from b n).own.logs ≡ n.own.logs
collecting_heard from (body.Told i j k flags page) n =
    let new = collecting.took_page from j flags page n in
    either (λ (x : TheCollecting). x.own.logs ≡ n.own.logs) (in_range (body.Told i j k flags page) && collecting.answers from i j k n) new n
    (asks from (record { own = own.learns from j flags n.own; told = slice_set n.told from (with_page (is_done flags) page (collecting.told_of n.told from)) })) refl
collecting_heard from (body.Ask i k) n =
    let anew = collecting.asks_anew from i n in
    let m = if nat_lt (meeting.heard_of from n.own) i then anew else n in
    let begun : anew.own.logs ≡ n.own.logs = asks from (record { own = record (own.hears from i n.own) { lost = slice_set n.own.lost from false }; told = slice_set n.told from (none_told n.own.base) }) in
    let hears : m.own.logs ≡ n.own.logs = either (λ (x : TheCollecting). x.own.logs ≡ n.own.logs) (nat_lt (meeting.heard_of from n.own) i) anew n begun refl in
    let answered : (collecting.asked_by from i k n).own.logs ≡ n.own.logs =
    either (λ (x : TheCollecting). x.own.logs ≡ n.own.logs) (nat_lt i (meeting.heard_of from n.own)) n (record m { own = meeting.tells_loss from i k m.own }) refl hears in
    either (λ (x : TheCollecting). x.own.logs ≡ n.own.logs) (in_range (body.Ask i k)) (collecting.asked_by from i k n) n answered refl
collecting_heard from (body.Delivery i ssn x) n = refl
collecting_heard from (body.Number i ssn k) n = refl
collecting_heard from (body.Acknowledgement i k) n = refl
collecting_heard from (body.Saved k) n = refl
collecting_heard from (body.Resume i k s) n = refl
collecting_heard from (body.Restored i j c s flags pairs) n = refl

pub collecting_handed : (x : NodePacket) (n : TheCollecting) → (collecting.handed x n).own.logs ≡ n.own.logs
collecting_handed x n = either (λ (m : TheCollecting). m.own.logs ≡ n.own.logs) (own.is_for n.own x) (collecting.heard x.from x.body n) n (collecting_heard x.from x.body n) refl

-- ---- one that replays, or replayed

abbrev Own : TheOwn → TheOwn → Type 0
Own old new = NoMore old.logs new.logs

same_own : (o : TheOwn) → Own o o
same_own o = omega arith

meeting_asked : (q i k : ℕ) (o : TheOwn) → Own o (meeting.asked_by q i k o)
meeting_asked q i k o =
    let m = if nat_lt (meeting.heard_of q o) i then meeting.meets q i o else o in
    let forgot : Own o (meeting.meets q i o) = set_no_more o.logs q (queue.forgotten_above 0 (log_at o.logs q)) (omega arith) in
    let meets : Own o m = either (λ (x : TheOwn). Own o x) (nat_lt (meeting.heard_of q o) i) (meeting.meets q i o) o forgot (same_own o) in
    either (λ (x : TheOwn). Own o x) (nat_lt i (meeting.heard_of q o)) o (meeting.tells_loss q i k m) (same_own o) meets

meeting_heard : (from : ℕ) (b : Body) (o : TheOwn) → Own o (meeting.heard from b o)
meeting_heard from (body.Ask i k) o = meeting_asked from i k o
meeting_heard from (body.Told i j k flags page) o = same_own o
meeting_heard from (body.Delivery i ssn x) o = same_own o
meeting_heard from (body.Number i ssn k) o = same_own o
meeting_heard from (body.Acknowledgement i k) o = same_own o
meeting_heard from (body.Saved k) o = same_own o
meeting_heard from (body.Resume i k s) o = same_own o
meeting_heard from (body.Restored i j c s flags pairs) o = same_own o

pub meeting_handed : (x : NodePacket) (o : TheOwn) → Own o (meeting.handed x o)
meeting_handed x o = either (λ (m : TheOwn). Own o m) (own.is_for o x && in_range x.body) (meeting.heard x.from x.body o) o (meeting_heard x.from x.body o) (same_own o)

-- ---- one that restores its numbers

abbrev Back : TheRestoring → TheRestoring → Type 0
Back old new = NoMore old.own.logs new.own.logs

stays_back : (n : TheRestoring) → Back n n
stays_back n = omega arith

restoring_asks : (to : ℕ) (n : TheRestoring) → (restoring.asks to n).own.logs ≡ n.own.logs
restoring_asks to n =
    either (λ (m : TheRestoring). m.own.logs ≡ n.own.logs) (restoring.has_answered to n) n
    (record n { own = own.posts to (body.Resume n.own.life (entering.keeps (restoring.replayed_of n)) (restoring.above_of to n)) n.own }) refl refl

restoring_asks_below : (d : ℕ) (n : TheRestoring) → (restoring.asks_below d n).own.logs ≡ n.own.logs
restoring_asks_below zero n = refl
restoring_asks_below (suc d) n = restoring_asks d (restoring.asks_below d n) ∙ restoring_asks_below d n

pub restoring_asked : (n : TheRestoring) → (restoring.asked n).own.logs ≡ n.own.logs
restoring_asked n = restoring_asks_below (n.own.count + 1) n

takes_in : (d covered : ℕ) (pairs : List Pair) (o : TheOwn) → Own o (entering.takes_in d covered pairs o)
takes_in d covered pairs o =
    let q = log_at o.logs d in
    set_no_more o.logs d (entering.noted pairs (dropped_to covered q)) (dropped (min (covered - q.dropped) (length q.payloads)) q)

page_of : (from j covered s : ℕ) (flags : Flags) (pairs : List Pair) (n : TheRestoring) → Back n (restoring.page_of from j covered s flags pairs n)
page_of from j covered s flags pairs n =
    let greeted : Back n (restoring.greeted covered flags n) = takes_in 0 covered [] n.own in
    let taken : TheOwn = entering.trusts flags (own.hears from j (entering.takes_in from covered pairs n.own)) in
    let next : TheRestoring = record n { own = taken; above = slice_set n.above from (restoring.last_ssn s pairs) } in
    let asked_on : Back n (restoring.asks from next) = then_no_more n.own.logs next.own.logs (restoring.asks from next).own.logs (takes_in from covered pairs n.own) (same next.own.logs (restoring.asks from next).own.logs (restoring_asks from next)) in
    let told_on : Back n (restoring.told from j covered s flags pairs n) =
    either (λ (x : TheRestoring). Back n x) (is_done flags) (record n { own = taken; answered = slice_set n.answered from true }) (restoring.asks from next) (takes_in from covered pairs n.own) asked_on in
    either (λ (x : TheRestoring). Back n x) (from == 0) (restoring.greeted covered flags n) (restoring.told from j covered s flags pairs n) greeted told_on

restoring_asked_by : (q i k : ℕ) (n : TheRestoring) → Back n (restoring.asked_by q i k n)
restoring_asked_by q i k n = meeting_asked q i k n.own

restoring_heard : (from : ℕ) (b : Body) (n : TheRestoring) → Back n (restoring.heard from b n)
restoring_heard from (body.Restored i j covered s flags pairs) n =
    let page = restoring.page_of from j covered s flags pairs n in
    let took : Back n page = page_of from j covered s flags pairs n in
    let fits = if restoring.answers from i j covered s pairs n then page else restoring.doubted page in
    let fitting : Back n fits = either (λ (x : TheRestoring). Back n x) (restoring.answers from i j covered s pairs n) page (restoring.doubted page) took took in
    either (λ (x : TheRestoring). Back n x) (in_range (body.Restored i j covered s flags pairs) && restoring.is_reply from i j s n && restoring.is_whole from flags) fits n fitting (stays_back n)
restoring_heard from (body.Ask i k) n =
    either (λ (x : TheRestoring). Back n x) (in_range (body.Ask i k)) (restoring.asked_by from i k n) n (restoring_asked_by from i k n) (stays_back n)
restoring_heard from (body.Told i j k flags page) n = stays_back n
restoring_heard from (body.Delivery i ssn x) n = stays_back n
restoring_heard from (body.Number i ssn k) n = stays_back n
restoring_heard from (body.Acknowledgement i k) n = stays_back n
restoring_heard from (body.Saved k) n = stays_back n
restoring_heard from (body.Resume i k s) n = stays_back n

pub restoring_handed : (x : NodePacket) (n : TheRestoring) → Back n (restoring.handed x n)
restoring_handed x n = either (λ (m : TheRestoring). Back n m) (own.is_for n.own x) (restoring.heard x.from x.body n) n (restoring_heard x.from x.body n) (stays_back n)

-- its node has as many

pub returned : (durable : Bool) (logs : List TheQueue) → kept (map (queue.released_again durable) logs) ≡ kept logs
returned durable [] = refl
returned true (q ∷ logs) = ap (λ k. length q.payloads + k) (returned true logs)
returned false (q ∷ logs) = ap (λ k. length q.payloads + k) (returned false logs)
