-- What a process that comes back holds of its own, in each stage
use Rattle.std.proofs.Common.{◌≡◌, ◌∙◌, ◌≤◌, ◌+◌, ℕ, zero, suc, List, [], ◌∷◌, length, true, false, refl, sym, ap, subst, arith}
use Rattle.std.specs.Prelude.{nat_lt, slice_set, ◌==◌, ◌&&◌, if◌then◌else◌}
use Rattle.packets.specs.Packet.{is_done, in_range}
use Rattle.packets.specs.declared.packet.Body.{Body}
use Rattle.packets.specs.declared.packet.Body.TheVariants as body
use Rattle.packets.specs.declared.packet.NodePacket.{NodePacket}
use Rattle.packets.specs.declared.page.Flags.{Flags}
use Rattle.packets.specs.declared.page.Pair.{Pair}
use Rattle.packets.specs.declared.outbox.TheConstants.{OUTBOX}
use Rattle.node.specs.Limit.{AreAllowed}
use Rattle.recovery.specs.Own as own
use Rattle.recovery.specs.Own.{TheOwn}
use Rattle.recovery.specs.Collected.{none_told, with_page}
use Rattle.recovery.specs.Collection as collecting
use Rattle.recovery.specs.Collection.{TheCollecting}
use Rattle.recovery.specs.Overlap as meeting
use Rattle.recovery.specs.Intake as entering
use Rattle.recovery.specs.Restoration as restoring
use Rattle.recovery.specs.Restoration.{TheRestoring}
use Rattle.recovery.specs.declared.lifecycle.Lifecycle.TheVariants.{Restoring}
use Rattle.process.specs.Bounds.{OwnHolds, ReceiptsHold, Holds}
use Rattle.process.proofs.Holdings.{NoMore, either, entries_no_more}
use Rattle.process.proofs.Bounds.{pushed-few}

-- ---- what one that comes back has of its own

-- it keeps its limits, and holds no more packets
pub record OwnGoes (old new : TheOwn) : Type 0 where
  limits : new.limits ≡ old.limits
  packets : length old.out ≤ OUTBOX → length new.out ≤ OUTBOX

own-stays : (o : TheOwn) → OwnGoes o o
own-stays o = record { limits = refl; packets = λ h. h }

own-then : (a b c : TheOwn) → OwnGoes a b → OwnGoes b c → OwnGoes a c
own-then a b c g h = record { limits = h.limits ∙ g.limits; packets = λ p. h.packets (g.packets p) }

own-posted : (to : ℕ) (b : Body) (o : TheOwn) → OwnGoes o (own.posts to b o)
own-posted to b o = record { limits = refl; packets = pushed-few (own.packet_of o to b) o.out }

-- where its logs keep no more, and it received so many then
pub own-holds : (old new : TheOwn) (k : ℕ) → OwnGoes old new → NoMore old.logs new.logs → OwnHolds old k → OwnHolds new k
own-holds old new k g l h =
    let e = entries_no_more old.logs new.logs l in
    let was = h.logs in
    record { allowed = subst AreAllowed (sym g.limits) h.allowed; logs = omega arith; packets = g.packets h.packets }

pub own-took : (x : NodePacket) (o : TheOwn) (k : ℕ) → OwnHolds (record o { out = x ∷ o.out }) k → OwnHolds o k
own-took x o k h = let long : suc (length o.out) ≤ OUTBOX = h.packets in record { allowed = h.allowed; logs = h.logs; packets = omega arith }

-- ---- one that collects

asks : (to : ℕ) (n : TheCollecting) → OwnGoes n.own (collecting.asks to n).own
asks to n =
    let question = body.Ask n.own.life (collecting.told_of n.told to).cursor in
    either (λ (m : TheCollecting). OwnGoes n.own m.own) (collecting.told_of n.told to).done n (record n { own = own.posts to question n.own }) (own-stays n.own) (own-posted to question n.own)

asks_below : (me d : ℕ) (n : TheCollecting) → OwnGoes n.own (collecting.asks_below me d n).own
asks_below me zero n = own-stays n.own
asks_below me (suc d) n =
    let m = collecting.asks_below me d n in
    let before = asks_below me d n in
    either (λ (x : TheCollecting). OwnGoes n.own x.own) (d == me) m (collecting.asks d m) before (own-then n.own m.own (collecting.asks d m).own before (asks d m))

pub asked : (n : TheCollecting) → OwnGoes n.own (collecting.asked n).own
asked n = asks_below n.own.me (n.own.count + 1) n

collecting_heard : (from : ℕ) (b : Body) (n : TheCollecting) → OwnGoes n.own (collecting.heard from b n).own
collecting_heard from (body.Told i j k flags page) n =
    let learned : TheCollecting = record { own = own.learns from j flags n.own; told = slice_set n.told from (with_page (is_done flags) page (collecting.told_of n.told from)) } in
    let new = collecting.took_page from j flags page n in
    let same : OwnGoes n.own learned.own = record { limits = refl; packets = λ h. h } in
    either (λ (x : TheCollecting). OwnGoes n.own x.own) (in_range (body.Told i j k flags page) && collecting.answers from i j k n) new n
    (own-then n.own learned.own new.own same (asks from learned)) (own-stays n.own)
collecting_heard from (body.Ask i k) n =
    let begun : TheCollecting = record { own = record (own.hears from i n.own) { lost = slice_set n.own.lost from false }; told = slice_set n.told from (none_told n.own.base) } in
    let anew = collecting.asks_anew from i n in
    let m = if nat_lt (meeting.heard_of from n.own) i then anew else n in
    let same : OwnGoes n.own begun.own = record { limits = refl; packets = λ h. h } in
    let hears : OwnGoes n.own m.own = either (λ (x : TheCollecting). OwnGoes n.own x.own) (nat_lt (meeting.heard_of from n.own) i) anew n (own-then n.own begun.own anew.own same (asks from begun)) (own-stays n.own) in
    let told = own.posts from (meeting.loss_of i k m.own) m.own in
    let answered : OwnGoes n.own (collecting.asked_by from i k n).own =
    either (λ (x : TheCollecting). OwnGoes n.own x.own) (nat_lt i (meeting.heard_of from n.own)) n (record m { own = told }) (own-stays n.own) (own-then n.own m.own told hears (own-posted from (meeting.loss_of i k m.own) m.own)) in
    either (λ (x : TheCollecting). OwnGoes n.own x.own) (in_range (body.Ask i k)) (collecting.asked_by from i k n) n answered (own-stays n.own)
collecting_heard from (body.Delivery i ssn x) n = own-stays n.own
collecting_heard from (body.Number i ssn k) n = own-stays n.own
collecting_heard from (body.Acknowledgement i k) n = own-stays n.own
collecting_heard from (body.Saved k) n = own-stays n.own
collecting_heard from (body.Resume i k s) n = own-stays n.own
collecting_heard from (body.Restored i j c s flags pairs) n = own-stays n.own

pub collecting_handed : (x : NodePacket) (n : TheCollecting) → OwnGoes n.own (collecting.handed x n).own
collecting_handed x n = either (λ (m : TheCollecting). OwnGoes n.own m.own) (own.is_for n.own x) (collecting.heard x.from x.body n) n (collecting_heard x.from x.body n) (own-stays n.own)

-- ---- one that replays, or replayed

meeting_asked : (q i k : ℕ) (o : TheOwn) → OwnGoes o (meeting.asked_by q i k o)
meeting_asked q i k o =
    let m = if nat_lt (meeting.heard_of q o) i then meeting.meets q i o else o in
    let met : OwnGoes o (meeting.meets q i o) = record { limits = refl; packets = λ h. h } in
    let meets : OwnGoes o m = either (λ (x : TheOwn). OwnGoes o x) (nat_lt (meeting.heard_of q o) i) (meeting.meets q i o) o met (own-stays o) in
    either (λ (x : TheOwn). OwnGoes o x) (nat_lt i (meeting.heard_of q o)) o (meeting.tells_loss q i k m) (own-stays o) (own-then o m (meeting.tells_loss q i k m) meets (own-posted q (meeting.loss_of i k m) m))

meeting_heard : (from : ℕ) (b : Body) (o : TheOwn) → OwnGoes o (meeting.heard from b o)
meeting_heard from (body.Ask i k) o = meeting_asked from i k o
meeting_heard from (body.Told i j k flags page) o = own-stays o
meeting_heard from (body.Delivery i ssn x) o = own-stays o
meeting_heard from (body.Number i ssn k) o = own-stays o
meeting_heard from (body.Acknowledgement i k) o = own-stays o
meeting_heard from (body.Saved k) o = own-stays o
meeting_heard from (body.Resume i k s) o = own-stays o
meeting_heard from (body.Restored i j c s flags pairs) o = own-stays o

pub meeting_handed : (x : NodePacket) (o : TheOwn) → OwnGoes o (meeting.handed x o)
meeting_handed x o = either (λ (m : TheOwn). OwnGoes o m) (own.is_for o x && in_range x.body) (meeting.heard x.from x.body o) o (meeting_heard x.from x.body o) (own-stays o)

-- ---- one that restores its numbers: what it received stays

pub record Back (old new : TheRestoring) : Type 0 where
  owns : OwnGoes old.own new.own
  receipts : new.receipts ≡ old.receipts

back-stays : (n : TheRestoring) → Back n n
back-stays n = record { owns = own-stays n.own; receipts = refl }

back-then : (a b c : TheRestoring) → Back a b → Back b c → Back a c
back-then a b c g h = record { owns = own-then a.own b.own c.own g.owns h.owns; receipts = h.receipts ∙ g.receipts }

restoring_asks : (to : ℕ) (n : TheRestoring) → Back n (restoring.asks to n)
restoring_asks to n =
    let question = body.Resume n.own.life (entering.keeps (restoring.replayed_of n)) (restoring.above_of to n) in
    either (Back n) (restoring.has_answered to n) n (record n { own = own.posts to question n.own }) (back-stays n) (record { owns = own-posted to question n.own; receipts = refl })

restoring_asks_below : (d : ℕ) (n : TheRestoring) → Back n (restoring.asks_below d n)
restoring_asks_below zero n = back-stays n
restoring_asks_below (suc d) n =
    let m = restoring.asks_below d n in
    back-then n m (restoring.asks d m) (restoring_asks_below d n) (restoring_asks d m)

pub restoring_asked : (n : TheRestoring) → Back n (restoring.asked n)
restoring_asked n = restoring_asks_below (n.own.count + 1) n

page_of : (from j covered s : ℕ) (flags : Flags) (pairs : List Pair) (n : TheRestoring) → Back n (restoring.page_of from j covered s flags pairs n)
page_of from j covered s flags pairs n =
    let greets : TheRestoring = record n { own = entering.trusts flags (entering.takes_in 0 covered [] n.own); answered = slice_set n.answered 0 true } in
    let greeted : Back n greets = record { owns = record { limits = refl; packets = λ h. h }; receipts = refl } in
    let taken : TheOwn = entering.trusts flags (own.hears from j (entering.takes_in from covered pairs n.own)) in
    let next : TheRestoring = record n { own = taken; above = slice_set n.above from (restoring.last_ssn s pairs) } in
    let last : TheRestoring = record n { own = taken; answered = slice_set n.answered from true } in
    let took_next : Back n next = record { owns = record { limits = refl; packets = λ h. h }; receipts = refl } in
    let took_last : Back n last = record { owns = record { limits = refl; packets = λ h. h }; receipts = refl } in
    let told_on : Back n (restoring.told from j covered s flags pairs n) = either (Back n) (is_done flags) last (restoring.asks from next) took_last (back-then n next (restoring.asks from next) took_next (restoring_asks from next)) in
    either (Back n) (from == 0) greets (restoring.told from j covered s flags pairs n) greeted told_on

restoring_asked_by : (q i k : ℕ) (n : TheRestoring) → Back n (restoring.asked_by q i k n)
restoring_asked_by q i k n =
    let m = if nat_lt (meeting.heard_of q n.own) i then restoring.waits_anew q n else n in
    let receipts : m.receipts ≡ n.receipts = either (λ (x : TheRestoring). x.receipts ≡ n.receipts) (nat_lt (meeting.heard_of q n.own) i) (restoring.waits_anew q n) n refl refl in
    record { owns = meeting_asked q i k n.own; receipts = receipts }

restoring_heard : (from : ℕ) (b : Body) (n : TheRestoring) → Back n (restoring.heard from b n)
restoring_heard from (body.Restored i j covered s flags pairs) n =
    let page = restoring.page_of from j covered s flags pairs n in
    let took : Back n page = page_of from j covered s flags pairs n in
    let doubted : Back page (restoring.doubted page) = record { owns = record { limits = refl; packets = λ h. h }; receipts = refl } in
    let fits = if restoring.answers from i j covered s pairs n then page else restoring.doubted page in
    let fitting : Back n fits = either (Back n) (restoring.answers from i j covered s pairs n) page (restoring.doubted page) took (back-then n page (restoring.doubted page) took doubted) in
    either (Back n) (in_range (body.Restored i j covered s flags pairs) && restoring.is_reply from i j s n && restoring.is_whole from flags) fits n fitting (back-stays n)
restoring_heard from (body.Ask i k) n = either (Back n) (in_range (body.Ask i k)) (restoring.asked_by from i k n) n (restoring_asked_by from i k n) (back-stays n)
restoring_heard from (body.Told i j k flags page) n = back-stays n
restoring_heard from (body.Delivery i ssn x) n = back-stays n
restoring_heard from (body.Number i ssn k) n = back-stays n
restoring_heard from (body.Acknowledgement i k) n = back-stays n
restoring_heard from (body.Saved k) n = back-stays n
restoring_heard from (body.Resume i k s) n = back-stays n

pub restoring_handed : (x : NodePacket) (n : TheRestoring) → Back n (restoring.handed x n)
restoring_handed x n = either (Back n) (own.is_for n.own x) (restoring.heard x.from x.body n) n (restoring_heard x.from x.body n) (back-stays n)

-- it holds what it held
pub back-holds : (old new : TheRestoring) → Back old new → NoMore old.own.logs new.own.logs → Holds (Restoring old) → Holds (Restoring new)
back-holds old new b l h =
    let receipts = ap (λ r. length r.senders) b.receipts in
    (subst (OwnHolds new.own) (sym receipts) (own-holds old.own new.own (length old.receipts.senders) b.owns l h.0), subst ReceiptsHold (sym b.receipts) h.1)
