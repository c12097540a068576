-- A process holds no more than is named, from its first call on and in each stage
use Rattle.std.proofs.Common.{◌≡◌, ◌∙◌, ◌≤◌, ◌<◌, ◌+◌, ◌*◌, ◌^◌, ℕ, zero, suc, List, [], ◌∷◌, ◌++◌, length, map, take, drop, Bool, true, false, refl, sym, ap, subst, arith}
use Rattle.std.specs.Prelude.{Option, Some, None, is_some, replicate, if◌then◌else◌}
use Rattle.std.specs.List.{AllByRecursion}
use Rattle.std.proofs.lemmas.List.{length-map}
use Rattle.packets.specs.declared.packet.NodePacket.{NodePacket}
use Rattle.packets.specs.declared.kept.Kept.{Kept}
use Rattle.packets.specs.declared.kept.KeptLog.{KeptLog}
use Rattle.packets.specs.Kept.{IsKept, IsKeptLog}
use Rattle.packets.specs.declared.outbox.TheConstants.{OUTBOX}
use Rattle.rsn.specs.declared.receipts.TheConstants.{LIMIT}
use Rattle.node.specs.declared.kept.TheConstants.{MOST_KEPT}
use Rattle.node.specs.declared.node.TheConstants.{MOST_GIVEN, WINDOW}
use Rattle.node.specs.declared.job.OpenJob.{OpenJob}
use Rattle.node.specs.declared.job.Given.{Given}
use Rattle.node.specs.declared.limit.Limits.{Limits}
use Rattle.node.specs.Limit.{AreAllowed}
use Rattle.node.specs.Kept.{with_own, queue_of}
use Rattle.node.specs.Queue.{TheQueue, no_queue}
use Rattle.node.specs.Node.{TheNode, new_node}
use Rattle.node.specs.Status.{entries_kept}
use Rattle.node.specs.Calls as up
use Rattle.node.specs.Transmission as sending
use Rattle.node.specs.Checkpoints as saving
use Rattle.recovery.specs.Own as own
use Rattle.recovery.specs.Collection as collecting
use Rattle.recovery.specs.Collection.{TheCollecting}
use Rattle.recovery.specs.Moment.{Recovered}
use Rattle.recovery.specs.Overlap as meeting
use Rattle.recovery.specs.Replays as replaying
use Rattle.recovery.specs.Replays.{TheReplaying}
use Rattle.recovery.specs.Replayed.{TheReplayed}
use Rattle.recovery.specs.StandsAtReplay.{replayed_of}
use Rattle.recovery.specs.Restoration as restoring
use Rattle.recovery.specs.Restoration.{TheRestoring}
use Rattle.recovery.specs.declared.lifecycle.Lifecycle.{Lifecycle}
use Rattle.recovery.specs.declared.lifecycle.Lifecycle.TheVariants.{Up, Collecting, Replaying, Replayed, Restoring, Passing}
use Rattle.process.specs.Process.{TheProcess}
use Rattle.recovery.specs.Transitions.{Recovers, Finishes, Begun, Returns, Passes}
use Rattle.process.specs.Calls.{Stays, IsHanded, Ticks, Takes, Freezes, FreezesAs, Thaws, is_frozen, is_storable, standing_at}
use Rattle.process.specs.Work.{TakesIn, MayTakeIn}
use Rattle.process.specs.Bounds.{IsBounded, unacknowledged, waiting_of, NodeHolds, OwnHolds, Holds}
use Rattle.process.specs.Holds.{SavedDrops}
use Rattle.process.proofs.Holdings as logs
use Rattle.process.proofs.Holdings.{kept, NoMore, entries, entries_more, entries_no_more}
use Rattle.process.proofs.Bounds.{by-test, all-flags, Goes}
use Rattle.process.proofs.Bounds as nodes
use Rattle.process.proofs.Constancy as constancy
use Rattle.process.proofs.OwnBounds.{own-holds, own-took, asked, collecting_handed, meeting_handed, restoring_asked, restoring_handed, back-holds}

-- ---- a node that is up

-- where the receipts are of the same messages, and its logs keep no more
goes-on : (old new : TheNode) → Goes old new → NoMore old.logs new.logs → NodeHolds old → NodeHolds new
goes-on old new g l h =
    let many : length new.receipts.senders ≡ length old.receipts.senders = ap length g.senders in
    let e = entries_no_more old.logs new.logs l in
    let was = h.logs in
    record {
      numbers = g.numbers h.numbers;
      logs = omega arith;
      stored = λ f. let s = h.stored (sym g.frozen ∙ f) in omega arith;
    }

up-handed : (x : NodePacket) (n : TheNode) → NodeHolds n → NodeHolds (up.handed x n)
up-handed x n h = goes-on n (up.handed x n) (nodes.handed x n) (logs.handed x n) h

up-ticked : (n : TheNode) → NodeHolds n → NodeHolds (sending.ticked n)
up-ticked n h = goes-on n (sending.ticked n) (nodes.ticked n) (logs.ticked n) h

-- the packet that waits first leaves
up-took : (x : NodePacket) (old new : TheNode) → old ≡ record new { out = x ∷ new.out } → NodeHolds old → NodeHolds new
up-took x old new e h =
    let g : NodeHolds (record new { out = x ∷ new.out }) = subst NodeHolds e h in
    let n = g.numbers in
    let long : suc (length new.out) ≤ OUTBOX = n.packets in
    record {
      numbers = record { allowed = n.allowed; receipts = n.receipts; flags = n.flags; waits = n.waits; counted = n.counted; room = n.room; rests = n.rests; packets = omega arith };
      logs = g.logs;
      stored = g.stored;
    }

-- its handler worked, which gave no more than it may
up-worked : (state : List ℕ) (xs : List Given) (o : Option OpenJob) (n : TheNode) → n.working ≡ o → length xs ≤ MOST_GIVEN → NodeHolds n → NodeHolds (up.did_work state xs o n)
up-worked state xs None n is few h = h
up-worked state xs (Some j) n is few h =
    let new = up.did_work state xs (Some j) n in
    let more : kept new.logs ≤ kept n.logs + length xs = logs.worked state xs (Some j) n in
    let e = entries_more n.logs new.logs (length xs) more in
    let was = h.logs in
    let one : length new.receipts.senders ≡ length n.receipts.senders + 1 = nodes.one-more n.receipts.senders j.sender in
    record {
      numbers = nodes.did_work j state xs n is h.numbers;
      logs = omega arith;
      stored = λ f. absurd (let some : is_some n.working ≡ true = ap is_some is in let none = h.numbers.rests f in let e : true ≡ false = sym some ∙ none in cc);
    }

-- it waits for a checkpoint, which can be stored
up-froze : (n : TheNode) → is_storable n ≡ true → NodeHolds n → NodeHolds (saving.froze n)
up-froze n s h = by-test NodeHolds (saving.may_freeze n) (record n { frozen = true }) n waits (λ e. h)
  where
    waits : saving.may_freeze n ≡ true → NodeHolds (record n { frozen = true })
    waits e =
        let m = h.numbers in
        record {
          numbers = record { allowed = m.allowed; receipts = m.receipts; flags = m.flags; waits = m.waits; counted = m.counted; room = m.room; rests = λ f. nodes.none-works n e; packets = m.packets };
          logs = h.logs;
          stored = λ f. nodes.below (entries_kept n.logs) MOST_KEPT s;
        }

-- that is durable: nothing is behind it
pub up-saved : (n : TheNode) → NodeHolds n → NodeHolds (saving.saved n)
up-saved n h = by-test NodeHolds n.frozen (saving.thaws n) n thawed (λ e. h)
  where
    thawed : n.frozen ≡ true → NodeHolds (saving.thaws n)
    thawed e =
        let g = nodes.thaws n in
        let l = entries_no_more n.logs (saving.thaws n).logs (subst (λ (m : TheNode). NoMore n.logs m.logs) (ap (λ b. if b then saving.thaws n else n) e) (logs.saved n)) in
        let few = h.stored e in
        record {
          numbers = nodes.thaws-numbers n h.numbers;
          logs = omega arith;
          stored = λ f. absurd (let e2 : false ≡ true = sym g.frozen ∙ f in cc);
        }

-- ---- one stage

pub handed : (x : NodePacket) (old new : Lifecycle) → IsHanded x old new → Holds old → Holds new
handed x (Up old) (Up new) h b = subst NodeHolds (sym h.0) (up-handed x old b)
handed x (Collecting old) (Collecting new) h b =
    subst (λ (m : TheCollecting). OwnHolds m.own 0) (sym h.0) (own-holds old.own (collecting.handed x old).own 0 (collecting_handed x old) (logs.same old.own.logs (collecting.handed x old).own.logs (logs.collecting_handed x old)) b)
handed x (Restoring old) (Restoring new) h b = subst (λ (m : TheRestoring). Holds (Restoring m)) (sym h.0) (back-holds old (restoring.handed x old) (restoring_handed x old) (logs.restoring_handed x old) b)
handed x (Replaying old) (Replaying new) h b =
    subst (λ (m : TheReplaying). Holds (Replaying m)) (sym h.0) (own-holds old.own (meeting.handed x old.own) old.done (meeting_handed x old.own) (logs.meeting_handed x old.own) b.0, b.1)
handed x (Replayed old) (Replayed new) h b =
    subst (λ (m : TheReplayed). Holds (Replayed m)) (sym h.0) (own-holds old.own (meeting.handed x old.own) (length old.receipts.senders) (meeting_handed x old.own) (logs.meeting_handed x old.own) b.0, b.1)
handed x Passing new h b = subst Holds (sym h) b
handed x old new h b = absurd h

pub ticks : (old new : Lifecycle) → Ticks old new → Holds old → Holds new
ticks (Up old) (Up new) h b = subst NodeHolds (sym h.0) (up-ticked old b)
ticks (Collecting old) (Collecting new) h b =
    subst (λ (m : TheCollecting). OwnHolds m.own 0) (sym h.0) (own-holds old.own (collecting.asked old).own 0 (asked old) (logs.same old.own.logs (collecting.asked old).own.logs (logs.asked old)) b)
ticks (Restoring old) (Restoring new) h b =
    subst (λ (m : TheRestoring). Holds (Restoring m)) (sym h.0) (back-holds old (restoring.asked old) (restoring_asked old) (logs.same old.own.logs (restoring.asked old).own.logs (logs.restoring_asked old)) b)
ticks (Replaying old) new h b = subst Holds (sym h) b
ticks (Replayed old) new h b = subst Holds (sym h) b
ticks Passing new h b = subst Holds (sym h) b
ticks old new h b = absurd h

pub takes : (o : Option NodePacket) (old new : Lifecycle) → Takes o old new → Holds old → Holds new
takes None (Up old) (Up new) h b = subst NodeHolds (sym h.1) b
takes (Some x) (Up old) (Up new) h b = up-took x old new h.0 b
takes None (Collecting old) (Collecting new) h b = subst (λ m. Holds (Collecting m)) (sym h.1) b
takes (Some x) (Collecting old) (Collecting new) h b = own-took x new.own 0 (subst (λ m. Holds (Collecting m)) h.0 b)
takes None (Replaying old) (Replaying new) h b = subst (λ m. Holds (Replaying m)) (sym h.1) b
takes (Some x) (Replaying old) (Replaying new) h b = let g = subst (λ m. Holds (Replaying m)) h.0 b in (own-took x new.own new.done g.0, g.1)
takes None (Replayed old) (Replayed new) h b = subst (λ m. Holds (Replayed m)) (sym h.1) b
takes (Some x) (Replayed old) (Replayed new) h b = let g = subst (λ m. Holds (Replayed m)) h b in (own-took x new.own (length new.receipts.senders) g.0, g.1)
takes None (Restoring old) (Restoring new) h b = subst (λ m. Holds (Restoring m)) (sym h.1) b
takes (Some x) (Restoring old) (Restoring new) h b = let g = subst (λ m. Holds (Restoring m)) h.0 b in (own-took x new.own (length new.receipts.senders) g.0, g.1)
takes o Passing new h b = subst Holds (sym h.1) b
takes o old new h b = absurd h

freezes-as : (s : Bool) (old new : TheNode) → is_storable old ≡ s → FreezesAs s old new → NodeHolds old → NodeHolds new
freezes-as true old new e h b = subst NodeHolds (sym h.0) (up-froze old e b)
freezes-as false old new e h b = subst NodeHolds (sym h) b

pub freezes : (old new : Lifecycle) → Freezes old new → Holds old → Holds new
freezes (Up old) (Up new) h b = freezes-as (is_storable old) old new refl h b
freezes (Up old) new h b = absurd h
freezes old new h b = subst Holds (sym h) b

pub thaws : (old new : Lifecycle) → Thaws old new → Holds old → Holds new
thaws (Up old) (Up new) h b = subst NodeHolds (sym h.0) (up-saved old b)
thaws (Up old) new h b = absurd h
thaws old new h b = subst Holds (sym h) b

-- its handler worked

replayed : (state : List ℕ) (xs : List Given) (o : Option OpenJob) (n : TheReplaying) → replaying.next_job n ≡ o → length xs ≤ MOST_GIVEN → Holds (Replaying n) → Holds (Replaying (replaying.did_replay state xs o n))
replayed state xs None n is few b = b
replayed state xs (Some j) n is few b =
    let new = replaying.did_replay state xs (Some j) n in
    let more : kept new.own.logs ≤ kept n.own.logs + length xs = logs.given (replaying.next_number n) xs n.own.logs in
    let e = entries_more n.own.logs new.own.logs (length xs) more in
    let was = b.0.logs in
    let less : n.done < length n.plan = nodes.some-within n.plan n.done j is in
    (record { allowed = b.0.allowed; logs = omega arith; packets = b.0.packets }, (omega arith, b.1.1))

pub takes_in : (state : List ℕ) (xs : List Given) (old new : Lifecycle) → MayTakeIn old xs → TakesIn state xs old new → Holds old → Holds new
takes_in state xs (Up old) (Up new) may h b = subst NodeHolds (sym h.0) (up-worked state xs old.working old refl may.few b)
takes_in state xs (Replaying old) (Replaying new) may h b = subst (λ m. Holds (Replaying m)) (sym h.0) (replayed state xs (replaying.next_job old) old refl may.few b)
takes_in state xs (Up old) new may h b = absurd h
takes_in state xs (Replaying old) new may h b = absurd h
takes_in state xs old new may h b = subst Holds (sym h) b

-- ---- from one stage to the next

-- it recovers with no more than a process takes
recovered : (n : TheCollecting) (r : TheReplaying) → Recovered n r → length r.plan ≤ LIMIT → Holds (Collecting n) → Holds (Replaying r)
recovered n r is few b =
    let none = is.none in
    (subst (λ k. OwnHolds r.own k) (sym is.none) (subst (λ o. OwnHolds o 0) (sym is.own) b), (omega arith, few))

pub recovers : (old new : Lifecycle) → Recovers old new → Holds old → Holds new
recovers (Collecting n) (Replaying r) h b = recovered n r h.1 h.3 b
recovers old new h b = subst Holds (sym h) b

ended : (n : TheReplaying) → replaying.is_over n ≡ true → Holds (Replaying n) → Holds (Replayed (replayed_of n))
ended n over b =
    let many : length (map (λ (j : OpenJob). j.sender) n.plan) ≡ length n.plan = length-map n.plan (λ (j : OpenJob). j.sender) in
    let flags = all-flags (length n.plan) in
    let was = b.0.logs in
    let low = b.1.0 in
    let few = b.1.1 in
    (record { allowed = b.0.allowed; logs = omega arith; packets = b.0.packets }, record { few = omega arith; flags = flags.0 ∙ sym many; none = flags.1 })

pub finishes : (old new : Lifecycle) → Finishes old new → Holds old → Holds new
finishes (Replaying n) (Replayed r) h b = subst (λ m. Holds (Replayed m)) (sym h.1) (ended n h.0 b)
finishes (Replaying n) new h b = subst Holds (sym h.1) b
finishes old new h b = subst Holds (sym h) b

pub begins : (old new : Lifecycle) → Begun old new → Holds old → Holds new
begins (Replayed r) (Restoring n) h b =
    let first = restoring.begins r in
    subst (λ (m : TheRestoring). Holds (Restoring m)) (sym h.0) (back-holds first (restoring.asked first) (restoring_asked first) (logs.same first.own.logs (restoring.asked first).own.logs (logs.restoring_asked first)) b)
begins old new h b = subst Holds (sym h) b

back-up : (n : TheRestoring) → Holds (Restoring n) → NodeHolds (restoring.up n)
back-up n b =
    let e = entries n.own.logs in
    let f = entries (restoring.up n).logs in
    let same : kept (restoring.up n).logs ≡ kept n.own.logs = logs.returned n.own.limits.durable n.own.logs in
    let was = b.0.logs in
    record {
      numbers = record {
        allowed = b.0.allowed;
        receipts = b.1.few;
        flags = b.1.flags;
        waits = omega arith;
        counted = b.1.none;
        room = λ some. absurd (cc (some));
        rests = λ f2. refl;
        packets = omega arith;
      };
      logs = omega arith;
      stored = λ f2. absurd (cc (f2));
    }

returns : (old new : Lifecycle) → Returns old new → Holds old → Holds new
returns (Restoring n) (Up m) h b =
    let first : TheNode = h.1.0 in
    let up_is : NodeHolds first = subst NodeHolds (sym h.1.1.0) (back-up n b) in
    subst NodeHolds (sym h.1.1.2) (up-ticked first up_is)
returns (Restoring n) new h b = subst Holds (sym h.1) b
returns old new h b = subst Holds (sym h) b

pub passes : (old new : Lifecycle) → Passes old new → Holds old → Holds new
passes old new p b = returns p.asks new p.returns (begins p.ran p.asks p.begins (finishes p.told p.ran p.finishes (recovers old p.told p.recovers b)))

-- ---- how it begins

kept-append : (a b : List TheQueue) → kept (a ++ b) ≡ kept a + kept b
kept-append [] b = omega arith
kept-append (q ∷ a) b = let rest = kept-append a b in omega arith

kept-cut : (k : ℕ) (a : List TheQueue) → kept (take k a) + kept (drop k a) ≡ kept a
kept-cut zero [] = omega arith
kept-cut zero (q ∷ a) = omega arith
kept-cut (suc k) [] = omega arith
kept-cut (suc k) (q ∷ a) = let rest = kept-cut k a in omega arith

stored-few : (ls : List KeptLog) → AllByRecursion IsKeptLog ls → kept (map queue_of ls) ≤ MOST_KEPT * length ls
stored-few [] all = omega arith
stored-few (l ∷ ls) all = let one : length l.payloads < 2 ^ 32 = all.0.1.0 in let rest = stored-few ls all.1 in omega arith

pub begun : (limits : Limits) (k : Kept) (life : ℕ) (bytes : List ℕ) → AreAllowed limits → IsKept k bytes → OwnHolds (own.own_of limits k life) 0
begun limits k life bytes allowed is =
    let all = map queue_of k.logs in
    let cut = kept-cut k.me all in
    let joined = kept-append (take k.me all) (no_queue ∷ drop k.me all) in
    let few = stored-few k.logs is.fits.room.logs in
    let count = is.fits.few in
    let many = is.fits.room.logs_are in
    let e = entries (with_own no_queue k.me all) in
    record { allowed = allowed; logs = omega arith; packets = omega arith }

pub came-back : (limits : Limits) (k : Kept) (life : ℕ) (bytes : List ℕ) → AreAllowed limits → IsKept k bytes → Holds (Collecting (collecting.revived limits k life))
came-back limits k life bytes allowed is =
    let first = collecting.begins limits k life in
    own-holds first.own (collecting.asked first).own 0 (asked first) (logs.same first.own.logs (collecting.asked first).own.logs (logs.asked first)) (begun limits k life bytes allowed is)

none-kept : (k : ℕ) → kept (replicate k no_queue) ≡ 0
none-kept zero = refl
none-kept (suc k) = let rest = none-kept k in omega arith

pub opened : (limits : Limits) (me count : ℕ) (state : List ℕ) → AreAllowed limits → NodeHolds (new_node limits me count state)
opened limits me count state allowed =
    let e = entries (replicate (count + 1) no_queue) in
    let none = none-kept (count + 1) in
    record {
      numbers = record {
        allowed = allowed;
        receipts = omega arith;
        flags = refl;
        waits = omega arith;
        counted = refl;
        room = λ some. absurd (cc (some));
        rests = λ f. refl;
        packets = omega arith;
      };
      logs = omega arith;
      stored = λ f. absurd (cc (f));
    }

-- ---- what a host reads

pub bounded : (c : Lifecycle) → Holds c → IsBounded (standing_at c)
bounded (Up n) b =
    let few = b.numbers.receipts in
    let logs_hold = b.logs in
    let packets = b.numbers.packets in
    record { receipts = omega arith; entries = b.logs; most = omega arith; packets = packets }
bounded (Collecting n) b = let logs_hold = b.logs in record { receipts = omega arith; entries = b.logs; most = omega arith; packets = b.packets }
bounded (Replaying n) b =
    let logs_hold = b.0.logs in
    let low = b.1.0 in
    let few = b.1.1 in
    record { receipts = omega arith; entries = b.0.logs; most = omega arith; packets = b.0.packets }
bounded (Replayed n) b =
    let logs_hold = b.0.logs in
    let few = b.1.few in
    record { receipts = omega arith; entries = b.0.logs; most = omega arith; packets = b.0.packets }
bounded (Restoring n) b =
    let logs_hold = b.0.logs in
    let few = b.1.few in
    record { receipts = omega arith; entries = b.0.logs; most = omega arith; packets = b.0.packets }
bounded Passing b = record { receipts = omega arith; entries = omega arith; most = omega arith; packets = omega arith }

pub few-wait : (c : Lifecycle) → Holds c → waiting_of c ≤ WINDOW
few-wait (Up n) b = let many = b.numbers.counted in let few = b.numbers.waits in omega arith
few-wait (Collecting n) b = omega arith
few-wait (Replaying n) b = omega arith
few-wait (Replayed n) b = let none = b.1.none in omega arith
few-wait (Restoring n) b = let none = b.1.none in omega arith
few-wait Passing b = omega arith

-- ---- a checkpoint is durable

saved : (n m : TheNode) → n.frozen ≡ true → m ≡ saving.saved n → m ≡ saving.thaws n
saved n m f e = e ∙ ap (λ b. if b then saving.thaws n else n) f

pub saved_drops : SavedDrops
saved_drops = record { none = none }
  where
    none : (old new : TheProcess) → is_frozen old.lifecycle ≡ true → Stays Thaws old new → ((standing_at new.lifecycle).receipts ≡ 0) × (((standing_at new.lifecycle).base ≡ (standing_at old.lifecycle).length) × (waiting_of new.lifecycle ≡ 0))
    none old new f s = by-stage old.lifecycle new.lifecycle f s.does
      where
        by-stage : (c d : Lifecycle) → is_frozen c ≡ true → Thaws c d → ((standing_at d).receipts ≡ 0) × (((standing_at d).base ≡ (standing_at c).length) × (waiting_of d ≡ 0))
        by-stage (Up n) (Up m) e h =
            let is : m ≡ saving.thaws n = saved n m e h.0 in
            let covers = constancy.covers n in (
              ap (λ (v : TheNode). length v.receipts.senders) is ∙ ap (λ r. length r.senders) covers.0,
              (ap (λ (v : TheNode). v.base) is ∙ covers.1, ap (λ (v : TheNode). unacknowledged v.receipts.acknowledged) is ∙ ap (λ r. unacknowledged r.acknowledged) covers.0),
            )
        by-stage (Up n) d e h = absurd h
        by-stage c d e h = absurd (cc)
