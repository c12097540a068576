-- What a process puts out that comes back can be written, in each stage
use Rattle.std.proofs.Common.{◌≡◌, ◌≤◌, ◌+◌, ◌*◌, ◌^◌, ℕ, List, ◌∷◌, length, true, false, refl, sym, subst, arith}
use Rattle.std.specs.Prelude.{Option, Some, None, ◌&&◌, ◌==◌, nat_lt, nat_le}
use Rattle.std.specs.List.{list_all}
use Rattle.theorems.proofs.Tests.{both, at_most}
use Rattle.limits.specs.declared.TheConstants.{PROCESSES}
use Rattle.packets.specs.Packet.{is_number, is_positive}
use Rattle.packets.specs.declared.packet.NodePacket.{NodePacket}
use Rattle.packets.specs.declared.kept.Kept.{Kept}
use Rattle.packets.specs.Kept.{kept_in_range}
use Rattle.node.specs.declared.node.TheConstants.{MOST_GIVEN, MOST_RECEIVED}
use Rattle.node.specs.declared.limit.Limits.{Limits}
use Rattle.node.specs.declared.job.OpenJob.{OpenJob}
use Rattle.node.specs.declared.job.Given.{Given}
use Rattle.node.specs.Node.{IsPositive}
use Rattle.node.specs.Kept.{is_process, is_short, comes_back}
use Rattle.node.specs.Stands.{Each}
use Rattle.recovery.specs.Own.{TheOwn}
use Rattle.recovery.specs.Collected.{TheCollected, none_told}
use Rattle.recovery.specs.Collection as collecting
use Rattle.recovery.specs.Collection.{TheCollecting}
use Rattle.recovery.specs.Overlap as meeting
use Rattle.recovery.specs.Replays as replaying
use Rattle.recovery.specs.Replays.{TheReplaying}
use Rattle.recovery.specs.Restoration as restoring
use Rattle.recovery.specs.Restoration.{TheRestoring, has_answered}
use Rattle.recovery.specs.declared.lifecycle.Lifecycle.{Lifecycle}
use Rattle.recovery.specs.declared.lifecycle.Lifecycle.TheVariants.{Up, Collecting, Replaying, Replayed, Restoring, Passing}
use Rattle.process.specs.Process.{out_of}
use Rattle.recovery.specs.Transitions.{is_node}
use Rattle.recovery.specs.Transitions.{Recovers, Finishes, Begun, Returns}
use Rattle.process.specs.Calls.{IsHanded, Ticks, Takes, Freezes, Thaws}
use Rattle.process.specs.Work.{TakesIn}
use Rattle.process.specs.Packets.{is_written, OwnWrites, Writes}
use Rattle.process.specs.Bounds.{Holds}
use Rattle.process.proofs.Bounds.{below}
use Rattle.process.proofs.Ranges.{all-of, is-below, base-number, repeated, here}
use Rattle.process.proofs.Questions.{W, Says, Collects, Restores, collecting-handed, asked, meeting-handed, restoring-handed, restoring-asked}

-- ---- to these, and back

says : (o : TheOwn) → OwnWrites o → Says o.me o.count o
says o w = record { me_is = refl; count_is = refl; alive = w.alive; young = w.young; out = w.out }

writes : (me count : ℕ) (o : TheOwn) → 1 ≤ me → me ≤ count → count ≤ PROCESSES → Says me count o → OwnWrites o
writes me count o inside within few s =
    record {
      inside = subst (λ p. 1 ≤ p) (sym s.me_is) inside;
      within = subst (λ p. p ≤ o.count) (sym s.me_is) (subst (λ k. me ≤ k) (sym s.count_is) within);
      few = subst (λ k. k ≤ PROCESSES) (sym s.count_is) few;
      alive = s.alive;
      young = s.young;
      out = s.out;
    }

-- what holds of what it has then is what it writes
goes-on : (o m : TheOwn) → OwnWrites o → Says o.me o.count m → OwnWrites m
goes-on o m w s = writes o.me o.count m w.inside w.within w.few s

restores : (n : TheRestoring) → Holds (Restoring n) → Writes (Restoring n) → Restores n.own.me n.own.count n
restores n h w = record { says = says n.own w.0; few = h.1.few; above = w.1; alone = w.2 }

restores-on : (n m : TheRestoring) → OwnWrites n.own → Restores n.own.me n.own.count m → Writes (Restoring m)
restores-on n m w r = (goes-on n.own m.own w r.says, r.above, subst (λ p. has_answered p m ≡ true) (sym r.says.me_is) r.alone)

-- ---- one stage

pub handed : (x : NodePacket) (old new : Lifecycle) → IsHanded x old new → Holds old → Writes old → Writes new
handed x (Up old) (Up new) h b w = tt
handed x (Collecting old) (Collecting new) h b w =
    let c = collecting-handed old.own.me old.own.count w.0.inside w.0.within w.0.few x old (record { says = says old.own w.0; cursors = w.1 }) in
    subst (λ (m : TheCollecting). Writes (Collecting m)) (sym h.0) (goes-on old.own (collecting.handed x old).own w.0 c.says, c.cursors)
handed x (Restoring old) (Restoring new) h b w =
    let r = restoring-handed old.own.me old.own.count w.0.inside w.0.within w.0.few x old (restores old b w) in
    subst (λ (m : TheRestoring). Writes (Restoring m)) (sym h.0) (restores-on old (restoring.handed x old) w.0 r)
handed x (Replaying old) (Replaying new) h b w =
    subst (λ (m : TheReplaying). OwnWrites m.own) (sym h.0) (goes-on old.own (meeting.handed x old.own) w (meeting-handed old.own.me old.own.count w.inside w.within w.few x old.own (says old.own w)))
handed x (Replayed old) (Replayed new) h b w =
    subst (λ m. Writes (Replayed m)) (sym h.0) (goes-on old.own (meeting.handed x old.own) w (meeting-handed old.own.me old.own.count w.inside w.within w.few x old.own (says old.own w)))
handed x Passing new h b w = subst Writes (sym h) w
handed x old new h b w = absurd h

pub ticks : (old new : Lifecycle) → Ticks old new → Holds old → Writes old → Writes new
ticks (Up old) (Up new) h b w = tt
ticks (Collecting old) (Collecting new) h b w =
    let c = asked old.own.me old.own.count w.0.inside w.0.within w.0.few old (record { says = says old.own w.0; cursors = w.1 }) in
    subst (λ (m : TheCollecting). Writes (Collecting m)) (sym h.0) (goes-on old.own (collecting.asked old).own w.0 c.says, c.cursors)
ticks (Restoring old) (Restoring new) h b w =
    let r = restoring-asked old.own.me old.own.count w.0.inside w.0.within w.0.few old (restores old b w) in
    subst (λ (m : TheRestoring). Writes (Restoring m)) (sym h.0) (restores-on old (restoring.asked old) w.0 r)
ticks (Replaying old) new h b w = subst Writes (sym h) w
ticks (Replayed old) new h b w = subst Writes (sym h) w
ticks Passing new h b w = subst Writes (sym h) w
ticks old new h b w = absurd h

-- the packet that waits first leaves
taken : (x : NodePacket) (o : TheOwn) → OwnWrites (record o { out = x ∷ o.out }) → OwnWrites o
taken x o w = record { inside = w.inside; within = w.within; few = w.few; alive = w.alive; young = w.young; out = w.out.1 }

pub takes : (o : Option NodePacket) (old new : Lifecycle) → Takes o old new → Writes old → Writes new
takes o (Up old) (Up new) h w = tt
takes None (Collecting old) (Collecting new) h w = subst (λ m. Writes (Collecting m)) (sym h.1) w
takes (Some x) (Collecting old) (Collecting new) h w = let g = subst (λ m. Writes (Collecting m)) h.0 w in (taken x new.own g.0, g.1)
takes None (Replaying old) (Replaying new) h w = subst (λ m. Writes (Replaying m)) (sym h.1) w
takes (Some x) (Replaying old) (Replaying new) h w = taken x new.own (subst (λ m. Writes (Replaying m)) h.0 w)
takes None (Replayed old) (Replayed new) h w = subst (λ m. Writes (Replayed m)) (sym h.1) w
takes (Some x) (Replayed old) (Replayed new) h w = taken x new.own (subst (λ m. Writes (Replayed m)) h w)
takes None (Restoring old) (Restoring new) h w = subst (λ m. Writes (Restoring m)) (sym h.1) w
takes (Some x) (Restoring old) (Restoring new) h w = let g = subst (λ m. Writes (Restoring m)) h.0 w in (taken x new.own g.0, g.1, g.2)
takes o Passing new h w = subst Writes (sym h.1) w
takes o old new h w = absurd h

pub freezes : (old new : Lifecycle) → Freezes old new → Writes old → Writes new
freezes (Up old) (Up new) h w = tt
freezes (Up old) new h w = absurd h
freezes old new h w = subst Writes (sym h) w

pub thaws : (old new : Lifecycle) → Thaws old new → Writes old → Writes new
thaws (Up old) (Up new) h w = tt
thaws (Up old) new h w = absurd h
thaws old new h w = subst Writes (sym h) w

-- its handler worked

replayed : (state : List ℕ) (xs : List Given) (o : Option OpenJob) (n : TheReplaying) → OwnWrites n.own → OwnWrites (replaying.did_replay state xs o n).own
replayed state xs None n w = w
replayed state xs (Some j) n w = record { inside = w.inside; within = w.within; few = w.few; alive = w.alive; young = w.young; out = w.out }

pub takes_in : (state : List ℕ) (xs : List Given) (old new : Lifecycle) → TakesIn state xs old new → Writes old → Writes new
takes_in state xs (Up old) (Up new) h w = tt
takes_in state xs (Replaying old) (Replaying new) h w = subst (λ m. Writes (Replaying m)) (sym h.0) (replayed state xs (replaying.next_job old) old w)
takes_in state xs (Up old) new h w = absurd h
takes_in state xs (Replaying old) new h w = absurd h
takes_in state xs old new h w = subst Writes (sym h) w

-- ---- from one stage to the next

pub recovers : (old new : Lifecycle) → Recovers old new → Writes old → Writes new
recovers (Collecting n) (Replaying r) h w = subst OwnWrites (sym h.1.own) w.0
recovers old new h w = subst Writes (sym h) w

pub finishes : (old new : Lifecycle) → Finishes old new → Writes old → Writes new
finishes (Replaying n) (Replayed r) h w = subst (λ m. Writes (Replayed m)) (sym h.1) w
finishes (Replaying n) new h w = subst Writes (sym h.1) w
finishes old new h w = subst Writes (sym h) w

pub begins : (old new : Lifecycle) → Begun old new → Holds old → Writes old → Writes new
begins (Replayed r) (Restoring n) h b w =
    let first = restoring.begins r in
    let began : Restores r.own.me r.own.count first = record {
      says = says r.own w;
      few = b.1.few;
      above = repeated (λ k. is_number k ≡ true) (r.own.count + 1) 0 0 refl refl;
      alone = here r.own.lost r.own.me;
    } in
    let all = restoring-asked r.own.me r.own.count w.inside w.within w.few first began in
    subst (λ (m : TheRestoring). Writes (Restoring m)) (sym h.0) (restores-on first (restoring.asked first) w all)
begins old new h b w = subst Writes (sym h) w

pub returns : (old new : Lifecycle) → Returns old new → Writes old → Writes new
returns (Restoring n) (Up m) h w = tt
returns (Restoring n) new h w = subst Writes (sym h.1) w
returns old new h w = subst Writes (sym h) w

-- ---- how it begins

pub came-back : (limits : Limits) (k : Kept) (life : ℕ) → comes_back k ≡ true → IsPositive life → Writes (Collecting (collecting.revived limits k life))
came-back limits k life comes positive =
    let a = both (is_process k && kept_in_range k && nat_le k.length MOST_RECEIVED) (list_all (is_short (MOST_GIVEN * k.length + 2)) k.logs) comes in
    let b = both (is_process k && kept_in_range k) (nat_le k.length MOST_RECEIVED) a.0 in
    let c = both (is_process k) (kept_in_range k) b.0 in
    let d = both (nat_lt 0 k.me && nat_le k.me k.count && nat_le k.count 15 && (length k.counts == k.count)) (length k.logs == k.count) c.0 in
    let e = both (nat_lt 0 k.me && nat_le k.me k.count && nat_le k.count 15) (length k.counts == k.count) d.0 in
    let f = both (nat_lt 0 k.me && nat_le k.me k.count) (nat_le k.count 15) e.0 in
    let g = both (nat_lt 0 k.me) (nat_le k.me k.count) f.0 in
    let some = below 0 k.me g.0 in
    let inside : 1 ≤ k.me = omega (arith, some) in
    let within : k.me ≤ k.count = at_most k.me k.count g.1 in
    let few : k.count ≤ PROCESSES = at_most k.count 15 f.1 in
    let young : k.length ≤ MOST_RECEIVED = at_most k.length MOST_RECEIVED b.1 in
    let alive : is_positive life ≡ true = all-of (nat_lt 0 life) (nat_lt life (2 ^ 63)) (is-below 0 life positive.0) (is-below life (2 ^ 63) positive.1) in
    let first = collecting.begins limits k life in
    let began : Collects k.me k.count first = record {
      says = record { me_is = refl; count_is = refl; alive = alive; young = young; out = tt };
      cursors = repeated (λ (t : TheCollected). is_number t.cursor ≡ true) (k.count + 1) (none_told k.length) (none_told 0) (base-number k.length young) refl;
    } in
    let all = asked k.me k.count inside within few first began in
    (writes k.me k.count (collecting.asked first).own inside within few all.says, all.cursors)

-- ---- what waits first

pub first-written : (c : Lifecycle) (x : NodePacket) (rest : List NodePacket) → is_node c ≡ false → Writes c → out_of c ≡ x ∷ rest → is_written x ≡ true
first-written (Up n) x rest up w e = absurd (cc)
first-written (Collecting n) x rest up w e = let all : Each W (x ∷ rest) = subst (Each W) e w.0.out in all.0
first-written (Replaying n) x rest up w e = let all : Each W (x ∷ rest) = subst (Each W) e w.out in all.0
first-written (Replayed n) x rest up w e = let all : Each W (x ∷ rest) = subst (Each W) e w.out in all.0
first-written (Restoring n) x rest up w e = let all : Each W (x ∷ rest) = subst (Each W) e w.0.out in all.0
first-written Passing x rest up w e = absurd (cc)
