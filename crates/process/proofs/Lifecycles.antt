-- A process through its stages: none of its calls makes it keep more messages, but where its handler works
use Rattle.std.proofs.Common.{◌≡◌, ◌∙◌, ◌≤◌, ◌+◌, ◌-◌, ℕ, zero, suc, List, [], ◌∷◌, length, min, refl, sym, ap, subst, arith, length-drop}
use Rattle.std.specs.Prelude.{Option, Some, None, Bool, true, false, slice_set, if◌then◌else◌}
use Rattle.packets.specs.declared.packet.Body.{Body}
use Rattle.packets.specs.declared.packet.NodePacket.{NodePacket}
use Rattle.node.specs.declared.job.OpenJob.{OpenJob}
use Rattle.node.specs.declared.job.Given.{Given}
use Rattle.node.specs.declared.node.TheConstants.{MOST_GIVEN}
use Rattle.node.specs.Queue.{TheQueue, dropped_to}
use Rattle.node.specs.Node.{TheNode, log_at}
use Rattle.node.specs.Calls as up
use Rattle.node.specs.Status.{entries_kept}
use Rattle.recovery.specs.Replays as replaying
use Rattle.recovery.specs.Replays.{TheReplaying}
use Rattle.recovery.specs.Restoration as restoring
use Rattle.recovery.specs.declared.lifecycle.Lifecycle.{Lifecycle}
use Rattle.recovery.specs.declared.lifecycle.Lifecycle.TheVariants.{Up, Collecting, Replaying, Replayed, Restoring, Passing}
use Rattle.process.specs.Process.{TheProcess}
use Rattle.recovery.specs.Transitions.{Recovers, Finishes, Begun, Returns, Passes}
use Rattle.process.specs.Calls.{Calls, Stays, IsHanded, Ticks, Takes, Freezes, FreezesAs, Thaws, is_storable, standing_at}
use Rattle.process.specs.Work.{TakesIn, MayTakeIn}
use Rattle.process.specs.Job.{TakesBack}
use Rattle.process.specs.Holds.{entries_of, KeepsNoMore, sent_in, EntriesAreGiven, CoveredAreDropped}
use Rattle.process.proofs.Holdings as logs
use Rattle.process.proofs.Holdings.{kept, NoMore, same, then_no_more, entries_more, entries_no_more}

abbrev logs_of : Lifecycle → List TheQueue
logs_of (Up n) = n.logs
logs_of (Collecting n) = n.own.logs
logs_of (Replaying n) = n.own.logs
logs_of (Replayed n) = n.own.logs
logs_of (Restoring n) = n.own.logs
logs_of Passing = []

abbrev No : Lifecycle → Lifecycle → Type 0
No old new = NoMore (logs_of old) (logs_of new)

read : (c : Lifecycle) → (standing_at c).entries ≡ entries_kept (logs_of c)
read (Up n) = refl
read (Collecting n) = refl
read (Replaying n) = refl
read (Replayed n) = refl
read (Restoring n) = refl
read Passing = refl

reads_no_more : (old new : Lifecycle) → No old new → (standing_at new).entries ≤ (standing_at old).entries
reads_no_more old new h =
    let a = read old in
    let b = read new in
    let c = entries_no_more (logs_of old) (logs_of new) h in
    omega arith

moved : (old new : Lifecycle) → new ≡ old → No old new
moved old new e = same (logs_of old) (logs_of new) (ap logs_of e)

-- ---- one stage

handed : (x : NodePacket) (old new : Lifecycle) → IsHanded x old new → No old new
handed x (Up old) (Up new) h = subst (λ (m : TheNode). NoMore old.logs m.logs) (sym h.0) (logs.handed x old)
handed x (Collecting old) (Collecting new) h = same old.own.logs new.own.logs (ap (λ m. m.own.logs) h.0 ∙ logs.collecting_handed x old)
handed x (Restoring old) (Restoring new) h = subst (λ m. NoMore old.own.logs m.own.logs) (sym h.0) (logs.restoring_handed x old)
handed x (Replaying old) (Replaying new) h = subst (λ m. NoMore old.own.logs m.own.logs) (sym h.0) (logs.meeting_handed x old.own)
handed x (Replayed old) (Replayed new) h = subst (λ m. NoMore old.own.logs m.own.logs) (sym h.0) (logs.meeting_handed x old.own)
handed x Passing new h = moved Passing new h
handed x old new h = absurd h

ticks : (old new : Lifecycle) → Ticks old new → No old new
ticks (Up old) (Up new) h = subst (λ (m : TheNode). NoMore old.logs m.logs) (sym h.0) (logs.ticked old)
ticks (Collecting old) (Collecting new) h = same old.own.logs new.own.logs (ap (λ m. m.own.logs) h.0 ∙ logs.asked old)
ticks (Restoring old) (Restoring new) h = same old.own.logs new.own.logs (ap (λ m. m.own.logs) h.0 ∙ logs.restoring_asked old)
ticks (Replaying old) new h = moved (Replaying old) new h
ticks (Replayed old) new h = moved (Replayed old) new h
ticks Passing new h = moved Passing new h
ticks old new h = absurd h

takes : (o : Option NodePacket) (old new : Lifecycle) → Takes o old new → No old new
takes None (Up old) (Up new) h = moved (Up old) (Up new) (ap Up h.1)
takes (Some x) (Up old) (Up new) h = same old.logs new.logs (sym (ap (λ m. m.logs) h.0))
takes None (Collecting old) (Collecting new) h = moved (Collecting old) (Collecting new) (ap Collecting h.1)
takes (Some x) (Collecting old) (Collecting new) h = same old.own.logs new.own.logs (sym (ap (λ m. m.own.logs) h.0))
takes None (Replaying old) (Replaying new) h = moved (Replaying old) (Replaying new) (ap Replaying h.1)
takes (Some x) (Replaying old) (Replaying new) h = same old.own.logs new.own.logs (sym (ap (λ m. m.own.logs) h.0))
takes None (Replayed old) (Replayed new) h = moved (Replayed old) (Replayed new) (ap Replayed h.1)
takes (Some x) (Replayed old) (Replayed new) h = same old.own.logs new.own.logs (sym (ap (λ m. m.own.logs) h))
takes None (Restoring old) (Restoring new) h = moved (Restoring old) (Restoring new) (ap Restoring h.1)
takes (Some x) (Restoring old) (Restoring new) h = same old.own.logs new.own.logs (sym (ap (λ m. m.own.logs) h.0))
takes o Passing new h = moved Passing new h.1
takes o old new h = absurd h

freezes-as : (s : Bool) (old new : TheNode) → FreezesAs s old new → NoMore old.logs new.logs
freezes-as true old new h = subst (λ (m : TheNode). NoMore old.logs m.logs) (sym h.0) (logs.froze old)
freezes-as false old new h = same old.logs new.logs (ap (λ (m : TheNode). m.logs) h)

freezes : (old new : Lifecycle) → Freezes old new → No old new
freezes (Up old) (Up new) h = freezes-as (is_storable old) old new h
freezes (Up old) new h = absurd h
freezes old new h = moved old new h

thaws : (old new : Lifecycle) → Thaws old new → No old new
thaws (Up old) (Up new) h = subst (λ (m : TheNode). NoMore old.logs m.logs) (sym h.0) (logs.saved old)
thaws (Up old) new h = absurd h
thaws old new h = moved old new h

-- as many more as its handler gives

replays : (state : List ℕ) (xs : List Given) (o : Option OpenJob) (n : TheReplaying) → kept (replaying.did_replay state xs o n).own.logs ≤ kept n.own.logs + length xs
replays state xs None n = omega arith
replays state xs (Some j) n = logs.given (replaying.next_number n) xs n.own.logs

takes_in : (state : List ℕ) (xs : List Given) (old new : Lifecycle) → TakesIn state xs old new → kept (logs_of new) ≤ kept (logs_of old) + length xs
takes_in state xs (Up old) (Up new) h = subst (λ (m : TheNode). kept m.logs ≤ kept old.logs + length xs) (sym h.0) (logs.worked state xs old.working old)
takes_in state xs (Replaying old) (Replaying new) h = subst (λ (m : TheReplaying). kept m.own.logs ≤ kept old.own.logs + length xs) (sym h.0) (replays state xs (replaying.next_job old) old)
takes_in state xs (Up old) new h = absurd h
takes_in state xs (Replaying old) new h = absurd h
takes_in state xs old new h = let m = moved old new h in omega arith

-- ---- from one stage to the next

recovers : (old new : Lifecycle) → Recovers old new → No old new
recovers (Collecting n) (Replaying r) h = same n.own.logs r.own.logs (ap (λ o. o.logs) h.1.own)
recovers old new h = moved old new h

finishes : (old new : Lifecycle) → Finishes old new → No old new
finishes (Replaying n) (Replayed r) h = same n.own.logs r.own.logs (ap (λ m. m.own.logs) h.1)
finishes (Replaying n) new h = moved (Replaying n) new h.1
finishes old new h = moved old new h

begins : (old new : Lifecycle) → Begun old new → No old new
begins (Replayed r) (Restoring n) h = same r.own.logs n.own.logs (ap (λ m. m.own.logs) h.0 ∙ logs.restoring_asked (restoring.begins r))
begins old new h = moved old new h

returns : (old new : Lifecycle) → Returns old new → No old new
returns (Restoring n) (Up m) h =
    let first = h.1.0 in
    let up_is : kept first.logs ≡ kept n.own.logs = ap (λ (f : TheNode). kept f.logs) h.1.1.0 ∙ logs.returned n.own.limits.durable n.own.logs in
    let sends : NoMore first.logs m.logs = subst (λ (x : TheNode). NoMore first.logs x.logs) (sym h.1.1.2) (logs.ticked first) in
    omega arith
returns (Restoring n) new h = moved (Restoring n) new h.1
returns old new h = moved old new h

passes : (old new : Lifecycle) → Passes old new → No old new
passes old new p =
    let a = recovers old p.told p.recovers in
    let b = finishes p.told p.ran p.finishes in
    let c = begins p.ran p.asks p.begins in
    let d = returns p.asks new p.returns in
    omega arith

-- ---- calls

call : (Does : Lifecycle → Lifecycle → Type 0) → ((a b : Lifecycle) → Does a b → No a b) → (old new : TheProcess) → Calls Does old new → KeepsNoMore old new
call Does keeps old new c =
    let a = keeps old.lifecycle c.mid c.does in
    let b = passes c.mid new.lifecycle c.passes in
    reads_no_more old.lifecycle new.lifecycle (then_no_more (logs_of old.lifecycle) (logs_of c.mid) (logs_of new.lifecycle) a b)

stay : (Does : Lifecycle → Lifecycle → Type 0) → ((a b : Lifecycle) → Does a b → No a b) → (old new : TheProcess) → Stays Does old new → KeepsNoMore old new
stay Does keeps old new s = reads_no_more old.lifecycle new.lifecycle (keeps old.lifecycle new.lifecycle s.does)

worked : (state : List ℕ) (xs : List Given) (old new : TheProcess) → TakesBack state xs old new → entries_of new ≤ entries_of old + length xs
worked state xs old new t =
    let a = takes_in state xs old.lifecycle t.mid t.takes in
    let b = passes t.mid new.lifecycle t.passes in
    let c = entries_more (logs_of old.lifecycle) (logs_of new.lifecycle) (length xs) (omega arith) in
    let d = read old.lifecycle in
    let e = read new.lifecycle in
    omega arith

-- no more than a handler may give
few_given : (state : List ℕ) (xs : List Given) (old new : Lifecycle) → MayTakeIn old xs → TakesIn state xs old new → kept (logs_of new) ≤ kept (logs_of old) + MOST_GIVEN
few_given state xs (Up old) new may h =
    let few = may.few in
    let a = takes_in state xs (Up old) new h in
    omega arith
few_given state xs (Replaying old) new may h =
    let few = may.few in
    let a = takes_in state xs (Replaying old) new h in
    omega arith
few_given state xs old new may h = let m = moved old new h in omega arith

pub few_more : (state : List ℕ) (xs : List Given) (old new : TheProcess) → MayTakeIn old.lifecycle xs → TakesBack state xs old new → entries_of new ≤ entries_of old + MOST_GIVEN
few_more state xs old new may t =
    let a = few_given state xs old.lifecycle t.mid may t.takes in
    let b = passes t.mid new.lifecycle t.passes in
    let c = entries_more (logs_of old.lifecycle) (logs_of new.lifecycle) MOST_GIVEN (omega arith) in
    let d = read old.lifecycle in
    let e = read new.lifecycle in
    omega arith

pub entries_are_given : EntriesAreGiven
entries_are_given =
    record {
      received = λ x. call (IsHanded x) (handed x);
      ticked = call Ticks ticks;
      taken = λ o. stay (Takes o) (takes o);
      frozen = stay Freezes freezes;
      saved = stay Thaws thaws;
      worked = worked;
    }

-- ---- what is covered for good

at_place : (xs : List TheQueue) (d : ℕ) (q : TheQueue) → length (log_at (slice_set xs d q) d).payloads ≤ length q.payloads
at_place [] d q = omega arith
at_place (x ∷ xs) zero q = omega arith
at_place (x ∷ xs) (suc d) q = at_place xs d q

dropped : (k : ℕ) (q : TheQueue) → length (dropped_to k q).payloads ≤ sent_in q - k
dropped k q = let l = length-drop (min (k - q.dropped) (length q.payloads)) q.payloads in omega arith

is_up : (x : NodePacket) (n : TheNode) (mid : Lifecycle) → IsHanded x (Up n) mid → (m : TheNode) × (mid ≡ Up m) × (m ≡ up.handed x n)
is_up x n (Up m) h = (m, refl, h.0)
is_up x n mid h = absurd h

up_stays : (m : TheNode) (new : Lifecycle) → Passes (Up m) new → new ≡ Up m
up_stays m new p =
    let ran : p.ran ≡ Up m = subst (λ (c : Lifecycle). Finishes c p.ran) p.recovers p.finishes in
    let asks : p.asks ≡ Up m = subst (λ (c : Lifecycle). Begun c p.asks) ran p.begins in
    subst (λ (c : Lifecycle). Returns c new) asks p.returns

pub covered_are_dropped : CoveredAreDropped
covered_are_dropped =
    record {
      dropped = λ x k n old new was says is c.
          let i = is_up x n c.mid (subst (λ (o : Lifecycle). IsHanded x o c.mid) was c.does) in
          let m = i.0 in
          let handed_is : up.handed x n ≡ up.dropped_by x.from k n = ap (λ b. if b then up.told x.from x.body n else n) is ∙ ap (λ (b : Body). up.told x.from b n) says in
          let new_is : new.lifecycle ≡ Up m = up_stays m new.lifecycle (subst (λ (o : Lifecycle). Passes o new.lifecycle) i.1 c.passes) in
          let logs_are : m.logs ≡ slice_set n.logs x.from (dropped_to k (log_at n.logs x.from)) = ap (λ (a : TheNode). a.logs) (i.2 ∙ handed_is) in
          let few = at_place n.logs x.from (dropped_to k (log_at n.logs x.from)) in
          let less = dropped k (log_at n.logs x.from) in
          let here : length (log_at m.logs x.from).payloads ≤ sent_in (log_at n.logs x.from) - k = subst (λ (l : List TheQueue). length (log_at l x.from).payloads ≤ sent_in (log_at n.logs x.from) - k) (sym logs_are) (omega arith) in
          (m, new_is, here);
    }
