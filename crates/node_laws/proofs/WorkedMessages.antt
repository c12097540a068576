-- The process of the worked list, and the gateway
use Rattle.std.proofs.Common.{◌≡◌, ℕ, suc, ◌+◌, ◌<◌, ◌≤◌, List, [], ◌∷◌, ◌++◌, length, Bool, true, false, refl, sym, ap, ◌∙◌, arith, length-append}
use Rattle.std.specs.Prelude.{Option, Some, None, is_some, slice_index_or, ◌==◌, if◌then◌else◌}
use Rattle.std.specs.List.{AllByRecursion}
use Rattle.std.proofs.lemmas.Bool.Decides.{nat_tests}
use Rattle.packets.specs.Format.{short_bytes, long_bytes, checksum_bytes, IsLong}
use Rattle.packets.specs.declared.kept.Kept.{Kept}
use Rattle.packets.specs.Kept.{kept_in_range, KeptFits, word_bytes, kept_bytes}
use Rattle.packets.specs.Packet.{entries_in_range}
use Rattle.world.specs.declared.message.Message.{Message}
use Rattle.world.specs.History.{count_of}
use Rattle.world.specs.Plan.{if_next}
use Rattle.rsn.specs.Receipts.{Received}
use Rattle.stores.specs.Store.{IsOf}
use Rattle.node.specs.declared.job.OpenJob.{OpenJob}
use Rattle.node.specs.Limit.{usual, AreAllowed}
use Rattle.node.specs.Queue.{TheQueue, no_queue}
use Rattle.node.specs.Node.{TheNode, IsWithin, Within, IsPeer, OfPeer, HasSsn, MaySend, log_at}
use Rattle.node.specs.Kept.{log_of, kept_of}
use Rattle.node.specs.Suspension.{suspended_bytes, IsWhole, CanSuspend, IsSuspended}
use Rattle.node.specs.Stands.{job_of}
use Rattle.node.proofs.Lists.{count-append}
use Rattle.recovery.specs.Own.{TheOwn, MayGive}
use Rattle.recovery.specs.Plan.{told_under, Plans}
use Rattle.recovery.proofs.Moments.{comes-back}
use Rattle.recovery.specs.Restoration.{IsRestoring}
use Rattle.gateway.specs.Gateway.{TheGateway}
use Rattle.recovery.proofs.Preservation.{at-each}
use Rattle.node_laws.specs.HostProcess.{IsFirst}
use Rattle.node_laws.specs.Inside.Process.{Recovers}
use Rattle.node_laws.specs.WorkedMessages.{quiet, restores, n0, n1, n2, n4, n5, n6, n7, n8, n9, has_all, job, replays, begins}

-- the usual limits are in their ranges
pub usual-allowed : AreAllowed usual
usual-allowed = record { page = (omega arith, omega arith); tick = omega arith; numbers = (omega arith, omega arith); receipts = (omega arith, omega arith) }

-- ---- what the node keeps, which sends nothing

abbrev logs : List TheQueue
logs = no_queue ∷ no_queue ∷ []

none-at : (k d : ℕ) → (log_at logs d).dropped + length (log_at logs d).payloads ≤ k
none-at k d = at-each (λ (q : TheQueue). q.dropped + length q.payloads ≤ k) logs no_queue (omega arith) (omega arith, (omega arith, tt)) d

at-most : (k q : ℕ) → slice_index_or (k ∷ 0 ∷ []) q 0 ≤ k
at-most k q = at-each (λ z. z ≤ k) (k ∷ 0 ∷ []) 0 (omega arith) (omega arith, (omega arith, tt)) q

-- one that received so many messages of the gateway behind its checkpoint, and works on the next or on none
module _ (base : ℕ) (acknowledged : List Bool) (waiting : ℕ) (senders : List ℕ) (low : base ≤ 2) (few : length senders ≤ 2) (many : waiting ≤ length senders) (peers : AllByRecursion (IsPeer 1 1) senders) where
  abbrev receipts : Received
  receipts = record { senders = senders; acknowledged = acknowledged }

  is-within : (working : Option OpenJob) (frozen : Bool) → OfPeer 1 1 working → HasSsn working → (frozen ≡ true → is_some working ≡ false)
      → IsWithin usual 1 1 base (base ∷ 0 ∷ []) (1 ∷ 1 ∷ []) (true ∷ true ∷ []) receipts logs working frozen waiting 1 []
  is-within working frozen own numbered rests =
      record {
        allowed = usual-allowed;
        inside = omega arith;
        within = omega arith;
        few = omega arith;
        wide = refl;
        heard_wide = refl;
        resumed_wide = refl;
        logs_wide = refl;
        counts = at-most base;
        peers = record { total = omega arith; none_own = refl; behind = peers };
        young = omega arith;
        bound = omega arith;
        room = λ e. (omega arith, omega arith);
        waits = many;
        own = own;
        numbered = numbered;
        rests = rests;
        short = λ d. none-at _ d;
        alive = (omega arith, omega arith);
        fit = tt;
      }

  rests : (frozen : Bool) → IsWithin usual 1 1 base (base ∷ 0 ∷ []) (1 ∷ 1 ∷ []) (true ∷ true ∷ []) receipts logs None frozen waiting 1 []
  rests frozen = is-within None frozen tt tt (λ e. refl)

  works-on : (k : ℕ) → 0 < k → k ≤ 3 → IsWithin usual 1 1 base (base ∷ 0 ∷ []) (1 ∷ 1 ∷ []) (true ∷ true ∷ []) receipts logs (Some (job k)) false waiting 1 []
  works-on k some within = is-within (Some (job k)) false (omega arith, λ e. absurd (omega (arith, e))) (some, omega arith) (λ e. absurd (cc (e)))

of-gateway : IsPeer 1 1 0
of-gateway = (omega arith, λ e. absurd (omega (arith, e)))

-- ---- what the handler answers

pub gives-none : (n : TheNode) → MaySend n []
gives-none n = record { few = omega arith; others = λ i s e. absurd (cc) }

-- ---- what is told is replayed

abbrev jobs : List OpenJob
jobs = job 2 ∷ job 3 ∷ []

-- the message under the next number is the next of its sender
next-is : (f : ℕ → Option Message) (h : List Message) (m : Message) (k c : ℕ) → length h ≡ k → count_of m.sender h ≡ c → m.ssn ≡ suc c → f (suc k) ≡ Some m → if_next h (f (suc (length h))) ≡ Some m
next-is f h m k c long count ssn is =
    let here : f (suc (length h)) ≡ Some m = ap (λ n. f (suc n)) long ∙ is in
    let on : (m.ssn == suc (count_of m.sender h)) ≡ true = grind (arith, nat_tests) in
    ap (if_next h) here ∙ ap (λ b. if b then Some m else None) on

plans : Plans has_all jobs
unfolding entries_in_range
plans h c =
    let f : ℕ → Option Message = told_under has_all.told 1 in
    let m2 : Message = job_of (job 2) in
    let m3 : Message = job_of (job 3) in
    let one : count_of 0 h ≡ 1 = sym (c.counts 0 (omega arith)) in
    let long : length h ≡ 1 = c.many in
    let two : count_of 0 (h ++ m2 ∷ []) ≡ 2 = count-append 0 h (m2 ∷ []) ∙ ap (λ k. k + 1) one in
    let long2 : length (h ++ m2 ∷ []) ≡ 2 = length-append h (m2 ∷ []) ∙ ap (λ k. k + 1) long in
    let long3 : length (h ++ m2 ∷ m3 ∷ []) ≡ 3 = length-append h (m2 ∷ m3 ∷ []) ∙ ap (λ k. k + 2) long in
    record {
      follows = (next-is f h m2 1 1 long one refl refl, (next-is f (h ++ m2 ∷ []) m3 2 2 long2 two refl refl, tt));
      most = ap (λ k. if_next (h ++ m2 ∷ m3 ∷ []) (f (suc k))) long3;
    }

pub recovers : Recovers has_all replays
unfolding entries_in_range
recovers = record { all = refl; is = record { own = refl; plans = plans; none = refl }; acts = comes-back has_all jobs refl plans }

pub is-restoring : IsRestoring (restores [] begins).own (restores [] begins).above (restores [] begins).answered
unfolding entries_in_range
is-restoring = record { wide = refl; answered_wide = refl; heard_wide = refl; logs_wide = refl; alone = refl }

pub first-of : (g : TheGateway) → length g.store.peers ≡ 1 → IsOf 1 g.store
first-of g one = record { some = omega arith; low = omega (arith, one) }

-- the process is the first
pub first : IsFirst 1 1
first = (omega arith, omega arith)

pub early : 1 < 2
early = omega arith

-- ---- the node as it goes on

pub within-n0 : Within n0
unfolding entries_in_range
within-n0 = rests 0 [] 0 [] (omega arith) (omega arith) (omega arith) tt false

pub within-n1 : Within n1
unfolding entries_in_range
within-n1 = works-on 0 [] 0 [] (omega arith) (omega arith) (omega arith) tt 1 (omega arith) (omega arith)

pub within-q2 : Within (quiet n2)
unfolding entries_in_range
within-q2 = rests 0 (false ∷ []) 1 (0 ∷ []) (omega arith) (omega arith) (omega arith) (of-gateway, tt) false

pub within-n4 : Within n4
unfolding entries_in_range
within-n4 = rests 0 (true ∷ []) 0 (0 ∷ []) (omega arith) (omega arith) (omega arith) (of-gateway, tt) true

pub within-q5 : Within (quiet n5)
unfolding entries_in_range
within-q5 = rests 1 [] 0 [] (omega arith) (omega arith) (omega arith) tt false

pub within-n6 : Within n6
unfolding entries_in_range
within-n6 = works-on 1 [] 0 [] (omega arith) (omega arith) (omega arith) tt 2 (omega arith) (omega arith)

pub within-q7 : Within (quiet n7)
unfolding entries_in_range
within-q7 = rests 1 (false ∷ []) 1 (0 ∷ []) (omega arith) (omega arith) (omega arith) (of-gateway, tt) false

pub within-n8 : Within n8
unfolding entries_in_range
within-n8 = works-on 1 (false ∷ []) 1 (0 ∷ []) (omega arith) (omega arith) (omega arith) (of-gateway, tt) 3 (omega arith) (omega arith)

pub within-q9 : Within (quiet n9)
unfolding entries_in_range
within-q9 = rests 1 (false ∷ false ∷ []) 2 (0 ∷ 0 ∷ []) (omega arith) (omega arith) (omega arith) (of-gateway, (of-gateway, tt)) false

-- ---- it may be suspended when its checkpoint is durable

unused-whole : IsWhole no_queue
unused-whole = record { as_many = refl; small = omega arith; sent = omega arith; numbered = tt }

-- what is kept after so many messages, where the last leaves this state, has its room
abbrev kept : ℕ → ℕ → Kept
kept many byte = record { me = 1; count = 1; state = byte ∷ []; length = many; counts = many ∷ []; logs = log_of no_queue ∷ [] }

pub fits : (many byte : ℕ) → many ≤ 1 → kept_in_range (kept many byte) ≡ true → KeptFits (kept many byte)
fits many byte few range =
    record {
      few = omega arith;
      some = omega arith;
      own = omega arith;
      state = omega arith;
      room = record { length_is = omega (arith, few); counts = (omega (arith, few), tt); logs = ((omega arith, (omega arith, tt)), tt); counts_are = refl; logs_are = refl };
      range = range;
    }

pub fits-5 : KeptFits (kept_of (quiet n5))
unfolding entries_in_range
fits-5 = fits 1 1 (omega arith) refl

small-5 : IsLong (length (kept_bytes (kept_of (quiet n5))))
unfolding entries_in_range short_bytes long_bytes word_bytes checksum_bytes
small-5 = let long : length (kept_bytes (kept_of (quiet n5))) ≡ 41 = refl in omega (arith, long)

can-suspend : CanSuspend (quiet n5)
unfolding entries_in_range
can-suspend =
    record { live = refl; idle = refl; covered = refl; fits = record { kept = fits-5; small = small-5; flags = refl; heard = (omega arith, (omega arith, tt)); logs = (unused-whole, (unused-whole, tt)) } }

-- these are its bytes
pub suspended-5 : IsSuspended (quiet n5) (suspended_bytes (quiet n5))
suspended-5 = record { within = within-q5; can = can-suspend; bytes_are = refl }

pub gives-nothing : (o : TheOwn) → MayGive o []
gives-nothing o = record { few = omega arith; others = λ i s e. absurd (cc) }
