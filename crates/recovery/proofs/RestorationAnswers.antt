-- The answers of peers to a process that restores its numbers
use Rattle.std.proofs.Common.{◌≡◌, ◌≢◌, ℕ, zero, suc, ◌+◌, ◌<◌, ◌≤◌, List, [], ◌∷◌, ◌++◌, length, take, min, max, Bool, true, false, refl, sym, ap, ◌∙◌, subst, arith}
use Rattle.std.specs.Prelude.{Option, Some, None, not, slice_index_or, slice_set, ◌&&◌, ◌==◌, nat_lt, nat_le, if◌then◌else◌}
use Rattle.std.proofs.lemmas.Bool.Decides.{nat_tests}
use Rattle.std.proofs.lemmas.List.{get_or-set_same, get_or-set_other, take_all, length-append}
use Rattle.world.specs.Phases.{is_replaying, todo_of, has, without}
use Rattle.world.specs.World.{put}
use Rattle.world.specs.Calls.{phase_with, released_with}
use Rattle.world.specs.Logs.{length_in, length_of, sent, sent_in_all}
use Rattle.theorems.proofs.Changes.{at-itself}
use Rattle.theorems.proofs.Tests.{both}
use Rattle.cluster.specs.Parcels.{Restored, reaches}
use Rattle.cluster.specs.Cluster.{Cluster}
use Rattle.cluster.specs.Rules.{Awaits, MayTake, IsNode, arrived, goes_on, entered, takes_in as taken_in}
use Rattle.cluster.specs.Overlap.{Event, goes}
use Rattle.cluster.specs.Exact.{MayStep}
use Rattle.cluster.proofs.Nodes.{restores}
use Rattle.packets.specs.Packet.{is_done}
use Rattle.packets.specs.declared.page.Pair.{Pair}
use Rattle.packets.specs.declared.page.Flags.{Flags}
use Rattle.node.specs.Queue.{TheQueue, no_queue, dropped_to}
use Rattle.node.specs.Node.{log_at}
use Rattle.packets.specs.Says.{restored_end, first_number}
use Rattle.node.specs.Stands.{Each, KeepsOf, own_event, IsAct, sent_by}
use Rattle.node.proofs.Logs.{changed-at}
use Rattle.recovery.specs.Own.{TheOwn, hears}
use Rattle.recovery.specs.Intake.{sent_to, noted, takes_in, AscendFrom}
use Rattle.recovery.specs.Stands.{HasOwn, IsHeldBack, GoesTo}
use Rattle.recovery.proofs.Lists.{at-changed}
use Rattle.cluster.proofs.Goes.{goes-one, goes-then, goes-any}
use Rattle.recovery.proofs.Posts.{own-with}
use Rattle.recovery.proofs.Notes.{keeps-page, keeps-covered, known-told, last-above}
use Rattle.recovery.proofs.Holds.{held-told}
use Rattle.recovery.specs.Restoration.{TheRestoring, IsRestoring, above_of, has_answered, left, asks, last_ssn, answers, is_reply}
use Rattle.recovery.specs.RestorationStands.{IsKnown, StandsRestoring}
use Rattle.recovery.proofs.Left.{without-those, those-same, todo-is, not-replaying}
use Rattle.recovery.proofs.RestorationInquiries.{At, by-branch, left-has, asks-at}

-- what a page has that answers what was asked last
pub record IsReply (n : TheRestoring) (from i j s : ℕ) : Type 0 where
  pub life : i ≡ n.own.life
  pub young : slice_index_or n.own.heard from 0 ≤ j
  pub open_is : has_answered from n ≡ false
  pub place : s ≡ above_of from n

pub off : (b : Bool) → not b ≡ true → b ≡ false
off true e = absurd (cc)
off false e = refl

pub replies : (n : TheRestoring) (from i j s : ℕ) → is_reply from i j s n ≡ true → IsReply n from i j s
replies n from i j s e =
    let h = slice_index_or n.own.heard from 0 in
    let d = both ((i == n.own.life) && nat_le h j && not (has_answered from n)) (s == above_of from n) e in
    let f = both ((i == n.own.life) && nat_le h j) (not (has_answered from n)) d.0 in
    let g = both (i == n.own.life) (nat_le h j) f.0 in
    record {
      life = (let z : (i == n.own.life) ≡ true = g.0 in grind (arith, nat_tests));
      young = (let z : nat_le h j ≡ true = g.1 in grind (arith, nat_tests));
      open_is = off (has_answered from n) f.1;
      place = (let z : (s == above_of from n) ≡ true = d.1 in grind (arith, nat_tests));
    }

-- where it tells of no more than was sent
pub fits-in : (n : TheRestoring) (from i j covered s : ℕ) (pairs : List Pair) → answers from i j covered s pairs n ≡ true → (covered ≤ sent_to from n.own) × (last_ssn 0 pairs ≤ sent_to from n.own)
fits-in n from i j covered s pairs e =
    let many = sent_to from n.own in
    let a = both (is_reply from i j s n && nat_le covered many) (nat_le (last_ssn 0 pairs) many) e in
    let b = both (is_reply from i j s n) (nat_le covered many) a.0 in
    ((let z : nat_le covered many ≡ true = b.1 in grind (arith, nat_tests)), (let z : nat_le (last_ssn 0 pairs) many ≡ true = a.1 in grind (arith, nat_tests)))

-- what is left when one more has answered
answered-other : (n : TheRestoring) (from q : ℕ) → q ≢ from → slice_index_or (slice_set n.answered from true) q true ≡ has_answered q n
answered-other n from q other = get_or-set_other n.answered from q true true other

-- the log for one changes
module _ (n : TheRestoring) (c : Cluster) (from : ℕ) (st : StandsRestoring n c n.own.me) (low : from ≤ n.own.count) (other : from ≢ n.own.me) (w : IsRestoring n.own n.above n.answered) where
  abbrev me : ℕ
  me = n.own.me

  abbrev within : from ≤ c.world.count
  within = omega (arith, low, st.own.count)

  abbrev q : TheQueue
  q = log_at n.own.logs from

  inside : from < length n.own.logs
  inside = omega (arith, low, w.logs_wide)

  -- and so do how many entries it dropped and its numbers
  logs-changed : (x : TheQueue) (trims : ℕ) (numbers : ℕ → Option ℕ) → KeepsOf x trims (c.world.handlers.sends me (c.world.history me) from) numbers
      → (d : ℕ) → d ≤ c.world.count → d ≢ me → KeepsOf (log_at (slice_set n.own.logs from x) d) (if d == from then trims else c.world.trims me d) (c.world.handlers.sends me (c.world.history me) d) (if d == from then numbers else c.world.numbers me d)
  logs-changed x trims numbers k d l o =
      changed-at (λ z. KeepsOf z (if d == from then trims else c.world.trims me d) (c.world.handlers.sends me (c.world.history me) d) (if d == from then numbers else c.world.numbers me d)) n.own.logs from x d inside
      (λ same. let e : (d == from) ≡ true = grind (arith, nat_tests) in
      let P : ℕ → Type 0 = λ z. KeepsOf x trims (c.world.handlers.sends me (c.world.history me) z) numbers in
      rw e (subst P (sym same) k))
      (λ apart. let e : (d == from) ≡ false = grind (arith, nat_tests) in rw e (st.own.logs d l o))

  -- what it has released of it stays, and what waits
  held-changed : (covered : ℕ) (some : List Pair) (d : ℕ) → d ≤ c.world.count → d ≢ me → IsHeldBack (log_at (slice_set n.own.logs from (noted some (dropped_to covered q))) d) (length (c.world.history me)) n.own.base (sent_by c.world.handlers me (c.world.history me) d)
  held-changed covered some d l o =
      at-changed (λ z x (y : Unit {0}). IsHeldBack x (length (c.world.history me)) n.own.base (sent_by c.world.handlers me (c.world.history me) z)) n.own.logs no_queue (λ z. tt) from (noted some (dropped_to covered q)) tt d inside
      (held-told q covered (length (c.world.history me)) n.own.base (sent_by c.world.handlers me (c.world.history me) from) some (st.own.held from within other)) (st.own.held d l o)

  pub known-changed : (x : TheQueue) → Each IsKnown x.numbers → (d : ℕ) → d ≤ c.world.count → d ≢ me → Each IsKnown (log_at (slice_set n.own.logs from x) d).numbers
  known-changed x known d l o = at-changed (λ z x (y : Unit {0}). Each IsKnown x.numbers) n.own.logs no_queue (λ z. tt) from x tt d inside known (st.known d l o)

  -- how many messages it sent there
  pub sent-is : length (sent c.world me from) ≡ sent_to from n.own
  sent-is =
      let t = st.own.logs from within other in
      let inner : (me == 0) ≡ false = (let some : 0 < me = st.own.inside.0 in grind (arith, nat_tests)) in
      let long : length_of c.world me ≡ length (c.world.history me) = ap (length_in (c.world.history me) (c.world.saved me)) st.phase ∙ all-kept (left n) in
      let whole : take (length_of c.world me) (c.world.history me) ≡ c.world.history me = take_all (length_of c.world me) (c.world.history me) (omega (arith, long)) in
      let all : sent c.world me from ≡ t.before ++ q.payloads = rw (inner, whole) (sym t.joined) in
      let many : length (t.before ++ q.payloads) ≡ length t.before + length q.payloads = length-append t.before q.payloads in
      ap length all ∙ omega (arith, many, t.many)
    where
      all-kept : (ps : List ℕ) → length_in (c.world.history me) (c.world.saved me) (phase_with ps) ≡ length (c.world.history me)
      all-kept [] = refl
      all-kept (r ∷ rs) = refl

-- after a page of a process, if it then is exact as this says
abbrev pub told_as : Bool → ℕ → ℕ → ℕ → ℕ → Flags → List Pair → TheRestoring → TheRestoring
told_as exact from j covered s flags pairs n =
    if is_done flags then record n { own = record (hears from j (takes_in from covered pairs n.own)) { exact = exact }; answered = slice_set n.answered from true }
    else asks from (record n { own = record (hears from j (takes_in from covered pairs n.own)) { exact = exact }; above = slice_set n.above from (last_ssn s pairs) })

-- so after the answer of the gateway
abbrev pub greets_as : Bool → ℕ → TheRestoring → TheRestoring
greets_as exact covered n = record n { own = record (takes_in 0 covered [] n.own) { exact = exact }; answered = slice_set n.answered 0 true }

-- a page of a process
module _ (n : TheRestoring) (c : Cluster) (from i j covered s : ℕ) (flags : Flags) (pairs : List Pair) (st : StandsRestoring n c n.own.me) (low : from ≤ n.own.count) (some : 0 < from) (other : from ≢ n.own.me) (w : IsRestoring n.own n.above n.answered)
    (ok : IsReply n from i j s) (page : AscendFrom s pairs) (positive : (ssn : ℕ) → IsKnown (first_number pairs ssn)) (exact : Bool) (less : exact ≡ true → n.own.exact ≡ true) where
  abbrev p : ℕ
  p = n.own.me

  abbrev upto : Option ℕ
  upto = restored_end flags s pairs

  abbrev own : TheOwn
  own = record (hears from j (takes_in from covered pairs n.own)) { exact = exact }

  from-in : from ≤ c.world.count
  from-in = omega (arith, low, st.own.count)

  node : IsNode c from
  node = (some, from-in)

  place-is : s ≡ c.restoring p from
  place-is = ok.place ∙ sym (st.restoring from from-in)

  heard-low : c.heard p from ≤ j
  heard-low = let e = st.own.heard from from-in in omega (arith, e, ok.young)

  to-do : has (todo_of (c.world.phase p)) from ≡ true
  to-do = let e : todo_of (c.world.phase p) ≡ left n = ap todo_of st.phase ∙ todo-is (left n) in rw e (left-has n from some low ok.open_is)

  waited : Awaits c p from i j s
  waited = (node, st.stage, ok.life ∙ sym st.life, to-do, place-is, heard-low)

  -- it takes whatever such a page tells
  pub may-take : (m : ℕ) (f : ℕ → Option ℕ) → MayTake c from p (Restored i j m s upto f)
  may-take m f = take-at from upto some waited
    where
      take-at : (q : ℕ) (u : Option ℕ) → 0 < q → Awaits c p q i j s → MayTake c q p (Restored i j m s u f)
      take-at q (Some v) l a = a
      take-at zero None l a = absurd (omega (arith, l))
      take-at (suc q) None l a = a

  -- of what the page tells the cluster has what was sent
  module _ (m : ℕ) (f : ℕ → Option ℕ) (most : m ≡ min covered (sent_to from n.own)) (says : (ssn : ℕ) → s < ssn → m < ssn → ssn ≤ sent_to from n.own → reaches (restored_end flags s pairs) ssn ≡ true → f ssn ≡ first_number pairs ssn)
      (none : (ssn : ℕ) → s < ssn → sent_to from n.own < ssn → reaches (restored_end flags s pairs) ssn ≡ true → f ssn ≡ None) where
    -- what the process has in the cluster when it took in the page
    abbrev t : Cluster
    t = taken_in c p from j m s upto f

    page-keeps : KeepsOf (noted pairs (dropped_to covered (log_at n.own.logs from))) (max (c.world.trims p from) m) (c.world.handlers.sends p (c.world.history p) from) (entered c p from s upto f)
    page-keeps =
        keeps-page (log_at n.own.logs from) (c.world.trims p from) covered m s (c.world.handlers.sends p (c.world.history p) from) (c.world.numbers p from) f flags pairs (st.own.logs from from-in other) most page
        (λ ssn above. st.fresh from ssn from-in ok.open_is (omega (arith, above, ok.place))) says none

    logs-are : (d : ℕ) → d ≤ c.world.count → d ≢ p → KeepsOf (log_at own.logs d) (t.world.trims p d) (c.world.handlers.sends p (c.world.history p) d) (t.world.numbers p d)
    logs-are d l o =
        at-itself p (λ b. KeepsOf (log_at own.logs d) (if b && (d == from) then max (c.world.trims p from) m else c.world.trims p d) (c.world.handlers.sends p (c.world.history p) d) (if b && (d == from) then entered c p from s upto f else c.world.numbers p d))
        (logs-changed n c from st low other w (noted pairs (dropped_to covered (log_at n.own.logs from))) (max (c.world.trims p from) m) (entered c p from s upto f) page-keeps d l o)

    heard-is : (q : ℕ) → q ≤ c.world.count → t.heard p q ≡ slice_index_or own.heard q 0
    heard-is q l = at-itself p (λ b. (if b && (q == from) then j else c.heard p q) ≡ slice_index_or (slice_set n.own.heard from j) q 0)
        (at-changed (λ z x y. y ≡ x) n.own.heard 0 (c.heard p) from j j q (omega (arith, low, w.heard_wide)) refl (st.own.heard q l))

    sure-is : exact ≡ true → (q : ℕ) → q ≤ c.world.count → slice_index_or n.own.lost q true ≡ false
    sure-is e = st.own.sure (less e)

    -- what the cluster knows of failures
    abbrev known : Cluster → Cluster
    known d = record d { exact = put c.exact p exact; lost = c.lost; said = c.said }

    exact-is : (known c).exact p ≡ exact
    exact-is = at-itself p (λ b. (if b then exact else c.exact p) ≡ exact) refl

    known-are : (d : ℕ) → d ≤ c.world.count → d ≢ p → Each IsKnown (log_at own.logs d).numbers
    known-are = known-changed n c from st low other w (noted pairs (dropped_to covered (log_at n.own.logs from))) (known-told (log_at n.own.logs from) covered pairs positive (st.known from from-in other))

    -- of another peer nothing changes
    numbers-other : (q ssn : ℕ) → q ≢ from → t.world.numbers p q ssn ≡ c.world.numbers p q ssn
    numbers-other q ssn apart =
        let e : (q == from) ≡ false = grind (arith, nat_tests) in
        at-itself p (λ b. (if b && (q == from) then entered c p from s upto f else c.world.numbers p q) ssn ≡ c.world.numbers p q ssn) (rw e refl)

    -- the last page
    module _ (done : is_done flags ≡ true) where
      abbrev c' : Cluster
      c' = goes_on (taken_in c p from j m s None f) p (without (todo_of (c.world.phase p)) from)

      abbrev last : TheRestoring
      last = record n { own = own; answered = slice_set n.answered from true }

      end-is : upto ≡ None
      end-is = rw done refl

      left-is : without (todo_of (c.world.phase p)) from ≡ left last
      left-is =
          ap (λ x. without (todo_of x) from) st.phase ∙ ap (λ x. without x from) (todo-is (left n))
          ∙ without-those (λ q. not (has_answered q n)) (λ q. not (has_answered q last)) n.own.count from (λ q apart. ap not (answered-other n from q apart)) (ap not (get_or-set_same n.answered from true true (omega (arith, low, w.answered_wide))))

      -- the cluster after the last page, where that goes to the end
      stands-last : StandsRestoring last (known c') p
      stands-last = record {
        stage = st.stage;
        greeted = st.greeted ∙ sym (answered-other n from 0 (λ e. absurd (omega (arith, e, some))));
        phase = at-itself p (λ b. (if b then phase_with (without (todo_of (c.world.phase p)) from) else c.world.phase p) ≡ phase_with (left last)) (ap phase_with left-is);
        life = st.life;
        own = (let P : Option ℕ → Type 0 = λ u. HasOwn own (known (record (taken_in c p from j m s u f) { world = record (taken_in c p from j m s u f).world { phase = c'.world.phase; released = c'.world.released } })) p (c.world.history p) ((taken_in c p from j m s u f).world.trims p) ((taken_in c p from j m s u f).world.numbers p) in subst P end-is (own-with n.own c _ p _ refl refl refl refl (λ x l. l) (λ x l. l) st.own logs-are (held-changed n c from st low other w covered pairs) heard-is exact-is st.own.lost sure-is st.own.greets st.own.out));
        received = st.received;
        acknowledged = st.acknowledged;
        known = known-are;
        fresh = λ q ssn l open_is above. fresh-last q ssn l open_is above (q == from) refl;
        resumed = st.resumed;
        restoring = st.restoring;
        released = λ none d. at-itself p (λ b. (if b then released_with (taken_in c p from j m s None f).world p (without (todo_of (c.world.phase p)) from) else c.world.released p) d ≡ sent_in_all c'.world p d)
            (let e : without (todo_of (c.world.phase p)) from ≡ [] = left-is ∙ none in rw e refl);
      }
        where
          fresh-last : (q ssn : ℕ) → q ≤ c.world.count → has_answered q last ≡ false → above_of q n < ssn → (b : Bool) → (q == from) ≡ b → c'.world.numbers p q ssn ≡ None
          fresh-last q ssn l open_is above true e =
              let same : q ≡ from = grind (arith, nat_tests) in
              let is : has_answered from last ≡ true = get_or-set_same n.answered from true true (omega (arith, low, w.answered_wide)) in
              absurd (let P : ℕ → Type 0 = λ z. has_answered z last ≡ false in let g : has_answered from last ≡ false = subst P same open_is in let h : true ≡ false = sym is ∙ g in cc)
          fresh-last q ssn l open_is above false e =
              let apart : q ≢ from = grind (arith, nat_tests) in
              let P : Option ℕ → Type 0 = λ u. (taken_in c p from j m s u f).world.numbers p q ssn ≡ None in
              subst P end-is (numbers-other q ssn apart ∙ st.fresh q ssn l (sym (answered-other n from q apart) ∙ open_is) above)

      arrived-last : arrived c from p (Restored i j m s upto f) ≡ c'
      arrived-last = ap (λ u. arrived c from p (Restored i j m s u f)) end-is ∙ restores c from p i j m s f some

    -- one that isn't the last
    module _ (more : is_done flags ≡ false) where
      abbrev u : ℕ
      u = last_ssn s pairs

      abbrev cn : Cluster
      cn = arrived c from p (Restored i j m s (Some u) f)

      abbrev mn : TheRestoring
      mn = record n { own = own; above = slice_set n.above from u }

      end-next : upto ≡ Some u
      end-next = rw more refl

      above-is : (q : ℕ) → q ≤ c.world.count → cn.restoring p q ≡ above_of q mn
      above-is q l = at-itself p (λ b. (if b && (q == from) then u else c.restoring p q) ≡ slice_index_or (slice_set n.above from u) q 0)
          (at-changed (λ z x y. y ≡ x) n.above 0 (c.restoring p) from u u q (omega (arith, low, w.wide)) refl (st.restoring q l))

      stands-next : StandsRestoring mn (known cn) p
      stands-next = record {
        stage = st.stage;
        greeted = st.greeted;
        phase = st.phase;
        life = st.life;
        own = (let P : Option ℕ → Type 0 = λ v. HasOwn own (known (record (taken_in c p from j m s v f) { restoring = cn.restoring })) p (c.world.history p) ((taken_in c p from j m s v f).world.trims p) ((taken_in c p from j m s v f).world.numbers p) in subst P end-next (own-with n.own c _ p _ refl refl refl refl (λ x l. l) (λ x l. l) st.own logs-are (held-changed n c from st low other w covered pairs) heard-is exact-is st.own.lost sure-is st.own.greets st.own.out));
        received = st.received;
        acknowledged = st.acknowledged;
        known = known-are;
        fresh = λ q ssn l open_is above. fresh-next q ssn l open_is above (q == from) refl;
        resumed = st.resumed;
        restoring = above-is;
        released = st.released;
      }
        where
          fresh-next : (q ssn : ℕ) → q ≤ c.world.count → has_answered q n ≡ false → above_of q mn < ssn → (b : Bool) → (q == from) ≡ b → cn.world.numbers p q ssn ≡ None
          fresh-next q ssn l open_is above true e =
              let same : q ≡ from = grind (arith, nat_tests) in
              let new : above_of from mn ≡ u = get_or-set_same n.above from u 0 (omega (arith, low, w.wide)) in
              let over : u < ssn = (let P : ℕ → Type 0 = λ z. above_of z mn < ssn in let g : above_of from mn < ssn = subst P same above in omega (arith, g, new)) in
              let least : s ≤ u = last-above s pairs page in
              let past : nat_le ssn u ≡ false = grind (arith, nat_tests) in
              let behind : nat_lt s ssn ≡ true = (let g : s < ssn = omega (arith, over, least) in grind (arith, nat_tests)) in
              let was : c.world.numbers p from ssn ≡ None = st.fresh from ssn from-in ok.open_is (omega (arith, ok.place, over, least)) in
              at-itself p (λ b. (if b && (q == from) then entered c p from s (Some u) f else c.world.numbers p q) ssn ≡ None) (rw (e, behind, past) was)
          fresh-next q ssn l open_is above false e =
              let apart : q ≢ from = grind (arith, nat_tests) in
              let old : above_of q mn ≡ above_of q n = get_or-set_other n.above from q u 0 apart in
              let P : Option ℕ → Type 0 = λ v. (taken_in c p from j m s v f).world.numbers p q ssn ≡ None in
              subst P end-next (numbers-other q ssn apart ∙ st.fresh q ssn l open_is (omega (arith, old, above)))

    -- by any event that brings the page
    pub goes-page : (b : Bool) (e : Event) → MayStep c e → own_event e ≡ Some p → (b ≡ true → IsAct e) → goes c e ≡ known (arrived c from p (Restored i j m s upto f)) → GoesTo b p (At (told_as exact from j covered s flags pairs n) p) c
    goes-page b e might by act is =
        by-branch (λ z. GoesTo b p (At z p) c) (is_done flags) _ _
        (λ done. goes-one b p (At (last done) p) c e might by act (subst (At (last done) p) (sym (is ∙ ap known (arrived-last done))) (stands-last done)))
        (λ more. goes-then b p (At (mn more) p) (At (asks from (mn more)) p) c
        (goes-one b p (At (mn more) p) c e might by act (subst (At (mn more) p) (sym (is ∙ ap (λ v. known (arrived c from p (Restored i j m s v f))) (end-next more))) (stands-next more)))
        (λ d z. goes-any true b p (At (asks from (mn more)) p) d (λ y. refl) (asks-at (mn more) d from z low w.alone)))

-- the answer of the gateway
module _ (n : TheRestoring) (c : Cluster) (i j covered s : ℕ) (flags : Flags) (pairs : List Pair) (st : StandsRestoring n c n.own.me) (w : IsRestoring n.own n.above n.answered) (ok : IsReply n 0 i j s) (done : is_done flags ≡ true) (exact_then : Bool) (less_then : exact_then ≡ true → n.own.exact ≡ true) where
  abbrev g : ℕ
  g = n.own.me

  abbrev end : Option ℕ
  end = restored_end flags s pairs

  abbrev o : TheOwn
  o = record (takes_in 0 covered [] n.own) { exact = exact_then }

  abbrev r : TheRestoring
  r = greets_as exact_then covered n

  end-done : end ≡ None
  end-done = rw done refl

  pub may-greet : (m : ℕ) (f : ℕ → Option ℕ) → MayTake c 0 g (Restored i j m s end f)
  may-greet m f =
      let P : Option ℕ → Type 0 = λ u. MayTake c 0 g (Restored i j m s u f) in
      subst P (sym end-done) (st.stage, ok.life ∙ sym st.life, st.greeted ∙ ok.open_is, ap is_replaying st.phase ∙ not-replaying (left n))

  me-inside : 0 ≢ g
  me-inside e = let some : 0 < g = st.own.inside.0 in absurd (omega (arith, some, e))

  answered-gateway : has_answered 0 r ≡ true
  answered-gateway = get_or-set_same n.answered 0 true true (omega (arith, w.answered_wide))

  left-same : left n ≡ left r
  left-same = those-same (λ q. not (has_answered q n)) (λ q. not (has_answered q r)) n.own.count (λ q some low. ap not (sym (answered-other n 0 q (λ e. absurd (omega (arith, e, some))))))

  module _ (m : ℕ) (f : ℕ → Option ℕ) (most : m ≡ min covered (sent_to 0 n.own)) where
    abbrev d' : Cluster
    d' = arrived c 0 g (Restored i j m s None f)

    abbrev known_then : Cluster → Cluster
    known_then d = record d { exact = put c.exact g exact_then; lost = c.lost; said = c.said }

    logs-greeted : (d : ℕ) → d ≤ c.world.count → d ≢ g → KeepsOf (log_at o.logs d) (d'.world.trims g d) (c.world.handlers.sends g (c.world.history g) d) (c.world.numbers g d)
    logs-greeted d l apart =
        at-itself g (λ b. KeepsOf (log_at o.logs d) (if b && (d == 0) then max (c.world.trims g 0) m else c.world.trims g d) (c.world.handlers.sends g (c.world.history g) d) (c.world.numbers g d))
        (at-changed (λ z x y. KeepsOf x y (c.world.handlers.sends g (c.world.history g) z) (c.world.numbers g z)) n.own.logs no_queue (c.world.trims g) 0 (noted [] (dropped_to covered (log_at n.own.logs 0))) (max (c.world.trims g 0) m) d (omega (arith, w.logs_wide))
        (keeps-covered (log_at n.own.logs 0) (c.world.trims g 0) covered m (c.world.handlers.sends g (c.world.history g) 0) (c.world.numbers g 0) (st.own.logs 0 (omega arith) me-inside) most) (st.own.logs d l apart))

    stands-greeted : StandsRestoring r (known_then d') g
    stands-greeted = record {
      stage = st.stage;
      greeted = at-itself g (λ b. (if b then true else c.greeted g) ≡ has_answered 0 r) (sym answered-gateway);
      phase = st.phase ∙ ap phase_with left-same;
      life = st.life;
      own = own-with n.own c (known_then d') g _ refl refl refl refl (λ x l. l) (λ x l. l) st.own logs-greeted (held-changed n c 0 st (omega arith) me-inside w covered []) st.own.heard (at-itself g (λ b. (if b then exact_then else c.exact g) ≡ exact_then) refl) st.own.lost (λ e. st.own.sure (less_then e)) st.own.greets st.own.out;
      received = st.received;
      acknowledged = st.acknowledged;
      known = known-changed n c 0 st (omega arith) me-inside w (noted [] (dropped_to covered (log_at n.own.logs 0))) (known-told (log_at n.own.logs 0) covered [] (λ ssn. tt) (st.known 0 (omega arith) me-inside));
      fresh = λ q ssn l open_is above. st.fresh q ssn l (still q open_is (q == 0) refl) above;
      resumed = st.resumed;
      restoring = st.restoring;
      released = λ none d. st.released (left-same ∙ none) d;
    }
      where
        still : (q : ℕ) → has_answered q r ≡ false → (b : Bool) → (q == 0) ≡ b → has_answered q n ≡ false
        still q open_is true e =
            let same : q ≡ 0 = grind (arith, nat_tests) in
            absurd (let P : ℕ → Type 0 = λ z. has_answered z r ≡ false in let h : has_answered 0 r ≡ false = subst P same open_is in let k : true ≡ false = sym answered-gateway ∙ h in cc)
        still q open_is false e = let apart : q ≢ 0 = grind (arith, nat_tests) in sym (answered-other n 0 q apart) ∙ open_is

    pub goes-greeted : (b : Bool) (e : Event) → MayStep c e → own_event e ≡ Some g → (b ≡ true → IsAct e) → goes c e ≡ known_then (arrived c 0 g (Restored i j m s end f)) → GoesTo b g (At r g) c
    goes-greeted b e might by act is = goes-one b g (At r g) c e might by act (subst (At r g) (sym (is ∙ ap (λ u. known_then (arrived c 0 g (Restored i j m s u f))) end-done)) stands-greeted)

-- it goes on to where it stands
abbrev pub Onward : ℕ → Cluster → TheRestoring → Type 0
Onward p c m = GoesTo m.own.exact p (At m p) c
