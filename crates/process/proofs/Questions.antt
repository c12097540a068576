-- What a process says that comes back can be written, by its number and the number of processes
use Rattle.std.proofs.Common.{◌≡◌, ◌∙◌, ◌≤◌, ◌+◌, ℕ, zero, suc, List, [], length, Bool, true, false, refl, sym, ap, subst, arith}
use Rattle.std.specs.Prelude.{not, ◌&&◌, ◌==◌, nat_lt, nat_le, if◌then◌else◌, slice_set}
use Rattle.std.specs.List.{list_all}
use Rattle.std.proofs.lemmas.Bool.Decides.{nat_tests}
use Rattle.theorems.proofs.Tests.{both, at_most, is_at_most, different}
use Rattle.limits.specs.declared.TheConstants.{PROCESSES}
use Rattle.rsn.specs.declared.receipts.TheConstants.{LIMIT}
use Rattle.packets.specs.Packet.{flags_of, is_done, is_number, is_positive, is_entry_above, is_pair_above, entries_in_range, in_range}
use Rattle.packets.specs.declared.packet.Body.{Body}
use Rattle.packets.specs.declared.packet.Body.TheVariants as body
use Rattle.packets.specs.declared.packet.NodePacket.{NodePacket}
use Rattle.packets.specs.declared.page.LoggedMessage.{LoggedMessage}
use Rattle.packets.specs.declared.page.Pair.{Pair}
use Rattle.packets.specs.declared.page.Flags.{Flags}
use Rattle.node.specs.declared.node.TheConstants.{MOST_RECEIVED}
use Rattle.node.specs.Stands.{Each}
use Rattle.node.proofs.Lists.{all-pushed}
use Rattle.recovery.specs.Own as own
use Rattle.recovery.specs.Own.{TheOwn}
use Rattle.recovery.specs.Collected.{TheCollected, none_told, with_page, last_number}
use Rattle.recovery.specs.Collection as collecting
use Rattle.recovery.specs.Collection.{TheCollecting, told_of}
use Rattle.recovery.specs.Overlap as meeting
use Rattle.recovery.specs.Intake as entering
use Rattle.recovery.specs.Restoration as restoring
use Rattle.recovery.specs.Restoration.{TheRestoring, above_of, has_answered}
use Rattle.process.specs.Packets.{is_brief, is_written}
use Rattle.process.proofs.Holdings.{either}
use Rattle.process.proofs.Bounds.{by-test, not-true}
use Rattle.process.proofs.Ranges.{all-of, not-false, young-number, base-number, last-number, last-ssn, told-in-range, restored-in-range, no-page, set-any, stays, elsewhere}

abbrev pub W : NodePacket → Type 0
W x = is_written x ≡ true

-- what it is by its number and the number of processes, and what it has written
pub record Says (me count : ℕ) (o : TheOwn) : Type 0 where
  pub me_is : o.me ≡ me
  pub count_is : o.count ≡ count
  pub alive : is_positive o.life ≡ true
  pub young : o.base ≤ MOST_RECEIVED
  pub out : Each W o.out

pub record Collects (me count : ℕ) (n : TheCollecting) : Type 0 where
  pub says : Says me count n.own
  pub cursors : (q : ℕ) → is_number (told_of n.told q).cursor ≡ true

pub record Restores (me count : ℕ) (n : TheRestoring) : Type 0 where
  pub says : Says me count n.own
  pub few : length n.receipts.senders ≤ LIMIT
  pub above : (q : ℕ) → is_number (above_of q n) ≡ true
  pub alone : has_answered me n ≡ true

module _ (me count : ℕ) (inside : 1 ≤ me) (within : me ≤ count) (few : count ≤ PROCESSES) where
  writable : (x : NodePacket) → x.count ≡ count → x.from ≡ me → x.to ≤ count → (x.to == me) ≡ false → is_brief x.body ≡ true → in_range x.body ≡ true → W x
  writable x n from to other brief range =
      let a : nat_le 1 x.count ≡ true = is_at_most 1 x.count (omega (arith, inside, within, n)) in
      let b : nat_le x.count PROCESSES ≡ true = is_at_most x.count PROCESSES (omega (arith, few, n)) in
      let c : nat_le x.from x.count ≡ true = is_at_most x.from x.count (omega (arith, within, n, from)) in
      let d : nat_le x.to x.count ≡ true = is_at_most x.to x.count (omega (arith, to, n)) in
      let apart = different x.to me other in
      let e : (x.from == x.to) ≡ false = grind (arith, nat_tests) in
      let ab = all-of (nat_le 1 x.count) (nat_le x.count PROCESSES) a b in
      let abc = all-of (nat_le 1 x.count && nat_le x.count PROCESSES) (nat_le x.from x.count) ab c in
      let abcd = all-of (nat_le 1 x.count && nat_le x.count PROCESSES && nat_le x.from x.count) (nat_le x.to x.count) abc d in
      let abcde = all-of (nat_le 1 x.count && nat_le x.count PROCESSES && nat_le x.from x.count && nat_le x.to x.count) (not (x.from == x.to)) abcd (not-false (x.from == x.to) e) in
      let f = all-of (nat_le 1 x.count && nat_le x.count PROCESSES && nat_le x.from x.count && nat_le x.to x.count && not (x.from == x.to)) (is_brief x.body) abcde brief in
      all-of (nat_le 1 x.count && nat_le x.count PROCESSES && nat_le x.from x.count && nat_le x.to x.count && not (x.from == x.to) && is_brief x.body) (in_range x.body) f range

  posted : (to : ℕ) (b : Body) (o : TheOwn) → to ≤ count → (to == me) ≡ false → is_brief b ≡ true → in_range b ≡ true → Says me count o → Says me count (own.posts to b o)
  posted to b o near other brief range s =
      record {
        me_is = s.me_is;
        count_is = s.count_is;
        alive = s.alive;
        young = s.young;
        out = all-pushed W o.out (own.packet_of o to b) s.out (writable (own.packet_of o to b) s.count_is s.me_is near other brief range);
      }

  -- where all else stays
  kept : (o m : TheOwn) → m.me ≡ o.me → m.count ≡ o.count → m.life ≡ o.life → m.base ≡ o.base → m.out ≡ o.out → Says me count o → Says me count m
  kept o m e f g h i s =
      record {
        me_is = e ∙ s.me_is;
        count_is = f ∙ s.count_is;
        alive = ap is_positive g ∙ s.alive;
        young = subst (λ k. k ≤ MOST_RECEIVED) (sym h) s.young;
        out = subst (Each W) (sym i) s.out;
      }

  -- a packet is of another one
  from-other : (x : NodePacket) (o : TheOwn) → Says me count o → own.is_for o x ≡ true → (x.from ≤ count) × ((x.from == me) ≡ false)
  from-other x o s e =
      let a = both ((x.count == o.count) && (x.to == o.me) && nat_le x.from o.count) (not (x.from == o.me)) e in
      let b = both ((x.count == o.count) && (x.to == o.me)) (nat_le x.from o.count) a.0 in
      (subst (λ k. x.from ≤ k) s.count_is (at_most x.from o.count b.1), subst (λ k. (x.from == k) ≡ false) s.me_is (not-true (x.from == o.me) a.1))

  tells-loss : (q i k : ℕ) (o : TheOwn) → q ≤ count → (q == me) ≡ false → in_range (body.Ask i k) ≡ true → Says me count o → Says me count (meeting.tells_loss q i k o)
  tells-loss q i k o near other range s =
      let t = both (is_positive i) (is_number k) range in
      let u = all-of (is_positive i) (is_positive o.life) t.0 s.alive in
      let v = all-of (is_positive i && is_positive o.life) (is_number k) u t.1 in
      posted q (meeting.loss_of i k o) o near other refl (all-of (is_positive i && is_positive o.life && is_number k) (entries_in_range k (flags_of true true false) []) v (no-page k)) s

  -- ---- one that collects

  asks : (to : ℕ) (n : TheCollecting) → to ≤ count → (to == me) ≡ false → Collects me count n → Collects me count (collecting.asks to n)
  asks to n near other c =
      let t = told_of n.told to in
      let question = body.Ask n.own.life t.cursor in
      let asked : Says me count (own.posts to question n.own) = posted to question n.own near other refl (all-of (is_positive n.own.life) (is_number t.cursor) c.says.alive (c.cursors to)) c.says in
      either (Collects me count) t.done n (record n { own = own.posts to question n.own }) c (record { says = asked; cursors = c.cursors })

  asks_below : (d : ℕ) (n : TheCollecting) → d ≤ count + 1 → Collects me count n → Collects me count (collecting.asks_below me d n)
  asks_below zero n near c = c
  asks_below (suc d) n near c =
      let m = collecting.asks_below me d n in
      let before : Collects me count m = asks_below d n (omega (arith, near)) c in
      by-test (Collects me count) (d == me) m (collecting.asks d m) (λ e. before) (λ e. asks d m (omega (arith, near)) e before)

  pub asked : (n : TheCollecting) → Collects me count n → Collects me count (collecting.asked n)
  asked n c =
      subst (λ p. Collects me count (collecting.asks_below p (n.own.count + 1) n)) (sym c.says.me_is)
      (subst (λ k. Collects me count (collecting.asks_below me (k + 1) n)) (sym c.says.count_is) (asks_below (count + 1) n (omega arith) c))

  took_page : (from j k : ℕ) (flags : Flags) (page : List LoggedMessage) (n : TheCollecting) → from ≤ count → (from == me) ≡ false → list_all (is_entry_above k) page ≡ true → Collects me count n
      → Collects me count (collecting.took_page from j flags page n)
  took_page from j k flags page n near other all c =
      let t = told_of n.told from in
      let told = with_page (is_done flags) page t in
      let number : is_number told.cursor ≡ true = either (λ x. is_number x ≡ true) (is_done flags) t.cursor (last_number t.cursor page) (c.cursors from) (last-number k t.cursor page (c.cursors from) all) in
      let learned : TheCollecting = record { own = own.learns from j flags n.own; told = slice_set n.told from told } in
      asks from learned near other
      (record {
        says = kept n.own learned.own refl refl refl refl refl c.says;
        cursors = set-any (λ (x : TheCollected). is_number x.cursor ≡ true) n.told from told (none_told 0) c.cursors number;
      })

  asks_anew : (q i : ℕ) (n : TheCollecting) → q ≤ count → (q == me) ≡ false → Collects me count n → Collects me count (collecting.asks_anew q i n)
  asks_anew q i n near other c =
      let begun : TheCollecting = record { own = record (own.hears q i n.own) { lost = slice_set n.own.lost q false }; told = slice_set n.told q (none_told n.own.base) } in
      asks q begun near other
      (record {
        says = kept n.own begun.own refl refl refl refl refl c.says;
        cursors = set-any (λ (x : TheCollected). is_number x.cursor ≡ true) n.told q (none_told n.own.base) (none_told 0) c.cursors (base-number n.own.base c.says.young);
      })

  collecting-asked-by : (q i k : ℕ) (n : TheCollecting) → q ≤ count → (q == me) ≡ false → in_range (body.Ask i k) ≡ true → Collects me count n → Collects me count (collecting.asked_by q i k n)
  collecting-asked-by q i k n near other range c =
      let newer = nat_lt (meeting.heard_of q n.own) i in
      let m = if newer then collecting.asks_anew q i n else n in
      let meets : Collects me count m = either (Collects me count) newer (collecting.asks_anew q i n) n (asks_anew q i n near other c) c in
      let told : TheCollecting = record m { own = meeting.tells_loss q i k m.own } in
      either (Collects me count) (nat_lt i (meeting.heard_of q n.own)) n told c (record { says = tells-loss q i k m.own near other range meets.says; cursors = meets.cursors })

  collecting-heard : (from : ℕ) (b : Body) (n : TheCollecting) → from ≤ count → (from == me) ≡ false → Collects me count n → Collects me count (collecting.heard from b n)
  collecting-heard from (body.Told i j k flags page) n near other c =
      by-test (Collects me count) (in_range (body.Told i j k flags page) && collecting.answers from i j k n) (collecting.took_page from j flags page n) n
      (λ e. took_page from j k flags page n near other (told-in-range i j k flags page (both (in_range (body.Told i j k flags page)) (collecting.answers from i j k n) e).0).1 c) (λ e. c)
  collecting-heard from (body.Ask i k) n near other c =
      by-test (Collects me count) (in_range (body.Ask i k)) (collecting.asked_by from i k n) n (λ e. collecting-asked-by from i k n near other e c) (λ e. c)
  collecting-heard from (body.Delivery i ssn x) n near other c = c
  collecting-heard from (body.Number i ssn k) n near other c = c
  collecting-heard from (body.Acknowledgement i k) n near other c = c
  collecting-heard from (body.Saved k) n near other c = c
  collecting-heard from (body.Resume i k s) n near other c = c
  collecting-heard from (body.Restored i j v s flags pairs) n near other c = c

  pub collecting-handed : (x : NodePacket) (n : TheCollecting) → Collects me count n → Collects me count (collecting.handed x n)
  collecting-handed x n c =
      by-test (Collects me count) (own.is_for n.own x) (collecting.heard x.from x.body n) n
      (λ e. let f = from-other x n.own c.says e in collecting-heard x.from x.body n f.0 f.1 c) (λ e. c)

  -- ---- one that replays, or replayed

  meeting-asked-by : (q i k : ℕ) (o : TheOwn) → q ≤ count → (q == me) ≡ false → in_range (body.Ask i k) ≡ true → Says me count o → Says me count (meeting.asked_by q i k o)
  meeting-asked-by q i k o near other range s =
      let newer = nat_lt (meeting.heard_of q o) i in
      let m = if newer then meeting.meets q i o else o in
      let meets : Says me count m = either (Says me count) newer (meeting.meets q i o) o (kept o (meeting.meets q i o) refl refl refl refl refl s) s in
      either (Says me count) (nat_lt i (meeting.heard_of q o)) o (meeting.tells_loss q i k m) s (tells-loss q i k m near other range meets)

  meeting-heard : (from : ℕ) (b : Body) (o : TheOwn) → from ≤ count → (from == me) ≡ false → in_range b ≡ true → Says me count o → Says me count (meeting.heard from b o)
  meeting-heard from (body.Ask i k) o near other range s = meeting-asked-by from i k o near other range s
  meeting-heard from (body.Told i j k flags page) o near other range s = s
  meeting-heard from (body.Delivery i ssn x) o near other range s = s
  meeting-heard from (body.Number i ssn k) o near other range s = s
  meeting-heard from (body.Acknowledgement i k) o near other range s = s
  meeting-heard from (body.Saved k) o near other range s = s
  meeting-heard from (body.Resume i k t) o near other range s = s
  meeting-heard from (body.Restored i j v t flags pairs) o near other range s = s

  pub meeting-handed : (x : NodePacket) (o : TheOwn) → Says me count o → Says me count (meeting.handed x o)
  meeting-handed x o s =
      by-test (Says me count) (own.is_for o x && in_range x.body) (meeting.heard x.from x.body o) o
      (λ e. let b = both (own.is_for o x) (in_range x.body) e in let f = from-other x o s b.0 in meeting-heard x.from x.body o f.0 f.1 b.1 s) (λ e. s)

  -- ---- one that restores its numbers

  resumes : (to : ℕ) (n : TheRestoring) → to ≤ count → Restores me count n → Restores me count (restoring.asks to n)
  resumes to n near r =
      let keeps = entering.keeps (restoring.replayed_of n) in
      let question = body.Resume n.own.life keeps (above_of to n) in
      let a = all-of (is_positive n.own.life) (is_number keeps) r.says.alive (young-number n.own.base (length n.receipts.senders) r.says.young r.few) in
      let range : in_range question ≡ true = all-of (is_positive n.own.life && is_number keeps) (is_number (above_of to n)) a (r.above to) in
      by-test (Restores me count) (has_answered to n) n (record n { own = own.posts to question n.own }) (λ e. r)
      (λ e. record { says = posted to question n.own near (other e) refl range r.says; few = r.few; above = r.above; alone = r.alone })
    where
      other : has_answered to n ≡ false → (to == me) ≡ false
      other e = by-cases (to == me) refl
        where
          by-cases : (b : Bool) → (to == me) ≡ b → (to == me) ≡ false
          by-cases false f = f
          by-cases true f = absurd (let same : to ≡ me = grind (arith, nat_tests) in let g : has_answered to n ≡ true = subst (λ p. has_answered p n ≡ true) (sym same) r.alone in let z : true ≡ false = sym g ∙ e in cc (z))

  resumes_below : (d : ℕ) (n : TheRestoring) → d ≤ count + 1 → Restores me count n → Restores me count (restoring.asks_below d n)
  resumes_below zero n near r = r
  resumes_below (suc d) n near r = resumes d (restoring.asks_below d n) (omega (arith, near)) (resumes_below d n (omega (arith, near)) r)

  pub restoring-asked : (n : TheRestoring) → Restores me count n → Restores me count (restoring.asked n)
  restoring-asked n r = subst (λ k. Restores me count (restoring.asks_below (k + 1) n)) (sym r.says.count_is) (resumes_below (count + 1) n (omega arith) r)

  page_of : (from j covered s : ℕ) (flags : Flags) (pairs : List Pair) (n : TheRestoring) → from ≤ count → is_number s ≡ true → list_all (is_pair_above s) pairs ≡ true → Restores me count n
      → Restores me count (restoring.page_of from j covered s flags pairs n)
  page_of from j covered s flags pairs n near number all r =
      let greets : TheRestoring = record n { own = entering.trusts flags (entering.takes_in 0 covered [] n.own); answered = slice_set n.answered 0 true } in
      let welcome : Restores me count greets = record { says = kept n.own greets.own refl refl refl refl refl r.says; few = r.few; above = r.above; alone = stays n.answered 0 me r.alone } in
      let taken : TheOwn = entering.trusts flags (own.hears from j (entering.takes_in from covered pairs n.own)) in
      let next : TheRestoring = record n { own = taken; above = slice_set n.above from (restoring.last_ssn s pairs) } in
      let last : TheRestoring = record n { own = taken; answered = slice_set n.answered from true } in
      let says : Says me count taken = kept n.own taken refl refl refl refl refl r.says in
      let took_next : Restores me count next = record { says = says; few = r.few; above = set-any (λ k. is_number k ≡ true) n.above from (restoring.last_ssn s pairs) 0 r.above (last-ssn s s pairs number all); alone = r.alone } in
      let took_last : Restores me count last = record { says = says; few = r.few; above = r.above; alone = stays n.answered from me r.alone } in
      let told : Restores me count (restoring.told from j covered s flags pairs n) = either (Restores me count) (is_done flags) last (restoring.asks from next) took_last (resumes from next near took_next) in
      either (Restores me count) (from == 0) greets (restoring.told from j covered s flags pairs n) welcome told

  restoring-asked-by : (q i k : ℕ) (n : TheRestoring) → q ≤ count → (q == me) ≡ false → in_range (body.Ask i k) ≡ true → Restores me count n → Restores me count (restoring.asked_by q i k n)
  restoring-asked-by q i k n near other range r =
      let newer = nat_lt (meeting.heard_of q n.own) i in
      let anew = restoring.waits_anew q n in
      let m = if newer then anew else n in
      let says = meeting-asked-by q i k n.own near other range r.says in
      let few_is : length m.receipts.senders ≤ LIMIT = either (λ (x : TheRestoring). length x.receipts.senders ≤ LIMIT) newer anew n r.few r.few in
      let above : (p : ℕ) → is_number (above_of p m) ≡ true = either (λ (x : TheRestoring). (p : ℕ) → is_number (above_of p x) ≡ true) newer anew n (set-any (λ v. is_number v ≡ true) n.above q 0 0 r.above refl) r.above in
      let alone : has_answered me m ≡ true = either (λ (x : TheRestoring). has_answered me x ≡ true) newer anew n (elsewhere n.answered q me false other r.alone) r.alone in
      record { says = says; few = few_is; above = above; alone = alone }

  restoring-heard : (from : ℕ) (b : Body) (n : TheRestoring) → from ≤ count → (from == me) ≡ false → Restores me count n → Restores me count (restoring.heard from b n)
  restoring-heard from (body.Restored i j covered s flags pairs) n near other r =
      let page = restoring.page_of from j covered s flags pairs n in
      let fits = if restoring.answers from i j covered s pairs n then page else restoring.doubted page in
      by-test (Restores me count) (in_range (body.Restored i j covered s flags pairs) && restoring.is_reply from i j s n && restoring.is_whole from flags) fits n
      (λ e.
      let two = (both (in_range (body.Restored i j covered s flags pairs) && restoring.is_reply from i j s n) (restoring.is_whole from flags) e).0 in
      let range = restored-in-range i j covered s flags pairs (both (in_range (body.Restored i j covered s flags pairs)) (restoring.is_reply from i j s n) two).0 in
      let took : Restores me count page = page_of from j covered s flags pairs n near range.0 range.1 r in
      let doubted : Restores me count (restoring.doubted page) = record { says = kept page.own (restoring.doubted page).own refl refl refl refl refl took.says; few = took.few; above = took.above; alone = took.alone } in
      either (Restores me count) (restoring.answers from i j covered s pairs n) page (restoring.doubted page) took doubted) (λ e. r)
  restoring-heard from (body.Ask i k) n near other r =
      by-test (Restores me count) (in_range (body.Ask i k)) (restoring.asked_by from i k n) n (λ e. restoring-asked-by from i k n near other e r) (λ e. r)
  restoring-heard from (body.Told i j k flags page) n near other r = r
  restoring-heard from (body.Delivery i ssn x) n near other r = r
  restoring-heard from (body.Number i ssn k) n near other r = r
  restoring-heard from (body.Acknowledgement i k) n near other r = r
  restoring-heard from (body.Saved k) n near other r = r
  restoring-heard from (body.Resume i k s) n near other r = r

  pub restoring-handed : (x : NodePacket) (n : TheRestoring) → Restores me count n → Restores me count (restoring.handed x n)
  restoring-handed x n r =
      by-test (Restores me count) (own.is_for n.own x) (restoring.heard x.from x.body n) n
      (λ e. let f = from-other x n.own r.says e in restoring-heard x.from x.body n f.0 f.1 r) (λ e. r)
