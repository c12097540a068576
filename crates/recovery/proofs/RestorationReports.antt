-- A packet comes to a process that restores its numbers
use Rattle.std.proofs.Common.{◌≡◌, ◌≢◌, inl, ℕ, suc, ◌<◌, ◌≤◌, List, [], ◌∷◌, length, min, Bool, true, false, refl, sym, ap, ◌∙◌, subst, arith}
use Rattle.std.specs.Prelude.{Option, Some, None, not, slice_index_or, slice_set, ◌&&◌, ◌||◌, ◌==◌, nat_lt, nat_le, if◌then◌else◌}
use Rattle.std.proofs.lemmas.Bool.Decides.{nat_tests}
use Rattle.std.specs.List.{list_all}
use Rattle.std.proofs.lemmas.List.{get_or-set_same, get_or-set_other}
use Rattle.world.specs.Phases.{has}
use Rattle.world.specs.World.{put}
use Rattle.world.specs.Calls.{phase_with}
use Rattle.world.specs.Logs.{sent}
use Rattle.theorems.proofs.Changes.{at-itself}
use Rattle.theorems.proofs.Tests.{both}
use Rattle.cluster.specs.Parcels.{Body, Ask, Restored, In, Said, flagged, parcel, reaches}
use Rattle.cluster.specs.Cluster.{Cluster, is_well}
use Rattle.cluster.specs.Rules.{Arrives, MayTake, arrived}
use Rattle.cluster.specs.Overlap.{Event, Acts, Meets, Loses, Doubts, cut, goes, restores_anew}
use Rattle.cluster.specs.Exact.{MayStep}
use Rattle.packets.specs.Packet.{is_done, is_exact, in_range}
use Rattle.packets.specs.declared.page.Pair.{Pair}
use Rattle.packets.specs.declared.page.Flags.{Flags}
use Rattle.packets.specs.declared.packet.Body as bodies
use Rattle.packets.specs.declared.packet.Body.TheVariants as packets
use Rattle.packets.specs.declared.packet.NodePacket.{NodePacket}
use Rattle.node.specs.Queue.{forgotten_above}
use Rattle.node.specs.Node.{log_at}
use Rattle.packets.specs.Says.{WasSaid, restored_end, first_number}
use Rattle.node.specs.Stands.{Each, own_event, IsAct}
use Rattle.recovery.specs.Own.{hears, is_for}
use Rattle.recovery.specs.Overlap.{heard_of, tells_loss, meets}
use Rattle.recovery.specs.Overlap as meeting
use Rattle.recovery.specs.Intake.{sent_to, takes_in, trusts, AscendFrom}
use Rattle.recovery.specs.Stands.{IsSaid, GoesTo}
use Rattle.recovery.proofs.Meetings.{Tells, inside-off, was-asked, asks as ask-tells, phase-met, numbers-met, resumed-met, may-meet, own-met}
use Rattle.recovery.proofs.Lists.{at-changed}
use Rattle.cluster.proofs.Goes.{goes-self, goes-one, goes-any}
use Rattle.recovery.proofs.Posts.{own-lost, may-lose, for-own}
use Rattle.recovery.proofs.Notes.{known-forgotten, number-high, ascend-lower}
use Rattle.recovery.specs.Restoration.{TheRestoring, IsRestoring, above_of, has_answered, left, asks, last_ssn, answers, is_reply, is_whole, page_of, doubted, told, greeted, waits_anew, asked_by, heard, handed, is_up}
use Rattle.recovery.specs.RestorationStands.{IsKnown, StandsRestoring, IsHanded}
use Rattle.recovery.proofs.Left.{both-off, anew-is}
use Rattle.recovery.proofs.RestorationPages.{page-in-range, page-known}
use Rattle.recovery.proofs.RestorationInquiries.{At, by-branch, left-has, not-well, restoring-own}
use Rattle.recovery.proofs.RestorationAnswers.{IsReply, Onward, told_as, greets_as, fits-in, goes-greeted, goes-page, known-changed, may-greet, may-take, replies, sent-is}

-- of both branches
doubted-branch : (b : Bool) (x y : TheRestoring) → doubted (if b then x else y) ≡ (if b then doubted x else doubted y)
doubted-branch true x y = refl
doubted-branch false x y = refl

ends : (zero done : Bool) → (not zero || done) ≡ true → zero ≡ true → done ≡ true
ends true done e z = e
ends false done e z = absurd (cc)

-- one whose peers haven't all answered
some-off : (xs : List Bool) → list_all (λ b. b) xs ≡ false → (q : ℕ) × (slice_index_or xs q true ≡ false)
some-off [] e = absurd (cc)
some-off (true ∷ xs) e = let t = some-off xs e in (suc t.0, t.1)
some-off (false ∷ xs) e = (0, refl)

-- what is said to it
module _ (n : TheRestoring) (c : Cluster) (from : ℕ) (st : StandsRestoring n c n.own.me) (low : from ≤ n.own.count) (other : from ≢ n.own.me) (w : IsRestoring n.own n.above n.answered) where
  abbrev number : ℕ
  number = n.own.me

  none-heard : Onward number c n
  none-heard = goes-self n.own.exact number (At n number) c st

  -- a page of a process or of the gateway
  module _ (i j covered s : ℕ) (flags : Flags) (pairs : List Pair) (f : ℕ → Option ℕ) (ok : IsReply n from i j s) (fits : in_range (packets.Restored i j covered s flags pairs) ≡ true)
      (given : In (parcel from n.own.me (Restored i j covered s (restored_end flags s pairs) f)) c.parcels) (says : (ssn : ℕ) → s < ssn → covered < ssn → reaches (restored_end flags s pairs) ssn ≡ true → f ssn ≡ first_number pairs ssn) (flags_said : Said (flagged (parcel from n.own.me (Restored i j covered s (restored_end flags s pairs) f)) (is_exact flags) false) c.said) (whole : (from == 0) ≡ true → is_done flags ≡ true) where
    abbrev brings : Body
    brings = Restored i j covered s (restored_end flags s pairs) f

    page : AscendFrom s pairs
    page = page-in-range i j covered s flags pairs fits

    -- it is taken, and then the process is exact as this says
    abbrev taken : Bool → TheRestoring
    taken exact = if from == 0 then greets_as exact covered n else told_as exact from j covered s flags pairs n

    module _ (exact : Bool) (less : exact ≡ true → n.own.exact ≡ true) where
      abbrev knowing : Cluster → Cluster
      knowing d = record d { exact = put c.exact number exact; lost = c.lost; said = c.said }

      brought : (m : ℕ) (g : ℕ → Option ℕ) → m ≡ min covered (sent_to from n.own) → ((ssn : ℕ) → s < ssn → m < ssn → ssn ≤ sent_to from n.own → reaches (restored_end flags s pairs) ssn ≡ true → g ssn ≡ first_number pairs ssn)
          → ((ssn : ℕ) → s < ssn → sent_to from n.own < ssn → reaches (restored_end flags s pairs) ssn ≡ true → g ssn ≡ None) → (b : Bool) (e : Event) → (MayTake c from number brings → MayStep c e) → own_event e ≡ Some number → (b ≡ true → IsAct e)
          → goes c e ≡ knowing (arrived c from number (Restored i j m s (restored_end flags s pairs) g)) → GoesTo b number (At (taken exact) number) c
      brought m g most told_is none b e might by act is =
          by-branch (λ z. GoesTo b number (At z number) c) (from == 0) _ _
          (λ z. let zero_is : from ≡ 0 = grind (arith, nat_tests) in
          let own : IsReply n 0 i j s = subst (λ k. IsReply n k i j s) zero_is ok in
          let done : is_done flags ≡ true = whole z in
          let P : ℕ → Type 0 = λ k. MayTake c k number brings → MayStep c e in
          let Q : ℕ → Type 0 = λ k. goes c e ≡ knowing (arrived c k number (Restored i j m s (restored_end flags s pairs) g)) in
          goes-greeted n c i j covered s flags pairs st w own done exact less m g (subst (λ k. m ≡ min covered (sent_to k n.own)) zero_is most) b e
          (subst P zero_is might (may-greet n c i j covered s flags pairs st w own done exact less covered f)) by act (subst Q zero_is is))
          (λ z. let some : 0 < from = grind (arith, nat_tests) in
          let known = page-known i j covered s flags pairs fits in
          goes-page n c from i j covered s flags pairs st low some other w ok page known exact less m g most told_is none b e (might (may-take n c from i j covered s flags pairs st low some other w ok page known exact less covered f)) by act is)

    -- it tells of no more than was sent
    page-fits : (covered ≤ sent_to from n.own) × (last_ssn 0 pairs ≤ sent_to from n.own) → Onward number c (page_of from j covered s flags pairs n)
    page-fits few =
        let same : c.exact number && is_exact flags ≡ n.own.exact && is_exact flags = ap (λ b. b && is_exact flags) st.own.exact in
        brought (n.own.exact && is_exact flags) (λ e. (both n.own.exact (is_exact flags) e).0) covered f (omega (arith, few.0)) (λ ssn above new under r. says ssn above new r)
        (λ ssn above far r. says ssn above (omega (arith, far, few.0)) r ∙ number-high 0 ssn pairs (ascend-lower 0 s pairs (omega arith) page) (omega (arith, far, few.1)))
        (page_of from j covered s flags pairs n).own.exact (Acts (is_exact flags) (Arrives from number brings)) (λ t. (((given, t), tt), flags_said)) refl (λ e. tt)
        (ap (λ b. record (arrived c from number brings) { exact = put c.exact number b; lost = c.lost; said = c.said }) same)

    -- it tells of more
    page-doubted : Onward number c (doubted (page_of from j covered s flags pairs n))
    page-doubted =
        let many = length (sent c.world number from) in
        let size : many ≡ sent_to from n.own = sent-is n c from st low other w in
        let exact : Bool = n.own.exact && is_exact flags && false in
        let off : exact ≡ false = both-off (n.own.exact && is_exact flags) in
        goes-any false (doubted (page_of from j covered s flags pairs n)).own.exact number (At (doubted (page_of from j covered s flags pairs n)) number) c (λ e. (both (page_of from j covered s flags pairs n).own.exact false e).1)
        (subst (λ z. GoesTo false number (At z number) c) (sym doubted-is)
        (brought exact (λ e. absurd (cc (off, e))) (min covered many) (λ ssn. if nat_le ssn many then f ssn else None) (ap (min covered) size)
        (λ ssn above new under r. let inside : nat_le ssn many ≡ true = grind (arith, nat_tests) in rw inside (says ssn above (omega (arith, new, under, size)) r))
        (λ ssn above far r. let past : nat_le ssn many ≡ false = grind (arith, nat_tests) in rw past refl)
        false (Doubts from number brings) (λ t. ((tt, given, t), tt)) refl (λ e. absurd (let f : false ≡ true = e in cc))
        (ap (λ b. record (arrived c from number (cut c number from brings)) { exact = put c.exact number b; lost = c.lost; said = c.said }) (sym off))))
      where
        doubted-is : doubted (page_of from j covered s flags pairs n) ≡ taken (n.own.exact && is_exact flags && false)
        doubted-is =
            let taken_in = trusts flags (hears from j (takes_in from covered pairs n.own)) in
            let last : TheRestoring = record n { own = taken_in; answered = slice_set n.answered from true } in
            let next : TheRestoring = record n { own = taken_in; above = slice_set n.above from (last_ssn s pairs) } in
            let further : doubted (asks from next) ≡ asks from (doubted next) = doubted-branch (has_answered from next) next _ in
            doubted-branch (from == 0) (greeted covered flags n) (told from j covered s flags pairs n)
            ∙ ap (λ z. if from == 0 then doubted (greeted covered flags n) else z) (doubted-branch (is_done flags) last (asks from next) ∙ ap (λ z. if is_done flags then doubted last else z) further)

  page-heard : (i j covered s : ℕ) (flags : Flags) (pairs : List Pair) → IsSaid c from number (packets.Restored i j covered s flags pairs) → Onward number c (heard from (packets.Restored i j covered s flags pairs) n)
  page-heard i j covered s flags pairs said =
      let was : WasSaid c from number (packets.Restored i j covered s flags pairs) = said.1 refl in
      let f = was.1.0 in
      let given : In (parcel from number (Restored i j covered s (restored_end flags s pairs) f)) c.parcels = (let P : Body → Type 0 = λ b. In (parcel from number b) c.parcels in subst P was.1.1 was.2) in
      let told : Said (flagged (parcel from number (Restored i j covered s (restored_end flags s pairs) f)) (is_exact flags) false) c.said = (let P : Body → Type 0 = λ b. Said (flagged (parcel from number b) (is_exact flags) false) c.said in subst P was.1.1 was.3) in
      by-branch (Onward number c) (in_range (packets.Restored i j covered s flags pairs) && is_reply from i j s n && is_whole from flags)
      (if answers from i j covered s pairs n then page_of from j covered s flags pairs n else doubted (page_of from j covered s flags pairs n)) n
      (λ e. let three = both (in_range (packets.Restored i j covered s flags pairs) && is_reply from i j s n) (is_whole from flags) e in
      let two = both (in_range (packets.Restored i j covered s flags pairs)) (is_reply from i j s n) three.0 in
      let all : (from == 0) ≡ true → is_done flags ≡ true = ends (from == 0) (is_done flags) three.1 in
      let ok = replies n from i j s two.1 in
      by-branch (Onward number c) (answers from i j covered s pairs n) (page_of from j covered s flags pairs n) (doubted (page_of from j covered s flags pairs n))
      (λ a. page-fits i j covered s flags pairs f ok two.0 given was.1.2 told all (fits-in n from i j covered s pairs a))
      (λ a. page-doubted i j covered s flags pairs f ok two.0 given was.1.2 told all))
      (λ e. none-heard)

  -- a peer that comes back too asks in a newer incarnation
  module _ (i k : ℕ) (some : 0 < from) (waits : is_up n ≡ false) (given : In (parcel from n.own.me (Ask i k)) c.parcels) (newer : nat_lt (heard_of from n.own) i ≡ true) where
    abbrev anew : TheRestoring
    anew = record (waits_anew from n) { own = meets from i n.own }

    abbrev wide : (length n.own.heard ≡ suc n.own.count) × (length n.own.logs ≡ suc n.own.count)
    wide = (w.heard_wide, w.logs_wide)

    known-here : Each IsKnown (log_at n.own.logs from).numbers
    known-here = st.known from (let e = st.own.count in omega (arith, low, e)) other

    answered-still : (q : ℕ) → q ≢ from → has_answered q anew ≡ has_answered q n
    answered-still q apart = get_or-set_other n.answered from q false true apart

    open-anew : has_answered from anew ≡ false
    open-anew = get_or-set_same n.answered from false true (omega (arith, low, w.answered_wide))

    phase-anew : restores_anew c.world.count (c.world.phase number) from ≡ phase_with (left anew)
    phase-anew =
        ap (λ x. restores_anew c.world.count x from) st.phase
        ∙ subst (λ z. restores_anew z (phase_with (left n)) from ≡ phase_with (left anew)) st.own.count
        (anew-is (λ q. not (has_answered q n)) (λ q. not (has_answered q anew)) n.own.count from some low (ap not open-anew) (λ q apart. ap not (answered-still q apart)))

    stands-anew : StandsRestoring anew (goes c (Meets number from i k)) number
    stands-anew = record {
      stage = st.stage;
      greeted = st.greeted ∙ sym (answered-still 0 (λ e. absurd (omega (arith, e, some))));
      phase = phase-met c number from i k (phase_with (left anew)) phase-anew;
      life = st.life;
      own = own-met n.own c number from i k (c.world.history number) st.own low other wide known-here;
      received = st.received;
      acknowledged = st.acknowledged;
      known = known-changed n c from st low other w (forgotten_above 0 (log_at n.own.logs from)) (known-forgotten (log_at n.own.logs from) known-here);
      fresh = λ q ssn l open_is above. numbers-met c number from i k q ssn
          (λ apart. st.fresh q ssn l (sym (answered-still q apart) ∙ open_is) (let e : above_of q anew ≡ above_of q n = get_or-set_other n.above from q 0 0 apart in omega (arith, e, above)));
      resumed = λ q. resumed-met c number from i k q (st.resumed q);
      restoring = λ q l. at-itself number (λ b. (if b && (q == from) then 0 else c.restoring number q) ≡ slice_index_or (slice_set n.above from 0) q 0)
          (at-changed (λ z x y. y ≡ x) n.above 0 (c.restoring number) from 0 0 q (omega (arith, low, w.wide)) refl (st.restoring q l));
      released = λ none d. absurd (let P : List ℕ → Type 0 = λ ps. has ps from ≡ true in let e : false ≡ true = subst P none (left-has anew from some low open-anew) in cc);
    }

    goes-anew : GoesTo false number (At anew number) c
    goes-anew =
        let off = some-off n.answered waits in
        let unwell : is_well c number ≡ false = not-well n c number off.0 st (let l = inside-off n.answered off.0 off.1 in omega (arith, l, w.answered_wide)) off.1 in
        goes-one false number (At anew number) c (Meets number from i k) (may-meet n.own c number from i k (c.world.history number) st.own low other wide given st.stage unwell (let l : heard_of from n.own < i = grind (arith, nat_tests) in l)) refl
        (λ e. absurd (let f : false ≡ true = e in cc)) stands-anew

  -- as long as it waits for a peer it says to one that asked that all is lost
  tells : (m : TheRestoring) (r : ℕ) → r ≤ n.own.count → has_answered r m ≡ false → Tells (λ o. At (record m { own = o }) number) number n.own.count
  tells m r near open_is q i k o d t count low given is =
      let waits : is_well d number ≡ false = not-well (record m { own = o }) d number r t (omega (arith, near, count)) open_is in
      goes-one true number (At (record m { own = tells_loss q i k o }) number) d (Loses number q i o.life k)
      (may-lose o d number q i k t.own (omega (arith, low, count)) given is (inl ((t.stage, waits), sym t.life))) refl (λ e. tt)
      (restoring-own (record m { own = o }) d number (own-lost o d number q i k t.own) t)

  -- where that is no news, it only tells that all is lost
  asking-heard : (i k : ℕ) → 0 < from → is_up n ≡ false → In (parcel from number (Ask i k)) c.parcels → Onward number c (asked_by from i k n)
  asking-heard i k some waits given =
      let off = some-off n.answered waits in
      let wide = w.answered_wide in
      by-branch (λ m. Onward number c (record m { own = meeting.asked_by from i k n.own })) (nat_lt (heard_of from n.own) i) (waits_anew from n) n
      (λ newer. ask-tells (λ o. At (record (waits_anew from n) { own = o }) number) number n.own c (tells (waits_anew from n) from low (get_or-set_same n.answered from false true (omega (arith, low, wide)))) w.heard_wide from i k low given (λ old. absurd (cc (newer, old))) (λ e. goes-anew i k some waits given newer))
      (λ old. ask-tells (λ o. At (record n { own = o }) number) number n.own c (tells n off.0 (let l = inside-off n.answered off.0 off.1 in omega (arith, l, wide)) off.1) w.heard_wide from i k low given (λ e. st) (λ newer. absurd (cc (newer, old))))

  hearing : is_up n ≡ false → (x : bodies.Body) → IsSaid c from number x → Onward number c (heard from x n)
  hearing waits (packets.Restored i j covered s flags pairs) said = page-heard i j covered s flags pairs said
  hearing waits (packets.Ask i k) said = by-branch (Onward number c) (in_range (packets.Ask i k)) (asked_by from i k n) n (λ e. asking-heard i k said.0 waits (was-asked c from number i k said)) (λ e. none-heard)
  hearing waits other said = none-heard

-- a packet comes
pub handing : (n : TheRestoring) (x : NodePacket) → IsRestoring n.own n.above n.answered → IsHanded x n (handed x n)
handing n x w waits c st said =
    let me = n.own.me in
    let o = n.own in
    by-branch (Onward me c) (is_for o x) (heard x.from x.body n) n
    (λ e. let it = for-own o x e in
    let P : ℕ → Type 0 = λ z. IsSaid c x.from z x.body in
    hearing n c x.from st it.1.0 it.1.1 w waits x.body (subst P it.0 said))
    (λ e. goes-self o.exact me (At n me) c st)
