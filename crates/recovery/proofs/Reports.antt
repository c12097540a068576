-- A page comes to a process that collects
use Rattle.std.proofs.Common.{◌≡◌, ◌≢◌, inr, ℕ, suc, ◌<◌, ◌≤◌, List, length, Bool, true, false, refl, sym, ap, ◌∙◌, subst, arith}
use Rattle.std.specs.Prelude.{None, Option, Some, not, slice_index_or, slice_set, ◌&&◌, ◌==◌, nat_lt, nat_le, if◌then◌else◌}
use Rattle.std.proofs.lemmas.Bool.Decides.{nat_tests}
use Rattle.world.specs.declared.message.Message.{Message}
use Rattle.world.specs.World.{put}
use Rattle.theorems.proofs.Changes.{at-itself}
use Rattle.theorems.proofs.Tests.{both}
use Rattle.cluster.specs.Parcels.{Body, Ask, Told, In, Said, flagged, parcel, reaches}
use Rattle.cluster.specs.Cluster.{Cluster, Collected}
use Rattle.cluster.specs.Rules.{Act, Arrives, Asks, May, MayTake, arrived, put2, with_page as with_told}
use Rattle.cluster.specs.Overlap.{Event, Acts, Loses, Lacks, goes}
use Rattle.cluster.specs.Exact.{MayStep}
use Rattle.packets.specs.Packet.{is_done, is_lost, is_exact, in_range}
use Rattle.packets.specs.declared.page.LoggedMessage.{LoggedMessage}
use Rattle.packets.specs.declared.page.Flags.{Flags}
use Rattle.packets.specs.declared.packet.Body as bodies
use Rattle.packets.specs.declared.packet.Body.TheVariants as packets
use Rattle.packets.specs.declared.packet.NodePacket.{NodePacket}
use Rattle.recovery.specs.Own.{hears, learns, is_for}
use Rattle.recovery.specs.Overlap.{heard_of, tells_loss}
use Rattle.packets.specs.Says.{WasSaid, told_end, first_told}
use Rattle.recovery.specs.Collected.{TheCollected, with_page, none_told}
use Rattle.recovery.specs.Collection.{TheCollecting, told_of, answers, took_page, asks_anew, asked_by, heard, handed}
use Rattle.node.specs.Stands.{own_event, IsAct}
use Rattle.recovery.specs.Stands.{IsTold, IsSaid, StandsCollecting, GoesTo, IsHanded}
use Rattle.recovery.proofs.Lists.{at-changed}
use Rattle.cluster.proofs.Goes.{goes-self, goes-one, goes-act, goes-then, goes-any}
use Rattle.recovery.proofs.Pages.{IsPage, page-in-range}
use Rattle.recovery.proofs.Told.{told-none, told-page}
use Rattle.recovery.proofs.Posts.{own-with, own-lost, may-lose, collecting-own, for-own}
use Rattle.recovery.proofs.Left.{both-off}
use Rattle.recovery.proofs.Meetings.{off-set, was-asked, goes-sent, heard-now}
use Rattle.recovery.proofs.Inquiries.{At, by-branch, asks-at, only-asks}

-- what a page has that answers what was asked last
pub record IsAnswer (n : TheCollecting) (from i j k : ℕ) : Type 0 where
  pub life : i ≡ n.own.life
  pub young : slice_index_or n.own.heard from 0 ≤ j
  pub open_is : (told_of n.told from).done ≡ false
  pub cursor : k ≡ (told_of n.told from).cursor

off : (b : Bool) → not b ≡ true → b ≡ false
off true e = absurd (cc)
off false e = refl

pub is-answer : (n : TheCollecting) (from i j k : ℕ) → answers from i j k n ≡ true → IsAnswer n from i j k
is-answer n from i j k e =
    let x = told_of n.told from in
    let h = slice_index_or n.own.heard from 0 in
    let b = both ((i == n.own.life) && nat_le h j && not x.done) (k == x.cursor) e in
    let d = both ((i == n.own.life) && nat_le h j) (not x.done) b.0 in
    let g = both (i == n.own.life) (nat_le h j) d.0 in
    record {
      life = (let z : (i == n.own.life) ≡ true = g.0 in grind (arith, nat_tests));
      young = (let z : nat_le h j ≡ true = g.1 in grind (arith, nat_tests));
      open_is = off x.done d.1;
      cursor = (let z : (k == x.cursor) ≡ true = b.1 in grind (arith, nat_tests));
    }

module _ (n : TheCollecting) (c : Cluster) (from i j k : ℕ) (flags : Flags) (page : List LoggedMessage) (f : ℕ → Option Message) (s : StandsCollecting n c n.own.me) (low : from ≤ n.own.count) (other : from ≢ n.own.me)
    (told_wide : length n.told ≡ suc n.own.count) (heard_wide : length n.own.heard ≡ suc n.own.count) (lost_wide : length n.own.lost ≡ suc n.own.count) (ok : IsAnswer n from i j k) (fits : IsPage k page) (process : is_lost flags ≡ true → 0 < from)
    (says : (m : ℕ) → k < m → reaches (told_end flags k page) m ≡ true → f m ≡ first_told from page m) where
  abbrev me : ℕ
  me = n.own.me

  abbrev base : ℕ
  base = n.own.base

  abbrev brings : Body
  brings = Told i j k (told_end flags k page) f

  abbrev c' : Cluster
  c' = arrived c from me brings

  abbrev more : TheCollected
  more = with_page (is_done flags) page (told_of n.told from)

  abbrev mid : TheCollecting
  mid = record { own = learns from j flags n.own; told = slice_set n.told from more }

  within : from ≤ c.world.count
  within = omega (arith, low, s.own.count)

  asked : Asks (c.world.saved me) (c.told me from) k
  asked = rw (s.own.saved, ok.cursor) ((s.told from within).asks ok.open_is)

  may-take : MayTake c from me brings
  may-take = (s.stage, ok.life ∙ sym s.life, (let e = s.own.heard from within in omega (arith, e, ok.young)), asked)

  heard-is : (q : ℕ) → q ≤ c.world.count → c'.heard me q ≡ slice_index_or (slice_set n.own.heard from j) q 0
  heard-is q l = at-itself me (λ t. (if t && (q == from) then j else c.heard me q) ≡ slice_index_or (slice_set n.own.heard from j) q 0)
      (at-changed (λ z x y. y ≡ x) n.own.heard 0 (c.heard me) from j j q (omega (arith, low, heard_wide)) refl (s.own.heard q l))

  told-is : (q : ℕ) → q ≤ c.world.count → IsTold q base (told_of mid.told q) (c'.told me q)
  told-is q l =
      let page_of : Collected = with_told (c.told me from) k (told_end flags k page) f in
      at-itself me (λ t. IsTold q base (told_of (slice_set n.told from more) q) (if t && (q == from) then Some page_of else c.told me q))
      (at-changed (λ z x y. IsTold z base x y) n.told (none_told 0) (c.told me) from more (Some page_of) q (omega (arith, low, told_wide))
      (told-page from base k (told_of n.told from) (c.told me from) flags page f (s.told from within) ok.open_is ok.cursor fits says) (s.told q l))

  alone-is : c'.told me me ≡ None
  alone-is =
      let apart : (me == from) ≡ false = (let f : me ≢ from = λ e. other (sym e) in grind (arith, nat_tests)) in
      at-itself me (λ t. (if t && (me == from) then Some (with_told (c.told me from) k (told_end flags k page) f) else c.told me me) ≡ None) (rw apart s.alone)

  -- where it is still exact, no flag says that one lost what it had
  sure-is : n.own.exact && (not (is_lost flags) && is_exact flags) ≡ true → (q : ℕ) → q ≤ c.world.count → slice_index_or (slice_set n.own.lost from (is_lost flags)) q true ≡ false
  sure-is e q l =
      let two = both n.own.exact (not (is_lost flags) && is_exact flags) e in
      off-set n.own.lost from q (is_lost flags) (λ z. off (is_lost flags) (both (not (is_lost flags)) (is_exact flags) two.1).0) (s.own.sure two.0 q l)

  -- and the gateway never does
  not-lost : (b : Bool) → is_lost flags ≡ b → 0 ≡ from → b ≡ false
  not-lost true is e = absurd (let some : 0 < from = process is in omega (arith, some, e))
  not-lost false is e = refl

  -- the cluster knows then of failures what the process does
  module _ (exact : Bool) (exact-is : exact ≡ n.own.exact && (not (is_lost flags) && is_exact flags)) where
    abbrev paged : Cluster
    paged = record c' { exact = put c.exact me exact; lost = put2 c.lost me from (is_lost flags) }

    exact-now : paged.exact me ≡ n.own.exact && (not (is_lost flags) && is_exact flags)
    exact-now = at-itself me (λ b. (if b then exact else c.exact me) ≡ n.own.exact && (not (is_lost flags) && is_exact flags)) exact-is

    lost-now : (q : ℕ) → q ≤ c.world.count → paged.lost me q ≡ slice_index_or (slice_set n.own.lost from (is_lost flags)) q true
    lost-now q l = at-itself me (λ t. (if t && (q == from) then is_lost flags else c.lost me q) ≡ slice_index_or (slice_set n.own.lost from (is_lost flags)) q true)
        (at-changed (λ z x y. y ≡ x) n.own.lost true (c.lost me) from (is_lost flags) (is_lost flags) q (omega (arith, low, lost_wide)) refl (s.own.lost q l))

    stands-mid : StandsCollecting mid paged me
    stands-mid = record {
      stage = s.stage;
      life = s.life;
      own = own-with n.own c paged me _ refl refl refl refl (λ y l. l) (λ y l. l) s.own s.own.logs s.own.held heard-is exact-now lost-now sure-is
          (off-set n.own.lost from 0 (is_lost flags) (λ e. not-lost (is_lost flags) refl e) s.own.greets) s.own.out;
      told = told-is;
      alone = alone-is;
    }

    -- by any event that brings the page
    goes-page : (e : Event) → MayStep c e → own_event e ≡ Some me → (n.own.exact && (not (is_lost flags) && is_exact flags) ≡ true → IsAct e) → goes c e ≡ paged → GoesTo (took_page from j flags page n).own.exact me (At (took_page from j flags page n) me) c
    goes-page e may by acts is =
        let m = took_page from j flags page n in
        let same : m.own.exact ≡ n.own.exact && (not (is_lost flags) && is_exact flags) = ap (λ (z : TheCollecting). z.own.exact) (only-asks mid from) in
        goes-then m.own.exact me (At mid me) (At m me) c (goes-one m.own.exact me (At mid me) c e may by (λ z. acts (sym same ∙ z)) (subst (At mid me) (sym is) stands-mid))
        (λ d t. goes-any true m.own.exact me (At m me) d (λ z. refl) (asks-at mid d from t low other))

-- a peer that comes back too asks in a newer incarnation
module _ (n : TheCollecting) (c : Cluster) (from i k : ℕ) (s : StandsCollecting n c n.own.me) (low : from ≤ n.own.count) (other : from ≢ n.own.me) (told_wide : length n.told ≡ suc n.own.count)
    (heard_wide : length n.own.heard ≡ suc n.own.count) (lost_wide : length n.own.lost ≡ suc n.own.count) (newer : nat_lt (heard_of from n.own) i ≡ true) (given : In (parcel from n.own.me (Ask i k)) c.parcels) where
  abbrev p : ℕ
  p = n.own.me

  abbrev hear : Act
  hear = Arrives from p (Ask i k)

  abbrev d' : Cluster
  d' = goes c (Acts true hear)

  abbrev anew : TheCollecting
  anew = record { own = record (hears from i n.own) { lost = slice_set n.own.lost from false }; told = slice_set n.told from (none_told n.own.base) }

  from-in : from ≤ c.world.count
  from-in = omega (arith, low, s.own.count)

  may-hear : May c hear
  may-hear = (given, ((let l : heard_of from n.own < i = grind (arith, nat_tests) in let e = s.own.heard from from-in in omega (arith, l, e)), inr s.stage))

  heard-anew : (q : ℕ) → q ≤ c.world.count → d'.heard p q ≡ slice_index_or (slice_set n.own.heard from i) q 0
  heard-anew q l = at-itself p (λ t. (if t && (q == from) then i else c.heard p q) ≡ slice_index_or (slice_set n.own.heard from i) q 0)
      (at-changed (λ z x y. y ≡ x) n.own.heard 0 (c.heard p) from i i q (omega (arith, low, heard_wide)) refl (s.own.heard q l))

  told-anew : (q : ℕ) → q ≤ c.world.count → IsTold q n.own.base (told_of anew.told q) (d'.told p q)
  told-anew q l =
      at-itself p (λ t. IsTold q n.own.base (told_of (slice_set n.told from (none_told n.own.base)) q) (if t && (q == from) then None else c.told p q))
      (at-changed (λ z x y. IsTold z n.own.base x y) n.told (none_told 0) (c.told p) from (none_told n.own.base) None q (omega (arith, low, told_wide)) (told-none from n.own.base) (s.told q l))

  alone-anew : d'.told p p ≡ None
  alone-anew =
      let apart : (p == from) ≡ false = (let f : p ≢ from = λ e. other (sym e) in grind (arith, nat_tests)) in
      at-itself p (λ t. (if t && (p == from) then None else c.told p p) ≡ None) (rw apart s.alone)

  lost-anew : (q : ℕ) → q ≤ c.world.count → d'.lost p q ≡ slice_index_or (slice_set n.own.lost from false) q true
  lost-anew q l = at-itself p (λ t. (if t && (q == from) then false else c.lost p q) ≡ slice_index_or (slice_set n.own.lost from false) q true)
      (at-changed (λ z x y. y ≡ x) n.own.lost true (c.lost p) from false false q (omega (arith, low, lost_wide)) refl (s.own.lost q l))

  stands-anew : StandsCollecting anew d' p
  stands-anew = record {
    stage = s.stage;
    life = s.life;
    own = own-with n.own c d' p _ refl refl refl refl (λ y l. l) (λ y l. l) s.own s.own.logs s.own.held heard-anew s.own.exact lost-anew (λ e q l. off-set n.own.lost from q false (λ z. refl) (s.own.sure e q l)) (off-set n.own.lost from 0 false (λ z. refl) s.own.greets) s.own.out;
    told = told-anew;
    alone = alone-anew;
  }

  goes-anew : GoesTo true p (At (asks_anew from i n) p) c
  goes-anew = goes-then true p (At anew p) (At (asks_anew from i n) p) c (goes-act true p (At anew p) c hear may-hear tt tt refl stands-anew) (λ d t. asks-at anew d from t low other)

  heard-newest : i ≡ heard_of from (asks_anew from i n).own
  heard-newest = heard-now n.own.heard from i n.own.count heard_wide low ∙ ap (λ (z : TheCollecting). heard_of from z.own) (sym (only-asks anew from))

  many-anew : from ≤ (asks_anew from i n).own.count
  many-anew = let same : (asks_anew from i n).own.count ≡ n.own.count = ap (λ (z : TheCollecting). z.own.count) (only-asks anew from) in omega (arith, same, low)

-- it says to a peer that asked that all is lost
tells-so : (n : TheCollecting) (p q i k : ℕ) (c : Cluster) → q ≤ n.own.count → i ≡ heard_of q n.own → In (parcel q p (Ask i k)) c.parcels → GoesTo true p (At n p) c → GoesTo n.own.exact p (At (record n { own = tells_loss q i k n.own }) p) c
tells-so n p q i k c low is given g =
    let m : TheCollecting = record n { own = tells_loss q i k n.own } in
    goes-any true n.own.exact p (At m p) c (λ e. refl)
    (goes-then true p (λ d. At n p d × In (parcel q p (Ask i k)) d.parcels) (At m p) c (goes-sent true p (At n p) c (parcel q p (Ask i k)) given g)
    (λ d t. goes-one true p (At m p) d (Loses p q i n.own.life k) (may-lose n.own d p q i k t.0.own low t.1 is (inr (t.0.stage, sym t.0.life))) refl (λ e. tt) (collecting-own n d p (own-lost n.own d p q i k t.0.own) t.0)))

-- it goes on to where it stands
abbrev pub Onward : ℕ → Cluster → TheCollecting → Type 0
Onward p c m = GoesTo m.own.exact p (At m p) c

-- what is said to it
module _ (n : TheCollecting) (c : Cluster) (from : ℕ) (s : StandsCollecting n c n.own.me) (low : from ≤ n.own.count) (other : from ≢ n.own.me) (wide : length n.told ≡ suc n.own.count) (heard_wide : length n.own.heard ≡ suc n.own.count) (lost_wide : length n.own.lost ≡ suc n.own.count) where
  none-heard : Onward n.own.me c n
  none-heard = goes-self n.own.exact n.own.me (At n n.own.me) c s

  asking-heard : (i k : ℕ) → In (parcel from n.own.me (Ask i k)) c.parcels → Onward n.own.me c (asked_by from i k n)
  asking-heard i k given =
      by-branch (Onward n.own.me c) (nat_lt i (heard_of from n.own)) n (let m : TheCollecting = if nat_lt (heard_of from n.own) i then asks_anew from i n else n in record m { own = tells_loss from i k m.own }) (λ e. none-heard)
      (λ e. by-branch (λ m. Onward n.own.me c (record m { own = tells_loss from i k m.own })) (nat_lt (heard_of from n.own) i) (asks_anew from i n) n
      (λ newer. tells-so (asks_anew from i n) n.own.me from i k c (many-anew n c from i k s low other wide heard_wide lost_wide newer given) (heard-newest n c from i k s low other wide heard_wide lost_wide newer given) given
      (goes-anew n c from i k s low other wide heard_wide lost_wide newer given))
      (λ old. tells-so n n.own.me from i k c low (let same : i ≡ heard_of from n.own = grind (arith, nat_tests) in same) given (goes-self true n.own.me (At n n.own.me) c s)))

  -- it says that all is lost, which nobody put out, or it was put out
  page-heard : (i j k : ℕ) (flags : Flags) (page : List LoggedMessage) → IsSaid c from n.own.me (packets.Told i j k flags page) → Onward n.own.me c (heard from (packets.Told i j k flags page) n)
  page-heard i j k flags page said =
      let me = n.own.me in
      by-branch (Onward me c) (in_range (packets.Told i j k flags page) && answers from i j k n) (took_page from j flags page n) n
      (λ e. let two = both (in_range (packets.Told i j k flags page)) (answers from i j k n) e in
      takes-page (is-answer n from i j k two.1) (page-in-range i j k flags page two.0) (is_lost flags) refl)
      (λ e. none-heard)
    where
      takes-page : IsAnswer n from i j k → IsPage k page → (b : Bool) → is_lost flags ≡ b → Onward n.own.me c (took_page from j flags page n)
      takes-page ok fits true lost =
          let me = n.own.me in
          let t = said.0 lost in
          let end : told_end flags k page ≡ None = (let done : is_done flags ≡ true = ap is_done t.flags_are in rw done refl) in
          let f : ℕ → Option Message = λ m. None in
          let P : (m : ℕ) → None ≡ first_told from page m = λ m. ap (λ xs. first_told from xs m) (sym t.none) in
          let none : (b x : Bool) → b ≡ true → false ≡ n.own.exact && (not b && x) = λ b x e. sym (rw e (both-off n.own.exact)) in
          goes-page n c from i j k flags page f s low other wide heard_wide lost_wide ok fits (λ e. t.process) (λ m above r. P m) false (none (is_lost flags) (is_exact flags) lost) (Lacks from me i j k)
          ((other, may-take n c from i j k flags page f s low other wide heard_wide lost_wide ok fits (λ e. t.process) (λ m above r. P m)), t.said) refl
          (λ e. absurd (let kept : is_lost flags ≡ false = off (is_lost flags) (both (not (is_lost flags)) (is_exact flags) (both n.own.exact (not (is_lost flags) && is_exact flags) e).1).0 in cc (lost, kept)))
          (ap (λ u. record (arrived c from me (Told i j k u f)) { exact = put c.exact me false; lost = put2 c.lost me from true }) (sym end)
          ∙ ap (λ b. record (arrived c from me (Told i j k (told_end flags k page) f)) { exact = put c.exact me false; lost = put2 c.lost me from b }) (sym lost))
      takes-page ok fits false kept =
          let me = n.own.me in
          let was : WasSaid c from me (packets.Told i j k flags page) = said.1 kept in
          let f = was.1.0 in
          let given : In (parcel from me (Told i j k (told_end flags k page) f)) c.parcels = (let P : Body → Type 0 = λ b. In (parcel from me b) c.parcels in subst P was.1.1 was.2) in
          let process : is_lost flags ≡ true → 0 < from = λ e. absurd (cc (kept, e)) in
          let brings : Body = Told i j k (told_end flags k page) f in
          let exactly : (b : Bool) → b ≡ false → c.exact me && is_exact flags ≡ n.own.exact && (not b && is_exact flags) = λ b e. rw (e, s.own.exact) refl in
          let told : Said (flagged (parcel from me brings) (is_exact flags) false) c.said = (let P : Body → Type 0 = λ b. Said (flagged (parcel from me b) (is_exact flags) false) c.said in subst P was.1.1 was.3) in
          goes-page n c from i j k flags page f s low other wide heard_wide lost_wide ok fits process was.1.3 (c.exact me && is_exact flags) (exactly (is_lost flags) kept) (Acts (is_exact flags) (Arrives from me brings))
          (((given, may-take n c from i j k flags page f s low other wide heard_wide lost_wide ok fits process was.1.3), tt), told) refl (λ e. tt)
          (ap (λ b. record (arrived c from me brings) { exact = put c.exact me (c.exact me && is_exact flags); lost = put2 c.lost me from b }) (sym kept))

  ask-heard : (i k : ℕ) → IsSaid c from n.own.me (packets.Ask i k) → Onward n.own.me c (heard from (packets.Ask i k) n)
  ask-heard i k said = by-branch (Onward n.own.me c) (in_range (packets.Ask i k)) (asked_by from i k n) n (λ e. asking-heard i k (was-asked c from n.own.me i k said)) (λ e. none-heard)

  hearing : (x : bodies.Body) → IsSaid c from n.own.me x → Onward n.own.me c (heard from x n)
  hearing (packets.Told i j k flags page) said = page-heard i j k flags page said
  hearing (packets.Ask i k) said = ask-heard i k said
  hearing other said = none-heard

-- a packet comes
pub handing : (n : TheCollecting) (x : NodePacket) → length n.told ≡ suc n.own.count → length n.own.heard ≡ suc n.own.count → length n.own.lost ≡ suc n.own.count → IsHanded x n (handed x n)
handing n x wide heard_wide lost_wide c s said =
    let me = n.own.me in
    let o = n.own in
    by-branch (Onward me c) (is_for o x) (heard x.from x.body n) n
    (λ e. let it = for-own o x e in
    let P : ℕ → Type 0 = λ z. IsSaid c x.from z x.body in
    hearing n c x.from s it.1.0 it.1.1 wide heard_wide lost_wide x.body (subst P it.0 said))
    (λ e. goes-self o.exact me (At n me) c s)
