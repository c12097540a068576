-- A process that restores its numbers asks its peers
use Rattle.std.proofs.Common.{◌≡◌, ◌≢◌, ℕ, zero, suc, ◌+◌, ◌<◌, ◌≤◌, List, length, Bool, true, false, refl, sym, ap, ◌∙◌, subst, arith}
use Rattle.std.specs.Prelude.{slice_index_or, not, if◌then◌else◌}
use Rattle.world.specs.Phases.{is_up, has}
use Rattle.cluster.specs.Parcels.{Resume, Parcel, Flagged}
use Rattle.cluster.specs.Cluster.{Cluster, is_well}
use Rattle.cluster.specs.Rules.{Puts}
use Rattle.packets.specs.declared.packet.Body.TheVariants as packets
use Rattle.node.proofs.Commits.{long}
use Rattle.recovery.specs.Own.{posts}
use Rattle.recovery.specs.Intake.{keeps}
use Rattle.packets.specs.declared.packet.NodePacket.{NodePacket}
use Rattle.node.specs.Stands.{Each}
use Rattle.recovery.specs.Stands.{HasOwn, IsSent, GoesTo}
use Rattle.cluster.proofs.Goes.{goes-self, goes-act, goes-then, goes-any}
use Rattle.recovery.proofs.Posts.{own-out, own-posted}
use Rattle.recovery.specs.Restoration.{TheRestoring, replayed_of, above_of, has_answered, left, asks, asks_below, asked}
use Rattle.recovery.specs.RestorationStands.{StandsRestoring, Acts}
use Rattle.recovery.proofs.Left.{not-off, both-off, has-is, waits-on}

-- where it stands
abbrev pub At : TheRestoring → ℕ → Cluster → Type 0
At n p = λ d. StandsRestoring n d p

-- what holds of both branches holds of the one that is taken
pub by-branch : (P : TheRestoring → Type 0) (b : Bool) (x y : TheRestoring) → (b ≡ true → P x) → (b ≡ false → P y) → P (if b then x else y)
by-branch P true x y f g = f refl
by-branch P false x y f g = g refl

-- one that it waits for is among those that are left
pub left-has : (n : TheRestoring) (q : ℕ) → 0 < q → q ≤ n.own.count → has_answered q n ≡ false → has (left n) q ≡ true
left-has n q some low open_is = has-is (λ q. not (has_answered q n)) n.own.count q some low ∙ not-off (has_answered q n) open_is

-- so it isn't up
pub not-well : (n : TheRestoring) (c : Cluster) (p q : ℕ) → StandsRestoring n c p → q ≤ n.own.count → has_answered q n ≡ false → is_well c p ≡ false
not-well n c p zero s low open_is = let e : c.greeted p ≡ false = s.greeted ∙ open_is in rw (s.stage, e) refl
not-well n c p (suc q) s low open_is =
    let e : is_up (c.world.phase p) ≡ false = ap is_up s.phase ∙ waits-on (left n) (suc q) (left-has n (suc q) (omega arith) low open_is) in
    rw (s.stage, e) (both-off (c.greeted p))

-- with another own part that has other packets, in a cluster where other packets were sent and said
pub restoring-own : (n : TheRestoring) (c : Cluster) (p : ℕ) {rest : List NodePacket} {parcels : List Parcel} {said : List Flagged} → HasOwn (record n.own { out = rest }) (record c { parcels = parcels; said = said }) p (c.world.history p) (c.world.trims p) (c.world.numbers p)
    → StandsRestoring n c p → StandsRestoring (record n { own = record n.own { out = rest } }) (record c { parcels = parcels; said = said }) p
restoring-own n c p own s =
    record { stage = s.stage; greeted = s.greeted; phase = s.phase; life = s.life; own = own; received = s.received; acknowledged = s.acknowledged; known = s.known; fresh = s.fresh; resumed = s.resumed; restoring = s.restoring; released = s.released }

-- with other packets that were put out
pub restoring-out : (n : TheRestoring) (c : Cluster) (p : ℕ) (rest : List NodePacket) → Each (IsSent c p) rest → StandsRestoring n c p → StandsRestoring (record n { own = record n.own { out = rest } }) c p
restoring-out n c p rest out s = restoring-own n c p (own-out n.own c p _ _ _ rest out s.own) s

-- one peer is asked for what it has behind what it told
asks-one : (n : TheRestoring) (c : Cluster) (to : ℕ) → StandsRestoring n c n.own.me → to ≤ n.own.count → slice_index_or n.answered n.own.me true ≡ true → has_answered to n ≡ false
    → GoesTo true n.own.me (At (record n { own = posts to (packets.Resume n.own.life (keeps (replayed_of n)) (above_of to n)) n.own }) n.own.me) c
asks-one n c to s low alone open_is =
    let me = n.own.me in
    let kept = keeps (replayed_of n) in
    let above = above_of to n in
    let within : to ≤ c.world.count = omega (arith, low, s.own.count) in
    let other : me ≢ to = λ e. (let P : ℕ → Type 0 = λ z. has_answered z n ≡ false in let f : has_answered me n ≡ false = subst P (sym e) open_is in let g : true ≡ false = sym alone ∙ f in absurd (cc)) in
    let many : kept ≡ length (c.world.history me) = sym (long n.own.count n.own.base n.own.covered n.receipts (c.world.history me) (c.world.acknowledged me) s.received) in
    goes-act true me (At (record n { own = posts to (packets.Resume n.own.life kept above) n.own }) me) c (Puts me to (Resume n.own.life kept above))
    (s.own.inside.1, within, other, (s.stage, not-well n c me to s low open_is, sym s.life, many, sym (s.restoring to within))) tt tt refl
    (restoring-own n c me (own-posted n.own c me to (packets.Resume n.own.life kept above) (Resume n.own.life kept above) (c.world.history me) (c.world.trims me) (c.world.numbers me) refl tt tt s.own) s)

pub asks-at : (n : TheRestoring) (c : Cluster) (to : ℕ) → StandsRestoring n c n.own.me → to ≤ n.own.count → slice_index_or n.answered n.own.me true ≡ true → GoesTo true n.own.me (At (asks to n) n.own.me) c
asks-at n c to s low alone = by-branch (λ m. GoesTo true n.own.me (At m n.own.me) c) (has_answered to n) n _ (λ e. goes-self true n.own.me (At n n.own.me) c s) (λ e. asks-one n c to s low alone e)

-- only packets are added
abbrev pub OnlyPosts : TheRestoring → TheRestoring → Type 0
OnlyPosts old new = new ≡ record old { own = record old.own { out = new.own.out } }

only-then : (a b c : TheRestoring) → OnlyPosts a b → OnlyPosts b c → OnlyPosts a c
only-then a b c e f = f ∙ ap (λ (z : TheRestoring). record z { own = record z.own { out = c.own.out } }) e

pub only-asks : (n : TheRestoring) (to : ℕ) → OnlyPosts n (asks to n)
only-asks n to = by-branch (OnlyPosts n) (has_answered to n) n _ (λ e. refl) (λ e. refl)

pub only-below : (n : TheRestoring) (d : ℕ) → OnlyPosts n (asks_below d n)
only-below n zero = refl
only-below n (suc d) = only-then n (asks_below d n) (asks d (asks_below d n)) (only-below n d) (only-asks (asks_below d n) d)

asking-below : (n : TheRestoring) (c : Cluster) (d : ℕ) → StandsRestoring n c n.own.me → slice_index_or n.answered n.own.me true ≡ true → d ≤ suc n.own.count → GoesTo true n.own.me (At (asks_below d n) n.own.me) c
asking-below n c zero s alone low = goes-self true n.own.me (At n n.own.me) c s
asking-below n c (suc d) s alone low =
    let me = n.own.me in
    let m = asks_below d n in
    let only : OnlyPosts n m = only-below n d in
    let me_is : m.own.me ≡ me = ap (λ (z : TheRestoring). z.own.me) only in
    let count : m.own.count ≡ n.own.count = ap (λ (z : TheRestoring). z.own.count) only in
    let answered : m.answered ≡ n.answered = ap (λ (z : TheRestoring). z.answered) only in
    let still : slice_index_or m.answered m.own.me true ≡ true = rw (answered, me_is) alone in
    goes-then true me (At m me) (At (asks d m) me) c (asking-below n c d s alone (omega (arith, low)))
    (λ w t. let P : ℕ → Type 0 = λ k. GoesTo true k (At (asks d m) k) w in
    let Q : ℕ → Type 0 = λ k. StandsRestoring m w k in
    subst P me_is (asks-at m w d (subst Q (sym me_is) t) (omega (arith, low, count)) still))

pub asking : (n : TheRestoring) → slice_index_or n.answered n.own.me true ≡ true → Acts n (asked n)
asking n alone c s u = goes-any true (asked n).own.exact n.own.me (At (asked n) n.own.me) c (λ e. refl) (asking-below n c (n.own.count + 1) s alone (omega arith))
