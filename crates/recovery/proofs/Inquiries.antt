-- A process that collects asks its peers
use Rattle.std.proofs.Common.{◌≡◌, ◌≢◌, ℕ, zero, suc, ◌+◌, ◌≤◌, take, Bool, true, false, refl, sym, ap, ◌∙◌, subst, arith}
use Rattle.std.specs.Prelude.{None, ◌==◌, if◌then◌else◌}
use Rattle.theorems.proofs.Tests.{different}
use Rattle.cluster.specs.Parcels.{Ask}
use Rattle.cluster.specs.Cluster.{Cluster}
use Rattle.cluster.specs.Rules.{Puts, Asks}
use Rattle.packets.specs.declared.packet.Body.TheVariants as packets
use Rattle.recovery.specs.Own.{posts}
use Rattle.recovery.specs.Collection.{TheCollecting, told_of, asks, asks_below, asked}
use Rattle.recovery.specs.Stands.{StandsCollecting, GoesTo, Acts}
use Rattle.cluster.proofs.Goes.{goes-self, goes-act, goes-then, goes-any}
use Rattle.recovery.proofs.Posts.{own-posted, collecting-own}

-- where it stands
abbrev pub At : TheCollecting → ℕ → Cluster → Type 0
At n p = λ d. StandsCollecting n d p

-- what holds of both branches holds of the one that is taken
pub by-branch : (P : TheCollecting → Type 0) (b : Bool) (x y : TheCollecting) → (b ≡ true → P x) → (b ≡ false → P y) → P (if b then x else y)
by-branch P true x y f g = f refl
by-branch P false x y f g = g refl

-- one peer is asked for what lies above what it told
asks-one : (n : TheCollecting) (c : Cluster) (to : ℕ) → StandsCollecting n c n.own.me → to ≤ n.own.count → to ≢ n.own.me → (told_of n.told to).done ≡ false
    → GoesTo true n.own.me (At (record n { own = posts to (packets.Ask n.own.life (told_of n.told to).cursor) n.own }) n.own.me) c
asks-one n c to s low other open_is =
    let me = n.own.me in
    let cursor = (told_of n.told to).cursor in
    let within : to ≤ c.world.count = omega (arith, low, s.own.count) in
    let told = s.told to within in
    let may : Asks (c.world.saved me) (c.told me to) cursor = rw s.own.saved (told.asks open_is) in
    goes-act true me (At (record n { own = posts to (packets.Ask n.own.life cursor) n.own }) me) c (Puts me to (Ask n.own.life cursor))
    (s.own.inside.1, within, (λ e. other (sym e)), (s.stage, sym s.life, may)) tt tt refl
    (collecting-own n c me (own-posted n.own c me to (packets.Ask n.own.life cursor) (Ask n.own.life cursor) (take n.own.base (c.world.history me)) (c.world.saved_trims me) (λ _ _. None) refl s.own.inside.0 tt s.own) s)

pub asks-at : (n : TheCollecting) (c : Cluster) (to : ℕ) → StandsCollecting n c n.own.me → to ≤ n.own.count → to ≢ n.own.me → GoesTo true n.own.me (At (asks to n) n.own.me) c
asks-at n c to s low other = by-branch (λ m. GoesTo true n.own.me (At m n.own.me) c) (told_of n.told to).done n _ (λ e. goes-self true n.own.me (At n n.own.me) c s) (λ e. asks-one n c to s low other e)

-- only packets are added
abbrev pub OnlyPosts : TheCollecting → TheCollecting → Type 0
OnlyPosts old new = new ≡ record old { own = record old.own { out = new.own.out } }

only-then : (a b c : TheCollecting) → OnlyPosts a b → OnlyPosts b c → OnlyPosts a c
only-then a b c e f = f ∙ ap (λ (z : TheCollecting). record z { own = record z.own { out = c.own.out } }) e

pub only-asks : (n : TheCollecting) (to : ℕ) → OnlyPosts n (asks to n)
only-asks n to = by-branch (OnlyPosts n) (told_of n.told to).done n _ (λ e. refl) (λ e. refl)

pub only-below : (n : TheCollecting) (me d : ℕ) → OnlyPosts n (asks_below me d n)
only-below n me zero = refl
only-below n me (suc d) = by-branch (OnlyPosts n) (d == me) (asks_below me d n) (asks d (asks_below me d n)) (λ e. only-below n me d)
    (λ e. only-then n (asks_below me d n) (asks d (asks_below me d n)) (only-below n me d) (only-asks (asks_below me d n) d))

asking-below : (n : TheCollecting) (c : Cluster) (d : ℕ) → StandsCollecting n c n.own.me → d ≤ suc n.own.count → GoesTo true n.own.me (At (asks_below n.own.me d n) n.own.me) c
asking-below n c zero s low = goes-self true n.own.me (At n n.own.me) c s
asking-below n c (suc d) s low =
    let me = n.own.me in
    let m = asks_below me d n in
    let only : OnlyPosts n m = only-below n me d in
    let me_is : m.own.me ≡ me = ap (λ (z : TheCollecting). z.own.me) only in
    let count : m.own.count ≡ n.own.count = ap (λ (z : TheCollecting). z.own.count) only in
    let before = asking-below n c d s (omega (arith, low)) in
    by-branch (λ z. GoesTo true me (At z me) c) (d == me) m (asks d m) (λ e. before)
    (λ e. let apart : d ≢ me = different d me e in
    goes-then true me (At m me) (At (asks d m) me) c before
    (λ w t. let P : ℕ → Type 0 = λ k. GoesTo true k (At (asks d m) k) w in
    let Q : ℕ → Type 0 = λ k. StandsCollecting m w k in
    subst P me_is (asks-at m w d (subst Q (sym me_is) t) (omega (arith, low, count)) (λ f. apart (f ∙ me_is)))))

pub asking-all : (n : TheCollecting) (c : Cluster) → StandsCollecting n c n.own.me → GoesTo true n.own.me (At (asked n) n.own.me) c
asking-all n c s = asking-below n c (n.own.count + 1) s (omega arith)

pub asking : (n : TheCollecting) → Acts n (asked n)
asking n c s u = goes-any true (asked n).own.exact n.own.me (At (asked n) n.own.me) c (λ e. refl) (asking-all n c s)
