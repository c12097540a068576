-- What a host sees of a process, and the process by its stages
use Rattle.std.proofs.Common.{◌≡◌, ℕ, List, true, refl, sym, ap, ◌∙◌, subst}
use Rattle.cluster.specs.Cluster.{Cluster}
use Rattle.cluster.specs.Rules.{May, does, Keeps}
use Rattle.verifier.specs.declared.any_image.AnyImage.{AnyImage}
use Rattle.interp.specs.Image.{as_image}
use Rattle.packets.specs.declared.kept.Kept.{Kept}
use Rattle.node.specs.Node.{TheNode}
use Rattle.node.specs.Kept.{IsKeptOf}
use Rattle.recovery.specs.Collection.{TheCollecting}
use Rattle.recovery.specs.declared.lifecycle.Lifecycle.{Lifecycle}
use Rattle.recovery.specs.declared.lifecycle.Lifecycle.TheVariants.{Up, Passing}
use Rattle.process.specs.Process.{is_settled}
use Rattle.process.specs.Calls.{standing_at, is_frozen}
use Rattle.process.specs.Suspension.{Suspends}
use Rattle.node_laws.specs.HostProcess.{IsFirst, Checkpoint, Absent, Durable, Hosted, Runs, Sleeps, Killed, Alive, is_exact, IsUp}
use Rattle.node_laws.specs.HostBack.{Collects}
use Rattle.node_laws.specs.Agreement.{Stands, StandsAs, IsStoredOf}
use Rattle.node_laws.specs.Inside.Process as lives
use Rattle.node_laws.specs.HostSystem.{System}
use Rattle.node_laws.specs.HostLaws as laws
use Rattle.node_laws.specs.Inside.System as called
use Rattle.node_laws.specs.Inside.System.{view}
use Rattle.node_laws.specs.Inside.Process.{covered, stage_of, seen, as_process}
use Rattle.node_laws.proofs.Stages.{Fits, Waits, unsettled}

-- it has such an image, is in some stage, and waits for what is pending, or for an answer; or it was suspended as its bytes say
abbrev pub IsGood : AnyImage → Hosted → Type 0
IsGood image (Runs old w) = (as_image old.image ≡ as_image image) × ((is_settled old.lifecycle ≡ true) × (Fits w old.lifecycle × Waits old.lifecycle))
IsGood image (Sleeps old bytes) = Suspends old.lifecycle bytes
IsGood image Killed = Unit {0}

abbrev pub AreGood : (ℕ → AnyImage) → ℕ → System → Type 0
AreGood images n s = (p : ℕ) → IsFirst n p → IsGood (images p) (s.processes p)

-- ---- whether it is exact

exact-seen : (w : Checkpoint) (c : Lifecycle) → lives.is_exact (seen w c) ≡ (standing_at c).exact
exact-seen Durable Passing = refl
exact-seen Durable other = refl
exact-seen w Passing = refl
exact-seen w other = refl

exact-as : (h : Hosted) → lives.is_exact (as_process h) ≡ is_exact h
exact-as (Runs process w) = exact-seen w process.lifecycle
exact-as (Sleeps process bytes) = exact-seen Absent process.lifecycle
exact-as Killed = refl

-- one system is as exact as the other
pub exact-here : (n : ℕ) (s : System) → called.AreExact n (view s) → laws.AreExact n s
exact-here n s e p l = sym (exact-as (s.processes p)) ∙ e p l

pub exact-there : (n : ℕ) (s : System) → laws.AreExact n s → called.AreExact n (view s)
exact-there n s e p l = exact-as (s.processes p) ∙ e p l

-- ---- its stage

pub is-up : (m : TheNode) (h : Hosted) → IsUp m h → lives.IsUp m (as_process h)
is-up m (Runs process Durable) u = subst (λ c. lives.IsUp m (covered (stage_of c))) (sym u) refl
is-up m (Runs process w) u = subst (λ c. lives.IsUp m (stage_of c)) (sym u) refl
is-up m (Sleeps process bytes) u = subst (λ c. lives.IsUp m (stage_of c)) (sym u) refl
is-up m Killed u = absurd u

pub up-so : (m : TheNode) (h : Hosted) → IsUp m h → lives.is_up (as_process h) ≡ true
up-so m (Runs process Durable) u = ap (λ c. lives.is_up (covered (stage_of c))) u
up-so m (Runs process w) u = ap (λ c. lives.is_up (stage_of c)) u
up-so m (Sleeps process bytes) u = ap (λ c. lives.is_up (stage_of c)) u
up-so m Killed u = absurd u

pub collects : (h : Hosted) → Alive Collects h → (m : TheCollecting) × (as_process h ≡ lives.Collects m)
collects (Runs process Durable) u = (u.0, ap (λ c. covered (stage_of c)) u.1)
collects (Runs process w) u = (u.0, ap stage_of u.1)
collects other u = absurd u

-- ---- how it agrees with a cluster

in-stage : (k : Kept) (c : Lifecycle) (d : Cluster) (p : ℕ) → is_settled c ≡ true → lives.StandsAs (stage_of c) d p → lives.IsStoredOf k (stage_of c) d p → Stands c d p × IsKeptOf k d p
in-stage k Passing d p s g h = unsettled s
in-stage k other d p s g h = (g, h)

when-durable : (k : Kept) (c : Lifecycle) (d : Cluster) (p : ℕ) → Fits Durable c → lives.StandsAs (covered (stage_of c)) d p → lives.IsStoredOf k (covered (stage_of c)) d p → ((is_frozen c ≡ true) × Stands c d p) × (May d (Keeps p) × IsKeptOf k (does d (Keeps p)) p)
when-durable k (Up n) d p f g h = ((f, g.1), h)
when-durable k other d p f g h = absurd f

asleep-settled : (c : Lifecycle) (bytes : List ℕ) → Suspends c bytes → is_settled c ≡ true
asleep-settled (Up n) bytes s = refl
asleep-settled other bytes s = absurd s

pub agrees : (k : Kept) (image : AnyImage) (h : Hosted) (d : Cluster) (p : ℕ) → IsGood image h → lives.StandsAs (as_process h) d p → lives.IsStoredOf k (as_process h) d p → StandsAs h d p × IsStoredOf k h d p
agrees k image (Runs process Durable) d p good g h = when-durable k process.lifecycle d p good.1.1.0 g h
agrees k image (Runs process w) d p good g h = in-stage k process.lifecycle d p good.1.0 g h
agrees k image (Sleeps process bytes) d p good g h = in-stage k process.lifecycle d p (asleep-settled process.lifecycle bytes good) g h
agrees k image Killed d p good g h = (g, h)
