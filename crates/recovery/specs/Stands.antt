-- When a recovering process agrees with a cluster, and what a call owes
use Rattle.std.specs.Prelude.{◌≡◌, ◌≢◌, ℕ, suc, ◌+◌, ◌<◌, ◌≤◌, List, [], ◌∷◌, length, take, Option, Some, None, Bool, true, false}
use Rattle.std.specs.Prelude.{slice_index_or}
use Rattle.world.specs.declared.message.Message.{Message}
use Rattle.world.specs.History.{count_of}
use Rattle.cluster.specs.Parcels.{Said, flagged, parcel, reaches}
use Rattle.cluster.specs.Cluster.{Cluster, Collected, Dead, Collecting}
use Rattle.cluster.specs.Rules.{Opens, May, IsNode, Asks, IsAll, entry_in}
use Rattle.cluster.specs.Overlap.{Acts as Happens, loss, goes}
use Rattle.packets.specs.Packet.{flags_of, is_lost}
use Rattle.packets.specs.declared.packet.Body.{Body}
use Rattle.packets.specs.declared.packet.Body.TheVariants.{Ask, Told}
use Rattle.packets.specs.declared.page.Flags.{Flags}
use Rattle.packets.specs.declared.packet.NodePacket.{NodePacket}
use Rattle.packets.specs.declared.page.LoggedMessage.{LoggedMessage}
use Rattle.packets.specs.declared.kept.Kept.{Kept}
use Rattle.node.specs.Queue.{TheQueue}
use Rattle.node.specs.Node.{log_at}
use Rattle.node.specs.Stands.{Each, PutOut, KeepsOf, IsShut, sent_by}
pub use Rattle.node.specs.Stands.{own_event, GoesTo}
use Rattle.recovery.specs.Own.{TheOwn}
use Rattle.recovery.specs.Overlap.{is_loss}
use Rattle.packets.specs.Says.{WasSaid, first_told}
pub use Rattle.node.specs.Kept.{IsKeptOf}
use Rattle.recovery.specs.Collected.{TheCollected}
use Rattle.recovery.specs.Collection.{TheCollecting, told_of}

-- the process p said to d that all is lost; that is no packet of the cluster
pub record IsLoss (c : Cluster) (p d i j k : ℕ) (flags : Flags) (entries : List LoggedMessage) : Type 0 where
  pub process : 0 < p
  pub flags_are : flags ≡ flags_of true true false
  pub none : entries ≡ []
  pub said : Said (flagged (parcel p d (loss i j k)) false true) c.said

-- a process asks, or says that all is lost; the gateway never does
abbrev pub OfProcess : Cluster → ℕ → ℕ → Body → Type 0
OfProcess c p d (Ask i k) = 0 < p
OfProcess c p d (Told i j k flags entries) = is_lost flags ≡ true → IsLoss c p d i j k flags entries
OfProcess c p d body = Unit {0}

-- what the packet says was sent, or p said that all is lost
abbrev pub IsSaid : Cluster → ℕ → ℕ → Body → Type 0
IsSaid c p d body = OfProcess c p d body × (is_loss body ≡ false → WasSaid c p d body)

-- so of a packet of the process p
abbrev pub IsSent : Cluster → ℕ → NodePacket → Type 0
IsSent c p x = (x.from ≡ p) × OfProcess c p x.to x.body × (is_loss x.body ≡ false → PutOut c p x)

-- of what n messages send to one destination, a queue has released what the first `base` of them send, and so what the checkpoint covers;
-- the rest waits, each for a later RSN
pub record IsHeldBack (q : TheQueue) (n base : ℕ) (sent : ℕ → ℕ) : Type 0 where
  pub released_is : q.released ≡ sent base
  pub shut : IsShut q n (sent base) sent

-- the process is what the cluster has of p: its state is the one after the messages h, and its log has these RSNs, with this many entries
-- dropped
pub record HasOwn (o : TheOwn) (c : Cluster) (p : ℕ) (h : List Message) (trims : ℕ → ℕ) (numbers : ℕ → ℕ → Option ℕ) : Type 0 where
  pub me : o.me ≡ p
  pub count : o.count ≡ c.world.count
  pub inside : IsNode c p
  pub saved : c.world.saved p ≡ o.base
  pub many : o.base ≤ length h
  pub state : c.world.handlers.state p h ≡ o.state
  pub covered : (q : ℕ) → q ≤ c.world.count → slice_index_or o.covered q 0 ≡ count_of q (take o.base h)
  pub logs : (d : ℕ) → d ≤ c.world.count → d ≢ p → KeepsOf (log_at o.logs d) (trims d) (c.world.handlers.sends p h d) (numbers d)
  pub held : (d : ℕ) → d ≤ c.world.count → d ≢ p → IsHeldBack (log_at o.logs d) (length h) o.base (sent_by c.world.handlers p h d)
  pub grown : (d : ℕ) → sent_by c.world.handlers p h d o.base ≤ length (c.world.handlers.sends p h d)
  pub heard : (q : ℕ) → q ≤ c.world.count → c.heard p q ≡ slice_index_or o.heard q 0
  -- a durable process of the cluster is durable by its limits
  pub durable : c.durable p ≡ true → o.limits.durable ≡ true
  pub exact : c.exact p ≡ o.exact
  pub lost : (q : ℕ) → q ≤ c.world.count → c.lost p q ≡ slice_index_or o.lost q true
  -- if it is exact, no peer said that it lost what it had; the gateway never does
  pub sure : o.exact ≡ true → (q : ℕ) → q ≤ c.world.count → slice_index_or o.lost q true ≡ false
  pub greets : slice_index_or o.lost 0 true ≡ false
  pub out : Each (IsSent c p) o.out

-- whether what a peer told reaches m; with no page at all it counts as reaching every m
abbrev pub reached : Option Collected → ℕ → Bool
reached None m = true
reached (Some t) m = reaches t.upto m

-- what the process holds from a peer q is what the cluster has of it above the checkpoint: the entries, as far as they go, and the RSN that
-- is asked for next
pub record IsTold (q base : ℕ) (x : TheCollected) (t : Option Collected) : Type 0 where
  pub asks : x.done ≡ false → Asks base t x.cursor
  pub all : x.done ≡ true → IsAll t
  pub low : x.done ≡ false → Each (λ (e : LoggedMessage). e.number ≤ x.cursor) x.entries
  pub entries : (m : ℕ) → base < m → reached t m ≡ true → entry_in t m ≡ first_told q x.entries m

-- a process that collects agrees with a cluster in which p collects
pub record StandsCollecting (n : TheCollecting) (c : Cluster) (p : ℕ) : Type 0 where
  pub stage : c.stage p ≡ Collecting
  pub life : c.stored p ≡ n.own.life
  pub own : HasOwn n.own c p (take n.own.base (c.world.history p)) (c.world.saved_trims p) (λ _ _. None)
  pub told : (q : ℕ) → q ≤ c.world.count → IsTold q n.own.base (told_of n.told q) (c.told p q)
  -- it has told itself nothing
  pub alone : c.told p p ≡ None

-- p is opened in this incarnation, after those that were skipped and never stored, and goes on to a cluster for which P holds
pub record Reopens (p life : ℕ) (P : Cluster → Type 0) (c : Cluster) : Type 0 where
  pub skipped : ℕ
  pub opens : May c (Opens p skipped)
  pub incarnation : suc (skipped + c.stored p) ≡ life
  pub goes : GoesTo true p P (goes c (Happens true (Opens p skipped)))

-- what a process owes that comes back: if p is dead, the kept state is what its checkpoint covers, and no incarnation from this one on was
-- stored, then it is opened in this one, and goes on to a cluster with which it agrees; a durable one must be durable by its limits
abbrev pub Revives : Kept → ℕ → TheCollecting → Type 0
Revives k life n = (c : Cluster) → (c.durable k.me ≡ true → n.own.limits.durable ≡ true) → c.stage k.me ≡ Dead → c.stored k.me < life
    → IsKeptOf k c k.me → IsNode c k.me → Reopens k.me life (λ d. StandsCollecting n d k.me) c

-- what a call owes of a process that collects: from each cluster with which it agreed, and for which `given` holds, to one with which it
-- agrees
abbrev pub Owes : (Cluster → Type 0) → TheCollecting → TheCollecting → Type 0
Owes given old new = (c : Cluster) → StandsCollecting old c old.own.me → given c
    → GoesTo new.own.exact old.own.me (λ d. StandsCollecting new d old.own.me) c

-- what a call owes that is handed nothing
abbrev pub Acts : TheCollecting → TheCollecting → Type 0
Acts old new = Owes (λ c. Unit {0}) old new

-- what a call owes that is handed a packet, if that was sent
abbrev pub IsHanded : NodePacket → TheCollecting → TheCollecting → Type 0
IsHanded x old new = Owes (λ c. IsSaid c x.from x.to x.body) old new

-- what `take` owes: it gives the first packet that waited, which was sent, and the process no longer has it
abbrev pub Takes : Option NodePacket → TheCollecting → TheCollecting → Type 0
Takes None old new = (old.own.out ≡ []) × (new ≡ old)
Takes (Some x) old new = (old ≡ record new { own = record new.own { out = x ∷ new.own.out } })
    × ((c : Cluster) → StandsCollecting old c old.own.me → IsSent c old.own.me x × StandsCollecting new c old.own.me)
