-- A process whose peers all told their numbers is a node
use Rattle.std.proofs.Common.{◌≡◌, ◌≢◌, ℕ, zero, suc, ◌+◌, ◌<◌, ◌≤◌, List, [], ◌∷◌, ◌++◌, length, take, Bool, true, false, refl, sym, ap, ◌∙◌, subst, arith}
use Rattle.std.specs.Prelude.{Option, Some, None, not, slice_index_or, ◌==◌}
use Rattle.std.specs.List.{list_all}
use Rattle.std.proofs.lemmas.Bool.Decides.{nat_tests}
use Rattle.std.proofs.lemmas.List.{take_all, length-append}
use Rattle.world.specs.declared.message.Message.{Message}
use Rattle.world.specs.Bounds.{count_below}
use Rattle.world.specs.Calls.{phase_with}
use Rattle.world.specs.Logs.{run_to, sent_in_all}
use Rattle.theorems.proofs.RunLemmas.{run_to-whole}
use Rattle.theorems.proofs.Tests.{both}
use Rattle.cluster.specs.Cluster.{Cluster, waiting}
use Rattle.packets.specs.declared.packet.NodePacket.{NodePacket}
use Rattle.node.specs.Queue.{TheQueue, released_again}
use Rattle.node.specs.Node.{log_at}
use Rattle.packets.specs.Outbox.{Pops}
use Rattle.node.specs.Stands.{Each, KeepsOf, IsShut, Stands, sent_by, freed_in, most_released}
use Rattle.recovery.specs.Stands.{IsSent}
use Rattle.node.proofs.Releases.{log-released}
use Rattle.recovery.specs.Restoration.{TheRestoring, has_answered, left, is_up, up}
use Rattle.recovery.specs.RestorationStands.{StandsRestoring, IsUp, Takes}
use Rattle.recovery.proofs.Left.{those-none}
use Rattle.recovery.proofs.RestorationInquiries.{restoring-out}

all-at : (xs : List Bool) (q : ℕ) → list_all (λ b. b) xs ≡ true → slice_index_or xs q true ≡ true
all-at [] q e = refl
all-at (x ∷ xs) zero e = (both x (list_all (λ b. b) xs) e).0
all-at (x ∷ xs) (suc q) e = all-at xs q (both x (list_all (λ b. b) xs) e).1

none-below : (f : ℕ → Bool) (n : ℕ) → ((k : ℕ) → k < n → f k ≡ false) → count_below f n ≡ 0
none-below f zero none = refl
none-below f (suc n) none = let e : count_below f n ≡ 0 = none-below f n (λ k l. none k (omega (arith, l))) in rw (none n (omega arith)) (omega (arith, e))

-- a queue keeps what it kept, whatever it released
keeps-released : (durable : Bool) (q : TheQueue) (trims : ℕ) (sent : List (List ℕ)) (numbers : ℕ → Option ℕ) → KeepsOf q trims sent numbers → KeepsOf (released_again durable q) trims sent numbers
keeps-released true q trims sent numbers k = k
keeps-released false q trims sent numbers k = record { before = k.before; many = k.many; joined = k.joined; dropped_is = k.dropped_is; as_many = k.as_many; numbers_are = k.numbers_are; beyond = k.beyond }

module _ (n : TheRestoring) (c : Cluster) (s : StandsRestoring n c n.own.me) (all : is_up n ≡ true) where
  abbrev p : ℕ
  p = n.own.me

  abbrev h : List Message
  h = c.world.history p

  answered : (q : ℕ) → has_answered q n ≡ true
  answered q = all-at n.answered q all

  nobody : left n ≡ []
  nobody = those-none (λ q. not (has_answered q n)) n.own.count (λ q. ap not (answered q))

  inner : (p == 0) ≡ false
  inner = let z : 0 < p = s.own.inside.0 in grind (arith, nat_tests)

  -- all that it sent is released in the cluster
  free-all : (d : ℕ) → c.world.released p d ≡ length (c.world.handlers.sends p h d)
  free-all d = s.released nobody d ∙ (let e : sent_in_all c.world p d ≡ length (c.world.handlers.sends p h d) = rw inner refl in e)

  size : (d : ℕ) → d ≤ c.world.count → d ≢ p → length (c.world.handlers.sends p h d) ≡ (log_at n.own.logs d).dropped + length (log_at n.own.logs d).payloads
  size d l o = let k = s.own.logs d l o in let e : length (k.before ++ (log_at n.own.logs d).payloads) ≡ length k.before + length (log_at n.own.logs d).payloads = length-append k.before (log_at n.own.logs d).payloads in
      ap length (sym k.joined) ∙ omega (arith, e, k.many)

  whole : (d : ℕ) → sent_by c.world.handlers p h d (run_to (c.world.acknowledged p) (length h)) ≡ length (c.world.handlers.sends p h d)
  whole d =
      let run : run_to (c.world.acknowledged p) (length h) ≡ length h = run_to-whole (c.world.acknowledged p) (length h) (λ m some l. s.acknowledged m l) in
      let e : take (length h) h ≡ h = take_all (length h) h (omega arith) in
      ap (sent_by c.world.handlers p h d) run ∙ ap (λ z. length (c.world.handlers.sends p z d)) e

  -- of a durable node only what its checkpoint covers was released, and of another all
  shut-again : (durable : Bool) (d : ℕ) → d ≤ c.world.count → d ≢ p → IsShut (released_again durable (log_at n.own.logs d)) (length h) (most_released durable c p d) (sent_by c.world.handlers p h d)
  shut-again true d l o =
      let P : ℕ → Type 0 = λ z. IsShut (log_at n.own.logs d) (length h) (sent_by c.world.handlers p h d z) (sent_by c.world.handlers p h d) in
      subst P (sym s.own.saved) (s.own.held d l o).shut
  shut-again false d l o = record { within = omega arith; waits = λ k m. (let e = size d l o in omega (arith, free-all d, e)) }

  free-again : (durable : Bool) (d : ℕ) → sent_by c.world.handlers p h d (freed_in durable c p) ≤ c.world.released p d
  free-again true d =
      let P : ℕ → Type 0 = λ z. sent_by c.world.handlers p h d z ≤ length (c.world.handlers.sends p h d) in
      let few : sent_by c.world.handlers p h d (c.world.saved p) ≤ length (c.world.handlers.sends p h d) = subst P (sym s.own.saved) (s.own.grown d) in
      omega (arith, few, free-all d)
  free-again false d = (let e = whole d in omega (arith, e, free-all d))

  nothing-waits : waiting c p ≡ 0
  nothing-waits = none-below (λ k. not (c.world.acknowledged p (suc k))) (length h) (λ k l. ap not (s.acknowledged (suc k) (omega (arith, l))))

  stands-up : Stands (up n) c p
  stands-up = record {
    me = refl;
    count = s.own.count;
    inside = s.own.inside;
    stage = s.stage;
    greeted = s.greeted ∙ answered 0;
    phase = s.phase ∙ ap phase_with nobody;
    works = tt;
    life = s.life;
    state = s.own.state;
    saved = s.own.saved;
    durable = s.own.durable;
    exact = s.own.exact;
    received = s.received;
    waits = nothing-waits;
    logs = λ d l o. rw (log-released n.own.limits.durable n.own.logs d) (keeps-released n.own.limits.durable (log_at n.own.logs d) (c.world.trims p d) (c.world.handlers.sends p h d) (c.world.numbers p d) (s.own.logs d l o));
    gates = λ d l o. rw (log-released n.own.limits.durable n.own.logs d) (shut-again n.own.limits.durable d l o);
    free = free-again n.own.limits.durable;
    heard = s.own.heard;
    resumed = λ q l. s.resumed q ∙ sym (answered q);
    out = tt;
  }

pub is-up : (n : TheRestoring) → is_up n ≡ true → IsUp n (up n)
is-up n all c s = stands-up n c s all

-- the first packet that waits leaves
pub takes-so : (o : Option NodePacket) (n : TheRestoring) (rest : List NodePacket) → Pops o n.own.out rest → Takes o n (record n { own = record n.own { out = rest } })
takes-so None n rest e = (e.0, ap (λ xs. record n { own = record n.own { out = xs } }) e.1 ∙ ap (λ xs. record n { own = record n.own { out = xs } }) (let back : [] ≡ n.own.out = (cc) in back))
takes-so (Some x) n rest e = (
  ap (λ xs. record n { own = record n.own { out = xs } }) e,
  λ c s. (let out : Each (IsSent c n.own.me) (x ∷ rest) = subst (Each (IsSent c n.own.me)) e s.own.out in (out.0, restoring-out n c n.own.me rest out.1 s)),
)
