-- What is stored of a process is what some messages leave, and a node that is up has these and more
use Rattle.std.proofs.Common.{◌≡◌, ℕ, ◌+◌, ◌≤◌, List, ◌++◌, length, take, drop, refl, sym, ap, ◌∙◌, subst, arith}
use Rattle.std.specs.Prelude.{Option, map, if◌then◌else◌}
use Rattle.std.proofs.Math.Seq.{drop-append_seam}
use Rattle.std.proofs.lemmas.List.{length-append, take-append-drop}
use Rattle.theorems.specs.Growth.{Begins, Grows}
use Rattle.theorems.proofs.Changes.{at-itself}
use Rattle.theorems.proofs.ListLemmas.{begins-self, take-all, take-length}
use Rattle.theorems.proofs.LogLemmas.{payloads-prefix}
use Rattle.world.specs.declared.message.Message.{Message}
use Rattle.world.specs.History.{Payload}
use Rattle.world.specs.Handlers.{Handlers}
use Rattle.world.specs.Logs.{payloads}
use Rattle.cluster.specs.Cluster.{Cluster}
use Rattle.cluster.specs.Rules.{Keeps, does}
use Rattle.cluster.specs.Overlap.{kept_sends}
use Rattle.packets.specs.declared.kept.Kept.{Kept}
use Rattle.node.specs.Queue.{TheQueue, no_queue}
use Rattle.node.specs.Node.{TheNode, log_at}
use Rattle.node.specs.Kept.{IsKeptOf, with_own, queue_of}
use Rattle.node.specs.Stands.{Stands, KeepsOf}
use Rattle.node.proofs.Commits.{long}
use Rattle.node_laws.specs.Inside.Process.{Process, Up, Covered, StandsAs, IsUp}
use Rattle.node_laws.specs.Inside.System.{AreStoredOf}
use Rattle.node_laws.specs.Durable.{IsRest, IsAfter, AreAfter, HasAfter}

-- the messages of p that are stored: those that its checkpoint covers, or will cover once it is told that it is durable
abbrev pub messages : Process → Cluster → ℕ → List Message
messages (Covered n) c p = c.world.history p
messages process c p = take (c.world.saved p) (c.world.history p)

-- they begin with those that its checkpoint covers
pub covered-first : (process : Process) (c : Cluster) (p : ℕ) → Begins (take (c.world.saved p) (c.world.history p)) (messages process c p)
covered-first (Covered n) c p = (drop (c.world.saved p) (c.world.history p), take-append-drop (c.world.saved p) (c.world.history p))
covered-first process c p = begins-self (messages process c p)

-- and are the first that it received
pub are-first : (process : Process) (c : Cluster) (p : ℕ) → Begins (messages process c p) (c.world.history p)
are-first (Covered n) c p = begins-self (c.world.history p)
are-first process c p = (drop (c.world.saved p) (c.world.history p), take-append-drop (c.world.saved p) (c.world.history p))

-- they send what the checkpoint's do, and more
pub send-more : (process : Process) (c : Cluster) (p d : ℕ) → Grows c.world.handlers → c.world.saved p ≤ length (c.world.history p) → Begins (kept_sends c p d) (payloads c.world p (messages process c p) d)
send-more (Covered n) c p d grows within =
    let P : List Message → Type 0 = λ h. Begins (kept_sends c p d) (payloads c.world p h d) in
    subst P (take-all (c.world.history p)) (payloads-prefix c.world grows p (c.world.history p) d (c.world.saved p) (length (c.world.history p)) within)
send-more process c p d grows within = begins-self (kept_sends c p d)

-- a log has what it hasn't dropped
rest-of : (q : TheQueue) (dropped : ℕ) (xs : List Payload) (numbers : ℕ → Option ℕ) → KeepsOf q dropped xs numbers → IsRest q xs
rest-of q dropped xs numbers k =
    let many : length k.before + length q.payloads ≡ length xs = sym (length-append k.before q.payloads) ∙ ap length k.joined in
    record { within = omega (arith, many, k.many); rest = ap (λ z. drop z xs) (sym k.many) ∙ ap (drop (length k.before)) (sym k.joined) ∙ drop-append_seam k.before q.payloads }

-- what is kept of p is what the messages leave that its checkpoint covers
kept-after : (f : Handlers) (k : Kept) (c : Cluster) (p : ℕ) → c.world.handlers ≡ f → IsKeptOf k c p → IsAfter c.world.count f p (take (c.world.saved p) (c.world.history p)) k
kept-after f k c p same h =
    let H : List Message = take k.length (c.world.history p) in
    let IsLog : ℕ → ℕ → Type 0 = λ me d. IsRest (log_at (with_own no_queue me (map queue_of k.logs)) d) (f.sends p H d) in
    let is : IsAfter c.world.count f p H k = record {
      me = h.me;
      count = h.count;
      many = sym (take-length (c.world.history p) k.length h.many);
      state = ap (λ (g : Handlers). g.state p H) (sym same) ∙ h.state;
      logs = λ d l o. subst (λ me. IsLog me d) h.me (subst (λ (g : Handlers). IsRest (log_at (with_own no_queue k.me (map queue_of k.logs)) d) (g.sends p H d)) same (rest-of _ _ _ _ (h.logs d l o)));
    } in
    subst (λ m. IsAfter c.world.count f p (take m (c.world.history p)) k) (sym h.saved) is

-- so is what is stored
pub are-after : (f : Handlers) (process : Process) (c : Cluster) (p : ℕ) (bytes : List ℕ) → c.world.handlers ≡ f → AreStoredOf bytes process c p → AreAfter c.world.count f p (messages process c p) bytes
are-after f (Covered n) c p bytes same s =
    let all : (does c (Keeps p)).world.saved p ≡ length (c.world.history p) = at-itself p (λ b. (if b then length (c.world.history p) else c.world.saved p) ≡ length (c.world.history p)) refl in
    let whole : take ((does c (Keeps p)).world.saved p) (c.world.history p) ≡ c.world.history p = ap (λ k. take k (c.world.history p)) all ∙ take-all (c.world.history p) in
    (s.0, (s.1.0, subst (λ h. IsAfter c.world.count f p h s.0) whole (kept-after f s.0 (does c (Keeps p)) p same s.1.1.1)))
are-after f process c p bytes same s = (s.0, (s.1.0, kept-after f s.0 c p same s.1.1))

-- a node that is up stands
stands-up : (process : Process) (m : TheNode) (c : Cluster) (p : ℕ) → StandsAs process c p → IsUp m process → Stands m c p
stands-up (Up n) m c p s e = subst (λ z. Stands z c p) e s
stands-up (Covered n) m c p s e = subst (λ z. Stands z c p) e s.1
stands-up other m c p s e = absurd e

-- and has these messages, or more
pub has-more : (f : Handlers) (process : Process) (m : TheNode) (c : Cluster) (p : ℕ) → c.world.handlers ≡ f → StandsAs process c p → IsUp m process → (has : HasAfter f p (messages process c p) m) × (messages process c p ++ has.rest ≡ c.world.history p)
has-more f process m c p same s e =
    let at : Stands m c p = stands-up process m c p s e in
    let b : Begins (messages process c p) (c.world.history p) = are-first process c p in (
      record {
        rest = b.0;
        many = ap length b.1 ∙ long m.count m.base m.covered m.receipts (c.world.history p) (c.world.acknowledged p) at.received;
        state = ap (f.state p) b.1 ∙ ap (λ (g : Handlers). g.state p (c.world.history p)) (sym same) ∙ at.state;
      },
      b.1,
    )
