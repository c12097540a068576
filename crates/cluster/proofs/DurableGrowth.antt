-- No event takes back what checkpoints cover, and so what that sends
use Rattle.std.proofs.Common.{◌≡◌, ℕ, ◌≤◌, List, [], ◌∷◌, ◌++◌, length, take, Bool, true, false, refl, sym, ap, subst, append_assoc}
use Rattle.std.specs.Prelude.{◌==◌, if◌then◌else◌}
use Rattle.world.specs.declared.message.Message.{Message}
use Rattle.world.specs.Handlers.{Handlers}
use Rattle.theorems.specs.Growth.{Begins, Grows}
use Rattle.theorems.proofs.ListLemmas.{begins-trans}
use Rattle.cluster.specs.Cluster.{Cluster}
use Rattle.cluster.proofs.Settings.{does-handlers, does-durable}
use Rattle.cluster.proofs.Growth.{Continues, still, same-begins, does-continue}
use Rattle.cluster.specs.Rules.{Arrives}
use Rattle.cluster.specs.Overlap.{Event, Acts, Doubts, cut, goes, kept_sends}
use Rattle.cluster.proofs.Firsts.{append_nil}

-- an act takes back no input, and nothing that was shown or that a checkpoint covers; nor does an event
pub goes-continue : (c : Cluster) (e : Event) → ((p : ℕ) → c.world.saved p ≤ length (c.world.history p)) → Continues c (goes c e)
goes-continue c (Acts exact a) within = does-continue c a within
goes-continue c (Doubts q p x) within = does-continue c (Arrives q p (cut c p q x)) within
goes-continue c other within = still c

pub goes-handlers : (c : Cluster) (e : Event) → (goes c e).world.handlers ≡ c.world.handlers
goes-handlers c (Acts exact a) = does-handlers c a
goes-handlers c (Doubts q p x) = does-handlers c (Arrives q p (cut c p q x))
goes-handlers c other = refl

-- nor does it change which nodes are durable
pub goes-durable : (c : Cluster) (e : Event) → (goes c e).durable ≡ c.durable
goes-durable c (Acts exact a) = does-durable c a
goes-durable c (Doubts q p x) = does-durable c (Arrives q p (cut c p q x))
goes-durable c other = refl

-- more messages send no less
sends-more : (f : Handlers) → Grows f → (p d : ℕ) (g rest : List Message) → Begins (f.sends p g d) (f.sends p (g ++ rest) d)
sends-more f grows p d g [] = same-begins _ _ (ap (λ h. f.sends p h d) (sym (append_nil g)))
sends-more f grows p d g (m ∷ rest) =
    let P : List Message → Type 0 = λ h. Begins (f.sends p g d) (f.sends p h d) in
    subst P (append_assoc g (m ∷ []) rest) (begins-trans _ _ _ (grows p g m d) (sends-more f grows p d (g ++ m ∷ []) rest))

-- so what that sends is still sent, with more behind it at most
pub sends-continue : (c v : Cluster) → Grows c.world.handlers → v.world.handlers ≡ c.world.handlers → Continues c v → (p d : ℕ) → Begins (kept_sends c p d) (kept_sends v p d)
sends-continue c v grows same k p d =
    let P : Handlers → Type 0 = λ f. Begins (kept_sends c p d) (if p == 0 then v.world.inputs d else f.sends p (take (v.world.saved p) (v.world.history p)) d) in
    subst P (sym same) (split (p == 0))
  where
    split : (b : Bool) → Begins (if b then c.world.inputs d else c.world.handlers.sends p (take (c.world.saved p) (c.world.history p)) d) (if b then v.world.inputs d else c.world.handlers.sends p (take (v.world.saved p) (v.world.history p)) d)
    split true = k.inputs d
    split false =
        let m : Begins (take (c.world.saved p) (c.world.history p)) (take (v.world.saved p) (v.world.history p)) = k.messages p in
        let Q : List Message → Type 0 = λ h. Begins (c.world.handlers.sends p (take (c.world.saved p) (c.world.history p)) d) (c.world.handlers.sends p h d) in
        subst Q m.1 (sends-more c.world.handlers grows p d (take (c.world.saved p) (c.world.history p)) m.0)

-- and no event takes back what is sent so
pub goes-sends : (c : Cluster) (e : Event) → Grows c.world.handlers → ((p : ℕ) → c.world.saved p ≤ length (c.world.history p)) → (p d : ℕ) → Begins (kept_sends c p d) (kept_sends (goes c e) p d)
goes-sends c e grows within = sends-continue c (goes c e) grows (goes-handlers c e) (goes-continue c e within)
