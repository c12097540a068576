-- Events of others leave what a process stands for that comes back
use Rattle.std.proofs.Common.{◌≡◌, ℕ, ◌<◌, ◌≤◌, List, [], ◌∷◌, length, Bool, false, refl, sym, ap, ◌∙◌, subst, arith}
use Rattle.std.specs.Prelude.{◌==◌}
use Rattle.std.proofs.lemmas.Bool.Decides.{nat_tests}
use Rattle.world.specs.declared.message.Message.{Message}
use Rattle.world.specs.Logs.{sent_in_all}
use Rattle.world.specs.Calls.{phase_with, peers}
use Rattle.cluster.specs.Cluster.{Cluster}
use Rattle.cluster.specs.Overlap.{goes}
use Rattle.node.specs.Stands.{HasReceived, doer}
use Rattle.node.proofs.Beside.{Same, same-event}
use Rattle.recovery.specs.Own.{TheOwn}
use Rattle.recovery.specs.Stands.{HasOwn}
use Rattle.recovery.specs.Replayed.{TheReplayed, StandsReplayed}
use Rattle.recovery.proofs.Others.{own-same}
use Rattle.recovery.specs.Restoration.{TheRestoring}
use Rattle.recovery.specs.RestorationStands.{StandsRestoring}
use Rattle.recovery.specs.RestorationBeside.{ReplayedStands, RestoringStands}

module _ (c d : Cluster) (p : ℕ) (e : Same c d p) where
  own-here : (o : TheOwn) → HasOwn o c p (c.world.history p) (c.world.trims p) (c.world.numbers p) → HasOwn o d p (d.world.history p) (d.world.trims p) (d.world.numbers p)
  own-here o s =
      let P : List Message → Type 0 = λ h. HasOwn o d p h (d.world.trims p) (d.world.numbers p) in
      subst P e.history (own-same o c d p (c.world.history p) (c.world.trims p) (d.world.trims p) (c.world.numbers p) (d.world.numbers p) e e.trims e.numbers s)

  received-same : (count base : ℕ) (covered : List ℕ) (receipts : _) → HasReceived count base covered receipts (c.world.history p) (c.world.acknowledged p) → HasReceived count base covered receipts (d.world.history p) (d.world.acknowledged p)
  received-same count base covered receipts s =
      let P : List Message → Type 0 = λ h. HasReceived count base covered receipts h (d.world.acknowledged p) in
      let Q : (ℕ → Bool) → Type 0 = λ a. HasReceived count base covered receipts (c.world.history p) a in
      subst P e.history (subst Q e.acknowledged s)

  -- all that a process sent is what its handler sends
  all-of : (w : Cluster) (k : ℕ) → 0 < p → sent_in_all w.world p k ≡ length (w.world.handlers.sends p (w.world.history p) k)
  all-of w k some = let inner : (p == 0) ≡ false = grind (arith, nat_tests) in rw inner refl

  all-same : (k : ℕ) → 0 < p → c.world.released p k ≡ sent_in_all c.world p k → d.world.released p k ≡ sent_in_all d.world p k
  all-same k some was = rw (sym e.released, sym e.handlers, sym e.history) (was ∙ all-of c k some) ∙ sym (all-of d k some)

  others : peers c.world p false ≡ peers d.world p false
  others = rw e.count refl

  replayed-same : (n : TheReplayed) → StandsReplayed n c p → StandsReplayed n d p
  replayed-same n s =
      record {
        stage = sym e.stage ∙ s.stage;
        greeted = sym e.greeted ∙ s.greeted;
        phase = sym e.phase ∙ s.phase ∙ ap phase_with others;
        life = sym e.life ∙ s.life;
        own = own-here n.own s.own;
        received = received-same n.own.count n.own.base n.own.covered n.receipts s.received;
        acknowledged = λ k l. rw (sym e.acknowledged) (s.acknowledged k (rw e.history l));
        numbers = λ k i. rw (sym (e.numbers k)) (s.numbers k i);
        resumed = λ q. sym (e.resumed q) ∙ s.resumed q;
        restoring = λ q. sym (e.restoring q) ∙ s.restoring q;
        released = λ none k. all-same k s.own.inside.0 (s.released (others ∙ none) k);
      }

  restoring-same : (n : TheRestoring) → StandsRestoring n c p → StandsRestoring n d p
  restoring-same n s =
      record {
        stage = sym e.stage ∙ s.stage;
        greeted = sym e.greeted ∙ s.greeted;
        phase = sym e.phase ∙ s.phase;
        life = sym e.life ∙ s.life;
        own = own-here n.own s.own;
        received = received-same n.own.count n.own.base n.own.covered n.receipts s.received;
        acknowledged = λ k l. rw (sym e.acknowledged) (s.acknowledged k (rw e.history l));
        known = λ d l o. s.known d (subst (λ m. d ≤ m) (sym e.count) l) o;
        fresh = λ q i l open_is above. rw (sym (e.numbers q)) (s.fresh q i (subst (λ m. q ≤ m) (sym e.count) l) open_is above);
        resumed = λ q. sym (e.resumed q) ∙ s.resumed q;
        restoring = λ q l. sym (e.restoring q) ∙ s.restoring q (subst (λ m. q ≤ m) (sym e.count) l);
        released = λ none k. all-same k s.own.inside.0 (s.released none k);
      }

pub replayed-stands : ReplayedStands
replayed-stands n p q [] c other by s = s
replayed-stands n p q (e ∷ es) c other by s =
    let apart : (p == doer e) ≡ false = (let f : doer e ≡ q = by.0 in grind (arith, nat_tests)) in
    replayed-stands n p q es (goes c e) other by.1 (replayed-same c (goes c e) p (same-event c e p apart) n s)

pub restoring-stands : RestoringStands
restoring-stands n p q [] c other by s = s
restoring-stands n p q (e ∷ es) c other by s =
    let apart : (p == doer e) ≡ false = (let f : doer e ≡ q = by.0 in grind (arith, nat_tests)) in
    restoring-stands n p q es (goes c e) other by.1 (restoring-same c (goes c e) p (same-event c e p apart) n s)
