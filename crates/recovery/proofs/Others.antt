-- Events of others leave what a process stands for that comes back
use Rattle.std.proofs.Common.{◌≡◌, ℕ, ◌+◌, ◌<◌, ◌≤◌, Bool, List, [], ◌∷◌, take, drop, false, refl, sym, ap, ◌∙◌, subst, arith}
use Rattle.std.specs.Prelude.{Option, None, ◌==◌}
use Rattle.std.proofs.lemmas.Bool.Decides.{nat_tests}
use Rattle.world.specs.declared.message.Message.{Message}
use Rattle.world.specs.Logs.{sent_in_all}
use Rattle.world.specs.Calls.{peers}
use Rattle.cluster.specs.Cluster.{Cluster}
use Rattle.cluster.specs.Overlap.{goes}
use Rattle.node.specs.Stands.{HasReceived, doer}
use Rattle.node.proofs.Beside.{Same, same-event}
use Rattle.recovery.specs.Own.{TheOwn}
use Rattle.recovery.specs.Collection.{TheCollecting}
use Rattle.recovery.specs.Replays.{TheReplaying, receipts_of}
use Rattle.recovery.specs.Stands.{HasOwn, StandsCollecting}
use Rattle.recovery.specs.StandsAtReplay.{StandsReplaying, phase_of}
use Rattle.recovery.specs.Beside.{OthersStand, ReplayingStands}
use Rattle.recovery.proofs.Posts.{outs-still}

-- where the cluster has the same of it, what it has of its own is what the cluster has
pub own-same : (o : TheOwn) (c d : Cluster) (p : ℕ) (h : List Message) (t u : ℕ → ℕ) (f g : ℕ → ℕ → Option ℕ) → Same c d p → ((k : ℕ) → t k ≡ u k) → ((k : ℕ) → f k ≡ g k) → HasOwn o c p h t f → HasOwn o d p h u g
own-same o c d p h t u f g e a b s =
    record {
      me = s.me;
      count = s.count ∙ e.count;
      inside = (s.inside.0, subst (λ k. p ≤ k) e.count s.inside.1);
      saved = sym e.saved ∙ s.saved;
      many = s.many;
      state = rw (sym e.handlers) s.state;
      covered = λ q l. s.covered q (subst (λ m. q ≤ m) (sym e.count) l);
      logs = λ k l o. rw (sym e.handlers, sym (a k), sym (b k)) (s.logs k (subst (λ m. k ≤ m) (sym e.count) l) o);
      held = λ k l o. rw (sym e.handlers) (s.held k (subst (λ m. k ≤ m) (sym e.count) l) o);
      grown = λ k. rw (sym e.handlers) (s.grown k);
      heard = λ q l. rw (sym (e.heard q)) (s.heard q (subst (λ m. q ≤ m) (sym e.count) l));
      durable = λ z. s.durable (ap (λ (f : ℕ → Bool). f p) e.durable ∙ z);
      exact = sym e.exact ∙ s.exact;
      lost = λ q l. sym (e.lost q) ∙ s.lost q (subst (λ m. q ≤ m) (sym e.count) l);
      sure = λ z q l. s.sure z q (subst (λ m. q ≤ m) (sym e.count) l);
      greets = s.greets;
      out = outs-still c d p o.out e.count e.parcels e.said s.out;
    }

-- so it stands
stands-same : (n : TheCollecting) (c d : Cluster) (p : ℕ) → Same c d p → StandsCollecting n c p → StandsCollecting n d p
stands-same n c d p e s =
    record {
      stage = sym e.stage ∙ s.stage;
      life = sym e.stored ∙ s.life;
      own = (let P : List Message → Type 0 = λ h. HasOwn n.own d p (take n.own.base h) (d.world.saved_trims p) (λ _ _. None) in
          subst P e.history (own-same n.own c d p (take n.own.base (c.world.history p)) (c.world.saved_trims p) (d.world.saved_trims p) (λ _ _. None) (λ _ _. None) e e.saved_trims (λ k. refl) s.own));
      alone = sym (e.told p) ∙ s.alone;
      told = λ q l. rw (sym (e.told q)) (s.told q (subst (λ m. q ≤ m) (sym e.count) l));
    }

-- it stands after the events of another
pub others-stand : OthersStand
others-stand n p q [] c other by s = s
others-stand n p q (e ∷ es) c other by s =
    let apart : (p == doer e) ≡ false = (let f : doer e ≡ q = by.0 in grind (arith, nat_tests)) in
    others-stand n p q es (goes c e) other by.1 (stands-same n c (goes c e) p (same-event c e p apart) s)

-- one that replays does so where the cluster has the same of it
replaying-same : (n : TheReplaying) (c d : Cluster) (p : ℕ) → Same c d p → StandsReplaying n c p → StandsReplaying n d p
replaying-same n c d p e s =
    record {
      stage = sym e.stage ∙ s.stage;
      greeted = sym e.greeted ∙ s.greeted;
      phase = sym e.phase ∙ s.phase ∙ ap (phase_of n) others;
      life = sym e.life ∙ s.life;
      own = (let P : List Message → Type 0 = λ h. HasOwn n.own d p (take (n.own.base + n.done) h) (d.world.trims p) (d.world.numbers p) in
          subst P e.history (own-same n.own c d p (take (n.own.base + n.done) (c.world.history p)) (c.world.trims p) (d.world.trims p) (c.world.numbers p) (d.world.numbers p) e e.trims e.numbers s.own));
      behind = ap (drop n.own.base) (sym e.history) ∙ s.behind;
      received = (let P : List Message → Type 0 = λ h. HasReceived n.own.count n.own.base n.own.covered (receipts_of n.plan) h (d.world.acknowledged p) in
          let Q : (ℕ → Bool) → Type 0 = λ a. HasReceived n.own.count n.own.base n.own.covered (receipts_of n.plan) (c.world.history p) a in
          subst P e.history (subst Q e.acknowledged s.received));
      acknowledged = λ k l. rw (sym e.acknowledged) (s.acknowledged k (rw e.history l));
      numbers = λ k i. rw (sym (e.numbers k)) (s.numbers k i);
      resumed = λ q. sym (e.resumed q) ∙ s.resumed q;
      restoring = λ q. sym (e.restoring q) ∙ s.restoring q;
      shut = λ f k. rw (sym e.released) (s.shut f k);
      released = λ f g k. rw (sym e.released) (s.released f (others ∙ g) k ∙ all-sent k);
    }
  where
    others : peers c.world p false ≡ peers d.world p false
    others = rw e.count refl

    all-sent : (k : ℕ) → sent_in_all c.world p k ≡ sent_in_all d.world p k
    all-sent k =
        let inside : (p == 0) ≡ false = (let l : 0 < p = s.own.inside.0 in grind (arith, nat_tests)) in
        rw (inside, e.handlers, e.history) refl

pub replaying-stands : ReplayingStands
replaying-stands n p q [] c other by s = s
replaying-stands n p q (e ∷ es) c other by s =
    let apart : (p == doer e) ≡ false = (let f : doer e ≡ q = by.0 in grind (arith, nat_tests)) in
    replaying-stands n p q es (goes c e) other by.1 (replaying-same n c (goes c e) p (same-event c e p apart) s)
