-- What each call makes of a process, where failures come one at a time
use Rattle.std.proofs.Common.{◌≡◌, inl, inr, ℕ, List, ◌∷◌, true, refl, sym, ap, ◌∙◌, subst}
use Rattle.std.specs.Prelude.{Option, Some, None, ◌⊎◌}
use Rattle.packets.specs.declared.packet.NodePacket.{NodePacket}
use Rattle.node.specs.declared.job.OpenJob.{OpenJob}
use Rattle.node.specs.declared.job.Given.{Given}
use Rattle.node.specs.declared.limit.Limits.{Limits}
use Rattle.node.specs.Node.{TheNode}
use Rattle.node.specs.Transmission.{ticked}
use Rattle.node.specs.Checkpoints.{froze}
use Rattle.node.specs.Suspension.{woken}
use Rattle.node.specs.Answering.{Answer, Answering}
use Rattle.recovery.specs.Own.{TheOwn}
use Rattle.recovery.specs.Collection.{TheCollecting}
use Rattle.recovery.specs.Replays.{TheReplaying, next_job, did_replay}
use Rattle.recovery.specs.Replayed.{TheReplayed}
use Rattle.recovery.specs.Restoration.{TheRestoring, begins}
use Rattle.node_laws.specs.Inside.Process.{Process, Up, Covered, Collects, Replays, Replayed, Restores, Killed, Gives, Hears, Works, Acts, WaitsFor, covered, IsTold, Wakes}
use Rattle.node_laws.proofs.Sound.{IsSound, AreSound}
use Rattle.node_laws.proofs.NodeSound as nodes
use Rattle.node_laws.proofs.OwnSound.{IsAlone, HasHeard}
use Rattle.node_laws.proofs.OwnSound as owns
use Rattle.node_laws.proofs.CollectingSound as collecting
use Rattle.node_laws.proofs.RestoringSound as restoring
use Rattle.node_laws.proofs.Lone.{Returns, IsOf, Good, Goes}

-- no page that it is to take in tells of more than was sent
abbrev pub Fits : NodePacket → Process → Type 0
Fits x (Restores n) = restoring.Fits x n
Fits x process = Unit {0}

module _ (lives : ℕ → ℕ) (back : ℕ → Type 0) (top p : ℕ) where
  abbrev On : Process → Process → Type 0
  On = Goes lives back top p

  abbrev IsGood : Process → Type 0
  IsGood = Good lives back top p

  -- where it comes back, it alone does
  abbrev pub IsOnly : Process → Type 0
  IsOnly process = Returns process → back p × ((q : ℕ) → back q → q ≡ p)

  becomes : (old mid new : Process) → new ≡ mid → On old mid → On old new
  becomes old mid new e g = subst (On old) (sym e) g

  -- ---- by stages

  up-goes : (n m : TheNode) → nodes.Keeps lives back n m → IsGood (Up n) → On (Up n) (Up m)
  up-goes n m k h = record { good = record { exact = k.exact ∙ h.exact; life = k.life ∙ h.life; knows = tt; out = k.out h.out }; up = λ e. e; returns = λ r. r }

  covered-goes : (n m : TheNode) → nodes.Keeps lives back n m → IsGood (Covered n) → On (Covered n) (Covered m)
  covered-goes n m k h = record { good = record { exact = k.exact ∙ h.exact; life = k.life ∙ h.life; knows = tt; out = k.out h.out }; up = λ e. e; returns = λ r. r }

  collects-goes : (n m : TheCollecting) → collecting.Goes lives back top n m → IsGood (Collects n) → On (Collects n) (Collects m)
  collects-goes n m k h = record { good = record { exact = k.own.exact h.exact; life = k.own.life ∙ h.life; knows = k.hears h.knows; out = k.own.out h.out }; up = λ e. refl; returns = λ r. tt }

  replays-goes : (n m : TheReplaying) → owns.Keeps lives back n.own m.own → HasHeard lives top m.own → IsGood (Replays n) → On (Replays n) (Replays m)
  replays-goes n m k known h = record { good = record { exact = k.exact h.exact; life = k.life ∙ h.life; knows = known; out = k.out h.out }; up = λ e. refl; returns = λ r. tt }

  restores-goes : (n m : TheRestoring) → restoring.Goes lives back top n m → IsGood (Restores n) → On (Restores n) (Restores m)
  restores-goes n m k h = record { good = record { exact = k.own.exact h.exact; life = k.own.life ∙ h.life; knows = k.hears h.knows; out = k.own.out h.out }; up = λ e. refl; returns = λ r. tt }

  -- what it has of its own is of one that comes back alone
  alone : (o : TheOwn) → (o.me ≡ p) × (o.count ≡ top) → o.life ≡ lives p → back p × ((q : ℕ) → back q → q ≡ p) → IsAlone lives back top o
  alone o is life only = record { count = is.1; life = life ∙ ap lives (sym is.0); here = subst back (sym is.0) only.0; only = λ q b. only.1 q b ∙ sym is.0 }

  -- ---- a packet is taken

  pub giving : (x : NodePacket) (old new : Process) → Gives x old new → IsGood old → IsSound lives back x × On old new
  giving x (Up n) new g h =
      let k : IsGood (Up (record g.0 { out = x ∷ g.0.out })) = subst (λ z. IsGood (Up z)) g.1.1.0 h in
      (k.out.0, becomes (Up n) (Up g.0) new g.1.0 (record { good = record { exact = k.exact; life = k.life; knows = tt; out = k.out.1 }; up = λ f. f; returns = λ r. r }))
  giving x (Covered n) new g h =
      let k : IsGood (Covered (record g.0 { out = x ∷ g.0.out })) = subst (λ z. IsGood (Covered z)) g.1.1.0 h in
      (k.out.0, becomes (Covered n) (Covered g.0) new g.1.0 (record { good = record { exact = k.exact; life = k.life; knows = tt; out = k.out.1 }; up = λ f. f; returns = λ r. r }))
  giving x (Collects n) new g h =
      let k : IsGood (Collects (record g.0 { own = record g.0.own { out = x ∷ g.0.own.out } })) = subst (λ z. IsGood (Collects z)) g.1.1.0 h in
      (k.out.0, becomes (Collects n) (Collects g.0) new g.1.0 (record { good = record { exact = k.exact; life = k.life; knows = record { wide = k.knows.wide; all = k.knows.all }; out = k.out.1 }; up = λ f. refl; returns = λ r. tt }))
  giving x (Replays n) new g h =
      let k : IsGood (Replays (record g.0 { own = record g.0.own { out = x ∷ g.0.own.out } })) = subst (λ z. IsGood (Replays z)) g.1.1.0 h in
      (k.out.0, becomes (Replays n) (Replays g.0) new g.1.0 (record { good = record { exact = k.exact; life = k.life; knows = record { wide = k.knows.wide; all = k.knows.all }; out = k.out.1 }; up = λ f. refl; returns = λ r. tt }))
  giving x (Replayed n) new g h =
      let out : AreSound lives back (x ∷ g.0.own.out) = subst (AreSound lives back) g.1.1.0 h.out in
      let mid : TheReplayed = record n { own = record n.own { out = g.0.own.out } } in
      (out.0, becomes (Replayed n) (Replayed mid) new (g.1.0 ∙ ap Replayed g.1.1.1) (record { good = record { exact = h.exact; life = h.life; knows = record { wide = h.knows.wide; all = h.knows.all }; out = out.1 }; up = λ f. refl; returns = λ r. tt }))
  giving x (Restores n) new g h =
      let k : IsGood (Restores (record g.0 { own = record g.0.own { out = x ∷ g.0.own.out } })) = subst (λ z. IsGood (Restores z)) g.1.1.0 h in
      (k.out.0, becomes (Restores n) (Restores g.0) new g.1.0 (record { good = record { exact = k.exact; life = k.life; knows = record { wide = k.knows.wide; all = k.knows.all }; out = k.out.1 }; up = λ f. refl; returns = λ r. tt }))
  giving x Killed new g h = absurd g

  -- ---- a packet comes

  pub hearing : (x : NodePacket) (old new : Process) → Hears x old new → IsSound lives back x → Fits x old → IsOf p top old → IsOnly old → IsGood old → On old new
  hearing x (Up n) new g s fits is only h = becomes (Up n) (Up _) new (g.1.0 ∙ ap Up g.1.1.0) (up-goes n _ (nodes.hands lives back n x n h.exact (h.life ∙ ap lives (sym is)) s (nodes.self lives back n)) h)
  hearing x (Covered n) new g s fits is only h = becomes (Covered n) (Covered _) new (g.1.0 ∙ ap Covered g.1.1) (covered-goes n _ (nodes.hands lives back n x n h.exact (h.life ∙ ap lives (sym is)) s (nodes.self lives back n)) h)
  hearing x (Collects n) new g s fits is only h = becomes (Collects n) (Collects _) new (g.1.0 ∙ ap Collects g.1.1.0) (collects-goes n _ (collecting.hands lives back top x n (alone n.own is h.life (only tt)) s) h)
  hearing x (Replays n) new g s fits is only h =
      let k = owns.hands lives back top x n.own (alone n.own is h.life (only tt)) h.knows s in
      becomes (Replays n) (Replays _) new (g.1.0 ∙ ap Replays g.1.1.0) (replays-goes n _ k.0 k.1 h)
  hearing x (Replayed n) new g s fits is only h =
      let k = owns.hands lives back top x n.own (alone n.own is h.life (only tt)) h.knows s in
      becomes (Replayed n) (Replayed _) new (g.1.0 ∙ ap Replayed g.1.1.0) (record { good = record { exact = k.0.exact h.exact; life = k.0.life ∙ h.life; knows = k.1; out = k.0.out h.out }; up = λ e. refl; returns = λ r. tt })
  hearing x (Restores n) new g s fits is only h = becomes (Restores n) (Restores _) new (g.1.0 ∙ ap Restores g.1.1.0) (restores-goes n _ (restoring.hands lives back top x n h.knows (alone n.own is h.life (only tt)) fits s) h)
  hearing x Killed new g s fits is only h = absurd g

  -- ---- its handler answered

  replaying : (state : List ℕ) (given : List Given) (j : Option OpenJob) (n : TheReplaying) → HasHeard lives top n.own → owns.Keeps lives back n.own (did_replay state given j n).own × HasHeard lives top (did_replay state given j n).own
  replaying state given None n known = (owns.stays lives back n.own, known)
  replaying state given (Some j) n known = (record { me = refl; count = refl; life = refl; exact = λ e. e; out = λ o. o }, record { wide = known.wide; all = known.all })

  pub working : (f : Answering) (a : Answer) (old new : Process) → Works f p a old new → IsGood old → On old new
  working f a (Up n) new g h = becomes (Up n) (Up _) new (g.1.1.0 ∙ ap Up g.1.1.1.0) (up-goes n _ (nodes.works lives back n a.state a.given n.working n (nodes.self lives back n)) h)
  working f a (Covered n) new g h = becomes (Covered n) (Covered _) new (g.1.0 ∙ ap Covered g.1.1) (covered-goes n _ (nodes.works lives back n a.state a.given n.working n (nodes.self lives back n)) h)
  working f a (Replays n) new g h =
      let m : TheReplaying = did_replay a.state a.given (next_job n) n in
      let k = replaying a.state a.given (next_job n) n h.knows in
      becomes (Replays n) (Replays m) new (g.1.1.0 ∙ ap Replays g.1.1.1.0) (replays-goes n m k.0 k.1 h)
  working f a other new g h = absurd g

  -- ---- it acts, or goes on to its next stage

  node-acts : (n m : TheNode) → (m ≡ ticked n) ⊎ (m ≡ froze n) → nodes.Keeps lives back n m
  node-acts n m (inl e) = subst (nodes.Keeps lives back n) (sym e) (nodes.ticks lives back n n (nodes.self lives back n))
  node-acts n m (inr e) = subst (nodes.Keeps lives back n) (sym e) (nodes.freezes lives back n n (nodes.self lives back n))

  recovers : (n : TheCollecting) (r : TheReplaying) → r.own ≡ n.own → HasHeard lives top n.own → IsGood (Collects n) → On (Collects n) (Replays r)
  recovers n r e known h =
      let P : TheOwn → Type 0 = λ o. (o.exact ≡ true) × ((o.life ≡ lives p) × (HasHeard lives top o × AreSound lives back o.out)) in
      let k : P r.own = subst P (sym e) (h.exact, (h.life, (known, h.out))) in
      record { good = record { exact = k.0; life = k.1.0; knows = k.1.1.0; out = k.1.1.1 }; up = λ f. refl; returns = λ r. tt }

  pub acting : (old new : Process) → Acts old new → IsOf p top old → IsOnly old → IsGood old → On old new
  acting (Up n) new g is only h = becomes (Up n) (Up g.0) new g.1.0 (up-goes n g.0 (node-acts n g.0 g.1.1.0) h)
  acting (Covered n) new g is only h = becomes (Covered n) (Covered g.0) new g.1.0 (covered-goes n g.0 (node-acts n g.0 g.1.1) h)
  acting (Collects n) new (inl g) is only h = becomes (Collects n) (Collects _) new (g.1.0 ∙ ap Collects g.1.1.0) (collects-goes n _ (collecting.asks-all lives back top n (alone n.own is h.life (only tt))) h)
  acting (Collects n) new (inr g) is only h = becomes (Collects n) (Replays g.0) new g.1.0 (recovers n g.0 g.1.1.is.own (collecting.heard-all lives top n is.1 g.1.1.all h.knows) h)
  acting (Replays n) new g is only h =
      becomes (Replays n) (Replayed _) new (g.1.0 ∙ ap Replayed g.1.1.0) (record { good = record { exact = h.exact; life = h.life; knows = h.knows; out = h.out }; up = λ e. refl; returns = λ r. tt })
  acting (Replayed n) new g is only h =
      let k = restoring.asks-all lives back top (begins n) (alone n.own is h.life (only tt)) in
      becomes (Replayed n) (Restores _) new (g.1.0 ∙ ap Restores g.1.1.0)
      (record { good = record { exact = k.own.exact h.exact; life = k.own.life ∙ h.life; knows = k.hears h.knows; out = k.own.out h.out }; up = λ e. refl; returns = λ r. tt })
  acting (Restores n) new (inl g) is only h = becomes (Restores n) (Restores _) new (g.1.0 ∙ ap Restores g.1.1.0) (restores-goes n _ (restoring.asks-all lives back top n (alone n.own is h.life (only tt))) h)
  acting (Restores n) new (inr g) is only h =
      becomes (Restores n) (Up _) new (g.1.0 ∙ ap Up g.1.1.0) (record { good = record { exact = h.exact; life = h.life; knows = tt; out = tt }; up = λ e. refl; returns = λ r. absurd r })
  acting Killed new g is only h = absurd g

  -- ---- its checkpoint is durable, and it is told so

  pub storing : (bytes : List ℕ) (old : Process) → WaitsFor bytes old → IsGood old → On old (covered old)
  storing bytes (Up n) g h = record { good = record { exact = h.exact; life = h.life; knows = tt; out = h.out }; up = λ e. e; returns = λ r. r }
  storing bytes (Covered n) g h = record { good = h; up = λ e. e; returns = λ r. r }
  storing bytes other g h = absurd g

  pub telling : (old new : Process) → IsTold old new → IsGood old → On old new
  telling (Up n) new g h = becomes (Up n) (Up n) new (g.1.1.0 ∙ ap Up (g.1.1.1.0 g.0)) (record { good = h; up = λ e. e; returns = λ r. r })
  telling (Covered n) new g h =
      let k = nodes.saves lives back n n (nodes.self lives back n) in
      becomes (Covered n) (Up _) new (g.1.0 ∙ ap Up g.1.1.0) (record { good = record { exact = k.exact ∙ h.exact; life = k.life ∙ h.life; knows = tt; out = k.out h.out }; up = λ e. e; returns = λ r. r })
  telling other new g h = absurd g

  -- it was suspended, and is resumed
  pub waking : (limits : Limits) (old new : Process) → Wakes limits old new → IsGood old → On old new
  waking limits (Up n) new g h =
      let to : Process = Up (woken limits n) in
      becomes (Up n) to new (g.1.1.0 ∙ ap Up g.1.1.1) (record { good = record { exact = h.exact; life = h.life; knows = tt; out = tt }; up = λ e. e; returns = λ r. r })
  waking limits other new g h = absurd g
