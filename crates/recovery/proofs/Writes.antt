-- What a node writes comes back
use Rattle.std.proofs.Common.{◌≡◌, ◌≢◌, ℕ, ◌<◌, [], ◌∷◌, refl, ◌∙◌, subst}
use Rattle.std.specs.Prelude.{true, if◌then◌else◌}
use Rattle.theorems.proofs.Changes.{at-itself}
use Rattle.cluster.specs.Cluster.{Cluster, Frozen, Dead}
use Rattle.cluster.specs.Rules.{Keeps, Dies, May, IsNode, does, after_run}
use Rattle.node.specs.declared.limit.Limits.{Limits}
use Rattle.node.specs.Node.{TheNode, Within}
use Rattle.node.specs.Stands.{Stands}
use Rattle.node.specs.Kept.{kept_of, IsKeptOf}
use Rattle.node.proofs.Preservation.{kept-covers, kept-stays, resting-stands}
use Rattle.recovery.specs.Collection.{revived}
use Rattle.recovery.specs.Stands.{StandsCollecting, Reopens}
use Rattle.recovery.specs.Kept.{WrittenRevives, KeptRevives}
use Rattle.recovery.proofs.Revival.{goes-revived}

-- it isn't one that is dead
not-dead : (c : Cluster) (p : ℕ) → c.stage p ≡ Frozen → c.stage p ≢ Dead
not-dead c p e f = absurd (cc)

module _ (n : TheNode) (limits : Limits) (life : ℕ) (c : Cluster) (is_durable : c.durable n.me ≡ true → limits.durable ≡ true) (w : Within n) (s : Stands n c n.me) (wait : n.frozen ≡ true) (early : c.stored n.me < life) where
  abbrev durable : Cluster
  durable = does c (Keeps n.me)

  abbrev dead : Cluster
  dead = does durable (Dies n.me)

  covers : May c (Keeps n.me) × IsKeptOf (kept_of n) durable n.me
  covers = kept-covers n w c (resting-stands n c wait s)

  may-die : May durable (Dies n.me)
  may-die = (s.inside, not-dead c n.me (s.stage ∙ rw wait refl))

  is-dead : dead.stage n.me ≡ Dead
  is-dead = at-itself n.me (λ b. (if b then Dead else c.stage n.me) ≡ Dead) refl

  still-kept : IsKeptOf (kept_of n) dead n.me
  still-kept = kept-stays (kept_of n) n.me (Dies n.me ∷ []) durable ((λ e. absurd (cc)), tt) covers.1

  pub goes-written : May c (Keeps n.me) × May durable (Dies n.me) × Reopens n.me life (λ d. StandsCollecting (revived limits (kept_of n) life) d n.me) dead
  goes-written = (covers.0, may-die, goes-revived limits (kept_of n) life dead is_durable is-dead early still-kept s.inside)

pub written-revives : WrittenRevives
written-revives n limits life c is_durable w s wait early = goes-written n limits life c is_durable w s wait early

pub kept-revives : KeptRevives
kept-revives k limits life p acts c s is_durable others inside dead early =
    let still = kept-stays k p acts c others s in
    let me : k.me ≡ p = s.me in
    let P : ℕ → Type 0 = λ q. ((after_run c acts).durable q ≡ true → limits.durable ≡ true) → (after_run c acts).stage q ≡ Dead → (after_run c acts).stored q < life → IsKeptOf k (after_run c acts) q → IsNode (after_run c acts) q → Reopens q life (λ d. StandsCollecting (revived limits k life) d q) (after_run c acts) in
    subst P me (goes-revived limits k life (after_run c acts)) is_durable dead early still inside
