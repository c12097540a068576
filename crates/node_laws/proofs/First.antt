-- What is kept of a new node is what the opening's checkpoint covers
use Rattle.std.proofs.Common.{◌≡◌, ℕ, List, length, Bool, refl}
use Rattle.std.specs.Prelude.{if◌then◌else◌}
use Rattle.theorems.proofs.Changes.{at-itself}
use Rattle.world.specs.Handlers.{Handlers}
use Rattle.cluster.specs.Cluster.{Cluster, Live, Frozen, durable_opening}
use Rattle.cluster.specs.Rules.{Freezes, Keeps, does}
use Rattle.node.specs.declared.limit.Limits.{Limits}
use Rattle.node.specs.Node.{TheNode, new_node}
use Rattle.node.specs.Stands.{Stands}
use Rattle.node.specs.Kept.{kept_of, resting, Covers, IsKeptOf}
use Rattle.node.proofs.Preservation.{kept-still}

module _ (limits : Limits) (me count : ℕ) (state : List ℕ) (f : Handlers) (durable : ℕ → Bool) where
  abbrev n : TheNode
  n = new_node limits me count state

  abbrev c : Cluster
  c = durable_opening count f durable

  abbrev waits : Cluster
  waits = does c (Freezes me)

  -- it could have waited for it
  rests : Stands n c me → Stands (resting n) waits me
  rests s =
      record {
        me = refl;
        count = refl;
        inside = s.inside;
        stage = at-itself me (λ b. (if b then Frozen else Live) ≡ Frozen) refl;
        greeted = refl;
        phase = refl;
        works = tt;
        life = refl;
        state = s.state;
        saved = refl;
        durable = s.durable;
        exact = s.exact;
        received = s.received;
        waits = s.waits;
        logs = s.logs;
        gates = s.gates;
        free = s.free;
        heard = s.heard;
        resumed = s.resumed;
        out = tt;
      }

  pub kept-first : Covers (kept_of n) n → Stands n c me → IsKeptOf (kept_of n) c me
  kept-first covers s =
      kept-still (kept_of n) (does waits (Keeps me)) c me
      (record {
        count = refl;
        handlers = refl;
        saved = at-itself me (λ b. (if b then length (c.world.history me) else c.world.saved me) ≡ 0) refl;
        saved_trims = λ r. at-itself me (λ b. (if b then c.world.trims me else c.world.saved_trims me) r ≡ 0) refl;
        history = λ l. (refl, l);
      })
      (covers waits (rests s)).1
