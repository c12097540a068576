use Rattle.std.proofs.Common.{subst, map}
use Rattle.interp.specs.Image.{image_in}
use Rattle.theorems.specs.Orphans.{NoOrphan, ShownBegin}
use Rattle.sessions.proofs.HandlerLemmas.{no-orphan-of, output-once-of}
use Rattle.sessions.specs.Journal.{TheSession, IsExact, world_at}
use Rattle.sessions.proofs.service.Service.shown.Goals as goal

pub returns-clause-no_orphan : goal.returns-clause-no_orphan
returns-clause-no_orphan c =
    subst (λ (s : TheSession). IsExact s → NoOrphan (world_at s)) c.self.view_is (no-orphan-of (map image_in c.self.inside.images.items) c.self.inside.journal.entries c.self.invariant.0.legal)

pub returns-clause-output_once : goal.returns-clause-output_once
returns-clause-output_once c =
    subst (λ (s : TheSession). IsExact s → ShownBegin (world_at s)) c.self.view_is (output-once-of (map image_in c.self.inside.images.items) c.self.inside.journal.entries c.self.invariant.0.legal)
