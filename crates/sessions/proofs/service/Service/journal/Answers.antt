use Rattle.std.proofs.Common.{length, arith, subst, map}
use Rattle.interp.specs.Image.{image_in}
use Rattle.sessions.specs.Fold.{handlers_of}
use Rattle.theorems.specs.Kept.{HasKept}
use Rattle.theorems.specs.Orphans.{NoOrphan, ShownBegin}
use Rattle.sessions.proofs.HandlerLemmas.{handlers-grow, no-orphan-of, output-once-of}
use Rattle.theorems.proofs.KeptLemmas.{has-kept}
use Rattle.sessions.specs.Journal.{TheSession, IsExact, world_at}
use Rattle.sessions.proofs.service.Service.journal.Goals as goal

pub returns-clause-bound : goal.returns-clause-bound
returns-clause-bound c = rw (← c.self.view_is) (omega (arith, c.self.invariant.0.room))

pub returns-clause-kept : goal.returns-clause-kept
returns-clause-kept c =
    let images = map image_in c.self.inside.images.items in
    let es = c.self.inside.journal.entries in
    let P : TheSession → Type 0 = λ s. HasKept (world_at s) in
    subst P c.self.view_is (has-kept (length images) (handlers_of images) es (handlers-grow images) c.self.invariant.0.legal)

pub returns-clause-no_orphan : goal.returns-clause-no_orphan
returns-clause-no_orphan c =
    subst (λ (s : TheSession). IsExact s → NoOrphan (world_at s)) c.self.view_is (no-orphan-of (map image_in c.self.inside.images.items) c.self.inside.journal.entries c.self.invariant.0.legal)

pub returns-clause-output_once : goal.returns-clause-output_once
returns-clause-output_once c =
    subst (λ (s : TheSession). IsExact s → ShownBegin (world_at s)) c.self.view_is (output-once-of (map image_in c.self.inside.images.items) c.self.inside.journal.entries c.self.invariant.0.legal)
