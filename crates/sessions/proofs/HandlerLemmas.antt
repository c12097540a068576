-- What handlers of images send
use Rattle.std.proofs.Common.{◌≡◌, ℕ, List, [], ◌∷◌, ◌++◌, length, Bool, true, false, refl, sym, subst}
use Rattle.std.specs.Prelude.{Option, Some, None, if◌then◌else◌, ◌==◌}
use Rattle.world.specs.History.{nth}
use Rattle.replay.specs.Emission.{payloads_to, emitted_to}
use Rattle.sessions.specs.Fold.{TheImage, Handled, Folded, joined, folded, handlers_of}
use Rattle.world.specs.declared.entry.Entry.{Entry}
use Rattle.world.specs.World.{opening}
use Rattle.world.specs.Legal.{Legal, all_single, world_of}
use Rattle.sessions.proofs.FoldLemmas.{folded-push, emitted_to-joined}
use Rattle.theorems.specs.Growth.{Begins, Grows, Starts}
use Rattle.theorems.specs.Orphans.{NoOrphan, ShownBegin}
use Rattle.theorems.specs.Single.{IsSingle}
use Rattle.theorems.proofs.ListLemmas.{begins-self}
use Rattle.theorems.proofs.OrphanLemmas.{no-orphan, output-once}

-- one handler call more
joined-grows : (f : Folded) (o : Option Handled) (d : ℕ) → Begins (emitted_to d f.effects) (emitted_to d (joined f o).effects)
joined-grows f None d = begins-self _
joined-grows f (Some h) d = (emitted_to d h.effects, sym (emitted_to-joined d f h))

pub handlers-grow : (images : List TheImage) → Grows (handlers_of images)
handlers-grow images p h m d = split (nth images p)
  where
    n : ℕ
    n = length images

    split : (o : Option TheImage) → Begins (emitted_to d (folded n p o h).effects) (emitted_to d (folded n p o (h ++ m ∷ [])).effects)
    split None = begins-self _
    split (Some image) =
        let P : Folded → Type 0 = λ f. Begins (emitted_to d (folded n p (Some image) h).effects) (emitted_to d f.effects) in
        subst P (sym (folded-push n p image h m)) (joined-grows (folded n p (Some image) h) _ d)

pub handlers-start : (images : List TheImage) → Starts (handlers_of images)
handlers-start images p d = split (nth images p)
  where
    none : (b : Bool) → (if b then [] else payloads_to d []) ≡ []
    none true = refl
    none false = refl

    split : (o : Option TheImage) → emitted_to d (folded (length images) p o []).effects ≡ []
    split None = none (d == 0)
    split (Some image) = none (d == 0)

-- a legal journal of images, in which failures come one at a time
pub single-of : (images : List TheImage) (es : List Entry) → Legal (length images) (handlers_of images) es → all_single (opening (length images) (handlers_of images)) es ≡ true → IsSingle (length images) (handlers_of images) es
single-of images es legal single = record { grows = handlers-grow images; legal = legal; single = single }

-- at its end no process is an orphan
pub no-orphan-of : (images : List TheImage) (es : List Entry) → Legal (length images) (handlers_of images) es → all_single (opening (length images) (handlers_of images)) es ≡ true → NoOrphan (world_of (length images) (handlers_of images) es)
no-orphan-of images es legal single = no-orphan (length images) (handlers_of images) es (single-of images es legal single)

-- and no output was shown twice
pub output-once-of : (images : List TheImage) (es : List Entry) → Legal (length images) (handlers_of images) es → all_single (opening (length images) (handlers_of images)) es ≡ true → ShownBegin (world_of (length images) (handlers_of images) es)
output-once-of images es legal single = output-once (length images) (handlers_of images) es (single-of images es legal single)
