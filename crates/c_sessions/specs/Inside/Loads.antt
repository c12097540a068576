-- What loading guarantees
use Rattle.std.specs.Prelude.{◌≡◌, ℕ, List, [], ◌∷◌, ◌++◌}
use Rattle.interp.specs.Image.{TheImage}
use Rattle.world.specs.declared.refusal.Refusal.TheVariants.{Memory}
use Rattle.c_sessions.specs.declared.fault.SessionFault.{SessionFault}
use Rattle.c_sessions.specs.declared.fault.SessionFault.TheVariants.{Session, File}
use Rattle.sessions.specs.Journal.{TheSession}
use Rattle.c_sessions.specs.Lifetime.{AreFiles, IsImageIn}

-- why files aren't read: they don't fit in this way, or memory ran out
abbrev pub IsUnread : Type 0 → SessionFault → Type 0
IsUnread misfit File = misfit
IsUnread misfit (Session Memory) = Unit {0}
IsUnread misfit other = ⊥

-- the image of the file, after those that were there
abbrev pub IsOneMore : List ℕ → List TheImage → List TheImage → Type 0
IsOneMore file old new = (image : TheImage) × (new ≡ old ++ image ∷ []) × IsImageIn file image

-- the images of the files, after those that were there
abbrev pub AreMore : List ℕ → List ℕ → List TheImage → List TheImage → Type 0
AreMore files lengths old new = (images : List TheImage) × (new ≡ old ++ images) × AreFiles files lengths images

-- a session of these images, with an empty journal and no seats
abbrev pub opened : List TheImage → TheSession
opened images = record { images = images; entries = []; seats = [] }

-- the session is one of the files' images
abbrev pub AreOpened : List ℕ → List ℕ → TheSession → Type 0
AreOpened files lengths s = (images : List TheImage) × (s ≡ opened images) × AreFiles files lengths images
