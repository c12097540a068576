-- Sessions that are opened from image files
use Rattle.std.specs.Prelude.{◌≡◌, ◌≢◌, ◌⊎◌, ℕ, ◌<◌, ◌≤◌, List, [], ◌∷◌, length, take, drop, Option, Some, None}
use Rattle.limits.specs.declared.TheConstants.{PROCESSES}
use Rattle.verifier.specs.AnyFile.{IsFile, IsRefusal, IsTypable}
use Rattle.verifier.specs.declared.fault.ImageError.{ImageError}
use Rattle.verifier.specs.declared.fault.ImageError.TheVariants as error
use Rattle.interp.specs.Image.{TheImage}
use Rattle.world.specs.declared.refusal.Refusal.TheVariants.{NoSuchProcess, Memory}
use Rattle.sessions.specs.Journal.{TheSession}
use Rattle.c_sessions.specs.declared.fault.SessionFault.{SessionFault}
use Rattle.c_sessions.specs.declared.fault.SessionFault.TheVariants.{Session, Handle, File}

-- the file is that of this image, of any form, whose code is typable
abbrev pub IsImageIn : List ℕ → TheImage → Type 0
IsImageIn file image = IsFile image.form image.code image.len file × IsTypable image.form image.code image.len

-- the file is no image file of any form, because of its header, its code or the rules
abbrev pub IsRefused : List ℕ → Type 0
IsRefused file = (e : ImageError) × (e ≢ error.Memory) × IsRefusal file e

-- these are the images of files that come one after the other, each as long as its length says
abbrev pub AreFiles : List ℕ → List ℕ → List TheImage → Type 0
AreFiles files [] [] = files ≡ []
AreFiles files (n ∷ ns) (image ∷ images) = (n ≤ length files) × IsImageIn (take n files) image × AreFiles (drop n files) ns images
AreFiles files ns images = ⊥

-- the files don't fit: a length is greater than what is left, bytes are left over, or a file is no image file
abbrev pub IsMisfit : List ℕ → List ℕ → Type 0
IsMisfit files [] = files ≢ []
IsMisfit files (n ∷ ns) = (length files < n) ⊎ IsRefused (take n files) ⊎ IsMisfit (drop n files) ns

-- a closed handle is now open, with a session of the files' images, an empty journal and no seats
abbrev pub IsOpened : List ℕ → List ℕ → Option TheSession → Option TheSession → Type 0
IsOpened files lengths old new = (images : List TheImage) × AreFiles files lengths images × (old ≡ None)
    × (new ≡ Some (record { images = images; entries = []; seats = [] }))

-- there are files for 1 to 15 processes
abbrev pub AreCounted : List ℕ → Type 0
AreCounted lengths = (1 ≤ length lengths) × (length lengths ≤ PROCESSES)

-- why a handle wasn't opened, and is as it was: it was open, there are no files or too many, the files don't fit, or memory ran
-- out. The first of these is told
abbrev pub IsUnopened : List ℕ → List ℕ → Option TheSession → Option TheSession → SessionFault → Type 0
IsUnopened files lengths old new Handle = (old ≢ None) × (new ≡ old)
IsUnopened files lengths old new (Session NoSuchProcess) = (old ≡ None) × (¬ AreCounted lengths) × (new ≡ old)
IsUnopened files lengths old new (Session Memory) = (old ≡ None) × AreCounted lengths × (new ≡ old)
IsUnopened files lengths old new File = (old ≡ None) × AreCounted lengths × IsMisfit files lengths × (new ≡ old)
IsUnopened files lengths old new other = ⊥
