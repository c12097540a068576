-- What is read of a file, and what files and streams are known to hold.
use Rattle.std.specs.Prelude.{◌≡◌, ◌≢◌, ℕ, Bool, List, Option, None, Some, take}

-- the bytes of the files at their paths, where they are known
abbrev pub Content : Type 0
Content = List ℕ → Option (List ℕ)

-- all bytes, or with a limit the first so many
abbrev pub up_to : Option ℕ → List ℕ → List ℕ
up_to None bytes = bytes
up_to (Some limit) bytes = take limit bytes

-- which paths may lead to one file
abbrev pub Sameness : Type 0
Sameness = List ℕ → List ℕ → Bool

-- the bytes of the source make a file
abbrev pub MakesFile : Content → List ℕ → (List ℕ → List ℕ → Type 0) → Type 0
MakesFile content source makes = (bytes : List ℕ) → content source ≡ Some bytes → (file : List ℕ) × makes bytes file

-- the file that is made of the source is at its place, which isn't that of the source, and every other file is as it was
pub record IsWritten (source place : List ℕ) (makes : List ℕ → List ℕ → Type 0) (content content' : Content) : Type 0 where
  pub apart : source ≢ place
  pub file : (bytes before : List ℕ) → content source ≡ Some bytes → content place ≡ Some before
      → (file : List ℕ) × makes bytes file × (content' place ≡ Some file)
  pub others : (other : List ℕ) → other ≢ place → content' other ≡ content other
