-- Files in memory by their names.
use Rattle.std.specs.Prelude.{ℕ, List, ◌∷◌, Option, None, Some, cond, string_bytes}
use Rattle.std.specs.Str.{bytes_eq}
use Rattle.page_calls.specs.declared.shelf.ShelvedFile.{ShelvedFile}

-- the bytes of the first file of this name
abbrev pub content_of : List (List ℕ) → List (List ℕ) → List ℕ → Option (List ℕ)
content_of (name ∷ names) (file ∷ files) path = cond (bytes_eq name path) (Some file) (content_of names files path)
content_of names files path = None

-- the same, with the file that was written in front of them
abbrev pub content_with : Option ShelvedFile → List (List ℕ) → List (List ℕ) → List ℕ → Option (List ℕ)
content_with None names files path = content_of names files path
content_with (Some w) names files path = cond (bytes_eq (string_bytes w.name) path) (Some w.bytes.items) (content_of names files path)
