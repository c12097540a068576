-- Hints for people, which a command line asks for by a word before its command (docs/FORMATS.md, "Hints").
use Rattle.std.specs.Prelude.{◌≡◌, ◌⊎◌, ℕ, Bool, true, false, cond, List, [], ◌∷◌, Option, codes}
use Rattle.std.specs.Io.KnownBytes.{Appends}
use Rattle.std.specs.Str.{bytes_eq}

-- the word that asks for them
abbrev pub is_hints : List ℕ → Bool
is_hints word = bytes_eq word (codes "--hints")

-- whether the words begin with it
abbrev pub has_hints : List (List ℕ) → Bool
has_hints [] = false
has_hints (word ∷ words) = is_hints word

-- the words of the command
abbrev pub command_in : List (List ℕ) → List (List ℕ)
command_in [] = []
command_in (word ∷ words) = cond (is_hints word) words (word ∷ words)

-- of an order that was carried out nothing is said; or hints stand behind what a stream held, unless it has failed
abbrev pub AreHints : {S : Type 0} → (S → Option (List ℕ)) → (S → Bool) → Bool → S → S → Type 0
AreHints contents failed false s s' = s' ≡ s
AreHints contents failed true s s' = ((hints : List ℕ) × Appends (contents s) (contents s') hints) ⊎ (failed s' ≡ true)
