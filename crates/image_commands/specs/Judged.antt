-- What of a source is judged.
use Rattle.std.specs.Prelude.{◌≡◌, ◌≢◌, ◌<◌, ◌≤◌, ◌⊎◌, ℕ, List, [], length, slice_index_or, take}
use Rattle.image_commands.specs.declared.judged.TheConstants.{TEXT_LIMIT}

-- the last line feed of the bytes is at this place
pub record IsLastFeed (bytes : List ℕ) (place : ℕ) : Type 0 where
  pub within : place < length bytes
  pub feed : slice_index_or bytes place 0 ≡ 10
  pub last : (k : ℕ) → place < k → k < length bytes → slice_index_or bytes k 0 ≢ 10

-- the lines that end in the bytes, without the last one's line feed
abbrev pub AreWholeLines : List ℕ → List ℕ → Type 0
AreWholeLines bytes lines =
    ((end : ℕ) × (lines ≡ take end bytes) × IsLastFeed bytes end)
    ⊎ ((lines ≡ []) × ((k : ℕ) → k < length bytes → slice_index_or bytes k 0 ≢ 10))

-- all of the source; of one with more bytes than a text may have, the lines that end within these
abbrev pub IsJudged : List ℕ → List ℕ → Type 0
IsJudged source head =
    ((length source ≤ TEXT_LIMIT) × (head ≡ source)) ⊎ ((TEXT_LIMIT < length source) × AreWholeLines (take TEXT_LIMIT source) head)
