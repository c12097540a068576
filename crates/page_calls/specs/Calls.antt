-- What a call gives, and what it is answered.
use Rattle.std.specs.Prelude.{◌≡◌, ◌≢◌, ◌⊎◌, ℕ, ◌<◌, ◌≤◌, Bool, false, List, [], ◌++◌, length, drop, Option, None, Some, string_bytes}
use Rattle.std.specs.Str.{bytes_eq, IsUtf8}
use Rattle.image_commands.specs.Hints.{has_hints}
use Rattle.tracer.specs.Program.{IsDone, IsTold}
use Rattle.page_calls.specs.declared.answer.PageAnswer.{PageAnswer}
use Rattle.page_calls.specs.declared.misfit.Misfit.{Misfit}
use Rattle.page_calls.specs.declared.misfit.Misfit.TheVariants.{Shape, Memory, Room}
use Rattle.page_calls.specs.declared.page.Sizes.{Sizes}
use Rattle.page_calls.specs.declared.shelf.ShelvedFile.{ShelvedFile}
use Rattle.page_calls.specs.Parts.{parts_of, AreParts, IsMisfit}
use Rattle.page_calls.specs.Shelf.{content_with}

-- with status 0 the words ask for what was printed, nothing is told but hints, if the words ask for these, and the files are those
-- that were given, with the one that was written, if one was, in front of them; with every other status the words come to the fault
-- that is told, and no file has changed
abbrev pub IsAnswer : List (List ℕ) → List (List ℕ) → List (List ℕ) → PageAnswer → Type 0
IsAnswer words names files a =
    (a.status ≡ 0
    → IsDone words (content_with None names files) (content_with a.written names files) (Some []) (Some (string_bytes a.printed))
    × (has_hints words ≡ false → string_bytes a.told ≡ []))
    × (a.status ≢ 0 → ((failed deaf : Bool)
    × IsTold words (content_with None names files) bytes_eq failed deaf (Some []) (Some (string_bytes a.told)) a.status)
    × (content_with a.written names files ≡ content_with None names files))

-- the bytes of the file that was written, none if none was
abbrev pub written_bytes : Option ShelvedFile → List ℕ
written_bytes None = []
written_bytes (Some file) = file.bytes.items

-- what was printed, what was told and the file, one behind the other
abbrev pub whole_of : PageAnswer → List ℕ
whole_of a = string_bytes a.printed ++ string_bytes a.told ++ written_bytes a.written

-- the length of each
abbrev pub sizes_of : PageAnswer → Sizes
sizes_of a =
    record { printed = length (string_bytes a.printed); told = length (string_bytes a.told); written = length (written_bytes a.written) }

-- what a call gives: words, names and files as bytes, and the length of each
pub record Call : Type 0 where
  pub words : List ℕ
  pub word_lengths : List ℕ
  pub names : List ℕ
  pub name_lengths : List ℕ
  pub files : List ℕ
  pub file_lengths : List ℕ

-- the call that these make
abbrev pub the_call : (words word_lengths names name_lengths files file_lengths : List ℕ) → Call
the_call words word_lengths names name_lengths files file_lengths = record {
  words = words;
  word_lengths = word_lengths;
  names = names;
  name_lengths = name_lengths;
  files = files;
  file_lengths = file_lengths;
}

-- the lengths fit the bytes, words and names are texts, and each name has a file
abbrev pub IsCall : Call → Type 0
IsCall c = AreParts IsUtf8 c.words c.word_lengths × AreParts IsUtf8 c.names c.name_lengths
    × AreParts (λ _. Unit {0}) c.files c.file_lengths × (length c.name_lengths ≡ length c.file_lengths)

-- the call is answered so
abbrev pub IsAnswered : Call → PageAnswer → Type 0
IsAnswered c a = IsCall c × IsAnswer (parts_of c.words c.word_lengths) (parts_of c.names c.name_lengths) (parts_of c.files c.file_lengths) a

-- what the call gives doesn't fit, or memory ran out
abbrev pub IsNotCall : Call → Misfit → Type 0
IsNotCall c Shape = IsMisfit IsUtf8 c.words c.word_lengths ⊎ IsMisfit IsUtf8 c.names c.name_lengths
    ⊎ IsMisfit (λ _. Unit {0}) c.files c.file_lengths ⊎ (length c.name_lengths ≢ length c.file_lengths)
IsNotCall c Memory = Unit {0}
IsNotCall c Room = ⊥

-- the answer stands in front of the buffer, and the lengths are told
abbrev pub IsPut : PageAnswer → List ℕ → List ℕ → Sizes → Type 0
IsPut a old new sizes = (length (whole_of a) ≤ length old) × (new ≡ whole_of a ++ drop (length (whole_of a)) old) × (sizes ≡ sizes_of a)

-- it doesn't: the buffer is too short, and the lengths are told, or memory ran out
abbrev pub IsNotPut : PageAnswer → List ℕ → List ℕ → Sizes → Sizes → Misfit → Type 0
IsNotPut a old new was sizes Room = (length old < length (whole_of a)) × (new ≡ old) × (sizes ≡ sizes_of a)
IsNotPut a old new was sizes Memory = (new ≡ old) × (sizes ≡ was)
IsNotPut a old new was sizes Shape = ⊥

-- the code of a misfit
abbrev pub code_of : Misfit → ℕ
code_of Shape = 16
code_of Memory = 17
code_of Room = 18

-- the code is the status of a call that is answered and stands in the buffer, or says why not: the call's bytes, or the buffer
abbrev pub Answers : ℕ → Call → List ℕ → List ℕ → Sizes → Sizes → Type 0
Answers code c old new was sizes =
    ((a : PageAnswer) × IsAnswered c a × (a.status ≤ 6) × (((code ≡ a.status) × IsPut a old new sizes)
    ⊎ ((why : Misfit) × (code ≡ code_of why) × IsNotPut a old new was sizes why)))
    ⊎ ((why : Misfit) × (code ≡ code_of why) × IsNotCall c why × (new ≡ old) × (sizes ≡ was))
