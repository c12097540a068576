-- What is known of a register or of a word of the stack, as text.
use Rattle.std.specs.Prelude.{ℕ, suc, ◌-◌, ◌*◌, ◌^◌, ◌==◌, ◌&&◌, ◌++◌, int_le, Bool, List, [], ℤ, pos, negsuc, codes, decimal}
use Rattle.std.specs.Prelude.{if◌then◌else◌}
use Rattle.std.specs.Fmt.{signed_decimal}
use Rattle.decode.specs.declared.insn.Reg.{Reg}
use Rattle.regtypes.specs.declared.frame.Region.{Region}
use Rattle.regtypes.specs.declared.frame.Region.TheVariants.{Message, State, Stack}
use Rattle.regtypes.specs.Rules.{region_len}
use Rattle.spans.specs.declared.kind.SpanKind.{SpanKind}
use Rattle.spans.specs.declared.kind.SpanKind.TheVariants.{Unset, Num, Place}
use Rattle.spans.specs.declared.span.Span.{Span}
use Rattle.listing.specs.declared.view.View.{View}
use Rattle.listing.specs.View.{is_length, known, low_of}

-- the word of a region
abbrev pub region_text : Region → List ℕ
region_text Message = codes "message"
region_text State = codes "state"
region_text Stack = codes "stack"

-- a number with its sign before it
abbrev pub signed_text : ℤ → List ℕ
signed_text (pos n) = codes "+" ++ decimal n
signed_text (negsuc n) = codes "-" ++ decimal (suc n)

-- one number, or the first and last of several
abbrev pub range_text : Span → List ℕ
range_text s = if s.lo == s.hi then decimal s.lo else decimal s.lo ++ codes " to " ++ decimal s.hi

-- whether a span has all numbers of 64 bits
abbrev pub is_whole : Span → Bool
is_whole s = s.lo == 0 && s.hi == 2 ^ 64 - 1

-- a space and the numbers of a span; nothing if it has all of them
abbrev pub span_text : Span → List ℕ
span_text s = if is_whole s then [] else codes " " ++ range_text s

-- one distance from a region's first byte, or the first and last of several
abbrev pub distances_text : ℤ → ℤ → List ℕ
distances_text lo hi = if int_le hi lo then signed_text lo else signed_text lo ++ (codes " to " ++ signed_decimal hi)

-- places of a region of this size
abbrev pub places_text : ℕ → Region → ℤ → ℤ → List ℕ
places_text size r lo hi = region_text r ++ distances_text lo hi ++ (codes " of " ++ decimal size)

-- what is known of a register or word: nothing, a number, or a place. The message has low bytes, the state has state bytes
abbrev pub kind_text : ℕ → ℕ → SpanKind → List ℕ
kind_text low state Unset = codes "unset"
kind_text low state (Num s) = codes "number" ++ span_text s
kind_text low state (Place r s) = places_text (region_len low state r) r s.lo s.hi

-- what is known of a register. Forms 1 and 2 tell the length of the message from other numbers
abbrev pub register_kind : ℕ → View → ℕ → List ℕ
register_kind state v r = if is_length v r then codes "length of the message" else kind_text (low_of v) state (known v r)

-- a register by its number
abbrev pub reg_text : Reg → List ℕ
reg_text r = codes "r" ++ decimal r.number

-- a word of the stack by its cell: how many bytes before the end of the stack it begins
abbrev pub word_text : ℕ → List ℕ
word_text c = codes "stack-" ++ decimal (600 - 8 * c)
