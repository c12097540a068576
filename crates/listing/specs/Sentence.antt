-- A cause as a sentence, and what to do about it.
use Rattle.std.specs.Prelude.{ℕ, ℤ, pos, ◌+ℤ◌, ◌++◌, ◌+◌, ◌-◌, ◌^◌, ◌==◌, int_le, List, [], codes, decimal, if◌then◌else◌}
use Rattle.std.specs.Fmt.{signed_decimal}
use Rattle.regtypes.specs.declared.frame.Region.{Region}
use Rattle.regtypes.specs.declared.frame.Region.TheVariants.{State}
use Rattle.regtypes.specs.declared.rule.Rule.{Rule}
use Rattle.regtypes.specs.declared.rule.Rule.TheVariants.{V1, V2, V3, V4, V5, V6, V7, V8, V9, V10}
use Rattle.spans.specs.declared.span.Span.{Span}
use Rattle.listing.specs.declared.cause.RefusalCause.{RefusalCause}
use Rattle.listing.specs.declared.cause.RefusalCause.TheVariants.{Nothing, Jump, NothingFollows, FramePointer, NoAnswer, OfRegister, OfWord}
use Rattle.listing.specs.declared.cause.RefusalCause.TheVariants.{SumOfPlaces, Outside, MovedBy, ShiftedBy, NoHelper, NoCount}
use Rattle.listing.specs.declared.cause.RefusalCause.TheVariants.{NoPayload, NoSized}
use Rattle.listing.specs.declared.cause.RegisterFault.{RegisterFault}
use Rattle.listing.specs.declared.cause.RegisterFault.TheVariants as register
use Rattle.listing.specs.declared.cause.WordFault.{WordFault}
use Rattle.listing.specs.declared.cause.WordFault.TheVariants as word
use Rattle.listing.specs.declared.view.View.{View}
use Rattle.listing.specs.declared.view.View.TheVariants.{Flat, Spans}
use Rattle.listing.specs.Kinds.{places_text, range_text, reg_text, word_text}

-- what is wrong with a register
abbrev pub register_words : RegisterFault → List ℕ
register_words register.Unset = codes " is read and isn't set"
register_words register.PlaceAsNumber = codes " is read as a number and holds a place"
register_words register.NumberAsBase = codes " is the base of a load or store and holds a number"
register_words register.PlaceStored = codes " holds a place, which only a whole word of the stack can keep"
register_words register.Message = codes " is a place of the message, which is for reading"

-- what is wrong with a word of the stack
abbrev pub word_words : WordFault → List ℕ
word_words word.Unset = codes " is read and isn't set"
word_words word.NoNumber = codes " is to be a number"
word_words (word.Read n) = codes " holds a place, of which " ++ decimal n ++ codes " bytes are read"
word_words (word.Written n) = codes " holds a place, of which " ++ decimal n ++ codes " bytes are written"

-- what breaks a rule at a slot, in code of this many slots and of this form
abbrev pub cause_text : ℕ → ℕ → ℕ → RefusalCause → List ℕ
cause_text form slots s Nothing = []
cause_text form slots s (Jump d) = codes "the jump leads to slot " ++ signed_decimal (pos (s + 1) +ℤ d)
    ++ (codes " of " ++ decimal slots ++ codes ", and has to lead to a later one at which an instruction begins")
cause_text form slots s NothingFollows = codes "nothing follows this instruction"
cause_text form slots s FramePointer = codes "r10 is written, and is for reading"
cause_text form slots s NoAnswer = codes "r0 is to be a number at the end"
cause_text form slots s (OfRegister r fault) = reg_text r ++ register_words fault
cause_text form slots s (OfWord c fault) = codes "the word at " ++ word_text c ++ word_words fault
cause_text form slots s (SumOfPlaces r q) = reg_text r ++ (codes " and " ++ reg_text q ++ codes " are added, and both hold places")
cause_text form slots s (Outside n r lo hi size) =
    codes "not all of the " ++ decimal n ++ (codes " bytes at " ++ places_text size r lo hi ++ codes " lie there")
cause_text form slots s (MovedBy r t) =
    reg_text r ++ (codes " is moved by " ++ range_text t ++ codes ", out of the places from -32768 to 32767")
cause_text form slots s (ShiftedBy r z) =
    reg_text r ++ (codes " is moved by " ++ signed_decimal z ++ codes ", out of the places from -32768 to 32767")
cause_text form slots s (NoHelper z) = codes "form " ++ decimal form ++ (codes " has no helper " ++ signed_decimal z)
cause_text form slots s (NoCount r) = codes "r" ++ decimal r ++ codes " is to be a number"
cause_text form slots s (NoPayload r n) =
    codes "r" ++ decimal r ++ (codes " is to be a place, with " ++ decimal n ++ codes " bytes from there on in its region")
cause_text form slots s (NoSized r n) =
    codes "r" ++ decimal r ++ (codes " is to be a place with 256 bytes from there on in its region, and r" ++ decimal n
    ++ codes " a number; or they the message and its length")

-- what to do about a register
abbrev pub register_advice : RegisterFault → List ℕ
register_advice register.Unset = codes "set it on each way that leads here, alike: a function that gives a pointer or NULL gives an index "
    ++ codes "in its place, and one more for none; what a helper must not lose belongs in r6 to r9"
register_advice register.PlaceAsNumber = codes "compare and compute with indices in place of pointers"
register_advice register.NumberAsBase = codes "load and store at an index of the message, the state or a local array: a pointer that was "
    ++ codes "kept in the state comes back as a number"
register_advice register.PlaceStored = codes "keep an index in its place; a pointer is kept by a local variable alone"
register_advice register.Message =
    codes "copy it to a local array, and change the copy; where the state is meant, the message is the first argument, the state the second"

-- what to do about a word of the stack
abbrev pub word_advice : WordFault → List ℕ
word_advice word.Unset = codes "set the local variable on each way that leads here, alike: a pointer on all, or a number on all"
word_advice word.NoNumber = codes "send or output a local array of numbers, each of which is set on each way that leads here"
word_advice other = codes "compare the index of the local array with a number, or mask it, so that no pointer lies within its reach"

-- what to do about an index
abbrev pub index_advice : List ℕ
index_advice = codes "compare the index with a number (if (i >= N) return 1;), or mask it (i & (N - 1), N a power of two), on each way "
    ++ codes "that leads here, before it is added; % bounds nothing where its divisor may be 0, or where clang makes div, mul and sub of "
    ++ codes "it; where the C does so already, within(index, most); right above the access does so anew"

-- what to do about an access outside a region, if no index moves its place
abbrev pub region_advice : List ℕ
region_advice = codes "stay inside the region: the message has 512 bytes with the zeros behind it, the local variables have 512, the state "
    ++ codes "has as many as --state says"

-- what to do about an access that reaches out of its region, at distances from lo to hi
abbrev pub outside_advice : Region → ℤ → ℤ → List ℕ
outside_advice State lo hi =
    if int_le hi lo then codes "stay inside the state, which has as many bytes as --state says, or pack it with a greater one"
    else index_advice ++ codes "; or --state is too small"
outside_advice r lo hi = if int_le hi lo then region_advice else index_advice

-- what to do about an index that moves a place too far
abbrev pub moved_advice : Span → List ℕ
moved_advice t = if t.hi == 2 ^ 64 - 1 then
    index_advice ++ codes "; one of a signed type, as int, may be negative: make it a u64, and compare that" else index_advice

-- what to do about a cause in form 3
abbrev pub cause_advice : RefusalCause → List ℕ
cause_advice Nothing = codes "read the listing from here upward"
cause_advice (Jump d) = codes "jump forward, to where an instruction begins: write unrolled above a loop of known length, and turn() first "
    ++ codes "in it where clang leaves it as one"
cause_advice NothingFollows = codes "end each way with exit"
cause_advice FramePointer = codes "copy it by mov, and change the copy"
cause_advice NoAnswer = codes "return a number on each way"
cause_advice (OfRegister r fault) = register_advice fault
cause_advice (OfWord c fault) = word_advice fault
cause_advice (SumOfPlaces r q) = codes "compare and compute with indices in place of pointers"
cause_advice (Outside n r lo hi size) = outside_advice r lo hi
cause_advice (MovedBy r t) = moved_advice t
cause_advice (ShiftedBy r z) = region_advice
cause_advice (NoHelper z) = codes "call helper 1 to 6"
cause_advice (NoCount r) = codes "give the helper a number, set on each way that leads here"
cause_advice other = codes "compare the length with a number that fits before the call, or give a fixed one, and begin where so many bytes "
    ++ codes "are left; where the C compares it already, within(length, most); right above the call does so anew; or --state is too small"

-- what to do about a broken rule in forms 1 and 2
abbrev pub rule_advice : Rule → List ℕ
rule_advice V1 = codes "jump forward, to where an instruction begins; unroll a loop"
rule_advice V2 = codes "end each way with exit"
rule_advice V3 = codes "set it on each way that leads here, alike; what a helper must not lose belongs in r6 to r9; r3 is the length in "
    ++ codes "forms 2 and 3 alone, and a handler in C wants --form 3"
rule_advice V4 = codes "copy it by mov, and change the copy"
rule_advice V5 = codes "compute with numbers alone; load and store through places, and move them by add and sub of a constant; a handler "
    ++ codes "in C wants --form 3"
rule_advice V6 = codes "stay inside the region (the state has as many bytes as --state says, the message 64 in form 1); in form 2 compare "
    ++ codes "the length before the message is read; a handler in C wants --form 3"
rule_advice V7 = codes "write to the state or the stack; in C the message is the first argument, the state the second"
rule_advice V8 = codes "call helper 1, 2, 3 or 4, or in forms 2 and 3 also 5 or 6"
rule_advice V9 = codes "set the arguments right before the call, and let the bytes lie inside one region"
rule_advice V10 = codes "put a number in r0 before exit, as by mov r0, 0"

-- what to do: in forms 1 and 2 about the rule, in form 3 about the cause
abbrev pub advice : View → Rule → RefusalCause → List ℕ
advice (Flat f) rule cause = rule_advice rule
advice (Spans c) rule cause = cause_advice cause
