-- What the listing says in form 3 alone: of a word of the stack, and of a branch that no number takes.
use Rattle.std.specs.Prelude.{ℕ, ◌++◌, [], List, Option, Some, None, ℤ, codes, if◌then◌else◌}
use Rattle.decode.specs.declared.insn.Condition.{Condition}
use Rattle.decode.specs.declared.insn.Insn.{Insn}
use Rattle.decode.specs.declared.insn.Insn.TheVariants.{JumpIf, Load, StoreReg}
use Rattle.decode.specs.declared.insn.Width.{Width}
use Rattle.decode.specs.Encoding.{bytes_in}
use Rattle.operations.specs.Words.{bits_of}
use Rattle.regtypes.specs.declared.frame.Region.TheVariants.{Stack}
use Rattle.spans.specs.declared.kind.SpanKind.{SpanKind}
use Rattle.spans.specs.declared.kind.SpanKind.TheVariants.{Num, Place}
use Rattle.spans.specs.Access.{is_inside, whole_word}
use Rattle.spans.specs.Frame.{Frame, kind_at}
use Rattle.spans.specs.Ways.{operand_kind}
use Rattle.spans.specs.Narrowing.{SpanPair, opposite, shown}
use Rattle.listing.specs.declared.view.View.{View}
use Rattle.listing.specs.declared.view.View.TheVariants.{Flat, Spans}
use Rattle.listing.specs.Kinds.{kind_text, word_text}

-- the cell of the stack's word that an access reads or writes as a whole, through a base of this kind
abbrev pub word_at : SpanKind → ℤ → ℕ → Option ℕ
word_at (Place Stack s) o n = if is_inside 512 s o n then whole_word s o n else None
word_at k o n = None

-- a word of the stack and what is known of it
abbrev pub word_line : ℕ → ℕ → SpanKind → List ℕ
word_line state c k = codes "    " ++ word_text c ++ (codes " " ++ kind_text 512 state k ++ codes "\n")

-- the word that is read
abbrev pub read_text : ℕ → Frame → Option ℕ → List ℕ
read_text state f None = []
read_text state f (Some c) = word_line state c (f c)

-- the word in which a place is kept
abbrev pub kept_text : ℕ → Option ℕ → SpanKind → List ℕ
kept_text state (Some c) (Place r s) = word_line state c (Place r s)
kept_text state c k = []

-- the word of the stack that a load reads, or in which a store keeps a place. Forms 1 and 2 know nothing of words
abbrev pub stack_text : ℕ → View → Insn → List ℕ
stack_text state (Flat f) i = []
stack_text state (Spans c) (Load size dst src offset) =
    read_text state (kind_at c.kinds) (word_at (kind_at c.kinds src.number) offset (bytes_in size))
stack_text state (Spans c) (StoreReg size dst src offset) =
    kept_text state (word_at (kind_at c.kinds dst.number) offset (bytes_in size)) (kind_at c.kinds src.number)
stack_text state (Spans c) i = []

-- which branch of a jump no number takes, by what the verifier knows on the branch after it and on the branch that it takes
abbrev pub ways_text : Option SpanPair → Option SpanPair → List ℕ
ways_text None b = codes "    every number takes this jump\n"
ways_text (Some p) None = codes "    no number takes this jump\n"
ways_text (Some p) (Some q) = []

-- the note on a comparison of two registers or of one with a number
abbrev pub dead_by : Condition → Width → SpanKind → SpanKind → List ℕ
dead_by condition width (Num a) (Num b) =
    ways_text (shown (opposite condition) (bits_of width) a b) (shown (Some condition) (bits_of width) a b)
dead_by condition width a b = []

-- the line of a conditional jump with a way that nothing goes, if a path reaches it. Forms 1 and 2 know no numbers
abbrev pub dead_text : Option View → Insn → List ℕ
dead_text (Some (Spans c)) (JumpIf condition width dst o offset) =
    dead_by condition width (kind_at c.kinds dst.number) (operand_kind width o (kind_at c.kinds))
dead_text v i = []
