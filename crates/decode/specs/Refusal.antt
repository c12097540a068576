-- Which bytes are refused, and the rule and the slot that are named (docs/FORMATS.md).
use Rattle.std.specs.Prelude.{◌≡◌, ◌≢◌, ◌<◌, ◌≤◌, ◌⊎◌, ℕ, ◌%◌, ◌++◌, length, List, [], ◌∷◌, Option, None, Some, slice_get, MatchOption}
use Rattle.std.specs.List.{AllByRecursion, flat_map}
use Rattle.decode.specs.declared.insn.Insn.{Insn}
use Rattle.decode.specs.declared.insn.ByteOrder.{ByteOrder}
use Rattle.decode.specs.declared.insn.SwapBits.{SwapBits}
use Rattle.decode.specs.declared.word.Word.{Word}
use Rattle.decode.specs.declared.fault.EncodingRule.{EncodingRule}
use Rattle.decode.specs.declared.fault.EncodingRule.TheVariants.{Length, Opcode, Register, Profile, Cut, Width, Field}
use Rattle.decode.specs.declared.fault.DecodeError.{DecodeError}
use Rattle.decode.specs.declared.fault.DecodeError.TheVariants.{Memory, Fault}
use Rattle.decode.specs.Layout.{IsWord, word_bytes}
use Rattle.decode.specs.Encoding.{first_word, second_word, encoding, Fits, order_opcode, swap_imm}
use Rattle.decode.specs.First.{IsFirst}
use Rattle.decode.specs.Slots.{slots}

-- the rules by number
abbrev pub rule_number : EncodingRule → ℕ
rule_number Length = 1
rule_number Opcode = 2
rule_number Field = 3
rule_number Register = 4
rule_number Cut = 5
rule_number Width = 6
rule_number Profile = 7

-- the instruction's slots are this one and, if it has two, the next
abbrev pub Begins : Insn → Word → Option Word → Type 0
Begins i w next = (first_word i ≡ w) × MatchOption (second_word i) (Unit {0}) (λ s. next ≡ Some s)

-- what each rule refuses in a slot w that the slot `next` follows: an opcode that no instruction has; a register above
-- 10; a call or a wide value of a kind that the profile leaves out; a wide instruction in the last slot; a byte swap of
-- another width; a slot that begins no instruction (RFC 9669 sections 3.2, 4.2, 4.3.1 and 5.4)
abbrev pub Breaks : EncodingRule → Word → Option Word → Type 0
Breaks Length w next = ⊥
Breaks Opcode w next = (i : Insn) → (first_word i).opcode ≢ w.opcode
Breaks Register w next = (10 < w.dst) ⊎ (10 < w.src)
Breaks Profile w next = (0 < w.src) × (((w.opcode ≡ 0x85) × (w.src ≤ 2)) ⊎ ((w.opcode ≡ 0x18) × (w.src ≤ 6)))
Breaks Cut w next = (w.opcode ≡ 0x18) × (next ≡ None)
Breaks Width w next = ((o : ByteOrder) × (w.opcode ≡ order_opcode o)) × ((bits : SwapBits) → w.imm ≢ swap_imm bits)
Breaks Field w next = (i : Insn) → Fits i → Begins i w next → ⊥

-- the order in which the rules are judged within a slot
abbrev pub order : List EncodingRule
order = Opcode ∷ Register ∷ Profile ∷ Cut ∷ Width ∷ Field ∷ []

-- the bytes before the slot are whole instructions, and this is the first rule that the slot breaks
pub record IsBrokenAt (bytes : List ℕ) (r : EncodingRule) (slot : ℕ) : Type 0 where
  pub before : List Insn
  pub fits : AllByRecursion Fits before
  pub slot_is : slot ≡ slots before
  pub word : Word
  pub rest : List Word
  pub sizes : AllByRecursion IsWord (word ∷ rest)
  pub whole : bytes ≡ encoding before ++ flat_map word_bytes (word ∷ rest)
  pub broken : IsFirst (λ q. Breaks q word (slice_get rest 0)) order r

-- the rule and the slot that are named: the length comes first, then the first slot with a fault
abbrev pub IsFault : List ℕ → EncodingRule → ℕ → Type 0
IsFault bytes r slot =
    ((r ≡ Length) × (slot ≡ 0) × (length bytes % 8 ≢ 0)) ⊎ ((length bytes % 8 ≡ 0) × IsBrokenAt bytes r slot)

-- the error that bytes get, if memory does not run out
abbrev pub IsRefusal : List ℕ → DecodeError → Type 0
IsRefusal bytes Memory = Unit {0}
IsRefusal bytes (Fault rule slot) = IsFault bytes rule slot
