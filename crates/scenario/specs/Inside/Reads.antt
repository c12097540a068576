-- The results of reading a part of a line.
use Rattle.std.specs.Prelude.{◌≡◌, ◌≢◌, ◌≤◌, ◌<◌, ◌^◌, ◌==◌, ◌&&◌, Bool, false, not, nat_lt, ℕ, List, [], ◌∷◌, ◌++◌, decimal, length}
use Rattle.std.specs.Prelude.{Option, Some, None}
use Rattle.std.specs.Char.{digit_char, is_ascii_digit}
use Rattle.std.specs.List.{list_all}
use Rattle.std.specs.Borrow.{Bor}
use Rattle.scenario.specs.declared.order.Order.{Order}
use Rattle.scenario.specs.declared.verb.Verb.{Verb}
use Rattle.scenario.specs.declared.verb.Verb.TheVariants as verb
use Rattle.scenario.specs.Hex.{IsPayload, hex_text}
use Rattle.scenario.specs.Order.{IsProcess, process_text, party_text, verb_text, verb_of, operands_text, order_text, IsInRange}

-- the value that the text spells, or there is none
abbrev pub Reads : {V : Type 0} → (V → List ℕ) → (V → Type 0) → List ℕ → Option V → Type 0
Reads print Fits text (Some v) = (text ≡ print v) × Fits v
Reads {V = V} print Fits text None = (v : V) → Fits v → text ≢ print v

-- the list lacks this byte
abbrev pub Lacks : ℕ → List ℕ → Type 0
Lacks byte [] = Unit {0}
Lacks byte (c ∷ cs) = (c ≢ byte) × Lacks byte cs

-- the parts before and after the first such byte
abbrev pub IsCut : ℕ → List ℕ → Option (Bor (List ℕ) × Bor (List ℕ)) → Type 0
IsCut byte text (Some x) = (text ≡ x.0.now ++ byte ∷ x.1.now) × Lacks byte x.0.now
IsCut byte text None = Lacks byte text

module _ {A B : Type 0} where
  -- two values with a space between them
  abbrev pub spaced : (A → List ℕ) → (B → List ℕ) → A × B → List ℕ
  spaced f g v = f v.0 ++ 32 ∷ g v.1

  -- the first of a pair has the one property, the second the other
  abbrev pub Both : (A → Type 0) → (B → Type 0) → A × B → Type 0
  Both F G v = F v.0 × G v.1

-- numbers of k bits
abbrev pub HasBits : ℕ → ℕ → Type 0
HasBits k n = n < 2 ^ k

-- the outside, or one of n processes
abbrev pub IsParty : ℕ → ℕ → Type 0
IsParty n p = p ≤ n

-- the process and the word that a text spells
abbrev pub ReadsWord : List (List ℕ) → List ℕ → Option (ℕ × ℕ) → Type 0
ReadsWord names text result = Reads (spaced (process_text names) decimal) (Both (IsProcess (length names)) (HasBits 64)) text result

-- a process and bytes
abbrev pub ReadsBytes : List (List ℕ) → List ℕ → Option (ℕ × List ℕ) → Type 0
ReadsBytes names text result = Reads (spaced (process_text names) hex_text) (Both (IsProcess (length names)) IsPayload) text result

-- two processes
abbrev pub ReadsPeers : List (List ℕ) → List ℕ → Option (ℕ × ℕ) → Type 0
ReadsPeers names text result =
    Reads (spaced (process_text names) (process_text names)) (Both (IsProcess (length names)) (IsProcess (length names))) text result

-- a receiver and an SSN
abbrev pub ReadsReceiver : List (List ℕ) → List ℕ → Option (ℕ × ℕ) → Type 0
ReadsReceiver names text result = Reads (spaced (party_text names) decimal) (Both (IsParty (length names)) (HasBits 32)) text result

-- a sender, a receiver and an SSN
abbrev pub ReadsMessage : List (List ℕ) → List ℕ → Option (ℕ × (ℕ × ℕ)) → Type 0
ReadsMessage names text result =
    Reads (spaced (party_text names) (spaced (party_text names) decimal))
    (Both (IsParty (length names)) (Both (IsParty (length names)) (HasBits 32))) text result

-- no operands of this kind spell the text
abbrev pub NoOperands : List (List ℕ) → Verb → List ℕ → Type 0
NoOperands names verb.Input text = ReadsWord names text None
NoOperands names verb.Bytes text = ReadsBytes names text None
NoOperands names verb.Transmit text = ReadsMessage names text None
NoOperands names verb.Trim text = Reads (party_text names) (IsParty (length names)) text None
NoOperands names verb.Resync text = ReadsPeers names text None
NoOperands names verb.Copy text = Reads decimal (HasBits 32) text None
NoOperands names verb.Lose text = Reads decimal (HasBits 32) text None
NoOperands names verb.Arrive text = Reads decimal (HasBits 32) text None
NoOperands names verb.Drive text = Reads decimal (HasBits 32) text None
NoOperands names verb.Finish text = Reads (process_text names) (IsProcess (length names)) text None
NoOperands names verb.Checkpoint text = Reads (process_text names) (IsProcess (length names)) text None
NoOperands names verb.Crash text = Reads (process_text names) (IsProcess (length names)) text None
NoOperands names verb.Recover text = Reads (process_text names) (IsProcess (length names)) text None
NoOperands names verb.Alone text = Reads (process_text names) (IsProcess (length names)) text None
NoOperands names verb.Replay text = Reads (process_text names) (IsProcess (length names)) text None

-- the order of this kind whose operands the text spells
abbrev pub ReadsOperands : List (List ℕ) → Verb → List ℕ → Option Order → Type 0
ReadsOperands names v text (Some o) = (verb_of o ≡ v) × (text ≡ operands_text names o) × IsInRange (length names) o
ReadsOperands names v text None = NoOperands names v text

-- the kind of orders with this word
abbrev pub ReadsVerb : List ℕ → Option Verb → Type 0
ReadsVerb text (Some v) = text ≡ verb_text v
ReadsVerb text None = (v : Verb) → text ≢ verb_text v

-- whether there is a 0 with more after it
abbrev pub has_leading_zero : List ℕ → Bool
has_leading_zero [] = false
has_leading_zero (c ∷ cs) = nat_lt 0 (length cs) && (c == 48)

-- whether the text is `0`, or digits without a leading zero
abbrev pub is_numeral : List ℕ → Bool
is_numeral text = nat_lt 0 (length text) && (not (has_leading_zero text) && list_all is_ascii_digit text)

-- the order of a line
abbrev pub ReadsOrder : List (List ℕ) → List ℕ → Option Order → Type 0
ReadsOrder names line result = Reads (order_text names) (IsInRange (length names)) line result

-- the value of a lower-case hexadecimal digit
abbrev pub ReadsDigit : ℕ → Option ℕ → Type 0
ReadsDigit c (Some d) = (c ≡ digit_char d) × (d < 16)
ReadsDigit c None = (d : ℕ) → d < 16 → c ≢ digit_char d
