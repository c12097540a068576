-- What one line of a scenario asks for, and how it is written (docs/FORMATS.md, "Scenario").
use Rattle.std.specs.Prelude.{◌≡◌, ◌≢◌, ◌≤◌, ◌<◌, ◌-◌, ◌^◌, ◌&&◌, ◌||◌, ℕ, zero, suc, Bool, true, false, nat_le, List, [], ◌∷◌, ◌++◌}
use Rattle.std.specs.Prelude.{codes, decimal, length, get_or}
use Rattle.std.specs.List.{list_all}
use Rattle.scenario.specs.declared.order.Order.{Order}
use Rattle.scenario.specs.declared.order.Order.TheVariants as order
use Rattle.scenario.specs.declared.order.Allowed.{Allowed}
use Rattle.scenario.specs.declared.order.Allowed.TheVariants.{All, Inputs}
use Rattle.scenario.specs.declared.verb.Verb.{Verb}
use Rattle.scenario.specs.declared.verb.Verb.TheVariants as verb
use Rattle.scenario.specs.Hex.{IsPayload, hex_text}
use Rattle.scenario.specs.declared.process.TheConstants.{NAME_LIMIT}

-- ---- names

-- `a` to `z`
abbrev pub is_letter : ℕ → Bool
is_letter c = nat_le 97 c && nat_le c 122

-- `a` to `z` or `0` to `9`
abbrev pub is_name_byte : ℕ → Bool
is_name_byte c = is_letter c || (nat_le 48 c && nat_le c 57)

-- whether the first byte is a letter
abbrev pub begins_with_letter : List ℕ → Bool
begins_with_letter [] = false
begins_with_letter (c ∷ cs) = is_letter c

-- a name: 1 to 16 letters and digits, the first a letter. `outside` is no name
pub record IsName (text : List ℕ) : Type 0 where
  pub begins : begins_with_letter text ≡ true
  pub bytes : list_all is_name_byte text ≡ true
  pub short : length text ≤ NAME_LIMIT
  pub other : text ≢ codes "outside"

-- p is the number of one of n processes
abbrev pub IsProcess : ℕ → ℕ → Type 0
IsProcess n p = (1 ≤ p) × (p ≤ n)

-- the name of a process by its number. Names are in the order of the processes
abbrev pub process_text : List (List ℕ) → ℕ → List ℕ
process_text names p = get_or names (p - 1) []

-- the name of a process or of the outside, which is 0
abbrev pub party_text : List (List ℕ) → ℕ → List ℕ
party_text names zero = codes "outside"
party_text names (suc p) = get_or names p []

-- ---- lines

-- the word of each kind of order
abbrev pub verb_text : Verb → List ℕ
verb_text verb.Input = codes "input"
verb_text verb.Bytes = codes "bytes"
verb_text verb.Transmit = codes "transmit"
verb_text verb.Copy = codes "copy"
verb_text verb.Lose = codes "lose"
verb_text verb.Arrive = codes "arrive"
verb_text verb.Finish = codes "finish"
verb_text verb.Checkpoint = codes "checkpoint"
verb_text verb.Trim = codes "trim"
verb_text verb.Crash = codes "crash"
verb_text verb.Recover = codes "recover"
verb_text verb.Alone = codes "alone"
verb_text verb.Replay = codes "replay"
verb_text verb.Resync = codes "resync"
verb_text verb.Drive = codes "drive"

-- the kind of an order
abbrev pub verb_of : Order → Verb
verb_of (order.Input to word) = verb.Input
verb_of (order.Bytes to payload) = verb.Bytes
verb_of (order.Transmit from to ssn) = verb.Transmit
verb_of (order.Copy key) = verb.Copy
verb_of (order.Lose key) = verb.Lose
verb_of (order.Arrive key) = verb.Arrive
verb_of (order.Finish process) = verb.Finish
verb_of (order.Checkpoint process) = verb.Checkpoint
verb_of (order.Trim to) = verb.Trim
verb_of (order.Crash process) = verb.Crash
verb_of (order.Recover process) = verb.Recover
verb_of (order.RecoverAlone process) = verb.Alone
verb_of (order.ReplayBegin process) = verb.Replay
verb_of (order.Resync process peer) = verb.Resync
verb_of (order.Drive budget) = verb.Drive

-- whether orders of this kind hand in a message
abbrev pub is_input : Verb → Bool
is_input verb.Input = true
is_input verb.Bytes = true
is_input v = false

-- whether a text with these orders may have this one
abbrev pub takes : Allowed → Order → Bool
takes All o = true
takes Inputs o = is_input (verb_of o)

-- what follows an order's word and a space
abbrev pub operands_text : List (List ℕ) → Order → List ℕ
operands_text names (order.Input to word) = process_text names to ++ 32 ∷ decimal word
operands_text names (order.Bytes to payload) = process_text names to ++ 32 ∷ hex_text payload
operands_text names (order.Transmit from to ssn) = party_text names from ++ 32 ∷ (party_text names to ++ 32 ∷ decimal ssn)
operands_text names (order.Copy key) = decimal key
operands_text names (order.Lose key) = decimal key
operands_text names (order.Arrive key) = decimal key
operands_text names (order.Finish process) = process_text names process
operands_text names (order.Checkpoint process) = process_text names process
operands_text names (order.Trim to) = party_text names to
operands_text names (order.Crash process) = process_text names process
operands_text names (order.Recover process) = process_text names process
operands_text names (order.RecoverAlone process) = process_text names process
operands_text names (order.ReplayBegin process) = process_text names process
operands_text names (order.Resync process peer) = process_text names process ++ 32 ∷ process_text names peer
operands_text names (order.Drive budget) = decimal budget

-- the line of an order
abbrev pub order_text : List (List ℕ) → Order → List ℕ
order_text names o = verb_text (verb_of o) ++ 32 ∷ operands_text names o

-- the order's processes are among n, its numbers have 32 bits, a word has 64, and a payload has at most 256 bytes
abbrev pub IsInRange : ℕ → Order → Type 0
IsInRange n (order.Input to word) = IsProcess n to × (word < 2 ^ 64)
IsInRange n (order.Bytes to payload) = IsProcess n to × IsPayload payload
IsInRange n (order.Transmit from to ssn) = (from ≤ n) × (to ≤ n) × (ssn < 2 ^ 32)
IsInRange n (order.Copy key) = key < 2 ^ 32
IsInRange n (order.Lose key) = key < 2 ^ 32
IsInRange n (order.Arrive key) = key < 2 ^ 32
IsInRange n (order.Finish process) = IsProcess n process
IsInRange n (order.Checkpoint process) = IsProcess n process
IsInRange n (order.Trim to) = to ≤ n
IsInRange n (order.Crash process) = IsProcess n process
IsInRange n (order.Recover process) = IsProcess n process
IsInRange n (order.RecoverAlone process) = IsProcess n process
IsInRange n (order.ReplayBegin process) = IsProcess n process
IsInRange n (order.Resync process peer) = IsProcess n process × IsProcess n peer
IsInRange n (order.Drive budget) = budget < 2 ^ 32
