-- What loads and stores need of a frame, and what they leave.
use Rattle.std.specs.Prelude.{◌≡◌, ℕ, ◌+◌, ◌-◌, ◌*◌, ◌/◌, ◌%◌, ◌==◌, ◌&&◌, nat_lt, nat_le, int_lt, int_le, ℤ, pos, negsuc, ◌+ℤ◌, Bool}
use Rattle.std.specs.Prelude.{true, Option, Some, None, if◌then◌else◌}
use Rattle.std.specs.Option.{option_map_or}
use Rattle.regtypes.specs.declared.frame.Region.{Region}
use Rattle.regtypes.specs.declared.frame.Region.TheVariants.{Message, State, Stack}
use Rattle.regtypes.specs.Rules.{region_len}
use Rattle.spans.specs.Span.{whole}
use Rattle.spans.specs.Frame.{Reach, SpanKind, Num, Place, is_num, is_set, Frame, with_kind}

-- how many bytes a region has: the message 512 with zeros after its own bytes, the state `state`, the stack 512
abbrev pub region_size : ℕ → Region → ℕ
region_size state r = region_len 512 state r

-- ---- an access of n bytes, o bytes from one of the places of a reach

-- from each of them the bytes are in a region of this size
abbrev pub is_inside : ℕ → Reach → ℤ → ℕ → Bool
is_inside size s o n = int_le (pos 0) (s.lo +ℤ o) && int_le (s.hi +ℤ o +ℤ pos n) (pos size)

-- the cell of the word that begins at this byte of the stack; None if no word begins there
abbrev pub cell_at : ℤ → Option ℕ
cell_at (pos p) = if p % 8 == 0 then Some (11 + p / 8) else None
cell_at (negsuc p) = None

-- the cell of the word that the access is, if it is a whole word and has only one place; else None
abbrev pub whole_word : Reach → ℤ → ℕ → Option ℕ
whole_word s o n = if int_le s.hi s.lo && n == 8 then cell_at (s.lo +ℤ o) else None

-- the access may reach a byte of this cell's word
abbrev pub is_reached : Reach → ℤ → ℕ → ℕ → Bool
is_reached s o n c =
    nat_lt 0 n
    && (nat_le 11 c && (int_lt (pos (8 * (c - 11))) (s.hi +ℤ o +ℤ pos n) && int_lt (s.lo +ℤ o) (pos (8 * (c - 11) + 8))))

-- all words that it may reach are numbers
abbrev pub AreNumbers : Frame → Reach → ℤ → ℕ → Type 0
AreNumbers f s o n = (c : ℕ) → is_reached s o n c ≡ true → is_num (f c) ≡ true

-- ---- loads

-- a load from the stack: a whole word has to be set; for any other load all words that it may reach have to be numbers
abbrev pub IsReadable : Option ℕ → Frame → Reach → ℤ → ℕ → Type 0
IsReadable (Some c) f s o n = is_set (f c) ≡ true
IsReadable None f s o n = AreNumbers f s o n

-- a load of n bytes through a base of this kind breaks no rule
abbrev pub MayLoad : ℕ → Frame → SpanKind → ℤ → ℕ → Type 0
MayLoad state f (Place Message s) o n = is_inside 512 s o n ≡ true
MayLoad state f (Place State s) o n = is_inside state s o n ≡ true
MayLoad state f (Place Stack s) o n = (is_inside 512 s o n ≡ true) × IsReadable (whole_word s o n) f s o n
MayLoad state f k o n = ⊥

-- the load of a whole word gives its kind, also a place; any other load gives a number of n bytes
abbrev pub word_kind : Option ℕ → Frame → ℕ → SpanKind
word_kind word f n = option_map_or f word (Num (whole (8 * n)))

-- what a load gives
abbrev pub loaded_kind : Frame → SpanKind → ℤ → ℕ → SpanKind
loaded_kind f (Place Stack s) o n = word_kind (whole_word s o n) f n
loaded_kind f k o n = Num (whole (8 * n))

-- ---- stores

-- a store of a kind in the stack: a whole word takes whatever is set; any other store takes a number, and only over
-- numbers
abbrev pub IsWritable : Option ℕ → Frame → SpanKind → Reach → ℤ → ℕ → Type 0
IsWritable (Some c) f k s o n = is_set k ≡ true
IsWritable None f k s o n = (is_num k ≡ true) × AreNumbers f s o n

-- a store of a kind through a base of kind a breaks no rule; no handler may write the message
abbrev pub MayStore : ℕ → Frame → SpanKind → SpanKind → ℤ → ℕ → Type 0
MayStore state f k (Place State s) o n = (is_inside state s o n ≡ true) × (is_num k ≡ true)
MayStore state f k (Place Stack s) o n = (is_inside 512 s o n ≡ true) × IsWritable (whole_word s o n) f k s o n
MayStore state f k a o n = ⊥

-- each word that may be reached can then be any number
abbrev pub wiped : Frame → Reach → ℤ → ℕ → Frame
wiped f s o n c = if is_reached s o n c then Num (whole 64) else f c

-- a whole word gets the stored kind, also a place
abbrev pub written_frame : Option ℕ → Frame → SpanKind → Reach → ℤ → ℕ → Frame
written_frame word f k s o n = option_map_or (λ c. with_kind f c k) word (wiped f s o n)

-- what a store leaves; of the bytes of message and state no frame says anything
abbrev pub stored_frame : Frame → SpanKind → SpanKind → ℤ → ℕ → Frame
stored_frame f k (Place Stack s) o n = written_frame (whole_word s o n) f k s o n
stored_frame f k a o n = f
