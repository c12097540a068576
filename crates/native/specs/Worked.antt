-- A call by the C calling convention, a record as C lays out its struct, and what a record tells.
use Rattle.std.specs.Prelude.{◌≡◌, ℕ, ◌+◌, ◌-◌, ◌*◌, ◌^◌, ◌<◌, ◌≤◌, Option, Some, slice_get, List, [], ◌∷◌, ◌++◌, length, map, replicate}
use Rattle.limits.specs.declared.TheConstants.{PAYLOAD_BYTES}
use Rattle.decode.specs.declared.insn.Insn.{Insn}
use Rattle.helpers.specs.declared.effects.Who.{Who}
use Rattle.helpers.specs.declared.effects.Sent.{Sent}
use Rattle.helpers.specs.Effects.{Emitted}
use Rattle.operations.specs.Bytes.{le_bytes}
use Rattle.regtypes.specs.declared.image_form.ImageForm.{ImageForm}
use Rattle.interp.specs.Words.{AreBytes}
use Rattle.interp.specs.Flat.{IsHandledIn}
use Rattle.x86.specs.Machine.{State, Flags, Word, At, Array, Record, value}
use Rattle.native.specs.Correct.{IsCalled, IsReturned, Keeps}

-- process 1 of 3, on a message of process 2
abbrev pub who : Who
who = record { me = 1; from = 2; count = 3 }

-- uint64_t, one after another
abbrev pub words : List ℕ → List ℕ
words [] = []
words (n ∷ ns) = le_bytes 8 n ++ words ns

-- struct { uint64_t dst, length; uint8_t payload[256]; }
abbrev pub place : ℕ → List ℕ → List ℕ
place dst payload = words (dst ∷ length payload ∷ []) ++ (payload ++ replicate (PAYLOAD_BYTES - length payload) 0)

-- two sends, to 2 and to 3, and an output
abbrev pub effects : Emitted
effects = record {
  sends = record { dst = 2; payload = 7 ∷ 8 ∷ [] } ∷ record { dst = 3; payload = [] } ∷ [];
  outputs = (9 ∷ []) ∷ [];
}

-- struct { uint64_t sends, outputs, steps, me, from, count, spare[2]; place sent[8], shown[8]; }
abbrev pub told : List ℕ
told =
    words (2 ∷ 1 ∷ 5 ∷ 1 ∷ 2 ∷ 3 ∷ 0 ∷ 0 ∷ [])
    ++ (place 2 (7 ∷ 8 ∷ []) ++ (place 3 [] ++ (replicate (6 * 272) 0
    ++ (place 0 (9 ∷ []) ++ replicate (7 * 272) 0))))

-- a record with these effects has these bytes
abbrev pub IsLaidOut : Type 0
IsLaidOut = Keeps who effects told

-- destinations are words
abbrev pub AreWords : Emitted → Type 0
AreWords e = (k : ℕ) (s : Sent) → slice_get e.sends k ≡ Some s → s.dst < 2 ^ 64

-- different calls or effects have different records
abbrev pub TellsOne : Type 0
TellsOne =
    (w v : Who) (e f : Emitted) (bytes : List ℕ) → Keeps w e bytes → Keeps v f bytes → AreWords e → AreWords f
    → (w ≡ v) × (e ≡ f)

-- code(array, record, m) in C: rdi, rsi, rdx. The other registers, xmm0 and the flags may hold anything. In the record
-- C sets only the two counts and who is called; the steps and all that comes after `count` stay as they were
abbrev pub called : Who → ℕ → (ℕ → ℕ) → List ℕ → Flags → List ℕ → ℕ → List ℕ → State
called who m word long flags mem steps rest = record {
  regs =
      Word (word 0) ∷ Word (word 1) ∷ Word m ∷ Word (word 3) ∷ Word (word 4) ∷ Word (word 5) ∷ At Record 0 ∷ At Array 0
      ∷ map (λ r. Word (word r)) (8 ∷ 9 ∷ 10 ∷ 11 ∷ 12 ∷ 13 ∷ 14 ∷ 15 ∷ []);
  long = long;
  flags = flags;
  array = mem;
  record_ = words (0 ∷ 0 ∷ steps ∷ who.me ∷ who.from ∷ who.count ∷ []) ++ rest;
  pushed = [];
}

-- any such call, with any open values, meets what the code requires
abbrev pub CanBeCalled : Type 0
CanBeCalled =
    (who : Who) (m : ℕ) (word : ℕ → ℕ) (long : List ℕ) (flags : Flags) (mem : List ℕ) (steps : ℕ) (rest : List ℕ)
    → who.me < 2 ^ 8 → who.from < 2 ^ 8 → who.count < 2 ^ 64 → m ≤ PAYLOAD_BYTES → ((r : ℕ) → word r < 2 ^ 64) → AreBytes mem
    → length rest ≡ 16 + 16 * 272 → IsCalled who m (called who m word long flags mem steps rest)

-- by the C calling convention these registers belong to the caller: rbx, rbp, r12 to r15
abbrev pub callers : List ℕ
callers = 3 ∷ 5 ∷ 12 ∷ 13 ∷ 14 ∷ 15 ∷ []

-- each of them is unchanged
abbrev pub KeepsCallers : State → State → Type 0
KeepsCallers c last = (k r : ℕ) → slice_get callers k ≡ Some r → value last r ≡ value c r

-- they are unchanged after each return
abbrev pub ReturnsToC : Type 0
ReturnsToC =
    (form : ImageForm) (slots : List (Option Insn)) (who : Who) (m len : ℕ) (c last : State)
    → IsReturned who (IsHandledIn form slots who m len c.array last.array) c last → KeepsCallers c last
