-- What the machine code of form 3 has to do.
use Rattle.std.specs.Prelude.{◌≡◌, ℕ, ◌≤◌, List, length, slice_range}
use Rattle.limits.specs.declared.TheConstants.{PAYLOAD_BYTES, PROCESSES}
use Rattle.decode.specs.declared.insn.Insn.{Insn}
use Rattle.helpers.specs.declared.effects.Who.{Who}
use Rattle.helpers.specs.Effects.{Emitted}
use Rattle.x86.specs.Machine.{State, Runs}
use Rattle.interp.specs.CallArray.{HoldsEntry, IsLeft, state_in}
use Rattle.interp.specs.SpanCall.{AnswersIn}
use Rattle.native.specs.Correct.{IsCalled, IsReturned}

-- the second array is what the handler's call in the first one leaves, with these effects and this r0 in this number of
-- steps; the message and the zeros after it stay
pub record IsHandledIn (code : List Insn) (who : Who) (m len : ℕ) (mem mem' : List ℕ) (effects : Emitted) (r0 steps : ℕ) : Type 0 where
  pub answers : AnswersIn code who m len mem mem' effects r0 steps
  pub message : slice_range mem' 0 512 ≡ slice_range mem 0 512
  pub left : IsLeft m len mem'

-- the code does what the handler does, on every message and state
pub record IsSpanNative (code : List Insn) (len : ℕ) (bytes : List ℕ) : Type 0 where
  pub runs : (m : ℕ) (who : Who) (c : State) → m ≤ PAYLOAD_BYTES → length c.array ≡ 2048
      → HoldsEntry len (slice_range c.array 0 m) (state_in len c.array) c.array → who.me ≤ PROCESSES → who.from ≤ PROCESSES
      → IsCalled who m c → (n : ℕ) × (last : State) × Runs bytes n 0 c last
      × IsReturned who (IsHandledIn code who m len c.array last.array) c last
