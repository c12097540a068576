-- What can be read of an open session
use Rattle.std.specs.Prelude.{◌≡◌, ℕ, ◌≤◌, true, false, List, [], length, Option, Some, None, if◌then◌else◌}
use Rattle.std.specs.List.{slice_get}
use Rattle.world.specs.declared.message.Message.{Message}
use Rattle.world.specs.declared.phase.PhaseName.{PhaseName}
use Rattle.world.specs.declared.phase.PhaseName.TheVariants.{Up, Busy, Down, Replaying, Resync}
use Rattle.world.specs.declared.refusal.Refusal.TheVariants.{NoSuchProcess, Memory}
use Rattle.world.specs.Phases.{is_down, name_of}
use Rattle.world.specs.Logs.{state_of, length_of}
use Rattle.machine.specs.Checkpoints.{IsSavedOf}
use Rattle.scenario.specs.Trace.{trace_text}
use Rattle.sessions.specs.Journal.{TheSession, is_exact, world_at}
use Rattle.sessions.specs.Service.{KeepsPromises}
use Rattle.c_handles.specs.Buffer.{IsCopied, IsUncopied}
use Rattle.c_sessions.specs.declared.fault.SessionFault.{SessionFault}
use Rattle.c_sessions.specs.declared.fault.SessionFault.TheVariants.{Session, Handle, Room, Absent}

-- the number of a phase
abbrev pub phase_number : PhaseName → ℕ
phase_number Up = 0
phase_number Busy = 1
phase_number Down = 2
phase_number Replaying = 3
phase_number Resync = 4

-- there is a process with this number
abbrev pub IsInside : TheSession → ℕ → Type 0
IsInside s p = (1 ≤ p) × (p ≤ length s.images)

-- the handle is open, and this holds of its session
abbrev pub OfOpen : (TheSession → Type 0) → Option TheSession → Type 0
OfOpen holds handle = (s : TheSession) × (handle ≡ Some s) × holds s

-- the handle is open, and its session keeps its promises and this
abbrev pub OfPromised : (TheSession → Type 0) → Option TheSession → Type 0
OfPromised holds handle = OfOpen (λ s. KeepsPromises s × holds s) handle

-- why nothing is told of a process: the handle is closed, or there is no such process
abbrev pub IsUntold : ℕ → Option TheSession → SessionFault → Type 0
IsUntold p handle Handle = handle ≡ None
IsUntold p handle (Session NoSuchProcess) = OfOpen (λ s. ¬ IsInside s p) handle
IsUntold p handle other = ⊥

-- the buffer begins with the bytes of which Is holds, of a process of an open session
abbrev pub IsReadOf : ℕ → (ℕ → TheSession → List ℕ → Type 0) → List ℕ → List ℕ → ℕ → Option TheSession → Type 0
IsReadOf p Is old new size handle = OfOpen (λ s. IsInside s p × ((bytes : List ℕ) × Is p s bytes × IsCopied bytes old new size)) handle

-- why the bytes weren't written: the buffer is too short for them, or nothing is told of the process
abbrev pub IsUnreadOf : ℕ → (ℕ → TheSession → List ℕ → Type 0) → List ℕ → List ℕ → ℕ → ℕ → Option TheSession → SessionFault → Type 0
IsUnreadOf p Is old new was size handle Room =
    OfOpen (λ s. IsInside s p × ((bytes : List ℕ) × Is p s bytes × IsUncopied bytes old new size)) handle
IsUnreadOf p Is old new was size handle why = IsUntold p handle why × (new ≡ old) × (size ≡ was)

-- the state of a process, which is empty while the process is down
abbrev pub IsState : ℕ → TheSession → List ℕ → Type 0
IsState p s bytes =
    (is_down ((world_at s).phase p) ≡ false → bytes ≡ state_of (world_at s) p)
    × (is_down ((world_at s).phase p) ≡ true → bytes ≡ [])

-- the bytes of its latest checkpoint
abbrev pub IsSaved : ℕ → TheSession → List ℕ → Type 0
IsSaved p s bytes = IsSavedOf (world_at s) p bytes

-- how many messages are in a process's state, and the number of its phase
abbrev pub IsStanding : ℕ → ℕ → ℕ → Option TheSession → Type 0
IsStanding p length phase handle =
    OfOpen (λ s. IsInside s p × (length ≡ length_of (world_at s) p) × (phase ≡ phase_number (name_of ((world_at s).phase p)))) handle

-- why these two aren't told, and both are as they were
abbrev pub IsNotStanding : ℕ → ℕ → ℕ → ℕ → ℕ → Option TheSession → SessionFault → Type 0
IsNotStanding p length length' phase phase' handle why = IsUntold p handle why × (length' ≡ length) × (phase' ≡ phase)

-- an output that was shown, by its place from 0: its sender, its SSN and its bytes
abbrev pub IsShown : ℕ → ℕ → ℕ → List ℕ → List ℕ → ℕ → Option TheSession → Type 0
IsShown k sender ssn old new size handle =
    OfPromised (λ s. (m : Message) × (slice_get (world_at s).shown k ≡ Some m) × (sender ≡ m.sender) × (ssn ≡ m.ssn)
    × IsCopied m.payload old new size) handle

-- why no output is written: there is none at this place, the buffer is too short for it, or the handle is closed
abbrev pub IsUnshown : ℕ → List ℕ → List ℕ → ℕ → ℕ → Option TheSession → SessionFault → Type 0
IsUnshown k old new was size handle Absent = OfOpen (λ s. slice_get (world_at s).shown k ≡ None) handle × (new ≡ old) × (size ≡ was)
IsUnshown k old new was size handle Room =
    OfOpen (λ s. (m : Message) × (slice_get (world_at s).shown k ≡ Some m) × IsUncopied m.payload old new size) handle
IsUnshown k old new was size handle Handle = (handle ≡ None) × (new ≡ old) × (size ≡ was)
IsUnshown k old new was size handle other = ⊥

-- 1 if failures came one at a time, else 0
abbrev pub exact_number : TheSession → ℕ
exact_number s = if is_exact s then 1 else 0

-- the buffer begins with the trace of the journal
abbrev pub IsTraced : List ℕ → List ℕ → ℕ → Option TheSession → Type 0
IsTraced old new size handle = OfPromised (λ s. IsCopied (trace_text s.entries) old new size) handle

-- why the trace isn't written: memory ran out, the buffer is too short for it, or the handle is closed
abbrev pub IsUntraced : List ℕ → List ℕ → ℕ → ℕ → Option TheSession → SessionFault → Type 0
IsUntraced old new was size handle (Session Memory) = OfOpen (λ s. Unit {0}) handle × (new ≡ old) × (size ≡ was)
IsUntraced old new was size handle Room = OfOpen (λ s. IsUncopied (trace_text s.entries) old new size) handle
IsUntraced old new was size handle Handle = (handle ≡ None) × (new ≡ old) × (size ≡ was)
IsUntraced old new was size handle other = ⊥
