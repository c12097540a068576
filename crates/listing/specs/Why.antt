-- Why a register isn't set at a slot. A path goes from slot to slot, each after an instruction that leads to the next one.
use Rattle.std.specs.Prelude.{◌≡◌, ◌≢◌, ◌<◌, ◌&&◌, ℕ, false, List, [], ◌∷◌, Some, None, pos, ℤ, slice_index_or}
use Rattle.std.specs.List.{Contains}
use Rattle.limits.specs.declared.TheConstants.{REGISTERS}
use Rattle.decode.specs.declared.insn.Insn.{Insn}
use Rattle.decode.specs.declared.insn.Insn.TheVariants.{Call}
use Rattle.decode.specs.Slots.{insn_at}
use Rattle.regtypes.specs.declared.frame.Frame.{Frame}
use Rattle.regtypes.specs.declared.frame.Kind.{Kind}
use Rattle.regtypes.specs.declared.frame.Kind.TheVariants.{Unset}
use Rattle.regtypes.specs.Exits.{exits}
use Rattle.regtypes.specs.Frame.{entry_frame, is_num, kind_at}
use Rattle.regtypes.specs.Rules.{first_broken, tests_of}
use Rattle.listing.specs.declared.study.Study.{Study}
use Rattle.listing.specs.Study.{flat_at}
use Rattle.listing.specs.declared.why.UnsetCause.{UnsetCause}
use Rattle.listing.specs.declared.why.UnsetCause.TheVariants.{Unknown, Never, Lost, Differs}

-- slot p is reached, leads to slot t, and leaves this kind in the register there
pub record Leaves (s : Study) (r p t : ℕ) (k : Kind) : Type 0 where
  pub insn : Insn
  pub begins : insn_at s.slots.items p ≡ Some insn
  pub frame : Frame
  pub there : flat_at s.table p ≡ Some frame
  pub left : Frame
  pub leads : Contains (exits p insn frame) (pos t, left)
  pub kind : k ≡ kind_at left.kinds r

-- at slot p a helper is called, and the register is set there
pub record Calls (s : Study) (r p : ℕ) : Type 0 where
  pub helper : ℤ
  pub calls : insn_at s.slots.items p ≡ Some (Call helper)
  pub frame : Frame
  pub there : flat_at s.table p ≡ Some frame
  pub held : kind_at frame.kinds r ≢ Unset

-- a path from slot p over these slots, the last of which is t. The register is unset all along, and no call on the path found it
-- set
abbrev pub StaysUnset : Study → ℕ → ℕ → List ℕ → ℕ → Type 0
StaysUnset s r p [] t = p ≡ t
StaysUnset s r p (q ∷ rest) t = Leaves s r p q Unset × (¬ Calls s r p) × StaysUnset s r q rest t

-- both kinds are set, and their join isn't
pub record Clash (a b : Kind) : Type 0 where
  pub differ : a ≢ b
  pub numbers : is_num a && is_num b ≡ false

-- slots p and q both lead to slot t, and what they leave in the register clashes
pub record Disagree (s : Study) (r p q t : ℕ) : Type 0 where
  pub first : Kind
  pub one : Leaves s r p t first
  pub set : first ≢ Unset
  pub second : Kind
  pub other : Leaves s r q t second
  pub kept : second ≢ Unset
  pub clash : Clash first second

-- slot p leads to slot t with this kind in the register, and its instruction breaks no rule
pub record Passes (s : Study) (r p t : ℕ) (k : Kind) : Type 0 where
  pub leaves : Leaves s r p t k
  pub kept : first_broken (tests_of s.form s.state_len leaves.insn leaves.frame) ≡ None

-- each earlier slot that passes on to slot t leaves the register set, and with nothing that clashes with one kind. That includes
-- slots that jump there, the fall-through of a conditional jump, and the slot before. When a call begins, at slot 0, the register
-- is set
pub record Agree (s : Study) (r t : ℕ) : Type 0 where
  pub kind : Kind
  pub entry : t ≡ 0 → kind_at (entry_frame s.form).kinds r ≢ Unset
  pub all : (p : ℕ) (k : Kind) → p < t → Passes s r p t k → (k ≢ Unset) × ¬ Clash kind k

-- the reason is at slot t. Unknown is answered only if there is no reason
abbrev pub IsReason : Study → ℕ → UnsetCause → ℕ → Type 0
IsReason s r Unknown t = Agree s r t
IsReason s r Never t = (t ≡ 0) × (kind_at (entry_frame s.form).kinds r ≡ Unset)
IsReason s r (Lost p) t = Calls s r p × Leaves s r p t Unset
IsReason s r (Differs p q at) t = (at ≡ t) × Disagree s r p q t

-- the reason is at a slot from which a path leads here, on which the register stays unset
abbrev pub IsWhy : Study → ℕ → UnsetCause → ℕ → Type 0
IsWhy s r why here = (t : ℕ) × (way : List ℕ) × IsReason s r why t × StaysUnset s r t way here

-- a slot is reached, and the register isn't set there
pub record IsUnsetAt (s : Study) (r here : ℕ) : Type 0 where
  pub frame : Frame
  pub there : flat_at s.table here ≡ Some frame
  pub unset : kind_at frame.kinds r ≡ Unset

-- there is a reason if the register isn't set at a slot, and none if it is or no path reaches the slot
pub record Explains (s : Study) (r : ℕ) (why : UnsetCause) (here : ℕ) : Type 0 where
  pub unset : IsUnsetAt s r here → IsWhy s r why here
  pub set : ¬ IsUnsetAt s r here → why ≡ Unknown

-- each register is explained
abbrev pub AreWhys : Study → List UnsetCause → ℕ → Type 0
AreWhys s whys here = (r : ℕ) → r < REGISTERS → Explains s r (slice_index_or whys r Unknown) here
