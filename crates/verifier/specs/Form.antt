-- What a form of images says of the slots of code, and the laws that let one pass decide.
use Rattle.std.specs.Prelude.{◌≡◌, ℕ, ◌<◌, Option, Some}
use Rattle.regtypes.specs.declared.rule.Rule.{Rule}

-- the frames, their order and the frame of the entry; how many slots there are; whether a slot may have a frame; whether
-- a table, with a frame or none for each slot, allows the frame of a slot: no rule is broken, and what leaves fits the
-- frames where it leads; and the least rule that is broken at a slot under a frame
pub record Form : Type 1 where
  pub Frame : Type 0
  pub Leq : Frame → Frame → Type 0
  pub entry : Frame
  pub count : ℕ
  pub MayStand : ℕ → Frame → Type 0
  pub IsAllowed : (ℕ → Option Frame) → ℕ → Frame → Type 0
  pub broken : ℕ → Frame → Option Rule

-- a frame for each slot, or none
abbrev pub TableOf : Form → Type 0
TableOf form = ℕ → Option form.Frame

-- the slot has a frame, and it says no more than this one
abbrev pub Enters : (form : Form) → TableOf form → ℕ → form.Frame → Type 0
Enters form table t f = (g : form.Frame) × (table t ≡ Some g) × form.Leq f g

-- if the first table has a frame for a slot, the second has one that says no more
abbrev pub Below : (form : Form) → TableOf form → TableOf form → Type 0
Below form a b = (s : ℕ) (f : form.Frame) → a s ≡ Some f → Enters form b s f

-- frames are ordered; only slots of the code have frames; what a table allows, one above it allows; a frame that says
-- more is allowed wherever one that says less is; and a frame under which a rule is broken is allowed nowhere
pub record IsForm (form : Form) : Type 0 where
  pub reflexive : (f : form.Frame) → form.Leq f f
  pub transitive : (f g h : form.Frame) → form.Leq f g → form.Leq g h → form.Leq f h
  pub antisymmetric : (s : ℕ) (f g : form.Frame) → form.MayStand s f → form.MayStand s g → form.Leq f g → form.Leq g f → f ≡ g
  pub within : (s : ℕ) (f : form.Frame) → form.MayStand s f → s < form.count
  pub above : (a b : TableOf form) (s : ℕ) (f : form.Frame) → Below form a b → form.IsAllowed a s f → form.IsAllowed b s f
  pub monotone : (t : TableOf form) (s : ℕ) (f g : form.Frame) → form.MayStand s f → form.MayStand s g → form.Leq f g
      → form.IsAllowed t s g → form.IsAllowed t s f
  pub refused : (t : TableOf form) (s : ℕ) (f : form.Frame) (rule : Rule) → form.broken s f ≡ Some rule → form.IsAllowed t s f → ⊥
