-- The least typing, and the one slot and rule that a refusal names.
use Rattle.std.specs.Prelude.{◌≡◌, ◌⊎◌, ℕ, ◌<◌, Option, Some, None}
use Rattle.regtypes.specs.declared.rule.Rule.{Rule}
use Rattle.regtypes.specs.declared.rule.Rule.TheVariants.{V2}
use Rattle.verifier.specs.Form.{Form, TableOf, Enters, Below}

-- the entry's frame fits slot 0, each slot may have its frame, and below slot n each frame is allowed
pub record TypesBelow (form : Form) (n : ℕ) (table : TableOf form) : Type 0 where
  pub start : Enters form table 0 form.entry
  pub stands : (s : ℕ) (f : form.Frame) → table s ≡ Some f → form.MayStand s f
  pub allowed : (s : ℕ) (f : form.Frame) → s < n → table s ≡ Some f → form.IsAllowed table s f

-- the table is a typing of the code
abbrev pub IsTyped : (form : Form) → TableOf form → Type 0
IsTyped form table = TypesBelow form form.count table

-- the least typing of the slots below n
pub record IsLeast (form : Form) (n : ℕ) (table : TableOf form) : Type 0 where
  pub types : TypesBelow form n table
  pub least : (t : TableOf form) → TypesBelow form n t → Below form table t

-- the slot's frame, in the least typing of the slots below it, breaks this rule and no lesser one
pub record StopsAt (form : Form) (rule : Rule) (s : ℕ) : Type 0 where
  pub table : TableOf form
  pub least : IsLeast form s table
  pub frame : form.Frame
  pub there : table s ≡ Some frame
  pub breaks : form.broken s frame ≡ Some rule

-- the rule and the slot that are named; code without a slot breaks V2 at slot 0
abbrev pub IsRefused : Form → Rule → ℕ → Type 0
IsRefused form rule s = StopsAt form rule s ⊎ ((form.count ≡ 0) × (rule ≡ V2) × (s ≡ 0))

-- the rule and the slot, of code that has no typing
abbrev pub IsFault : Form → Rule → ℕ → Type 0
IsFault form rule s = IsRefused form rule s × ((t : TableOf form) → IsTyped form t → ⊥)

-- the table is the least typing of the code; if a slot breaks a rule, it is that of the slots below
abbrev pub IsJudged : (form : Form) → TableOf form → Option (Rule × ℕ) → Type 0
IsJudged form table None = IsLeast form form.count table
IsJudged form table (Some (rule, slot)) = IsLeast form slot table × IsFault form rule slot

-- refused code has one rule and one slot that can be named
abbrev pub IsOneRefusal : Form → Type 0
IsOneRefusal form =
    (rule rule' : Rule) (s s' : ℕ) → IsRefused form rule s → IsRefused form rule' s' → (rule ≡ rule') × (s ≡ s')
