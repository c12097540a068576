-- Processes that are opened or come back
use Rattle.std.specs.Prelude.{◌≡◌, ◌≢◌, ◌⊎◌, ℕ, List, length, replicate, true, false, ⊤}
use Rattle.verifier.specs.declared.any_image.AnyImage.{AnyImage}
use Rattle.verifier.specs.AnyImage.{state_of}
use Rattle.packets.specs.declared.kept.Kept.{Kept}
use Rattle.packets.specs.declared.kept_fault.KeptFault.TheVariants.{Range}
use Rattle.packets.specs.Kept.{IsKept}
use Rattle.packets.specs.KeptFaults.{IsFirstKept}
use Rattle.node.specs.declared.limit.Limits.{Limits}
use Rattle.node.specs.Node.{IsPositive}
use Rattle.node.specs.Stands.{StandsFirst}
use Rattle.node.specs.Node.{new_node}
use Rattle.recovery.specs.Own.{comes_back}
use Rattle.recovery.specs.Collection.{revived}
use Rattle.recovery.specs.Stands.{Revives}
use Rattle.recovery.specs.declared.lifecycle.Lifecycle.TheVariants.{Up, Collecting}
use Rattle.process.specs.declared.fault.Unrevived.{Unrevived}
use Rattle.process.specs.declared.fault.Unrevived.TheVariants as why
use Rattle.process.specs.Process.{TheProcess}

-- the opening state of a process to which none is given
abbrev pub zero_state : AnyImage → List ℕ
zero_state image = replicate (state_of image) 0

-- a process that received nothing, with an opening state as long as the image's: it agrees with the opening, in which its handler has that
-- state
pub record IsOpened (image : AnyImage) (limits : Limits) (me count : ℕ) (state : List ℕ) (p : TheProcess) : Type 0 where
  pub long : length state ≡ state_of image
  pub image_is : p.image ≡ image
  pub lifecycle_is : p.lifecycle ≡ Up (new_node limits me count state)
  pub stands : StandsFirst (new_node limits me count state) me count state

-- why no process opens with this state: it isn't as long as the image's, or memory ran out
abbrev pub IsUnopened : AnyImage → List ℕ → Unrevived → Type 0
IsUnopened image state why.Memory = ⊤
IsUnopened image state why.State = length state ≢ state_of image
IsUnopened image state other = ⊥

-- a process may come back from these bytes, with a state as long as the image's
pub record IsKeptFor (image : AnyImage) (k : Kept) (bytes : List ℕ) : Type 0 where
  pub bytes_are : IsKept k bytes
  pub comes : comes_back k ≡ true
  pub long : length k.state ≡ state_of image

-- the process that comes back from them
pub record IsRevived (image : AnyImage) (limits : Limits) (bytes : List ℕ) (life : ℕ) (p : TheProcess) : Type 0 where
  pub kept : Kept
  pub is_kept : IsKeptFor image kept bytes
  pub image_is : p.image ≡ image
  pub lifecycle_is : p.lifecycle ≡ Collecting (revived limits kept life)
  pub revives : Revives kept life (revived limits kept life)

-- no process comes back from them: they have more messages than a process can have received or sent
abbrev pub IsOver : List ℕ → Type 0
IsOver bytes = (k : Kept) × IsKept k bytes × (comes_back k ≡ false)

-- why no process comes back from these bytes
abbrev pub IsUnread : List ℕ → Unrevived → Type 0
IsUnread bytes why.Memory = ⊤
IsUnread bytes (why.Kept f) = IsFirstKept f bytes ⊎ ((f ≡ Range) × IsOver bytes)
IsUnread bytes other = ⊥

-- why no process comes back
abbrev pub IsUnrevived : AnyImage → List ℕ → ℕ → Unrevived → Type 0
IsUnrevived image bytes life why.Memory = ⊤
IsUnrevived image bytes life (why.Kept f) = IsPositive life × IsUnread bytes (why.Kept f)
IsUnrevived image bytes life why.State = IsPositive life
    × ((k : Kept) × IsKept k bytes × (comes_back k ≡ true) × (length k.state ≢ state_of image))
IsUnrevived image bytes life why.Incarnation = ¬ IsPositive life
