-- How a player opens.
use Rattle.std.proofs.Common.{◌≡◌, List, Err, refl}
use Rattle.interp.specs.Image.{TheImage}
use Rattle.world.specs.declared.refusal.Refusal.{Refusal}
use Rattle.world.specs.declared.refusal.Refusal.TheVariants as refusals
use Rattle.machine.specs.Openings.{AreFew}
use Rattle.sessions.specs.Service.{OpensAlone}

-- few images are refused for want of memory alone
pub open-memory : (images : List TheImage) (r : Refusal) → AreFew images → OpensAlone images (Err r) → r ≡ refusals.Memory
open-memory images refusals.NoSuchProcess few opens = absurd (opens few)
open-memory images refusals.Memory few opens = refl
open-memory images other few opens = absurd opens
