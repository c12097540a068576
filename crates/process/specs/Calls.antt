-- The calls of a process: each is the call of its stage
use Rattle.std.specs.Prelude.{◌≡◌, [], ◌∷◌, Option, Some, None, Bool, true, false, ◌&&◌, nat_lt}
use Rattle.packets.specs.declared.packet.NodePacket.{NodePacket}
use Rattle.node.specs.declared.status.Standing.{Standing}
use Rattle.node.specs.declared.status.Stage.TheVariants as stage
use Rattle.node.specs.Calls as up
use Rattle.node.specs.Stands as up_owes
use Rattle.node.specs.Transmission.{ticked}
use Rattle.node.specs.Node.{TheNode}
use Rattle.node.specs.Status.{entries_kept, standing_of}
use Rattle.node.specs.declared.kept.TheConstants.{MOST_KEPT}
use Rattle.node.specs.Checkpoints as saving
use Rattle.recovery.specs.Collection as collecting
use Rattle.recovery.specs.Stands as collecting_owes
use Rattle.recovery.specs.Overlap as meeting
use Rattle.recovery.specs.StandsAtReplay as replaying_owes
use Rattle.recovery.specs.Replayed as replayed_owes
use Rattle.recovery.specs.Queries.{collecting_standing, replaying_standing, replayed_standing}
use Rattle.recovery.specs.Restoration as restoring
use Rattle.recovery.specs.RestorationStands as restoring_owes
use Rattle.recovery.specs.RestorationQueries.{restoring_standing}
use Rattle.recovery.specs.declared.lifecycle.Lifecycle.{Lifecycle}
use Rattle.recovery.specs.declared.lifecycle.Lifecycle.TheVariants.{Up, Collecting, Replaying, Replayed, Restoring, Passing}
use Rattle.process.specs.Process.{TheProcess}
use Rattle.recovery.specs.Transitions.{Passes}

-- takes a packet
abbrev pub IsHanded : NodePacket → Lifecycle → Lifecycle → Type 0
IsHanded x (Up old) (Up new) = (new ≡ up.handed x old) × up_owes.IsHanded x old new
IsHanded x (Collecting old) (Collecting new) = (new ≡ collecting.handed x old) × collecting_owes.IsHanded x old new
IsHanded x (Restoring old) (Restoring new) = (new ≡ restoring.handed x old) × restoring_owes.IsHanded x old new
IsHanded x (Replaying old) (Replaying new) = (new ≡ record old { own = meeting.handed x old.own }) × replaying_owes.IsHanded x old new
IsHanded x (Replayed old) (Replayed new) = (new ≡ record old { own = meeting.handed x old.own }) × replayed_owes.IsHanded x old new
IsHanded x Passing new = new ≡ Passing
IsHanded x old new = ⊥

-- sends again what isn't answered
abbrev pub Ticks : Lifecycle → Lifecycle → Type 0
Ticks (Up old) (Up new) = (new ≡ ticked old) × up_owes.Acts old new
Ticks (Collecting old) (Collecting new) = (new ≡ collecting.asked old) × collecting_owes.Acts old new
Ticks (Restoring old) (Restoring new) = (new ≡ restoring.asked old) × restoring_owes.Acts old new
Ticks (Replaying old) new = new ≡ Replaying old
Ticks (Replayed old) new = new ≡ Replayed old
Ticks Passing new = new ≡ Passing
Ticks old new = ⊥

-- one call of the stage, after which it may go on to the next; the image stays
pub record Calls (Does : Lifecycle → Lifecycle → Type 0) (old new : TheProcess) : Type 0 where
  pub image : new.image ≡ old.image
  pub mid : Lifecycle
  pub does : Does old.lifecycle mid
  pub passes : Passes mid new.lifecycle

-- one call of the stage, in which it stays; the image stays
pub record Stays (Does : Lifecycle → Lifecycle → Type 0) (old new : TheProcess) : Type 0 where
  pub image : new.image ≡ old.image
  pub does : Does old.lifecycle new.lifecycle

-- takes the first packet that waits. A process that has finished its replay owes nothing else
abbrev pub Takes : Option NodePacket → Lifecycle → Lifecycle → Type 0
Takes o (Up old) (Up new) = up_owes.Takes o old new
Takes o (Collecting old) (Collecting new) = collecting_owes.Takes o old new
Takes o (Replaying old) (Replaying new) = replaying_owes.Takes o old new
Takes None (Replayed old) (Replayed new) = (old.own.out ≡ []) × (new ≡ old)
Takes (Some x) (Replayed old) (Replayed new) = old ≡ record new { own = record new.own { out = x ∷ new.own.out } }
Takes o (Restoring old) (Restoring new) = restoring_owes.Takes o old new
Takes o Passing new = (o ≡ None) × (new ≡ Passing)
Takes o old new = ⊥

-- its logs fit a checkpoint
abbrev pub is_storable : TheNode → Bool
is_storable n = nat_lt (entries_kept n.logs) MOST_KEPT

-- a checkpoint can be made: it is up, with no job open, waits for no checkpoint, and its logs fit one
abbrev pub may_freeze : Lifecycle → Bool
may_freeze (Up n) = saving.may_freeze n && is_storable n
may_freeze other = false

-- it waits for a checkpoint
abbrev pub is_frozen : Lifecycle → Bool
is_frozen (Up n) = n.frozen
is_frozen other = false

-- makes a checkpoint, if the logs fit one
abbrev pub FreezesAs : Bool → TheNode → TheNode → Type 0
FreezesAs true old new = (new ≡ saving.froze old) × up_owes.Acts old new
FreezesAs false old new = new ≡ old

-- what `freeze` leaves: a process that is up waits for its checkpoint, any other stays as it is
abbrev pub Freezes : Lifecycle → Lifecycle → Type 0
Freezes (Up old) (Up new) = FreezesAs (is_storable old) old new
Freezes (Up old) new = ⊥
Freezes old new = new ≡ old

-- the checkpoint is durable
abbrev pub Thaws : Lifecycle → Lifecycle → Type 0
Thaws (Up old) (Up new) = (new ≡ saving.saved old) × up_owes.Saves old new
Thaws (Up old) new = ⊥
Thaws old new = new ≡ old

-- its status
abbrev pub standing_at : Lifecycle → Standing
standing_at (Up n) = standing_of n
standing_at (Collecting n) = collecting_standing n
standing_at (Replaying n) = replaying_standing n
standing_at (Replayed n) = replayed_standing n
standing_at (Restoring n) = restoring_standing n
standing_at Passing = record {
  length = 0;
  base = 0;
  incarnation = 0;
  stage = stage.Up;
  exact = true;
  receipts = 0;
  entries = 0;
  packets = 0;
  replays = 0;
  waited_for = 0;
}
