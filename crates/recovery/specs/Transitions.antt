-- How a process passes from one stage to the next
use Rattle.std.specs.Prelude.{◌≡◌, ◌≤◌, length, Bool, true, false, ◌||◌}
use Rattle.rsn.specs.declared.receipts.TheConstants.{LIMIT}
use Rattle.node.specs.Node.{TheNode}
use Rattle.node.specs.Transmission.{ticked}
use Rattle.node.specs.Stands.{Acts}
use Rattle.recovery.specs.Plan.{has_all, Overruns}
use Rattle.recovery.specs.declared.moment.Cause.{Cause}
use Rattle.recovery.specs.declared.moment.Cause.TheVariants.{Memory, TooMany}
use Rattle.recovery.specs.Moment.{Recovered}
use Rattle.recovery.specs.Replays.{is_over}
use Rattle.recovery.specs.StandsAtReplay.{ComesBack, Ends, replayed_of}
use Rattle.recovery.specs.Restoration.{begun, is_up, up}
use Rattle.recovery.specs.RestorationStands.{Begins, IsUp}
use Rattle.recovery.specs.declared.lifecycle.Lifecycle.{Lifecycle}
use Rattle.recovery.specs.declared.lifecycle.Lifecycle.TheVariants.{Up, Collecting, Replaying, Replayed, Restoring}

-- it is up
abbrev pub is_node : Lifecycle → Bool
is_node (Up n) = true
is_node other = false

-- if all peers have told a process that collects, it recovers with at most as many messages as a process takes; or memory is refused, or
-- there are too many
abbrev pub Recovers : Lifecycle → Lifecycle → Type 0
Recovers (Collecting n) (Replaying r) = (has_all n ≡ true) × Recovered n r × ComesBack n r × (length r.plan ≤ LIMIT)
Recovers old new = new ≡ old

-- if nothing is left to replay, its replay is over
abbrev pub Finishes : Lifecycle → Lifecycle → Type 0
Finishes (Replaying n) (Replayed r) = (is_over n ≡ true) × (r ≡ replayed_of n) × Ends n r
Finishes (Replaying n) new = (is_over n ≡ false) × (new ≡ Replaying n)
Finishes old new = new ≡ old

-- after its replay it asks its peers for its RSNs; or memory is refused
abbrev pub Begun : Lifecycle → Lifecycle → Type 0
Begun (Replayed r) (Restoring n) = (n ≡ begun r) × Begins r n
Begun old new = new ≡ old

-- if all peers have answered, it is up, and sends at once what it released: the first messages for each peer that have no RSN
abbrev pub Returns : Lifecycle → Lifecycle → Type 0
Returns (Restoring n) (Up m) = (is_up n ≡ true) × ((first : TheNode) × ((first ≡ up n) × IsUp n first × (m ≡ ticked first) × Acts first m))
Returns (Restoring n) new = (is_up n ≡ false) × (new ≡ Restoring n)
Returns old new = new ≡ old

-- it goes on as far as it can, at most once through each stage, in their order
pub record Passes (old new : Lifecycle) : Type 0 where
  pub told : Lifecycle
  pub ran : Lifecycle
  pub asks : Lifecycle
  pub recovers : Recovers old told
  pub finishes : Finishes told ran
  pub begins : Begun ran asks
  pub returns : Returns asks new

-- all peers have told it, and it still collects
abbrev pub has_heard : Lifecycle → Bool
has_heard (Collecting n) = has_all n
has_heard other = false

-- its replay is over, and it hasn't asked for RSNs yet
abbrev pub has_run : Lifecycle → Bool
has_run (Replayed r) = true
has_run other = false

-- its stage is over, and it is still in it
abbrev pub is_held : Lifecycle → Bool
is_held c = has_heard c || has_run c

-- why it is: memory is refused, or it would keep more messages than a process takes
abbrev pub IsHeld : Cause → Lifecycle → Type 0
IsHeld Memory c = is_held c ≡ true
IsHeld TooMany (Collecting n) = (has_all n ≡ true) × Overruns n
IsHeld TooMany other = ⊥
