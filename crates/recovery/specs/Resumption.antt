-- A suspended node is resumed from its bytes
use Rattle.std.specs.Prelude.{◌≡◌, ℕ, suc, ◌≤◌, List, [], length, map, None, Bool, true, false, nat_lt, Result, Ok, Err, ⊤}
use Rattle.limits.specs.declared.TheConstants.{STATE_BYTES}
use Rattle.packets.specs.declared.fault.PacketError.{PacketError}
use Rattle.packets.specs.declared.fault.PacketError.TheVariants as read
use Rattle.packets.specs.declared.kept.Kept.{Kept}
use Rattle.packets.specs.Inside.Reader.{◌>>=◌, Reader, bytes_at, byte_at, number_at, both, times}
use Rattle.node.specs.declared.limit.Limits.{Limits}
use Rattle.node.specs.declared.suspension.Unsuspended.{Unsuspended}
use Rattle.node.specs.declared.suspension.Unsuspended.TheVariants as kept
use Rattle.node.specs.Queue.{no_queue}
use Rattle.node.specs.Node.{TheNode, IsPositive}
use Rattle.node.specs.Suspension.{flag_byte, codes_of, joined_by, numbered_by, IsSuspended, woken}
use Rattle.recovery.specs.declared.resumption.Unresumed.{Unresumed}
use Rattle.recovery.specs.declared.resumption.Unresumed.TheVariants.{Memory, Bytes}
use Rattle.recovery.specs.declared.rest.Rest.{Rest}
use Rattle.recovery.specs.Own.{with_own, comes_back, queue_of}

-- ---- reading

-- a length, and that many bytes
unfoldable pub text_at : Reader (List ℕ)
text_at bytes = number_at 8 bytes >>= λ len. bytes_at len.0 len.1

-- how many codes, and each
unfoldable pub codes_at : Reader (List ℕ)
codes_at bytes = number_at 8 bytes >>= λ count. times (number_at 8) count.0 count.1

-- what a node of so many peers, itself included, has beside its kept state
unfoldable pub rest_at : ℕ → Reader Rest
rest_at wide bytes =
    both (number_at 8) (both byte_at (both (times (number_at 8) wide) (both (bytes_at wide) (times codes_at wide)))) bytes >>= λ x.
    Ok (record { life = x.0.0; exact = x.0.1.0; heard = x.0.1.1.0; resumed = x.0.1.1.1.0; codes = x.0.1.1.1.1 }, x.1)

-- a field that can't be read is one of no suspended node
abbrev pub unread : PacketError → Unresumed
unread read.Memory = Memory
unread (read.Fault f) = Bytes

-- so is a node that can't be suspended
abbrev pub unmade : Unsuspended → Unresumed
unmade kept.Memory = Memory
unmade other = Bytes

-- P holds of what was found, unless memory ran out
abbrev pub Finds : {X : Type 0} → (X → Type 0) → Result X Unresumed → Type 0
Finds P (Ok x) = P x
Finds P (Err Memory) = ⊤
Finds P (Err Bytes) = ⊥

-- ---- the node

-- a yes or no that was read
abbrev pub is_set : ℕ → Bool
is_set b = nat_lt 0 b

-- what a node has beside its kept state, as it is read
abbrev pub rest_of : TheNode → Rest
rest_of n =
    record { life = n.life; exact = flag_byte n.exact; heard = n.heard; resumed = map flag_byte n.resumed; codes = map codes_of n.logs }

-- these make a node
pub record MakesNode (k : Kept) (r : Rest) : Type 0 where
  pub comes : comes_back k ≡ true
  pub short : length k.state ≤ STATE_BYTES
  pub alive : IsPositive r.life
  pub heard_wide : length r.heard ≡ suc k.count
  pub resumed_wide : length r.resumed ≡ suc k.count
  pub codes_wide : length r.codes ≡ suc k.count

-- the node that they make: it received nothing since its checkpoint, and all that it sent is released
abbrev pub made : Limits → Kept → Rest → TheNode
made limits k r =
    record {
      limits = limits;
      me = k.me;
      count = k.count;
      life = r.life;
      state = k.state;
      base = k.length;
      covered = with_own 0 k.me k.counts;
      receipts = record { senders = []; acknowledged = [] };
      logs = joined_by numbered_by r.codes (with_own no_queue k.me (map queue_of k.logs));
      waiting = 0;
      heard = r.heard;
      resumed = map is_set r.resumed;
      exact = is_set r.exact;
      working = None;
      frozen = false;
      out = [];
    }

-- ---- laws

-- bytes are those of one suspended node at most, but for its limits and the packets that waited
abbrev pub IsOneNode : Type 0
IsOneNode = (limits : Limits) (m n : TheNode) (bytes : List ℕ) → IsSuspended m bytes → IsSuspended n bytes
    → woken limits m ≡ woken limits n
