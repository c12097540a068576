-- A node that is suspended: when it may be, its bytes, and the node that is resumed from them
use Rattle.std.specs.Prelude.{◌≡◌, ℕ, ◌+◌, ◌-◌, ◌^◌, List, [], ◌∷◌, ◌++◌, length, map, Option, Some, None, is_some, Bool, true, false}
use Rattle.std.specs.Prelude.{◌&&◌, ◌==◌, nat_lt, nat_le, if◌then◌else◌, ⊤}
use Rattle.std.specs.List.{flat_map, list_all, AllByRecursion}
use Rattle.packets.specs.Format.{long_bytes, sealed, IsLong}
use Rattle.packets.specs.Kept.{kept_bytes, KeptFits}
use Rattle.cluster.specs.Cluster.{Cluster}
use Rattle.node.specs.declared.limit.Limits.{Limits}
use Rattle.node.specs.declared.suspension.Unsuspended.{Unsuspended}
use Rattle.node.specs.declared.suspension.Unsuspended.TheVariants.{Memory, Frozen, Busy, Uncovered}
use Rattle.node.specs.Queue.{TheQueue, IsQueue}
use Rattle.node.specs.Node.{TheNode, Within, log_at}
use Rattle.node.specs.Kept.{kept_of}
use Rattle.node.specs.Stands.{Stands}

-- ---- its bytes

-- "SBN2"
abbrev pub suspension_magic : List ℕ
suspension_magic = 0x53 ∷ 0x42 ∷ 0x4E ∷ 0x32 ∷ []

-- a yes or no
abbrev pub flag_byte : Bool → ℕ
flag_byte false = 0
flag_byte true = 1

-- one more than an RSN, or 0 if none is known
abbrev pub number_code : Option ℕ → ℕ
number_code None = 0
number_code (Some k) = k + 1

-- the codes of a log's RSNs
abbrev pub codes_of : TheQueue → List ℕ
codes_of q = map number_code q.numbers

-- how many codes there are, and each
abbrev pub codes_bytes : List ℕ → List ℕ
codes_bytes codes = long_bytes (length codes) ++ flat_map long_bytes codes

-- what its kept state doesn't have: its incarnation; whether it is exact; by peer the incarnation that it heard, and whether it obeyed the
-- Resume of that one; by destination the RSNs of the messages that it keeps
abbrev pub rest_bytes : TheNode → List ℕ
rest_bytes n = long_bytes n.life
    ++ (flag_byte n.exact ∷ [] ++ (flat_map long_bytes n.heard ++ (map flag_byte n.resumed ++ flat_map codes_bytes (map codes_of n.logs))))

-- magic, its kept state after the length of that, the rest, and the checksum of all that
abbrev pub suspended_bytes : TheNode → List ℕ
suspended_bytes n =
    sealed (suspension_magic ++ (long_bytes (length (kept_bytes (kept_of n))) ++ (kept_bytes (kept_of n) ++ rest_bytes n)))

-- ---- when it may be suspended

-- all of a log is released
abbrev pub is_sent : TheQueue → Bool
is_sent q = q.released == q.dropped + length q.payloads

-- nothing was ever logged
abbrev pub is_unused : TheQueue → Bool
is_unused q = (q.dropped == 0) && (length q.payloads == 0)

-- its checkpoint covers all that it received and sent; to itself it sends nothing
abbrev pub is_covered : TheNode → Bool
is_covered n = (length n.receipts.senders == 0) && list_all is_sent n.logs && is_unused (log_at n.logs n.me)

-- what a queue keeps by its type
abbrev pub IsWhole : TheQueue → Type 0
IsWhole q = IsQueue q.dropped q.payloads q.numbers q.released q.held

-- its fields fit their bytes
pub record IsWritable (n : TheNode) : Type 0 where
  pub kept : KeptFits (kept_of n)
  pub small : IsLong (length (kept_bytes (kept_of n)))
  pub flags : length n.receipts.acknowledged ≡ length n.receipts.senders
  pub heard : AllByRecursion IsLong n.heard
  pub logs : AllByRecursion IsWhole n.logs

-- it is up, and its checkpoint, which is durable, covers all
pub record CanSuspend (n : TheNode) : Type 0 where
  pub live : n.frozen ≡ false
  pub idle : is_some n.working ≡ false
  pub covered : is_covered n ≡ true
  pub fits : IsWritable n

-- these are the bytes of this suspended node
pub record IsSuspended (n : TheNode) (bytes : List ℕ) : Type 0 where
  pub within : Within n
  pub can : CanSuspend n
  pub bytes_are : bytes ≡ suspended_bytes n

-- why it isn't suspended
abbrev pub IsUnsuspended : Unsuspended → TheNode → Type 0
IsUnsuspended Memory n = ⊤
IsUnsuspended Frozen n = n.frozen ≡ true
IsUnsuspended Busy n = is_some n.working ≡ true
IsUnsuspended Uncovered n = is_covered n ≡ false

-- ---- when it is resumed

-- the same node with these limits, without the packets that waited
abbrev pub woken : Limits → TheNode → TheNode
woken limits n = record n { limits = limits; out = [] }

-- f joins each item of a list with the item of the other one at its place
abbrev pub joined_by : {X Y : Type 0} → (X → Y → Y) → List X → List Y → List Y
joined_by f [] ys = ys
joined_by f (x ∷ xs) [] = []
joined_by f (x ∷ xs) (y ∷ ys) = f x y ∷ joined_by f xs ys

-- the RSN of a code
abbrev pub number_of_code : ℕ → Option ℕ
number_of_code code = if nat_lt 0 code && nat_le code (2 ^ 63) then Some (code - 1) else None

-- the queue with the RSNs of these codes
abbrev pub numbered_by : List ℕ → TheQueue → TheQueue
numbered_by codes q = record q { numbers = joined_by (λ code _. number_of_code code) codes q.numbers }

-- a suspended node that is resumed, whatever its limits, agrees with each cluster with which it agreed; if it is durable there, it must be
-- so by its limits
abbrev pub WokenStands : Type 0
WokenStands = (n : TheNode) (limits : Limits) (c : Cluster) (p : ℕ) → (c.durable p ≡ true → limits.durable ≡ true) → CanSuspend n
    → Stands n c p → Stands (woken limits n) c p
