-- The packets of a bundle (docs/FORMATS.md, "Bundle"), and what is done with each
use Rattle.std.specs.Prelude.{◌≡◌, ◌≢◌, ◌⊎◌, ℕ, ◌+◌, ◌^◌, ◌<◌, ◌≤◌, List, [], ◌∷◌, ◌++◌, length, Option}
use Rattle.std.specs.List.{flat_map, AllByRecursion}
use Rattle.byteorder.specs.Endian.{little_bytes}
use Rattle.operations.specs.Bytes.{overwritten}
use Rattle.c_handles.specs.Buffer.{IsCopied}
use Rattle.c_handles.specs.declared.bundle.BundleTally.{BundleTally}

-- ---- their bytes

-- its length isn't 0, and fits two bytes
abbrev pub IsPart : List ℕ → Type 0
IsPart packet = (0 < length packet) × (length packet < 2 ^ 16)

-- a packet after its length
abbrev pub part_bytes : List ℕ → List ℕ
part_bytes packet = little_bytes 2 (length packet) ++ packet

-- the bytes are those of these packets, one after another
pub record IsBundle (packets : List (List ℕ)) (bytes : List ℕ) : Type 0 where
  pub each : AllByRecursion IsPart packets
  pub bytes_are : bytes ≡ flat_map part_bytes packets

-- its length fits two bytes, and both fit a buffer of this size from a place on
abbrev pub FitsFrom : ℕ → ℕ → List ℕ → Type 0
FitsFrom at size packet = (length packet < 2 ^ 16) × (at + (2 + length packet) ≤ size)

-- they don't fit an empty bundle in the buffer, which is unchanged, and the length of the bundle of this packet is written
abbrev pub IsUnfit : List ℕ → List ℕ → List ℕ → ℕ → Type 0
IsUnfit packet old new size = (¬ FitsFrom 0 (length old) packet) × (new ≡ old) × (size ≡ 2 + length packet)

-- no packet is at their front
abbrev pub BeginsWithNone : List ℕ → Type 0
BeginsWithNone bytes = (packet rest : List ℕ) → IsPart packet → ¬ (bytes ≡ part_bytes packet ++ rest)

-- ---- what is done with each

-- something is done with each of these, from the first on
abbrev pub InOrder : {X S : Type 0} → (X → S → S → Type 0) → List X → S → S → Type 0
InOrder Does [] old new = new ≡ old
InOrder {S = S} Does (x ∷ xs) old new = (mid : S) × Does x old mid × InOrder Does xs mid new

-- nothing is counted
abbrev pub none_counted : BundleTally
none_counted = record { taken = 0; refused = 0; lost = 0 }

-- one packet more
abbrev pub one_taken : BundleTally → BundleTally
one_taken t = record t { taken = t.taken + 1 }

abbrev pub one_refused : BundleTally → BundleTally
one_refused t = record t { refused = t.refused + 1 }

abbrev pub one_lost : BundleTally → BundleTally
one_lost t = record t { lost = t.lost + 1 }

-- what a handle holds, and what was counted
abbrev pub Counting : Type 0 → Type 0
Counting S = Option S × BundleTally

-- this is done with each packet of the bundle in these bytes, from the first on, and so many were taken and not taken
abbrev pub IsReceivedAll : {S : Type 0} → (List ℕ → Counting S → Counting S → Type 0) → List ℕ → BundleTally → Option S → Option S → Type 0
IsReceivedAll Does bundle tally old new =
    (packets : List (List ℕ)) × IsBundle packets bundle × InOrder Does packets (old, none_counted) (new, tally)

-- so it is with the packets at the front of some bytes
pub record IsFrontReceived {S : Type 0} (Does : List ℕ → Counting S → Counting S → Type 0) (bytes : List ℕ) (old new : Option S)
    (tally : BundleTally) : Type 0 where
  pub packets : List (List ℕ)
  pub rest : List ℕ
  pub each : AllByRecursion IsPart packets
  pub joined : bytes ≡ flat_map part_bytes packets ++ rest
  pub none : BeginsWithNone rest
  pub done : InOrder Does packets (old, none_counted) (new, tally)

-- ---- packets out

-- the first packet that waits is taken: the buffer begins with its bytes
abbrev pub GivesFirst : {S : Type 0} → (ℕ → List ℕ → S → S → Type 0) → List ℕ → List ℕ → ℕ → ℕ → S → S → Type 0
GivesFirst Gives out out' size to old new = (bytes : List ℕ) × Gives to bytes old new × IsCopied bytes out out' size

-- the first packets that wait are taken, which all go to this process: the buffer begins with the packets of a bundle
pub record GivesAll {S : Type 0} (Gives : ℕ → List ℕ → S → S → Type 0) (out out' : List ℕ) (size to count : ℕ) (old new : S) : Type 0 where
  pub packets : List (List ℕ)
  pub bundle : List ℕ
  pub some : 0 < count
  pub count_is : count ≡ length packets
  pub given : InOrder (Gives to) packets old new
  pub is_bundle : IsBundle packets bundle
  pub copied : IsCopied bundle out out' size

-- no packet more is taken that goes to this process: none waits, the next one goes elsewhere, or it doesn't fit a buffer of this size from
-- a place on
abbrev pub IsNoMore : Type 0 → (ℕ → List ℕ → Type 0) → ℕ → ℕ → ℕ → Type 0
IsNoMore None Waits to at size = None ⊎ ((next : ℕ) × (packet : List ℕ) × Waits next packet × ((next ≢ to) ⊎ ¬ FitsFrom at size packet))

-- the first packet that waits is taken, which goes to this process: it is written from a place on, and ends there
pub record GivesNext {S : Type 0} (Gives : ℕ → List ℕ → S → S → Type 0) (out out' : List ℕ) (at end to : ℕ) (old new : S) : Type 0 where
  pub packet : List ℕ
  pub some : 0 < length packet
  pub fits : FitsFrom at (length out) packet
  pub given : Gives to packet old new
  pub written : out' ≡ overwritten out at (part_bytes packet)
  pub end_is : end ≡ at + length (part_bytes packet)
