-- A process that restores its RSNs as clauses see it, and after each of its calls
use Rattle.std.specs.Prelude.{◌≡◌, ℕ, zero, suc, ◌+◌, List, [], length, map, replicate, Bool, true, false, not, ◌&&◌, ◌||◌, ◌==◌, nat_lt}
use Rattle.std.specs.Prelude.{nat_le, if◌then◌else◌, slice_index_or, slice_set}
use Rattle.std.specs.List.{list_all}
use Rattle.rsn.specs.Receipts.{Received}
use Rattle.world.specs.Phases.{those}
use Rattle.packets.specs.Packet.{flags_of, is_done, in_range}
use Rattle.packets.specs.declared.page.Pair.{Pair}
use Rattle.packets.specs.declared.page.Flags.{Flags}
use Rattle.packets.specs.declared.packet.Body.{Body}
use Rattle.packets.specs.declared.packet.Body.TheVariants.{Ask, Resume, Restored}
use Rattle.packets.specs.declared.packet.NodePacket.{NodePacket}
use Rattle.node.specs.Node.{TheNode}
use Rattle.packets.specs.Says.{last_behind}
use Rattle.recovery.specs.Own.{TheOwn, posts, is_for, hears}
use Rattle.recovery.specs.Replayed.{TheReplayed}
use Rattle.recovery.specs.Overlap.{heard_of}
use Rattle.recovery.specs.Overlap as meeting
use Rattle.recovery.specs.Intake.{keeps, sent_to, takes_in, trusts, returns}

-- the process, and what it received after its checkpoint; by peer the SSN up to which that one told the RSNs, and whether it told all
pub record TheRestoring : Type 0 where
  pub own : TheOwn
  pub receipts : Received
  pub above : List ℕ
  pub answered : List Bool

-- there is an item for each peer, and it doesn't wait for itself
pub record IsRestoring (own : TheOwn) (above : List ℕ) (answered : List Bool) : Type 0 where
  pub wide : length above ≡ suc own.count
  pub answered_wide : length answered ≡ suc own.count
  pub heard_wide : length own.heard ≡ suc own.count
  pub logs_wide : length own.logs ≡ suc own.count
  pub alone : slice_index_or answered own.me true ≡ true

-- the process as it was after its replay
abbrev pub replayed_of : TheRestoring → TheReplayed
replayed_of n = record { own = n.own; receipts = n.receipts }

-- the SSN up to which a peer told the RSNs
abbrev pub above_of : ℕ → TheRestoring → ℕ
above_of q n = slice_index_or n.above q 0

-- whether a peer has told all
abbrev pub has_answered : ℕ → TheRestoring → Bool
has_answered q n = slice_index_or n.answered q true

-- the processes that haven't told all
abbrev pub left : TheRestoring → List ℕ
left n = those (λ q. not (has_answered q n)) n.own.count

-- asks a peer that hasn't told all for what it has after what it told
abbrev pub asks : ℕ → TheRestoring → TheRestoring
asks to n = if has_answered to n then n else record n { own = posts to (Resume n.own.life (keeps (replayed_of n)) (above_of to n)) n.own }

-- asks each peer below d so
abbrev pub asks_below : ℕ → TheRestoring → TheRestoring
asks_below zero n = n
asks_below (suc d) n = asks d (asks_below d n)

-- asks all peers
abbrev pub asked : TheRestoring → TheRestoring
asked n = asks_below (n.own.count + 1) n

-- a process that was told nothing; it doesn't wait for peers that said that they lost what they had
abbrev pub begins : TheReplayed → TheRestoring
begins r =
    record {
      own = r.own;
      receipts = r.receipts;
      above = replicate (r.own.count + 1) 0;
      answered = slice_set r.own.lost r.own.me true;
    }

-- it asks all peers
abbrev pub begun : TheReplayed → TheRestoring
begun r = asked (begins r)

-- the SSN of the last pair, or s if there is none
abbrev pub last_ssn : ℕ → List Pair → ℕ
last_ssn s pairs = last_behind s (map (λ (x : Pair). x.ssn) pairs)

-- a page answers the last question: it is to this incarnation, and from an incarnation of the peer that isn't older than the one heard
abbrev pub is_reply : ℕ → ℕ → ℕ → ℕ → TheRestoring → Bool
is_reply from i j s n = (i == n.own.life) && nat_le (slice_index_or n.own.heard from 0) j && not (has_answered from n)
    && (s == above_of from n)

-- and it tells of no more messages than were sent to that peer
abbrev pub answers : ℕ → ℕ → ℕ → ℕ → ℕ → List Pair → TheRestoring → Bool
answers from i j covered s pairs n = is_reply from i j s n && nat_le covered (sent_to from n.own)
    && nat_le (last_ssn 0 pairs) (sent_to from n.own)

-- the gateway answers by one page: one of it that isn't the last is dropped
abbrev pub is_whole : ℕ → Flags → Bool
is_whole from flags = not (from == 0) || is_done flags

-- takes a page of a process: it is the last one, or asks for the next
abbrev pub told : ℕ → ℕ → ℕ → ℕ → Flags → List Pair → TheRestoring → TheRestoring
told from j covered s flags pairs n =
    if is_done flags
    then record n { own = trusts flags (hears from j (takes_in from covered pairs n.own)); answered = slice_set n.answered from true }
    else asks from (record n {
      own = trusts flags (hears from j (takes_in from covered pairs n.own));
      above = slice_set n.above from (last_ssn s pairs);
    })

-- takes the answer of the gateway: how many outputs it has, and no RSNs
abbrev pub greeted : ℕ → Flags → TheRestoring → TheRestoring
greeted covered flags n = record n { own = trusts flags (takes_in 0 covered [] n.own); answered = slice_set n.answered 0 true }

-- takes the page of a peer
abbrev pub page_of : ℕ → ℕ → ℕ → ℕ → Flags → List Pair → TheRestoring → TheRestoring
page_of from j covered s flags pairs n = if from == 0 then greeted covered flags n else told from j covered s flags pairs n

-- a page that tells of more than was sent: failures overlapped, and what was sent then is lost here, so the process is no longer exact
abbrev pub doubted : TheRestoring → TheRestoring
doubted n = record n { own = trusts (flags_of true false false) n.own }

-- the process, no longer exact if a page doesn't fit
abbrev pub unless_doubted : Bool → TheRestoring → TheRestoring
unless_doubted fits n = if fits then n else doubted n

-- a peer is recovering too: waits for it, and will ask it anew
abbrev pub waits_anew : ℕ → TheRestoring → TheRestoring
waits_anew q n = record n { above = slice_set n.above q 0; answered = slice_set n.answered q false }

-- takes its Ask: drops one of an earlier incarnation, and answers any other that all is lost
abbrev pub asked_by : ℕ → ℕ → ℕ → TheRestoring → TheRestoring
asked_by q i k n =
    let m : TheRestoring = if nat_lt (heard_of q n.own) i then waits_anew q n else n in
    record m { own = meeting.asked_by q i k n.own }

-- takes what another node says: drops all except answers and Asks
abbrev pub heard : ℕ → Body → TheRestoring → TheRestoring
heard from (Restored i j covered s flags pairs) n =
    if in_range (Restored i j covered s flags pairs) && is_reply from i j s n && is_whole from flags
    then (if answers from i j covered s pairs n then page_of from j covered s flags pairs n
    else doubted (page_of from j covered s flags pairs n)) else n
heard from (Ask i k) n = if in_range (Ask i k) then asked_by from i k n else n
heard from body n = n

-- takes a packet
abbrev pub handed : NodePacket → TheRestoring → TheRestoring
handed x n = if is_for n.own x then heard x.from x.body n else n

-- all have answered, the gateway too
abbrev pub is_up : TheRestoring → Bool
is_up n = list_all (λ b. b) n.answered

-- the node that it becomes
abbrev pub up : TheRestoring → TheNode
up n = returns n.answered (replayed_of n)
