-- A process that collects as clauses see it, and after each of its calls
use Rattle.std.specs.Prelude.{◌≡◌, ℕ, zero, suc, ◌+◌, List, [], length, replicate, Bool, false, not, ◌&&◌, ◌==◌, nat_lt, nat_le}
use Rattle.std.specs.Prelude.{if◌then◌else◌, slice_index_or, slice_set}
use Rattle.packets.specs.Packet.{is_done, in_range}
use Rattle.packets.specs.declared.page.LoggedMessage.{LoggedMessage}
use Rattle.packets.specs.declared.page.Flags.{Flags}
use Rattle.packets.specs.declared.kept.Kept.{Kept}
use Rattle.packets.specs.declared.packet.Body.{Body}
use Rattle.packets.specs.declared.packet.Body.TheVariants.{Ask, Told}
use Rattle.packets.specs.declared.packet.NodePacket.{NodePacket}
use Rattle.node.specs.declared.limit.Limits.{Limits}
use Rattle.recovery.specs.Own.{TheOwn, IsShort, posts, is_for, hears, learns, own_of}
use Rattle.recovery.specs.Overlap.{heard_of, tells_loss}
use Rattle.recovery.specs.Collected.{TheCollected, none_told, with_page}

-- the process, and by peer what that one has told
pub record TheCollecting : Type 0 where
  pub own : TheOwn
  pub told : List TheCollected

-- what a peer has told
abbrev pub told_of : List TheCollected → ℕ → TheCollected
told_of told q = slice_index_or told q (none_told 0)

-- there is an item for each peer, none is told for itself, and it has sent no more than the messages of its checkpoint caused
pub record IsCollecting (own : TheOwn) (told : List TheCollected) : Type 0 where
  pub wide : length told ≡ suc own.count
  pub heard_wide : length own.heard ≡ suc own.count
  pub lost_wide : length own.lost ≡ suc own.count
  pub short : IsShort own.logs own.base
  -- it has told itself nothing
  pub alone : (told_of told own.me).entries ≡ []

-- asks a peer that hasn't told all for what its log holds above what it told
abbrev pub asks : ℕ → TheCollecting → TheCollecting
asks to n = if (told_of n.told to).done then n else record n { own = posts to (Ask n.own.life (told_of n.told to).cursor) n.own }

-- asks each peer below d so
abbrev pub asks_below : ℕ → ℕ → TheCollecting → TheCollecting
asks_below me zero n = n
asks_below me (suc d) n = if d == me then asks_below me d n else asks d (asks_below me d n)

-- asks all peers
abbrev pub asked : TheCollecting → TheCollecting
asked n = asks_below n.own.me (n.own.count + 1) n

-- a process that was told nothing
abbrev pub begins : Limits → Kept → ℕ → TheCollecting
begins limits k life = record { own = own_of limits k life; told = replicate (k.count + 1) (none_told k.length) }

-- it comes back, and asks all peers
abbrev pub revived : Limits → Kept → ℕ → TheCollecting
revived limits k life = asked (begins limits k life)

-- a page answers the last question: it is to this incarnation, and from an incarnation of the peer that isn't older than the one heard
abbrev pub answers : ℕ → ℕ → ℕ → ℕ → TheCollecting → Bool
answers from i j k n =
    (i == n.own.life) && nat_le (heard_of from n.own) j && not (told_of n.told from).done && (k == (told_of n.told from).cursor)

-- adds the page, and asks the peer for the next one
abbrev pub took_page : ℕ → ℕ → Flags → List LoggedMessage → TheCollecting → TheCollecting
took_page from j flags page n =
    asks from (record {
      own = learns from j flags n.own;
      told = slice_set n.told from (with_page (is_done flags) page (told_of n.told from));
    })

-- hears a newer incarnation of a peer, and asks it anew: that one has told nothing, and not that it lost anything
abbrev pub asks_anew : ℕ → ℕ → TheCollecting → TheCollecting
asks_anew q i n =
    asks q (record {
      own = record (hears q i n.own) { lost = slice_set n.own.lost q false };
      told = slice_set n.told q (none_told n.own.base);
    })

-- takes the Ask of a peer that is recovering too: drops one of an earlier incarnation, and answers any other that all is lost
abbrev pub asked_by : ℕ → ℕ → ℕ → TheCollecting → TheCollecting
asked_by q i k n =
    if nat_lt i (heard_of q n.own) then n
    else (let m : TheCollecting = if nat_lt (heard_of q n.own) i then asks_anew q i n else n in record m { own = tells_loss q i k m.own })

-- takes what another node says: drops all except answers and Asks
abbrev pub heard : ℕ → Body → TheCollecting → TheCollecting
heard from (Told i j k flags entries) n = if in_range (Told i j k flags entries)
    && answers from i j k n then took_page from j flags entries n else n
heard from (Ask i k) n = if in_range (Ask i k) then asked_by from i k n else n
heard from body n = n

-- takes a packet
abbrev pub handed : NodePacket → TheCollecting → TheCollecting
handed x n = if is_for n.own x then heard x.from x.body n else n
