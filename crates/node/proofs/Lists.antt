-- Lists
use Rattle.std.proofs.Common.{◌≡◌, ℕ, ◌+◌, List, [], ◌∷◌, ◌++◌, length, arith}
use Rattle.std.specs.Prelude.{Bool, true, false, nat_lt, if◌then◌else◌}
use Rattle.packets.specs.declared.packet.NodePacket.{NodePacket}
use Rattle.packets.specs.declared.outbox.TheConstants.{OUTBOX}
use Rattle.packets.specs.Outbox.{pushed}
use Rattle.world.specs.declared.message.Message.{Message}
use Rattle.world.specs.History.{count_of}
use Rattle.node.specs.Stands.{Each}

-- what holds of all holds of them where less was asked
pub all-more : {X : Type 0} (P Q : X → Type 0) (xs : List X) → ((x : X) → P x → Q x) → Each P xs → Each Q xs
all-more P Q [] f h = tt
all-more P Q (x ∷ xs) f h = (f x h.0, all-more P Q xs f h.1)

pub all-push : {X : Type 0} (P : X → Type 0) (xs : List X) (x : X) → Each P xs → P x → Each P (xs ++ x ∷ [])
all-push P [] x h e = (e, tt)
all-push P (y ∷ xs) x h e = (h.0, all-push P xs x h.1 e)

-- a packet more, where there is room
pub all-pushed : (P : NodePacket → Type 0) (xs : List NodePacket) (x : NodePacket) → Each P xs → P x → Each P (pushed x xs)
all-pushed P xs x h e = by_room (nat_lt (length xs) OUTBOX)
  where
    by_room : (b : Bool) → Each P (if b then xs ++ x ∷ [] else xs)
    by_room true = all-push P xs x h e
    by_room false = h

pub count-append : (s : ℕ) (g h : List Message) → count_of s (g ++ h) ≡ count_of s g + count_of s h
count-append s [] h = omega arith
count-append s (m ∷ g) h = let e : count_of s (g ++ h) ≡ count_of s g + count_of s h = count-append s g h in omega (arith, e)
