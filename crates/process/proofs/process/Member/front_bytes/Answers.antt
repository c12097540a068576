use Rattle.std.proofs.Common.{rules, ◌≡◌, false, List, ◌∷◌, arith}
use Rattle.std.proofs.lemmas.Grind.{common_steps}
use Rattle.packets.specs.declared.packet.NodePacket.{NodePacket}
use Rattle.process.specs.Process.{out_of}
use Rattle.recovery.specs.Transitions.{is_node}
use Rattle.process.proofs.Rooms.{written-fits}
use Rattle.process.proofs.Writes.{first-written}
use Rattle.process.proofs.process.Member.front_bytes.Goals as goal

pub written-requires-in-Some-front : goal.written-requires-in-Some-front
written-requires-in-Some-front c =
    let lifecycle = c.self.inside.lifecycle in
    let x = c.in-Some-front.packet.now in
    let down : is_node lifecycle ≡ false = first_of (search rules, grind (arith, common_steps)) in
    let front : (rest : List NodePacket) × (out_of lifecycle ≡ x ∷ rest) = first_of (search rules, grind (arith, common_steps)) in
    written-fits x (first-written lifecycle x front.0 down c.self.invariant.writes front.1)
