use Rattle.packets.proofs.WholeLemmas.{one_packet}
use Rattle.packets.proofs.laws.one_packet.Goals as goal

pub returns : goal.returns
returns c = one_packet
