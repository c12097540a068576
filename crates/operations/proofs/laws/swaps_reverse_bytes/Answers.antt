use Rattle.operations.proofs.ByteLemmas.{byte_at-reversed}
use Rattle.operations.proofs.laws.swaps_reverse_bytes.Goals as goal

pub returns : goal.returns
returns c = byte_at-reversed
