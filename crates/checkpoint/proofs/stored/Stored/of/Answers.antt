use Rattle.std.proofs.Common.{length, ap, sym}
use Rattle.checkpoint.proofs.StoredLemmas.{is_stored, saved_again}
use Rattle.checkpoint.proofs.stored.Stored.of.Goals as goal

pub invariant_of-result : goal.invariant_of-result
invariant_of-result c =
    is_stored c.args.saved.now c.in_ok-bytes.bytes.items (length c.state-state_len.result.now) c.length-received.result c.in_ok-bytes.ensures (sym (ap length c.state-state_len.ensures.value)) (sym c.length-received.ensures.value)

pub returns : goal.returns
returns c = saved_again c.args.saved.now c.in_ok-bytes.bytes.items c.in_ok-bytes.ensures
