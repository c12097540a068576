-- The worked list of calls of hosts of two durable processes that meet
use Rattle.std.proofs.Common.{inl, [], ◌∷◌, refl, arith}
use Rattle.std.specs.Prelude.{Some}
use Rattle.packets.specs.Packet.{entries_in_range, pairs_in_range}
use Rattle.node.specs.Limit.{usual, AreAllowed}
use Rattle.node.specs.Node.{new_node}
use Rattle.node.specs.Kept.{kept_of}
use Rattle.recovery.proofs.Reports as collecting
use Rattle.recovery.proofs.ReplayLemmas.{collecting-takes}
use Rattle.recovery.specs.declared.lifecycle.Lifecycle.TheVariants.{Collecting}
use Rattle.node_laws.specs.WorkedOverlap.{lasting, loss, hears, learns, HostsMeet}
use Rattle.node_laws.specs.WorkedBeside.{ask, comes}
use Rattle.node_laws.specs.WorkedMessages.{collects}
use Rattle.node_laws.proofs.WorkedMessages.{early}
use Rattle.node_laws.proofs.Worked.{revives-as}
use Rattle.node_laws.proofs.WorkedBeside.{first, second, may-open, still-collects}

lasting-allowed : AreAllowed lasting
lasting-allowed = record { page = (omega arith, omega arith); tick = omega arith; numbers = (omega arith, omega arith); receipts = (omega arith, omega arith) }

pub hosts-meet : HostsMeet
unfolding entries_in_range pairs_in_range
hosts-meet images initial page tick bytes may =
    record {
      opens = may-open images lasting initial bytes lasting-allowed may;
      calls = (first, (second, ((first, (refl, (early, revives-as (images 1) lasting (kept_of (new_node usual 1 2 initial)) (bytes 1) 2 (may 1 first).1 refl (may 1 first).0))), ((second, (refl, (early, revives-as (images 2) lasting (kept_of (new_node usual 2 2 initial)) (bytes 2) 2 (may 2 second).1 refl (may 2 second).0))), ((second, record { image = refl; does = collecting-takes (Some (ask 2 0)) (comes lasting 2 initial) (ask 2 1 ∷ []) refl }), ((second, record { image = refl; does = collecting-takes (Some (ask 2 1)) (collects (ask 2 1 ∷ []) (comes lasting 2 initial)) [] refl }), ((first, (inl refl, record { image = refl; mid = Collecting (hears initial); does = (refl, collecting.handing (comes lasting 1 initial) (ask 2 1) refl refl refl); passes = still-collects (hears initial) })), ((first, record { image = refl; does = collecting-takes (Some (ask 1 0)) (hears initial) (ask 1 2 ∷ ask 1 2 ∷ loss ∷ []) refl }), ((first, record { image = refl; does = collecting-takes (Some (ask 1 2)) (collects (ask 1 2 ∷ ask 1 2 ∷ loss ∷ []) (hears initial)) (ask 1 2 ∷ loss ∷ []) refl }), ((first, record { image = refl; does = collecting-takes (Some (ask 1 2)) (collects (ask 1 2 ∷ loss ∷ []) (hears initial)) (loss ∷ []) refl }), ((first, record { image = refl; does = collecting-takes (Some loss) (collects (loss ∷ []) (hears initial)) [] refl }), ((second, (inl refl, record { image = refl; mid = Collecting (learns initial); does = (refl, collecting.handing (collects [] (comes lasting 2 initial)) loss refl refl refl); passes = still-collects (learns initial) })), tt))))))))))));
      durable = λ p. (tt, (tt, (λ e. refl, (λ e. refl, (tt, (tt, (tt, (tt, (tt, (tt, (tt, (tt, tt))))))))))));
      inexact = refl;
    }
