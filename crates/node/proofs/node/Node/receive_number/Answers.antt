use Rattle.std.proofs.Common.{◌≡◌, ◌<◌, length, refl, sym, ap, ◌∙◌, subst}
use Rattle.std.specs.Prelude.{slice_set}
use Rattle.std.proofs.lemmas.List.{length-set}
use Rattle.node.specs.contracts.node.Node.{the_view}
use Rattle.node.specs.Queue.{no_queue, recorded, is_kept}
use Rattle.node.specs.Node.{TheNode, IsPeer, log_at}
use Rattle.node.specs.Answers.{heard_of}
use Rattle.packets.proofs.Sayable.{acknowledgement-fits}
use Rattle.node.proofs.Sendable.{can-say}
use Rattle.packets.specs.declared.packet.Body.TheVariants.{Acknowledgement}
use Rattle.node.proofs.Changes.{has-place, there-is, no-longer, same-logs, within-still, stale-number, dropped-number, takes-number}
use Rattle.node.proofs.node.Node.receive_number.Goals as goal
use Rattle.node.proofs.node.Node.receive_number.Goals.{then-life-index-via-then-life-index, then-life-index-via-else-life-index+then-not-is_kept}

pub returns-then-life-index : goal.returns-then-life-index
returns-then-life-index c =
    let m : TheNode = the_view c.self.inside in
    let from = c.args.from in
    let inside : from < length m.heard = has-place m.heard m c.args.self.now from c.self.invariant.heard_wide c.self.view_is c.requires.peer.0 in
    let is : c.index.result.now ≡ heard_of from m = there-is m.heard from c.index.result.now 0 inside c.index.ensures in
    let place : from < length m.logs = has-place m.logs m c.args.self.now from c.self.invariant.logs_wide c.self.view_is c.requires.peer.0 in
    elim c.then-life-index.branch [
      | then-life-index-via-then-life-index w ↦ stale-number from c.args.life c.args.ssn c.args.rsn c.index.result.now m c.args.self.now c.self.view_is is w.if-life-index.true
      | then-life-index-via-else-life-index+then-not-is_kept w ↦
          dropped-number from c.args.life c.args.ssn c.args.rsn c.index.result.now w.index-else-life-index.result.now m c.args.self.now c.self.view_is is w.if-life-index.false (there-is m.logs from w.index-else-life-index.result.now no_queue place w.index-else-life-index.ensures) (sym w.is_kept.ensures ∙ w.if-not-is_kept.true)
    ]

pub record-requires-clause-kept : goal.record-requires-clause-kept
record-requires-clause-kept c =
    let m : TheNode = the_view c.self.inside in
    let from = c.args.from in
    let inside : from < length m.logs = has-place m.logs m c.args.self.now from c.self.invariant.logs_wide c.self.view_is c.requires.peer.0 in
    let a = there-is m.logs from c.index_mut.result.now no_queue inside c.index_mut.ensures.value in
    let b = there-is m.logs from c.index-else-life-index.result.now no_queue inside c.index-else-life-index.ensures in
    ap (is_kept c.args.ssn) (a ∙ sym b) ∙ sym c.is_kept.ensures ∙ c.if-not-is_kept.false

pub record-requires-clause-small : goal.record-requires-clause-small
record-requires-clause-small c = c.requires.number.1

pub invariant_of-self : goal.invariant_of-self
invariant_of-self c =
    let m : TheNode = the_view c.self.inside in
    let from = c.args.from in
    let inside : from < length m.logs = has-place m.logs m c.args.self.now from c.self.invariant.logs_wide c.self.view_is c.requires.peer.0 in
    let new = c.record.new.self in
    let is : new ≡ recorded c.args.ssn c.args.rsn (log_at m.logs from) = c.record.ensures ∙ ap (recorded c.args.ssn c.args.rsn) (there-is m.logs from c.index_mut.result.now no_queue inside c.index_mut.ensures.value) in
    within-still m m.heard m.resumed (slice_set m.logs from new) c.self.invariant refl refl (length-set m.logs from new) (no-longer m.logs from new (recorded c.args.ssn c.args.rsn (log_at m.logs from)) inside is (same-logs m.logs from))

pub put-requires : goal.put-requires
put-requires c =
    let m : TheNode = the_view c.self.inside in
    can-say (record m { logs = slice_set m.logs c.args.from c.record.new.self }) c.args.from (Acknowledgement c.args.life c.args.rsn) (subst (λ (n : TheNode). IsPeer n.me n.count c.args.from) (sym c.self.view_is) c.requires.peer) (acknowledgement-fits c.args.life c.args.rsn c.requires.life c.requires.number)

pub returns : goal.returns
returns c =
    let m : TheNode = the_view c.self.inside in
    let from = c.args.from in
    let inside : from < length m.heard = has-place m.heard m c.args.self.now from c.self.invariant.heard_wide c.self.view_is c.requires.peer.0 in
    let is : c.index.result.now ≡ heard_of from m = there-is m.heard from c.index.result.now 0 inside c.index.ensures in
    let place : from < length m.logs = has-place m.logs m c.args.self.now from c.self.invariant.logs_wide c.self.view_is c.requires.peer.0 in
    let log = there-is m.logs from c.index-else-life-index.result.now no_queue place c.index-else-life-index.ensures in
    let new : c.record.new.self ≡ recorded c.args.ssn c.args.rsn (log_at m.logs from) = c.record.ensures ∙ ap (recorded c.args.ssn c.args.rsn) (there-is m.logs from c.index_mut.result.now no_queue place c.index_mut.ensures.value) in
    takes-number from c.args.life c.args.ssn c.args.rsn c.index.result.now c.index-else-life-index.result.now c.record.new.self m c.args.self.now c.put.new.self c.self.view_is is c.if-life-index.false log (sym c.is_kept.ensures ∙ c.if-not-is_kept.false) new c.put.ensures
