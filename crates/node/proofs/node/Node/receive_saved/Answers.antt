use Rattle.std.proofs.Common.{◌≡◌, ◌<◌, length, refl, ap, ◌∙◌}
use Rattle.std.specs.Prelude.{slice_set}
use Rattle.std.proofs.lemmas.List.{length-set}
use Rattle.node.specs.contracts.node.Node.{the_view}
use Rattle.node.specs.Queue.{TheQueue, no_queue, dropped_to}
use Rattle.node.specs.Node.{TheNode, log_at}
use Rattle.node.specs.Calls.{dropped_by}
use Rattle.node.proofs.Changes.{has-place, there-is, no-longer, drops-some, within-still}
use Rattle.node.proofs.node.Node.receive_saved.Goals as goal

pub invariant_of-self : goal.invariant_of-self
invariant_of-self c =
    let from = c.args.from in
    let m : TheNode = the_view c.self.inside in
    let new = c.drop_to.new.self in
    let inside : from < length m.logs = has-place m.logs m c.args.self.now from c.self.invariant.logs_wide c.self.view_is c.requires in
    let is : new ≡ dropped_to c.args.covered (log_at m.logs from) = c.drop_to.ensures ∙ ap (dropped_to c.args.covered) (there-is m.logs from c.index_mut.result.now no_queue inside c.index_mut.ensures.value) in
    within-still m m.heard m.resumed (slice_set m.logs from new) c.self.invariant refl refl (length-set m.logs from new) (no-longer m.logs from new (dropped_to c.args.covered (log_at m.logs from)) inside is (drops-some c.args.covered (log_at m.logs from)))

pub returns : goal.returns
returns c =
    let from = c.args.from in
    let m : TheNode = the_view c.self.inside in
    let new = c.drop_to.new.self in
    let inside : from < length m.logs = has-place m.logs m c.args.self.now from c.self.invariant.logs_wide c.self.view_is c.requires in
    let is : new ≡ dropped_to c.args.covered (log_at m.logs from) = c.drop_to.ensures ∙ ap (dropped_to c.args.covered) (there-is m.logs from c.index_mut.result.now no_queue inside c.index_mut.ensures.value) in
    ap (λ (z : TheQueue). record m { logs = slice_set m.logs from z }) is ∙ ap (dropped_by from c.args.covered) c.self.view_is
