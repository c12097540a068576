use Rattle.std.proofs.Common.{◌≡◌, ◌<◌, length, true, refl, ap, ◌∙◌}
use Rattle.std.specs.Prelude.{slice_set}
use Rattle.std.proofs.lemmas.List.{length-set}
use Rattle.node.specs.contracts.node.Node.{the_view}
use Rattle.node.specs.Queue.{no_queue, forgotten_above}
use Rattle.node.specs.Node.{TheNode, log_at}
use Rattle.node.proofs.Changes.{has-place, there-is, no-longer, same-logs, within-still, obeyed, obeyed-before}
use Rattle.node.proofs.node.Node.obey.Goals as goal

pub invariant_of-self : goal.invariant_of-self
invariant_of-self c =
    let m : TheNode = the_view c.self.inside in
    let from = c.args.from in
    let inside : from < length m.logs = has-place m.logs m c.args.self.now from c.self.invariant.logs_wide c.self.view_is c.requires in
    let new = c.forget_above.new.self in
    let is : new ≡ forgotten_above c.args.kept (log_at m.logs from) = c.forget_above.ensures ∙ ap (forgotten_above c.args.kept) (there-is m.logs from c.index_mut.result.now no_queue inside c.index_mut.ensures.value) in
    within-still m m.heard (slice_set m.resumed from true) (slice_set m.logs from new) c.self.invariant refl (length-set m.resumed from true) (length-set m.logs from new) (no-longer m.logs from new (forgotten_above c.args.kept (log_at m.logs from)) inside is (same-logs m.logs from))

pub returns-then-not-index : goal.returns-then-not-index
returns-then-not-index c =
    let m : TheNode = the_view c.self.inside in
    let from = c.args.from in
    let inside : from < length m.logs = has-place m.logs m c.args.self.now from c.self.invariant.logs_wide c.self.view_is c.requires in
    let new = c.forget_above.new.self in
    let is : new ≡ forgotten_above c.args.kept (log_at m.logs from) = c.forget_above.ensures ∙ ap (forgotten_above c.args.kept) (there-is m.logs from c.index_mut.result.now no_queue inside c.index_mut.ensures.value) in
    let place : from < length m.resumed = has-place m.resumed m c.args.self.now from c.self.invariant.resumed_wide c.self.view_is c.requires in
    obeyed from c.args.kept c.index.result.now new m c.args.self.now c.self.view_is (there-is m.resumed from c.index.result.now true place c.index.ensures) c.if-not-index.true is

pub returns-else-not-index : goal.returns-else-not-index
returns-else-not-index c =
    let m : TheNode = the_view c.self.inside in
    let from = c.args.from in
    let inside : from < length m.resumed = has-place m.resumed m c.args.self.now from c.self.invariant.resumed_wide c.self.view_is c.requires in
    obeyed-before from c.args.kept c.index.result.now m c.args.self.now c.self.view_is (there-is m.resumed from c.index.result.now true inside c.index.ensures) c.if-not-index.false
