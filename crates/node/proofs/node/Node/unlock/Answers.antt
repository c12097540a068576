use Rattle.std.proofs.Common.{◌≡◌, ◌<◌, length, refl, sym, ap, ◌∙◌}
use Rattle.std.specs.Prelude.{slice_set}
use Rattle.std.proofs.lemmas.List.{length-set}
use Rattle.node.specs.contracts.node.Node.{the_view}
use Rattle.node.specs.Queue.{TheQueue, no_queue, released_by}
use Rattle.node.specs.Node.{TheNode, log_at}
use Rattle.node.specs.Transmission.{freed, unlocked}
use Rattle.node.proofs.Changes.{has-place, there-is, no-longer, same-logs, within-still}
use Rattle.node.proofs.node.Node.unlock.Goals as goal

pub invariant_of-self : goal.invariant_of-self
invariant_of-self c =
    let to = c.args.to in
    let m : TheNode = the_view c.self.inside in
    let inside : to < length m.logs = has-place m.logs m c.args.self.now to c.self.invariant.logs_wide c.self.view_is c.requires in
    let new = c.release.new.self in
    let run = c.freed-freed.result in
    let is : new ≡ released_by run (log_at m.logs to) = c.release.ensures ∙ ap (released_by run) (there-is m.logs to c.index_mut.result.now no_queue inside c.index_mut.ensures.value) in
    within-still m m.heard m.resumed (slice_set m.logs to new) c.self.invariant refl refl (length-set m.logs to new) (no-longer m.logs to new (released_by run (log_at m.logs to)) inside is (same-logs m.logs to))

pub returns-clause-before : goal.returns-clause-before
returns-clause-before c =
    let to = c.args.to in
    let m : TheNode = the_view c.self.inside in
    let inside : to < length m.logs = has-place m.logs m c.args.self.now to c.self.invariant.logs_wide c.self.view_is c.requires in
    c.released-before.ensures.value ∙ ap (λ (q : TheQueue). q.released) (there-is m.logs to c.index.result.now no_queue inside c.index.ensures) ∙ ap (λ (z : TheNode). (log_at z.logs to).released) c.self.view_is

pub returns-clause-after : goal.returns-clause-after
returns-clause-after c =
    let to = c.args.to in
    let m : TheNode = the_view c.self.inside in
    let inside : to < length m.logs = has-place m.logs m c.args.self.now to c.self.invariant.logs_wide c.self.view_is c.requires in
    let new = c.release.new.self in
    let run = c.freed-freed.result in
    let is : new ≡ released_by run (log_at m.logs to) = c.release.ensures ∙ ap (released_by run) (there-is m.logs to c.index_mut.result.now no_queue inside c.index_mut.ensures.value) in
    let by : run ≡ freed m = c.freed-freed.ensures ∙ ap freed (sym c.self.view_is) in
    ap (λ (z : TheQueue). record m { logs = slice_set m.logs to z }) (is ∙ ap (λ z. released_by z (log_at m.logs to)) by) ∙ ap (unlocked to) c.self.view_is
