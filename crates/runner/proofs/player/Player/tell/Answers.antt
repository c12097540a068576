use Rattle.std.proofs.Common.{◌≡◌, ◌∙◌, ◌-◌, ◌++◌, List, None, ap, append_assoc, drop, length, replicate, rules}
use Rattle.std.proofs.lemmas.Result.{on_ok_weaker}
use Rattle.world.specs.declared.entry.Entry.{Entry}
use Rattle.runner.specs.Inside.{position_of}
use Rattle.runner.specs.Orders.{world_at}
use Rattle.runner.specs.Run.{refused_moment, sent_in}
use Rattle.runner.proofs.player.Player.tell.Goals as goal

pub returns : goal.returns
returns c =
    let old = c.args.notes.now.moments.items in
    let so = c.args.notes.now.sent.items in
    let here = position_of c.args.self.now in
    let next = position_of c.heed.new.self in
    let line = c.args.step.now.line in
    let refused = c.in_ok-refused.refused in
    let added : c.saturating_sub.result ≡ length next.entries - length here.entries = search rules in
    let before : c.journal-before.result.now ≡ here.entries = c.journal-before.ensures.entries in
    let moments =
    c.in_ok-note_refusal.ensures ∙ ap (λ ms. ms ++ refused_moment line refused) c.in_ok-note_calls.ensures
    ∙ append_assoc old (replicate c.saturating_sub.result (line, None)) (refused_moment line refused)
    ∙ ap (λ n. old ++ (replicate n (line, None) ++ refused_moment line refused)) added in
    on_ok_weaker c.note_sent.result (λ written. (
      refused,
      c.in_ok-refused.ensures,
      moments,
      written ∙ ap (λ es. so ++ sent_in (world_at next) es) c.added.ensures ∙ ap (λ (es : List Entry). so ++ sent_in (world_at next) (drop (length es) next.entries)) before,
    )) c.note_sent.ensures
