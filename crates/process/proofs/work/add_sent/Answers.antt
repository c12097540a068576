use Rattle.std.proofs.Common.{rules, ◌≡◌, ◌∙◌, List, [], ◌∷◌, ◌++◌, take, true, false, ap, sym, arith}
use Rattle.std.proofs.lemmas.Grind.{common_steps}
use Rattle.std.proofs.lemmas.List.{append_assoc}
use Rattle.node.specs.declared.job.Given.{Given}
use Rattle.process.specs.Work.{is_other, sent_by}
use Rattle.process.proofs.Results.{sent-more, sent-same}
use Rattle.process.proofs.work.add_sent.Goals as goal
use Rattle.process.proofs.work.add_sent.Goals.{then-is_other+in_ok-push, else-is_other}

pub loop-sent-preserved : goal.loop-sent-preserved
loop-sent-preserved c =
    let who = c.args.who in
    let xs = c.args.sends.now in
    let k = c.loop-sent.sent-index in
    let s = c.sent-item.result in
    let was = c.args.given.now.items in
    let sofar = sent_by who (take k xs) in
    elim c.if-is_other.branch [
      | then-is_other+in_ok-push w ↦
          let g : Given = record { to = s.dst; payload = s.payload } in
          let e : is_other who s.dst ≡ true = first_of (search rules, grind (arith, common_steps)) in
          let items : c.if-is_other.given.items ≡ c.loop-sent.given.items ++ g ∷ [] = first_of (search rules, grind (arith, common_steps)) in
          items ∙ ap (λ (v : List Given). v ++ g ∷ []) c.loop-sent.invariant ∙ append_assoc was sofar (g ∷ []) ∙ ap (λ (v : List Given). was ++ v) (sym (sent-more who xs k s c.loop-sent-test.true c.sent-item.is e))
      | else-is_other w ↦
          let e : is_other who s.dst ≡ false = first_of (search rules, grind (arith, common_steps)) in
          let items : c.if-is_other.given.items ≡ c.loop-sent.given.items = first_of (search rules, grind (arith, common_steps)) in
          items ∙ c.loop-sent.invariant ∙ ap (λ (v : List Given). was ++ v) (sym (sent-same who xs k s c.loop-sent-test.true c.sent-item.is e))
    ]
