use Rattle.std.proofs.Common.{rules, ◌≡◌, ◌≤◌, ◌<◌, ◌+◌, length, true, refl, sym, ap, ◌∙◌, subst, arith}
use Rattle.std.specs.Prelude.{nat_lt, nat_le}
use Rattle.std.proofs.lemmas.Bool.Decides.{nat_tests}
use Rattle.node.specs.Queue.{TheQueue, is_kept}
use Rattle.node.specs.Node.{TheNode, log_at}
use Rattle.node.specs.Transmission.{first_to_send, many_to_send}
use Rattle.node.proofs.Sendings.{only-sends}
use Rattle.node.proofs.node.Node.send.Goals as goal

pub deliver-requires-clause-to : goal.deliver-requires-clause-to
deliver-requires-clause-to c =
    let count : c.loop-sent.self.count ≡ c.args.self.now.count = ap (λ (n : TheNode). n.count) (c.loop-sent.invariant ∙ only-sends c.args.to c.to_be_sent-first.result.0 c.loop-sent.sent c.args.self.now) in
    let me : c.loop-sent.self.me ≡ c.args.self.now.me = ap (λ (n : TheNode). n.me) (c.loop-sent.invariant ∙ only-sends c.args.to c.to_be_sent-first.result.0 c.loop-sent.sent c.args.self.now) in
    (omega (arith, c.requires.0, count), λ e. c.requires.1 (e ∙ me))

pub deliver-requires-clause-kept : goal.deliver-requires-clause-kept
deliver-requires-clause-kept c =
    let old = c.args.self.now in
    let to = c.args.to in
    let q : TheQueue = log_at old.logs to in
    let first = c.to_be_sent-first.result.0 in
    let many = c.to_be_sent-first.result.1 in
    let ssn = first + c.loop-sent.sent + 1 in
    let logs : log_at c.loop-sent.self.logs to ≡ log_at old.logs to = ap (λ (n : TheNode). log_at n.logs to) (c.loop-sent.invariant ∙ only-sends to first c.loop-sent.sent old) in
    let a : first ≡ first_to_send c.args.above (log_at old.logs to) = c.to_be_sent-first.ensures.first in
    let b : many ≡ many_to_send old.limits.tick c.args.above (log_at old.logs to) = c.to_be_sent-first.ensures.many in
    let inside : c.loop-sent.sent < many = first_of (omega arith, search rules) in
    let above : (log_at old.logs to).dropped < first + c.loop-sent.sent + 1 = omega (arith, a) in
    let below : first + c.loop-sent.sent + 1 ≤ (log_at old.logs to).dropped + length (log_at old.logs to).payloads = omega (arith, a, b, inside, c.to_be_sent-first.ensures.sent) in
    let x : nat_lt (log_at old.logs to).dropped (first + c.loop-sent.sent + 1) ≡ true = grind (arith, nat_tests) in
    let y : nat_le (first + c.loop-sent.sent + 1) ((log_at old.logs to).dropped + length (log_at old.logs to).payloads) ≡ true = grind (arith, nat_tests) in
    let kept : is_kept (first + c.loop-sent.sent + 1) (log_at old.logs to) ≡ true = rw (x, y) refl in
    let P : TheQueue → Type 0 = λ z. is_kept (first + c.loop-sent.sent + 1) z ≡ true in
    subst P (sym logs) kept
