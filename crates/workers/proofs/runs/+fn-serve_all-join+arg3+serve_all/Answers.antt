use Rattle.std.proofs.Common.{rules, ◌≡◌, ◌≤◌, ◌+◌, ◌-◌, [], ◌∷◌, ◌++◌, length, length-append, drop, sym, ap, ◌∙◌, subst, arith}
use Rattle.workers.specs.Shares.{AreServed, IsServed}
use Rattle.workers.proofs.Served.{AreServed-push, drop-push}
use Rattle.workers.proofs.runs.+fn-serve_all-join+arg3+serve_all.Goals as goal

pub returns-clause-shares : goal.returns-clause-shares
returns-clause-shares g t c =
    let before = c.args.crew.seats.items in
    let rest = c.pop.new.self.items in
    let seat = c.in-Some.seat in
    let shares = c.join-share.result.1.shares.items in
    let split : before ≡ rest ++ seat ∷ [] = c.in-Some.ensures.items in
    let k = length rest - (c.args.workers - 1) in
    let some = c.if-workers-eq0.false in
    let many : length before ≡ length rest + 1 = omega (arith, ap length split, length-append rest (seat ∷ [])) in
    let place : length before - c.args.workers ≡ k = omega (arith, many, some, c.requires.seats) in
    let within : k ≤ length rest = omega arith in
    let cut : drop (length before - c.args.workers) before ≡ drop k rest ++ seat ∷ [] = ap (λ j. drop j before) place ∙ ap (drop k) split ∙ drop-push k rest seat within in
    let served : AreServed c.args.budget (drop k rest) shares = search rules in
    let one : IsServed c.args.budget seat c.join-share.result.0 = search rules in
    subst (λ l. AreServed c.args.budget l c.push_reserved.new.self.items) (sym cut)
    (subst (AreServed c.args.budget (drop k rest ++ seat ∷ [])) (sym c.push_reserved.ensures.items)
    (AreServed-push c.args.budget (drop k rest) shares seat c.join-share.result.0 served one))
