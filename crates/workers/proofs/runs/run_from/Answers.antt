use Rattle.std.proofs.Common.{◌≡◌, ◌+◌, ◌-◌, length, length-append, sym, ap, ◌∙◌, subst, arith}
use Rattle.limits.specs.declared.TheConstants.{SEATS}
use Rattle.sessions.specs.Seats.{answered_by}
use Rattle.sessions.specs.Shares.{answers_of}
use Rattle.workers.specs.Shares.{AreServed}
use Rattle.workers.specs.Runs.{manned, unmanned}
use Rattle.workers.specs.Continues.{Continues}
use Rattle.workers.proofs.Continuation.{continues-of}
use Rattle.workers.proofs.Served.{length-served, take-others, drop-others}
use Rattle.workers.proofs.runs.run_from.Goals as goal
use Rattle.workers.proofs.runs.run_from.Goals.{After-settled}
use Rattle.workers.proofs.runs.run_from.Given.{Over}

pub serve_all-crew-requires-clause-seats : goal.serve_all-crew-requires-clause-seats
serve_all-crew-requires-clause-seats g c κs within =
    let seats = c.args.session.seats in
    omega (arith, ap length c.man.ensures.seats, length-append (unmanned c.args.workers seats) (manned c.args.workers seats), c.man.ensures.theirs)

served : (g : Over) (c : After-settled g) → AreServed c.args.budget (manned c.args.workers c.args.session.seats) c.settled.result.shares.items
served g c =
    let seats = c.args.session.seats in
    let n = c.args.workers in
    let cut = drop-others (unmanned n seats) (manned n seats) c.man.new.seats.items n c.man.ensures.seats c.man.ensures.theirs in
    subst (AreServed c.args.budget (manned n seats)) (sym c.settled.ensures.shares)
    (subst (λ l. AreServed c.args.budget l c.serve_all-crew.result.shares.items) cut c.serve_all-crew.ensures.shares)

others : (g : Over) (c : After-settled g) → c.settled.result.seats.items ≡ unmanned c.args.workers c.args.session.seats
others g c =
    let seats = c.args.session.seats in
    let n = c.args.workers in
    c.settled.ensures.seats ∙ c.serve_all-crew.ensures.seats ∙ take-others (unmanned n seats) (manned n seats) c.man.new.seats.items n c.man.ensures.seats c.man.ensures.theirs

total : (g : Over) (c : After-settled g) → length c.settled.result.session.entries ≡ answers_of c.settled.result.shares.items + answered_by c.settled.result.seats.items
total g c =
    let seats = c.args.session.seats in
    let n = c.args.workers in
    let shares : length c.serve_all-crew.result.shares.items ≡ n =
    ap length (sym c.settled.ensures.shares) ∙ length-served c.args.budget (manned n seats) c.settled.result.shares.items (served g c) ∙ c.man.ensures.theirs in
    let rest : length c.serve_all-crew.result.seats.items ≡ SEATS - n = ap length (sym c.settled.ensures.seats) ∙ ap length (others g c) ∙ c.man.ensures.others in
    let all : length c.serve_all-crew.result.shares.items + length c.serve_all-crew.result.seats.items ≡ SEATS = omega (arith, shares, rest, c.if-not-is_ready.ensures.can.few) in
    omega (arith, c.settled.ensures.all all, ap answers_of c.settled.ensures.shares, ap answered_by c.settled.ensures.seats)

pub returns-clause-can : goal.returns-clause-can
returns-clause-can g c = c.if-not-is_ready.ensures.can

pub returns-clause-served : goal.returns-clause-served
returns-clause-served g c = served g (goal.at.returns-clause-served g c).After-settled

pub returns-clause-others : goal.returns-clause-others
returns-clause-others g c = others g (goal.at.returns-clause-others g c).After-settled

pub returns-clause-all : goal.returns-clause-all
returns-clause-all g c = total g (goal.at.returns-clause-all g c).After-settled

pub returns-clause-grew : goal.returns-clause-grew
returns-clause-grew g c =
    let at = (goal.at.returns-clause-grew g c).After-settled in
    omega (arith, total g at, ap answered_by (others g at), c.man.ensures.answered)

pub returns-clause-continues : goal.returns-clause-continues
returns-clause-continues g c =
    let start = g.B.Start.session in
    let left = c.into_inner-session.result in
    let end = c.settled.result.session in
    let all : Continues start left.session = continues-of start left.session left.images left.entries left.allowed in
    let here : Continues c.args.session left.session = subst (λ s. Continues s left.session) (sym c.requires.start) all in
    subst (Continues c.args.session) (sym c.settled.ensures.session) here
