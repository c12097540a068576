use Rattle.std.proofs.Common.{◌≡◌, ◌++◌, length, length-append, ap, ◌∙◌, arith}
use Rattle.limits.specs.declared.TheConstants.{SEATS}
use Rattle.sessions.specs.Seats.{answered_by}
use Rattle.workers.specs.Runs.{manned, unmanned}
use Rattle.workers.proofs.SeatsFrom.{all-taken, length-unmanned, length-manned, answered_by-append}
use Rattle.workers.proofs.runs.man.Goals as goal
use Rattle.workers.proofs.runs.man.Goals.{After-audit}
use Rattle.workers.proofs.runs.man.Given.{Over}

taken : (g : Over) (c : After-audit g) → c.sit_from-3.new.seats.items ≡ unmanned c.args.workers c.args.session.now.seats ++ manned c.args.workers c.args.session.now.seats
taken g c =
    all-taken c.args.session.now.seats c.sit_from.new.session.seats c.sit_from-2.new.session.seats c.args.workers c.args.seats.now.items c.sit_from.new.seats.items c.sit_from-2.new.seats.items c.sit_from-3.new.seats.items
    c.requires.can.few c.requires.none c.sit_from.ensures.seats c.sit_from.ensures.others c.sit_from-2.ensures.seats c.sit_from-2.ensures.others c.sit_from-3.ensures.seats

pub returns-clause-seats : goal.returns-clause-seats
returns-clause-seats g c = c.audit.ensures.seats ∙ taken g (goal.at.returns-clause-seats g c).After-audit

pub returns-clause-others : goal.returns-clause-others
returns-clause-others g c = length-unmanned c.args.session.now.seats c.args.workers c.requires.can.whole c.requires.can.few c.requires.places

pub returns-clause-theirs : goal.returns-clause-theirs
returns-clause-theirs g c = length-manned c.args.session.now.seats c.args.workers c.requires.can.whole c.requires.can.few c.requires.places

pub returns-clause-answered : goal.returns-clause-answered
returns-clause-answered g c =
    let n = c.args.workers in
    let seats = c.args.session.now.seats in
    let is = taken g (goal.at.returns-clause-answered g c).After-audit in
    let others = length-unmanned seats n c.requires.can.whole c.requires.can.few c.requires.places in
    let theirs = length-manned seats n c.requires.can.whole c.requires.can.few c.requires.places in
    let all : length c.sit_from-3.new.seats.items ≡ SEATS = omega (arith, ap length is, length-append (unmanned n seats) (manned n seats), others, theirs, c.requires.can.few) in
    let entries = c.sit_from-3.ensures.entries ∙ c.sit_from-2.ensures.entries ∙ c.sit_from.ensures.entries in
    omega (arith, ap length entries, c.audit.ensures.all all, ap answered_by is, answered_by-append (unmanned n seats) (manned n seats))
