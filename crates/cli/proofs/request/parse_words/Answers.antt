use Rattle.std.proofs.Common.{map, subst, sym}
use Rattle.clap.specs.Words.{app_of}
use Rattle.cli.specs.Asks.{AsksBy, order_of}
use Rattle.cli.proofs.RequestLemmas.{asked_in_range, refused, words_taken}
use Rattle.cli.proofs.TakenLemmas.{asks_something}
use Rattle.cli.proofs.request.parse_words.Goals as goal

pub returns-in-Some-clause-request : goal.returns-in-Some-clause-request
returns-in-Some-clause-request g c =
    let words = map g.S.AsStr.text c.args.words.now in
    let taken = words_taken (app_of c.in_ok-command.command) words c.in-Ok.matches c.in_ok-command.ensures c.in-Ok.ensures.kinds c.in-Ok.ensures.matches in
    (taken.0, subst (λ used. AsksBy used (order_of c.in-Some.request)) taken.1 c.in-Some.ensures)

pub returns-in-Some-clause-range : goal.returns-in-Some-clause-range
returns-in-Some-clause-range g c = asked_in_range _ (order_of c.in-Some.request) c.in-Some.ensures

pub unreachable-requires : goal.unreachable-requires
unreachable-requires g c =
    let words = map g.S.AsStr.text c.args.words.now in
    let taken = words_taken (app_of c.in_ok-command.command) words c.in-Ok.matches c.in_ok-command.ensures c.in-Ok.ensures.kinds c.in-Ok.ensures.matches in
    let order = asks_something words taken.0 in
    c.in-None.ensures order.0 (subst (λ used. AsksBy used order.0) (sym taken.1) order.1.1)

pub returns-in-Err-clause-usage : goal.returns-in-Err-clause-usage
returns-in-Err-clause-usage g c =
    refused (app_of c.in_ok-command.command) (map g.S.AsStr.text c.args.words.now) c.in-Err.error c.refusal_of.result c.in_ok-command.ensures
    c.in-Err.ensures.kinds c.refusal_of.ensures
