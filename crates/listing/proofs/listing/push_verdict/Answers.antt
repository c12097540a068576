use Rattle.listing.proofs.listing.push_verdict.Goals as goal

pub returns-in-Some : goal.returns-in-Some
returns-in-Some c = rw (c.in-Some.is, ← c.number-number.ensures) c.writeln-in-Some.ensures.bytes
