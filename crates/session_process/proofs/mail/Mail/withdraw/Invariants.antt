use Rattle.std.proofs.Common.{length}
use Rattle.session_process.specs.declared.mail.Mail.{Mail}
use Rattle.session_process.specs.Mail.{Follows}
use Rattle.session_process.proofs.mail.Mail.withdraw.Given as goal

abbrev pub invariant-loop : goal.invariant-loop
invariant-loop l = record { some : (m : Mail) × Follows l.rsn m l.self; all : (m : Mail) → Follows l.rsn m l.fn.self → Follows l.rsn m l.self }

abbrev pub decreases-loop : goal.decreases-loop
decreases-loop l = length l.self.gate.waiting
