use Rattle.session_process.proofs.MailLemmas.{Gave, sends_of, outputs_of}
use Rattle.session_process.proofs.mail.Mail.post_all.Given as goal

abbrev pub invariant-loop-sent : goal.invariant-loop-sent
invariant-loop-sent l = Gave l.rsn l.fn.self l.self (sends_of l.sent-items l.sent-index)

abbrev pub invariant-loop-output : goal.invariant-loop-output
invariant-loop-output l = Gave l.rsn l.fn.self l.self (outputs_of l.effects.sends l.output-items l.output-index)
