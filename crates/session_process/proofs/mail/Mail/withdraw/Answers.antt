use Rattle.session_process.proofs.mail.Mail.withdraw.Goals as goal

pub returns : goal.returns
returns c = λ m f. c.loop-test.ensures m (c.loop.invariant.all m f)
