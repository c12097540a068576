use Rattle.std.proofs.Common.{◌≡◌, ◌-◌, length, sym, ap, ◌∙◌, arith, subst}
use Rattle.std.specs.Prelude.{slice_get, Some, None}
use Rattle.std.proofs.lemmas.List.{length-take-le}
use Rattle.std.proofs.lemmas.Option.{slice_get_within}
use Rattle.send_gate.specs.declared.gate.Held.{Held}
use Rattle.session_process.specs.Mail.{ArePosted}
use Rattle.session_process.proofs.MailLemmas.{top, bottom, top-destination, top-number, top-under}
use Rattle.session_process.proofs.mail.Mail.withdraw_last.Goals as goal

pub retract-requires-in-Some-clause-dst : goal.retract-requires-in-Some-clause-dst
retract-requires-in-Some-clause-dst c =
    top-destination c.args.rsn c.requires.0 c.args.self.now c.in-Some.held
    (top c.args.rsn c.requires.0 c.args.self.now c.in-Some.held c.requires.1 (sym c.last.ensures ∙ c.in-Some.is) c.if-held-rsn.true)

pub retract-requires-in-Some-clause-number : goal.retract-requires-in-Some-clause-number
retract-requires-in-Some-clause-number c =
    top-number c.args.rsn c.requires.0 c.args.self.now c.in-Some.held
    (top c.args.rsn c.requires.0 c.args.self.now c.in-Some.held c.requires.1 (sym c.last.ensures ∙ c.in-Some.is) c.if-held-rsn.true)

pub returns-in-Some : goal.returns-in-Some
returns-in-Some c =
    let waiting = c.args.self.now.gate.waiting in
    let last : slice_get waiting (length waiting - 1) ≡ Some c.in-Some.held = sym c.last.ensures ∙ c.in-Some.is in
    let inside = slice_get_within waiting (length waiting - 1) c.in-Some.held last in
    let rest = ap (λ g. length g.waiting) c.retract.ensures ∙ length-take-le (length waiting - 1) waiting (omega arith) in (
      omega (arith, rest, inside),
      λ m f. let t = top c.args.rsn m c.args.self.now c.in-Some.held f last c.if-held-rsn.true in
          let under = (λ i. record { log = c.retract-in-Some.ensures i; gate = c.retract.ensures i }) ∙ top-under c.args.rsn m c.args.self.now c.in-Some.held t in
          record { below = f.below; letters = t.letters; posted_are = subst (ArePosted c.args.rsn t.letters m) (sym under) t.posted_are },
    )

pub returns-in_default : goal.returns-in_default
returns-in_default c = λ m f. bottom c.args.rsn m c.args.self.now f (λ held e same. c.if-held-rsn.false (let is : Some held ≡ Some c.in-Some.held = sym e ∙ sym c.last.ensures ∙ c.in-Some.is in let both : held ≡ c.in-Some.held = cc in sym (ap (λ (h : Held). h.rsn) both) ∙ same))

pub returns-in_default-2 : goal.returns-in_default-2
returns-in_default-2 c = λ m f. bottom c.args.rsn m c.args.self.now f (λ held e same. let is : Some held ≡ None = sym e ∙ sym c.last.ensures ∙ c.in_default.is in absurd cc)
