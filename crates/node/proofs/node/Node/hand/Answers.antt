use Rattle.std.proofs.Common.{◌∙◌, sym, refl}
use Rattle.node.proofs.Views.{on-ok}
use Rattle.node.proofs.Handed.{drops, takes, is-peer, is-live, is-ranged, nothing-told, number-range, ask-range, resume-range}
use Rattle.node.proofs.node.Node.hand.Goals as goal

pub returns-then-not-accepts-clause-value : goal.returns-then-not-accepts-clause-value
returns-then-not-accepts-clause-value c = drops c.args.packet.now c.args.self.now (sym c.accepts.ensures ∙ c.if-not-accepts.true)

pub receive_delivery-requires-clause-peer : goal.receive_delivery-requires-clause-peer
receive_delivery-requires-clause-peer c = is-peer c.args.packet.now c.args.self.now (sym c.accepts.ensures ∙ c.if-not-accepts.false)

pub receive_delivery-requires-clause-live : goal.receive_delivery-requires-clause-live
receive_delivery-requires-clause-live c = is-live c.args.packet.now c.args.self.now (sym c.accepts.ensures ∙ c.if-not-accepts.false)

pub receive_number-requires-clause-peer : goal.receive_number-requires-clause-peer
receive_number-requires-clause-peer c = is-peer c.args.packet.now c.args.self.now (sym c.accepts.ensures ∙ c.if-not-accepts.false)

pub receive_number-requires-clause-life : goal.receive_number-requires-clause-life
receive_number-requires-clause-life c = (number-range c.args.packet.now.body c.in-Number.incarnation c.in-Number.ssn c.in-Number.number c.in-Number.is (is-ranged c.args.packet.now c.args.self.now (sym c.accepts.ensures ∙ c.if-not-accepts.false))).0

pub receive_number-requires-clause-number : goal.receive_number-requires-clause-number
receive_number-requires-clause-number c = (number-range c.args.packet.now.body c.in-Number.incarnation c.in-Number.ssn c.in-Number.number c.in-Number.is (is-ranged c.args.packet.now c.args.self.now (sym c.accepts.ensures ∙ c.if-not-accepts.false))).1

pub receive_saved-requires : goal.receive_saved-requires
receive_saved-requires c = (is-peer c.args.packet.now c.args.self.now (sym c.accepts.ensures ∙ c.if-not-accepts.false)).0

pub receive_ask-requires-clause-peer : goal.receive_ask-requires-clause-peer
receive_ask-requires-clause-peer c = is-peer c.args.packet.now c.args.self.now (sym c.accepts.ensures ∙ c.if-not-accepts.false)

pub receive_ask-requires-clause-life : goal.receive_ask-requires-clause-life
receive_ask-requires-clause-life c = (ask-range c.args.packet.now.body c.in-Ask.incarnation c.in-Ask.above c.in-Ask.is (is-ranged c.args.packet.now c.args.self.now (sym c.accepts.ensures ∙ c.if-not-accepts.false))).0

pub receive_ask-requires-clause-above : goal.receive_ask-requires-clause-above
receive_ask-requires-clause-above c = (ask-range c.args.packet.now.body c.in-Ask.incarnation c.in-Ask.above c.in-Ask.is (is-ranged c.args.packet.now c.args.self.now (sym c.accepts.ensures ∙ c.if-not-accepts.false))).1

pub returns-in-Ask-clause-value : goal.returns-in-Ask-clause-value
returns-in-Ask-clause-value c = on-ok c.receive_ask.result _ _ (λ e. e ∙ sym (takes c.args.packet.now c.args.self.now (sym c.accepts.ensures ∙ c.if-not-accepts.false) c.in-Ask.is)) c.receive_ask.ensures.ok

pub returns-in-Ask-clause-err : goal.returns-in-Ask-clause-err
returns-in-Ask-clause-err c = c.receive_ask.ensures.err

pub receive_resume-requires-clause-peer : goal.receive_resume-requires-clause-peer
receive_resume-requires-clause-peer c = is-peer c.args.packet.now c.args.self.now (sym c.accepts.ensures ∙ c.if-not-accepts.false)

pub receive_resume-requires-clause-life : goal.receive_resume-requires-clause-life
receive_resume-requires-clause-life c = (resume-range c.args.packet.now.body c.in-Resume.incarnation c.in-Resume.kept c.in-Resume.above c.in-Resume.is (is-ranged c.args.packet.now c.args.self.now (sym c.accepts.ensures ∙ c.if-not-accepts.false))).0

pub receive_resume-requires-clause-above : goal.receive_resume-requires-clause-above
receive_resume-requires-clause-above c = (resume-range c.args.packet.now.body c.in-Resume.incarnation c.in-Resume.kept c.in-Resume.above c.in-Resume.is (is-ranged c.args.packet.now c.args.self.now (sym c.accepts.ensures ∙ c.if-not-accepts.false))).1

pub returns-in-Resume-clause-value : goal.returns-in-Resume-clause-value
returns-in-Resume-clause-value c = on-ok c.receive_resume.result _ _ (λ e. e ∙ sym (takes c.args.packet.now c.args.self.now (sym c.accepts.ensures ∙ c.if-not-accepts.false) c.in-Resume.is)) c.receive_resume.ensures.ok

pub returns-in-Resume-clause-err : goal.returns-in-Resume-clause-err
returns-in-Resume-clause-err c = c.receive_resume.ensures.err

pub returns-in-Delivery-clause-value : goal.returns-in-Delivery-clause-value
returns-in-Delivery-clause-value c = c.receive_delivery.ensures ∙ sym (takes c.args.packet.now c.args.self.now (sym c.accepts.ensures ∙ c.if-not-accepts.false) c.in-Delivery.is)

pub returns-in-Number-clause-value : goal.returns-in-Number-clause-value
returns-in-Number-clause-value c = c.receive_number.ensures ∙ sym (takes c.args.packet.now c.args.self.now (sym c.accepts.ensures ∙ c.if-not-accepts.false) c.in-Number.is)

pub returns-in-Acknowledgement-clause-value : goal.returns-in-Acknowledgement-clause-value
returns-in-Acknowledgement-clause-value c = c.receive_acknowledgement.ensures ∙ sym (takes c.args.packet.now c.args.self.now (sym c.accepts.ensures ∙ c.if-not-accepts.false) c.in-Acknowledgement.is)

pub returns-in-Saved-clause-value : goal.returns-in-Saved-clause-value
returns-in-Saved-clause-value c = c.receive_saved.ensures ∙ sym (takes c.args.packet.now c.args.self.now (sym c.accepts.ensures ∙ c.if-not-accepts.false) c.in-Saved.is)

pub returns-in_default-clause-value : goal.returns-in_default-clause-value
returns-in_default-clause-value c =
    let x = c.args.packet.now in
    let n = c.args.self.now in
    let d = c.in_default in
    sym (takes x n {b = x.body} (sym c.accepts.ensures ∙ c.if-not-accepts.false) refl ∙ nothing-told x.from x.body n d.not-Delivery d.not-Number d.not-Acknowledgement d.not-Ask d.not-Resume d.not-Saved)
