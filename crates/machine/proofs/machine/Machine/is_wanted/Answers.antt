use Rattle.std.proofs.Common.{sym, ap, ◌∙◌}
use Rattle.std.specs.Prelude.{not}
use Rattle.sender_log.specs.Queue.{is_logged}
use Rattle.sender_log.specs.Log.{TheLog, queue_of}
use Rattle.machine.proofs.Picks.{useful-early, useful-gone, useful-is, last_false, last_true}
use Rattle.machine.proofs.machine.Machine.is_wanted.Goals as goal
use Rattle.machine.proofs.machine.Machine.is_wanted.Goals.{then-ssn-released-via-then-ssn-released, then-ssn-released-via-else-ssn-released+then-not-is_logged}

pub returns-then-ssn-released : goal.returns-then-ssn-released
returns-then-ssn-released c =
    λ w s. sym (elim c.then-ssn-released.branch [
      | then-ssn-released-via-then-ssn-released v ↦ useful-early c.args.self.now w s 0 c.args.from c.args.to c.args.ssn c.requires.peers (rw c.released.ensures at v.if-ssn-released.true)
      | then-ssn-released-via-else-ssn-released+then-not-is_logged v ↦ useful-gone c.args.self.now w s 0 c.args.from c.args.to c.args.ssn c.requires.peers
          (ap (λ (l : TheLog). is_logged c.args.ssn (queue_of c.args.to l)) (sym v.log.ensures.value) ∙ sym v.is_logged.ensures ∙ v.if-not-is_logged.true)
    ])

pub returns-then-not-wants : goal.returns-then-not-wants
returns-then-not-wants c =
    let logged = ap (λ (l : TheLog). is_logged c.args.ssn (queue_of c.args.to l)) (sym c.log.ensures.value) ∙ sym c.is_logged.ensures ∙ c.if-not-is_logged.false in
    let among = rw c.released.ensures at c.if-ssn-released.false in
    λ w s. sym (useful-is c.args.self.now w s 0 c.args.from c.args.to c.args.ssn c.requires.peers logged among ∙ last_false _ _ (sym (c.wants.ensures w s) ∙ c.if-not-wants.true))

pub returns : goal.returns
returns c =
    let logged = ap (λ (l : TheLog). is_logged c.args.ssn (queue_of c.args.to l)) (sym c.log.ensures.value) ∙ sym c.is_logged.ensures ∙ c.if-not-is_logged.false in
    let among = rw c.released.ensures at c.if-ssn-released.false in
    λ w s. sym (useful-is c.args.self.now w s 0 c.args.from c.args.to c.args.ssn c.requires.peers logged among ∙ last_true _ _ (sym (c.wants.ensures w s) ∙ c.if-not-wants.false) ∙ ap not (sym (c.is_on_wire.ensures w s)))
