use Rattle.std.proofs.Common.{rules, ◌≡◌, ◌<◌, arith, sym, ap, ◌∙◌}
use Rattle.std.proofs.lemmas.Grind.{common_steps}
use Rattle.world.specs.Useful.{belongs, is_at}
use Rattle.world.specs.History.{rsn_of}
use Rattle.std.specs.Prelude.{Some}
use Rattle.machine.specs.Simulation.{process_at}
use Rattle.machine.proofs.Picks.{belongs-told}
use Rattle.machine.proofs.machine.Machine.belongs.Goals as goal

pub returns-then-incarnation : goal.returns-then-incarnation
returns-then-incarnation c =
    let receiver : c.in-Acknowledgement.receiver ≡ c.args.to = first_of (search rules, grind (arith, common_steps)) in
    let sender : c.in-Acknowledgement.sender ≡ c.args.from = first_of (search rules, grind (arith, common_steps)) in
    let incarnation : c.in-Acknowledgement.incarnation ≡ (process_at c.args.self.now c.args.to).incarnation = first_of (search rules, grind (arith, common_steps)) in
    let inside : 0 < c.args.to = first_of (search rules, grind (arith, common_steps)) in
    let same : c.eq.result ≡ is_at c.number_of.result c.in-Acknowledgement.rsn = first_of (search rules, grind (arith, common_steps)) in
    λ w s. same ∙ ap (λ o. is_at o c.in-Acknowledgement.rsn) (c.number_of.ensures.value w s ∙ ap (λ d. rsn_of (w.history d) c.args.from c.args.ssn) receiver)
    ∙ sym (belongs-told c.args.self.now w s c.args.from c.args.to c.args.ssn inside c.requires.peers.to_within c.in-Acknowledgement.sender c.in-Acknowledgement.receiver c.in-Acknowledgement.rsn c.in-Acknowledgement.incarnation receiver sender incarnation)
    ∙ ap (λ k. belongs w c.args.from c.args.to c.args.ssn (Some k)) (sym c.in-Acknowledgement.is)
