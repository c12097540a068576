use Rattle.std.proofs.Common.{length}
use Rattle.std.specs.Fmt.{decimal}
use Rattle.scenario.specs.Inside.Reads.{Both, HasBits, IsParty, spaced}
use Rattle.scenario.specs.Order.{party_text}
use Rattle.scenario.specs.Process.{names_of}
use Rattle.scenario.proofs.Names.{party_lacks}
use Rattle.scenario.proofs.Pairs.{no_left, no_right, no_space}
use Rattle.scenario.proofs.pair.party_and_message.Goals as goal

pub returns-in_err-name : goal.returns-in_err-name
returns-in_err-name c =
    let names = names_of c.args.processes.now in
    rw c.from_residual.ensures (no_space (party_text names) (spaced (party_text names) decimal) (IsParty (length names)) (Both (IsParty (length names)) (HasBits 32)) c.args.text.now c.in_err-name.ensures)

pub returns-in_err-sender : goal.returns-in_err-sender
returns-in_err-sender c =
    let names = names_of c.args.processes.now in
    let cut = c.in_ok-name.ensures in
    rw c.from_residual-in_err-sender.ensures (no_left (party_text names) (spaced (party_text names) decimal) (IsParty (length names)) (Both (IsParty (length names)) (HasBits 32)) c.args.text.now (λ p fits. party_lacks names p c.requires.named) c.in_ok-name.name.now c.in_ok-name.message.now cut.0 cut.1 c.in_err-sender.ensures)

pub returns-in_err-rest : goal.returns-in_err-rest
returns-in_err-rest c =
    let names = names_of c.args.processes.now in
    let cut = c.in_ok-name.ensures in
    rw c.from_residual-in_err-rest.ensures (no_right (party_text names) (spaced (party_text names) decimal) (IsParty (length names)) (Both (IsParty (length names)) (HasBits 32)) c.args.text.now (λ p fits. party_lacks names p c.requires.named) c.in_ok-name.name.now c.in_ok-name.message.now cut.0 cut.1 c.in_err-rest.ensures)
