use Rattle.std.proofs.Common.{◌≡◌, []}
use Rattle.gateway.specs.Written.{Waits}
use Rattle.gateway.proofs.Intake.{some-of, takes-first}
use Rattle.gateway.proofs.gateway.Gateway.take_bytes.Goals as goal

pub returns-clause-some : goal.returns-clause-some
returns-clause-some c =
    let g = c.args.self.now in
    let w : Waits c.in-Some.field-0-0 c.in-Some.bytes.items g = some-of c.in_ok-bytes.field-0 (c.in-Some.field-0-0, c.in-Some.bytes) (g.out ≡ []) (λ v. Waits v.0 v.1.items g) c.in-Some.is c.in_ok-bytes.ensures in
    (w.0, w.3, takes-first c.take.result g c.take.new.self w.0 w.1 w.2 c.take.ensures)
