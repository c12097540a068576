use Rattle.std.proofs.Common.{◌%◌, ◌∙◌, ap, length, List, ℕ}
use Rattle.decode.proofs.Once.{only_these, whole_slots}
use Rattle.decode.proofs.decoder.decode.Goals as goal

pub returns-then-bytes-ne0-clause-only : goal.returns-then-bytes-ne0-clause-only
returns-then-bytes-ne0-clause-only c = λ is fits e. absurd (c.if-bytes-ne0.true (ap (λ (x : List ℕ). length x % 8) e ∙ whole_slots is))

pub returns-clause-only : goal.returns-clause-only
returns-clause-only c = λ is fits e. only_these c.args.bytes.now c.read_all.result is fits e c.read_all.ensures.found c.read_all.ensures.refused
