use Rattle.std.proofs.Common.{◌≡◌, ◌+◌, ◌-◌, ap, ◌∙◌, arith}
use Rattle.checkpoint.specs.Saved.{TheSaved}
use Rattle.checkpoint.specs.Inside.Stored.{saved_in}
use Rattle.checkpoint.proofs.StoredLemmas.{state_at}
use Rattle.checkpoint.proofs.stored.Stored.state.Goals as goal

pub returns : goal.returns
returns c =
    let n = c.self.inside.state_len in
    let bytes = c.self.inside.bytes.items in
    let less : 12 + n - 12 ≡ n = omega arith in
    rw (less, c.deref.ensures.value) (state_at (saved_in bytes) bytes n c.self.invariant.is c.self.invariant.state_is) ∙ ap (λ (s : TheSaved). s.state) c.self.view_is
