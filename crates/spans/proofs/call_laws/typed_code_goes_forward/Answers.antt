use Rattle.std.proofs.Common.{◌≡◌, ◌+◌, pos, ◌+ℤ◌, ◌<ℤ◌, subst}
use Rattle.decode.specs.Distance.{distance}
use Rattle.spans.proofs.Typing.{abs_later}
use Rattle.spans.proofs.call_laws.typed_code_goes_forward.Goals as goal

pub returns : goal.returns
returns c state count code table s f i typed t e =
    let a = typed.each s f t in
    let same : a.insn ≡ i = let there = a.there in cc in
    abs_later s (pos (s + 1) +ℤ distance i) (subst (λ j. pos s <ℤ (pos (s + 1) +ℤ distance j)) same a.later)
