use Rattle.std.proofs.Common.{sym, ap, ◌∙◌}
use Rattle.std.proofs.lemmas.Bool.Decides.{Decides-eqb}
use Rattle.std.proofs.lemmas.Slice.Eq.{slice_eq-Decides}
use Rattle.decode.specs.Encoding.{encoding}
use Rattle.decode.proofs.Once.{encoding_once}
use Rattle.verifier.specs.Span.Typed.{Typed}
use Rattle.verifier.proofs.span.image.SpanImage.same_code.Goals as goal

-- the bytes are the same where the instructions are
pub returns : goal.returns
returns c =
    let ours = c.self.inside in
    let theirs = c.other.inside in
    let k = slice_eq-Decides Decides-eqb ours.bytes.items theirs.bytes.items c.eq.result c.eq.ensures in
    let mine = ap (λ (v : Typed). v.code) c.self.view_is in
    let its = ap (λ (v : Typed). v.code) c.other.view_is in (
      λ yes. sym mine ∙ encoding_once ours.code.items theirs.code.items c.self.invariant.3 c.other.invariant.3 (sym c.self.invariant.4 ∙ k.0 yes ∙ c.other.invariant.4) ∙ its,
      λ e. k.1 (c.self.invariant.4 ∙ ap encoding (mine ∙ e ∙ sym its) ∙ sym c.other.invariant.4),
    )
