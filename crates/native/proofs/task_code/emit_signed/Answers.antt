use Rattle.std.proofs.Common.{refl, ap, ◌∙◌, ◌++◌}
use Rattle.native.specs.Quotient as specs
use Rattle.native.specs.Code.{gpr, codes}
use Rattle.native.proofs.Emitted.{where_ok}
use Rattle.native.proofs.task_code.emit_signed.Goals as goal

pub returns : goal.returns
returns c =
    let old = c.args.code.now.items in
    let w = c.args.ways in
    where_ok c.write_signed.result c.write_signed.ensures (λ e. (
      specs.signed_code (specs.divisor_code c.args.width c.args.operand) c.args.width (gpr c.args.dst.number) c.args.from w.minus w.minus_size w.none w.none_size,
      refl,
      e
          ∙ ap (λ f. old ++ codes (specs.signed_code f c.args.width c.gpr.result c.args.from w.minus w.minus_size w.none w.none_size)) c.divisor_code-first.ensures.value
          ∙ ap (λ g. old ++ codes (specs.signed_code (specs.divisor_code c.args.width c.args.operand) c.args.width g c.args.from w.minus w.minus_size w.none w.none_size)) c.gpr.ensures,
    ))
