use Rattle.std.proofs.Common.{refl, ap, ◌∙◌, ◌++◌}
use Rattle.native.specs.Quotient as specs
use Rattle.native.specs.Code.{gpr, codes}
use Rattle.native.proofs.Emitted.{where_ok}
use Rattle.native.proofs.task_code.emit_quotient.Goals as goal

pub returns : goal.returns
returns c =
    let old = c.args.code.now.items in
    where_ok c.write_quotient.result c.write_quotient.ensures (λ e. (
      specs.quotient_code (specs.divisor_code c.args.width c.args.operand) c.args.width (gpr c.args.dst.number) c.args.from c.args.none c.args.size,
      refl,
      e
          ∙ ap (λ f. old ++ codes (specs.quotient_code f c.args.width c.gpr.result c.args.from c.args.none c.args.size)) c.divisor_code-first.ensures.value
          ∙ ap (λ g. old ++ codes (specs.quotient_code (specs.divisor_code c.args.width c.args.operand) c.args.width g c.args.from c.args.none c.args.size)) c.gpr.ensures,
    ))
