use Rattle.std.proofs.Common.{◌≡◌, ◌∙◌, ◌++◌, string_bytes, ap, arith, refl}
use Rattle.limits.specs.declared.TheConstants.{REGISTERS}
use Rattle.listing.specs.Listing.{register_text, texts_below}
use Rattle.listing.proofs.Texts.{texts_more, texts_none}
use Rattle.listing.proofs.Written.{behind}
use Rattle.listing.proofs.listing.push_known.Goals as goal

pub loop-number-init : goal.loop-number-init
loop-number-init c = texts_none (register_text c.args.study.now c.args.whys.now c.args.insn.now c.in-Some.view) (string_bytes c.args.out.now)

pub loop-number-preserved : goal.loop-number-preserved
loop-number-preserved c =
    texts_more (register_text c.args.study.now c.args.whys.now c.args.insn.now c.in-Some.view) c.loop-number.number (string_bytes c.args.out.now) _ _ c.loop-number.invariant c.in_ok-push_register.ensures

pub returns : goal.returns
returns c =
    let old = string_bytes c.args.out.now in
    let text = register_text c.args.study.now c.args.whys.now c.args.insn.now c.in-Some.view in
    let n : c.loop-number.number ≡ REGISTERS = omega arith in
    let all : string_bytes c.loop-number.out ≡ old ++ texts_below text REGISTERS = c.loop-number.invariant ∙ ap (λ k. old ++ texts_below text k) n in
    rw c.in-Some.is (behind c.push_stack.result old (texts_below text REGISTERS) (string_bytes c.loop-number.out) _ (string_bytes c.push_stack.new.out) _ all refl c.push_stack.ensures)
