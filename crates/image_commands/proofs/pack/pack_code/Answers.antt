use Rattle.std.proofs.Common.{◌≡◌, ◌≤◌, arith, length, rules, subst}
use Rattle.block_order.specs.Ordered.{IsFileOf}
use Rattle.verifier.specs.ImageFile.{IsUnwritten}
use Rattle.decode.specs.Encoding.{encoding}
use Rattle.image_commands.proofs.FaultLemmas.{becomes}
use Rattle.image_commands.proofs.PackLemmas.{bytes_refused, code_unwritten}
use Rattle.image_commands.proofs.pack.pack_code.Goals as goal

pub returns-in_err-insns-clause-refused : goal.returns-in_err-insns-clause-refused
returns-in_err-insns-clause-refused c =
    let short : length c.args.code.now ≤ 8192 = omega arith in
    becomes c.from_residual.result _ _ c.from_residual.ensures.1
    (λ f is. bytes_refused c.args.code.now c.in_err-insns.field-0.0 f short c.in_err-insns.ensures.refused is)

pub returns-in_err-packed-clause-refused : goal.returns-in_err-packed-clause-refused
returns-in_err-packed-clause-refused c =
    let code : c.as_slice.result.now ≡ c.in_ok-insns.insns.items = search rules in
    becomes c.from_residual-in_err-packed.result _ _ c.from_residual-in_err-packed.ensures.1
    (λ f is. code_unwritten c.args.code.now c.in_ok-insns.insns.items c.in_err-packed.field-0.0 f c.in_ok-insns.ensures.slots
    (subst (λ is. IsUnwritten is c.in_err-packed.field-0.0) code c.in_err-packed.ensures.refused) is)

pub returns-clause-written : goal.returns-clause-written
returns-clause-written c =
    let code : c.as_slice.result.now ≡ c.in_ok-insns.insns.items = search rules in
    let encoded : c.args.code.now ≡ encoding c.in_ok-insns.insns.items = search rules in
    record {
      insns = c.in_ok-insns.insns.items;
      encoded = encoded;
      file = subst (λ is. IsFileOf c.args.form is c.args.state c.in_ok-packed.packed.bytes.items c.in_ok-packed.packed.blocks) code c.in_ok-packed.ensures.written;
    }
