use Rattle.std.proofs.Common.{◌≡◌, [], ◌∷◌, rules, sym}
use Rattle.std.specs.List.{AllByRecursion}
use Rattle.decode.specs.declared.insn.Insn.{Insn}
use Rattle.decode.specs.Encoding.{Fits, encoding}
use Rattle.decode.proofs.Once.{encoding_once}
use Rattle.block_order.proofs.placement.is_one.Goals as goal

one : (i j : Insn) → i ∷ [] ≡ j ∷ [] → i ≡ j
one i j e = cc

pub returns-in-Ok-encode : goal.returns-in-Ok-encode
returns-in-Ok-encode c = λ h.
    let bytes : encoding (c.args.insn.now ∷ []) ≡ encoding (c.args.other.now ∷ []) = search rules in
    let ours : AllByRecursion Fits (c.args.insn.now ∷ []) = search rules in
    let theirs : AllByRecursion Fits (c.args.other.now ∷ []) = search rules in
    sym (one _ _ (encoding_once (c.args.insn.now ∷ []) (c.args.other.now ∷ []) ours theirs bytes))
