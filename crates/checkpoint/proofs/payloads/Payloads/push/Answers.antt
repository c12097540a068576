use Rattle.std.proofs.Common.{rules, ◌≡◌, ◌++◌, ◌∷◌, [], ap, ◌∙◌}
use Rattle.checkpoint.specs.declared.form.CheckpointForm.TheVariants.{Second}
use Rattle.checkpoint.specs.Format.{payload_bytes}
use Rattle.checkpoint.proofs.PayloadLemmas.{pushed, pushed_are}
use Rattle.checkpoint.proofs.payloads.Payloads.push.Goals as goal

pub invariant_of-self-2 : goal.invariant_of-self-2
invariant_of-self-2 c =
    let more : c.put_payload.new.out.items ≡ c.self.inside.bytes.items ++ payload_bytes Second c.args.payload.now = search rules in
    pushed_are c.self.inside.count c.self.inside.bytes.items c.put_payload.new.out.items c.args.payload.now c.self.invariant more c.requires.short

pub returns-clause-ok : goal.returns-clause-ok
returns-clause-ok c =
    let more : c.put_payload.new.out.items ≡ c.self.inside.bytes.items ++ payload_bytes Second c.args.payload.now = search rules in
    pushed c.self.inside.count c.self.inside.bytes.items c.put_payload.new.out.items c.args.payload.now c.self.invariant more c.requires.short ∙ ap (λ ps. ps ++ c.args.payload.now ∷ []) c.self.view_is
