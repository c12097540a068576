use Rattle.std.proofs.Common.{◌≡◌}
use Rattle.std.proofs.lemmas.Result.{IfErr-weaker, IfOk-weaker}
use Rattle.verifier.specs.declared.fault.ImageError.TheVariants.{Memory}
use Rattle.verifier.specs.declared.header.Forms.TheVariants.{Any}
use Rattle.verifier.specs.ImageFile.{IsFile, IsUnread}
use Rattle.verifier.proofs.Files.{file_once, unread_memory}
use Rattle.verifier.proofs.loader.any_parts.Goals as goal

pub returns-clause-only : goal.returns-clause-only
returns-clause-only c = λ form code len f.
    let bytes = c.args.bytes.now in
    let e = c.parts_of.ensures in (
      IfOk-weaker c.parts_of.result (λ p. IsFile p.2 p.0.items p.1 bytes) (λ p. (p.0.items ≡ code) × (p.1 ≡ len) × (p.2 ≡ form)) (λ p g. file_once p.2 form p.0.items code p.1 len bytes g f) e.found,
      IfErr-weaker c.parts_of.result (IsUnread Any bytes) (λ e. e ≡ Memory) (λ e why. unread_memory Any form code len bytes e tt f why) e.refused,
    )
