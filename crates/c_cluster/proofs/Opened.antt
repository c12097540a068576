-- What opens, comes back or is resumed is put into the handle, or memory runs out
use Rattle.std.proofs.Common.{◌≡◌, ◌∙◌, ℕ, List, sym, subst}
use Rattle.std.specs.Prelude.{Option, Some, None, Result, Ok, Err, OnOk, IfErr, MatchResult}
use Rattle.verifier.specs.declared.any_image.AnyImage.{AnyImage}
use Rattle.process.specs.Process.{TheProcess}
use Rattle.c_calls.specs.declared.nodes.fault.NodeFault.{NodeFault}
use Rattle.c_calls.specs.declared.nodes.fault.NodeFault.TheVariants.{Memory}
use Rattle.c_cluster.specs.Nodes.Lifetime.{IsImageIn, Starts, DoesNotStart}

pub put-starts : (r : Result (Unit {0}) NodeFault) (file : List ℕ) (asked : Type 0) (Begins : AnyImage → TheProcess → Type 0) (refused : ℕ → Type 0) (old new : Option TheProcess) (image : AnyImage) (p : TheProcess)
    → OnOk r (new ≡ Some p) → IfErr r (λ why. (why ≡ Memory) × (new ≡ old)) → old ≡ None → asked → IsImageIn file image → Begins image p
    → MatchResult r (λ x. Starts file asked Begins old new) (DoesNotStart file asked refused old new)
put-starts (Ok u) file asked Begins refused old new image p ok err was right is begun =
    record { was = was; right = right; image = image; image_is = is; process = p; is = ok; begun = begun }
put-starts (Err why) file asked Begins refused old new image p ok err was right is begun =
    let P : NodeFault → Type 0 = λ f. DoesNotStart file asked refused old new f in
    subst P (sym err.0) (was, err.1 ∙ was, right)
