-- Which fault an error of a part is, and what it says of a file.
use Rattle.std.proofs.Common.{◌≡◌, ℕ, Bool, true, IfErr, List, Some, Result, Ok, Err, take, refl, sym, subst, inl, inr}
use Rattle.std.specs.Prelude.{◌≢◌}
use Rattle.std.specs.Result.{IsErrAnd}
use Rattle.verifier.specs.AnyFile as any
use Rattle.verifier.specs.declared.fault.ImageError.{ImageError}
use Rattle.verifier.specs.declared.fault.ImageError.TheVariants as image
use Rattle.image_commands.specs.Fault.{FaultOf, fault_of_failure, fault_of_image}
use Rattle.image_commands.specs.Files.{Content}
use Rattle.image_commands.specs.Inside.{HandlerFault, IsNoUsage, IsPlainFault}
use Rattle.image_commands.specs.OwnInput.{IsOwnInput}
use Rattle.image_commands.specs.declared.fault.Fault.{Fault}
use Rattle.image_commands.specs.declared.fault.Fault.TheVariants.{Usage, Header, Decode, Verify, Assemble, Object, NoState, Scenario, Memory, InputOutput}
use Rattle.image_commands.specs.declared.files.Failure.{Failure}
use Rattle.image_commands.specs.declared.files.Failure.TheVariants as failure
use Rattle.image_commands.proofs.HeadLemmas.{any_refusal}
use Rattle.image_commands.specs.declared.check.TheConstants.{IMAGE_LIMIT}

-- the error that an error of a part became
pub becomes : {T E : Type 0} (r : Result T E) (P Q : E → Type 0) → IsErrAnd r P → ((e : E) → P e → Q e) → IfErr r Q
becomes (Ok x) P Q at step = tt
becomes (Err e) P Q at step = step e at

-- what holds where a file would be written over may be said in other words
pub own_input_of : (P Q : Type 0) (f : Fault) → (P → Q) → IsOwnInput P f → IsOwnInput Q f
own_input_of P Q (Usage usage) step own = (own.0, step own.1)
own_input_of P Q (Header h) step own = absurd own
own_input_of P Q (Decode rule slot) step own = absurd own
own_input_of P Q (Verify rule slot) step own = absurd own
own_input_of P Q (Assemble rule line) step own = absurd own
own_input_of P Q (Object fault) step own = absurd own
own_input_of P Q NoState step own = absurd own
own_input_of P Q (Scenario line) step own = absurd own
own_input_of P Q Memory step own = tt
own_input_of P Q InputOutput step own = absurd own

-- ---- what is read from a file

-- memory, or a file that is not read or written
pub plain_of : (failed : Bool) (e : Failure) (f : Fault) → (e ≢ failure.Memory → failed ≡ true) → f ≡ fault_of_failure e → IsPlainFault failed f
plain_of failed failure.Memory f told is = inl is
plain_of failed (failure.InputOutput reason) f told is = inr (is, told (λ same. cc))

-- an image of any form that is refused by the bytes that were read of it
pub handler_refused : (content : Content) (failed : Bool) (path bytes : List ℕ) (e : ImageError) (f : Fault)
    → ((known : List ℕ) → content path ≡ Some known → bytes ≡ take IMAGE_LIMIT known) → any.IsRefusal bytes e → f ≡ fault_of_image e
    → HandlerFault content failed path f
handler_refused content failed path bytes e f read why is =
    inr (e, is, λ known there. any_refusal known e (subst (λ (b : List ℕ). any.IsRefusal b e) (read known there) why))

-- a file is refused so as the bytes that were read of it
pub read_fault : (Why : List ℕ → ImageError → Type 0) → ((bytes : List ℕ) (e : ImageError) → Why (take IMAGE_LIMIT bytes) e → Why bytes e)
    → (content : Content) (failed : Bool) (path bytes : List ℕ) (e : ImageError) (f : Fault)
    → ((known : List ℕ) → content path ≡ Some known → bytes ≡ take IMAGE_LIMIT known) → Why bytes e → f ≡ fault_of_image e
    → FaultOf content failed path (λ known x. (y : ImageError) × Why known y × (x ≡ fault_of_image y)) f
read_fault Why whole content failed path bytes e f read why is = subst (FaultOf content failed path Refused) (sym is) (by e why)
  where
    Refused : List ℕ → Fault → Type 0
    Refused known x = (y : ImageError) × Why known y × (x ≡ fault_of_image y)

    all : (x : ImageError) → Why bytes x → (known : List ℕ) → content path ≡ Some known → Why known x
    all x refused known there = whole known x (subst (λ (b : List ℕ). Why b x) (read known there) refused)

    by : (x : ImageError) → Why bytes x → FaultOf content failed path Refused (fault_of_image x)
    by image.Memory refused = tt
    by (image.Header h) refused = λ known there. (image.Header h, all (image.Header h) refused known there, refl)
    by (image.Decode rule slot) refused = λ known there. (image.Decode rule slot, all (image.Decode rule slot) refused known there, refl)
    by (image.Verify rule slot) refused = λ known there. (image.Verify rule slot, all (image.Verify rule slot) refused known there, refl)

-- the bytes that were read of a file come to a fault that isn't the words'
pub reading_fault : (content : Content) (failed : Bool) (path : List ℕ) (refused : List ℕ → Fault → Type 0) (f : Fault) → IsNoUsage f
    → ((bytes : List ℕ) → content path ≡ Some bytes → refused bytes f) → FaultOf content failed path refused f
reading_fault content failed path refused (Usage usage) kind why = absurd kind
reading_fault content failed path refused (Header h) kind why = why
reading_fault content failed path refused (Decode rule slot) kind why = why
reading_fault content failed path refused (Verify rule slot) kind why = why
reading_fault content failed path refused (Assemble rule line) kind why = why
reading_fault content failed path refused (Object fault) kind why = why
reading_fault content failed path refused NoState kind why = why
reading_fault content failed path refused (Scenario line) kind why = why
reading_fault content failed path refused Memory kind why = tt
reading_fault content failed path refused InputOutput kind why = inr why
