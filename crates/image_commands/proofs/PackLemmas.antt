-- Why code comes to no file.
use Rattle.std.proofs.Common.{◌≡◌, ◌<◌, ◌≤◌, ◌*◌, ◌⊎◌, ℕ, Bool, true, false, List, Option, None, Some, length, refl, sym, subst, arith, inl, inr}
use Rattle.std.specs.Option.{unwrap_or}
use Rattle.verifier.specs.declared.file_form.FileForm.{FileForm}
use Rattle.verifier.specs.declared.file_form.FileForm.TheVariants.{Sbi1, Sbi3}
use Rattle.block_order.specs.declared.blocks.Blocks.{Blocks}
use Rattle.elf.specs.Function.{IsFunction}
use Rattle.elf.specs.Object.{is_elf}
use Rattle.elf.specs.Refusal.{IsFaultOf, IsRefusal}
use Rattle.elf.specs.declared.fault.ObjectError.{ObjectError}
use Rattle.elf.specs.declared.fault.ObjectError.TheVariants as object
use Rattle.elf.specs.declared.fault.ObjectFault.{ObjectFault}
use Rattle.elf.specs.declared.fault.ObjectFault.TheVariants.{Kind, ByteOrder, Processor, Linked, Damaged, NoFunction, NoSuchFunction, Several, Outside, Reference, Call, Slots, State}
use Rattle.verifier.specs.declared.fault.HeaderFault.TheVariants.{SlotCount}
use Rattle.image_commands.specs.declared.fault.Fault.TheVariants.{Usage, Header, Decode, Verify, Assemble, Object, NoState, Scenario, Memory, InputOutput}
use Rattle.image_commands.specs.declared.pack.TheConstants.{OBJECT_BYTES}
use Rattle.limits.specs.declared.TheConstants.{SLOTS}
use Rattle.decode.specs.Refusal as decoding
use Rattle.decode.specs.Slots.{slots}
use Rattle.decode.specs.declared.fault.DecodeError.{DecodeError}
use Rattle.decode.specs.declared.fault.DecodeError.TheVariants as code
use Rattle.decode.specs.declared.insn.Insn.{Insn}
use Rattle.verifier.specs.ImageFile.{IsUnwritten}
use Rattle.verifier.specs.declared.fault.ImageError.{ImageError}
use Rattle.verifier.specs.declared.fault.ImageError.TheVariants as image
use Rattle.image_commands.specs.Fault.{fault_of_code, fault_of_image, fault_of_object}
use Rattle.image_commands.specs.Pack.{IsFileBy, IsLength, IsMade, IsObjectFault, IsPacked, IsUnfiledBy, IsUnmade, IsUnpacked}
use Rattle.image_commands.specs.declared.fault.Fault.{Fault}

-- bytes that are no encoding
pub bytes_refused : (bytes : List ℕ) (e : DecodeError) (f : Fault) → length bytes ≤ 8 * SLOTS → decoding.IsRefusal bytes e → f ≡ fault_of_code e → IsUnpacked bytes f
bytes_refused bytes code.Memory f short why is = subst (IsUnpacked bytes) (sym is) tt
bytes_refused bytes (code.Fault rule slot) f short why is = subst (IsUnpacked bytes) (sym is) (short, why)

-- instructions that have no file
pub code_unwritten : (bytes : List ℕ) (insns : List Insn) (e : ImageError) (f : Fault) → 8 * slots insns ≡ length bytes → IsUnwritten insns e
    → f ≡ fault_of_image e → IsUnpacked bytes f
code_unwritten bytes insns image.Memory f size why is = subst (IsUnpacked bytes) (sym is) tt
code_unwritten bytes insns (image.Header fault) f size why is = subst (IsUnpacked bytes) (sym is) (why.0, many why.1)
  where
    many : (slots insns ≡ 0) ⊎ (SLOTS < slots insns) → (length bytes ≡ 0) ⊎ (8 * SLOTS < length bytes)
    many (inl none) = inl (omega (arith, none, size))
    many (inr more) = inr (omega (arith, more, size))
code_unwritten bytes insns (image.Decode rule slot) f size why is = absurd why
code_unwritten bytes insns (image.Verify rule slot) f size why is = absurd why

-- what is wrong with an object file stays, where the length of its state isn't asked for
pub object_refused : (state : Option ℕ) (name : Option (List ℕ)) (source : List ℕ) (f : ObjectFault) → IsFaultOf source name f
    → IsObjectFault state name source f
object_refused state name source (State length) why = absurd why
object_refused state name source Kind why = why
object_refused state name source ByteOrder why = why
object_refused state name source (Processor number) why = why
object_refused state name source Linked why = why
object_refused state name source Damaged why = why
object_refused state name source NoFunction why = why
object_refused state name source NoSuchFunction why = why
object_refused state name source Several why = why
object_refused state name source Outside why = why
object_refused state name source (Reference slot is_call table symbol) why = why
object_refused state name source (Call slot) why = why
object_refused state name source (Slots slots) why = why

-- an object file without the function
pub object_unfiled : (state : Option ℕ) (name : Option (List ℕ)) (source : List ℕ) (e : ObjectError) (f : Fault) → IsRefusal source name e
    → f ≡ fault_of_object e → IsUnfiledBy true state name source f
object_unfiled state name source object.Memory f why is = subst (IsUnfiledBy true state name source) (sym is) tt
object_unfiled state name source (object.Fault fault) f why is =
    subst (IsUnfiledBy true state name source) (sym is) (object_refused state name source fault why)

-- the file of a function
pub function_packed : (state : Option ℕ) (form : Option FileForm) (name : Option (List ℕ)) (source code : List ℕ) (length : ℕ) (chosen : FileForm)
    (bytes : List ℕ) (blocks : Blocks) → IsLength state length → IsFunction source name code → chosen ≡ unwrap_or form Sbi3
    → IsPacked code length chosen bytes blocks → IsFileBy true state form name source bytes blocks
function_packed state form name source code length chosen bytes blocks fits found is packed =
    (length, fits, code, found, subst (λ f. IsPacked code length f bytes blocks) is packed)

-- and that of bare code
pub code_packed : (state : Option ℕ) (form : Option FileForm) (name : Option (List ℕ)) (source : List ℕ) (length : ℕ) (chosen : FileForm)
    (bytes : List ℕ) (blocks : Blocks) → is_elf source ≡ false → state ≡ Some length → chosen ≡ unwrap_or form Sbi1
    → IsPacked source length chosen bytes blocks → IsMade state form name source bytes blocks
code_packed state form name source length chosen bytes blocks bare known is packed =
    subst (λ b. IsFileBy b state form name source bytes blocks) (sym bare)
    (length, known, subst (λ f. IsPacked source length f bytes blocks) is packed)

-- no length is known, of either kind
pub no_length : (state : Option ℕ) (name : Option (List ℕ)) (source : List ℕ) → state ≡ None → IsUnmade state name source NoState
no_length state name source none = by (is_elf source)
  where
    by : (b : Bool) → IsUnfiledBy b state name source NoState
    by false = none
    by true = none

-- a function whose code has no file
pub function_unpacked : (state : Option ℕ) (name : Option (List ℕ)) (source code : List ℕ) (f : Fault) → IsFunction source name code
    → IsUnpacked code f → IsUnfiledBy true state name source f
function_unpacked state name source code (Usage usage) found why = absurd why
function_unpacked state name source code (Header fault) found why = inr (code, found, why)
function_unpacked state name source code (Decode rule slot) found why = (code, found, why)
function_unpacked state name source code (Verify rule slot) found why = absurd why
function_unpacked state name source code (Assemble rule line) found why = absurd why
function_unpacked state name source code (Object fault) found why = absurd why
function_unpacked state name source code NoState found why = absurd why
function_unpacked state name source code (Scenario line) found why = absurd why
function_unpacked state name source code Memory found why = tt
function_unpacked state name source code InputOutput found why = absurd why

-- and bare code that has none
pub code_unpacked : (state : Option ℕ) (name : Option (List ℕ)) (source : List ℕ) (f : Fault) → is_elf source ≡ false
    → IsUnpacked source f → IsUnmade state name source f
code_unpacked state name source f bare why = subst (λ b. IsUnfiledBy b state name source f) (sym bare) (by f why)
  where
    by : (g : Fault) → IsUnpacked source g → IsUnfiledBy false state name source g
    by (Usage usage) w = absurd w
    by (Header fault) w = w
    by (Decode rule slot) w = w
    by (Verify rule slot) w = absurd w
    by (Assemble rule line) w = absurd w
    by (Object fault) w = absurd w
    by NoState w = absurd w
    by (Scenario line) w = absurd w
    by Memory w = tt
    by InputOutput w = absurd w

-- a source that is too long, of either kind
pub too_long : (state : Option ℕ) (name : Option (List ℕ)) (source : List ℕ) → OBJECT_BYTES < length source
    → IsUnmade state name source (Header SlotCount)
too_long state name source long = by (is_elf source)
  where
    by : (b : Bool) → IsUnfiledBy b state name source (Header SlotCount)
    by false = (refl, inr (omega arith))
    by true = inl (refl, long)
