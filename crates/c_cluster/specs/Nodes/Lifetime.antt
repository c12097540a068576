-- Nodes that are opened
use Rattle.std.specs.Prelude.{◌≡◌, ◌≢◌, ◌⊎◌, ℕ, ◌≤◌, ◌==◌, List, length, Option, Some, None}
use Rattle.limits.specs.declared.TheConstants.{PROCESSES}
use Rattle.rsn.specs.declared.receipts.TheConstants.{LIMIT}
use Rattle.verifier.specs.declared.fault.ImageError.{ImageError}
use Rattle.verifier.specs.declared.fault.ImageError.TheVariants as error
use Rattle.verifier.specs.declared.any_image.AnyImage.{AnyImage}
use Rattle.decode.specs.declared.insn.Insn.{Insn}
use Rattle.verifier.specs.declared.file_form.FileForm.{FileForm}
use Rattle.verifier.specs.AnyImage.{IsImageOf, code_of, form_of, state_of}
use Rattle.verifier.specs.AnyFile.{IsFile, IsRefusal, IsTypable}
use Rattle.packets.specs.declared.kept_fault.KeptFault.{KeptFault}
use Rattle.packets.specs.KeptFaults.{kept_fault_number}
use Rattle.packets.specs.declared.log_pages.TheConstants.{LEAST_PAGE}
use Rattle.node.specs.Node.{IsPositive}
use Rattle.node.specs.declared.limit.Limits as node
use Rattle.node.specs.declared.node.TheConstants.{WINDOW}
use Rattle.process.specs.Process.{TheProcess}
use Rattle.process.specs.Revival.{IsOpened, IsRevived, IsUnrevived, zero_state}
use Rattle.process.specs.declared.fault.Unrevived.{Unrevived}
use Rattle.process.specs.declared.fault.Unrevived.TheVariants as why
use Rattle.c_cluster.specs.declared.nodes.lifetime.NodeLimits.{NodeLimits}
use Rattle.c_cluster.specs.declared.nodes.lifetime.TheConstants.{MOST_PAGE}
use Rattle.c_calls.specs.declared.nodes.fault.NodeFault.{NodeFault}
use Rattle.c_calls.specs.declared.nodes.fault.NodeFault.TheVariants.{Memory, Handle, Image, Bytes, Limit}
use Rattle.c_calls.specs.Nodes.Answers.{Answers, AnswersOfBytes}

-- the file is that of this image, of any form, whose code is typable in it, and of no image with another form, code or length
pub record IsImageIn (file : List ℕ) (image : AnyImage) : Type 0 where
  pub file_is : IsFile (form_of image) (code_of image) (state_of image) file
  pub typable : IsTypable (form_of image) (code_of image) (state_of image)
  pub only : (form : FileForm) (code : List Insn) (len : ℕ) → IsFile form code len file → IsTypable form code len
      → IsImageOf form code len image

-- the file is not that of an image, by its header, its code or the rules
abbrev pub IsNoImage : List ℕ → Type 0
IsNoImage file = (e : ImageError) × (e ≢ error.Memory) × IsRefusal file e

-- why no image was loaded
abbrev pub IsNotLoaded : List ℕ → NodeFault → Type 0
IsNotLoaded file Memory = Unit {0}
IsNotLoaded file Image = IsNoImage file
IsNotLoaded file other = ⊥

-- the fault that tells why no process came back
abbrev pub IsTold : Unrevived → NodeFault → Type 0
IsTold why.Memory fault = fault ≡ Memory
IsTold (why.Kept e) fault = fault ≡ Bytes (kept_fault_number e)
IsTold why.State fault = fault ≡ Bytes 9
IsTold why.Incarnation fault = fault ≡ Limit

-- limits, as C passes them
abbrev pub limits_from : ℕ → ℕ → ℕ → ℕ → ℕ → NodeLimits
limits_from page tick numbers receipts durable =
    record { page = page; tick = tick; numbers = numbers; receipts = receipts; durable = durable }

-- each limit is in range
pub record AreLimits (l : NodeLimits) : Type 0 where
  pub page : (LEAST_PAGE ≤ l.page) × (l.page ≤ MOST_PAGE)
  pub tick : 1 ≤ l.tick
  pub numbers : (1 ≤ l.numbers) × (l.numbers ≤ WINDOW)
  pub receipts : (1 ≤ l.receipts) × (l.receipts ≤ LIMIT)
  pub durable : l.durable ≤ 1

-- the node's limits from these
abbrev pub limits_of : NodeLimits → node.Limits
limits_of l = record { page = l.page; tick = l.tick; numbers = l.numbers; receipts = l.receipts; durable = l.durable == 1 }

-- a process of a cluster
pub record IsSeat (me n : ℕ) : Type 0 where
  pub first : 1 ≤ me
  pub within : me ≤ n
  pub few : n ≤ PROCESSES

-- a handle that was closed holds the process of a file's image; what was asked was so, and this holds of image and process
pub record Starts (file : List ℕ) (asked : Type 0) (Begins : AnyImage → TheProcess → Type 0) (old new : Option TheProcess) : Type 0 where
  pub was : old ≡ None
  pub right : asked
  pub image : AnyImage
  pub image_is : IsImageIn file image
  pub process : TheProcess
  pub is : new ≡ Some process
  pub begun : Begins image process

-- why it doesn't: the first of these: the handle is open, what was asked is out of range, the file is not that of an image, bytes are
-- refused with this fault, or memory ran out. The handle stays as it was
abbrev pub DoesNotStart : List ℕ → Type 0 → (ℕ → Type 0) → Option TheProcess → Option TheProcess → NodeFault → Type 0
DoesNotStart file asked refused old new Handle = ((p : TheProcess) × (old ≡ Some p)) × (new ≡ old)
DoesNotStart file asked refused old new Limit = (old ≡ None) × (new ≡ None) × ¬ asked
DoesNotStart file asked refused old new Image = (old ≡ None) × (new ≡ None) × asked × IsNoImage file
DoesNotStart file asked refused old new (Bytes f) = (old ≡ None) × (new ≡ None) × asked × refused f
DoesNotStart file asked refused old new Memory = (old ≡ None) × (new ≡ None) × asked
DoesNotStart file asked refused old new other = ⊥

-- it is process `me` of `n`, received nothing, and has the opening state for its image
abbrev pub Opens : List ℕ → ℕ → ℕ → NodeLimits → (AnyImage → List ℕ) → Option TheProcess → Option TheProcess → Type 0
Opens file me n l state old new =
    Starts file (IsSeat me n × AreLimits l) (λ image p. IsOpened image (limits_of l) me n (state image) p) old new

abbrev pub DoesNotOpen : List ℕ → ℕ → ℕ → NodeLimits → Option TheProcess → Option TheProcess → NodeFault → Type 0
DoesNotOpen file me n l old new why = DoesNotStart file (IsSeat me n × AreLimits l) (λ _. ⊥) old new why

-- with this opening state, it is also refused if the state isn't as long as the image's
abbrev pub DoesNotOpenWith : List ℕ → ℕ → ℕ → NodeLimits → List ℕ → Option TheProcess → Option TheProcess → NodeFault → Type 0
DoesNotOpenWith file me n l state old new why =
    DoesNotStart file (IsSeat me n × AreLimits l)
    (λ f. (f ≡ 9) × ((image : AnyImage) × IsImageIn file image × (length state ≢ state_of image))) old new why

-- it comes back from these bytes in this incarnation
abbrev pub Revives : List ℕ → List ℕ → ℕ → NodeLimits → Option TheProcess → Option TheProcess → Type 0
Revives file kept life l old new =
    Starts file (AreLimits l × IsPositive life) (λ image p. IsRevived image (limits_of l) kept life p) old new

-- why the bytes are refused for the process of an image: they are not the kept state of a process, or its state isn't as long as the
-- image's
abbrev pub AreRefused : List ℕ → List ℕ → ℕ → ℕ → Type 0
AreRefused file kept life f =
    (image : AnyImage) × IsImageIn file image
    × ((((e : KeptFault) × (f ≡ kept_fault_number e) × IsUnrevived image kept life (why.Kept e)))
    ⊎ ((f ≡ 9) × IsUnrevived image kept life why.State))

abbrev pub DoesNotRevive : List ℕ → List ℕ → ℕ → NodeLimits → Option TheProcess → Option TheProcess → NodeFault → Type 0
DoesNotRevive file kept life l old new why =
    DoesNotStart file (AreLimits l × IsPositive life) (λ f. AreRefused file kept life f) old new why

-- the meaning of a code when a process is opened, by its image file, its number, the number of processes and its limits
abbrev pub AnswersOpening : List ℕ → ℕ → ℕ → NodeLimits → ℕ → Option TheProcess → Option TheProcess → Type 0
AnswersOpening file me n l code old new = Answers code old new (Opens file me n l zero_state) (DoesNotOpen file me n l)

-- the same with an opening state
abbrev pub AnswersOpeningWith : List ℕ → ℕ → ℕ → NodeLimits → List ℕ → ℕ → Option TheProcess → Option TheProcess → Type 0
AnswersOpeningWith file me n l state code old new =
    Answers code old new (Opens file me n l (λ _. state)) (DoesNotOpenWith file me n l state)

-- the meaning of a code when a process comes back, by its image file, its kept state, its incarnation and its limits, with the number of
-- the fault before and after
abbrev pub AnswersRevival : List ℕ → List ℕ → ℕ → NodeLimits → ℕ → Option TheProcess → Option TheProcess → ℕ → ℕ → Type 0
AnswersRevival file kept life l code old new was fault =
    AnswersOfBytes code old new was fault (Revives file kept life l) (DoesNotRevive file kept life l)
