-- How a command line ends, by how its command did.
use Rattle.std.proofs.Common.{◌≡◌, ◌⊎◌, ◌||◌, Bool, IfErr, List, Option, Result, Ok, Err, ℕ, subst, inl, inr, true}
use Rattle.std.specs.Prelude.{◌≢◌, [], IsOk, OnErr, OnOk}
use Rattle.std.specs.Io.KnownBytes.{Appends}
use Rattle.cli.specs.Asks.{AsksFor}
use Rattle.image_commands.specs.Fault.{status_of, Tells}
use Rattle.image_commands.specs.Files.{Content, Sameness}
use Rattle.image_commands.specs.Hints.{command_in, has_hints}
use Rattle.image_commands.specs.Ends.{HasFault, IsEnd, IsHalf}
use Rattle.image_commands.specs.declared.fault.Fault.{Fault}
use Rattle.image_commands.specs.declared.fault.Fault.TheVariants.{Memory}
use Rattle.tracer.specs.Inside.{EndsShort}
use Rattle.tracer.specs.Program.{IsAnswered, IsCause, IsCutShort, IsDone, IsTold}
use Rattle.tracer.proofs.CauseLemmas.{cause_beside, failure_cause, stream_cause}

-- what a command that came to a fault has printed
abbrev pub HasShort : List (List ℕ) → Content → List ℕ → Fault → Type 0
HasShort words content text f = (text ≡ []) ⊎ ((f ≡ Memory) × EndsShort words content text)

-- one that was carried out, and printed
pub done_of : {T : Type 0} (ended : Result T Fault) (words command : List (List ℕ)) (content content' : Content) (text : List ℕ) (out out' : Option (List ℕ))
    → command ≡ command_in words → IsOk ended → OnOk ended (IsAnswered command content content' text) → Appends out out' text → IsDone words content content' out out'
done_of (Ok x) words command content content' text out out' are is answered printed =
    record { text = text; answered = subst (λ (c : List (List ℕ)). IsAnswered c content content' text) are answered; printed = printed }
done_of (Err e) words command content content' text out out' are is answered printed = absurd (cc)

-- its fault is that of the words
cause_of : {T : Type 0} (ended : Result T Fault) (words : List (List ℕ)) (content content' : Content) (one : Sameness) (failed stream : Bool) (text : List ℕ)
    (f : Fault) → OnOk ended (IsAnswered words content content' text) → IfErr ended (IsCause words content one failed)
    → IfErr ended (HasShort words content text) → HasFault ended text stream f → IsCause words content one (failed || stream) f
cause_of (Ok x) words content content' one failed stream text f answered cause short has =
    stream_cause words content one failed stream answered.order f answered.asked has.1 has.2
cause_of (Err e) words content content' one failed stream text f answered cause short (inl is) =
    cause_beside words content one failed stream f (subst (IsCause words content one failed) (cc) cause)
cause_of (Err e) words content content' one failed stream text f answered cause short (inr has) =
    failure_cause words content one failed stream e f text short has.0 has.1 has.2

-- one that was told
pub told_of : {T : Type 0} (ended : Result T Fault) (words command : List (List ℕ)) (content content' : Content) (one : Sameness) (failed stream deaf : Bool) (text : List ℕ)
    (hints : Bool) (err err' : Option (List ℕ)) (status : ℕ) → command ≡ command_in words → hints ≡ has_hints words → OnOk ended (IsAnswered command content content' text)
    → IfErr ended (IsCause command content one failed) → IfErr ended (HasShort command content text) → IsEnd ended text hints stream deaf err err' status
    → IsTold words content one (failed || stream) deaf err err' status
told_of ended words command content content' one failed stream deaf text hints err err' status are asked answered cause short end = record {
  fault = end.fault;
  cause = subst (λ (c : List (List ℕ)). IsCause c content one (failed || stream) end.fault) are
      (cause_of ended command content content' one failed stream text end.fault answered cause short end.has);
  told = subst (λ (h : Bool). Tells h end.fault deaf err err' status) asked end.told;
}

-- no file has changed then
kept_where : {T : Type 0} (ended : Result T Fault) (content content' : Content) (text : List ℕ) (stream : Bool) (f : Fault)
    → OnErr ended (content' ≡ content) → (content' ≡ content) ⊎ (text ≡ []) → HasFault ended text stream f → content' ≡ content
kept_where (Ok x) content content' text stream f kept (inl same) has = same
kept_where (Ok x) content content' text stream f kept (inr none) has = absurd (has.0 none)
kept_where (Err e) content content' text stream f kept either has = kept

pub kept_of : {T : Type 0} (ended : Result T Fault) (content content' : Content) (text : List ℕ) (hints stream deaf : Bool) (err err' : Option (List ℕ)) (status : ℕ)
    → OnErr ended (content' ≡ content) → (content' ≡ content) ⊎ (text ≡ []) → IsEnd ended text hints stream deaf err err' status → content' ≡ content
kept_of ended content content' text hints stream deaf err err' status kept either end = kept_where ended content content' text stream end.fault kept either end.has

-- and what was printed is of a run that memory ended
cut_by : (words command : List (List ℕ)) (content : Content) (text : List ℕ) (own : Fault) (deaf : Bool) (out out' : Option (List ℕ)) (status : ℕ)
    → command ≡ command_in words → HasShort command content text own → (status ≡ status_of own) ⊎ (deaf ≡ true) → text ≢ [] → Appends out out' text
    → ((status ≡ 5) ⊎ (deaf ≡ true)) × IsCutShort words content out out'
cut_by words command content text own deaf out out' status are (inl none) is some printed = absurd (some none)
cut_by words command content text own deaf out out' status are (inr ends) is some printed = (ended is, cut)
  where
    ended : (status ≡ status_of own) ⊎ (deaf ≡ true) → (status ≡ 5) ⊎ (deaf ≡ true)
    ended (inl told) = inl (subst (λ f. status ≡ status_of f) ends.0 told)
    ended (inr failed) = inr failed

    cut : IsCutShort words content out out'
    cut = record {
      order = ends.1.0;
      asked = subst (λ (c : List (List ℕ)). AsksFor c ends.1.0) are ends.1.1;
      text = text;
      short = ends.1.2;
      printed = printed;
    }

pub cut_of : {T : Type 0} (ended : Result T Fault) (words command : List (List ℕ)) (content : Content) (text : List ℕ) (deaf : Bool) (out out' : Option (List ℕ)) (status : ℕ)
    → command ≡ command_in words → IfErr ended (HasShort command content text) → IsHalf ended text deaf out out' status
    → ((status ≡ 5) ⊎ (deaf ≡ true)) × IsCutShort words content out out'
cut_of ended words command content text deaf out out' status are short half =
    cut_by words command content text half.own deaf out out' status are (subst (λ r. IfErr r (HasShort command content text)) half.is short) half.status_is half.some half.printed
