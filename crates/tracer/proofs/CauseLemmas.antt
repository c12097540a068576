-- What words come to a fault.
use Rattle.std.proofs.Common.{◌≡◌, ◌⊎◌, ◌||◌, ℕ, Bool, true, false, List, refl, sym, subst, inl, inr, true≢false}
use Rattle.std.specs.Prelude.{[]}
use Rattle.cli.specs.Asks.{AsksFor, IsRefusal, Order}
use Rattle.cli.specs.declared.refusal.UsageRefusal.{UsageRefusal}
use Rattle.cli.specs.declared.refusal.UsageRefusal.TheVariants as refusal
use Rattle.image_commands.specs.Fault.{fault_of_refusal}
use Rattle.image_commands.specs.Files.{Content, Sameness}
use Rattle.image_commands.specs.declared.fault.Fault.{Fault}
use Rattle.image_commands.specs.declared.fault.Fault.TheVariants.{Usage, Header, Decode, Verify, Assemble, Object, NoState, Scenario, Memory, InputOutput}
use Rattle.tracer.specs.Inside.{EndsShort, IsWriteFault}
use Rattle.tracer.specs.Program.{IsCause}

-- a command line that is refused
pub refusal_is_cause : (words : List (List ℕ)) (content : Content) (one : Sameness) (failed : Bool) (e : UsageRefusal) (f : Fault)
    → IsRefusal words e → f ≡ fault_of_refusal e → IsCause words content one failed f
refusal_is_cause words content one failed (refusal.Usage usage) f why is = subst (IsCause words content one failed) (sym is) (inl why)
refusal_is_cause words content one failed refusal.Memory f why is = subst (IsCause words content one failed) (sym is) tt

-- an order that comes to a fault
pub fault_is_cause : (words : List (List ℕ)) (content : Content) (one : Sameness) (failed : Bool) (order : Order) (f : Fault)
    → AsksFor words order → IsWriteFault one content failed order f → IsCause words content one failed f
fault_is_cause words content one failed order (Usage usage) asked (inl fault) = absurd fault
fault_is_cause words content one failed order (Usage usage) asked (inr own) = inr (own.0, order, asked, own.1)
fault_is_cause words content one failed order (Header h) asked (inl fault) = (order, asked, fault)
fault_is_cause words content one failed order (Header h) asked (inr own) = absurd own
fault_is_cause words content one failed order (Decode rule slot) asked (inl fault) = (order, asked, fault)
fault_is_cause words content one failed order (Decode rule slot) asked (inr own) = absurd own
fault_is_cause words content one failed order (Verify rule slot) asked (inl fault) = (order, asked, fault)
fault_is_cause words content one failed order (Verify rule slot) asked (inr own) = absurd own
fault_is_cause words content one failed order (Assemble rule line) asked (inl fault) = (order, asked, fault)
fault_is_cause words content one failed order (Assemble rule line) asked (inr own) = absurd own
fault_is_cause words content one failed order (Object o) asked (inl fault) = (order, asked, fault)
fault_is_cause words content one failed order (Object o) asked (inr own) = absurd own
fault_is_cause words content one failed order NoState asked (inl fault) = (order, asked, fault)
fault_is_cause words content one failed order NoState asked (inr own) = absurd own
fault_is_cause words content one failed order (Scenario line) asked (inl fault) = (order, asked, fault)
fault_is_cause words content one failed order (Scenario line) asked (inr own) = absurd own
fault_is_cause words content one failed order Memory asked fault = tt
fault_is_cause words content one failed order InputOutput asked (inl fault) = (order, asked, fault)
fault_is_cause words content one failed order InputOutput asked (inr own) = absurd own

second : (a b : Bool) → b ≡ true → (a || b) ≡ true
second true b is = refl
second false b is = is

first : (a b : Bool) → a ≡ true → (a || b) ≡ true
first true b is = refl
first false b is = absurd (true≢false (sym is))

-- what words come to stays where a stream may have failed too
pub cause_beside : (words : List (List ℕ)) (content : Content) (one : Sameness) (failed stream : Bool) (f : Fault)
    → IsCause words content one failed f → IsCause words content one (failed || stream) f
cause_beside words content one failed stream (Usage usage) cause = cause
cause_beside words content one failed stream (Header h) cause = cause
cause_beside words content one failed stream (Decode rule slot) cause = cause
cause_beside words content one failed stream (Verify rule slot) cause = cause
cause_beside words content one failed stream (Assemble rule line) cause = cause
cause_beside words content one failed stream (Object o) cause = cause
cause_beside words content one failed stream NoState cause = cause
cause_beside words content one failed stream (Scenario line) cause = cause
cause_beside words content one failed stream Memory cause = tt
cause_beside words content one failed stream InputOutput (order, asked, inl is) = (order, asked, inl (first failed stream is))
cause_beside words content one failed stream InputOutput (order, asked, inr why) = (order, asked, inr why)

-- a stream that failed is the cause of its fault
pub stream_cause : (words : List (List ℕ)) (content : Content) (one : Sameness) (failed stream : Bool) (order : Order) (f : Fault)
    → AsksFor words order → stream ≡ true → (f ≡ Memory) ⊎ (f ≡ InputOutput) → IsCause words content one (failed || stream) f
stream_cause words content one failed stream order f asked is (inl memory) = subst (IsCause words content one (failed || stream)) (sym memory) tt
stream_cause words content one failed stream order f asked is (inr output) =
    subst (IsCause words content one (failed || stream)) (sym output) (order, asked, inl (second failed stream is))

-- ---- a run that memory ended

-- a stream that failed while its lines were printed
pub failure_cause : (words : List (List ℕ)) (content : Content) (one : Sameness) (failed stream : Bool) (f g : Fault) (text : List ℕ)
    → (text ≡ []) ⊎ ((f ≡ Memory) × EndsShort words content text) → (text ≡ [] → ⊥) → stream ≡ true → (g ≡ Memory) ⊎ (g ≡ InputOutput)
    → IsCause words content one (failed || stream) g
failure_cause words content one failed stream f g text (inl none) some is kind = absurd (some none)
failure_cause words content one failed stream f g text (inr ends) some is kind = stream_cause words content one failed stream ends.1.0 g ends.1.1 is kind
