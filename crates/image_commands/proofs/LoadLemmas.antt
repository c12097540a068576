-- Scenarios and the images of their processes.
use Rattle.std.proofs.Common.{◌≡◌, ◌≢◌, ◌<◌, ◌+◌, ◌∙◌, ℕ, zero, suc, Bool, List, [], ◌∷◌, ◌++◌, length, map, take, drop, Some, None, String, refl, sym, ap, subst, inl, inr, arith}
use Rattle.std.specs.Prelude.{slice_get}
use Rattle.std.specs.declared.alloc.Global.{Global}
use Rattle.std.specs.String.{string_bytes}
use Rattle.verifier.specs.declared.fault.ImageError.{ImageError}
use Rattle.verifier.specs.declared.fault.ImageError.TheVariants as image
use Rattle.verifier.specs.AnyFile as any
use Rattle.interp.specs.Image.{TheImage}
use Rattle.scenario.specs.Scenario.{IsScenario}
use Rattle.scenario.specs.declared.order.Allowed.{Allowed}
use Rattle.scenario.specs.declared.process.NamedProcess.{NamedProcess}
use Rattle.scenario.specs.declared.scenario.Scenario.{Scenario}
use Rattle.image_commands.specs.Check.{HasImage, IsUnaccepted}
use Rattle.image_commands.specs.Fault.{fault_of_image, FaultOf}
use Rattle.image_commands.specs.Files.{Content}
use Rattle.image_commands.specs.Inside.{HandlerFault, ImagesFault, IsPlainFault}
use Rattle.image_commands.specs.Loads.{IsReadAs, IsLoadedAs, AreLoaded, AreRefused, IsScenarioWithImages, IsUnloadable}
use Rattle.image_commands.specs.declared.fault.Fault.{Fault}

abbrev Entry : Type 0
Entry = String Global × NamedProcess

-- ---- lists

some≢none : (e : Entry) → None ≡ Some e → ⊥
some≢none e is = cc

the_same : (a b : Entry) → Some a ≡ Some b → a ≡ b
the_same a b is = cc

-- a list is what stands before an element, the element, and what stands behind it
pub split_at : (es : List Entry) (i : ℕ) (e : Entry) → slice_get es i ≡ Some e → es ≡ take i es ++ e ∷ drop (suc i) es
split_at [] i e is = absurd (some≢none e is)
split_at (x ∷ xs) zero e is = ap (λ (y : Entry). y ∷ xs) (the_same x e is)
split_at (x ∷ xs) (suc i) e is = ap (λ rest. x ∷ rest) (split_at xs i e is)

taken : (es : List Entry) (i : ℕ) (e : Entry) → slice_get es i ≡ Some e → take (suc i) es ≡ take i es ++ e ∷ []
taken [] i e is = absurd (some≢none e is)
taken (x ∷ xs) zero e is = ap (λ (y : Entry). y ∷ []) (the_same x e is)
taken (x ∷ xs) (suc i) e is = ap (λ rest. x ∷ rest) (taken xs i e is)

map_push : {A B : Type 0} (f : A → B) (xs : List A) (y : A) → map f (xs ++ y ∷ []) ≡ map f xs ++ f y ∷ []
map_push f [] y = refl
map_push f (x ∷ xs) y = ap (λ l. f x ∷ l) (map_push f xs y)

-- one element more, and one more of what a function makes of each
pub pushed : {A B : Type 0} (f : A → B) (xs ys : List A) (y : A) (b : B) → ys ≡ xs ++ y ∷ [] → f y ≡ b → map f ys ≡ map f xs ++ b ∷ []
pushed f xs ys y b more is = ap (map f) more ∙ map_push f xs y ∙ ap (λ z. map f xs ++ z ∷ []) is

-- ---- images

loaded_append : (content : Content) (es : List Entry) (is : List TheImage) (e : Entry) (image : TheImage)
    → AreLoaded content es is → HasImage content (string_bytes e.1.path) image → AreLoaded content (es ++ e ∷ []) (is ++ image ∷ [])
loaded_append content [] [] e image all last = (last, tt)
loaded_append content [] (i ∷ is) e image all last = absurd all
loaded_append content (x ∷ xs) [] e image all last = absurd all
loaded_append content (x ∷ xs) (i ∷ is) e image all last = (all.0, loaded_append content xs is e image all.1 last)

-- one image more is loaded
pub loaded_more : (content : Content) (es : List Entry) (i : ℕ) (is js : List TheImage) (e : Entry) (image : TheImage) → slice_get es i ≡ Some e
    → AreLoaded content (take i es) is → HasImage content (string_bytes e.1.path) image → js ≡ is ++ image ∷ [] → AreLoaded content (take (i + 1) es) js
loaded_more content es i is js e image at all last more =
    let next : i + 1 ≡ suc i = omega arith in
    subst (λ (xs : List Entry). AreLoaded content xs js) (sym (taken es i e at) ∙ ap (λ n. take n es) (sym next))
    (subst (AreLoaded content (take i es ++ e ∷ [])) (sym more) (loaded_append content (take i es) is e image all last))

-- as many images are loaded as there are processes
pub as_many : (content : Content) (es : List Entry) (is : List TheImage) → AreLoaded content es is → length es ≡ length is
as_many content [] [] all = refl
as_many content [] (i ∷ is) all = absurd all
as_many content (x ∷ xs) [] all = absurd all
as_many content (x ∷ xs) (i ∷ is) all = ap suc (as_many content xs is all.1)

pub one_or_more : (es : List Entry) → es ≢ [] → 0 < length es
one_or_more [] some = absurd (some refl)
one_or_more (x ∷ xs) some = omega arith

-- ---- faults

-- memory or a file that failed
pub plain_fault : (content : Content) (failed : Bool) (path : List ℕ) (refused : List ℕ → Fault → Type 0) (f : Fault)
    → IsPlainFault failed f → FaultOf content failed path refused f
plain_fault content failed path refused f (inl memory) = subst (FaultOf content failed path refused) (sym memory) tt
plain_fault content failed path refused f (inr input) = subst (FaultOf content failed path refused) (sym input.0) (inl input.1)

-- an image that is not loaded
pub handler_fault : (content : Content) (failed : Bool) (path : List ℕ) (f : Fault)
    → HandlerFault content failed path f → FaultOf content failed path IsUnaccepted f
handler_fault content failed path f (inl plain) = plain_fault content failed path IsUnaccepted f plain
handler_fault content failed path f (inr why) = subst (FaultOf content failed path IsUnaccepted) (sym why.1) (by why.0 why.2)
  where
    by : (e : ImageError) → ((bytes : List ℕ) → content path ≡ Some bytes → any.IsRefusal bytes e) → FaultOf content failed path IsUnaccepted (fault_of_image e)
    by image.Memory refused = tt
    by (image.Header h) refused = λ bytes there. (image.Header h, refused bytes there, refl)
    by (image.Decode rule slot) refused = λ bytes there. (image.Decode rule slot, refused bytes there, refl)
    by (image.Verify rule slot) refused = λ bytes there. (image.Verify rule slot, refused bytes there, refl)

-- the image of a process, behind those that are loaded
pub images_fault : (content : Content) (failed : Bool) (es : List Entry) (i : ℕ) (is : List TheImage) (e : Entry) (f : Fault) → slice_get es i ≡ Some e
    → AreLoaded content (take i es) is → HandlerFault content failed (string_bytes e.1.path) f → ImagesFault content failed es f
images_fault content failed es i is e f at all (inl plain) = inl plain
images_fault content failed es i is e f at all (inr why) = inr (
  why.0,
  why.1,
  record {
    before = take i es;
    process = e;
    after = drop (suc i) es;
    whole = split_at es i e at;
    images = is;
    loaded = all;
    refused = λ bytes there. (why.0, why.2 bytes there, why.1);
  },
)

-- the images of a scenario that was read
pub loading_fault : (content : Content) (failed : Bool) (allowed : Allowed) (path : List ℕ) (s : Scenario) (f : Fault) → IsReadAs content allowed path s
    → ImagesFault content failed s.processes.entries f → FaultOf content failed path (IsUnloadable content allowed) f
loading_fault content failed allowed path s f read (inl plain) = plain_fault content failed path (IsUnloadable content allowed) f plain
loading_fault content failed allowed path s f read (inr why) = subst (FaultOf content failed path (IsUnloadable content allowed)) (sym why.1) (by why.0 why.1)
  where
    there : (known : List ℕ) → content path ≡ Some known → IsScenario allowed known s
    there known is = subst (λ (b : List ℕ). IsScenario allowed b s) (read.1 known is) read.2

    by : (e : ImageError) → f ≡ fault_of_image e → FaultOf content failed path (IsUnloadable content allowed) (fault_of_image e)
    by image.Memory is = tt
    by (image.Header h) is = λ known at. (s, there known at, subst (AreRefused content s.processes.entries) is why.2)
    by (image.Decode rule slot) is = λ known at. (s, there known at, subst (AreRefused content s.processes.entries) is why.2)
    by (image.Verify rule slot) is = λ known at. (s, there known at, subst (AreRefused content s.processes.entries) is why.2)

-- what is loaded, where the bytes of the scenario's file are known
pub loaded_scenario : (content : Content) (allowed : Allowed) (path known : List ℕ) (s : Scenario) (is : List TheImage) → IsLoadedAs content allowed path s is
    → content path ≡ Some known → IsScenarioWithImages content allowed known s is
loaded_scenario content allowed path known s is all there =
    record { written = subst (λ (b : List ℕ). IsScenario allowed b s) (all.0.1 known there) all.0.2; loaded = all.1 }
