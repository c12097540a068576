use Rattle.std.proofs.Common.{◌≡◌, ◌∙◌, ◌++◌, sym, ap, ℕ, List, Bool, Some, None}
use Rattle.std.specs.Bool.{Decides}
use Rattle.std.proofs.lemmas.List.{append_cancel_left}
use Rattle.std.proofs.lemmas.Slice.Eq.{strip_prefix_is, slice_eq-Decides}
use Rattle.std.proofs.lemmas.Bool.Decides.{Decides-eqb}
use Rattle.assemble.proofs.mnemonic.Mnemonic.is_named.Goals as goal

named : (text stem ending rest word : List ℕ) (r : Bool) → text ≡ stem ++ rest → Decides r (rest ≡ ending) → stem ++ ending ≡ word → Decides r (text ≡ word)
named text stem ending rest word r parts told is =
    (λ e. parts ∙ ap (λ (x : List ℕ). stem ++ x) (told.0 e) ∙ is, λ e. told.1 (append_cancel_left stem rest ending (sym parts ∙ e ∙ sym is)))

pub returns-in-Some : goal.returns-in-Some
returns-in-Some c =
    let stem = c.as_bytes.result.now in
    let ending = c.as_bytes-in-Some.result.now in
    let parts = strip_prefix_is Decides-eqb c.args.text.now stem (Some c.in-Some.rest) c.in-Some.ensures.cases in
    let told = slice_eq-Decides Decides-eqb c.in-Some.rest.now ending c.eq.result c.eq.ensures in
    named c.args.text.now stem ending c.in-Some.rest.now _ c.eq.result parts told ((λ i. c.as_bytes.ensures.value i ++ c.as_bytes-in-Some.ensures.value i) ∙ c.parts.ensures)

pub returns-in-None : goal.returns-in-None
returns-in-None c =
    let none = strip_prefix_is Decides-eqb c.args.text.now c.as_bytes.result.now None c.in-None.ensures.cases in
    (λ e. absurd cc, λ e. absurd (none c.parts.result.1.now (e ∙ sym c.parts.ensures ∙ ap (λ (x : List ℕ). x ++ c.parts.result.1.now) (sym c.as_bytes.ensures.value))))
