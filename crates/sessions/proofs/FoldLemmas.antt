-- A history that goes on by one message
use Rattle.std.proofs.Common.{◌≡◌, ℕ, zero, suc, List, [], ◌∷◌, ◌++◌, length, map, replicate, Bool, true, false, refl, sym, ap, ◌∙◌}
use Rattle.std.specs.Prelude.{Option, Some, None, slice_get, if◌then◌else◌, ◌==◌}
use Rattle.std.specs.Option.{option_map}
use Rattle.std.proofs.lemmas.Option.{slice_get-map}
use Rattle.std.proofs.lemmas.List.Sums.{fold-append}
use Rattle.interp.specs.Image.{TheImage}
use Rattle.interp.specs.Answer.{Handled, answered}
use Rattle.world.specs.declared.message.Message.{Message}
use Rattle.world.specs.History.{nth}
use Rattle.replay.specs.Emission.{payloads_to, emitted_to}
use Rattle.replay.proofs.EmissionLemmas.{payloads_to-append}
use Rattle.sessions.specs.Fold.{Folded, joined, taken_in, folded, unfolded, handlers_of}

-- the effects of one more answer come after the rest
pub emitted_to-joined : (d : ℕ) (f : Folded) (a : Handled) → emitted_to d (joined f (Some a)).effects ≡ emitted_to d f.effects ++ emitted_to d a.effects
emitted_to-joined d f a = split (d == 0)
  where
    split : (b : Bool) → (if b then f.effects.outputs ++ a.effects.outputs else payloads_to d (f.effects.sends ++ a.effects.sends)) ≡ (if b then f.effects.outputs else payloads_to d f.effects.sends) ++ (if b then a.effects.outputs else payloads_to d a.effects.sends)
    split true = refl
    split false = payloads_to-append d f.effects.sends a.effects.sends

pub folded-push : (n p : ℕ) (image : TheImage) (h : List Message) (m : Message) → folded n p (Some image) (h ++ m ∷ []) ≡ taken_in n image p (folded n p (Some image) h) m
folded-push n p image h m = fold-append (taken_in n image p) (unfolded image.len) h (m ∷ [])

-- the handler's answer to one more message
module _ (images : List TheImage) (p : ℕ) (image : TheImage) (h : List Message) (m : Message) (a : Handled) (at : nth images p ≡ Some image) (answers : answered image (record { me = p; from = m.sender; count = length images }) ((handlers_of images).state p h) m.payload ≡ Some a) where
  here : folded (length images) p (nth images p) h ≡ folded (length images) p (Some image) h
  here = ap (λ o. folded (length images) p o h) at

  given : answered image (record { me = p; from = m.sender; count = length images }) (folded (length images) p (Some image) h).state m.payload ≡ Some a
  given = ap (λ (f : Folded). answered image (record { me = p; from = m.sender; count = length images }) f.state m.payload) (sym here) ∙ answers

  folded_is : folded (length images) p (nth images p) (h ++ m ∷ []) ≡ joined (folded (length images) p (Some image) h) (Some a)
  folded_is =
      ap (λ o. folded (length images) p o (h ++ m ∷ [])) at
      ∙ folded-push (length images) p image h m
      ∙ ap (joined (folded (length images) p (Some image) h)) given

  -- the state is the one that the handler leaves
  pub handlers_of-push : (handlers_of images).state p (h ++ m ∷ []) ≡ a.state
  handlers_of-push = ap (λ (f : Folded). f.state) folded_is

  -- and its effects are sent after the rest
  pub sends-push : (d : ℕ) → (handlers_of images).sends p (h ++ m ∷ []) d ≡ (handlers_of images).sends p h d ++ emitted_to d a.effects
  sends-push d =
      ap (λ (f : Folded). emitted_to d f.effects) folded_is
      ∙ emitted_to-joined d (folded (length images) p (Some image) h) a
      ∙ ap (λ (f : Folded). emitted_to d f.effects ++ emitted_to d a.effects) (sym here)

-- a process that received nothing has a state of zeros
pub handlers_of-nothing : (images : List TheImage) (p : ℕ) (image : TheImage) → nth images p ≡ Some image → (handlers_of images).state p [] ≡ (unfolded image.len).state
handlers_of-nothing images p image at = ap (λ o. (folded (length images) p o []).state) at

-- as many as its image says
pub handlers_of-zeros : (images : List TheImage) (p len : ℕ) → nth (map (λ (i : TheImage). i.len) images) p ≡ Some len → (handlers_of images).state p [] ≡ replicate len 0
handlers_of-zeros images zero len at = absurd (cc)
handlers_of-zeros images (suc k) len at = zeros (slice_get images k) refl
  where
    zeros : (o : Option TheImage) → slice_get images k ≡ o → (handlers_of images).state (suc k) [] ≡ replicate len 0
    zeros None e =
        let none : slice_get (map (λ (i : TheImage). i.len) images) k ≡ None = slice_get-map (λ (i : TheImage). i.len) images k ∙ ap (option_map (λ (i : TheImage). i.len)) e in
        absurd (cc)
    zeros (Some image) e =
        let some : slice_get (map (λ (i : TheImage). i.len) images) k ≡ Some image.len = slice_get-map (λ (i : TheImage). i.len) images k ∙ ap (option_map (λ (i : TheImage). i.len)) e in
        let same : image.len ≡ len = cc in
        handlers_of-nothing images (suc k) image e ∙ ap (λ n. replicate n 0) same
