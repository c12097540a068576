-- What a handler makes of a state, piece by piece, and why it makes nothing.
use Rattle.std.proofs.Common.{◌≡◌, ◌<◌, ◌≤◌, ◌∙◌, ◌⊎◌, ℕ, Bool, List, [], ◌∷◌, Some, drop, inl, inr, length, refl, replicate, subst, sym, take}
use Rattle.limits.specs.declared.TheConstants.{STATE_BYTES}
use Rattle.interp.specs.Answer.{Handled, HasRun}
use Rattle.interp.specs.Image.{TheImage}
use Rattle.verifier.specs.declared.fault.HeaderFault.TheVariants.{StateLength}
use Rattle.image_commands.specs.Check.{HasImage}
use Rattle.image_commands.specs.Fault.{FaultOf}
use Rattle.image_commands.specs.Files.{Content}
use Rattle.image_commands.specs.Migrate.{ArePieces, Converts, IsImage, IsUnconverted, LeadsTo, MakesState, converter, piece_bytes}
use Rattle.image_commands.specs.declared.fault.Fault.{Fault}
use Rattle.image_commands.specs.declared.fault.Fault.TheVariants.{Header, Memory}
use Rattle.image_commands.specs.declared.conversion.TheConstants.{STATE_LIMIT}
use Rattle.image_commands.proofs.JudgedLemmas.{longer, read_whole}

-- ---- calls

-- a piece before others
first_of_more : (size : ℕ) (bytes : List ℕ) (pieces : List (List ℕ)) → size < length bytes → ArePieces size (drop size bytes) pieces
    → ArePieces size bytes (take size bytes ∷ pieces)
first_of_more size bytes [] long none = absurd none
first_of_more size bytes (piece ∷ pieces) long rest = (long, refl, rest)

-- a call on a state that is one piece
pub one_piece : (image : TheImage) (old state last : List ℕ) → length old ≤ piece_bytes image.form
    → (h : Handled) × HasRun image converter state old h × (h.state ≡ last) → Converts image old state last
one_piece image old state last short (h, run, is) = (old ∷ [], (short, refl), (h, run, sym is))

-- a call on the first piece, before those on the rest
pub more_pieces : (image : TheImage) (old state between last : List ℕ) → piece_bytes image.form < length old
    → (h : Handled) × HasRun image converter state (take (piece_bytes image.form) old) h × (h.state ≡ between)
    → Converts image (drop (piece_bytes image.form) old) between last → Converts image old state last
more_pieces image old state between last long (h, run, is) (pieces, cut, calls) = (
  take (piece_bytes image.form) old ∷ pieces,
  first_of_more (piece_bytes image.form) old pieces long cut,
  (h, run, subst (λ (s : List ℕ). LeadsTo image s pieces last) (sym is) calls),
)

-- ---- an image that was loaded, and the first bytes that were read of the state after that

module _ (content later : Content) (path place read old : List ℕ) (image : TheImage) (loaded : HasImage content path image) (same : later ≡ content)
    (bytes_read : (known : List ℕ) → later place ≡ Some known → read ≡ take STATE_LIMIT known) (slice : old ≡ read) where
  is_image : (bytes : List ℕ) → content path ≡ Some bytes → IsImage image bytes
  is_image bytes there = record { file = (loaded bytes there).0; typable = (loaded bytes there).1 }

  first_bytes : (known : List ℕ) → content place ≡ Some known → old ≡ take STATE_LIMIT known
  first_bytes known at = slice ∙ bytes_read known (subst (λ (c : Content). c place ≡ Some known) (sym same) at)

  -- its handler makes the new state
  pub state_made : (new : List ℕ) → length old ≤ STATE_BYTES → Converts image old (replicate image.len 0) new → (bytes : List ℕ) → content path ≡ Some bytes
      → MakesState content place bytes new
  state_made new short converted bytes there known at =
      let whole : old ≡ known = read_whole STATE_BYTES old known (first_bytes known at) short in
      record {
        image = image;
        loaded = is_image bytes there;
        short = subst (λ (o : List ℕ). length o ≤ STATE_BYTES) whole short;
        converted = subst (λ (o : List ℕ). Converts image o (replicate image.len 0) new) whole converted;
      }

  -- or none
  pub state_unmade : (failed : Bool) (e f : Fault) → (e ≡ Memory) ⊎ ((e ≡ Header StateLength) × (STATE_BYTES < length old)) → f ≡ e
      → FaultOf content failed path (IsUnconverted content place) f
  state_unmade failed e f (inl memory) is = subst (FaultOf content failed path (IsUnconverted content place)) (sym (is ∙ memory)) tt
  state_unmade failed e f (inr (fault, long)) is =
      subst (FaultOf content failed path (IsUnconverted content place)) (sym (is ∙ fault))
      (λ bytes there. inr (refl, (image, is_image bytes there), λ known at. longer STATE_BYTES old known (first_bytes known at) long))
