-- A node that received nothing is a process that did, and what comes back is one that does
use Rattle.std.proofs.Common.{◌≡◌, ◌∙◌, ap, refl, subst, ℕ, List, length, true}
use Rattle.std.specs.Prelude.{replicate}
use Rattle.std.proofs.lemmas.List.{length-replicate}
use Rattle.verifier.specs.declared.any_image.AnyImage.{AnyImage}
use Rattle.verifier.specs.AnyImage.{state_of}
use Rattle.node.specs.declared.limit.Limits.{Limits}
use Rattle.node.specs.Node.{TheNode, new_node}
use Rattle.node.specs.Stands.{StandsFirst}
use Rattle.packets.specs.declared.kept.Kept.{Kept}
use Rattle.packets.specs.Kept.{IsKept}
use Rattle.recovery.specs.Own.{comes_back}
use Rattle.recovery.specs.Collection.{TheCollecting, revived}
use Rattle.recovery.specs.Stands.{Revives}
use Rattle.recovery.specs.declared.lifecycle.Lifecycle.TheVariants.{Up, Collecting}
use Rattle.process.specs.Revival.{IsOpened, IsRevived, zero_state}

pub opened : (image : AnyImage) (limits : Limits) (me count : ℕ) (state : List ℕ) (n : TheNode) → n ≡ new_node limits me count state → length state ≡ state_of image → StandsFirst n me count state
    → IsOpened image limits me count state (record { image = image; lifecycle = Up n })
opened image limits me count state n is long s =
    record {
      long = long;
      image_is = refl;
      lifecycle_is = ap Up is;
      stands = let Q : TheNode → Type 0 = λ v. StandsFirst v me count state in subst Q is s;
    }

-- the same with zeros
pub opened-zeros : (image : AnyImage) (limits : Limits) (me count len : ℕ) (n : TheNode) → n ≡ new_node limits me count (replicate len 0) → len ≡ state_of image
    → StandsFirst n me count (replicate len 0) → IsOpened image limits me count (zero_state image) (record { image = image; lifecycle = Up n })
opened-zeros image limits me count len n is e s =
    let P : ℕ → Type 0 = λ k. IsOpened image limits me count (replicate k 0) (record { image = image; lifecycle = Up n }) in
    subst P e (opened image limits me count (replicate len 0) n is (length-replicate {A = ℕ} len 0 ∙ e) s)

-- what bytes keep is a process that came back
pub came-back : (image : AnyImage) (limits : Limits) (bytes : List ℕ) (life : ℕ) (k : Kept) (n : TheCollecting) → IsKept k bytes → comes_back k ≡ true → length k.state ≡ state_of image → n ≡ revived limits k life → Revives k life n
    → IsRevived image limits bytes life (record { image = image; lifecycle = Collecting n })
came-back image limits bytes life k n b e l is r =
    record {
      kept = k;
      is_kept = record { bytes_are = b; comes = e; long = l };
      image_is = refl;
      lifecycle_is = ap Collecting is;
      revives = let P : TheCollecting → Type 0 = λ m. Revives k life m in subst P is r;
    }
