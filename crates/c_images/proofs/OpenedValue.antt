-- The machine value of an `Opened`. Assumes `Logic`.
use Rattle.std.proofs.Common.{◌≡◌, ℕ, ◌^◌, ◌<◌, List, [], ◌∷◌, ◌++◌, Option, refl, ap, ◌∙◌, lit<, w32}
use seplogic.Ra.Ura.{Ura}
use lib.Dec.{T}
use mir.Syntax.{ty_ptr}
use mir.Val.{Val, vint, vstruct, vcons, vnil, of_list, has_ty, WT}
use denote.Param.{layout}
use types.Logic.{Logic}
use types.Kit.{Item, Goal, Seq, Step, step, ‵, ◌$◌, drop, fsplit, fjoin, fpick, fpack, feq_i, feq_l}
use denote.RattleType.{Valss}
use denote.Builtin.{u32}
use denote.Laws.{Is, shows}
use denote.Plain.{uint_Makes}
use denote.RawPtr.{Ptr, RawPtr, block_ptr, null_ptr, ptr_val}
use denote.Steps.{nothing, owned, peeks}
use denote.Struct.Struct.{within}
use denote.Struct.Owning.{shape}
use Rattle.interp.specs.Image.{TheImage}
use Rattle.c_images.specs.Handles.{owns_image}
use Rattle.c_images.specs.contracts.lifetime.Opened as opened

-- its pointer and its code
abbrev pub word : Ptr → ℕ → Val
word p n = vstruct (vcons (ptr_val p) (vcons (vint w32 n) vnil))

module _ {M : Type 1} {𝓤 : Ura M} {𝓛 : Logic 𝓤} {K : Type 0} {Γ : List (Item 𝓤)} {G : Goal 𝓤 𝓛.H} where
  -- an `Opened` is made of a pointer that owns the image, and a code
  pub opened_in : K → (p : Ptr) (n : ℕ) (h : Option TheImage) → n < 2 ^ 32
      → Step K 𝓛 (‵ ((opened.the_row).own_val (record { at = p; code = n; held = h }) (word p n ∷ [])) ∷ Γ) G (‵ (owns_image p h) ∷ Γ) G
  opened_in t p n h low = step (λ s.
      nothing t $ owned t u32 _ (uint_Makes 𝓛 w32) n _ (refl, low) $ fjoin t $ feq_i t (List Val) (ptr_val p ∷ []) _ refl $ fjoin t $ feq_i t (List Val) (word p n ∷ []) (word p n ∷ []) refl $ fjoin t $
      fpack t (Valss (RawPtr ∷ u32 ∷ [])) (within (shape opened.the_type) (p, (n, tt)) (word p n ∷ [])) (ptr_val p ∷ [], (vint w32 n ∷ [], tt)) $ fjoin t $ s)

  -- what an `Opened` owns is the image
  pub opened_out : K → (d : (opened.the_row).Denot) (vs : List Val)
      → (vs ≡ word d.at d.code ∷ [] → d.code < 2 ^ 32 → Seq K 𝓛 (‵ (owns_image d.at d.held) ∷ Γ) G)
      → Seq K 𝓛 (‵ ((opened.the_row).own_val d vs) ∷ Γ) G
  opened_out t d vs k =
      fsplit t $ fpick t (λ vss. fsplit t $ feq_l t (λ ev. fsplit t $ feq_l t (λ ep. fsplit t $ peeks t u32 (Is u32) (shows 𝓛 u32) d.code vss.1.0 (λ is. drop t $ drop t $
      k (ev ∙ ap (λ (ps : List Val). vstruct (of_list (ps ++ (vss.1.0 ++ []))) ∷ []) ep ∙ ap (λ (ns : List Val). vstruct (of_list (ptr_val d.at ∷ (ns ++ []))) ∷ []) is.0) is.1))))

-- a pointer's machine value has the type of pointers
pub ptr_good : (p : Ptr) → T (has_ty ty_ptr (ptr_val p)) × WT (ptr_val p)
ptr_good (block_ptr b o) = (tt, tt)
ptr_good null_ptr = (tt, record { fits = lit< tt })

-- with a code of 32 bits the pair has the type of an `Opened`
pub word_good : (p : Ptr) (n : ℕ) → n < 2 ^ 32 → T (has_ty (layout opened.the_row) (word p n)) × WT (word p n)
word_good (block_ptr b o) n low = (tt, (tt, (record { fits = low }, tt)))
word_good null_ptr n low = (tt, (record { fits = lit< tt }, (record { fits = low }, tt)))
