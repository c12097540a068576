-- A slice or a reference that is left as it was passed says its last value. Assumes `Logic`.
use Rattle.std.proofs.Common.{List, [], ◌∷◌, length, MutBor}
use seplogic.Ra.Ura.{Ura}
use mir.Syntax.{Lifetime}
use mir.Val.{Val}
use mir.Raw.{raw as bare}
use base.Logic.{ent, guard, via, snd∗, guard_i}
use base.Fml.{Lft, Fml, fsep, fres, fbor}
use types.Logic.{Logic, sem}
use types.Kit.{‵, ◌$◌, ◌∵◌, !, qed, move, keep, use1, fsplit, fjoin, done}
use types.SemTy.{Arr, Body}
use types.Hole.{Holey}
use denote.RattleType.{RattleType}
use denote.Memory.{mem, lone}
use denote.RawPtr.{Ptr, Testable, lies_at}
use contract.Monad.{fact_use}
use base.Fraction.{full_share}
use Rattle.std_alloc.specs.Box.Ownership.{box_owns}
use Rattle.std_heap.proofs.GlobalToken.{dealloc_token-Testable}
use Rattle.c_images.specs.Handles.{heap, may_free}
use denote.Ref.{MutRef}
use denote.Slice.{MutSlice, finally, res-finally, coded_holeys, heres}

-- what is left of a slice that a function gave away or left alone
abbrev pub given_slice : (κ : Lft) (R : RattleType) → MutBor (List R.Denot) → List R.Denot → Fml
given_slice κ R x ys = fsep (finally R x.ghost_name ys) (fbor κ (Body (Arr (Holey (mem R)) (length x.now)) x.ref_ptr.0 x.ref_ptr.1 x.ghost_name))

-- a slice that a function left alone ends with the value that it has now
pub slice_left : {M : Type 1} {𝓤 : Ura M} (𝓛 : Logic 𝓤) (ℓ : Lifetime) (κ : Lft) (R : RattleType) (x : MutBor (List R.Denot)) (vs : List Val)
    → ent 𝓤 (sem 𝓛 ((MutSlice ℓ κ R).own_val x vs)) (sem 𝓛 (given_slice κ R x x.now))
slice_left 𝓛 ℓ κ R x vs =
    qed 𝓛 (‵ ((MutSlice ℓ κ R).own_val x vs) ∷ []) ∵ fsplit ! $ move ! (1 ∷ []) $ fsplit ! $
    use1 𝓛 (‵ (fres x.ghost_name ((coded_holeys R).code (heres R x.now)))) (𝓛.names.obs-res x.ghost_name ((coded_holeys R).code (heres R x.now))) $
    use1 𝓛 (‵ (finally R x.ghost_name x.now)) (res-finally 𝓛 ℓ κ R x.ghost_name x.now) $ keep ! (0 ∷ 1 ∷ []) $ fjoin ! $ done !

-- a pointer to what a box owned may be compared with null
pub tested : {M : Type 1} {𝓤 : Ura M} (𝓛 : Logic 𝓤) (R : RattleType) (p : Ptr) (x : R.Denot)
    → ent 𝓤 (sem 𝓛 (box_owns may_free R p x)) (guard 𝓤 (Testable p) (sem 𝓛 (box_owns may_free R p x)))
tested {𝓤 = 𝓤} 𝓛 R p x =
    let freed = snd∗ 𝓤 (sem 𝓛 (lies_at R full_share p x)) (sem 𝓛 (may_free (bare (lone R.mir)) p)) in
    fact_use 𝓤 (Testable p) (via 𝓤 _ freed (dealloc_token-Testable 𝓛 heap (bare (lone R.mir)) p)) (guard_i 𝓤 (Testable p) (sem 𝓛 (box_owns may_free R p x)))

-- what is left of a reference that a function gave away or left alone
abbrev pub given_ref : (κ : Lft) (R : RattleType) → MutBor R.Denot → R.Denot → Fml
given_ref κ R x y = fsep (fres x.ghost_name (R.coded.code y)) (fbor κ (Body (mem R) x.ref_ptr.0 x.ref_ptr.1 x.ghost_name))

-- a reference that a function left alone ends with the value that it has now
pub ref_left : {M : Type 1} {𝓤 : Ura M} (𝓛 : Logic 𝓤) (ℓ : Lifetime) (κ : Lft) (R : RattleType) (x : MutBor R.Denot) (vs : List Val)
    → ent 𝓤 (sem 𝓛 ((MutRef ℓ κ R).own_val x vs)) (sem 𝓛 (given_ref κ R x x.now))
ref_left 𝓛 ℓ κ R x vs =
    qed 𝓛 (‵ ((MutRef ℓ κ R).own_val x vs) ∷ []) ∵ fsplit ! $ move ! (1 ∷ []) $ fsplit ! $
    use1 𝓛 (‵ (fres x.ghost_name (R.coded.code x.now))) (𝓛.names.obs-res x.ghost_name (R.coded.code x.now)) $ keep ! (0 ∷ 1 ∷ []) $ fjoin ! $ done !
