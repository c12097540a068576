-- `sblog_open` hands out the pointer and what lies behind it.
use Rattle.c_handles.proofs.Steps.{List, [], ◌∷◌, Option, refl, ap, w32, full_share, named, ty_ptr, Val, vint, SProp, sep, ex, ex_i, emp, id⊢, ftrue, fat, flft, fact, fact_i, sem, ‵, raw, ◌⊛◌, some, later, ◌$◌, ◌∵◌, !, qed, by, move, keep, drop, use0, use1, use2, split, split3, join, pick, await, fsplit, fsplit3, fjoin, fjoin3, feq_i, feq_l, rewrite, and_then, no_more, of_opd, returns, enter, assigns, store, stop, fld, sub, whole, alloc_all, pass_all, free_all, look_at, get, get_in, through, sets, lands_as, yes, owns, u8, u32, SliceRefOf, cell_at, uint_Makes, RawPtr, ptr_val, mut_vals, mut_Tells, plain, types_at, shr_slice_vals, shr_slice_Tells, nothing, owned, opens, closes, heard, only, calls_at, Lasts, lasts, triple_of, framed, Stays, stay_dropped, stay_ref, walk_of, Goes-dropped, Goes-ref, proved, leaves, heap_val, heap_Tells, tables}
use Rattle.std.specs.contracts.alloc.Global as heap
use Rattle.std.proofs.alloc.Global.TheLaws as heap_laws
use Rattle.interp.specs.Image.{TheImage}
use Rattle.c_images.specs.Handles.{owns_image, Opens}
use Rattle.c_images.specs.contracts.lifetime.Opened as opened
use Rattle.c_images.proofs.OpenedValue.{opened_out, ptr_good, word_good}
use Rattle.c_images.specs.contracts.lifetime.open as callee
use Rattle.c_images.proofs.lifetime.open.Met.{met}
use Rattle.c_images.specs.contracts.handles.sblog_open as f
use Rattle.c_images.proofs.handles.sblog_open.Statement.{statement}
use Rattle.c_images.proofs.handles.sblog_open.Code as code

abbrev stayed : Stays f.ended.signature.params f.ended.kept
stayed = (stay_dropped _ yes, (stay_dropped _ yes, (stay_ref (1 ∷ []) tt (plain (λ _. RawPtr)), tt)))

pub sblog_open_spec : {M : Type 1} → statement M
sblog_open_spec 𝓤 𝓛 𝓜 𝓡 wired =
    let c = f.clauses 𝓛 𝓜.mem 𝓡.returns in let W = walk_of 𝓛 f.ended stayed c in let 𝓣 = tables 𝓤 𝓛.H 𝓜 𝓡 𝓡.env in
    proved 𝓛 f.ended stayed c 𝓜 𝓡 (Goes-dropped 𝓛 2 (plain (λ _. heap.the_row)) yes (λ κs x w. refl), (Goes-dropped 𝓛 2 (SliceRefOf (0 ∷ []) tt (plain (λ _. u8)) (λ κs. tt)) yes (λ κs x w. refl), (Goes-ref 𝓛 2 1 tt (plain (λ _. RawPtr)), tt)))
    f.Key.name code.function (code.unfolded 𝓤 𝓛.H 𝓜 𝓡 wired)
    (λ κs. ((λ _. heap_val ∷ []), (shr_slice_vals, (mut_vals, tt)))) (λ κs. (heap_Tells, (shr_slice_Tells (named 0) κs.0 u8, (mut_Tells (named 1) κs.1.0 RawPtr, tt)))) (λ κs qs bounds a g are.
    let file = a.1.0 in let to = a.1.1.0 in let b = to.ref_ptr.0 in let o = to.ref_ptr.1 in
    let t₁ = ‵ (flft κs.0 qs.0) in let t₂ = ‵ (flft κs.1.0 qs.1.0) in
    let y : W.Ghost = ((κs, qs, bounds, a, (heap_val ∷ [], (shr_slice_vals file, (mut_vals to, tt)))), g) in
    let G = triple_of 𝓛 callee.signature (callee.spec 𝓛 𝓜.mem 𝓡.returns) in
    let z : G.Ghost = (((κs.0, tt), (qs.0, tt), tt, (a.0, (file, tt)), (heap_val ∷ [], (shr_slice_vals file, tt))), tt) in
    qed 𝓛 (((t₁ ⊛ t₂ ⊛ ‵ ftrue) ⊛ ‵ (owns (types_at f.ended.signature.params κs) a y.0.4)) ∷ ‵ ftrue ∷ []) ∵
    split ! $ split3 ! $ move ! (3 ∷ []) $ fsplit ! $ move ! (1 ∷ []) $ fsplit ! $ move ! (1 ∷ []) $ fsplit ! $ keep ! (3 ∷ 2 ∷ 4 ∷ 0 ∷ 5 ∷ []) $
    -- [the allocator; the file; its token; the pointer's place; its token]
    enter ! _ _ _ _ _ $ alloc_all ! (λ l. pass_all ! refl (((heap_laws.the_row_laws.lawful 𝓛).typed a.0 _ are.0).0, ((tt, (tt, (record { fits = are.1.0.0.1.0 }, tt))), ((tt, tt), tt))) $
    move ! (1 ∷ []) $ nothing ! $ move ! (1 ∷ 0 ∷ []) $ fjoin ! $ move ! (1 ∷ 0 ∷ []) $ fjoin ! $ nothing ! $ move ! (2 ∷ 0 ∷ []) $ join ! $ join ! $ nothing ! $ move ! (1 ∷ 0 ∷ []) $ use2 𝓛 (raw (G.pre z)) (id⊢ 𝓤 _) $
    calls_at ! (framed 𝓤 𝓛.H 𝓜 𝓣) G (met 𝓤 𝓛 𝓜 𝓡 (code.calls-c_images::lifetime::open 𝓡.env wired)) z (and_then ! (get ! refl) (and_then ! (get ! refl) (no_more !))) (λ u.
    use1 𝓛 (later (some (λ (r : (opened.the_row).Denot). ((t₁ ⊛ ‵ ftrue) ⊛ ‵ ((opened.the_row).own_val r (u ∷ []))) ⊛
    some (λ (ws : Lasts callee.ended z.0.0 z.0.3). ‵ (lasts callee.ended z.0.0 z.0.3 ws) ⊛ raw (fact 𝓤 (Opens r.code file.now r.held)))))) (id⊢ 𝓤 (G.post z u)) $
    await ! tt $ pick ! (λ r. split ! $ split ! $ split ! $ move ! (3 ∷ []) $ pick ! (λ ws. split ! $ drop ! $ heard ! (Opens r.code file.now r.held) (λ is. move ! (2 ∷ []) $ opened_out ! r (u ∷ []) (λ e low.
    -- [what the pointer owns; the file's token; nothing; the pointer's place; its token]
    lands_as ! (ap only e) refl (word_good r.at r.code low) $
    sets ! (of_opd ! (get_in ! (fld ! refl (stop !)) (sub ! 0 refl (whole !)))) refl (ptr_good r.at) $
    sets ! (of_opd ! (get_in ! (fld ! refl (stop !)) (sub ! 1 refl (whole !)))) refl (tt, record { fits = low }) $
    move ! (3 ∷ []) $ fsplit3 ! $ drop ! $ move ! (0 ∷ 1 ∷ 5 ∷ []) $ opens ! tt RawPtr b o (λ us. move ! (1 ∷ []) $ feq_l ! (λ was.
    rewrite ! 0 (λ (ws : List Val). ‵ (cell_at full_share RawPtr.mir ws b o)) was refl $ use1 𝓛 (‵ (fat full_share ty_ptr b o (ptr_val to.now))) (𝓛.laws.raw_at full_share ty_ptr b o (ptr_val to.now)) $
    assigns ! (of_opd ! (get ! refl)) (through ! refl (stop !)) (store ! 0 refl (ptr_good r.at)) $
    use1 𝓛 (‵ (cell_at full_share RawPtr.mir (ptr_val r.at ∷ []) b o)) (𝓛.laws.at_raw full_share ty_ptr b o (ptr_val r.at)) $
    feq_i ! (List Val) (ptr_val r.at ∷ []) (ptr_val r.at ∷ []) refl $ move ! (1 ∷ 0 ∷ []) $ closes ! tt RawPtr r.at (ptr_val r.at ∷ []) b o $
    sets ! (of_opd ! (get ! refl)) refl (tt, record { fits = low }) $
    returns ! (look_at ! 0 refl) $ free_all ! refl $
    feq_i ! (List Val) (mut_vals to) (mut_vals to) refl $ fjoin3 ! $ nothing ! $ move ! (1 ∷ 0 ∷ []) $ fjoin ! $ nothing ! $ fjoin ! $ nothing ! $ fjoin ! $
    move ! (1 ∷ 4 ∷ []) $ join ! $ move ! (3 ∷ 0 ∷ []) $ join ! $ move ! (2 ∷ []) $ use0 𝓛 (raw (fact 𝓤 (Opens r.code file.now r.held))) (fact_i 𝓤 (Opens r.code file.now r.held) (emp 𝓤) is) $ move ! (1 ∷ 0 ∷ []) $ join ! $
    let out : Option TheImage → SProp 𝓤 = λ held. sep 𝓤 (sem 𝓛 (owns_image r.at held)) (fact 𝓤 (Opens r.code file.now held)) in use1 𝓛 (raw (ex 𝓤 out)) (ex_i 𝓤 out r.held) $
    owned ! u32 _ (uint_Makes 𝓛 w32) r.code _ (refl, low) $ keep ! (2 ∷ 3 ∷ 0 ∷ 1 ∷ []) $
    by ! (leaves 𝓛 f.ended stayed c y (vint w32 r.code) r.code (tt, (tt, (r.at, tt))) (tt, (tt, (tt, tt)))))))))))))
