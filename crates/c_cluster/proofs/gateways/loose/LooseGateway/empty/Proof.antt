-- `empty` makes a handle of null, which owns nothing.
use Rattle.c_handles.proofs.Steps.{List, [], ◌∷◌, ◌++◌, None, refl, sym, subst, lit<, w64, Val, vint, vstruct, vcons, vnil, has_ty, ent, emp, id⊢, ftrue, fsep, WpFn, Item, ‵, raw, ◌⊛◌, ◌$◌, ◌∵◌, !, qed, by, move, drop, use1, join, split, fsplit, fjoin, fpack, feq_i, suffices, done, agg, lit, no_more, and_then, returns, enter, alloc_all, pass_all, free_all, look_at, get, sets, yes, layout, Valss, RawPtr, null_ptr, ptr_val, type_at, nothing, within, shape, says, Stays, stay_dropped, walk_of, ends_at, Goes-dropped, and_tt, handle_tells, P, owning, proved_at, FromHeap, tables}
use Rattle.std_heap.specs.contracts.Global as Heap
use Rattle.c_cluster.proofs.AsBox.{OfGateway as E}
use Rattle.c_cluster.specs.contracts.gateways.loose.LooseGateway.empty as F
use Rattle.c_cluster.proofs.gateways.loose.LooseGateway.empty.Statement.{statement}
use Rattle.c_cluster.proofs.gateways.loose.LooseGateway.empty.Code as code

abbrev stayed : Stays (F.ended).signature.params (F.ended).kept
stayed = (stay_dropped FromHeap yes, tt)

pub empty_spec : {M : Type 1} → statement M
empty_spec 𝓤 𝓛 𝓜 𝓡 wired =
    let H = 𝓛.H in let c = F.clauses 𝓛 𝓜.mem 𝓡.returns in let 𝓣 = tables 𝓤 H 𝓜 𝓡 𝓡.env in
    proved_at 𝓛 F.ended stayed c 𝓜 𝓡 (Goes-dropped 𝓛 0 FromHeap yes (λ κs x f. refl), tt) F.Key.name code.function (code.unfolded 𝓤 H 𝓜 𝓡 wired) (λ z are.
    let Post = (walk_of 𝓛 F.ended stayed c).post z in let To = type_at (F.signature).result tt in
    let a = z.0.3.0 in
    let made : To.Denot = record { at = null_ptr; alloc = a; value = None } in
    qed 𝓛 ((‵ ftrue ⊛ ‵ (fsep ((Heap.the_row).own_val a z.0.4.0) ftrue)) ∷ raw (emp 𝓤) ∷ []) ∵ split ! $ drop ! $ fsplit ! $
    handle_tells E.al ! a z.0.4.0 (λ h ws fa. move ! (1 ∷ 2 ∷ []) $ drop ! $ drop ! $
    let w : Val = vstruct (vcons (vint w64 0) (vcons h vnil)) in
    let Γ : List (Item 𝓤) = ‵ ((Heap.the_row).own_val a (h ∷ [])) ∷ [] in
    by ! (subst (λ (us : List Val). ent 𝓤 (types.Kit.⋆ 𝓛 Γ) (WpFn 𝓤 H 𝓣.C 𝓣.Λ code.function (us ++ []) Post)) (sym ws)
    (qed 𝓛 Γ ∵ enter ! 𝓣.C 𝓣.Λ code.function (h ∷ []) _ $ alloc_all ! (λ ls. pass_all ! refl (fa, tt) $
    sets ! (agg ! (and_then ! (lit ! tt) (and_then ! (get ! refl) (no_more !)))) refl (and_tt (has_ty (layout Heap.the_row) h) fa.0, (record { fits = lit< tt }, (fa.1, tt))) $ returns ! (look_at ! 0 refl) $ free_all ! refl $
    nothing ! $ nothing ! $ move ! (2 ∷ 0 ∷ []) $ fjoin ! $ feq_i ! (List Val) (ptr_val null_ptr ∷ []) (ptr_val null_ptr ∷ []) refl $ fjoin ! $ feq_i ! (List Val) (w ∷ []) (w ∷ []) refl $ fjoin ! $
    fpack ! (Valss (RawPtr ∷ P E ∷ [])) (within (shape (owning E)) (null_ptr, (a, tt)) (w ∷ [])) (ptr_val null_ptr ∷ [], (h ∷ [], tt)) $ fjoin ! $
    use1 𝓛 (‵ (To.own_val made (w ∷ []))) (id⊢ 𝓤 _) $
    suffices ! _ (ends_at 𝓛 F.ended stayed c z w made (tt, tt) (tt, tt)) $ says ! (refl, refl) $
    nothing ! $ nothing ! $ fjoin ! $ join ! $ nothing ! $ join ! $ done !)))))
