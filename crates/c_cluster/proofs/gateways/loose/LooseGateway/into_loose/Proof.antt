-- `into_loose` moves two fields, and what they own goes with them.
use Rattle.c_handles.proofs.Steps.{◌≡◌, List, [], ◌∷◌, ◌++◌, Option, Some, refl, sym, subst, Val, ent, id⊢, Fml, ftrue, fsep, WpFn, fact, Item, ‵, raw, ◌⊛◌, ◌$◌, ◌∵◌, !, qed, by, move, drop, use1, join, split, rewrite, fsplit, fjoin, suffices, done, whole, sub, agg, stop, fld, no_more, and_then, of_opd, returns, enter, alloc_all, pass_all, free_all, look_at, get, get_in, sets, yes, type_at, plain, heard, nothing, says, Stays, stay_dropped, walk_of, ends_at, Goes-dropped, X, D, B, word, box_typed, box_out, box_in, proved_at, tables}
use Rattle.c_cluster.specs.contracts.gateways.loose.LooseGateway as loose
use Rattle.c_cluster.proofs.AsBox.{OfGateway as E}
use Rattle.c_cluster.specs.contracts.gateways.loose.LooseGateway.into_loose as F
use Rattle.c_cluster.proofs.gateways.loose.LooseGateway.into_loose.Statement.{statement}
use Rattle.c_cluster.proofs.gateways.loose.LooseGateway.into_loose.Code as code

abbrev stayed : Stays (F.ended).signature.params (F.ended).kept
stayed = (stay_dropped (plain (λ _. loose.the_row)) yes, tt)

pub into_loose_spec : {M : Type 1} → statement M
into_loose_spec 𝓤 𝓛 𝓜 𝓡 wired =
    let H = 𝓛.H in let c = F.clauses 𝓛 𝓜.mem 𝓡.returns in let 𝓣 = tables 𝓤 H 𝓜 𝓡 𝓡.env in
    proved_at 𝓛 F.ended stayed c 𝓜 𝓡 (Goes-dropped 𝓛 0 (plain (λ _. loose.the_row)) yes (λ κs x f. refl), tt) F.Key.name code.function (code.unfolded 𝓤 H 𝓜 𝓡 wired) (λ z are.
    let Post = (walk_of 𝓛 F.ended stayed c).post z in let To = type_at (F.signature).result tt in
    let v : D E = record { ptr = z.0.3.0.at; alloc = z.0.3.0.alloc; value = z.1 } in
    let made : To.Denot = record { at = v.ptr; alloc = v.alloc; value = v.value } in
    let From' : Option (X E) → Fml = λ x. (loose.the_row).own_val (record { at = v.ptr; alloc = v.alloc; value = x }) z.0.4.0 in
    qed 𝓛 ((‵ ftrue ⊛ ‵ (fsep (From' z.0.3.0.value) ftrue)) ∷ raw (fact 𝓤 (z.0.3.0.value ≡ Some z.1)) ∷ []) ∵ move ! (1 ∷ []) $ heard ! (z.0.3.0.value ≡ Some z.1) (λ is. split ! $ drop ! $ fsplit ! $ rewrite ! 0 (λ x. ‵ (From' x)) is refl $ use1 𝓛 (‵ ((B E).own_val v z.0.4.0)) (id⊢ 𝓤 _) $
    box_out E ! v z.0.4.0 (λ b o hv e ws fa. box_in E ! v b o v.value e refl $ use1 𝓛 (‵ (To.own_val made (word E hv b o ∷ []))) (id⊢ 𝓤 _) $ move ! (1 ∷ 2 ∷ []) $ drop ! $ drop ! $
    let w = word E hv b o in
    let Γ : List (Item 𝓤) = ‵ (To.own_val made (w ∷ [])) ∷ [] in
    by ! (subst (λ (us : List Val). ent 𝓤 (types.Kit.⋆ 𝓛 Γ) (WpFn 𝓤 H 𝓣.C 𝓣.Λ code.function (us ++ []) Post)) (sym ws)
    (qed 𝓛 Γ ∵ enter ! 𝓣.C 𝓣.Λ code.function (w ∷ []) _ $ alloc_all ! (λ ls. pass_all ! refl (box_typed E hv b o fa, tt) $
    sets ! (of_opd ! (get_in ! (fld ! refl (stop !)) (sub ! 0 refl (whole !)))) refl (tt, tt) $ sets ! (of_opd ! (get_in ! (fld ! refl (stop !)) (sub ! 1 refl (whole !)))) refl fa $ sets ! (of_opd ! (get ! refl)) refl (tt, tt) $
    sets ! (agg ! (and_then ! (get ! refl) (and_then ! (get ! refl) (no_more !)))) refl (box_typed E hv b o fa) $ returns ! (look_at ! 0 refl) $ free_all ! refl $
    suffices ! _ (ends_at 𝓛 F.ended stayed c z w made (tt, tt) (tt, tt)) $ says ! refl $
    nothing ! $ nothing ! $ fjoin ! $ join ! $ nothing ! $ join ! $ done !))))))
