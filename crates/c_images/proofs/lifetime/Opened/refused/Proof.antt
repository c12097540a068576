-- `refused` hands out a null pointer.
use Rattle.c_handles.proofs.Steps.{◌≡◌, [], ◌∷◌, Option, None, refl, lit<, w32, emp, ftrue, fact, fact_i, ‵, raw, ◌$◌, ◌∵◌, !, qed, by, drop, use0, join, fjoin, feq_i, and_then, no_more, lit, returns, enter, agg, alloc_all, pass_all, free_all, look_at, get, sets, yes, u32, uint_vals, uint_Tells, Ptr, null_ptr, plain, nothing, on_entry, Stays, stay_dropped, walk_of, Goes-dropped, proved, leaves, tables}
use Rattle.interp.specs.Image.{TheImage}
use Rattle.c_images.proofs.OpenedValue.{word, opened_in}
use Rattle.c_images.specs.contracts.lifetime.Opened.refused as f
use Rattle.c_images.proofs.lifetime.Opened.refused.Statement.{statement}
use Rattle.c_images.proofs.lifetime.Opened.refused.Code as code

abbrev stayed : Stays f.ended.signature.params f.ended.kept
stayed = (stay_dropped _ yes, tt)

pub refused_spec : {M : Type 1} → statement M
refused_spec 𝓤 𝓛 𝓜 𝓡 wired =
    let c = f.clauses 𝓛 𝓜.mem 𝓡.returns in let W = walk_of 𝓛 f.ended stayed c in let 𝓣 = tables 𝓤 𝓛.H 𝓜 𝓡 𝓡.env in
    proved 𝓛 f.ended stayed c 𝓜 𝓡 (Goes-dropped 𝓛 0 (plain (λ _. u32)) yes (λ κs x w. refl), tt)
    f.Key.name code.function (code.unfolded 𝓤 𝓛.H 𝓜 𝓡 wired)
    (λ κs. (uint_vals w32, tt)) (λ κs. (uint_Tells w32, tt)) (λ κs qs bounds a g are.
    let n = a.0 in let y : W.Ghost = ((κs, qs, bounds, a, (uint_vals w32 n, tt)), g) in let None' : Option TheImage = None in
    qed 𝓛 (raw (on_entry 𝓛 f.signature κs qs a y.0.4) ∷ ‵ ftrue ∷ []) ∵ drop ! $ drop ! $
    enter ! _ _ _ _ _ $ alloc_all ! (λ l. pass_all ! refl ((tt, record { fits = are.0.1 }), tt) $
    sets ! (agg ! (and_then ! (lit ! tt) (and_then ! (get ! refl) (no_more !)))) refl (tt, (record { fits = lit< tt }, (record { fits = are.0.1 }, tt))) $
    returns ! (look_at ! 0 refl) $ free_all ! refl $
    use0 𝓛 (raw (fact 𝓤 (None' ≡ None))) (fact_i 𝓤 (None' ≡ None) (emp 𝓤) refl) $ use0 𝓛 (raw (fact 𝓤 (n ≡ n))) (fact_i 𝓤 (n ≡ n) (emp 𝓤) refl) $ join ! $
    feq_i ! Ptr null_ptr null_ptr refl $ opened_in ! null_ptr n None are.0.1 $ nothing ! $ nothing ! $ fjoin ! $ nothing ! $
    by ! (leaves 𝓛 f.ended stayed c y (word null_ptr n) (record { at = null_ptr; code = n; held = None }) (tt, tt) (tt, tt))))
