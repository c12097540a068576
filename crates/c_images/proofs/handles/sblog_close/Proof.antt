-- `sblog_close` gives back what the pointer owns.
use Rattle.c_handles.proofs.Steps.{ℕ, List, [], ◌∷◌, Option, Some, None, refl, sym, ap, subst, lit<, Ura, Val, vptr, vunit, SProp, ent, sep, via, fst∗, snd∗, never, never_e, id⊢, emp, ftrue, feq, Memory, Routine, Calls, Loops, WpFn, Tables, FmC, fm_of, WpFn-mono, Fun, Logic, sem, ‵, raw, ◌⊛◌, some, later, given, at_ret, ◌$◌, ◌∵◌, !, qed, by, move, keep, drop, use0, use1, use2, split, join, pick, await, learn, fsplit, fjoin, feq_i, feq_l, and_then, no_more, of_opd, bin, lit, unit_lit, first, branches, skips, exec, returns, returns_within, enter, agg, alloc_all, pass_all, free_all, look_at, get, sets, lands_as, env, yes, owns, unit, lone, Ptr, RawPtr, block_ptr, null_ptr, rawptr_vals, rawptr_Tells, tests_null, Testable, plain, types_at, Is, shows, nothing, only, peeks, calls_at, Lasts, lasts, on_entry, Meets, triple_of, entered, Stays, stay_dropped, walk_of, Goes-dropped, walked, walk_Meets, leaves, heap_val, heap_Tells, Contract, Triple}
use mir.Raw.{raw as bare}
use contract.Running.{tables, tables_of}
use Rattle.std.specs.contracts.alloc.Global as heap
use Rattle.std.proofs.alloc.Global.TheLaws as heap_laws
use Rattle.std.specs.contracts.impls.GlobalAllocator.TheImpl.{ghosts}
use Rattle.c_images.specs.Handles.{may_free, owns_image}
use Rattle.interp.specs.Image.{TheImage}
use Rattle.c_runs.specs.contracts.handler.OpenHandler.{the_row}
use Rattle.c_handles.specs.contracts.loose.Loose as loose
use Rattle.c_images.proofs.Lent.{tested}
use Rattle.c_handles.proofs.Loosened.{both, loose_good, loose_in}
use Rattle.c_images.specs.contracts.lifetime.close as of
use Rattle.c_images.proofs.lifetime.close.Symbol.{name as #close}
use Rattle.c_images.proofs.lifetime.close.Met as of_thm
use Rattle.c_images.specs.contracts.handles.sblog_close.Key.{name as key}
use Rattle.c_images.specs.contracts.handles.sblog_close as f
use Rattle.c_images.proofs.handles.sblog_close.Statement as stated
use Rattle.c_images.proofs.handles.sblog_close.Code as code

abbrev stayed : Stays (f.ended).signature.params (f.ended).kept
stayed = (stay_dropped _ yes, (stay_dropped _ yes, tt))

module _ {M : Type 1} {𝓤 : Ura M} (𝓛 : Logic 𝓤) (at_mem : Memory → SProp 𝓤) (run : Routine → Fun 𝓤) where
  abbrev Of : Contract 𝓤
  Of = triple_of 𝓛 of.signature (of.spec 𝓛 at_mem run)

module _ {M : Type 1} {𝓤 : Ura M} (𝓛 : Logic 𝓤) (at_mem : Memory → SProp 𝓤) (run : Routine → Fun 𝓤) (C : Calls 𝓤 𝓛.H) (Λ : Loops 𝓤 𝓛.H) (fm : FmC 𝓤 𝓛.H 𝓛.laws C)
    (known : Triple 𝓤 (C #close) (Of 𝓛 at_mem run)) (a : (heap.the_row).Denot) where
  open 𝓛 use {H}

  abbrev bound : Ptr → Option TheImage → (walk_of 𝓛 f.ended stayed (f.clauses 𝓛 at_mem run)).Ghost
  bound p g = ((tt, tt, tt, (a, (p, tt)), (heap_val ∷ [], (rawptr_vals p, tt))), g)

  abbrev Entry : Ptr → SProp 𝓤
  Entry p = on_entry 𝓛 f.signature tt tt (a, (p, tt)) (heap_val ∷ [], (rawptr_vals p, tt))

  abbrev Post : Ptr → Option TheImage → Val → SProp 𝓤
  Post p g = (walk_of 𝓛 f.ended stayed (f.clauses 𝓛 at_mem run)).post (bound p g)

  abbrev words : Ptr → List Val
  words p = heap_val ∷ rawptr_vals p

  abbrev Runs : Ptr → Option TheImage → SProp 𝓤
  Runs p g = WpFn 𝓤 H C Λ code.function (words p) (Post p g)

  exits : (p : Ptr) (g : Option TheImage) → ent 𝓤 (emp 𝓤) (Post p g vunit)
  exits p g =
      qed 𝓛 (raw (emp 𝓤) ∷ []) ∵ drop ! $ nothing ! $ feq_i ! (List Val) (vunit ∷ []) (vunit ∷ []) refl $ nothing ! $ nothing ! $ fjoin ! $ nothing ! $ fjoin ! $ nothing ! $
      by ! (leaves 𝓛 f.ended stayed (f.clauses 𝓛 at_mem run) (bound p g) vunit tt (tt, (tt, tt)) (tt, (tt, tt)))

  at_null : ent 𝓤 (Entry null_ptr) (Runs null_ptr None)
  at_null =
      qed 𝓛 (‵ ftrue ∷ ‵ (owns (types_at (f.signature).params tt) (a, (null_ptr, tt)) (heap_val ∷ [], (rawptr_vals null_ptr, tt))) ∷ []) ∵ drop ! $ fsplit ! $ peeks ! heap.the_row (Is heap.the_row) (shows 𝓛 heap.the_row) a (heap_val ∷ []) (λ is. drop ! $ drop ! $
      enter ! C Λ code.function (words null_ptr) _ $
      alloc_all ! (λ l. pass_all ! refl (((heap_laws.the_row_laws.lawful 𝓛).typed a _ is).0, ((tt, record { fits = lit< tt }), tt)) $
      sets ! (bin ! (get ! refl) (lit ! tt) tt) refl (tt, tt) $
      first ! $ branches ! (get ! refl)
      (λ _. sets ! (of_opd ! (unit_lit !)) refl (tt, tt) $ returns_within ! (Post null_ptr None) refl (look_at ! 0 refl) $ free_all ! refl $ use0 𝓛 (raw (emp 𝓤)) (id⊢ 𝓤 (emp 𝓤)) $ by ! (exits null_ptr None))
      (λ wrong. absurd wrong)))

  at_block : (b o : ℕ) (x : TheImage) → ent 𝓤 (sep 𝓤 (Entry (block_ptr b o)) (sem 𝓛 (owns_image (block_ptr b o) (Some x)))) (Runs (block_ptr b o) (Some x))
  at_block b o x =
      let p : Ptr = block_ptr b o in let d : (loose.the_row the_row heap.the_row ghosts).Denot = record { at = p; alloc = a; value = x } in
      let z : (Of 𝓛 at_mem run).Ghost = ((tt, tt, tt, (d, tt), (both (vptr b o) heap_val ∷ [], tt)), tt) in
      qed 𝓛 ((‵ ftrue ⊛ ‵ (owns (types_at (f.signature).params tt) (a, (p, tt)) (heap_val ∷ [], (rawptr_vals p, tt)))) ∷ ‵ (owns_image p (Some x)) ∷ []) ∵
      move ! (1 ∷ []) $ use1 𝓛 (given (Testable p) (‵ (owns_image p (Some x)))) (tested 𝓛 the_row p x) $ learn ! (λ t. move ! (1 ∷ []) $ split ! $ drop ! $ fsplit ! $ move ! (0 ∷ 2 ∷ []) $
      -- [the allocator; what the pointer owns]
      peeks ! heap.the_row (Is heap.the_row) (shows 𝓛 heap.the_row) a (heap_val ∷ []) (λ is. let good = ((heap_laws.the_row_laws.lawful 𝓛).typed a _ is).0 in
      enter ! C Λ code.function (words p) _ $
      alloc_all ! (λ l. pass_all ! refl (good, ((tt, tt), tt)) $
      sets ! (bin ! (get ! refl) (lit ! tt) (tests_null p t)) refl (tt, tt) $
      first ! $ branches ! (get ! refl) (λ wrong. absurd wrong)
      (λ _. skips ! $ exec ! C Λ (env code.Mir.locals l) code.Mir.t-3 (at_ret (env code.Mir.locals l) (Post p (Some x))) $
      sets ! (agg ! (and_then ! (get ! refl) (and_then ! (get ! refl) (no_more !)))) refl (loose_good the_row heap.the_row heap_laws.the_row_laws ghosts b o heap_val good) $
      move ! (1 ∷ 0 ∷ []) $ loose_in the_row heap.the_row heap_laws.the_row_laws ghosts ! b o heap_val a x $ nothing ! $ move ! (1 ∷ 0 ∷ []) $ fjoin ! $ nothing ! $ join ! $ nothing ! $ move ! (1 ∷ 0 ∷ []) $ use2 𝓛 (raw ((Of 𝓛 at_mem run).pre z)) (id⊢ 𝓤 _) $
      calls_at ! fm (Of 𝓛 at_mem run) known z (and_then ! (get ! refl) (no_more !)) (λ v.
      use1 𝓛 (later (some (λ (r : Unit {0}). (‵ ftrue ⊛ ‵ (unit.own_val r (v ∷ []))) ⊛ some (λ (ws : Lasts of.ended z.0.0 z.0.3). ‵ (lasts of.ended z.0.0 z.0.3 ws) ⊛ ‵ ftrue)))) (id⊢ 𝓤 ((Of 𝓛 at_mem run).post z v)) $
      await ! tt $ pick ! (λ r. split ! $ split ! $ drop ! $ feq_l ! (λ is_unit. drop ! $ lands_as ! (ap only is_unit) refl (tt, tt) $
      sets ! (of_opd ! (unit_lit !)) refl (tt, tt) $ returns ! (look_at ! 0 refl) $ free_all ! refl $ use0 𝓛 (raw (emp 𝓤)) (id⊢ 𝓤 (emp 𝓤)) $ keep ! (0 ∷ []) $ by ! (exits p (Some x)))))))))

  pub at_each : (p : Ptr) (g : Option TheImage) → ent 𝓤 (sep 𝓤 (Entry p) (sem 𝓛 (owns_image p g))) (Runs p g)
  at_each p None = qed 𝓛 (raw (Entry p) ∷ ‵ (feq Ptr p null_ptr) ∷ []) ∵ move ! (1 ∷ []) $ feq_l ! (λ e. by ! (subst (λ (q : Ptr). ent 𝓤 (Entry q) (Runs q None)) (sym e) at_null))
  at_each (block_ptr b o) (Some x) = at_block b o x
  at_each null_ptr (Some x) = via 𝓤 (never 𝓤) (via 𝓤 _ (snd∗ 𝓤 (Entry null_ptr) _) (fst∗ 𝓤 (never 𝓤) (sem 𝓛 (may_free (bare (lone the_row.mir)) null_ptr)))) (never_e 𝓤 _)

meets : {M : Type 1} {𝓤 : Ura M} (𝓛 : Logic 𝓤) (at_mem : Memory → SProp 𝓤) (run : Routine → Fun 𝓤) (𝓣 : Tables 𝓤 𝓛.H)
    → Triple 𝓤 (𝓣.C #close) (Of 𝓛 at_mem run) → Meets 𝓛 f.signature (WpFn 𝓤 𝓛.H 𝓣.C 𝓣.Λ code.function) (f.spec 𝓛 at_mem run)
meets {𝓤 = 𝓤} 𝓛 at_mem run 𝓣 known =
    walk_Meets 𝓛 f.ended stayed (Goes-dropped 𝓛 0 (plain (λ _. heap.the_row)) yes (λ κs a g. refl), (Goes-dropped 𝓛 0 (plain (λ _. RawPtr)) yes (λ κs a g. refl), tt))
    (f.clauses 𝓛 at_mem run) (WpFn 𝓤 𝓛.H 𝓣.C 𝓣.Λ code.function) (WpFn-mono 𝓤 𝓛.H 𝓛.laws 𝓣 code.function)
    (walked 𝓛 f.ended stayed (f.clauses 𝓛 at_mem run) (WpFn 𝓤 𝓛.H 𝓣.C 𝓣.Λ code.function) (λ κs. ((λ _. heap_val ∷ []), (rawptr_vals, tt))) (λ κs. (heap_Tells, (rawptr_Tells, tt)))
    (λ κs qs bounds a g are. at_each 𝓛 at_mem run 𝓣.C 𝓣.Λ (fm_of 𝓤 𝓛.H 𝓛.laws 𝓣) known a.0 a.1.0 g))

pub sblog_close_spec : {M : Type 1} → stated.statement M
unfolding tables_of
sblog_close_spec 𝓤 𝓛 𝓜 𝓡 wired =
    entered 𝓤 𝓛.H (triple_of 𝓛 f.signature (f.spec 𝓛 𝓜.mem 𝓡.returns))
    (tables 𝓤 𝓛.H 𝓜 𝓡 𝓡.env).C (tables 𝓤 𝓛.H 𝓜 𝓡 𝓡.env).Λ key code.function (code.unfolded 𝓤 𝓛.H 𝓜 𝓡 wired)
    (meets 𝓛 𝓜.mem 𝓡.returns (tables_of 𝓤 𝓛.H 𝓜 (tables 𝓤 𝓛.H 𝓜 𝓡 𝓡.env))
    (of_thm.met 𝓤 𝓛 𝓜 𝓡 (code.calls-c_images::lifetime::close 𝓡.env wired)))
