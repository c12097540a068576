-- `sblog_state_len` lends what the pointer owns to a call, and has it back.
use Rattle.c_handles.proofs.Steps.{◌≡◌, ℕ, [], ◌∷◌, Option, Some, None, refl, sym, subst, lit<, w64, Ura, full_share, named, Val, vint, vptr, SProp, ent, sep, via, fst∗, snd∗, never, never_e, id⊢, emp, Lft, ftrue, feq, flft, flent, Incl-refl, Memory, Routine, Calls, Loops, WpFn, Tables, FmC, fm_of, WpFn-mono, Fun, fact, fact_i, Logic, sem, ‵, raw, ◌⊛◌, some, later, given, at_ret, ◌$◌, ◌∵◌, !, qed, by, move, keep, drop, use0, use1, use2, split, join, pick, await, learn, fsplit, fjoin, feq_i, feq_l, lft_new, lft_end, lent_back, and_then, no_more, of_opd, bin, lit, addr, stop, first, branches, skips, exec, returns, returns_within, enter, alloc_all, pass_all, free_all, look_at, get, through, sets, lands_as, env, yes, owns, usize, Is, shows, lends_shr, lone, part_at, uint_Makes, uint_Lawful, Ptr, RawPtr, block_ptr, null_ptr, rawptr_vals, rawptr_Tells, tests_null, Testable, ShrRef, plain, types_at, nothing, owned, heard, peeks, calls_at, Lasts, lasts, on_entry, Meets, triple_of, entered, Stays, stay_dropped, walk_of, Goes-dropped, walked, walk_Meets, leaves, Contract, Triple}
use mir.Raw.{raw as bare}
use contract.Running.{tables, tables_of}
use Rattle.c_images.specs.Handles.{may_free, owns_image}
use Rattle.c_images.specs.Handles.{state_len_of}
use Rattle.interp.specs.Image.{TheImage}
use Rattle.c_runs.specs.contracts.handler.OpenHandler.{the_row}
use Rattle.c_runs.proofs.handler.OpenHandler.TheLaws.{the_row_laws, the_within}
use Rattle.c_images.proofs.Lent.{tested}
use Rattle.c_runs.specs.contracts.handler.OpenHandler.state_len as of
use Rattle.c_runs.proofs.handler.OpenHandler.state_len.Symbol.{name as #len}
use Rattle.c_runs.proofs.handler.OpenHandler.state_len.Met as of_thm
use Rattle.c_images.specs.contracts.handles.sblog_state_len.Key.{name as key}
use Rattle.c_images.specs.contracts.handles.sblog_state_len as f
use Rattle.c_images.proofs.handles.sblog_state_len.Statement as stated
use Rattle.c_images.proofs.handles.sblog_state_len.Code as code

abbrev stayed : Stays (f.ended).signature.params (f.ended).kept
stayed = (stay_dropped _ yes, tt)

module _ {M : Type 1} {𝓤 : Ura M} (𝓛 : Logic 𝓤) (at_mem : Memory → SProp 𝓤) (run : Routine → Fun 𝓤) where
  abbrev Of : Contract 𝓤
  Of = triple_of 𝓛 of.signature (of.spec 𝓛 at_mem run)

module _ {M : Type 1} {𝓤 : Ura M} (𝓛 : Logic 𝓤) (at_mem : Memory → SProp 𝓤) (run : Routine → Fun 𝓤) (C : Calls 𝓤 𝓛.H) (Λ : Loops 𝓤 𝓛.H) (fm : FmC 𝓤 𝓛.H 𝓛.laws C)
    (known : Triple 𝓤 (C #len) (Of 𝓛 at_mem run)) where
  open 𝓛 use {H}

  abbrev bound : Ptr → Option TheImage → (walk_of 𝓛 f.ended stayed (f.clauses 𝓛 at_mem run)).Ghost
  bound p g = ((tt, tt, tt, (p, tt), (rawptr_vals p, tt)), g)

  abbrev Entry : Ptr → SProp 𝓤
  Entry p = on_entry 𝓛 f.signature tt tt (p, tt) (rawptr_vals p, tt)

  abbrev Post : Ptr → Option TheImage → Val → SProp 𝓤
  Post p g = (walk_of 𝓛 f.ended stayed (f.clauses 𝓛 at_mem run)).post (bound p g)

  abbrev Runs : Ptr → Option TheImage → SProp 𝓤
  Runs p g = WpFn 𝓤 H C Λ code.function (rawptr_vals p) (Post p g)

  exits : (p : Ptr) (g : Option TheImage) (r : ℕ) (v : Val) → r ≡ state_len_of g → ent 𝓤 (sep 𝓤 (sem 𝓛 (usize.own_val r (v ∷ []))) (sem 𝓛 (owns_image p g))) (Post p g v)
  exits p g r v is =
      qed 𝓛 (‵ (usize.own_val r (v ∷ [])) ∷ ‵ (owns_image p g) ∷ []) ∵
      use0 𝓛 (raw (fact 𝓤 (r ≡ state_len_of g))) (fact_i 𝓤 (r ≡ state_len_of g) (emp 𝓤) is) $ move ! (2 ∷ 0 ∷ []) $ join ! $ move ! (1 ∷ []) $ nothing ! $ nothing ! $ fjoin ! $ nothing ! $
      by ! (leaves 𝓛 f.ended stayed (f.clauses 𝓛 at_mem run) (bound p g) v r (tt, tt) (tt, tt))

  at_null : ent 𝓤 (Entry null_ptr) (Runs null_ptr None)
  at_null =
      qed 𝓛 (‵ ftrue ∷ ‵ (owns (types_at (f.signature).params tt) (null_ptr, tt) (rawptr_vals null_ptr, tt)) ∷ []) ∵ drop ! $ drop ! $
      enter ! C Λ code.function (rawptr_vals null_ptr) _ $
      alloc_all ! (λ l. pass_all ! refl ((tt, record { fits = lit< tt }), tt) $
      sets ! (bin ! (get ! refl) (lit ! tt) tt) refl (tt, tt) $
      first ! $ branches ! (get ! refl)
      (λ _. sets ! (of_opd ! (lit ! tt)) refl (tt, record { fits = lit< tt }) $ returns_within ! (Post null_ptr None) refl (look_at ! 0 refl) $ free_all ! refl $
      feq_i ! Ptr null_ptr null_ptr refl $ owned ! usize _ (uint_Makes 𝓛 w64) 0 _ (refl, lit< tt) $ by ! (exits null_ptr None 0 (vint w64 0) refl))
      (λ wrong. absurd wrong))

  at_block : (b o : ℕ) (x : TheImage) → ent 𝓤 (sep 𝓤 (Entry (block_ptr b o)) (sem 𝓛 (owns_image (block_ptr b o) (Some x)))) (Runs (block_ptr b o) (Some x))
  at_block b o x =
      let p : Ptr = block_ptr b o in
      qed 𝓛 (raw (Entry p) ∷ ‵ (owns_image p (Some x)) ∷ []) ∵ drop ! $
      use1 𝓛 (given (Testable p) (‵ (owns_image p (Some x)))) (tested 𝓛 the_row p x) $ learn ! (λ t. fsplit ! $
      enter ! C Λ code.function (rawptr_vals p) _ $
      alloc_all ! (λ l. pass_all ! refl ((tt, tt), tt) $
      sets ! (bin ! (get ! refl) (lit ! tt) (tests_null p t)) refl (tt, tt) $
      first ! $ branches ! (get ! refl) (λ wrong. absurd wrong)
      (λ _. skips ! $ exec ! C Λ (env code.Mir.locals l) code.Mir.t-3 (at_ret (env code.Mir.locals l) (Post p (Some x))) $
      sets ! (of_opd ! (get ! refl)) refl (tt, tt) $ sets ! (addr ! (through ! refl (stop !))) refl (tt, tt) $
      lft_new ! tt (λ α. let κ : Lft = α ∷ [] in move ! (1 ∷ 0 ∷ []) $
      use2 𝓛 (later ((‵ ((ShrRef (named 0) κ the_row).own_val (record { ref_ptr = (b, o); now = x }) (vptr b o ∷ [])) ⊛ ‵ (flent κ (part_at the_row full_share x b o))) ⊛ ‵ (flft κ full_share)))
      (lends_shr 𝓛 the_row (named 0) κ full_share x b o the_row.lives (the_row_laws.shares 𝓛 x) ((κ, full_share) ∷ []) (the_within κ) (Incl-refl κ)) $ await ! tt $ split ! $ split ! $
      -- [the loan; what the lender keeps; its token; the right to free]
      let z : (Of 𝓛 at_mem run).Ghost = (((κ, tt), (full_share, tt), tt, (record { ref_ptr = (b, o); now = x }, tt), (vptr b o ∷ [], tt)), tt) in
      nothing ! $ move ! (1 ∷ 0 ∷ []) $ fjoin ! $ nothing ! $ move ! (3 ∷ 0 ∷ []) $ join ! $ join ! $ nothing ! $ move ! (1 ∷ 0 ∷ []) $ use2 𝓛 (raw ((Of 𝓛 at_mem run).pre z)) (id⊢ 𝓤 _) $
      calls_at ! fm (Of 𝓛 at_mem run) known z (and_then ! (get ! refl) (no_more !)) (λ v.
      use1 𝓛 (later (some (λ (r : ℕ). ((‵ (flft κ full_share) ⊛ ‵ ftrue) ⊛ ‵ (usize.own_val r (v ∷ []))) ⊛ some (λ (ws : Lasts of.ended z.0.0 z.0.3). ‵ (lasts of.ended z.0.0 z.0.3 ws) ⊛ raw (fact 𝓤 (r ≡ x.len)))))) (id⊢ 𝓤 ((Of 𝓛 at_mem run).post z v)) $
      await ! tt $ pick ! (λ r. split ! $ split ! $ split ! $ lft_end ! tt $ move ! (3 ∷ []) $ pick ! (λ ws. split ! $ drop ! $ heard ! (r ≡ x.len) (λ is.
      -- [κ is over; nothing; the result; what the lender keeps; the right to free]
      move ! (0 ∷ 3 ∷ []) $ lent_back ! tt $ move ! (0 ∷ 3 ∷ []) $ fjoin ! $ move ! (2 ∷ []) $
      peeks ! usize (Is usize) (shows 𝓛 usize) r (v ∷ []) (λ fits. lands_as ! refl refl ((uint_Lawful 𝓛 w64).typed r _ fits).0 $
      returns ! (look_at ! 0 refl) $ free_all ! refl $ keep ! (0 ∷ 1 ∷ []) $ by ! (exits p (Some x) r v is))))))))))

  pub at_each : (p : Ptr) (g : Option TheImage) → ent 𝓤 (sep 𝓤 (Entry p) (sem 𝓛 (owns_image p g))) (Runs p g)
  at_each p None = qed 𝓛 (raw (Entry p) ∷ ‵ (feq Ptr p null_ptr) ∷ []) ∵ move ! (1 ∷ []) $ feq_l ! (λ e. by ! (subst (λ (q : Ptr). ent 𝓤 (Entry q) (Runs q None)) (sym e) at_null))
  at_each (block_ptr b o) (Some x) = at_block b o x
  at_each null_ptr (Some x) = via 𝓤 (never 𝓤) (via 𝓤 _ (snd∗ 𝓤 (Entry null_ptr) _) (fst∗ 𝓤 (never 𝓤) (sem 𝓛 (may_free (bare (lone the_row.mir)) null_ptr)))) (never_e 𝓤 _)

meets : {M : Type 1} {𝓤 : Ura M} (𝓛 : Logic 𝓤) (at_mem : Memory → SProp 𝓤) (run : Routine → Fun 𝓤) (𝓣 : Tables 𝓤 𝓛.H)
    → Triple 𝓤 (𝓣.C #len) (Of 𝓛 at_mem run) → Meets 𝓛 f.signature (WpFn 𝓤 𝓛.H 𝓣.C 𝓣.Λ code.function) (f.spec 𝓛 at_mem run)
meets {𝓤 = 𝓤} 𝓛 at_mem run 𝓣 known =
    walk_Meets 𝓛 f.ended stayed (Goes-dropped 𝓛 0 (plain (λ _. RawPtr)) yes (λ κs a g. refl), tt)
    (f.clauses 𝓛 at_mem run) (WpFn 𝓤 𝓛.H 𝓣.C 𝓣.Λ code.function) (WpFn-mono 𝓤 𝓛.H 𝓛.laws 𝓣 code.function)
    (walked 𝓛 f.ended stayed (f.clauses 𝓛 at_mem run) (WpFn 𝓤 𝓛.H 𝓣.C 𝓣.Λ code.function) (λ κs. (rawptr_vals, tt)) (λ κs. (rawptr_Tells, tt))
    (λ κs qs bounds a g are. at_each 𝓛 at_mem run 𝓣.C 𝓣.Λ (fm_of 𝓤 𝓛.H 𝓛.laws 𝓣) known a.0 g))

pub sblog_state_len_spec : {M : Type 1} → stated.statement M
unfolding tables_of
sblog_state_len_spec 𝓤 𝓛 𝓜 𝓡 wired =
    entered 𝓤 𝓛.H (triple_of 𝓛 f.signature (f.spec 𝓛 𝓜.mem 𝓡.returns))
    (tables 𝓤 𝓛.H 𝓜 𝓡 𝓡.env).C (tables 𝓤 𝓛.H 𝓜 𝓡 𝓡.env).Λ key code.function (code.unfolded 𝓤 𝓛.H 𝓜 𝓡 wired)
    (meets 𝓛 𝓜.mem 𝓡.returns (tables_of 𝓤 𝓛.H 𝓜 (tables 𝓤 𝓛.H 𝓜 𝓡 𝓡.env))
    (of_thm.met 𝓤 𝓛 𝓜 𝓡 (code.calls-c_runs::handler::OpenHandler::state_len 𝓡.env wired)))
