-- `sblog_compile` lends what the pointer owns to a call, and has it back.
use Rattle.c_handles.proofs.Steps.{◌≡◌, ℕ, List, [], ◌∷◌, ◌++◌, Option, Some, None, length, inr, refl, sym, subst, lit<, w32, MutBor, Ura, full_share, named, Val, vint, vptr, SProp, ent, sep, emp, via, fst∗, snd∗, never, never_e, id⊢, Lft, Share, ftrue, feq, flft, flent, Incl-refl, Memory, Routine, Calls, Loops, WpFn, Tables, FmC, fm_of, WpFn-mono, Fun, fact, fact_i, Logic, sem, ‵, raw, ◌⊛◌, some, later, given, at_ret, ◌$◌, ◌∵◌, !, qed, by, move, keep, drop, use0, use1, use2, split, join, pick, await, learn, fsplit, fjoin, feq_i, feq_l, lft_new, lft_end, lent_back, and_then, no_more, of_opd, bin, lit, addr, stop, first, branches, skips, exec, returns, returns_within, enter, from, fld, hop, agg, sub, whole, alloc_all, pass_all, free_all, look_at, look_in_at, get, get_in, through, sets, lands_as, env, yes, owns, u8, u32, usize, Is, shows, lends_shr, lone, part_at, uint_Makes, uint_Lawful, Ptr, RawPtr, block_ptr, null_ptr, rawptr_vals, rawptr_Tells, tests_null, Testable, ShrRef, mut_vals, mut_Tells, plain, types_at, Room, mut_slice_vals, mut_slice_Tells, nothing, owned, heard, peeks, calls_at, Lasts, lasts, Args, on_entry, alive, Meets, triple_of, entered, Stays, stay_dropped, gave_ref, gave_slice, walk_of, Goes-dropped, Goes-gave_ref, Goes-gave_slice, walked, walk_Meets, leaves, heap_val, heap_Tells, Contract, Triple}
use mir.Raw.{raw as bare}
use contract.Running.{tables, tables_of}
use Rattle.std.specs.contracts.alloc.Global as heap
use Rattle.std.proofs.alloc.Global.TheLaws as heap_laws
use Rattle.interp.specs.Image.{TheImage}
use Rattle.c_images.specs.Handles.{may_free, owns_image}
use Rattle.c_runs.specs.MachineCode.{Compiles}
use Rattle.c_runs.specs.declared.refusal.ImageRefusal.TheVariants.{Handle}
use Rattle.c_runs.specs.contracts.handler.OpenHandler.{the_row}
use Rattle.c_runs.proofs.handler.OpenHandler.TheLaws.{the_row_laws, the_within}
use Rattle.c_images.proofs.Lent.{given_ref, given_slice, ref_left, slice_left, tested}
use Rattle.c_runs.specs.contracts.machine_code.compile as of
use Rattle.c_runs.proofs.machine_code.compile.Symbol.{name as #compile}
use Rattle.c_runs.proofs.machine_code.compile.Met as of_thm
use Rattle.c_images.specs.contracts.handles.sblog_compile.Key.{name as key}
use Rattle.c_images.specs.contracts.handles.sblog_compile as f
use Rattle.c_images.proofs.handles.sblog_compile.Statement as stated
use Rattle.c_images.proofs.handles.sblog_compile.Code as code

abbrev stayed : Stays (f.ended).signature.params (f.ended).kept
stayed = (stay_dropped _ yes, (stay_dropped _ yes, (gave_slice (0 ∷ []) tt (plain (λ _. u8)), (gave_ref (1 ∷ []) tt (plain (λ _. usize)), tt))))

module _ {M : Type 1} {𝓤 : Ura M} (𝓛 : Logic 𝓤) (at_mem : Memory → SProp 𝓤) (run : Routine → Fun 𝓤) where
  abbrev Of : Contract 𝓤
  Of = triple_of 𝓛 of.signature (of.spec 𝓛 at_mem run)

module _ {M : Type 1} {𝓤 : Ura M} (𝓛 : Logic 𝓤) (at_mem : Memory → SProp 𝓤) (run : Routine → Fun 𝓤) (C : Calls 𝓤 𝓛.H) (Λ : Loops 𝓤 𝓛.H) (fm : FmC 𝓤 𝓛.H 𝓛.laws C)
    (known : Triple 𝓤 (C #compile) (Of 𝓛 at_mem run)) (κ₁ κ₂ : Lft) (q₁ q₂ : Share) (a : (heap.the_row).Denot) (is : Is heap.the_row a (heap_val ∷ [])) (ou : MutBor (List ℕ)) (sz : MutBor ℕ)
    (ro : Room u8 (length ou.now)) where
  open 𝓛 use {H}

  abbrev args : Ptr → Args f.signature (κ₁, (κ₂, tt))
  args p = (a, (p, (ou, (sz, tt))))

  abbrev passed : Ptr → List Val × (List Val × (List Val × (List Val × Unit {0})))
  passed p = (heap_val ∷ [], (rawptr_vals p, (mut_slice_vals ou, (mut_vals sz, tt))))

  abbrev words : Ptr → List Val
  words p = heap_val ∷ (rawptr_vals p ++ (mut_slice_vals ou ++ (mut_vals sz ++ [])))

  abbrev bound : Ptr → Option TheImage → (walk_of 𝓛 f.ended stayed (f.clauses 𝓛 at_mem run)).Ghost
  bound p g = (((κ₁, (κ₂, tt)), (q₁, (q₂, tt)), tt, args p, passed p), g)

  abbrev Alive : SProp 𝓤
  Alive = alive 𝓛 f.signature (κ₁, (κ₂, tt)) (q₁, (q₂, tt))

  abbrev Entry : Ptr → SProp 𝓤
  Entry p = on_entry 𝓛 f.signature (κ₁, (κ₂, tt)) (q₁, (q₂, tt)) (args p) (passed p)

  abbrev Post : Ptr → Option TheImage → Val → SProp 𝓤
  Post p g = (walk_of 𝓛 f.ended stayed (f.clauses 𝓛 at_mem run)).post (bound p g)

  abbrev Runs : Ptr → Option TheImage → SProp 𝓤
  Runs p g = WpFn 𝓤 H C Λ code.function (words p) (Post p g)

  -- what is left: the buffer, the size, the tokens, the result, and what the handle owns
  exits : (p : Ptr) (g : Option TheImage) (r : ℕ) (v : Val) (os : List ℕ) (s : ℕ) → length os ≡ length ou.now → Compiles r g ou.now os sz.now s
      → ent 𝓤 (sep 𝓤 (sem 𝓛 (given_slice κ₁ u8 ou os)) (sep 𝓤 (sem 𝓛 (given_ref κ₂ usize sz s)) (sep 𝓤 Alive (sep 𝓤 (sem 𝓛 (u32.own_val r (v ∷ []))) (sem 𝓛 (owns_image p g)))))) (Post p g v)
  exits p g r v os s eo done =
      qed 𝓛 (‵ (given_slice κ₁ u8 ou os) ∷ ‵ (given_ref κ₂ usize sz s) ∷ raw Alive ∷ ‵ (u32.own_val r (v ∷ [])) ∷ ‵ (owns_image p g) ∷ []) ∵
      move ! (1 ∷ []) $ nothing ! $ move ! (1 ∷ 0 ∷ []) $ fjoin ! $ move ! (1 ∷ 0 ∷ []) $ fjoin ! $ nothing ! $ fjoin ! $ nothing ! $ fjoin ! $
      use0 𝓛 (raw (fact 𝓤 (Compiles r g ou.now os sz.now s))) (fact_i 𝓤 (Compiles r g ou.now os sz.now s) (emp 𝓤) done) $ move ! (4 ∷ 0 ∷ []) $ join ! $ keep ! (2 ∷ 1 ∷ 3 ∷ 0 ∷ []) $
      by ! (leaves 𝓛 f.ended stayed (f.clauses 𝓛 at_mem run) (bound p g) v r (tt, (tt, (os, (s, tt)))) (tt, (tt, (eo, (tt, tt)))))

  at_null : ent 𝓤 (Entry null_ptr) (Runs null_ptr None)
  at_null =
      qed 𝓛 ((‵ (flft κ₁ q₁) ⊛ ‵ (flft κ₂ q₂) ⊛ ‵ ftrue) ∷ ‵ (owns (types_at (f.signature).params (κ₁, (κ₂, tt))) (args null_ptr) (passed null_ptr)) ∷ []) ∵
      enter ! C Λ code.function (words null_ptr) _ $
      alloc_all ! (λ l. pass_all ! refl (((heap_laws.the_row_laws.lawful 𝓛).typed a _ is).0, ((tt, record { fits = lit< tt }), ((tt, (tt, (record { fits = ro.0 }, tt))), ((tt, tt), tt)))) $
      sets ! (bin ! (get ! refl) (lit ! tt) tt) refl (tt, tt) $
      first ! $ branches ! (get ! refl)
      (λ _. sets ! (of_opd ! (lit ! tt)) refl (tt, record { fits = lit< tt }) $
      returns_within ! (Post null_ptr None) refl (look_at ! 0 refl) $ free_all ! refl $
      move ! (1 ∷ []) $ fsplit ! $ drop ! $ fsplit ! $ drop ! $ fsplit ! $ use1 𝓛 (‵ (given_slice κ₁ u8 ou ou.now)) (slice_left 𝓛 (named 0) κ₁ u8 ou (mut_slice_vals ou)) $
      move ! (1 ∷ []) $ fsplit ! $ use1 𝓛 (‵ (given_ref κ₂ usize sz sz.now)) (ref_left 𝓛 (named 1) κ₂ usize sz (mut_vals sz)) $
      owned ! u32 _ (uint_Makes 𝓛 w32) 10 _ (refl, lit< tt) $ feq_i ! Ptr null_ptr null_ptr refl $
      keep ! (4 ∷ 2 ∷ 5 ∷ 1 ∷ 0 ∷ []) $ by ! (exits null_ptr None 10 (vint w32 10) ou.now sz.now refl (inr (Handle, refl, (refl, refl, refl)))))
      (λ wrong. absurd wrong))

  at_block : (b o : ℕ) (x : TheImage) → ent 𝓤 (sep 𝓤 (Entry (block_ptr b o)) (sem 𝓛 (owns_image (block_ptr b o) (Some x)))) (Runs (block_ptr b o) (Some x))
  at_block b o x =
      let p : Ptr = block_ptr b o in
      qed 𝓛 (((‵ (flft κ₁ q₁) ⊛ ‵ (flft κ₂ q₂) ⊛ ‵ ftrue) ⊛ ‵ (owns (types_at (f.signature).params (κ₁, (κ₂, tt))) (args p) (passed p))) ∷ ‵ (owns_image p (Some x)) ∷ []) ∵
      move ! (1 ∷ []) $ use1 𝓛 (given (Testable p) (‵ (owns_image p (Some x)))) (tested 𝓛 the_row p x) $ learn ! (λ t. fsplit ! $
      -- [the image; the right to free it; the tokens and the parameters]
      enter ! C Λ code.function (words p) _ $
      alloc_all ! (λ l. pass_all ! refl (((heap_laws.the_row_laws.lawful 𝓛).typed a _ is).0, ((tt, tt), ((tt, (tt, (record { fits = ro.0 }, tt))), ((tt, tt), tt)))) $
      sets ! (bin ! (get ! refl) (lit ! tt) (tests_null p t)) refl (tt, tt) $
      first ! $ branches ! (get ! refl) (λ wrong. absurd wrong)
      (λ _. skips ! $ exec ! C Λ (env code.Mir.locals l) code.Mir.t-3 (at_ret (env code.Mir.locals l) (Post p (Some x))) $
      -- &*handle.cast::<Handler>()
      sets ! (of_opd ! (get ! refl)) refl (tt, tt) $
      sets ! (addr ! (through ! refl (stop !))) refl (tt, tt) $
      -- &mut *out, &mut *size
      sets ! (addr ! (from ! (fld ! refl (hop ! (look_in_at ! 3 (sub ! 0 refl (whole !))) (stop !))))) refl (tt, tt) $
      sets ! (agg ! (and_then ! (get ! refl) (and_then ! (get_in ! (fld ! refl (stop !)) (sub ! 1 refl (whole !))) (no_more !)))) refl (tt, (tt, (record { fits = ro.0 }, tt))) $
      sets ! (addr ! (through ! refl (stop !))) refl (tt, tt) $
      lft_new ! tt (λ α. let κ : Lft = α ∷ [] in move ! (1 ∷ 0 ∷ []) $
      use2 𝓛 (later ((‵ ((ShrRef (named 0) κ the_row).own_val (record { ref_ptr = (b, o); now = x }) (vptr b o ∷ [])) ⊛ ‵ (flent κ (part_at the_row full_share x b o))) ⊛ ‵ (flft κ full_share)))
      (lends_shr 𝓛 the_row (named 0) κ full_share x b o the_row.lives (the_row_laws.shares 𝓛 x) ((κ, full_share) ∷ []) (the_within κ) (Incl-refl κ)) $ await ! tt $ split ! $ split ! $
      -- [the loan; what the lender keeps; its token; the right to free; the tokens and the parameters]
      let z : (Of 𝓛 at_mem run).Ghost = (
        (
          (κ, (κ₁, (κ₂, tt))),
          (full_share, (q₁, (q₂, tt))),
          tt,
          (a, (record { ref_ptr = (b, o); now = x }, (ou, (sz, tt)))),
          (heap_val ∷ [], (vptr b o ∷ [], (mut_slice_vals ou, (mut_vals sz, tt)))),
        ),
        tt,
      ) in
      move ! (4 ∷ []) $ split ! $ move ! (1 ∷ []) $ fsplit ! $ move ! (1 ∷ []) $ fsplit ! $ drop ! $ move ! (3 ∷ 0 ∷ []) $ fjoin ! $ move ! (1 ∷ 0 ∷ []) $ fjoin ! $
      move ! (3 ∷ 1 ∷ []) $ join ! $ join ! $ nothing ! $ move ! (1 ∷ 0 ∷ []) $ use2 𝓛 (raw ((Of 𝓛 at_mem run).pre z)) (id⊢ 𝓤 _) $
      calls_at ! fm (Of 𝓛 at_mem run) known z (and_then ! (get ! refl) (and_then ! (get ! refl) (and_then ! (get ! refl) (and_then ! (get ! refl) (no_more !))))) (λ v.
      use1 𝓛 (later (some (λ (r : ℕ). ((‵ (flft κ full_share) ⊛ ‵ (flft κ₁ q₁) ⊛ ‵ (flft κ₂ q₂) ⊛ ‵ ftrue) ⊛ ‵ (u32.own_val r (v ∷ []))) ⊛
      some (λ (ws : Lasts of.ended z.0.0 z.0.3). ‵ (lasts of.ended z.0.0 z.0.3 ws) ⊛ raw (fact 𝓤 (Compiles r (Some x) ou.now ws.1.1.0 sz.now ws.1.1.1.0)))))) (id⊢ 𝓤 ((Of 𝓛 at_mem run).post z v)) $
      await ! tt $ pick ! (λ r. split ! $ split ! $ split ! $ lft_end ! tt $ move ! (3 ∷ []) $ pick ! (λ ws. split ! $ move ! (1 ∷ []) $ heard ! (Compiles r (Some x) ou.now ws.1.1.0 sz.now ws.1.1.1.0) (λ done.
      -- [the last values; κ is over; the tokens; the result; what the lender keeps; the right to free]
      move ! (1 ∷ 4 ∷ []) $ lent_back ! tt $ move ! (0 ∷ 4 ∷ []) $ fjoin ! $ move ! (1 ∷ []) $ fsplit ! $ drop ! $ fsplit ! $ drop ! $
      fsplit ! $ fsplit ! $ fsplit ! $ move ! (1 ∷ []) $ feq_l ! (λ eo. fjoin ! $ move ! (1 ∷ []) $ fsplit ! $ move ! (5 ∷ []) $
      peeks ! u32 (Is u32) (shows 𝓛 u32) r (v ∷ []) (λ fits. lands_as ! refl refl ((uint_Lawful 𝓛 w32).typed r _ fits).0 $
      returns ! (look_at ! 0 refl) $ free_all ! refl $ keep ! (3 ∷ 1 ∷ 5 ∷ 0 ∷ 4 ∷ []) $ by ! (exits p (Some x) r v ws.1.1.0 ws.1.1.1.0 eo done)))))))))))

  pub at_each : (p : Ptr) (g : Option TheImage) → ent 𝓤 (sep 𝓤 (Entry p) (sem 𝓛 (owns_image p g))) (Runs p g)
  at_each p None = qed 𝓛 (raw (Entry p) ∷ ‵ (feq Ptr p null_ptr) ∷ []) ∵ move ! (1 ∷ []) $ feq_l ! (λ e. by ! (subst (λ (q : Ptr). ent 𝓤 (Entry q) (Runs q None)) (sym e) at_null))
  at_each (block_ptr b o) (Some x) = at_block b o x
  at_each null_ptr (Some x) = via 𝓤 (never 𝓤) (via 𝓤 _ (snd∗ 𝓤 (Entry null_ptr) _) (fst∗ 𝓤 (never 𝓤) (sem 𝓛 (may_free (bare (lone the_row.mir)) null_ptr)))) (never_e 𝓤 _)

meets : {M : Type 1} {𝓤 : Ura M} (𝓛 : Logic 𝓤) (at_mem : Memory → SProp 𝓤) (run : Routine → Fun 𝓤) (𝓣 : Tables 𝓤 𝓛.H)
    → Triple 𝓤 (𝓣.C #compile) (Of 𝓛 at_mem run) → Meets 𝓛 f.signature (WpFn 𝓤 𝓛.H 𝓣.C 𝓣.Λ code.function) (f.spec 𝓛 at_mem run)
meets {𝓤 = 𝓤} 𝓛 at_mem run 𝓣 known =
    walk_Meets 𝓛 f.ended stayed (
      Goes-dropped 𝓛 2 (plain (λ _. heap.the_row)) yes (λ κs a g. refl),
      (Goes-dropped 𝓛 2 (plain (λ _. RawPtr)) yes (λ κs a g. refl), (Goes-gave_slice 𝓛 2 0 tt (plain (λ _. u8)), (Goes-gave_ref 𝓛 2 1 tt (plain (λ _. usize)), tt))),
    )
    (f.clauses 𝓛 at_mem run) (WpFn 𝓤 𝓛.H 𝓣.C 𝓣.Λ code.function) (WpFn-mono 𝓤 𝓛.H 𝓛.laws 𝓣 code.function)
    (walked 𝓛 f.ended stayed (f.clauses 𝓛 at_mem run) (WpFn 𝓤 𝓛.H 𝓣.C 𝓣.Λ code.function) (λ κs. ((λ _. heap_val ∷ []), (rawptr_vals, (mut_slice_vals, (mut_vals, tt)))))
    (λ κs. (heap_Tells, (rawptr_Tells, (mut_slice_Tells (named 0) κs.0 u8, (mut_Tells (named 1) κs.1.0 usize, tt)))))
    (λ κs qs bounds a g are. at_each 𝓛 at_mem run 𝓣.C 𝓣.Λ (fm_of 𝓤 𝓛.H 𝓛.laws 𝓣) known κs.0 κs.1.0 qs.0 qs.1.0 a.0 are.0 a.1.1.0 a.1.1.1.0 are.1.1.0.0.1 a.1.0 g))

pub sblog_compile_spec : {M : Type 1} → stated.statement M
unfolding tables_of
sblog_compile_spec 𝓤 𝓛 𝓜 𝓡 wired =
    entered 𝓤 𝓛.H (triple_of 𝓛 f.signature (f.spec 𝓛 𝓜.mem 𝓡.returns))
    (tables 𝓤 𝓛.H 𝓜 𝓡 𝓡.env).C (tables 𝓤 𝓛.H 𝓜 𝓡 𝓡.env).Λ key code.function (code.unfolded 𝓤 𝓛.H 𝓜 𝓡 wired)
    (meets 𝓛 𝓜.mem 𝓡.returns (tables_of 𝓤 𝓛.H 𝓜 (tables 𝓤 𝓛.H 𝓜 𝓡 𝓡.env))
    (of_thm.met 𝓤 𝓛 𝓜 𝓡 (code.calls-c_runs::machine_code::compile 𝓡.env wired)))
