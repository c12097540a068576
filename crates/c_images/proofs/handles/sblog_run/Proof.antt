-- Runs.
use Rattle.c_handles.proofs.Steps.{◌≡◌, ℕ, ◌^◌, ◌<◌, List, [], ◌∷◌, ◌++◌, Option, Some, None, length, inr, refl, sym, subst, lit<, w8, w32, Bor, MutBor, Ura, full_share, named, Val, vint, vptr, SProp, ent, sep, emp, via, fst∗, snd∗, never, never_e, id⊢, Lft, GName, Share, ftrue, feq, flft, flent, fres, Memory, Routine, Calls, Loops, WpFn, Tables, Logic, sem, Fun, fact, fact_i, ‵, raw, ◌⊛◌, some, later, ◌$◌, ◌∵◌, !, qed, by, move, drop, keep, use0, use1, use2, learn, given, split, split3, join, pick, rewrite, use3, fsplit, fjoin, feq_l, feq_i, await, at_ret, lft_new, lft_end, and_then, no_more, of_opd, bin, lit, first, branches, skips, exec, returns, returns_within, enter, addr, stop, from, fld, hop, agg, sub, whole, alloc_all, pass_all, free_all, look_at, look_in_at, get, get_in, through, sets, lands_as, env, FmC, fm_of, WpFn-mono, yes, owns, part_at, mem, lone, uint_vals, uint_Tells, uint_Makes, uint_Lawful, u8, u32, SliceRefOf, plain, types_at, Room, shr_slice_vals, mut_slice_vals, mut_slice_Tells, shr_slice_Tells, lends_ref, ref_back, MutRef, Body, Ptr, block_ptr, null_ptr, RawPtr, rawptr_vals, rawptr_Tells, tests_null, Testable, owned, peeks, heard, nothing, calls_at, Lasts, lasts, Is, shows, Args, on_entry, alive, Meets, triple_of, entered, Stays, stay_dropped, gave_slice, walk_of, Goes-dropped, Goes-gave_slice, walked, walk_Meets, leaves, Contract, Triple}
use contract.Running.{tables, tables_of}
use mir.Raw.{raw as bare}
use Rattle.c_images.specs.Handles.{may_free, owns_image}
use Rattle.c_runs.specs.Runs.{Runs as IsRun}
use Rattle.c_runs.specs.declared.refusal.ImageRefusal.TheVariants.{Handle}
use Rattle.helpers.specs.declared.effects.Who.{Who}
use Rattle.c_images.proofs.Lent.{given_slice, slice_left, tested}
use Rattle.interp.specs.Image.{TheImage}
use Rattle.c_runs.specs.contracts.handler.OpenHandler.{the_row}
use Rattle.c_runs.specs.contracts.runs.run as of
use Rattle.c_runs.proofs.runs.run.Symbol.{name as #call}
use Rattle.c_runs.proofs.runs.run.Met as of_thm
use Rattle.c_images.specs.contracts.handles.sblog_run.Key.{name as key}
use Rattle.c_images.specs.contracts.handles.sblog_run as f
use Rattle.c_images.proofs.handles.sblog_run.Statement as stated
use Rattle.c_images.proofs.handles.sblog_run.Code as code

abbrev stayed : Stays (f.ended).signature.params (f.ended).kept
stayed = (stay_dropped _ yes, (gave_slice (0 ∷ []) tt (plain (λ _. u8)), (stay_dropped _ yes, (stay_dropped _ yes, (stay_dropped _ yes, (stay_dropped _ yes, (gave_slice (2 ∷ []) tt (plain (λ _. u8)), tt)))))))

module _ {M : Type 1} {𝓤 : Ura M} (𝓛 : Logic 𝓤) (at_mem : Memory → SProp 𝓤) (run : Routine → Fun 𝓤) where
  abbrev Of : Contract 𝓤
  Of = triple_of 𝓛 of.signature (of.spec 𝓛 at_mem run)

module _ {M : Type 1} {𝓤 : Ura M} (𝓛 : Logic 𝓤) (at_mem : Memory → SProp 𝓤) (run : Routine → Fun 𝓤) (C : Calls 𝓤 𝓛.H) (Λ : Loops 𝓤 𝓛.H) (fm : FmC 𝓤 𝓛.H 𝓛.laws C)
    (known : Triple 𝓤 (C #call) (Of 𝓛 at_mem run)) (κ₁ κ₂ κ₃ : Lft) (q₁ q₂ q₃ : Share) (st ou : MutBor (List ℕ)) (ms : Bor (List ℕ)) (me fr co : ℕ)
    (rs : Room u8 (length st.now)) (rm : Room u8 (length ms.now)) (ro : Room u8 (length ou.now)) (bm : me < 2 ^ 8) (bf : fr < 2 ^ 8) (bc : co < 2 ^ 8) where
  open 𝓛 use {H}

  abbrev who : Who
  who = record { me = me; from = fr; count = co }

  abbrev args : Ptr → Args f.signature (κ₁, (κ₂, (κ₃, tt)))
  args p = (p, (st, (ms, (me, (fr, (co, (ou, tt)))))))

  abbrev passed : Ptr → List Val × (List Val × (List Val × (List Val × (List Val × (List Val × (List Val × Unit {0}))))))
  passed p = (rawptr_vals p, (mut_slice_vals st, (shr_slice_vals ms, (uint_vals w8 me, (uint_vals w8 fr, (uint_vals w8 co, (mut_slice_vals ou, tt)))))))

  abbrev words : Ptr → List Val
  words p = rawptr_vals p ++ (mut_slice_vals st ++ (shr_slice_vals ms ++ (uint_vals w8 me ++ (uint_vals w8 fr ++ (uint_vals w8 co ++ (mut_slice_vals ou ++ []))))))

  abbrev bound : Ptr → Option TheImage → (walk_of 𝓛 f.ended stayed (f.clauses 𝓛 at_mem run)).Ghost
  bound p g = (((κ₁, (κ₂, (κ₃, tt))), (q₁, (q₂, (q₃, tt))), tt, args p, passed p), g)

  abbrev Alive : SProp 𝓤
  Alive = alive 𝓛 f.signature (κ₁, (κ₂, (κ₃, tt))) (q₁, (q₂, (q₃, tt)))

  abbrev Entry : Ptr → SProp 𝓤
  Entry p = on_entry 𝓛 f.signature (κ₁, (κ₂, (κ₃, tt))) (q₁, (q₂, (q₃, tt))) (args p) (passed p)

  abbrev Post : Ptr → Option TheImage → Val → SProp 𝓤
  Post p g = (walk_of 𝓛 f.ended stayed (f.clauses 𝓛 at_mem run)).post (bound p g)

  abbrev Runs : Ptr → Option TheImage → SProp 𝓤
  Runs p g = WpFn 𝓤 H C Λ code.function (words p) (Post p g)

  -- what is left: the two slices, the tokens, the result, and what the handle owns
  exits : (p : Ptr) (g : Option TheImage) (r : ℕ) (v : Val) (ss os : List ℕ) → length ss ≡ length st.now → length os ≡ length ou.now → IsRun r g who st.now ms.now ss ou.now os
      → ent 𝓤 (sep 𝓤 (sem 𝓛 (given_slice κ₁ u8 st ss)) (sep 𝓤 (sem 𝓛 (given_slice κ₃ u8 ou os)) (sep 𝓤 Alive (sep 𝓤 (sem 𝓛 (u32.own_val r (v ∷ []))) (sem 𝓛 (owns_image p g)))))) (Post p g v)
  exits p g r v ss os es eo is =
      qed 𝓛 (‵ (given_slice κ₁ u8 st ss) ∷ ‵ (given_slice κ₃ u8 ou os) ∷ raw Alive ∷ ‵ (u32.own_val r (v ∷ [])) ∷ ‵ (owns_image p g) ∷ []) ∵
      move ! (1 ∷ []) $ nothing ! $ move ! (1 ∷ 0 ∷ []) $ fjoin ! $ nothing ! $ fjoin ! $ nothing ! $ fjoin ! $ nothing ! $ fjoin ! $ nothing ! $ fjoin ! $ move ! (1 ∷ 0 ∷ []) $ fjoin ! $ nothing ! $ fjoin ! $
      use0 𝓛 (raw (fact 𝓤 (IsRun r g who st.now ms.now ss ou.now os))) (fact_i 𝓤 (IsRun r g who st.now ms.now ss ou.now os) (emp 𝓤) is) $ move ! (4 ∷ 0 ∷ []) $ join ! $ keep ! (2 ∷ 1 ∷ 3 ∷ 0 ∷ []) $
      by ! (leaves 𝓛 f.ended stayed (f.clauses 𝓛 at_mem run) (bound p g) v r (tt, (ss, (tt, (tt, (tt, (tt, (os, tt))))))) (tt, (es, (tt, (tt, (tt, (tt, (eo, tt))))))))

  at_null : ent 𝓤 (Entry null_ptr) (Runs null_ptr None)
  at_null =
      qed 𝓛 ((‵ (flft κ₁ q₁) ⊛ ‵ (flft κ₂ q₂) ⊛ ‵ (flft κ₃ q₃) ⊛ ‵ ftrue) ∷ ‵ (owns (types_at (f.signature).params (κ₁, (κ₂, (κ₃, tt)))) (args null_ptr) (passed null_ptr)) ∷ []) ∵
      enter ! C Λ code.function (words null_ptr) _ $
      alloc_all ! (λ l. pass_all ! refl ((tt, record { fits = lit< tt }), ((tt, (tt, (record { fits = rs.0 }, tt))), ((tt, (tt, (record { fits = rm.0 }, tt))), ((tt, record { fits = bm }), ((tt, record { fits = bf }), ((tt, record { fits = bc }), ((tt, (tt, (record { fits = ro.0 }, tt))), tt))))))) $
      sets ! (bin ! (get ! refl) (lit ! tt) tt) refl (tt, tt) $
      first ! $ branches ! (get ! refl)
      (λ _. sets ! (of_opd ! (lit ! tt)) refl (tt, record { fits = lit< tt }) $
      returns_within ! (Post null_ptr None) refl (look_at ! 0 refl) $ free_all ! refl $
      move ! (1 ∷ []) $ fsplit ! $ drop ! $ fsplit ! $ use1 𝓛 (‵ (given_slice κ₁ u8 st st.now)) (slice_left 𝓛 (named 0) κ₁ u8 st (mut_slice_vals st)) $
      move ! (1 ∷ []) $ fsplit ! $ drop ! $ fsplit ! $ drop ! $ fsplit ! $ drop ! $ fsplit ! $ drop ! $ fsplit ! $ use1 𝓛 (‵ (given_slice κ₃ u8 ou ou.now)) (slice_left 𝓛 (named 2) κ₃ u8 ou (mut_slice_vals ou)) $
      owned ! u32 _ (uint_Makes 𝓛 w32) 10 _ (refl, lit< tt) $ feq_i ! Ptr null_ptr null_ptr refl $
      keep ! (4 ∷ 2 ∷ 5 ∷ 1 ∷ 0 ∷ []) $ by ! (exits null_ptr None 10 (vint w32 10) st.now ou.now refl refl (inr (Handle, refl, (refl, refl, refl)))))
      (λ wrong. absurd wrong))

  at_block : (b o : ℕ) (x : TheImage) → ent 𝓤 (sep 𝓤 (Entry (block_ptr b o)) (sem 𝓛 (owns_image (block_ptr b o) (Some x)))) (Runs (block_ptr b o) (Some x))
  at_block b o x =
      let p : Ptr = block_ptr b o in
      qed 𝓛 (((‵ (flft κ₁ q₁) ⊛ ‵ (flft κ₂ q₂) ⊛ ‵ (flft κ₃ q₃) ⊛ ‵ ftrue) ⊛ ‵ (owns (types_at (f.signature).params (κ₁, (κ₂, (κ₃, tt)))) (args p) (passed p))) ∷ ‵ (owns_image p (Some x)) ∷ []) ∵
      move ! (1 ∷ []) $ use1 𝓛 (given (Testable p) (‵ (owns_image p (Some x)))) (tested 𝓛 the_row p x) $ learn ! (λ t. fsplit ! $
      -- [the image; the right to free it; the tokens and the parameters]
      enter ! C Λ code.function (words p) _ $
      alloc_all ! (λ l. pass_all ! refl ((tt, tt), ((tt, (tt, (record { fits = rs.0 }, tt))), ((tt, (tt, (record { fits = rm.0 }, tt))), ((tt, record { fits = bm }), ((tt, record { fits = bf }), ((tt, record { fits = bc }), ((tt, (tt, (record { fits = ro.0 }, tt))), tt))))))) $
      sets ! (bin ! (get ! refl) (lit ! tt) (tests_null p t)) refl (tt, tt) $
      first ! $ branches ! (get ! refl) (λ wrong. absurd wrong)
      (λ _. skips ! $ exec ! C Λ (env code.Mir.locals l) code.Mir.t-3 (at_ret (env code.Mir.locals l) (Post p (Some x))) $
      -- &mut *handle.cast::<Handler>()
      sets ! (of_opd ! (get ! refl)) refl (tt, tt) $
      sets ! (addr ! (through ! refl (stop !))) refl (tt, tt) $
      -- &mut *state, &mut *out
      sets ! (addr ! (from ! (fld ! refl (hop ! (look_in_at ! 2 (sub ! 0 refl (whole !))) (stop !))))) refl (tt, tt) $
      sets ! (agg ! (and_then ! (get ! refl) (and_then ! (get_in ! (fld ! refl (stop !)) (sub ! 1 refl (whole !))) (no_more !)))) refl (tt, (tt, (record { fits = rs.0 }, tt))) $
      sets ! (addr ! (from ! (fld ! refl (hop ! (look_in_at ! 7 (sub ! 0 refl (whole !))) (stop !))))) refl (tt, tt) $
      sets ! (agg ! (and_then ! (get ! refl) (and_then ! (get_in ! (fld ! refl (stop !)) (sub ! 1 refl (whole !))) (no_more !)))) refl (tt, (tt, (record { fits = ro.0 }, tt))) $
      lft_new ! tt (λ α. move ! (1 ∷ []) $
      use1 𝓛 (later (some (λ (γ : GName). ‵ ((MutRef (named 0) (α ∷ []) the_row).own_val (record { ref_ptr = (b, o); ghost_name = γ; now = x }) (vptr b o ∷ [])) ⊛ ‵ (flent (α ∷ []) (Body (mem the_row) b o γ)))))
      (lends_ref 𝓛 the_row (named 0) (α ∷ []) x b o) $ await ! tt $ pick ! (λ γ. split ! $
      -- [the loan; what the lender keeps; the token of α; the right to free; the tokens and the parameters]
      let z : (Of 𝓛 at_mem run).Ghost = (
        (
          (α ∷ [], (κ₁, (κ₂, (κ₃, tt)))),
          (full_share, (q₁, (q₂, (q₃, tt)))),
          tt,
          (record { ref_ptr = (b, o); ghost_name = γ; now = x }, (st, (ms, (me, (fr, (co, (ou, tt))))))),
          (vptr b o ∷ [], (mut_slice_vals st, (shr_slice_vals ms, (uint_vals w8 me, (uint_vals w8 fr, (uint_vals w8 co, (mut_slice_vals ou, tt))))))),
        ),
        tt,
      ) in
      move ! (4 ∷ []) $ split ! $ move ! (1 ∷ []) $ fsplit ! $ drop ! $ move ! (2 ∷ 0 ∷ []) $ fjoin ! $ move ! (3 ∷ 1 ∷ []) $ join ! $ join ! $ nothing ! $ move ! (1 ∷ 0 ∷ []) $ use2 𝓛 (raw ((Of 𝓛 at_mem run).pre z)) (id⊢ 𝓤 _) $
      calls_at ! fm (Of 𝓛 at_mem run) known z (and_then ! (get ! refl) (and_then ! (get ! refl) (and_then ! (get ! refl) (and_then ! (get ! refl) (and_then ! (get ! refl) (and_then ! (get ! refl) (and_then ! (get ! refl) (no_more !)))))))) (λ v.
      use1 𝓛 (later (some (λ (r : ℕ). ((‵ (flft (α ∷ []) full_share) ⊛ ‵ (flft κ₁ q₁) ⊛ ‵ (flft κ₂ q₂) ⊛ ‵ (flft κ₃ q₃) ⊛ ‵ ftrue) ⊛ ‵ (u32.own_val r (v ∷ []))) ⊛
      some (λ (ws : Lasts of.ended z.0.0 z.0.3). ‵ (lasts of.ended z.0.0 z.0.3 ws) ⊛ (raw (fact 𝓤 (ws.0 ≡ x)) ⊛ raw (fact 𝓤 (IsRun r (Some x) who st.now ms.now ws.1.0 ou.now ws.1.1.1.1.1.1.0))))))) (id⊢ 𝓤 ((Of 𝓛 at_mem run).post z v)) $
      await ! tt $ pick ! (λ r. split ! $ split ! $ split ! $ lft_end ! tt $ move ! (3 ∷ []) $ pick ! (λ ws. split3 ! $ move ! (1 ∷ []) $ heard ! (ws.0 ≡ x) (λ same. move ! (1 ∷ []) $ heard ! (IsRun r (Some x) who st.now ms.now ws.1.0 ou.now ws.1.1.1.1.1.1.0) (λ is.
      -- [the last values; α is over; the tokens; the result; what the lender keeps; the right to free]
      fsplit ! $ fsplit ! $ rewrite ! 0 (λ (y : TheImage). ‵ (fres γ (the_row.coded.code y))) same refl $ move ! (3 ∷ 6 ∷ 0 ∷ []) $
      use3 𝓛 (later (‵ (part_at the_row full_share x b o))) (ref_back 𝓛 the_row (α ∷ []) γ x b o) $ await ! tt $ move ! (0 ∷ 5 ∷ []) $ fjoin ! $ move ! (1 ∷ []) $ drop ! $ move ! (1 ∷ []) $
      fsplit ! $ fsplit ! $ fsplit ! $ move ! (1 ∷ []) $ feq_l ! (λ es. fjoin ! $ move ! (1 ∷ []) $ fsplit ! $ drop ! $ fsplit ! $ drop ! $ fsplit ! $ drop ! $ fsplit ! $ drop ! $
      fsplit ! $ fsplit ! $ fsplit ! $ move ! (1 ∷ []) $ feq_l ! (λ eo. fjoin ! $ move ! (5 ∷ []) $
      peeks ! u32 (Is u32) (shows 𝓛 u32) r (v ∷ []) (λ fits. lands_as ! refl refl ((uint_Lawful 𝓛 w32).typed r _ fits).0 $
      returns ! (look_at ! 0 refl) $ free_all ! refl $ keep ! (3 ∷ 1 ∷ 5 ∷ 0 ∷ 4 ∷ []) $ by ! (exits p (Some x) r v ws.1.0 ws.1.1.1.1.1.1.0 es eo is))))))))))))))

  pub at_each : (p : Ptr) (g : Option TheImage) → ent 𝓤 (sep 𝓤 (Entry p) (sem 𝓛 (owns_image p g))) (Runs p g)
  at_each p None = qed 𝓛 (raw (Entry p) ∷ ‵ (feq Ptr p null_ptr) ∷ []) ∵ move ! (1 ∷ []) $ feq_l ! (λ e. by ! (subst (λ (q : Ptr). ent 𝓤 (Entry q) (Runs q None)) (sym e) at_null))
  at_each (block_ptr b o) (Some x) = at_block b o x
  at_each null_ptr (Some x) = via 𝓤 (never 𝓤) (via 𝓤 _ (snd∗ 𝓤 (Entry null_ptr) _) (fst∗ 𝓤 (never 𝓤) (sem 𝓛 (may_free (bare (lone the_row.mir)) null_ptr)))) (never_e 𝓤 _)

meets : {M : Type 1} {𝓤 : Ura M} (𝓛 : Logic 𝓤) (at_mem : Memory → SProp 𝓤) (run : Routine → Fun 𝓤) (𝓣 : Tables 𝓤 𝓛.H)
    → Triple 𝓤 (𝓣.C #call) (Of 𝓛 at_mem run) → Meets 𝓛 f.signature (WpFn 𝓤 𝓛.H 𝓣.C 𝓣.Λ code.function) (f.spec 𝓛 at_mem run)
meets {𝓤 = 𝓤} 𝓛 at_mem run 𝓣 known =
    walk_Meets 𝓛 f.ended stayed (
      Goes-dropped 𝓛 3 (plain (λ _. RawPtr)) yes (λ κs a g. refl),
      (
        Goes-gave_slice 𝓛 3 0 tt (plain (λ _. u8)),
        (
          Goes-dropped 𝓛 3 (SliceRefOf (1 ∷ []) tt (plain (λ _. u8)) (λ κs. tt)) yes (λ κs a g. refl),
          (
            Goes-dropped 𝓛 3 (plain (λ _. u8)) yes (λ κs a g. refl),
            (Goes-dropped 𝓛 3 (plain (λ _. u8)) yes (λ κs a g. refl), (Goes-dropped 𝓛 3 (plain (λ _. u8)) yes (λ κs a g. refl), (Goes-gave_slice 𝓛 3 2 tt (plain (λ _. u8)), tt))),
          ),
        ),
      ),
    )
    (f.clauses 𝓛 at_mem run) (WpFn 𝓤 𝓛.H 𝓣.C 𝓣.Λ code.function) (WpFn-mono 𝓤 𝓛.H 𝓛.laws 𝓣 code.function)
    (walked 𝓛 f.ended stayed (f.clauses 𝓛 at_mem run) (WpFn 𝓤 𝓛.H 𝓣.C 𝓣.Λ code.function) (λ κs. (rawptr_vals, (mut_slice_vals, (shr_slice_vals, (uint_vals w8, (uint_vals w8, (uint_vals w8, (mut_slice_vals, tt))))))))
    (λ κs. (rawptr_Tells, (mut_slice_Tells (named 0) κs.0 u8, (shr_slice_Tells (named 1) κs.1.0 u8, (uint_Tells w8, (uint_Tells w8, (uint_Tells w8, (mut_slice_Tells (named 2) κs.1.1.0 u8, tt))))))))
    (λ κs qs bounds a g are. at_each 𝓛 at_mem run 𝓣.C 𝓣.Λ (fm_of 𝓤 𝓛.H 𝓛.laws 𝓣) known κs.0 κs.1.0 κs.1.1.0 qs.0 qs.1.0 qs.1.1.0 a.1.0 a.1.1.1.1.1.1.0 a.1.1.0 a.1.1.1.0 a.1.1.1.1.0 a.1.1.1.1.1.0
    are.1.0.0.1 are.1.1.0.0.1 are.1.1.1.1.1.1.0.0.1 are.1.1.1.0.1 are.1.1.1.1.0.1 are.1.1.1.1.1.0.1 a.0 g))

pub sblog_run_spec : {M : Type 1} → stated.statement M
unfolding tables_of
sblog_run_spec 𝓤 𝓛 𝓜 𝓡 wired =
    entered 𝓤 𝓛.H (triple_of 𝓛 f.signature (f.spec 𝓛 𝓜.mem 𝓡.returns))
    (tables 𝓤 𝓛.H 𝓜 𝓡 𝓡.env).C (tables 𝓤 𝓛.H 𝓜 𝓡 𝓡.env).Λ key code.function (code.unfolded 𝓤 𝓛.H 𝓜 𝓡 wired)
    (meets 𝓛 𝓜.mem 𝓡.returns (tables_of 𝓤 𝓛.H 𝓜 (tables 𝓤 𝓛.H 𝓜 𝓡 𝓡.env))
    (of_thm.met 𝓤 𝓛 𝓜 𝓡 (code.calls-c_runs::runs::run 𝓡.env wired)))
