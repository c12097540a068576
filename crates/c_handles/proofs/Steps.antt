-- The names that walks cite, passed on from one place. Declares nothing.
pub use Rattle.c_handles.proofs.OnHeap.{on_heap, FromHeap, FromLoose}
pub use Rattle.core.proofs.alloc.Calls.{Goes-blank, handle_tells}
pub use Rattle.core.proofs.alloc.Shapes.{after}
pub use Rattle.core.proofs.atomic.Steps.{fm}
pub use Rattle.core.proofs.cell.Inside.{Good}
pub use Rattle.std.proofs.Common.{◌≡◌, List, [], ◌∷◌, ◌++◌, refl, sym, ap, subst, ◌∙◌, None, lit<, w64, Some, Option, ℕ, length, inr, w32, MutBor, ◌^◌, ◌<◌, w8, Bor}
pub use Rattle.std.proofs.Handle.{heap_val, heap_Tells}
pub use Rattle.std.proofs.raw_atomic.Walks.{proved_at, leaves, proved}
pub use Rattle.std_alloc.proofs.BoxSteps.Form.{Bx, P, owning, D, B, word, box_typed, X}
pub use Rattle.std_alloc.proofs.BoxSteps.Steps.{box_out, box_in}
pub use Rattle.std_alloc.proofs.ResultValues.{and_tt}
pub use Rattle.std_alloc.specs.Box.Ownership.{box_owns}
pub use base.Fml.{ftrue, flft, fsep, Fml, Lft, Share, feq, flent, Incl-refl, fat, GName, fres}
pub use base.Fraction.{full_share}
pub use base.Logic.{SProp, ent, id⊢, emp, never, fst∗, sep, via, snd∗, never_e, ex, ex_i}
pub use contract.BorrowLft.{◌⊑◌}
pub use contract.Monad.{fact, fact_i, Fun}
pub use contract.Running.{tables}
pub use denote.Builtin.{RawPtr, u8, u32, usize, SliceRefOf, unit}
pub use denote.Exit.{no, yes}
pub use denote.Laws.{Is, shows}
pub use denote.Lend.{lends_shr, lends_ref, ref_back}
pub use denote.Memory.{lone, part_at, cell_at, mem}
pub use denote.Param.{param, layout, bounded}
pub use denote.Param.Laws.{param_laws}
pub use denote.Plain.{uint_Makes, uint_Lawful, uint_vals, uint_Tells}
pub use denote.RattleType.{RattleType, owns, Valss}
pub use denote.RawPtr.{block_ptr, Ptr, null_ptr, ptr_val, in_a_block, rawptr_vals, rawptr_Tells, tests_null, Testable}
pub use denote.Ref.{ShrRef, mut_vals, mut_Tells, MutRef}
pub use denote.Signature.{types_at, plain, type_at}
pub use denote.Slice.{Room, mut_slice_vals, mut_slice_Tells, shr_slice_vals, shr_slice_Tells}
pub use denote.Steps.{nothing, only, heard, owned, peeks, opens, closes}
pub use denote.Struct.Owning.{shape}
pub use denote.Struct.Struct.{within}
pub use denote.Struct.Tuple.{Tuple}
pub use denote.Triple.Call.{calls_at_last, calls_at}
pub use denote.Triple.Clauses.{Lasts, lasts}
pub use denote.Triple.Entry.{Args, on_entry, alive}
pub use denote.Triple.Spec.{triple_of, Meets}
pub use denote.Triple.Statement.{Contract, Triple}
pub use denote.Triple.Table.{entered, framed}
pub use denote.Triple.Walked.{Stays, stay_dropped, walk_of, says, ends_at, Goes-dropped, gave_ref, gave_slice, Goes-gave_ref, Goes-gave_slice, walked, walk_Meets, stay_ref, Goes-ref}
pub use mir.MapTy.{inst_fn}
pub use mir.Syntax.{a_type, dcons, dnil, named, ty_ptr}
pub use mir.Val.{Val, vptr, vstruct, of_list, vint, vcons, vnil, has_ty, vunit}
pub use prog.Memory.{Memory}
pub use prog.Routine.{Routine}
pub use prog.Wp.{WpFn, Calls, Loops, Tables}
pub use seplogic.Ra.Ura.{Ura}
pub use sound.WpLaws.{FmC, fm_of, WpFn-mono}
pub use types.ByLocal.{alloc_all, pass_all, free_all, look_at, get, get_in, sets, lands_last, env, lands_as, look_in_at, through}
pub use types.Kit.{‵, raw, ◌⊛◌, some, later, at_ret, ◌$◌, ◌∵◌, !, qed, by, move, keep, drop, split, split3, join, fsplit, fjoin, pick, suffices, use1, await, rewrite, feq_i, fpick, use0, feq_l, Item, fpack, done, given, use2, learn, fsplit3, fjoin3, use3}
pub use types.Logic.{sem, Logic}
pub use types.Part.{sub, whole, agg}
pub use types.Run.{stop, fld, of_opd, no_more, and_then, first, blocks, exec, returns, enter, lit, bin, addr, branches, skips, returns_within, from, hop, assigns, store, unit_lit}
pub use types.SemTy.{Body}
pub use types.Tokens.{lft_new, lft_end, lent_back}
