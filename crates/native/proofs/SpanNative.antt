-- The code as a whole.
use Rattle.std.proofs.Common.{◌≡◌, ℕ, zero, suc, ◌+◌, ◌^◌, ◌<◌, ◌≤◌, true, false, List, [], ◌∷◌, length, refl, sym, ◌∙◌, subst, arith}
use Rattle.std.specs.Prelude.{slice_index, slice_set}
use Rattle.std.specs.List.{AllByRecursion}
use Rattle.std.proofs.lemmas.Bool.{true≢false}
use Rattle.decode.specs.declared.insn.Insn.{Insn}
use Rattle.decode.specs.Encoding.{Fits}
use Rattle.decode.specs.Slots.{slots_of}
use Rattle.helpers.specs.declared.effects.Who.{Who}
use Rattle.helpers.specs.Effects.{Emitted}
use Rattle.interp.specs.Words.{AreBytes}
use Rattle.x86.specs.Machine.{State, Runs}
use Rattle.spans.specs.Concrete.{array_size}
use Rattle.verifier.specs.Span.Typed.{IsTypable}
use Rattle.verifier.proofs.Spans.Slots.{are_fitting}
use Rattle.native.specs.declared.prologue.Opening.TheVariants as opening
use Rattle.native.specs.Correct.{IsCalled}
use Rattle.native.specs.Saved.{saved_in, saved_for, may_write}
use Rattle.native.specs.Pending.{pending_in}
use Rattle.native.specs.Written.{IsServed}
use Rattle.native.proofs.Ends.{opening_words, opening_is, opening_small, entered_by, enters_by, agrees_by}
use Rattle.native.proofs.Successors.{follows}
use Rattle.native.proofs.Preservation.{added_may}
use Rattle.native.proofs.Native.{laid_in, begins_in, tails_in, entry_in}
use Rattle.native.specs.SpanCorrect.{IsSpanNative}
use Rattle.native.specs.SpanTasks.{tasks_in}
use Rattle.native.proofs.Blind.{blind}
use Rattle.native.proofs.SpanStatus.{Begun, Stand, Leaves, calls, stands}

bytes_below : (xs : List ℕ) → AreBytes xs → (a : ℕ) → slice_index xs a < 256
bytes_below [] h a = omega arith
bytes_below (x ∷ xs) h zero = h.0
bytes_below (x ∷ xs) h (suc a) = bytes_below xs h.1 a

module _ (len m : ℕ) (who : Who) (c : State) (e : IsCalled who m c) where
  -- the words as the code has begun, with r10
  abbrev opened : List ℕ
  opened = slice_set (slice_set (slice_set (opening_words who m c e) 1 0) 2 512) 10 (array_size len)

  -- the registers that the code doesn't write are the caller's
  opened_same : (saved : _) → may_write saved 2 ≡ true → (q : ℕ) → may_write saved q ≡ false → q < 10 → slice_index (blind opened) q ≡ slice_index (opening_words who m c e) q
  opened_same saved t zero h l = refl
  opened_same saved t (suc zero) h l = absurd (true≢false h)
  opened_same saved t (suc (suc zero)) h l = absurd (true≢false (sym t ∙ h))
  opened_same saved t (suc (suc (suc zero))) h l = refl
  opened_same saved t (suc (suc (suc (suc zero)))) h l = refl
  opened_same saved t (suc (suc (suc (suc (suc zero))))) h l = refl
  opened_same saved t (suc (suc (suc (suc (suc (suc zero)))))) h l = refl
  opened_same saved t (suc (suc (suc (suc (suc (suc (suc zero))))))) h l = refl
  opened_same saved t (suc (suc (suc (suc (suc (suc (suc (suc zero)))))))) h l = refl
  opened_same saved t (suc (suc (suc (suc (suc (suc (suc (suc (suc zero))))))))) h l = refl
  opened_same saved t (suc (suc (suc (suc (suc (suc (suc (suc (suc (suc q)))))))))) h l = absurd (omega (arith, l))

  opened_small : m < 2 ^ 64 → (q : ℕ) → slice_index (blind opened) q < 2 ^ 64
  opened_small l zero = opening_small who m c e 0 l
  opened_small l (suc zero) = omega arith
  opened_small l (suc (suc zero)) = omega arith
  opened_small l (suc (suc (suc zero))) = l
  opened_small l (suc (suc (suc (suc zero)))) = opening_small who m c e 4 l
  opened_small l (suc (suc (suc (suc (suc zero))))) = opening_small who m c e 5 l
  opened_small l (suc (suc (suc (suc (suc (suc zero)))))) = opening_small who m c e 6 l
  opened_small l (suc (suc (suc (suc (suc (suc (suc zero))))))) = opening_small who m c e 7 l
  opened_small l (suc (suc (suc (suc (suc (suc (suc (suc zero)))))))) = opening_small who m c e 8 l
  opened_small l (suc (suc (suc (suc (suc (suc (suc (suc (suc zero))))))))) = opening_small who m c e 9 l
  opened_small l (suc (suc (suc (suc (suc (suc (suc (suc (suc (suc zero)))))))))) = omega arith
  opened_small l (suc (suc (suc (suc (suc (suc (suc (suc (suc (suc (suc q))))))))))) = omega arith

-- code that is laid whole is the handler's call
pub span_native : (insns : List Insn) (len : ℕ) (code : List ℕ) → IsTypable insns len → AllByRecursion Fits insns → length (slots_of insns) ≤ 1024 → len ≤ 1024 → length code < 2 ^ 64 → IsServed opening.Placed (tasks_in (slots_of insns) len (length (slots_of insns))) code → IsSpanNative insns len code
span_native insns len code typable fits few small whole served = record {
  runs = λ m who c short sized holds me from called.
      let slots = slots_of insns in
      let n = length slots in
      let tasks = tasks_in slots len n in
      let saved = saved_for opening.Placed tasks in
      let pending = pending_in tasks in
      let tails = served.written.tails in
      let words = opened len m who c called in
      let none : Emitted = record { sends = []; outputs = [] } in
      let b : Begun slots len m who typable.0 c.array words = record {
        begun = record { typed = typable.1; fits = are_fitting insns fits; small = small; short = short; whole = sized; bytes = bytes_below c.array called.bytes; holds = holds; me = me; from = from };
        few_slots = few;
        eleven = refl;
        message_is = refl;
        state_is = refl;
        long_is = refl;
        end_is = refl;
      } in
      let zero_sum : 0 + slice_index pending 0 ≡ 0 = let z = served.pended.begins in omega (arith, z) in
      let x = follows who tasks 2048 n (omega arith) few (Stand b) (Leaves b) pending tails saved code whole (tails_in opening.Placed tasks code served) (λ j k u. served.laid.falls j k (omega arith) u) c (opening_words who m c called) (opening_is who m c called saved) (calls b) served.saves (laid_in opening.Placed tasks code served) n (blind words) c.array none 0 0 0 (entered_by who m c called opening.Placed saved) (omega arith) refl (record { small = opened_small len m who c called (omega (arith, short)); bytes = called.bytes }) (opened_same len m who c called saved (added_may (saved_in tasks) 2)) (stands b none refl refl) (agrees_by who m c called opening.Placed saved) zero_sum in
      let f = x.2 in
      let y = enters_by who m c called opening.Placed saved code x.0 (entry_in opening.Placed tasks code served) (subst (λ p. (k : ℕ) × Runs code k p (entered_by who m c called opening.Placed saved) x.0) (begins_in opening.Placed tasks code served) x.1) in (
        y.0,
        x.0,
        y.1,
        record {
          r0 = slice_index f.words 0;
          steps = f.steps;
          effects = f.effects;
          handled = record { answers = f.over.answers; message = f.over.message_stays; left = f.over.zeros };
          answer = f.answer;
          counted = f.counted;
          keeps = f.keeps;
          rbx = f.rbx;
          rbp = f.rbp;
          r12 = f.r12;
          r13 = f.r13;
          r14 = f.r14;
          r15 = f.r15;
        },
      );
}
