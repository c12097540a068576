-- How a call begins and ends.
use Rattle.std.proofs.Common.{◌≡◌, ◌≢◌, ℕ, zero, suc, ◌+◌, ◌%◌, ◌^◌, ◌<◌, Bool, true, false, cond, List, [], ◌∷◌, ◌++◌, length, refl, sym, ap, ◌∙◌, subst, arith, length-append}
use Rattle.std.specs.Prelude.{nat_le, slice_set, slice_index, if◌then◌else◌}
use Rattle.std.proofs.lemmas.Bool.{true≢false}
use Rattle.std.proofs.lemmas.List.{length-set, get_or-set_same, get_or-set_other}
use Rattle.operations.specs.Bytes.{le_bytes, overwritten}
use Rattle.x86.specs.declared.instruction.Instr.TheVariants as instr
use Rattle.x86.specs.Encoding.{bytes_of}
use Rattle.helpers.specs.declared.effects.Who.{Who}
use Rattle.helpers.specs.Effects.{Emitted}
use Rattle.x86.specs.Machine as machine
use Rattle.x86.specs.Machine.{Value, Word, At, Block, Array, Record, Flags, Unknown, State, Outcome, Goes, Leaps, Returns, Stuck, by_outcome, returned, is_named, value, with_word, word_or_stuck, behind, extended, reach, written, block, act, HasAt, Runs}
use Rattle.native.specs.declared.prologue.Opening.{Opening}
use Rattle.native.specs.declared.prologue.Opening.TheVariants as opening
use Rattle.native.specs.declared.saved_registers.SavedRegisters.{SavedRegisters}
use Rattle.native.specs.Saved.{may_write}
use Rattle.native.specs.Openings.{push_if, pop_if, saving, restoring, entering_by, placing, beginning, entering, ending, leaving}
use Rattle.native.specs.Code.{gpr, codes, clear}
use Rattle.native.specs.Correct.{IsCalled}
use Rattle.native.proofs.Registers.{listed, spread}
use Rattle.native.proofs.Runs.{Ends, goes, GoesAll, all_go, has_front, has_back, codes-append}
use Rattle.native.proofs.Agreement.{Agrees, after, clears, one_alike, put_word}
use Rattle.native.proofs.Computations.{on_then}
use Rattle.native.proofs.Helpers.{then_all, goes_one}

abbrev pub state_of : List Value → List ℕ → Flags → List ℕ → List ℕ → List Value → State
state_of rs long f a r p = record { regs = rs; long = long; flags = f; array = a; record_ = r; pushed = p }

-- ---- the end

-- a value that is pushed, if it is kept
abbrev pub kept_if : Bool → Value → List Value → List Value
kept_if b v vs = if b then v ∷ vs else vs

-- what is pushed, the last first
abbrev pub saved_by : SavedRegisters → State → List Value
saved_by s c =
    kept_if s.r15 (value c 15) (kept_if s.r14 (value c 14) (kept_if s.r13 (value c 13) (kept_if s.r12 (value c 12)
    (kept_if s.rbp (value c 5) (kept_if s.rbx (value c 3) [])))))

-- the state behind a push and behind a pop
abbrev pushed_to : Bool → ℕ → State → State
pushed_to b r c = state_of c.regs c.long c.flags c.array c.record_ (kept_if b (value c r) c.pushed)

abbrev popped_to : Bool → ℕ → Value → List Value → State → State
popped_to b r v vs c = state_of (if b then slice_set c.regs r v else c.regs) c.long c.flags c.array c.record_ vs

push_goes : (b : Bool) (r : ℕ) (c : State) → is_named r ≡ true → GoesAll (push_if b r) c (pushed_to b r c)
push_goes true r c n = goes_one (instr.Push r) c (pushed_to true r c) (ap (λ b. cond b (Goes (pushed_to true r c)) Stuck) n)
push_goes false r c n = refl

pop_goes : (b : Bool) (r : ℕ) (v : Value) (vs : List Value) (c : State) → is_named r ≡ true → c.pushed ≡ kept_if b v vs → GoesAll (pop_if b r) c (popped_to b r v vs c)
pop_goes true r v vs c n e =
    goes_one (instr.Pop r) c (popped_to true r v vs c) (ap (machine.popped c r) e ∙ ap (λ b. cond b (Goes (popped_to true r v vs c)) Stuck) n)
pop_goes false r v vs c n e = ap (λ p. state_of c.regs c.long c.flags c.array c.record_ p) e

pop_length : (b : Bool) (r : ℕ) (v : Value) (vs : List Value) (c : State) → length c.regs ≡ 16 → length (popped_to b r v vs c).regs ≡ 16
pop_length true r v vs c l = length-set c.regs r v ∙ l
pop_length false r v vs c l = l

-- each other register is as before
pop_other : (b : Bool) (r q : ℕ) (v : Value) (vs : List Value) (c : State) → q ≢ r → value (popped_to b r v vs c) q ≡ value c q
pop_other true r q v vs c n = get_or-set_other c.regs r q v (Word 0) n
pop_other false r q v vs c n = refl

-- and this one has its value, where it is popped and where it had it
pop_same : (b : Bool) (r : ℕ) (v : Value) (vs : List Value) (c : State) → length c.regs ≡ 16 → r < 16 → (b ≡ false → value c r ≡ v) → value (popped_to b r v vs c) r ≡ v
pop_same true r v vs c l h e = get_or-set_same c.regs r v (Word 0) (omega (arith, l))
pop_same false r v vs c l h e = e refl

module _ (code : List ℕ) (arr rec : List ℕ) (start : State) where
  -- what is left
  pub record Left (r0 : Value) (last : State) : Type 0 where
    pub rax : value last 0 ≡ r0
    pub rbx : value last 3 ≡ value start 3
    pub rbp : value last 5 ≡ value start 5
    pub r12 : value last 12 ≡ value start 12
    pub r13 : value last 13 ≡ value start 13
    pub r14 : value last 14 ≡ value start 14
    pub r15 : value last 15 ≡ value start 15
    pub array_is : last.array ≡ arr
    pub record_is : last.record_ ≡ rec

  -- the registers that weren't pushed are as they were
  abbrev pub Still : SavedRegisters → State → Type 0
  Still s c = (r : ℕ) → may_write s r ≡ false → r < 10 → value c (gpr r) ≡ value start (gpr r)

  popped : (s : SavedRegisters) (c : State) → length c.regs ≡ 16 → c.array ≡ arr → c.record_ ≡ rec → c.pushed ≡ saved_by s start → Still s c → (last : State) × GoesAll (restoring s) c last × (last.pushed ≡ []) × Left (value c 0) last
  popped s c l ea er e still =
      let v3 = value start 3 in
      let v5 = value start 5 in
      let v12 = value start 12 in
      let v13 = value start 13 in
      let v14 = value start 14 in
      let v15 = value start 15 in
      let p3 = kept_if s.rbx v3 [] in
      let p5 = kept_if s.rbp v5 p3 in
      let p12 = kept_if s.r12 v12 p5 in
      let p13 = kept_if s.r13 v13 p12 in
      let p14 = kept_if s.r14 v14 p13 in
      let c1 = popped_to s.r15 15 v15 p14 c in
      let c2 = popped_to s.r14 14 v14 p13 c1 in
      let c3 = popped_to s.r13 13 v13 p12 c2 in
      let c4 = popped_to s.r12 12 v12 p5 c3 in
      let c5 = popped_to s.rbp 5 v5 p3 c4 in
      let c6 = popped_to s.rbx 3 v3 [] c5 in
      let l1 = pop_length s.r15 15 v15 p14 c l in
      let l2 = pop_length s.r14 14 v14 p13 c1 l1 in
      let l3 = pop_length s.r13 13 v13 p12 c2 l2 in
      let l4 = pop_length s.r12 12 v12 p5 c3 l3 in
      let l5 = pop_length s.rbp 5 v5 p3 c4 l4 in
      let g1 = pop_goes s.r15 15 v15 p14 c refl e in
      let g2 = pop_goes s.r14 14 v14 p13 c1 refl refl in
      let g3 = pop_goes s.r13 13 v13 p12 c2 refl refl in
      let g4 = pop_goes s.r12 12 v12 p5 c3 refl refl in
      let g5 = pop_goes s.rbp 5 v5 p3 c4 refl refl in
      let g6 = pop_goes s.rbx 3 v3 [] c5 refl refl in
      let is3 = pop_if s.rbx 3 in
      let is5 = pop_if s.rbp 5 ++ is3 in
      let is12 = pop_if s.r12 12 ++ is5 in
      let is13 = pop_if s.r13 13 ++ is12 in
      let is14 = pop_if s.r14 14 ++ is13 in
      let h5 = then_all (pop_if s.rbp 5) is3 c4 c5 c6 g5 g6 in
      let h4 = then_all (pop_if s.r12 12) is5 c3 c4 c6 g4 h5 in
      let h3 = then_all (pop_if s.r13 13) is12 c2 c3 c6 g3 h4 in
      let h2 = then_all (pop_if s.r14 14) is13 c1 c2 c6 g2 h3 in
      let h1 = then_all (pop_if s.r15 15) is14 c c1 c6 g1 h2 in
      let o1 : (q : ℕ) → q ≢ 15 → value c1 q ≡ value c q = λ q n. pop_other s.r15 15 q v15 p14 c n in
      let o2 : (q : ℕ) → q ≢ 14 → value c2 q ≡ value c1 q = λ q n. pop_other s.r14 14 q v14 p13 c1 n in
      let o3 : (q : ℕ) → q ≢ 13 → value c3 q ≡ value c2 q = λ q n. pop_other s.r13 13 q v13 p12 c2 n in
      let o4 : (q : ℕ) → q ≢ 12 → value c4 q ≡ value c3 q = λ q n. pop_other s.r12 12 q v12 p5 c3 n in
      let o5 : (q : ℕ) → q ≢ 5 → value c5 q ≡ value c4 q = λ q n. pop_other s.rbp 5 q v5 p3 c4 n in
      let o6 : (q : ℕ) → q ≢ 3 → value c6 q ≡ value c5 q = λ q n. pop_other s.rbx 3 q v3 [] c5 n in (
        c6,
        h1,
        refl,
        record {
          rax = o6 0 (omega arith) ∙ o5 0 (omega arith) ∙ o4 0 (omega arith) ∙ o3 0 (omega arith) ∙ o2 0 (omega arith) ∙ o1 0 (omega arith);
          rbx = pop_same s.rbx 3 v3 [] c5 l5 (omega arith) (λ f. o5 3 (omega arith) ∙ o4 3 (omega arith) ∙ o3 3 (omega arith) ∙ o2 3 (omega arith) ∙ o1 3 (omega arith) ∙ still 5 f (omega arith));
          rbp = o6 5 (omega arith) ∙ pop_same s.rbp 5 v5 p3 c4 l4 (omega arith) (λ f. o4 5 (omega arith) ∙ o3 5 (omega arith) ∙ o2 5 (omega arith) ∙ o1 5 (omega arith) ∙ still 6 f (omega arith));
          r12 = o6 12 (omega arith) ∙ o5 12 (omega arith) ∙ pop_same s.r12 12 v12 p5 c3 l3 (omega arith) (λ f. o3 12 (omega arith) ∙ o2 12 (omega arith) ∙ o1 12 (omega arith) ∙ still 2 f (omega arith));
          r13 = o6 13 (omega arith) ∙ o5 13 (omega arith) ∙ o4 13 (omega arith) ∙ pop_same s.r13 13 v13 p12 c2 l2 (omega arith) (λ f. o2 13 (omega arith) ∙ o1 13 (omega arith) ∙ still 7 f (omega arith));
          r14 = o6 14 (omega arith) ∙ o5 14 (omega arith) ∙ o4 14 (omega arith) ∙ o3 14 (omega arith) ∙ pop_same s.r14 14 v14 p13 c1 l1 (omega arith) (λ f. o1 14 (omega arith) ∙ still 8 f (omega arith));
          r15 = o6 15 (omega arith) ∙ o5 15 (omega arith) ∙ o4 15 (omega arith) ∙ o3 15 (omega arith) ∙ o2 15 (omega arith) ∙ pop_same s.r15 15 v15 p14 c l (omega arith) (λ f. still 9 f (omega arith));
          array_is = ea;
          record_is = er;
        },
      )

  -- the saved registers are popped, and the code returns
  pub left : (s : SavedRegisters) (c : State) (q : ℕ) → length c.regs ≡ 16 → c.array ≡ arr → c.record_ ≡ rec → c.pushed ≡ saved_by s start → Still s c → HasAt code q (codes (restoring s ++ instr.Return ∷ [])) → (last : State) × Ends code last q c × Left (value c 0) last
  left s c q l ea er e still h =
      let x = popped s c l ea er e still in
      let last = x.0 in
      let h0 = subst (HasAt code q) (codes-append (restoring s) (instr.Return ∷ [])) h in
      let h1 : HasAt code q (codes (restoring s)) = has_front code q (codes (restoring s)) (codes (instr.Return ∷ [])) h0 in
      let h2 = has_back code q (codes (restoring s)) (codes (instr.Return ∷ [])) h0 in
      let e : act instr.Return last ≡ Returns = ap returned x.2 in
      let r : Ends code last (q + length (codes (restoring s))) last = (1, (instr.Return, h2, subst (λ o. by_outcome o (λ d. Runs code 0 (q + length (codes (restoring s)) + 1) d last) (λ d. Runs code 0 ((q + length (codes (restoring s)) + 1 + extended d) % 2 ^ 64) last last) (◌≡◌ {A = ℕ} 0 0 × (last ≡ last)) ⊥) (sym e) (refl, refl))) in
      (last, all_go code last (restoring s) q c last h1 x.1 r, x.3)

-- the last store and all that follows
module _ {who : Who} (saved : SavedRegisters) (start : State) {c : State} {words mem : List ℕ} {e : Emitted} {count : ℕ} (a : Agrees who (saved_by saved start) c words mem e count) where
  abbrev pub counted : List ℕ
  counted = overwritten c.record_ 16 (le_bytes 8 count)

  store_acts : act ending c ≡ Goes (record c { record_ = counted })
  store_acts =
      ap (λ v. word_or_stuck v (λ n. machine.writes c 6 16 8 (le_bytes 8 n))) a.count_is
      ∙ ap (λ v. reach c (behind v (extended 16)) 8 (λ b o. written c b (overwritten (block c b) o (le_bytes 8 count)))) a.store
      ∙ ap (λ m. cond (nat_le 24 m) (Goes (record c { record_ = counted })) Stuck) a.keeps.whole

  -- the steps are written, and the code returns with r0 in rax
  pub leaves : (code : List ℕ) (p : ℕ) → Still code mem counted start saved c → HasAt code p (codes (leaving saved)) → (last : State) × Ends code last p c × Left code mem counted start (Word (slice_index words 0)) last
  leaves code p still h =
      let i = ending in
      let c1 : State = record c { record_ = counted } in
      let x = left code mem counted start saved c1 (p + length (bytes_of i)) a.sixteen a.array refl a.pushed still (has_back code p (bytes_of i) (codes (restoring saved ++ instr.Return ∷ [])) h) in
      let last = x.0 in
      let l = x.2 in (
        last,
        goes code last i p c (record c { record_ = counted }) (has_front code p (bytes_of i) (codes (restoring saved ++ instr.Return ∷ [])) h) store_acts x.1,
        record {
          rax = l.rax ∙ a.each 0 (omega arith);
          rbx = l.rbx;
          rbp = l.rbp;
          r12 = l.r12;
          r13 = l.r13;
          r14 = l.r14;
          r15 = l.r15;
          array_is = l.array_is;
          record_is = l.record_is;
        },
      )

-- ---- the begin

module _ (who : Who) (m : ℕ) (c : State) (e : IsCalled who m c) where
  abbrev g : ℕ → Value
  g k = value c k

  -- the word of a register, where it has one
  word : (r : ℕ) → r ≢ 6 → r ≢ 7 → ℕ
  word r a b = (e.words r a b).0

  -- the words as the call begins
  abbrev pub opening_words : List ℕ
  opening_words =
      (e.words 0 (omega arith) (omega arith)).0 ∷ (e.words 8 (omega arith) (omega arith)).0 ∷ (e.words 12 (omega arith) (omega arith)).0 ∷ m
      ∷ (e.words 10 (omega arith) (omega arith)).0 ∷ (e.words 3 (omega arith) (omega arith)).0 ∷ (e.words 5 (omega arith) (omega arith)).0
      ∷ (e.words 13 (omega arith) (omega arith)).0 ∷ (e.words 14 (omega arith) (omega arith)).0 ∷ (e.words 15 (omega arith) (omega arith)).0 ∷ 0 ∷ []

  abbrev pub entered : SavedRegisters → State
  entered saved = state_of (g 0 ∷ g 1 ∷ g 2 ∷ g 3 ∷ g 4 ∷ g 5 ∷ g 6 ∷ behind (g 7) 384 ∷ g 8 ∷ g 2 ∷ g 10 ∷ Word 0 ∷ g 12 ∷ g 13 ∷ g 14 ∷ g 15 ∷ []) c.long Unknown c.array c.record_ (saved_by saved c)

  -- the same with any value in r11
  abbrev begun : Value → State
  begun v = state_of (g 0 ∷ g 1 ∷ g 2 ∷ g 3 ∷ g 4 ∷ g 5 ∷ g 6 ∷ g 7 ∷ g 8 ∷ g 9 ∷ g 10 ∷ v ∷ g 12 ∷ g 13 ∷ g 14 ∷ g 15 ∷ []) c.long c.flags c.array c.record_ []

  -- with what is kept pushed
  abbrev kept : SavedRegisters → Value → State
  kept saved v = record (begun v) { pushed = saved_by saved c }

  saves : (s : SavedRegisters) (v : Value) → GoesAll (saving s) (begun v) (kept s v)
  saves s v =
      let c0 = begun v in
      let c1 = pushed_to s.rbx 3 c0 in
      let c2 = pushed_to s.rbp 5 c1 in
      let c3 = pushed_to s.r12 12 c2 in
      let c4 = pushed_to s.r13 13 c3 in
      let c5 = pushed_to s.r14 14 c4 in
      let c6 = pushed_to s.r15 15 c5 in
      let is15 = push_if s.r15 15 in
      let is14 = push_if s.r14 14 ++ is15 in
      let is13 = push_if s.r13 13 ++ is14 in
      let is12 = push_if s.r12 12 ++ is13 in
      let is5 = push_if s.rbp 5 ++ is12 in
      let h5 = then_all (push_if s.r14 14) is15 c4 c5 c6 (push_goes s.r14 14 c4 refl) (push_goes s.r15 15 c5 refl) in
      let h4 = then_all (push_if s.r13 13) is14 c3 c4 c6 (push_goes s.r13 13 c3 refl) h5 in
      let h3 = then_all (push_if s.r12 12) is13 c2 c3 c6 (push_goes s.r12 12 c2 refl) h4 in
      let h2 = then_all (push_if s.rbp 5) is12 c1 c2 c6 (push_goes s.rbp 5 c1 refl) h3 in
      then_all (push_if s.rbx 3) is5 c0 c1 c6 (push_goes s.rbx 3 c0 refl) h2

  cleared : (s : SavedRegisters) (n : ℕ) → GoesAll beginning (kept s (Word n)) (entered s)
  cleared s n =
      ap (λ k. state_of (g 0 ∷ g 1 ∷ g 2 ∷ g 3 ∷ g 4 ∷ g 5 ∷ g 6 ∷ behind (g 7) 384 ∷ g 8 ∷ g 2 ∷ g 10 ∷ Word k ∷ g 12 ∷ g 13 ∷ g 14 ∷ g 15 ∷ []) c.long Unknown c.array c.record_ (saved_by s c))
      (one_alike 32 (n % 2 ^ 32))

  enters_listed : (saved : SavedRegisters) → GoesAll (entering saved) (state_of (listed g) c.long c.flags c.array c.record_ []) (entered saved)
  enters_listed saved =
      let w = e.words 11 (omega arith) (omega arith) in
      let n = w.0 in
      subst (λ v. GoesAll (entering saved) (begun v) (entered saved)) (sym w.2)
      (then_all (saving saved) beginning (begun (Word n)) (kept saved (Word n)) (entered saved) (saves saved (Word n)) (cleared saved n))

  -- the code of the entry leads to the state in which a call begins
  pub enters : (saved : SavedRegisters) (code : List ℕ) (last : State) → HasAt code 0 (codes (entering saved)) → Ends code last (length (codes (entering saved))) (entered saved) → Ends code last 0 c
  enters saved code last h r =
      let s : c ≡ state_of (listed g) c.long c.flags c.array c.record_ [] =
      ap (λ rs. state_of rs c.long c.flags c.array c.record_ c.pushed) (spread c.regs e.sixteen) ∙ ap (λ p. state_of (listed g) c.long c.flags c.array c.record_ p) e.pushed in
      let z : length (codes (entering saved)) ≡ 0 + length (codes (entering saved)) = omega arith in
      subst (λ x. Ends code last 0 x) (sym s) (all_go code last (entering saved) 0 (state_of (listed g) c.long c.flags c.array c.record_ []) (entered saved) h (enters_listed saved) (subst (λ n. Ends code last n (entered saved)) z r))

  agrees_each : (saved : SavedRegisters) (r : ℕ) → r < 10 → value (entered saved) (gpr r) ≡ Word (slice_index opening_words r)
  agrees_each saved zero h = (e.words 0 (omega arith) (omega arith)).2
  agrees_each saved (suc zero) h = (e.words 8 (omega arith) (omega arith)).2
  agrees_each saved (suc (suc zero)) h = (e.words 12 (omega arith) (omega arith)).2
  agrees_each saved (suc (suc (suc zero))) h = e.len
  agrees_each saved (suc (suc (suc (suc zero)))) h = (e.words 10 (omega arith) (omega arith)).2
  agrees_each saved (suc (suc (suc (suc (suc zero))))) h = (e.words 3 (omega arith) (omega arith)).2
  agrees_each saved (suc (suc (suc (suc (suc (suc zero)))))) h = (e.words 5 (omega arith) (omega arith)).2
  agrees_each saved (suc (suc (suc (suc (suc (suc (suc zero))))))) h = (e.words 13 (omega arith) (omega arith)).2
  agrees_each saved (suc (suc (suc (suc (suc (suc (suc (suc zero)))))))) h = (e.words 14 (omega arith) (omega arith)).2
  agrees_each saved (suc (suc (suc (suc (suc (suc (suc (suc (suc zero))))))))) h = (e.words 15 (omega arith) (omega arith)).2
  agrees_each saved (suc (suc (suc (suc (suc (suc (suc (suc (suc (suc r)))))))))) h = absurd (omega arith)

  -- which agrees with the words, the array and no effects
  pub entered_agrees : (saved : SavedRegisters) → Agrees who (saved_by saved c) (entered saved) opening_words c.array (record { sends = []; outputs = [] }) 0
  entered_agrees saved = record {
    sixteen = refl;
    eleven = refl;
    each = agrees_each saved;
    ten = refl;
    base = ap (λ v. behind v 384) e.array;
    store = e.record_;
    count_is = refl;
    array = refl;
    keeps = e.keeps;
    pushed = refl;
  }

  -- the same by what the beginning sets
  abbrev pub entered_by : Opening → SavedRegisters → State
  entered_by opening.Bare saved = entered saved
  entered_by opening.Placed saved = after (after (entered saved) Unknown 8 (Word 0)) Unknown 12 (Word 512)

  abbrev pub words_by : Opening → List ℕ
  words_by opening.Bare = opening_words
  words_by opening.Placed = slice_set (slice_set opening_words 1 0) 2 512

  placed : (saved : SavedRegisters) → GoesAll placing (entered saved) (entered_by opening.Placed saved)
  placed saved =
      let c1 = after (entered saved) Unknown 8 (Word 0) in
      let c2 = after c1 Unknown 12 (Word 512) in
      on_then (clear 8) (instr.MovImm 12 512 ∷ []) (entered saved) c1 c2 (clears (entered_agrees saved) 1 (omega arith)) (goes_one (instr.MovImm 12 512) c1 c2 refl)

  pub agrees_by : (o : Opening) (saved : SavedRegisters) → Agrees who (saved_by saved c) (entered_by o saved) (words_by o) c.array (record { sends = []; outputs = [] }) 0
  agrees_by opening.Bare saved = entered_agrees saved
  agrees_by opening.Placed saved = put_word (put_word (entered_agrees saved) Unknown 1 0 (omega arith)) Unknown 2 512 (omega arith)

  pub enters_by : (o : Opening) (saved : SavedRegisters) (code : List ℕ) (last : State) → HasAt code 0 (codes (entering_by o saved)) → Ends code last (length (codes (entering_by o saved))) (entered_by o saved) → Ends code last 0 c
  enters_by opening.Bare saved code last h r = enters saved code last h r
  enters_by opening.Placed saved code last h r =
      let is = entering saved in
      let e = codes-append is placing in
      let h' : HasAt code 0 (codes is ++ codes placing) = subst (HasAt code 0) e h in
      let n : length (codes (is ++ placing)) ≡ length (codes is) + length (codes placing) = ap length e ∙ length-append (codes is) (codes placing) in
      let z : 0 + length (codes is) ≡ length (codes is) = omega arith in
      enters saved code last (has_front code 0 (codes is) (codes placing) h') (all_go code last placing (length (codes is)) (entered saved) (entered_by opening.Placed saved) (subst (λ q. HasAt code q (codes placing)) z (has_back code 0 (codes is) (codes placing) h')) (placed saved) (subst (λ q. Ends code last q (entered_by opening.Placed saved)) n r))

  -- those that aren't kept are what the caller had there
  pub opening_is : (saved : SavedRegisters) (r : ℕ) → may_write saved r ≡ false → r < 10 → value c (gpr r) ≡ Word (slice_index opening_words r)
  opening_is saved zero z h = absurd (true≢false z)
  opening_is saved (suc zero) z h = absurd (true≢false z)
  opening_is saved (suc (suc zero)) z h = (e.words 12 (omega arith) (omega arith)).2
  opening_is saved (suc (suc (suc zero))) z h = absurd (true≢false z)
  opening_is saved (suc (suc (suc (suc zero)))) z h = absurd (true≢false z)
  opening_is saved (suc (suc (suc (suc (suc zero))))) z h = (e.words 3 (omega arith) (omega arith)).2
  opening_is saved (suc (suc (suc (suc (suc (suc zero)))))) z h = (e.words 5 (omega arith) (omega arith)).2
  opening_is saved (suc (suc (suc (suc (suc (suc (suc zero))))))) z h = (e.words 13 (omega arith) (omega arith)).2
  opening_is saved (suc (suc (suc (suc (suc (suc (suc (suc zero)))))))) z h = (e.words 14 (omega arith) (omega arith)).2
  opening_is saved (suc (suc (suc (suc (suc (suc (suc (suc (suc zero))))))))) z h = (e.words 15 (omega arith) (omega arith)).2
  opening_is saved (suc (suc (suc (suc (suc (suc (suc (suc (suc (suc r)))))))))) z h = absurd (omega arith)

  -- the words as the call begins are below 2 ^ 64
  pub opening_small : (r : ℕ) → m < 2 ^ 64 → slice_index opening_words r < 2 ^ 64
  opening_small zero = let w = (e.words 0 (omega arith) (omega arith)).1 in λ _. w
  opening_small (suc zero) = let w = (e.words 8 (omega arith) (omega arith)).1 in λ _. w
  opening_small (suc (suc zero)) = let w = (e.words 12 (omega arith) (omega arith)).1 in λ _. w
  opening_small (suc (suc (suc zero))) = λ l. l
  opening_small (suc (suc (suc (suc zero)))) = let w = (e.words 10 (omega arith) (omega arith)).1 in λ _. w
  opening_small (suc (suc (suc (suc (suc zero))))) = let w = (e.words 3 (omega arith) (omega arith)).1 in λ _. w
  opening_small (suc (suc (suc (suc (suc (suc zero)))))) = let w = (e.words 5 (omega arith) (omega arith)).1 in λ _. w
  opening_small (suc (suc (suc (suc (suc (suc (suc zero))))))) = let w = (e.words 13 (omega arith) (omega arith)).1 in λ _. w
  opening_small (suc (suc (suc (suc (suc (suc (suc (suc zero)))))))) = let w = (e.words 14 (omega arith) (omega arith)).1 in λ _. w
  opening_small (suc (suc (suc (suc (suc (suc (suc (suc (suc zero))))))))) = let w = (e.words 15 (omega arith) (omega arith)).1 in λ _. w
  opening_small (suc (suc (suc (suc (suc (suc (suc (suc (suc (suc zero)))))))))) = λ _. omega arith
  opening_small (suc (suc (suc (suc (suc (suc (suc (suc (suc (suc (suc r))))))))))) = λ _. omega arith
