-- The code follows a call, task by task.
use Rattle.std.proofs.Common.{◌≡◌, ℕ, zero, suc, ◌+◌, ◌-◌, ◌%◌, ◌^◌, ◌<◌, ◌≤◌, Bool, true, false, cond, List, [], ◌∷◌, ◌++◌, length, Option, Some, None, refl, sym, ap, ◌∙◌, subst, arith, length-append}
use Rattle.std.specs.Prelude.{◌==◌, ◌&&◌, nat_lt, slice_get, slice_set, slice_range, slice_index, if◌then◌else◌}
use Rattle.std.proofs.lemmas.Bool.{and_parts}
use Rattle.std.proofs.lemmas.Bool.Decides.{nat_tests}
use Rattle.std.proofs.lemmas.List.{get_or-set_same, set-set}
use Rattle.decode.specs.declared.insn.AluOp.TheVariants as op
use Rattle.decode.specs.declared.insn.Width.{Width}
use Rattle.decode.specs.declared.insn.Width.TheVariants.{W64}
use Rattle.decode.specs.declared.insn.Condition.{Condition}
use Rattle.decode.specs.declared.insn.Operand.{Operand}
use Rattle.decode.specs.declared.insn.Operand.TheVariants as operand
use Rattle.decode.specs.declared.insn.Reg.{Reg}
use Rattle.operations.specs.Operations.{holds, word_of}
use Rattle.operations.specs.Bytes.{le_bytes, overwritten}
use Rattle.helpers.specs.declared.effects.Who.{Who}
use Rattle.helpers.specs.Effects.{Emitted}
use Rattle.dense.specs.declared.execution.Next.TheVariants.{To, End}
use Rattle.dense.specs.Acts.{Does}
use Rattle.x86.specs.declared.instruction.Instr.{Instr}
use Rattle.x86.specs.declared.instruction.Instr.TheVariants as instr
use Rattle.x86.specs.Encoding.{bytes_of}
use Rattle.x86.specs.declared.instruction.ConditionCode as x86
use Rattle.x86.specs.Machine.{State, HasAt, Word, Goes, Leaps, value, put, behind, extended, branch, act}
use Rattle.native.specs.declared.task.SlotTask.{SlotTask}
use Rattle.native.specs.declared.task.SlotTask.TheVariants as task
use Rattle.native.specs.Tasks.{operand_of, task_act, holds_word, is_word, is_eligible, TaskReaches, TaskFits}
use Rattle.native.specs.Saved.{WritesWithin, may_write, SaveAll}
use Rattle.native.specs.declared.saved_registers.SavedRegisters.{SavedRegisters}
use Rattle.native.specs.SlotCode as code_specs
use Rattle.native.specs.Code.{gpr, codes, TaskIsShort}
use Rattle.native.specs.SlotCode.{flushed, skipped, jump_code, jump_if_code, Reaches, Plain, Forks, Jumps, Serves}
use Rattle.native.specs.Openings.{leaving}
use Rattle.native.specs.Comparison.{condition_of, compare_code}
use Rattle.native.specs.Pending.{taken}
use Rattle.native.specs.Fusion.{fused, is_covered}
use Rattle.native.specs.Laid.{Fuses, ServesBy, Laid}
use Rattle.native.specs.SlotTasks.{task_at}
use Rattle.native.specs.Correct.{Keeps}
use Rattle.native.proofs.Runs.{spread_small, Ends, goes, leaps, has_front, has_back, codes-append}
use Rattle.native.proofs.Agreement.{Agrees, after, flushes, reads, puts, put_word, put_flags}
use Rattle.native.proofs.FusionLemmas.{found_at, fused_sum, covered_behind, uncovered}
use Rattle.native.proofs.Sound.{Sound, Safe, Same, set_small, put_same, does_sound, does_same, task_safe, task_puts, operand_small}
use Rattle.native.proofs.Computations.{word_register}
use Rattle.native.proofs.Execution.{Falls, performs}
use Rattle.native.proofs.Records.{read_back, keeps_steps}
use Rattle.native.proofs.Comparisons.{flags_of, compares, jumps}
use Rattle.native.proofs.Ends.{saved_by, leaves}

jump_acts : (c : State) (d : ℕ) → act (jump_code d) c ≡ Leaps d
jump_acts c d = by_test (nat_lt d 128) refl
  where
    by_test : (b : Bool) → nat_lt d 128 ≡ b → act (cond b (instr.JumpShort d) (instr.Jump d)) c ≡ Leaps d
    by_test true t = ap Leaps (spread_small d (grind (arith, nat_tests)))
    by_test false t = refl

jump_if_acts : (c : State) (x : x86.ConditionCode) (d : ℕ) → act (jump_if_code x d) c ≡ act (instr.JumpIf x d) c
jump_if_acts c x d = by_test (nat_lt d 128) refl
  where
    by_test : (b : Bool) → nat_lt d 128 ≡ b → act (cond b (instr.JumpIfShort x d) (instr.JumpIf x d)) c ≡ act (instr.JumpIf x d) c
    by_test true t = ap (λ n. branch c x n c.flags) (spread_small d (grind (arith, nat_tests)))
    by_test false t = refl

-- what is known of a call that stands at a slot: the slot's task, where the call goes on, and what it leaves where it ends
pub record Call (who : Who) (tasks : List SlotTask) (long count : ℕ) (Stand : List ℕ → List ℕ → ℕ → ℕ → Emitted → Type 0) (Over : List ℕ → List ℕ → ℕ → Emitted → Type 0) (words mem : List ℕ) (slot steps : ℕ) (e : Emitted) : Type 0 where
  pub before : slot < count
  pub left : steps + 1 ≤ count
  pub array : length mem ≡ long
  pub this : SlotTask
  pub there : slice_get tasks slot ≡ Some this
  pub eligible : is_eligible slot this ≡ true
  pub reaches : TaskReaches long words this
  pub fits : TaskFits this
  pub next : (to : ℕ) (words' mem' : List ℕ) (e' : Emitted) → Does slot words mem e (task_act who slot words mem e this) (To to) words' mem' e' → length mem' ≡ long → (slot < to) × Stand words' mem' to (steps + 1) e'
  pub ends : Does slot words mem e (task_act who slot words mem e this) End words mem e → Over words mem (steps + 1) e

-- how a call has ended
pub record Finished (who : Who) (start last : State) (Over : List ℕ → List ℕ → ℕ → Emitted → Type 0) : Type 0 where
  pub words : List ℕ
  pub steps : ℕ
  pub effects : Emitted
  pub over : Over words last.array steps effects
  pub answer : value last 0 ≡ Word (slice_index words 0)
  pub counted : slice_range last.record_ 16 24 ≡ le_bytes 8 steps
  pub keeps : Keeps who effects last.record_
  pub rbx : value last 3 ≡ value start 3
  pub rbp : value last 5 ≡ value start 5
  pub r12 : value last 12 ≡ value start 12
  pub r13 : value last 13 ≡ value start 13
  pub r14 : value last 14 ≡ value start 14
  pub r15 : value last 15 ≡ value start 15

module _ (who : Who) (tasks : List SlotTask) (long count : ℕ) (small : long ≤ 2048) (few : count ≤ 1024) (Stand : List ℕ → List ℕ → ℕ → ℕ → Emitted → Type 0) (Over : List ℕ → List ℕ → ℕ → Emitted → Type 0) (pending tails : List ℕ) (saved : SavedRegisters) (code : List ℕ) (whole : length code < 2 ^ 64) (most : slice_index tails 0 ≤ length code) (falls : (j k : ℕ) → j ≤ k → slice_index tails k ≤ slice_index tails j) (start : State) (opened : List ℕ) (opened_is : (q : ℕ) → may_write saved q ≡ false → q < 10 → value start (gpr q) ≡ Word (slice_index opened q)) where
  -- where the code of a slot stands
  abbrev pub place : ℕ → ℕ
  place k = length code - slice_index tails k

  -- how long the code from a slot on is
  tail_in : (k : ℕ) → slice_index tails k ≤ length code
  tail_in k = let l = falls 0 k (omega arith) in omega arith

  abbrev Fits : State → List ℕ → List ℕ → Emitted → ℕ → Type 0
  Fits c words mem e count = Agrees who (saved_by saved start) c words mem e count

  -- the words of the registers that the code doesn't write are as the call began
  abbrev Kept : List ℕ → Type 0
  Kept words = Same saved opened words

  -- from this place and state the code comes to an end that is the call's
  abbrev Done : ℕ → State → Type 0
  Done p c = (last : State) × Ends code last p c × Finished who start last Over

  -- from each later slot on that a call comes to
  abbrev More : ℕ → Type 0
  More slot = (words mem : List ℕ) (e : Emitted) (to steps done : ℕ) (c : State) → slot < to → is_covered tasks to ≡ false → Sound words mem → Kept words → Stand words mem to steps e → Fits c words mem e done → done + slice_index pending to ≡ steps → Done (place to) c

  -- the place where a jump from the end of a slot's code arrives
  lands : (slot d to : ℕ) → Reaches tails slot to d → place (slot + 1) + d ≡ place to
  lands slot d to r = let x = r.sums in let y = tail_in (slot + 1) in omega arith

  in_words : (k : ℕ) → place k < 2 ^ 64
  in_words k = let w = whole in omega arith

  -- the jump over a wide instruction's second slot
  past : (slot d to u : ℕ) (c : State) (last : State) → Reaches tails slot to d → HasAt code u (codes (skipped d)) → u + length (codes (skipped d)) ≡ place (slot + 1) → Ends code last (place to) c → Ends code last u c
  past slot d to u c last s h z r = by_test (d == 0) refl h z
    where
      by_test : (b : Bool) → (d == 0) ≡ b → HasAt code u (codes (cond b [] (jump_code d ∷ []))) → u + length (codes (cond b [] (jump_code d ∷ []))) ≡ place (slot + 1) → Ends code last u c
      by_test true e h z =
          let n : d ≡ 0 = grind (arith, nat_tests) in
          let m = lands slot d to s in
          let y : place to ≡ u = omega arith in
          subst (λ p. Ends code last p c) y r
      by_test false e h z =
          let j = jump_code d in
          let m = lands slot d to s in
          let len = length-append (bytes_of j) [] in
          leaps code last j u d (place to) c (has_front code u (bytes_of j) [] h) (jump_acts c d) s.short (omega arith) (in_words to) r

  -- after a slot's task, steps are added to the count, and the code goes on at another slot
  passes : (slot : ℕ) (words mem : List ℕ) (e : Emitted) (k d to q done : ℕ) (c : State) → Fits c words mem e done → k < 2 ^ 31 → done + k < 2 ^ 64 → Reaches tails slot to d → HasAt code q (codes (flushed k ++ skipped d)) → q + length (codes (flushed k ++ skipped d)) ≡ place (slot + 1) → ((c' : State) → Fits c' words mem e (done + k) → Done (place to) c') → Done q c
  passes slot words mem e k d to q done c a short fits s h n more =
      let fs = flushed k in
      let js = skipped d in
      let e1 = codes-append fs js in
      let h' : HasAt code q (codes fs ++ codes js) = subst (HasAt code q) e1 h in
      let lc = ap length e1 ∙ length-append (codes fs) (codes js) in
      let f = flushes a code q k short fits (has_front code q (codes fs) (codes js) h') in
      let x = more f.c' f.agrees in
      let z : q + length (codes fs) + length (codes js) ≡ place (slot + 1) = omega arith in
      (x.0, f.back x.0 (past slot d to (q + length (codes fs)) f.c' x.0 s (has_back code q (codes fs) (codes js) h') z x.1), x.2)

  module _ {words mem : List ℕ} {slot steps : ℕ} {now : Emitted} (sound : Sound words mem) (kept : Kept words) (array : length mem ≡ long) (left : steps + 1 ≤ count) {c : State} {done : ℕ} (a : Fits c words mem now done) (sum : done + slice_index pending slot ≡ steps) (more : More slot) where
    short_count : done < 1024
    short_count = omega (arith, left, few, sum)

    -- where the call goes on behind a task, and what it leaves where it ends
    abbrev Nexts : SlotTask → Type 0
    Nexts t = (to : ℕ) (words' mem' : List ℕ) (e' : Emitted) → Does slot words mem now (task_act who slot words mem now t) (To to) words' mem' e' → length mem' ≡ long → (slot < to) × (is_covered tasks to ≡ false) × Stand words' mem' to (steps + 1) e'

    abbrev Leaves : SlotTask → Type 0
    Leaves t = Does slot words mem now (task_act who slot words mem now t) End words mem now → Over words mem (steps + 1) now

    module _ (t : SlotTask) (next : Nexts t) (spares : WritesWithin saved t) where
      -- on at a slot
      on : (words' mem' : List ℕ) (then_e : Emitted) (to done' : ℕ) (c' : State) → Does slot words mem now (task_act who slot words mem now t) (To to) words' mem' then_e → length mem' ≡ long → Fits c' words' mem' then_e done' → Safe (task_act who slot words mem now t) → done' + slice_index pending to ≡ steps + 1 → Done (place to) c'
      on words' mem' then_e to done' c' d w b safe s =
          let n = next to words' mem' then_e d w in
          more words' mem' then_e to (steps + 1) done' c' n.0 n.1 (does_sound (task_act who slot words mem now t) slot words mem now (To to) words' mem' then_e safe sound d) (does_same saved (task_act who slot words mem now t) slot opened words mem now (To to) words' mem' then_e safe (task_puts saved who slot words mem now t spares) kept d) n.2 b s

      plain : (is : List Instr) → TaskReaches long words t → TaskFits t → Falls t → is_eligible slot t ≡ true → Plain pending tails slot t is → HasAt code (place slot) (codes is) → place slot + length (codes is) ≡ place (slot + 1) → Done (place slot) c
      plain is v fit goes_on eligible s h n =
          let p = place slot in
          let bs = s.bs in
          let k = s.k in
          let js = flushed k ++ skipped s.d in
          let e0 = ap codes s.is_are ∙ codes-append bs js in
          let h' : HasAt code p (codes bs ++ codes js) = subst (HasAt code p) e0 h in
          let la = length-append (codes bs) (codes js) in
          let lb = ap length e0 in
          let ln = in_words (slot + 1) in
          let safe = task_safe long who slot words mem now sound a.keeps.me_fits a.keeps.from_fits t v fit s.short in
          let x = performs a code p slot bs (has_front code p (codes bs) (codes js) h') (omega (arith, array, small)) (omega arith) sound.small t (subst (λ n. TaskReaches n words t) (sym array) v) fit goes_on s.done s.short eligible in
          let l = short_count in
          let ks = s.counts.short in
          let sums = s.counts.sums in
          let d = passes slot x.words' x.mem' x.e' k s.d (slot + taken t) (p + length (codes bs)) done x.c' x.agrees ks (omega arith) s.reaches (has_back code p (codes bs) (codes js) h') (omega arith) (λ c2 b. on x.words' x.mem' x.e' (slot + taken t) (done + k) c2 x.does (x.whole ∙ array) b safe (omega arith)) in
          (d.0, x.back d.0 d.1, d.2)

      leap : (to : ℕ) (is : List Instr) → Safe (task_act who slot words mem now t) → Does slot words mem now (task_act who slot words mem now t) (To to) words mem now → Jumps pending tails slot to is → HasAt code (place slot) (codes is) → place slot + length (codes is) ≡ place (slot + 1) → Done (place slot) c
      leap to is safe does s h n =
          let p = place slot in
          let k = s.k in
          let j = jump_code s.d in
          let len = length-append (bytes_of j) [] in
          let e0 = ap codes s.is_are ∙ codes-append (flushed k) (j ∷ []) in
          let h' : HasAt code p (codes (flushed k) ++ codes (j ∷ [])) = subst (HasAt code p) e0 h in
          let l = short_count in
          let ks = s.takes.short in
          let f = flushes a code p k ks (omega arith) (has_front code p (codes (flushed k)) (codes (j ∷ [])) h') in
          let q = p + length (codes (flushed k)) in
          let sums = s.takes.sums in
          let d = on words mem now to (done + k) f.c' does array f.agrees safe (omega arith) in
          let la = length-append (codes (flushed k)) (codes (j ∷ [])) in
          let lb = ap length e0 in
          let lc = lands slot s.d to s.reaches in
          let z : q + length (bytes_of j) + s.d ≡ place to = omega arith in
          (d.0, f.back d.0 (leaps code d.0 j q s.d (place to) f.c' (has_front code q (bytes_of j) [] (has_back code p (codes (flushed k)) (codes (j ∷ [])) h')) (jump_acts f.c' s.d) s.reaches.short z (in_words to) d.1), d.2)

      module _ (x : Condition) (w : Width) (dst : Reg) (b : Operand) (to : ℕ) where
        abbrev met : Bool
        met = holds x w (slice_index words dst.number) (operand_of words b)

        fork : (is : List Instr) → Safe (task_act who slot words mem now t) → ((v : Bool) → met ≡ v → Does slot words mem now (task_act who slot words mem now t) (To (if v then to else slot + 1)) words mem now) → dst.number < 10 → is_word b ≡ true → Forks pending tails slot x w dst.number b to is → HasAt code (place slot) (codes is) → place slot + length (codes is) ≡ place (slot + 1) → Done (place slot) c
        fork is safe does named word s h n =
            let p = place slot in
            let k = s.k in
            let i = compare_code x w dst.number b in
            let j = jump_if_code (condition_of x) s.d in
            let len = length-append (bytes_of j) [] in
            let h' : HasAt code p (codes (flushed k) ++ codes (i ∷ j ∷ [])) = subst (HasAt code p) (ap codes s.is_are ∙ codes-append (flushed k) (i ∷ j ∷ [])) h in
            let l = short_count in
            let ks = s.takes.short in
            let f = flushes a code p k ks (omega arith) (has_front code p (codes (flushed k)) (codes (i ∷ j ∷ [])) h') in
            let q = p + length (codes (flushed k)) in
            let h2 = has_back code p (codes (flushed k)) (codes (i ∷ j ∷ [])) h' in
            let fl = flags_of f.agrees x w dst.number b in
            let c2 : State = record f.c' { flags = fl } in
            let q2 = q + length (bytes_of i) in
            let hj : HasAt code q2 (bytes_of j) = has_front code q2 (bytes_of j) [] (has_back code q (bytes_of i) (codes (j ∷ [])) h2) in
            let la = length-append (codes (flushed k)) (codes (i ∷ j ∷ [])) in
            let lb = ap length (codes-append (flushed k) (i ∷ j ∷ [])) in
            let ld = length-append (bytes_of i) (codes (j ∷ [])) in
            let lc = lands slot s.d to s.reaches in
            let le = ap (λ js. length (codes js)) s.is_are in
            let z : q2 + length (bytes_of j) + s.d ≡ place to = omega arith in
            let y : place (slot + 1) ≡ q2 + length (bytes_of j) = omega arith in
            let act_j = jump_if_acts c2 (condition_of x) s.d ∙ jumps f.agrees x w dst.number b s.d (sound.small dst.number) (operand_small words b sound.small s.short) in
            let way = by_test f.c' c2 s.takes.sums s.passes.sums (put_flags f.agrees fl) q2 j s.d hj act_j s.reaches.short z (in_words to) y does met refl in
            (way.0, f.back way.0 (goes code way.0 i q f.c' c2 (has_front code q (bytes_of i) (codes (j ∷ [])) h2) (compares f.agrees x w dst.number b named s.short word) way.1), way.2)
          where
            by_test : (c1 c2 : State) → (s.k + slice_index pending to ≡ slice_index pending slot + 1) → (s.k + slice_index pending (slot + 1) ≡ slice_index pending slot + 1) → Fits c2 words mem now (done + s.k) → (q2 : ℕ) (j : Instr) (d : ℕ) → HasAt code q2 (bytes_of j) → act j c2 ≡ cond met (Leaps d) (Goes c2) → d < 2 ^ 31 → q2 + length (bytes_of j) + d ≡ place to → place to < 2 ^ 64 → place (slot + 1) ≡ q2 + length (bytes_of j) → ((v : Bool) → met ≡ v → Does slot words mem now (task_act who slot words mem now t) (To (if v then to else slot + 1)) words mem now) → (v : Bool) → met ≡ v → Done q2 c2
            by_test c1 c2 st sp b2 q2 j d hj aj ds z fits y does true m =
                let x = on words mem now to (done + s.k) c2 (does true m) array b2 safe (omega arith) in
                (x.0, leaps code x.0 j q2 d (place to) c2 hj (aj ∙ ap (λ v. cond v (Leaps d) (Goes c2)) m) ds z fits x.1, x.2)
            by_test c1 c2 st sp b2 q2 j d hj aj ds z fits y does false m =
                let x = on words mem now (slot + 1) (done + s.k) c2 (does false m) array b2 safe (omega arith) in
                (x.0, goes code x.0 j q2 c2 c2 hj (aj ∙ ap (λ v. cond v (Leaps d) (Goes c2)) m) (subst (λ u. Ends code x.0 u c2) y x.1), x.2)

      exit : (is : List Instr) → Leaves t → Does slot words mem now (task_act who slot words mem now t) End words mem now → code_specs.Ends pending saved slot is → HasAt code (place slot) (codes is) → Done (place slot) c
      exit is leaves_so does s h =
          let p = place slot in
          let k = s.k in
          let h' : HasAt code p (codes (flushed k) ++ codes (leaving saved)) = subst (HasAt code p) (ap codes s.is_are ∙ codes-append (flushed k) (leaving saved)) h in
          let l = short_count in
          let ks = s.short in
          let f = flushes a code p k ks (omega arith) (has_front code p (codes (flushed k)) (codes (leaving saved)) h') in
          let q = p + length (codes (flushed k)) in
          let x = leaves saved start f.agrees code q (λ v lo hi. f.agrees.each v hi ∙ ap Word (kept v lo hi) ∙ sym (opened_is v lo hi)) (has_back code p (codes (flushed k)) (codes (leaving saved)) h') in
          let last = x.0 in
          let y = x.2 in
          let sums = s.sums in
          let n : done + k ≡ steps + 1 = omega arith in
          let whole = f.agrees.keeps.whole in
          let written_steps : slice_range (overwritten f.c'.record_ 16 (le_bytes 8 (done + k))) 16 24 ≡ le_bytes 8 (done + k) = read_back f.c'.record_ (le_bytes 8 (done + k)) 16 (omega arith) in (
            last,
            f.back last x.1,
            record {
              words = words;
              steps = steps + 1;
              effects = now;
              over = subst (λ z. Over words z (steps + 1) now) (sym y.array_is) (leaves_so does);
              answer = y.rax;
              counted = ap (λ z. slice_range z 16 24) y.record_is ∙ written_steps ∙ ap (le_bytes 8) n;
              keeps = subst (Keeps who now) (sym y.record_is) (keeps_steps who now f.c'.record_ (le_bytes 8 (done + k)) refl f.agrees.keeps);
              rbx = y.rbx;
              rbp = y.rbp;
              r12 = y.r12;
              r13 = y.r13;
              r14 = y.r14;
              r15 = y.r15;
            },
          )

    -- each task
    by_task : (t : SlotTask) (is : List Instr) → Nexts t → Leaves t → WritesWithin saved t → TaskReaches long words t → TaskFits t → is_eligible slot t ≡ true → Serves pending tails saved slot t is → HasAt code (place slot) (codes is) → place slot + length (codes is) ≡ place (slot + 1) → Done (place slot) c
    by_task (task.Branch x w dst b to) is next e u v f k s h n =
        let y = and_parts (holds_word dst.number) (is_word b && nat_lt slot to) k in
        fork (task.Branch x w dst b to) next u x w dst b to is tt (λ u z. (ap (λ y. To (if y then to else slot + 1)) (sym z), refl, refl, refl)) (word_register dst.number y.0) (and_parts (is_word b) (nat_lt slot to) y.1).0 s h n
    by_task (task.Leap to) is next e u v f k s h n = leap (task.Leap to) next u to is tt (refl, refl, refl, refl) s h n
    by_task task.Exit is next e u v f k s h n = exit task.Exit next u is e (refl, refl, refl, refl) s h
    by_task task.Dead is next e u v f k s h n = absurd v
    by_task t is next e u v f k s h n = plain t next u is v f tt k s h n

  module _ (calls : (words mem : List ℕ) (slot steps : ℕ) (e : Emitted) → Stand words mem slot steps e → Call who tasks long count Stand Over words mem slot steps e) (kept_all : SaveAll tasks saved) (laid : (k : ℕ) (t : SlotTask) → slice_get tasks k ≡ Some t → is_covered tasks k ≡ false → is_eligible k t ≡ true → Laid tasks pending tails saved code k t) where
    -- one instruction, and the call has done two slots
    fuse : (words mem : List ℕ) (e : Emitted) (slot steps done : ℕ) (c : State) → Sound words mem → Kept words → Stand words mem slot steps e → Fits c words mem e done → done + slice_index pending slot ≡ steps → More slot → (i : Instr) (is : List Instr) → fused tasks slot ≡ Some i → Fuses pending tails slot i (task_at tasks (slot + 1)) is → HasAt code (place slot) (codes is) → place slot + length (codes is) ≡ place (slot + 1) → Done (place slot) c
    fuse words mem e slot steps done c sound kept g a sum more i is f s h n =
        let k = calls words mem slot steps e g in
        let m = fused_sum tasks slot i f in
        let d = m.dst.number in
        let r = m.src.number in
        let z = word_of m.imm in
        let t = task.Compute op.Mov W64 m.dst (operand.Reg m.src) in
        let u = task.Compute op.Add W64 m.again (operand.Imm m.imm) in
        let one : k.this ≡ t = sym (found_at tasks slot k.this k.there) ∙ m.first in
        let words1 = slice_set words d (slice_index words r) in
        let does1 : Does slot words mem e (task_act who slot words mem e t) (To (slot + 1)) words1 mem e = (refl, refl, refl, refl) in
        let next1 = k.next (slot + 1) words1 mem e (subst (λ t. Does slot words mem e (task_act who slot words mem e t) (To (slot + 1)) words1 mem e) (sym one) does1) k.array in
        let l = calls words1 mem (slot + 1) (steps + 1) e next1.1 in
        let two : l.this ≡ u = sym (found_at tasks (slot + 1) l.this l.there) ∙ m.second in
        let v = (slice_index words1 m.again.number + z) % 2 ^ 64 in
        let words2 = slice_set words1 m.again.number v in
        let does2 : Does (slot + 1) words1 mem e (task_act who (slot + 1) words1 mem e u) (To (slot + 1 + 1)) words2 mem e = (refl, refl, refl, refl) in
        let next2 = l.next (slot + 1 + 1) words2 mem e (subst (λ t. Does (slot + 1) words1 mem e (task_act who (slot + 1) words1 mem e t) (To (slot + 1 + 1)) words2 mem e) (sym two) does2) l.array in
        let stands : Stand words2 mem (slot + 2) (steps + 1 + 1) e = let n : slot + 1 + 1 ≡ slot + 2 = omega arith in subst (λ j. Stand words2 mem j (steps + 1 + 1) e) n next2.1 in
        let may : may_write saved d ≡ true = subst (WritesWithin saved) one (kept_all slot k.this k.there) in
        let may_again : may_write saved m.again.number ≡ true = ap (may_write saved) (sym m.alike) ∙ may in
        let fits : (slice_index words1 m.again.number + z) % 2 ^ 64 < 2 ^ 64 = omega arith in
        let sound2 : Sound words2 mem = record {
          small = set_small words1 m.again.number v fits (set_small words d (slice_index words r) (sound.small r) sound.small);
          bytes = sound.bytes;
        } in
        let kept2 : Kept words2 = put_same saved m.again.number v opened words1 words2 may_again refl (put_same saved d (slice_index words r) opened words words1 may refl kept) in
        let copied : slice_index words1 m.again.number ≡ slice_index words r = ap (slice_index words1) (sym m.alike) ∙ get_or-set_same words d (slice_index words r) 0 (let x = a.eleven in let y = m.to in omega arith) in
        let w = (slice_index words r + z) % 2 ^ 64 in
        let same : slice_set words d w ≡ words2 = sym (set-set words d (slice_index words r) w) ∙ ap (λ q. slice_set words1 q w) m.alike ∙ ap (λ q. slice_set words1 m.again.number ((q + z) % 2 ^ 64)) (sym copied) in
        let c1 = after c c.flags (gpr d) (Word w) in
        let b : Fits c1 words2 mem e done = subst (λ ws. Fits c1 ws mem e done) same (put_word a c.flags d w m.to) in
        let short : extended z ≡ z = subst TaskIsShort m.second s.short in
        let acts : act i c ≡ Goes c1 = ap (λ j. act j c) m.is ∙ reads a r (λ v. put c (gpr d) (behind v (extended z))) m.from ∙ ap (λ x. put c (gpr d) (Word ((slice_index words r + x) % 2 ^ 64))) short ∙ puts a c.flags d (Word w) m.to in
        let p = place slot in
        let js = flushed s.k ++ skipped s.d in
        let h' : HasAt code p (bytes_of i ++ codes js) = subst (λ l. HasAt code p (codes l)) s.is_are h in
        let la = length-append (bytes_of i) (codes js) in
        let lb : length (codes is) ≡ length (bytes_of i ++ codes js) = ap (λ l. length (codes l)) s.is_are in
        let few_k = s.few in
        let sums = s.sums in
        let q = p + length (bytes_of i) in
        let count_left = k.left in
        let x = passes slot words2 mem e s.k s.d (slot + 2) q done c1 b few_k (omega (arith, few, few_k, sum, count_left)) s.reaches (has_back code p (bytes_of i) (codes js) h') (omega (arith, n, la, lb)) (λ c2 b2. more words2 mem e (slot + 2) (steps + 1 + 1) (done + s.k) c2 (omega arith) (covered_behind tasks slot i f) sound2 kept2 stands b2 (omega (arith, sum, sums))) in
        (x.0, goes code x.0 i p c c1 (has_front code p (bytes_of i) (codes js) h') acts x.1, x.2)

    -- from where a call stands the code comes to its end, as the tasks do
    pub follows : (left : ℕ) (words mem : List ℕ) (e : Emitted) (slot steps done : ℕ) (c : State) → count ≤ slot + left → is_covered tasks slot ≡ false → Sound words mem → Kept words → Stand words mem slot steps e → Fits c words mem e done → done + slice_index pending slot ≡ steps → Done (place slot) c
    follows zero words mem e slot steps done c h own sound kept g a s = let k = (calls words mem slot steps e g).before in absurd (omega (arith, k, h))
    follows (suc left) words mem e slot steps done c h own sound kept g a s =
        let k = calls words mem slot steps e g in
        let l = laid slot k.this k.there own k.eligible in
        let n : place slot + length (codes l.is) ≡ place (slot + 1) = let y = l.next in let z = tail_in slot in omega arith in
        by_fused k l.is n l.stands (λ words' mem' e' to steps' done' c' lt own' sound' kept' g' a' s'. follows left words' mem' e' to steps' done' c' (omega (arith, lt, h)) own' sound' kept' g' a' s') (fused tasks slot) refl l.serves
      where
        by_fused : (k : Call who tasks long count Stand Over words mem slot steps e) (is : List Instr) → place slot + length (codes is) ≡ place (slot + 1) → HasAt code (place slot) (codes is) → More slot → (o : Option Instr) → fused tasks slot ≡ o → ServesBy o tasks pending tails saved slot k.this is → Done (place slot) c
        by_fused k is n stands more None f serves =
            by_task sound kept k.array k.left a s more k.this is (λ to words' mem' e' d w. let x = k.next to words' mem' e' d w in (x.0, uncovered who tasks slot words mem e f to words' mem' e' k.this k.there k.eligible d, x.1)) k.ends (kept_all slot k.this k.there) k.reaches k.fits k.eligible serves stands n
        by_fused k is n stands more (Some i) f serves = fuse words mem e slot steps done c sound kept g a s more i is f serves stands n
