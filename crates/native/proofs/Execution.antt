-- Each task that always goes on.
use Rattle.std.proofs.Common.{◌≡◌, ℕ, ◌+◌, ◌^◌, ◌<◌, ◌≤◌, lit≤, true, List, [], ◌∷◌, ◌++◌, length, Option, refl, sym, ap, ◌∙◌, subst, arith, length-append}
use Rattle.std.specs.Prelude.{slice_set, slice_index, slice_range}
use Rattle.std.proofs.lemmas.Bool.{and_parts}
use Rattle.helpers.specs.declared.effects.Who.{Who}
use Rattle.helpers.specs.Effects.{Emitted}
use Rattle.helpers.specs.Helpers.{sized_payload}
use Rattle.dense.specs.declared.execution.Next.TheVariants.{To}
use Rattle.dense.specs.Acts.{Answers, Does}
use Rattle.decode.specs.declared.insn.AluOp.{AluOp}
use Rattle.decode.specs.declared.insn.AluOp.TheVariants as op
use Rattle.decode.specs.declared.insn.Width.{Width}
use Rattle.decode.specs.declared.insn.Width.TheVariants.{W64}
use Rattle.decode.specs.declared.insn.Size.TheVariants as size
use Rattle.decode.specs.declared.insn.Operand.{Operand}
use Rattle.decode.specs.declared.insn.Reg.{Reg}
use Rattle.operations.specs.Operations.{result_of}
use Rattle.x86.specs.declared.instruction.Instr.{Instr}
use Rattle.x86.specs.declared.instruction.Instr.TheVariants as instr
use Rattle.x86.specs.Machine.{Value, State, HasAt}
use Rattle.native.specs.declared.task.SlotTask.{SlotTask}
use Rattle.native.specs.declared.task.SlotTask.TheVariants as task
use Rattle.native.specs.Tasks.{operand_of, holds_word, is_word, is_eligible, sized_at, task_act, TaskReaches, TaskFits}
use Rattle.native.specs.Code.{seen, codes, IsShort, TaskIsShort}
use Rattle.native.specs.Pending.{taken}
use Rattle.native.specs.Emission.{IsCall, send_tests, send_end, output_tests, output_end, send_sized_tests, send_sized_end, output_sized_tests, output_sized_end}
use Rattle.native.specs.SlotCode.{IsDone}
use Rattle.native.proofs.Runs.{codes-append}
use Rattle.native.proofs.Agreement.{Agrees}
use Rattle.native.proofs.Lengths.{send_few, output_few, send_sized_few, output_sized_few}
use Rattle.native.proofs.Computations.{word_register}
use Rattle.native.proofs.Bodies.{Performs, plain_performs}
use Rattle.native.proofs.Divisions.{div_at, mod_at, sdiv_at, smod_at}
use Rattle.native.proofs.Additions.{sends_by, outputs_by, adds_sent, adds_output, copied_sized, copied_sized_by, copied_64_by}
use Rattle.native.proofs.Sized.{Given, given_at, given_by, out as sized_out, sent as sized_sent, output_done as sized_output_done, send_done as sized_send_done, send_sized_at, output_sized_at}
use Rattle.native.proofs.Helpers.{Adds, Comes, sends, outputs, send_straight, output_straight}
use Rattle.native.proofs.Fixed.{sent, out, send_done, output_done, send_at, output_at}

-- it goes on at the slot behind its own
abbrev pub Falls : SlotTask → Type 0
Falls (task.Branch x w dst b to) = ⊥
Falls (task.Leap to) = ⊥
Falls task.Exit = ⊥
Falls task.Dead = ⊥
Falls t = Unit {0}

-- how long three parts are
three_long : (a b c is : List Instr) → is ≡ a ++ (b ++ c) → length (codes is) ≡ length (codes a) + (length (codes b) + length (codes c))
three_long a b c is e =
    let x = ap (λ l. length (codes l)) e in
    let y = ap length (codes-append a (b ++ c)) ∙ length-append (codes a) (codes (b ++ c)) in
    let z = ap length (codes-append b c) ∙ length-append (codes b) (codes c) in
    omega arith

module _ {who : Who} {saved : List Value} {c : State} {words mem : List ℕ} {e : Emitted} {count : ℕ} (a : Agrees who saved c words mem e count) (code : List ℕ) (p slot : ℕ) (is : List Instr) (at : HasAt code p (codes is)) (l : length mem ≤ 2048) (fits : p + length (codes is) < 2 ^ 64) (small : (r : ℕ) → slice_index words r < 2 ^ 64) where
  -- a register gets a result, and the code comes to its end
  computed : (o : AluOp) (w : Width) (dst : Reg) (b : Operand) → Comes who saved count code p (p + length (codes is)) c (slice_set words dst.number (result_of o w (slice_index words dst.number) (operand_of words b))) mem e → Performs a code p slot (task.Compute o w dst b) is
  computed o w dst b x = record {
    c' = x.c';
    words' = slice_set words dst.number (result_of o w (slice_index words dst.number) (operand_of words b));
    mem' = mem;
    e' = e;
    back = x.back;
    agrees = x.agrees;
    does = (refl, refl, refl, refl);
    whole = refl;
  }

  computes : (o : AluOp) (w : Width) (dst : Reg) (b : Operand) → IsDone (task.Compute o w dst b) is → IsShort b → is_eligible slot (task.Compute o w dst b) ≡ true → Performs a code p slot (task.Compute o w dst b) is
  computes op.Div w dst b j s k =
      let x = and_parts (holds_word dst.number) (is_word b) k in
      computed op.Div w dst b (div_at a code w dst.number (word_register dst.number x.0) b s x.1 is p at fits j)
  computes op.Mod w dst b j s k =
      let x = and_parts (holds_word dst.number) (is_word b) k in
      computed op.Mod w dst b (mod_at a code w dst.number (word_register dst.number x.0) b s x.1 is p at fits j)
  computes op.Sdiv w dst b j s k =
      let x = and_parts (holds_word dst.number) (is_word b) k in
      computed op.Sdiv w dst b (sdiv_at a code w dst.number (word_register dst.number x.0) b s x.1 is p at fits (small dst.number) j)
  computes op.Smod w dst b j s k =
      let x = and_parts (holds_word dst.number) (is_word b) k in
      computed op.Smod w dst b (smod_at a code w dst.number (word_register dst.number x.0) b s x.1 is p at fits (small dst.number) j)
  computes o w dst b j s k = plain_performs a code p slot is at l small (task.Compute o w dst b) tt tt tt j s k

  -- a helper answers, and its code comes to its end
  answers : (t : SlotTask) (x : ℕ × Emitted) → taken t ≡ 1 → task_act who slot words mem e t ≡ Answers x.0 x.1 → Comes who saved count code p (p + length (codes is)) c (slice_set words 0 x.0) mem x.1 → Performs a code p slot t is
  answers t x one f y = record {
    c' = y.c';
    words' = slice_set words 0 x.0;
    mem' = mem;
    e' = x.1;
    back = y.back;
    agrees = y.agrees;
    does = subst (λ z. Does slot words mem e z (To (slot + taken t)) (slice_set words 0 x.0) mem x.1) (sym f) (ap (λ n. To (slot + n)) one, refl, refl, refl);
    whole = refl;
  }

  -- a helper's tests, effect and answers: if they come to its answer, the task is done
  by_call : (t : SlotTask) (x : ℕ × Emitted) (tests : ℕ → List Instr) (good end : List Instr) (k past : ℕ) → taken t ≡ 1 → task_act who slot words mem e t ≡ Answers x.0 x.1 → length (codes is) ≡ k + (length (codes good) + past) → IsCall tests good end is
      → (HasAt code p (codes (tests (length (codes good)) ++ (good ++ end))) → p + k + length (codes good) + past < 2 ^ 64 → Comes who saved count code p (p + k + length (codes good) + past) c (slice_set words 0 x.0) mem x.1) → Performs a code p slot t is
  by_call t x tests good end k past one f n j comes =
      let g = length (codes good) in
      let q : p + k + g + past ≡ p + length (codes is) = omega arith in
      let h : HasAt code p (codes (tests g ++ (good ++ end))) = subst (λ x. HasAt code p (codes x)) j at in
      answers t x one f (subst (λ to. Comes who saved count code p to c (slice_set words 0 x.0) mem x.1) q (comes h (omega arith)))

  -- helper 1, on these bytes
  by_send : (t : SlotTask) (bytes : List ℕ) (straight : List Instr) → taken t ≡ 1 → task_act who slot words mem e t ≡ Answers (sent a bytes straight code).0 (sent a bytes straight code).1 → Adds who saved words mem e count (length e.sends) (record e { sends = e.sends ++ record { dst = slice_index words 1; payload = bytes } ∷ [] }) straight → length (codes (send_done a bytes straight code)) ≤ 80 → IsCall send_tests (send_done a bytes straight code) send_end is → Performs a code p slot t is
  by_send t bytes straight one f adds short j =
      let good = send_done a bytes straight code in
      by_call t (sent a bytes straight code) send_tests good send_end 34 12 one f (three_long (send_tests (length (codes good))) good send_end is j) j (λ h fits. send_at a bytes straight code adds p h short fits)

  -- helper 2
  by_output : (t : SlotTask) (bytes : List ℕ) (straight : List Instr) → taken t ≡ 1 → task_act who slot words mem e t ≡ Answers (out a bytes straight code).0 (out a bytes straight code).1 → Adds who saved words mem e count (length e.outputs) (record e { outputs = e.outputs ++ bytes ∷ [] }) straight → length (codes (output_done a bytes straight code)) ≤ 80 → IsCall output_tests (output_done a bytes straight code) output_end is → Performs a code p slot t is
  by_output t bytes straight one f adds short j =
      let good = output_done a bytes straight code in
      by_call t (out a bytes straight code) output_tests good output_end 10 5 one f (three_long (output_tests (length (codes good))) good output_end is j) j (λ h fits. output_at a bytes straight code adds p h short fits)

  -- helper 5, on what it takes of them
  by_send_sized : (t : SlotTask) (o : Option (List ℕ)) (bytes : List ℕ) (straight : List Instr) → taken t ≡ 1 → task_act who slot words mem e t ≡ Answers (sized_sent a o bytes straight code).0 (sized_sent a o bytes straight code).1 → Given o (slice_index words 3) bytes → (slice_index words 3 ≤ 256 → Adds who saved words mem e count (length e.sends) (record e { sends = e.sends ++ record { dst = slice_index words 1; payload = bytes } ∷ [] }) straight) → length (codes (sized_send_done a o bytes straight code)) ≤ 80 → IsCall send_sized_tests (sized_send_done a o bytes straight code) send_sized_end is → Performs a code p slot t is
  by_send_sized t o bytes straight one f given adds short j =
      let good = sized_send_done a o bytes straight code in
      by_call t (sized_sent a o bytes straight code) send_sized_tests good send_sized_end 43 19 one f (three_long (send_sized_tests (length (codes good))) good send_sized_end is j) j (λ h fits. send_sized_at a o bytes straight code given adds p h short fits)

  -- helper 6
  by_output_sized : (t : SlotTask) (o : Option (List ℕ)) (bytes : List ℕ) (straight : List Instr) → taken t ≡ 1 → task_act who slot words mem e t ≡ Answers (sized_out a o bytes straight code).0 (sized_out a o bytes straight code).1 → Given o (slice_index words 2) bytes → (slice_index words 2 ≤ 256 → Adds who saved words mem e count (length e.outputs) (record e { outputs = e.outputs ++ bytes ∷ [] }) straight) → length (codes (sized_output_done a o bytes straight code)) ≤ 80 → IsCall output_sized_tests (sized_output_done a o bytes straight code) output_sized_end is → Performs a code p slot t is
  by_output_sized t o bytes straight one f given adds short j =
      let good = sized_output_done a o bytes straight code in
      by_call t (sized_out a o bytes straight code) output_sized_tests good output_sized_end 19 12 one f (three_long (output_sized_tests (length (codes good))) good output_sized_end is j) j (λ h fits. output_sized_at a o bytes straight code given adds p h short fits)

  abbrev held : ℕ → ℕ
  held r = slice_index words r

  -- code that does a task performs it
  pub performs : (t : SlotTask) → TaskReaches (length mem) words t → TaskFits t → Falls t → IsDone t is → TaskIsShort t → is_eligible slot t ≡ true → Performs a code p slot t is
  performs (task.Send k) v f on j s fit =
      by_send (task.Send k) (slice_range mem k (k + 64)) (send_straight k) refl refl (λ s b rcx few. sends b l k v rcx few) (send_few k) j
  performs (task.Output k) v f on j s fit =
      by_output (task.Output k) (slice_range mem k (k + 64)) (output_straight k) refl refl (λ s b rcx few. outputs b l k v rcx few) (output_few k) j
  performs (task.SendSized k) v f on j s fit =
      let puts_length = instr.Store size.Double 2 8 9 in
      let counts = instr.Mov W64 1 9 in
      let finds = instr.Lea 6 7 (seen k) in
      by_send_sized (task.SendSized k) (sized_payload (slice_range mem k (k + 256)) (held 3)) (slice_range mem k (k + held 3)) (sends_by puts_length counts finds) refl refl (given_at mem k (held 3))
      (λ most. adds_sent l k (held 3) (omega arith) most puts_length counts finds (λ s b whole place there within r1 r2 full. copied_sized b whole place there within r1 r2 k 3 (held 3) (omega arith) refl most (omega arith) full)) (send_sized_few k) j
  performs (task.OutputSized k) v f on j s fit =
      let puts_length = instr.Store size.Double 2 8 12 in
      let counts = instr.Mov W64 1 12 in
      let finds = instr.Lea 6 7 (seen k) in
      by_output_sized (task.OutputSized k) (sized_payload (slice_range mem k (k + 256)) (held 2)) (slice_range mem k (k + held 2)) (outputs_by puts_length counts finds) refl refl (given_at mem k (held 2))
      (λ most. adds_output l k (held 2) (omega arith) most puts_length counts finds (λ s b whole place there within r1 r2 full. copied_sized b whole place there within r1 r2 k 2 (held 2) (omega arith) refl most (omega arith) full)) (output_sized_few k) j
  performs task.SendBy v f on j s fit =
      let puts_length = instr.StoreImm size.Double 2 8 64 in
      let counts = instr.MovImm 1 64 in
      let finds = instr.LeaBy 6 7 12 (seen 0) in
      by_send task.SendBy (slice_range mem (held 2) (held 2 + 64)) (sends_by puts_length counts finds) refl refl
      (adds_sent l (held 2) 64 v (omega arith) puts_length counts finds (λ s b whole place there within r1 r2 full. copied_64_by b whole place there within r1 r2 2 (omega arith) v full)) (lit≤ tt) j
  performs task.OutputBy v f on j s fit =
      let puts_length = instr.StoreImm size.Double 2 8 64 in
      let counts = instr.MovImm 1 64 in
      let finds = instr.LeaBy 6 7 8 (seen 0) in
      by_output task.OutputBy (slice_range mem (held 1) (held 1 + 64)) (outputs_by puts_length counts finds) refl refl
      (adds_output l (held 1) 64 v (omega arith) puts_length counts finds (λ s b whole place there within r1 r2 full. copied_64_by b whole place there within r1 r2 1 (omega arith) v full)) (lit≤ tt) j
  performs task.SendSizedBy v f on j s fit =
      let puts_length = instr.Store size.Double 2 8 9 in
      let counts = instr.Mov W64 1 9 in
      let finds = instr.LeaBy 6 7 12 (seen 0) in
      by_send_sized task.SendSizedBy (sized_at mem (held 2) (held 3)) (slice_range mem (held 2) (held 2 + held 3)) (sends_by puts_length counts finds) refl refl (given_by mem (held 2) (held 3))
      (λ most. adds_sent l (held 2) (held 3) (omega arith) most puts_length counts finds (λ s b whole place there within r1 r2 full. copied_sized_by b whole place there within r1 r2 2 3 (held 3) (omega arith) (omega arith) refl most (omega arith) full)) (lit≤ tt) j
  performs task.OutputSizedBy v f on j s fit =
      let puts_length = instr.Store size.Double 2 8 12 in
      let counts = instr.Mov W64 1 12 in
      let finds = instr.LeaBy 6 7 8 (seen 0) in
      by_output_sized task.OutputSizedBy (sized_at mem (held 1) (held 2)) (slice_range mem (held 1) (held 1 + held 2)) (outputs_by puts_length counts finds) refl refl (given_by mem (held 1) (held 2))
      (λ most. adds_output l (held 1) (held 2) (omega arith) most puts_length counts finds (λ s b whole place there within r1 r2 full. copied_sized_by b whole place there within r1 r2 1 2 (held 2) (omega arith) (omega arith) refl most (omega arith) full)) (lit≤ tt) j
  performs (task.Branch x w dst b to) v f on j s fit = absurd on
  performs (task.Leap to) v f on j s fit = absurd on
  performs task.Exit v f on j s fit = absurd on
  performs task.Dead v f on j s fit = absurd on
  performs (task.Compute o w dst b) v f on j s fit = computes o w dst b j s fit
  performs t v f on j s fit = plain_performs a code p slot is at l small t v f tt j s fit
