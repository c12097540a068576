-- Calls of form 3, slot by slot.
use Rattle.std.proofs.Common.{◌≡◌, ℕ, ◌+◌, ◌≤◌, pos, true, List, [], Option, Some, None, length, refl, sym, ap, ◌∙◌, subst, arith}
use Rattle.std.specs.Prelude.{slice_index}
use Rattle.decode.specs.declared.insn.Insn.{Insn}
use Rattle.decode.specs.Flow.{flow_of}
use Rattle.decode.specs.Slots.{insn_at}
use Rattle.helpers.specs.declared.effects.Who.{Who}
use Rattle.helpers.specs.Effects.{Emitted}
use Rattle.dense.specs.declared.execution.Next.{Next}
use Rattle.dense.specs.declared.execution.Next.TheVariants as next
use Rattle.dense.specs.Acts.{Act, Does}
use Rattle.dense.specs.SpanActs.{insn_act}
use Rattle.regtypes.specs.declared.frame.Region.TheVariants.{Stack}
use Rattle.regtypes.specs.Rules.{first_broken}
use Rattle.regtypes.specs.Typing.{flow_tests}
use Rattle.verifier.specs.Span.Rules.{frame_pointer_rule}
use Rattle.verifier.proofs.Spans.Forms.{are_typings}
use Rattle.spans.specs.Configuration.{At, Configuration}
use Rattle.spans.specs.Step.{Ends, Fault, Goes, Leaps, Outcome, step}
use Rattle.spans.specs.Concrete.{array_size}
use Rattle.spans.specs.Typing.{IsAllowed, Table}
use Rattle.interp.specs.CallArray.{state_in}
use Rattle.interp.proofs.Entries as entries
use Rattle.interp.proofs.Entries.{message}
use Rattle.interp.proofs.Opened.{entry_shown}
use Rattle.interp.proofs.Progress.{Came, Stands, allowed, answer, ends, goes_on, insn, not_done, stands_first, within}
use Rattle.native.specs.Tasks.{task_act, is_eligible}
use Rattle.native.proofs.Successors.{Call}
use Rattle.native.specs.SpanTasks.{task_in, tasks_in}
use Rattle.native.proofs.Blind.{blind, blind_is, SparesTen, does_blind}
use Rattle.native.proofs.SpanActs.{acts, Lands as JumpsWithin}
use Rattle.native.proofs.Allowed.{eligible}
use Rattle.native.proofs.Spared.{task_spares, reaches, fits_in}
use Rattle.native.proofs.Locked.{Kept, end_word, no_number, step_kept}
use Rattle.native.proofs.SpanTasks.{task_found}

-- what is known as a call begins, with words of which r1, r2, r3 and r10 are the positions of message and state, the
-- message's length, and the end of the array
pub record Begun (slots : List (Option Insn)) (n long : ℕ) (who : Who) (table : Table) (first ws : List ℕ) : Type 0 where
  pub begun : entries.Begun slots n long who table first
  pub few_slots : length slots ≤ 1024
  pub eleven : length ws ≡ 11
  pub message_is : slice_index ws 1 ≡ 0
  pub state_is : slice_index ws 2 ≡ 512
  pub long_is : slice_index ws 3 ≡ long
  pub end_is : slice_index ws 10 ≡ array_size n

module _ {slots : List (Option Insn)} {n long : ℕ} {who : Who} {table : Table} {first opened : List ℕ} (r : Begun slots n long who table first opened) where
  abbrev pub count : ℕ
  count = length slots

  -- the words without r10 at a slot, and what is known there
  pub record Stand (bs mem : List ℕ) (s steps : ℕ) (e : Emitted) : Type 0 where
    pub ws : List ℕ
    pub is : bs ≡ blind ws
    pub stands : Stands r.begun ws mem s steps e
    pub ten : stands.c.cells 10 ≡ Some (At Stack (pos 512))

  -- what a call leaves
  abbrev pub Leaves : List ℕ → List ℕ → ℕ → Emitted → Type 0
  Leaves bs mem steps e = entries.Leaves r.begun mem e (slice_index bs 0) steps

  -- ---- one step of both

  module _ {ws mem : List ℕ} {s steps : ℕ} {e : Emitted} (g : Stands r.begun ws mem s steps e) (ten : g.c.cells 10 ≡ Some (At Stack (pos 512))) where
    abbrev a : IsAllowed n count (insn_at slots) table s g.fits.frame
    a = allowed r.begun g

    abbrev i : Insn
    i = insn r.begun g

    placed : (first_broken (flow_tests slots s (flow_of i)) ≡ None) × (frame_pointer_rule i ≡ None)
    placed = ((are_typings n slots table).0 r.begun.typed).1 s g.fits.frame g.fits.there i a.there

    eligible_here : (is_eligible s (task_in n s i) ≡ true) × JumpsWithin s i
    eligible_here = eligible slots n s r.few_slots g.fits.frame (no_number g.c g.fits.frame g.fits.leq ten) i a.ways placed.0 placed.1 a.leaves

    ends_at : slice_index ws 10 ≡ array_size n
    ends_at = end_word n g.c ws mem g.shows ten r.begun.small

    same : insn_act who s ws mem e i ≡ task_act who s (blind ws) mem e (task_in n s i)
    same = acts who s n ws mem e ends_at i eligible_here.0 eligible_here.1 (within r.begun g)

    spares : SparesTen (insn_act who s ws mem e i)
    spares = subst SparesTen (sym same) (task_spares who s (blind ws) mem e (task_in n s i) eligible_here.0)

    -- what the task does to the words without r10, the instruction does to all
    done : (to : Next) (bs' mem' : List ℕ) (e' : Emitted) → Does s (blind ws) mem e (task_act who s (blind ws) mem e (task_in n s i)) to bs' mem' e' → (ws' : List ℕ) × (bs' ≡ blind ws') × (length ws' ≡ 11) × Does s ws mem e (insn_act who s ws mem e i) to ws' mem' e'
    done to bs' mem' e' d = does_blind (insn_act who s ws mem e i) s ws mem e to bs' mem' e' spares g.eleven (subst (λ (x : Act). Does s (blind ws) mem e x to bs' mem' e') (sym same) d)

    ten_kept : (c : Configuration) (o : Outcome) → Came c o → Kept g.c o → c.cells 10 ≡ Some (At Stack (pos 512))
    ten_kept c (Goes d) is k = ap (λ (x : Configuration). x.cells 10) (sym is) ∙ k ∙ ten
    ten_kept c (Leaps d) is k = ap (λ (x : Configuration). x.cells 10) (sym is) ∙ k ∙ ten
    ten_kept c Ends is k = absurd is
    ten_kept c Fault is k = absurd is

    leaves : (ws' : List ℕ) → blind ws ≡ blind ws' → length ws' ≡ 11 → Does s ws mem e (insn_act who s ws mem e i) next.End ws' mem e → Leaves (blind ws) mem (steps + 1) e
    leaves ws' is l d =
        let r0 : slice_index ws' 0 ≡ slice_index (blind ws) 0 = sym (blind_is ws' 0 (omega arith)) ∙ ap (λ l. slice_index l 0) (sym is) in
        subst (λ z. entries.Leaves r.begun mem e z (steps + 1)) r0 (ends r.begun g ws' mem e l g.whole d)

    -- the slot's task, and what comes of it
    calls_here : Call who (tasks_in slots n count) 2048 count Stand Leaves (blind ws) mem s steps e
    calls_here = record {
      before = a.before;
      left = not_done r.begun g;
      array = g.whole;
      this = task_in n s i;
      there = task_found slots n count s i a.before a.there;
      eligible = eligible_here.0;
      reaches = reaches s n ws ends_at i (within r.begun g);
      fits = fits_in s n i (r.begun.fits s i a.there);
      next = λ to bs' mem' e' d l.
          let x = done (next.To to) bs' mem' e' d in
          let y = goes_on r.begun g x.0 mem' e' x.2 l to x.3 in
          let kept = step_kept n (answer r.begun g) i g.c placed.1 in
          (y.0, record { ws = x.0; is = x.1; stands = y.1.0; ten = ten_kept y.1.0.c (step n (answer r.begun g) i g.c) y.1.1 kept });
      ends = λ d. let x = done next.End (blind ws) mem e d in leaves x.0 x.1 x.2 x.3;
    }

  -- wherever a call stands
  pub calls : (bs mem : List ℕ) (s steps : ℕ) (e : Emitted) → Stand bs mem s steps e → Call who (tasks_in slots n count) 2048 count Stand Leaves bs mem s steps e
  calls bs mem s steps e g = subst (λ b. Call who (tasks_in slots n count) 2048 count Stand Leaves b mem s steps e) (sym g.is) (calls_here g.stands g.ten)

  -- as a call begins
  pub stands : (e : Emitted) → e.sends ≡ [] → e.outputs ≡ [] → Stand (blind opened) first 0 0 e
  stands e x y =
      let small = r.begun.small in
      let shows = entry_shown n long (message r.begun) (state_in n first) first opened (omega (arith, small)) r.begun.holds r.message_is r.state_is r.long_is r.end_is in
      record { ws = opened; is = refl; stands = stands_first r.begun opened e shows r.eleven x y; ten = refl }
