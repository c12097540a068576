-- Forms 1 and 2 keep the laws that make one pass decide, and what a slot does to their least typing.
use Rattle.std.proofs.Common.{◌≡◌, ◌≢◌, ℕ, zero, suc, ◌+◌, ◌<◌, ◌≤◌, ◌+ℤ◌, true, false, List, [], ◌∷◌, ◌++◌, length, get_or, Option, Some, None, ℤ, pos, refl, sym, ap, ◌∙◌, subst, arith}
use Rattle.std.specs.Prelude.{slice_set, is_some, not, nat_lt}
use Rattle.std.specs.List.{AllByRecursion}
use Rattle.std.specs.Option.{option_and_then, option_or}
use Rattle.std.proofs.lemmas.Bool.{false≢true}
use Rattle.std.proofs.lemmas.Bool.Decides.{nat_tests}
use Rattle.std.proofs.lemmas.List.{get_or-set_same, get_or-set_other, length-set}
use Rattle.decode.specs.declared.insn.Insn.{Insn}
use Rattle.decode.specs.declared.insn.Insn.TheVariants.{Alu, MovSx, Neg, End, Jump, JumpLong, JumpIf, Call, Exit, Load, LoadSx, StoreReg, StoreImm, Wide}
use Rattle.decode.specs.Slots.{Follows, size_of, insn_at}
use Rattle.regtypes.specs.declared.image_form.ImageForm.{ImageForm}
use Rattle.regtypes.specs.declared.image_form.ImageForm.TheVariants.{Sbi1, Sbi2}
use Rattle.regtypes.specs.declared.frame.Frame.{Frame}
use Rattle.decode.specs.declared.flow.Flow.{Flow}
use Rattle.decode.specs.declared.flow.Flow.TheVariants.{Ends, Leaps, Forks, Falls}
use Rattle.regtypes.specs.declared.rule.Rule.{Rule}
use Rattle.decode.specs.Flow.{flow_of}
use Rattle.regtypes.specs.Exits.{exits, exits_by}
use Rattle.regtypes.specs.Frame.{entry_frame, Leq}
use Rattle.regtypes.specs.Rules.{Tests, first_broken, tests_of}
use Rattle.regtypes.specs.Typing.{Table, frame_at, broken, flow_tests}
use Rattle.regtypes.specs.Typing as regtypes
use Rattle.regtypes.specs.Ways.{shown, next, taken}
use Rattle.regtypes.proofs.Parts.{jump_tests}
use Rattle.regtypes.proofs.Typings.{within}
use Rattle.regtypes.proofs.Monotone.{monotone, raised_within, none_holds, first_of_both, both_pass, not_false, Leq-refl, Leq-trans, Leq-antisym}
use Rattle.verifier.specs.Form.{Form, Below, Enters, IsForm}
use Rattle.verifier.specs.Fixpoint.{TypesBelow, IsLeast, StopsAt}
use Rattle.verifier.specs.Least.{AreTypings, EntersAt, MayStand, flat_form}
use Rattle.verifier.specs.Verdict.{IsOneRefusal}
use Rattle.verifier.specs.Inside.Pass.{IsOpening, Merged}
use Rattle.verifier.proofs.Passes as pass

-- ---- frames and tables

-- a slot's frame is the table's entry, and behind its end there is none
pub frame_is : (t : Table) (s : ℕ) → frame_at t s ≡ get_or t s None
frame_is [] s = refl
frame_is (x ∷ t) zero = refl
frame_is (x ∷ t) (suc s) = frame_is t s

same_insn : (i j : Insn) (o : Option Insn) → o ≡ Some i → o ≡ Some j → i ≡ j
same_insn i j o a b = cc

-- a frame that says more enters wherever one that says less does
enters_weaker : (t : ℕ → Option Frame) (z : ℤ) (f g : Frame) → Leq f g → EntersAt t (z, g) → EntersAt t (z, f)
enters_weaker t z f g le h = (h.0, h.1, h.2, h.3, Leq-trans f g h.1 le h.4)

-- frames that say more leave by the same ways
exits_weaker : (t : ℕ → Option Frame) (s : ℕ) (fl : Flow) (n n' k k' : Frame) → Leq n n' → Leq k k' → AllByRecursion (EntersAt t) (exits_by s fl n' k') → AllByRecursion (EntersAt t) (exits_by s fl n k)
exits_weaker t s Ends n n' k k' a b h = tt
exits_weaker t s (Leaps d) n n' k k' a b h = (enters_weaker t (pos (s + 1) +ℤ d) k k' b h.0, tt)
exits_weaker t s (Forks d) n n' k k' a b h = (enters_weaker t (pos (s + 1) +ℤ d) k k' b h.0, (enters_weaker t (pos (s + 1)) n n' a h.1.0, tt))
exits_weaker t s (Falls m) n n' k k' a b h = (enters_weaker t (pos (s + m)) n n' a h.0, tt)

-- ---- what a kept rule says

pub none_both : (ts us : Tests) → first_broken ts ≡ None → first_broken us ≡ None → first_broken (ts ++ us) ≡ None
none_both ts us x y = first_of_both ts us ∙ ap (λ o. option_or o (first_broken us)) x ∙ y

-- a rule that the first tests break is the one that both lists break
pub first_some : (ts us : Tests) (r : Rule) → first_broken ts ≡ Some r → first_broken (ts ++ us) ≡ Some r
first_some ts us r x = first_of_both ts us ∙ ap (λ o. option_or o (first_broken us)) x

-- where the first tests pass, it is the rule that the second ones break
pub second_some : (ts us : Tests) (r : Rule) → first_broken ts ≡ None → first_broken us ≡ Some r → first_broken (ts ++ us) ≡ Some r
second_some ts us r x y = first_of_both ts us ∙ ap (λ o. option_or o (first_broken us)) x ∙ y

-- a frame that says more breaks no more rules
pub kept_below : (form : ImageForm) (slots : List (Option Insn)) (len s : ℕ) (i : Insn) (f g : Frame) → length f.kinds ≡ length g.kinds → Leq f g → broken form slots len s i g ≡ None → (broken form slots len s i f ≡ None) × Leq (next i f) (next i g) × Leq (taken i f) (taken i g)
kept_below form slots len s i f g n le h =
    let k = both_pass (jump_tests slots s i) (tests_of form len i g) h in
    let m = monotone form len i f g n le k.1 in
    (none_both (jump_tests slots s i) (tests_of form len i f) k.0 m.0, m.1, m.2)

-- ---- the form

-- a rule that is broken at a slot is broken by the instruction there
breaks_there : (form : ImageForm) (len : ℕ) (slots : List (Option Insn)) (s : ℕ) (f : Frame) (rule : Rule) (o : Option Insn) → option_and_then (λ (i : Insn). broken form slots len s i f) o ≡ Some rule → (i : Insn) × (o ≡ Some i) × (broken form slots len s i f ≡ Some rule)
breaks_there form len slots s f rule None h = cc
breaks_there form len slots s f rule (Some i) h = (i, refl, h)

module _ (form : ImageForm) (len : ℕ) (slots : List (Option Insn)) where
  abbrev F : Form
  F = flat_form form len slots

  -- what enters a table's frames enters those of a table above
  all_above : (a b : ℕ → Option Frame) (es : List (ℤ × Frame)) → Below F a b → AllByRecursion (EntersAt a) es → AllByRecursion (EntersAt b) es
  all_above a b [] le h = tt
  all_above a b (e ∷ es) le h = let k = le h.0.0 h.0.1 h.0.3 in ((h.0.0, k.0, h.0.2, k.1, Leq-trans e.1 h.0.1 k.0 h.0.4 k.2), all_above a b es le h.1)

  pub flat_laws : IsForm F
  flat_laws = record {
    reflexive = Leq-refl;
    transitive = Leq-trans;
    antisymmetric = λ s f g a b. Leq-antisym f g (a.whole ∙ sym b.whole);
    within = λ s f a. within slots s a.begins.0 a.begins.1;
    above = λ a b s f le h i e. ((h i e).0, all_above a b (exits s i f) le (h i e).1);
    monotone = λ t s f g a b le h i e.
        let k = kept_below form slots len s i f g (a.whole ∙ sym b.whole) le (h i e).0 in
        (k.0, exits_weaker t s (flow_of i) (next i f) (next i g) (taken i f) (taken i g) k.1 k.2 (h i e).1);
    refused = λ t s f rule e h.
        let b = breaks_there form len slots s f rule (insn_at slots s) e in
        let k = (h b.0 b.1).0 in
        let r = b.2 in
        cc;
  }

  at_slot : (t : ℕ → Option Frame) (to : ℕ) (z : ℤ) (f : Frame) → z ≡ pos to → Enters F t to f → EntersAt t (z, f)
  at_slot t to z f at h = (to, h.0, at, h.1, h.2)

  of_slot : (t : ℕ → Option Frame) (to : ℕ) (z : ℤ) (f : Frame) → z ≡ pos to → EntersAt t (z, f) → Enters F t to f
  of_slot t to z f at h = let n : to ≡ h.0 = (let e = h.2 in cc) in (h.1, ap t n ∙ h.3, h.4)

  -- a typing of the form is one of `regtypes`, and a typing of `regtypes` one of the form
  pub typing_of : (n : ℕ) (t : Table) → TypesBelow F n (frame_at t) → regtypes.TypesBelow form slots len n t
  typing_of n t h = record {
    start = at_slot (frame_at t) 0 (pos 0) (entry_frame form) refl h.start;
    whole = λ s g e. (h.stands s g e).whole;
    short = λ s g e. (h.stands s g e).short;
    begins = λ s g e. (h.stands s g e).begins;
    keeps = λ s g i lt e b. (h.allowed s g lt e i b).0;
    leads = λ s g i lt e b. (h.allowed s g lt e i b).1;
  }

  pub of_typing : (n : ℕ) (t : Table) → regtypes.TypesBelow form slots len n t → TypesBelow F n (frame_at t)
  of_typing n t h = record {
    start = of_slot (frame_at t) 0 (pos 0) (entry_frame form) refl h.start;
    stands = λ s g e. record { whole = h.whole s g e; short = h.short s g e; begins = h.begins s g e };
    allowed = λ s g lt e i b. (h.keeps s g i lt e b, h.leads s g i lt e b);
  }

pub are_typings : AreTypings
are_typings form slots len table = (typing_of form len slots (length slots) table, of_typing form len slots (length slots) table)

pub one_refusal : IsOneRefusal
one_refusal form len slots = pass.one_refusal (flat_form form len slots) (flat_laws form len slots)

-- ---- a frame is joined into a slot

-- setting a slot to the least frame that says no more than what it had and what comes merges them
pub merged_set : (old : Table) (to : ℕ) (f h : Frame) → to < length old → length h.kinds ≡ 11 → h.low ≤ 256 → Leq f h → ((g : Frame) → frame_at old to ≡ Some g → Leq g h) → ((k : Frame) → Leq f k → ((g : Frame) → frame_at old to ≡ Some g → Leq g k) → Leq h k) → Merged old to f (slice_set old to (Some h))
merged_set old to f h lt w b c k l = record {
  size = length-set old to (Some h);
  other = λ s ne. frame_is (slice_set old to (Some h)) s ∙ get_or-set_other old to s (Some h) None ne ∙ sym (frame_is old s);
  frame = h;
  there = frame_is (slice_set old to (Some h)) to ∙ get_or-set_same old to (Some h) None lt;
  whole = w;
  short = b;
  covers = c;
  keeps = k;
  least = l;
}

-- ---- one slot

-- on neither way more is known than the longest message's length
pub leaves_short : (i : Insn) (f nx tk : Frame) → f.low ≤ 256 → nx ≡ next i f → tk ≡ taken i f → (nx.low ≤ 256) × (tk.low ≤ 256)
leaves_short i f nx tk h n t =
    (subst (λ (x : Frame). x.low ≤ 256) (sym n) (raised_within f.low (shown false i f.kinds) h), subst (λ (x : Frame). x.low ≤ 256) (sym t) (raised_within f.low (shown true i f.kinds) h))

slot_is : (slots : List (Option Insn)) (s : ℕ) (d : Option Insn) → s < length slots → insn_at slots s ≡ get_or slots s d
slot_is [] s d lt = absurd (omega arith)
slot_is (x ∷ xs) zero d lt = refl
slot_is (x ∷ xs) (suc s) d lt = slot_is xs s d (omega arith)

-- what the list has at a slot of the code is the instruction that begins there
pub insn_is : (slots : List (Option Insn)) (s : ℕ) (d : Option Insn) (o : Option Insn) → s < length slots → get_or slots s d ≡ o → insn_at slots s ≡ o
insn_is slots s d o lt e = slot_is slots s d lt ∙ e

some_of : (o : Option Insn) → is_some o ≡ true → (i : Insn) × (o ≡ Some i)
some_of None h = absurd (false≢true h)
some_of (Some i) h = (i, refl)

-- an instruction begins only at a slot of the code
pub within_some : (slots : List (Option Insn)) (s : ℕ) → is_some (insn_at slots s) ≡ true → s < length slots
within_some slots s h = let k = some_of (insn_at slots s) h in within slots s k.0 k.1

falls_size : (i : Insn) (k : ℕ) → Falls k ≡ flow_of i → k ≡ size_of i
falls_size (Alu op width dst o) k e = cc
falls_size (MovSx extension dst src) k e = cc
falls_size (Neg width dst) k e = cc
falls_size (End order bits dst) k e = cc
falls_size (Jump offset) k e = cc
falls_size (JumpLong distance) k e = cc
falls_size (JumpIf condition width dst o offset) k e = cc
falls_size (Call helper) k e = cc
falls_size Exit k e = cc
falls_size (Load size dst src offset) k e = cc
falls_size (LoadSx size dst src offset) k e = cc
falls_size (StoreReg size dst src offset) k e = cc
falls_size (StoreImm size dst offset imm) k e = cc
falls_size (Wide dst value) k e = cc

size_positive : (i : Insn) → 0 < size_of i
size_positive (Wide dst value) = omega arith
size_positive _ = omega arith

forks_size : (i : Insn) (d : ℤ) → Forks d ≡ flow_of i → 1 ≡ size_of i
forks_size (Alu op width dst o) d e = cc
forks_size (MovSx extension dst src) d e = cc
forks_size (Neg width dst) d e = cc
forks_size (End order bits dst) d e = cc
forks_size (Jump offset) d e = cc
forks_size (JumpLong distance) d e = cc
forks_size (JumpIf condition width dst o offset) d e = refl
forks_size (Call helper) d e = cc
forks_size Exit d e = cc
forks_size (Load size dst src offset) d e = cc
forks_size (LoadSx size dst src offset) d e = cc
forks_size (StoreReg size dst src offset) d e = cc
forks_size (StoreImm size dst offset imm) d e = cc
forks_size (Wide dst value) d e = cc

before_end : (n m : ℕ) → not (nat_lt n m) ≡ false → n < m
before_end n m h = let k = not_false (nat_lt n m) h in grind (arith, nat_tests)

-- joined into the frame of a slot where an instruction begins
merged_is : (form : ImageForm) (len : ℕ) (slots : List (Option Insn)) (old new : Table) (to : ℕ) (f : Frame) → ((i : Insn) × (insn_at slots to ≡ Some i)) → Merged old to f new → pass.Merged (flat_form form len slots) (frame_at old) to f (frame_at new)
merged_is form len slots old new to f b m = record {
  other = m.other;
  frame = m.frame;
  there = m.there;
  stands = λ h. record { whole = m.whole; short = m.short; begins = b };
  covers = m.covers;
  keeps = m.keeps;
  least = m.least;
}

module _ (form : ImageForm) (slots : List (Option Insn)) (len n : ℕ) (old : Table) (f : Frame) (i : Insn) (fl : Flow) (nx tk : Frame) (follows : Follows slots) (l : IsLeast (flat_form form len slots) n (frame_at old)) (there : frame_at old n ≡ Some f) (begin : insn_at slots n ≡ Some i) (flow : fl ≡ flow_of i) where
  abbrev G : Form
  G = flat_form form len slots

  laws : IsForm G
  laws = flat_laws form len slots

  stops : (rule : Rule) → broken form slots len n i f ≡ Some rule → StopsAt G rule n
  stops rule h = record {
    table = frame_at old;
    least = l;
    frame = f;
    there = there;
    breaks = subst (λ o. option_and_then (λ (i : Insn). broken form slots len n i f) o ≡ Some rule) (sym begin) h;
  }

  -- where the instruction of a frame breaks a rule of jumps, the pass stops at its slot
  pub breaks_flow : (rule : Rule) → first_broken (flow_tests slots n fl) ≡ Some rule → StopsAt G rule n
  breaks_flow rule h = stops rule (first_some (jump_tests slots n i) (tests_of form len i f) rule (subst (λ x. first_broken (flow_tests slots n x) ≡ Some rule) flow h))

  module _ (kept : first_broken (flow_tests slots n fl) ≡ None) where
    kept' : first_broken (jump_tests slots n i) ≡ None
    kept' = subst (λ x. first_broken (flow_tests slots n x) ≡ None) flow kept

    -- and where it breaks a local rule
    pub breaks_local : (rule : Rule) → first_broken (tests_of form len i f) ≡ Some rule → StopsAt G rule n
    breaks_local rule h = stops rule (second_some (jump_tests slots n i) (tests_of form len i f) rule kept' h)

    module _ (local : first_broken (tests_of form len i f) ≡ None) (next_is : nx ≡ next i f) (taken_is : tk ≡ taken i f) where
      abbrev All : Flow → (ℕ → Option Frame) → Type 0
      All x t = AllByRecursion (EntersAt t) (exits_by n x nx tk)

      leaving : exits_by n fl nx tk ≡ exits n i f
      leaving = λ j. exits_by n (flow j) (next_is j) (taken_is j)

      -- what leaves was joined into later slots, so that all of it fits
      step_by : (x : Flow) (Fits : (ℕ → Option Frame) → Type 0) (new : Table) → fl ≡ x → ((t : ℕ → Option Frame) → Fits t → All x t) → ((t : ℕ → Option Frame) → All x t → Fits t) → pass.Led G n Fits (frame_at old) (frame_at new) → IsLeast G (n + 1) (frame_at new)
      step_by x Fits new e allow fit led =
          let to = λ (t : ℕ → Option Frame) (h : All x t). subst (AllByRecursion (EntersAt t)) leaving (subst (λ y. All y t) (sym e) h) in
          let from = λ (t : ℕ → Option Frame) (h : AllByRecursion (EntersAt t) (exits n i f)). subst (λ y. All y t) e (subst (AllByRecursion (EntersAt t)) (sym leaving) h) in
          let unbroken = none_both (jump_tests slots n i) (tests_of form len i f) kept' local in
          let allowed = λ (t : ℕ → Option Frame) (h : Fits t) (j : Insn) (b : insn_at slots n ≡ Some j). subst (λ y. (broken form slots len n y f ≡ None) × AllByRecursion (EntersAt t) (exits n y f)) (same_insn i j (insn_at slots n) begin b) (unbroken, to t (allow t h)) in
          pass.least_step G laws n Fits (frame_at old) (frame_at new) f l there allowed (λ t a. fit t (from t (a i begin).1)) led

      -- the table is least for one slot more: behind an instruction that ends, as it is
      pub step_ends : fl ≡ Ends → IsLeast G (n + 1) (frame_at old)
      step_ends e = step_by Ends (λ t. Unit {0}) old e (λ t h. tt) (λ t h. tt) (pass.led_none G laws n (frame_at old))

      -- one frame was merged at a later slot
      step_one : (x : Flow) (z : ℤ) (to : ℕ) (g : Frame) (new : Table) → fl ≡ x → exits_by n x nx tk ≡ (z, g) ∷ [] → z ≡ pos to → n < to → ((j : Insn) × (insn_at slots to ≡ Some j)) → Merged old to g new → IsLeast G (n + 1) (frame_at new)
      step_one x z to g new e only at lt b m =
          step_by x (λ t. Unit {0} × Enters G t to g) new e
          (λ t h. subst (AllByRecursion (EntersAt t)) (sym only) (at_slot form len slots t to z g at h.1, tt))
          (λ t h. (tt, of_slot form len slots t to z g at (subst (AllByRecursion (EntersAt t)) only h).0))
          (pass.led_more G laws n (λ t. Unit {0}) (frame_at old) (frame_at old) (frame_at new) to g lt (pass.led_none G laws n (frame_at old)) (merged_is form len slots old new to g b m) (λ a b le h. tt))

      -- behind a jump, with its frame merged at the target
      pub step_leaps : (d : ℤ) (to : ℕ) (new : Table) → fl ≡ Leaps d → pos (n + 1) +ℤ d ≡ pos to → n < to → is_some (insn_at slots to) ≡ true → Merged old to tk new → IsLeast G (n + 1) (frame_at new)
      step_leaps d to new e z lt b m = step_one (Leaps d) (pos (n + 1) +ℤ d) to tk new e refl z lt (some_of (insn_at slots to) b) m

      -- behind most others, with it merged at the slot that follows
      pub step_falls : (k : ℕ) (new : Table) → fl ≡ Falls k → Merged old (n + k) nx new → IsLeast G (n + 1) (frame_at new)
      step_falls k new e m =
          let ks = falls_size i k (sym e ∙ flow) in
          let p = size_positive i in
          let h = none_holds (flow_tests slots n (Falls k)) (subst (λ x. first_broken (flow_tests slots n x) ≡ None) e kept) in
          let b = follows n (n + k) i begin (omega arith) (before_end (n + k) (length slots) h.0) in
          step_one (Falls k) (pos (n + k)) (n + k) nx new e refl refl (omega arith) b m

      -- behind a conditional jump, with a frame merged at each of both
      pub step_forks : (d : ℤ) (to : ℕ) (mid new : Table) → fl ≡ Forks d → pos (n + 1) +ℤ d ≡ pos to → n < to → is_some (insn_at slots to) ≡ true → Merged old (n + 1) nx mid → Merged mid to tk new → IsLeast G (n + 1) (frame_at new)
      step_forks d to mid new e z lt b m m' =
          let ks = forks_size i d (sym e ∙ flow) in
          let h = none_holds (flow_tests slots n (Forks d)) (subst (λ x. first_broken (flow_tests slots n x) ≡ None) e kept) in
          let j = follows n (n + 1) i begin (omega arith) (before_end (n + 1) (length slots) h.1.0) in
          let one = pass.led_more G laws n (λ t. Unit {0}) (frame_at old) (frame_at old) (frame_at mid) (n + 1) nx (omega arith) (pass.led_none G laws n (frame_at old)) (merged_is form len slots old mid (n + 1) nx j m) (λ a b le h. tt) in
          let two = pass.led_more G laws n (λ t. Unit {0} × Enters G t (n + 1) nx) (frame_at old) (frame_at mid) (frame_at new) to tk lt one (merged_is form len slots mid new to tk (some_of (insn_at slots to) b) m') (λ a b le h. (tt, pass.enters_above G laws a b (n + 1) nx le h.1)) in
          step_by (Forks d) (λ t. (Unit {0} × Enters G t (n + 1) nx) × Enters G t to tk) new e
          (λ t h. (at_slot form len slots t to (pos (n + 1) +ℤ d) tk z h.1, (at_slot form len slots t (n + 1) (pos (n + 1)) nx refl h.0.1, tt)))
          (λ t h. ((tt, of_slot form len slots t (n + 1) (pos (n + 1)) nx refl h.1.0), of_slot form len slots t to (pos (n + 1) +ℤ d) tk z h.0))
          two

-- ---- the table at first

frame_past : (t : Table) (s : ℕ) → frame_at (t ++ None ∷ []) s ≡ frame_at t s
frame_past [] zero = refl
frame_past [] (suc s) = refl
frame_past (x ∷ t) zero = refl
frame_past (x ∷ t) (suc s) = frame_past t s

-- the table as the pass begins: the entry's frame at the first slot
pub opening_one : (form : ImageForm) (f : Frame) (table : Table) → f ≡ entry_frame form → table ≡ Some f ∷ [] → IsOpening (entry_frame form) (frame_at table)
opening_one form f table k e = subst (λ t. IsOpening (entry_frame form) (frame_at t)) (sym e) (record { first = ap Some k; none = others })
  where
    others : (s : ℕ) → s ≢ 0 → frame_at (Some f ∷ []) s ≡ None
    others zero n = absurd (n refl)
    others (suc s) n = refl

-- one slot more without a frame
pub opening_more : (form : ImageForm) (old table : Table) → IsOpening (entry_frame form) (frame_at old) → table ≡ old ++ None ∷ [] → IsOpening (entry_frame form) (frame_at table)
opening_more form old table o e = subst (λ t. IsOpening (entry_frame form) (frame_at t)) (sym e) (record { first = frame_past old 0 ∙ o.first; none = λ s n. frame_past old s ∙ o.none s n })

-- before any slot was looked at, the entry's frame alone is the least typing
pub least_first : (form : ImageForm) (len : ℕ) (slots : List (Option Insn)) (table : Table) (i : Insn) → IsOpening (entry_frame form) (frame_at table) → insn_at slots 0 ≡ Some i → IsLeast (flat_form form len slots) 0 (frame_at table)
least_first form len slots table i o b = pass.least_opening (flat_form form len slots) (flat_laws form len slots) (frame_at table) o.first o.none (stands form)
  where
    stands : (form : ImageForm) → MayStand slots 0 (entry_frame form)
    stands Sbi1 = record { whole = refl; short = omega arith; begins = (i, b) }
    stands Sbi2 = record { whole = refl; short = omega arith; begins = (i, b) }
