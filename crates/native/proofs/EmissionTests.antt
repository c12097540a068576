-- The tests of the helpers that emit, and the ways on from them.
use Rattle.std.proofs.Common.{◌≡◌, ℕ, ◌+◌, ◌^◌, ◌<◌, Bool, true, false, List, [], ◌∷◌, ◌++◌, length, refl, sym, ap, ◌∙◌, subst, arith, length-append}
use Rattle.std.specs.Prelude.{◌==◌, ◌||◌, not, nat_lt, nat_le, slice_index}
use Rattle.std.proofs.lemmas.Bool.Decides.{nat_tests}
use Rattle.decode.specs.declared.insn.Width.TheVariants.{W64}
use Rattle.decode.specs.declared.insn.Size.TheVariants as size
use Rattle.operations.specs.Bytes.{le_value}
use Rattle.helpers.specs.declared.effects.Who.{Who}
use Rattle.helpers.specs.Effects.{Emitted}
use Rattle.helpers.specs.Helpers.{is_no_peer}
use Rattle.x86.specs.declared.instruction.Alu.TheVariants as alu
use Rattle.x86.specs.declared.instruction.ConditionCode.TheVariants as met
use Rattle.x86.specs.declared.instruction.Instr.{Instr}
use Rattle.x86.specs.declared.instruction.Instr.TheVariants as instr
use Rattle.x86.specs.Machine.{Value, Word, Flags, State, Goes, value, with_word, word_or_stuck, operated, compared, act, HasAt}
use Rattle.native.specs.Code.{gpr, codes}
use Rattle.native.specs.Emission.{peer_tests, room_test, length_test}
use Rattle.native.proofs.Runs.{GoesAll, has_front, has_back, codes-append}
use Rattle.native.proofs.Agreement.{Agrees, after, same, put_rcx, put_flags, reads_word}
use Rattle.native.proofs.Computations.{on_then}
use Rattle.native.proofs.Helpers.{goes_one, Comes, comes_on, comes_short, comes_here, section, moved, le_small, loads_rcx}

-- ---- a word of the record is loaded and compared

module _ {who : Who} {saved : List Value} {c : State} {words mem : List ℕ} {e : Emitted} {count : ℕ} (a : Agrees who saved c words mem e count) where
  -- rcx has a number, and flags are set
  abbrev pub with_rcx : ℕ → Flags → State
  with_rcx n f = record (after c c.flags 1 (Word n)) { flags = f }

  pub rcx_agrees : (n : ℕ) (f : Flags) → Agrees who saved (with_rcx n f) words mem e count
  rcx_agrees n f = put_flags (put_rcx a c.flags (Word n)) f

  rcx_is : (n : ℕ) → value (after c c.flags 1 (Word n)) 1 ≡ Word n
  rcx_is n = same c c.flags 1 (Word n) a.sixteen (omega arith)

  loaded : (at n : ℕ) (i : Instr) (f : Flags) → act (instr.Load size.Double 1 6 at) c ≡ Goes (after c c.flags 1 (Word n)) → act i (after c c.flags 1 (Word n)) ≡ Goes (with_rcx n f) → GoesAll (instr.Load size.Double 1 6 at ∷ i ∷ []) c (with_rcx n f)
  loaded at n i f o1 o2 = on_then (instr.Load size.Double 1 6 at) (i ∷ []) c (after c c.flags 1 (Word n)) (with_rcx n f) o1 (goes_one i (after c c.flags 1 (Word n)) (with_rcx n f) o2)

  room : (at n : ℕ) → act (instr.Load size.Double 1 6 at) c ≡ Goes (after c c.flags 1 (Word n)) → GoesAll (instr.Load size.Double 1 6 at ∷ instr.AluImm alu.Cmp W64 1 8 ∷ []) c (with_rcx n (compared 64 n 8))
  room at n o = loaded at n (instr.AluImm alu.Cmp W64 1 8) (compared 64 n 8) o (ap (λ v. word_or_stuck v (λ a. operated alu.Cmp (after c c.flags 1 (Word n)) W64 1 a 8)) (rcx_is n))

  -- the count of outputs is compared with eight
  pub outputs_compared : GoesAll (instr.Load size.Double 1 6 8 ∷ instr.AluImm alu.Cmp W64 1 8 ∷ []) c (with_rcx (length e.outputs) (compared 64 (length e.outputs) 8))
  outputs_compared = room 8 (length e.outputs) (loads_rcx a 8 (length e.outputs) refl refl refl (ap le_value a.keeps.output ∙ le_small (length e.outputs) a.keeps.few_outputs))

  -- that of messages
  pub sends_compared : GoesAll (instr.Load size.Double 1 6 0 ∷ instr.AluImm alu.Cmp W64 1 8 ∷ []) c (with_rcx (length e.sends) (compared 64 (length e.sends) 8))
  sends_compared = room 0 (length e.sends) (loads_rcx a 0 (length e.sends) refl refl refl (ap le_value a.keeps.sent ∙ le_small (length e.sends) a.keeps.few_sends))

  -- a destination is compared with the own number
  pub me_compared : GoesAll (instr.Load size.Double 1 6 24 ∷ instr.Alu alu.Cmp W64 8 1 ∷ []) c (with_rcx who.me (compared 64 (slice_index words 1) who.me))
  me_compared =
      let n = who.me in
      let c1 = after c c.flags 1 (Word n) in
      loaded 24 n (instr.Alu alu.Cmp W64 8 1) (compared 64 (slice_index words 1) n) (loads_rcx a 24 n refl refl refl a.keeps.me)
      (reads_word (put_rcx a c.flags (Word n)) 1 (λ x. with_word c1 1 (λ y. operated alu.Cmp c1 W64 8 x y)) (omega arith)
      ∙ ap (λ v. word_or_stuck v (λ y. operated alu.Cmp c1 W64 8 (slice_index words 1) y)) (rcx_is n))

  -- the count of processes is compared with a destination
  pub count_compared : GoesAll (instr.Load size.Double 1 6 40 ∷ instr.Alu alu.Cmp W64 1 8 ∷ []) c (with_rcx who.count (compared 64 who.count (slice_index words 1)))
  count_compared =
      let n = who.count in
      let c1 = after c c.flags 1 (Word n) in
      loaded 40 n (instr.Alu alu.Cmp W64 1 8) (compared 64 n (slice_index words 1)) (loads_rcx a 40 n refl refl refl a.keeps.count)
      (ap (λ v. word_or_stuck v (λ x. with_word c1 8 (λ y. operated alu.Cmp c1 W64 1 x y))) (rcx_is n)
      ∙ reads_word (put_rcx a c.flags (Word n)) 1 (λ y. operated alu.Cmp c1 W64 1 n y) (omega arith))

-- ---- where the parts stand, and the way through the effect

-- tests, an effect and answers, one behind another
pub record Stands (code : List ℕ) (p : ℕ) (tests good ends : List Instr) : Type 0 where
  pub tests_at : HasAt code p (codes tests)
  pub good_at : HasAt code (p + length (codes tests)) (codes good)
  pub ends_at : HasAt code (p + length (codes tests) + length (codes good)) (codes ends)

pub stands : (code : List ℕ) (p : ℕ) (tests good ends : List Instr) → HasAt code p (codes (tests ++ (good ++ ends))) → Stands code p tests good ends
stands code p tests good ends h =
    let h0 : HasAt code p (codes tests ++ (codes good ++ codes ends)) = subst (HasAt code p) (codes-append tests (good ++ ends) ∙ ap (λ l. codes tests ++ l) (codes-append good ends)) h in
    let h1 = has_back code p (codes tests) (codes good ++ codes ends) h0 in
    record {
      tests_at = has_front code p (codes tests) (codes good ++ codes ends) h0;
      good_at = has_front code (p + length (codes tests)) (codes good) (codes ends) h1;
      ends_at = has_back code (p + length (codes tests)) (codes good) (codes ends) h1;
    }

-- the effect is done, and its jump goes past the answers
pub done : {who : Who} {saved : List Value} {words mem : List ℕ} {e : Emitted} {count : ℕ} (code : List ℕ) (straight : List Instr) (k p to : ℕ) (s : State) → HasAt code p (codes (straight ++ instr.JumpShort k ∷ []))
    → (c' : State) × GoesAll straight s c' × Agrees who saved c' words mem e count → k < 128 → p + length (codes (straight ++ instr.JumpShort k ∷ [])) + k ≡ to → to < 2 ^ 64 → Comes who saved count code p to s words mem e
done code straight k p to s h x short is fits =
    let j = instr.JumpShort k in
    let q = p + length (codes straight) in
    let hs : HasAt code p (codes straight ++ codes (j ∷ [])) = subst (HasAt code p) (codes-append straight (j ∷ [])) h in
    let size_is : length (codes (straight ++ j ∷ [])) ≡ length (codes straight) + 2 = ap length (codes-append straight (j ∷ [])) ∙ length-append (codes straight) (codes (j ∷ [])) in
    comes_on straight p q to s x.0 (has_front code p (codes straight) (codes (j ∷ [])) hs) x.1 refl
    (comes_short q k to to x.0 (has_back code p (codes straight) (codes (j ∷ [])) hs) short (omega arith) fits (comes_here to x.0 x.2))

-- ---- whether a test holds

is_true : (b : Bool) → not b ≡ false → b ≡ true
is_true true h = refl
is_true false h = cc

is_false : (b : Bool) → not b ≡ true → b ≡ false
is_false true h = cc
is_false false h = refl

module _ {who : Who} {saved : List Value} {words mem : List ℕ} {e : Emitted} {count : ℕ} {words' mem' : List ℕ} {e' : Emitted} (code : List ℕ) (to : ℕ) where
  -- a count of effects below eight leaves room
  pub by_room : (is : List Instr) (p d full next n : ℕ) {c : State} (a : Agrees who saved c words mem e count) → HasAt code p (codes (is ++ instr.JumpIfShort met.AboveEqual d ∷ [])) → GoesAll is c (with_rcx a n (compared 64 n 8)) → d < 128 → p + length (codes is) + 2 ≡ next → next + d ≡ full → full < 2 ^ 64
      → ((s : State) → Agrees who saved s words mem e count → nat_lt n 8 ≡ false → Comes who saved count code full to s words' mem' e')
      → ((s : State) → Agrees who saved s words mem e count → value s 1 ≡ Word n → nat_lt n 8 ≡ true → Comes who saved count code next to s words' mem' e') → Comes who saved count code p to c words' mem' e'
  by_room is p d full next n {c} a h goes short here there fits on_full on_free =
      let f = compared 64 n 8 in
      section is met.AboveEqual p d full next to (not (nat_lt n 8)) c (with_rcx a n f) h goes refl short here there fits
      (λ t. on_full (with_rcx a n f) (rcx_agrees a n f) (is_false (nat_lt n 8) t))
      (λ t. on_free (with_rcx a n f) (rcx_agrees a n f) (rcx_is a n) (is_true (nat_lt n 8) t))

  -- a length in a register may be at most 256
  pub by_length : (i p d long next : ℕ) {c : State} (a : Agrees who saved c words mem e count) → i < 10 → HasAt code p (codes (length_test (gpr i) d)) → d < 128 → p + length (codes (instr.AluImm alu.Cmp W64 (gpr i) 256 ∷ [])) + 2 ≡ next → next + d ≡ long → long < 2 ^ 64
      → ((s : State) → Agrees who saved s words mem e count → nat_le (slice_index words i) 256 ≡ false → Comes who saved count code long to s words' mem' e')
      → ((s : State) → Agrees who saved s words mem e count → value s 1 ≡ value c 1 → nat_le (slice_index words i) 256 ≡ true → Comes who saved count code next to s words' mem' e') → Comes who saved count code p to c words' mem' e'
  by_length i p d long next {c} a low h short here there fits on_long on_short =
      let n = slice_index words i in
      let f = compared 64 n 256 in
      let c1 : State = record c { flags = f } in
      let cmp = instr.AluImm alu.Cmp W64 (gpr i) 256 in
      let o : act cmp c ≡ Goes c1 = reads_word a i (λ x. operated alu.Cmp c W64 (gpr i) x 256) low in
      let same_test : not (nat_lt n 256 || (n == 256)) ≡ not (nat_le n 256) = grind (arith, nat_tests) in
      section (cmp ∷ []) met.Above p d long next to (not (nat_lt n 256 || (n == 256))) c c1 h (goes_one cmp c c1 o) refl short here there fits
      (λ t. on_long c1 (put_flags a f) (is_false (nat_le n 256) (sym same_test ∙ t)))
      (λ t. on_short c1 (put_flags a f) refl (is_true (nat_le n 256) (sym same_test ∙ t)))

  -- a destination has to be a peer, and there has to be room for a message
  module _ (p b1 b2 b3 b4 bad full : ℕ) (h : HasAt code p (codes (peer_tests b1 b2 b3 ++ room_test 0 b4))) (t1 : p + 6 + b1 ≡ bad) (t2 : p + 15 + b2 ≡ bad) (t3 : p + 24 + b3 ≡ bad) (t4 : p + 34 + b4 ≡ full) (short : b1 < 128) (near : b4 < 128) (bad_fits : bad < 2 ^ 64) (full_fits : full < 2 ^ 64)
      (on_bad : (s : State) → Agrees who saved s words mem e count → is_no_peer who (slice_index words 1) ≡ true → Comes who saved count code bad to s words' mem' e')
      (on_full : (s : State) → Agrees who saved s words mem e count → is_no_peer who (slice_index words 1) ≡ false → nat_lt (length e.sends) 8 ≡ false → Comes who saved count code full to s words' mem' e')
      (on_free : (s : State) → Agrees who saved s words mem e count → is_no_peer who (slice_index words 1) ≡ false → value s 1 ≡ Word (length e.sends) → nat_lt (length e.sends) 8 ≡ true → Comes who saved count code (p + 34) to s words' mem' e') where
    abbrev dst : ℕ
    dst = slice_index words 1

    peer_is : (x y z : Bool) → nat_lt dst 1 ≡ x → nat_lt who.count dst ≡ y → (dst == who.me) ≡ z → is_no_peer who dst ≡ (x || (y || z))
    peer_is x y z f g k = ap (λ b. b || (nat_lt who.count dst || (dst == who.me))) f ∙ ap (λ b. x || (b || (dst == who.me))) g ∙ ap (λ b. x || (y || b)) k

    abbrev is1 : List Instr
    is1 = instr.AluImm alu.Cmp W64 8 1 ∷ []

    abbrev is2 : List Instr
    is2 = instr.Load size.Double 1 6 40 ∷ instr.Alu alu.Cmp W64 1 8 ∷ []

    abbrev is3 : List Instr
    is3 = instr.Load size.Double 1 6 24 ∷ instr.Alu alu.Cmp W64 8 1 ∷ []

    abbrev is4 : List Instr
    is4 = instr.Load size.Double 1 6 0 ∷ instr.AluImm alu.Cmp W64 1 8 ∷ []

    abbrev test1 : List Instr
    test1 = is1 ++ instr.JumpIfShort met.Below b1 ∷ []

    abbrev test2 : List Instr
    test2 = is2 ++ instr.JumpIfShort met.Below b2 ∷ []

    abbrev test3 : List Instr
    test3 = is3 ++ instr.JumpIfShort met.Equal b3 ∷ []

    from2 : HasAt code (p + 6) (codes (test2 ++ (test3 ++ room_test 0 b4)))
    from2 = has_back code p (codes test1) (codes (test2 ++ (test3 ++ room_test 0 b4))) h

    from3 : HasAt code (p + 15) (codes (test3 ++ room_test 0 b4))
    from3 =
        let q : p + 6 + 9 ≡ p + 15 = omega arith in
        moved code (codes (test3 ++ room_test 0 b4)) (p + 6 + 9) (p + 15) q (has_back code (p + 6) (codes test2) (codes (test3 ++ room_test 0 b4)) from2)

    from4 : HasAt code (p + 24) (codes (room_test 0 b4))
    from4 =
        let q : p + 15 + 9 ≡ p + 24 = omega arith in
        moved code (codes (room_test 0 b4)) (p + 15 + 9) (p + 24) q (has_back code (p + 15) (codes test3) (codes (room_test 0 b4)) from3)

    third : (s : State) → Agrees who saved s words mem e count → nat_lt dst 1 ≡ false → nat_lt who.count dst ≡ false → Comes who saved count code (p + 15) to s words' mem' e'
    third s b x y =
        let f = compared 64 dst who.me in
        let s1 = with_rcx b who.me f in
        let k = rcx_agrees b who.me f in
        section is3 met.Equal (p + 15) b3 bad (p + 24) to (dst == who.me) s s1 (has_front code (p + 15) (codes test3) (codes (room_test 0 b4)) from3) (me_compared b) refl (omega arith) (omega arith) t3 bad_fits
        (λ t. on_bad s1 k (peer_is false false true x y t))
        (λ t. let peer = peer_is false false false x y t in
        by_room is4 (p + 24) b4 full (p + 34) (length e.sends) k from4 (sends_compared k) near (omega arith) t4 full_fits (λ s2 g. on_full s2 g peer) (λ s2 g. on_free s2 g peer))

    second : (s : State) → Agrees who saved s words mem e count → nat_lt dst 1 ≡ false → Comes who saved count code (p + 6) to s words' mem' e'
    second s b x =
        let f = compared 64 who.count dst in
        let s1 = with_rcx b who.count f in
        let k = rcx_agrees b who.count f in
        section is2 met.Below (p + 6) b2 bad (p + 15) to (nat_lt who.count dst) s s1 (has_front code (p + 6) (codes test2) (codes (test3 ++ room_test 0 b4)) from2) (count_compared b) refl (omega arith) (omega arith) t2 bad_fits
        (λ t. on_bad s1 k (peer_is false true (dst == who.me) x t refl))
        (λ t. third s1 k x t)

    pub by_peer : {c : State} → Agrees who saved c words mem e count → Comes who saved count code p to c words' mem' e'
    by_peer {c} a =
        let f = compared 64 dst 1 in
        let c1 : State = record c { flags = f } in
        let o : act (instr.AluImm alu.Cmp W64 8 1) c ≡ Goes c1 = reads_word a 1 (λ x. operated alu.Cmp c W64 8 x 1) (omega arith) in
        section is1 met.Below p b1 bad (p + 6) to (nat_lt dst 1) c c1 (has_front code p (codes test1) (codes (test2 ++ (test3 ++ room_test 0 b4))) h) (goes_one (instr.AluImm alu.Cmp W64 8 1) c c1 o) refl short (omega arith) t1 bad_fits
        (λ t. on_bad c1 (put_flags a f) (peer_is true (nat_lt who.count dst) (dst == who.me) t refl refl))
        (λ t. second c1 (put_flags a f) t)
