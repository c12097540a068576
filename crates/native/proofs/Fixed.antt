-- The code of helpers 1 and 2, whose payload has 64 bytes.
use Rattle.std.proofs.Common.{◌≡◌, ℕ, ◌+◌, ◌^◌, ◌<◌, ◌≤◌, Bool, true, false, cond, List, [], ◌∷◌, ◌++◌, length, Some, refl, sym, ap, ◌∙◌, subst, arith}
use Rattle.std.specs.Prelude.{nat_lt, slice_set, slice_index}
use Rattle.std.proofs.lemmas.Bool.Decides.{nat_tests}
use Rattle.decode.specs.declared.insn.Width.TheVariants.{W64}
use Rattle.decode.specs.declared.insn.Size.TheVariants as size
use Rattle.helpers.specs.declared.effects.Who.{Who}
use Rattle.helpers.specs.Effects.{Emitted}
use Rattle.helpers.specs.Helpers.{is_no_peer, send, output}
use Rattle.x86.specs.declared.instruction.Alu.TheVariants as alu
use Rattle.x86.specs.declared.instruction.Instr.{Instr}
use Rattle.x86.specs.declared.instruction.Instr.TheVariants as instr
use Rattle.x86.specs.Machine.{Value, Word, State, value, HasAt}
use Rattle.native.specs.Code.{codes}
use Rattle.native.specs.Emission.{send_tests, send_end, output_tests, output_end}
use Rattle.native.proofs.Runs.{has_front, has_back}
use Rattle.native.proofs.Agreement.{Agrees}
use Rattle.native.proofs.Helpers.{Adds, Comes, moved, answers_at, answers_far}
use Rattle.native.proofs.EmissionTests.{outputs_compared, Stands, stands, done, by_room, by_peer}

module _ {who : Who} {saved : List Value} {c : State} {words mem : List ℕ} {e : Emitted} {count : ℕ} (a : Agrees who saved c words mem e count) (bytes64 : List ℕ) (straight : List Instr) (code : List ℕ) where
  -- ---- output

  abbrev pub out : ℕ × Emitted
  out = output (Some bytes64) e

  abbrev more_e : Emitted
  more_e = record e { outputs = e.outputs ++ bytes64 ∷ [] }

  out_is : (w : Bool) → nat_lt (length e.outputs) 8 ≡ w → out ≡ cond w (0, more_e) (2, e)
  out_is w f = ap (λ b. cond b (0, more_e) (2, e)) f

  -- what is done where there is room
  abbrev pub output_done : List Instr
  output_done = straight ++ instr.JumpShort 5 ∷ []

  abbrev output_size : ℕ
  output_size = length (codes output_done)

  -- the code of helper 2 answers as the helper does
  pub output_at : Adds who saved words mem e count (length e.outputs) more_e straight → (p : ℕ) → HasAt code p (codes (output_tests output_size ++ (output_done ++ output_end))) → output_size ≤ 80 → p + 10 + output_size + 5 < 2 ^ 64 → Comes who saved count code p (p + 10 + output_size + 5) c (slice_set words 0 out.0) mem out.1
  output_at adds p h short fits =
      let g = output_size in
      let to = p + 10 + g + 5 in
      let n = length e.outputs in
      let parts = stands code p (output_tests g) output_done output_end h in
      by_room code to (instr.Load size.Double 1 6 8 ∷ instr.AluImm alu.Cmp W64 1 8 ∷ []) p g (p + 10 + g) (p + 10) n a parts.tests_at (outputs_compared a) (omega arith) (omega arith) refl (omega arith)
      (λ s b t. subst (λ y. Comes who saved count code (p + 10 + g) to s (slice_set words 0 y.0) mem y.1) (sym (out_is false t)) (answers_at b code (p + 10 + g) to 2 parts.ends_at refl refl))
      (λ s b rcx t.
      let few : n < 8 = grind (arith, nat_tests) in
      subst (λ y. Comes who saved count code (p + 10) to s (slice_set words 0 y.0) mem y.1) (sym (out_is true t)) (done code straight 5 (p + 10) to s parts.good_at (adds s b rcx few) (omega arith) refl fits))

  -- ---- send

  abbrev dst : ℕ
  dst = slice_index words 1

  abbrev pub sent : ℕ × Emitted
  sent = send who dst (Some bytes64) e

  abbrev sent_e : Emitted
  sent_e = record e { sends = e.sends ++ record { dst = dst; payload = bytes64 } ∷ [] }

  -- the answer, by the tests
  sent_is : (x w : Bool) → is_no_peer who dst ≡ x → nat_lt (length e.sends) 8 ≡ w → sent ≡ cond x (1, e) (cond w (0, sent_e) (2, e))
  sent_is x w f k =
      ap (λ b. cond b (1, e) (cond (nat_lt (length e.sends) 8) (0, sent_e) (2, e))) f
      ∙ ap (λ b. cond x (1, e) (cond b (0, sent_e) (2, e))) k

  -- what is done where dst is a peer and there is room
  abbrev pub send_done : List Instr
  send_done = straight ++ instr.JumpShort 12 ∷ []

  abbrev send_size : ℕ
  send_size = length (codes send_done)

  module _ (adds : Adds who saved words mem e count (length e.sends) sent_e straight) (p : ℕ) (h : HasAt code p (codes (send_tests send_size ++ (send_done ++ send_end)))) (short : send_size ≤ 80) (fits : p + 34 + send_size + 12 < 2 ^ 64) where
    abbrev to : ℕ
    to = p + 34 + send_size + 12

    abbrev From : ℕ → State → Type 0
    From q s = Comes who saved count code q to s (slice_set words 0 sent.0) mem sent.1

    parts : Stands code p (send_tests send_size) send_done send_end
    parts = stands code p (send_tests send_size) send_done send_end h

    abbrev way1 : List Instr
    way1 = instr.MovImm 0 1 ∷ instr.JumpShort 5 ∷ []

    abbrev way2 : List Instr
    way2 = instr.MovImm 0 2 ∷ []

    -- no peer
    bad : (s : State) → Agrees who saved s words mem e count → is_no_peer who dst ≡ true → From (p + 34 + send_size) s
    bad s b x =
        subst (λ y. Comes who saved count code (p + 34 + send_size) to s (slice_set words 0 y.0) mem y.1) (sym (sent_is true (nat_lt (length e.sends) 8) x refl))
        (answers_far b code (p + 34 + send_size) to 1 5 (has_front code (p + 34 + send_size) (codes way1) (codes way2) parts.ends_at) refl (omega arith) (omega arith) fits)

    -- no room
    full : (s : State) → Agrees who saved s words mem e count → is_no_peer who dst ≡ false → nat_lt (length e.sends) 8 ≡ false → From (p + 41 + send_size) s
    full s b x w =
        let q : p + 34 + send_size + 7 ≡ p + 41 + send_size = omega arith in
        subst (λ y. Comes who saved count code (p + 41 + send_size) to s (slice_set words 0 y.0) mem y.1) (sym (sent_is false false x w))
        (answers_at b code (p + 41 + send_size) to 2 (moved code (codes way2) (p + 34 + send_size + 7) (p + 41 + send_size) q (has_back code (p + 34 + send_size) (codes way1) (codes way2) parts.ends_at)) refl (omega arith))

    -- it is sent
    good : (s : State) → Agrees who saved s words mem e count → is_no_peer who dst ≡ false → value s 1 ≡ Word (length e.sends) → nat_lt (length e.sends) 8 ≡ true → From (p + 34) s
    good s b x rcx w =
        let few : length e.sends < 8 = grind (arith, nat_tests) in
        subst (λ y. Comes who saved count code (p + 34) to s (slice_set words 0 y.0) mem y.1) (sym (sent_is false true x w))
        (done code straight 12 (p + 34) to s parts.good_at (adds s b rcx few) (omega arith) refl fits)

    -- the code of helper 1 answers as the helper does
    pub send_at : From p c
    send_at =
        by_peer code to p (send_size + 28) (send_size + 19) (send_size + 10) (send_size + 7) (p + 34 + send_size) (p + 41 + send_size) parts.tests_at (omega arith) (omega arith) (omega arith) (omega arith) (omega arith) (omega arith) (omega arith) (omega arith) bad full good a
