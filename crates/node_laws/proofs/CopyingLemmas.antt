-- The handler that has the first byte of a message as its state is typable
use Rattle.std.proofs.Common.{◌≡◌, ℕ, zero, suc, ◌+◌, ◌≤◌, List, [], ◌∷◌, length, refl, subst, arith}
use Rattle.std.specs.Prelude.{Option, Some, None, pos}
use Rattle.std.specs.List.{AllByRecursion}
use Rattle.limits.specs.declared.TheConstants.{PAYLOAD_BYTES, REGISTERS}
use Rattle.decode.specs.declared.insn.Reg.{Reg}
use Rattle.decode.specs.declared.insn.Size.TheVariants.{Byte}
use Rattle.decode.specs.declared.insn.Insn.{Insn}
use Rattle.decode.specs.declared.insn.Insn.TheVariants.{Load, StoreReg, Exit}
use Rattle.decode.specs.Slots.{slots_of, insn_at}
use Rattle.regtypes.specs.declared.image_form.ImageForm.TheVariants as two
use Rattle.regtypes.specs.declared.frame.Frame.{Frame}
use Rattle.regtypes.specs.Frame.{entry_frame}
use Rattle.regtypes.specs.Ways.{next}
use Rattle.regtypes.specs.Exits.{exits}
use Rattle.regtypes.specs.Typing.{Table, frame_at, broken, Enters, IsTyping}
use Rattle.regtypes.proofs.Monotone.{Leq-refl}
use Rattle.verifier.specs.declared.any_image.AnyImage.TheVariants.{Flat}
use Rattle.verifier.proofs.LeastTypings.{are_typings}
use Rattle.node_laws.specs.Worked.{copies, CopyingLoads}

abbrev pub r0 : Reg
r0 = record { number = 0; in_range = omega arith }

abbrev pub r1 : Reg
r1 = record { number = 1; in_range = omega arith }

abbrev pub r2 : Reg
r2 = record { number = 2; in_range = omega arith }

abbrev i0 : Insn
i0 = Load Byte r0 r1 (pos 0)

abbrev i1 : Insn
i1 = StoreReg Byte r2 r0 (pos 0)

abbrev slots : List (Option Insn)
slots = slots_of (copies r0 r1 r2)

-- what is known at each of the three slots
abbrev f0 : Frame
f0 = entry_frame two.Sbi1

abbrev f1 : Frame
f1 = next i0 f0

abbrev f2 : Frame
f2 = next i1 f1

abbrev table : Table
table = Some f0 ∷ Some f1 ∷ Some f2 ∷ []

by-slot : (P : ℕ → Frame → Type 0) → P 0 f0 → P 1 f1 → P 2 f2 → (s : ℕ) (g : Frame) → frame_at table s ≡ Some g → P s g
by-slot P a b c zero g e = let same : f0 ≡ g = cc in subst (P 0) same a
by-slot P a b c (suc zero) g e = let same : f1 ≡ g = cc in subst (P 1) same b
by-slot P a b c (suc (suc zero)) g e = let same : f2 ≡ g = cc in subst (P 2) same c
by-slot P a b c (suc (suc (suc s))) g e = absurd (cc)

-- of the instruction that is there
of-insn : (P : Insn → Type 0) (j : Insn) → P j → (i : Insn) → Some j ≡ Some i → P i
of-insn P j p i e = let same : j ≡ i = cc in subst P same p

abbrev Keeps : ℕ → Frame → Type 0
Keeps s g = (i : Insn) → insn_at slots s ≡ Some i → broken two.Sbi1 slots 1 s i g ≡ None

abbrev Leads : ℕ → Frame → Type 0
Leads s g = (i : Insn) → insn_at slots s ≡ Some i → AllByRecursion (Enters table) (exits s i g)

typing : IsTyping two.Sbi1 slots 1 table
typing =
    let K : ℕ → Frame → Insn → Type 0 = λ s g i. broken two.Sbi1 slots 1 s i g ≡ None in
    let L : ℕ → Frame → Insn → Type 0 = λ s g i. AllByRecursion (Enters table) (exits s i g) in
    let keeps = by-slot Keeps (of-insn (K 0 f0) i0 refl) (of-insn (K 1 f1) i1 refl) (of-insn (K 2 f2) Exit refl) in
    let leads = by-slot Leads (of-insn (L 0 f0) i0 ((1, f1, refl, refl, Leq-refl f1), tt)) (of-insn (L 1 f1) i1 ((2, f2, refl, refl, Leq-refl f2), tt)) (of-insn (L 2 f2) Exit tt) in
    record {
      start = (0, f0, refl, refl, Leq-refl f0);
      whole = by-slot (λ s g. length g.kinds ≡ REGISTERS) refl refl refl;
      short = by-slot (λ s g. g.low ≤ PAYLOAD_BYTES) (omega arith) (omega arith) (omega arith);
      begins = by-slot (λ s g. (i : Insn) × (insn_at slots s ≡ Some i)) (i0, refl) (i1, refl) (Exit, refl);
      keeps = λ s g i below e is. keeps s g e i is;
      leads = λ s g i below e is. leads s g e i is;
    }

pub copying-loads : CopyingLoads
copying-loads =
    let image = Flat (record { form = two.Sbi1; code = copies r0 r1 r2; slots = slots; table = table; len = 1; low = PAYLOAD_BYTES + 1 }) in
    (image, (record { r0 = r0; r1 = r1; r2 = r2; numbers = (refl, refl, refl); is_image = record { form_is = refl; code_is = refl; len_is = refl } }, (table, (are_typings two.Sbi1 slots 1 table).1 typing)))
