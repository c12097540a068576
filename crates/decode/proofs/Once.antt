-- The bytes of instructions belong to one list of them only, and no refused bytes are of any.
use Rattle.std.proofs.Common.{◌≡◌, ◌≢◌, ℕ, ◌+◌, ◌*◌, ◌%◌, ◌^◌, ◌<◌, ◌≤◌, Bool, true, false, List, [], ◌∷◌, ◌++◌, length, Option, Some, None, Result, Ok, Err, refl, sym, ap, subst, ◌∙◌, append_assoc, inl, inr, arith}
use Rattle.std.specs.Prelude.{MatchOption, MatchResult, IfOk, IfErr, is_some, slice_get}
use Rattle.std.specs.Option.{option_map_or}
use Rattle.std.specs.Global.{Vec}
use Rattle.std.specs.List.{AllByRecursion, flat_map}
use Rattle.std.specs.Int.{w16, w32, to_le_bytes, from_le_bytes}
use Rattle.std.proofs.lemmas.Nat.{from_le_bytes-to_le_bytes_2, from_le_bytes-to_le_bytes_4}
use Rattle.std.proofs.lemmas.List.{length-append}
use Rattle.std.proofs.lemmas.List.Concat.{flat_map-cons}
use Rattle.std.proofs.Math.Facts.{Fits-of_z}
use Rattle.decode.specs.declared.insn.AluOp.{AluOp}
use Rattle.decode.specs.declared.insn.AluOp.TheVariants as alu
use Rattle.decode.specs.declared.insn.Extension.{Extension}
use Rattle.decode.specs.declared.insn.Extension.TheVariants.{W32From8}
use Rattle.decode.specs.declared.insn.ByteOrder.{ByteOrder}
use Rattle.decode.specs.declared.insn.ByteOrder.TheVariants.{Little, Big, Swap}
use Rattle.decode.specs.declared.insn.SwapBits.{SwapBits}
use Rattle.decode.specs.declared.insn.SwapBits.TheVariants.{Bits16, Bits32, Bits64}
use Rattle.decode.specs.declared.form.OpcodeForm.{OpcodeForm}
use Rattle.decode.specs.declared.form.OpcodeForm.TheVariants as form
use Rattle.decode.specs.declared.insn.Operand.TheVariants as operand
use Rattle.decode.specs.declared.insn.Insn.{Insn}
use Rattle.decode.specs.declared.insn.Insn.TheVariants.{Alu, MovSx, Neg, End, Jump, JumpLong, JumpIf, Call, Load, LoadSx, StoreReg, StoreImm, Wide}
use Rattle.decode.specs.declared.insn.Reg.{Reg}
use Rattle.decode.specs.declared.word.Word.{Word}
use Rattle.decode.specs.declared.fault.EncodingRule.{EncodingRule}
use Rattle.decode.specs.declared.fault.EncodingRule.TheVariants.{Profile, Cut, Width}
use Rattle.decode.specs.declared.fault.DecodeError.{DecodeError}
use Rattle.decode.specs.declared.fault.DecodeError.TheVariants.{Memory, Fault}
use Rattle.decode.specs.Layout.{IsWord, word_bytes}
use Rattle.decode.specs.Encoding.{Fits, alu_offset, extension_offset, swap_imm, encoding, first_word, second_word, insn_bytes}
use Rattle.decode.specs.Inside.Form.{form_at}
use Rattle.decode.specs.First.{IsFirst}
use Rattle.decode.specs.Refusal.{Begins, Breaks, order, IsRefusal}
use Rattle.decode.proofs.Forms.{form_of, is_formed, formed_at, reads_back}

-- ---- one slot

-- bytes begin with one slot only, and have one rest behind it
pub word_once : (w v : Word) (a b : List ℕ) → IsWord w → IsWord v → word_bytes w ++ a ≡ word_bytes v ++ b → (w ≡ v) × (a ≡ b)
word_once w v a b sw sv e =
    let opcode : w.opcode ≡ v.opcode = cc in
    let registers : w.dst + w.src * 16 ≡ v.dst + v.src * 16 = cc in
    let low : to_le_bytes w16 w.offset ≡ to_le_bytes w16 v.offset = cc in
    let high : to_le_bytes w32 w.imm ≡ to_le_bytes w32 v.imm = cc in
    let rest : a ≡ b = cc in
    let dst : w.dst ≡ v.dst = omega (arith, sw.dst, sv.dst) in
    let src : w.src ≡ v.src = omega (arith, sw.dst, sv.dst) in
    let offset : w.offset ≡ v.offset = sym (from_le_bytes-to_le_bytes_2 w.offset sw.offset) ∙ ap (from_le_bytes w16) low ∙ from_le_bytes-to_le_bytes_2 v.offset sv.offset in
    let imm : w.imm ≡ v.imm = sym (from_le_bytes-to_le_bytes_4 w.imm sw.imm) ∙ ap (from_le_bytes w32) high ∙ from_le_bytes-to_le_bytes_4 v.imm sv.imm in
    (λ i. record { opcode = opcode i; dst = dst i; src = src i; offset = offset i; imm = imm i }, rest)

-- ---- the slots of an instruction

small : (op : AluOp) → alu_offset op < 2 ^ 16
small alu.Add = omega arith
small op = omega arith

short : (x : Extension) → extension_offset x < 2 ^ 16
short W32From8 = omega arith
short x = omega arith

narrow : (bits : SwapBits) → swap_imm bits < 2 ^ 32
narrow Bits16 = omega arith
narrow bits = omega arith

-- the numbers of registers in an instruction's first slot are at most 10
pub registers_of : (i : Insn) → ((first_word i).dst ≤ 10) × ((first_word i).src ≤ 10)
registers_of (Alu op width dst (operand.Imm n)) = (dst.in_range, omega arith)
registers_of (Alu op width dst (operand.Reg src)) = (dst.in_range, src.in_range)
registers_of (MovSx x dst src) = (dst.in_range, src.in_range)
registers_of (Neg width dst) = (dst.in_range, omega arith)
registers_of (End order bits dst) = (dst.in_range, omega arith)
registers_of (JumpIf c width dst (operand.Imm n) offset) = (dst.in_range, omega arith)
registers_of (JumpIf c width dst (operand.Reg src) offset) = (dst.in_range, src.in_range)
registers_of (Load size dst src offset) = (dst.in_range, src.in_range)
registers_of (LoadSx size dst src offset) = (dst.in_range, src.in_range)
registers_of (StoreReg size dst src offset) = (dst.in_range, src.in_range)
registers_of (StoreImm size dst offset imm) = (dst.in_range, omega arith)
registers_of (Wide dst value) = (dst.in_range, omega arith)
registers_of i = (omega arith, omega arith)

offset_fits : (i : Insn) → Fits i → (first_word i).offset < 2 ^ 16
offset_fits (Alu op width dst (operand.Imm n)) fits = small op
offset_fits (Alu op width dst (operand.Reg src)) fits = small op
offset_fits (MovSx x dst src) fits = short x
offset_fits (Jump offset) fits = (Fits-of_z fits).fits
offset_fits (JumpIf c width dst (operand.Imm n) offset) fits = (Fits-of_z fits.1).fits
offset_fits (JumpIf c width dst (operand.Reg src) offset) fits = (Fits-of_z fits.1).fits
offset_fits (Load size dst src offset) fits = (Fits-of_z fits).fits
offset_fits (LoadSx size dst src offset) fits = (Fits-of_z fits).fits
offset_fits (StoreReg size dst src offset) fits = (Fits-of_z fits).fits
offset_fits (StoreImm size dst offset imm) fits = (Fits-of_z fits.0).fits
offset_fits i fits = omega arith

imm_fits : (i : Insn) → Fits i → (first_word i).imm < 2 ^ 32
imm_fits (Alu op width dst (operand.Imm n)) fits = (Fits-of_z fits).fits
imm_fits (Alu op width dst (operand.Reg src)) fits = omega arith
imm_fits (End order bits dst) fits = narrow bits
imm_fits (JumpLong distance) fits = (Fits-of_z fits).fits
imm_fits (JumpIf c width dst (operand.Imm n) offset) fits = (Fits-of_z fits.0).fits
imm_fits (JumpIf c width dst (operand.Reg src) offset) fits = omega arith
imm_fits (Call helper) fits = (Fits-of_z fits).fits
imm_fits (StoreImm size dst offset imm) fits = (Fits-of_z fits.1).fits
imm_fits i fits = omega arith

is_word : (i : Insn) → Fits i → IsWord (first_word i)
is_word i fits = let r = registers_of i in record { dst = omega (arith, r.0); src = omega (arith, r.1); offset = offset_fits i fits; imm = imm_fits i fits }

abbrev IsSecond : Option Word → Type 0
IsSecond o = MatchOption o (Unit {0}) IsWord

is_second : (i : Insn) → Fits i → IsSecond (second_word i)
is_second (Wide dst value) fits = record { dst = omega arith; src = omega arith; offset = omega arith; imm = omega arith }
is_second i fits = tt

-- the first slot tells whether there is a second
abbrev is_two : OpcodeForm → Bool
is_two form.Wide = true
is_two _ = false

two_slots : (i : Insn) → is_some (second_word i) ≡ is_two (form_of i)
two_slots (Alu op width dst (operand.Imm n)) = refl
two_slots (Alu op width dst (operand.Reg src)) = refl
two_slots (JumpIf c width dst (operand.Imm n) offset) = refl
two_slots (JumpIf c width dst (operand.Reg src) offset) = refl
two_slots i = refl

same_form : (i j : Insn) → first_word i ≡ first_word j → form_of i ≡ form_of j
same_form i j e =
    let a = formed_at i (first_word j).opcode (ap (λ (w : Word). w.opcode) e) in
    let b = is_formed j in
    cc

abbrev second_bytes : Option Word → List ℕ
second_bytes o = option_map_or word_bytes o []

second_once : (o p : Option Word) (a b : List ℕ) → is_some o ≡ is_some p → IsSecond o → IsSecond p → second_bytes o ++ a ≡ second_bytes p ++ b → (o ≡ p) × (a ≡ b)
second_once None None a b same so sp e = (refl, e)
second_once None (Some v) a b same so sp e = absurd cc
second_once (Some w) None a b same so sp e = absurd cc
second_once (Some w) (Some v) a b same so sp e = let once = word_once w v a b so sp e in (ap (λ (x : Word). Some x) once.0, once.1)

begins_once : (w : Word) (next : Option Word) (i j : Insn) → Fits i → Fits j → Begins i w next → Begins j w next → i ≡ j
begins_once w next i j fi fj bi bj =
    let r = registers_of i in
    let dst : Reg = record { number = (first_word i).dst; in_range = r.0 } in
    let src : Reg = record { number = (first_word i).src; in_range = r.1 } in
    let is_dst : (first_word i).dst ≡ w.dst = ap (λ (v : Word). v.dst) bi.0 in
    let is_src : (first_word i).src ≡ w.src = ap (λ (v : Word). v.src) bi.0 in
    let formed = subst (λ (v : Word). form_at v.opcode ≡ Some (form_of i)) bi.0 (is_formed i) in
    sym (reads_back i fi w next bi (form_of i) formed dst src is_dst is_src) ∙ reads_back j fj w next bj (form_of i) formed dst src is_dst is_src

itself : (o : Option Word) → MatchOption o (Unit {0}) (λ s. o ≡ Some s)
itself None = tt
itself (Some s) = refl

-- bytes begin with one instruction only, and have one rest behind it
pub insn_once : (i j : Insn) (a b : List ℕ) → Fits i → Fits j → insn_bytes i ++ a ≡ insn_bytes j ++ b → (i ≡ j) × (a ≡ b)
insn_once i j a b fi fj e =
    let regrouped : word_bytes (first_word i) ++ (second_bytes (second_word i) ++ a) ≡ word_bytes (first_word j) ++ (second_bytes (second_word j) ++ b)
    = sym (append_assoc (word_bytes (first_word i)) (second_bytes (second_word i)) a) ∙ e ∙ append_assoc (word_bytes (first_word j)) (second_bytes (second_word j)) b in
    let first = word_once (first_word i) (first_word j) (second_bytes (second_word i) ++ a) (second_bytes (second_word j) ++ b) (is_word i fi) (is_word j fj) regrouped in
    let both : is_some (second_word i) ≡ is_some (second_word j) = two_slots i ∙ ap is_two (same_form i j first.0) ∙ sym (two_slots j) in
    let second = second_once (second_word i) (second_word j) a b both (is_second i fi) (is_second j fj) first.1 in
    let begins = subst (λ (o : Option Word). MatchOption (second_word i) (Unit {0}) (λ s. o ≡ Some s)) second.0 (itself (second_word i)) in
    (begins_once (first_word j) (second_word j) i j fi fj (first.0, begins) (refl, itself (second_word j)), second.1)

-- ---- lists

abbrev Each : List Insn → Type 0
Each is = AllByRecursion Fits is

-- an encoding begins with the bytes of its first instruction
pub starts : (i : Insn) (is : List Insn) → encoding (i ∷ is) ≡ insn_bytes i ++ encoding is
starts i is = flat_map-cons insn_bytes i is

pub encoding_once : (is js : List Insn) → Each is → Each js → encoding is ≡ encoding js → is ≡ js
encoding_once [] [] fi fj e = refl
encoding_once [] (j ∷ js) fi fj e = let e' : [] ≡ insn_bytes j ++ encoding js = e ∙ starts j js in absurd cc
encoding_once (i ∷ is) [] fi fj e = let e' : insn_bytes i ++ encoding is ≡ [] = sym (starts i is) ∙ e in absurd cc
encoding_once (i ∷ is) (j ∷ js) fi fj e =
    let once = insn_once i j (encoding is) (encoding js) fi.0 fj.0 (sym (starts i is) ∙ e ∙ starts j js) in
    let rest = encoding_once is js fi.1 fj.1 once.1 in
    cc

joined : (a b c : List ℕ) → c ≡ a ++ b → length a % 8 ≡ 0 → length b % 8 ≡ 0 → length c % 8 ≡ 0
joined a b c e ea eb = rw (e, length-append) (omega arith)

insn_len : (o : Option Word) (w : Word) → length (word_bytes w ++ second_bytes o) % 8 ≡ 0
insn_len None w = refl
insn_len (Some s) w = refl

-- an encoding has whole slots of eight bytes
pub whole_slots : (is : List Insn) → length (encoding is) % 8 ≡ 0
whole_slots [] = refl
whole_slots (i ∷ is) = joined (insn_bytes i) (encoding is) (encoding (i ∷ is)) (starts i is) (insn_len (second_word i) (first_word i)) (whole_slots is)

-- ---- what is refused is no encoding

-- where bytes are those of an instruction and more, their slots begin with its own
pub begins_at : (i : Insn) (tail : List ℕ) (w : Word) (ws : List Word) → Fits i → AllByRecursion IsWord (w ∷ ws) → insn_bytes i ++ tail ≡ flat_map word_bytes (w ∷ ws) → Begins i w (slice_get ws 0)
begins_at i tail w ws fits sizes e =
    let first = word_once (first_word i) w (second_bytes (second_word i) ++ tail) (flat_map word_bytes ws) (is_word i fits) sizes.0 (sym (append_assoc (word_bytes (first_word i)) (second_bytes (second_word i)) tail) ∙ e) in
    (first.0, follows (second_word i) ws tail (is_second i fits) sizes.1 first.1)
  where
    follows : (o : Option Word) (ws : List Word) (tail : List ℕ) → IsSecond o → AllByRecursion IsWord ws → second_bytes o ++ tail ≡ flat_map word_bytes ws → MatchOption o (Unit {0}) (λ s. slice_get ws 0 ≡ Some s)
    follows None ws tail so sizes e = tt
    follows (Some s) [] tail so sizes e = absurd cc
    follows (Some s) (t ∷ ts) tail so sizes e = ap (λ (x : Word). Some x) (sym (word_once s t tail (flat_map word_bytes ts) so sizes.0 e).0)

is_wide : (i : Insn) → (first_word i).opcode ≡ 0x18 → form.Wide ≡ form_of i
is_wide i e = let f = formed_at i 0x18 e in cc

is_call : (i : Insn) → (first_word i).opcode ≡ 0x85 → form.Call ≡ form_of i
is_call i e = let f = formed_at i 0x85 e in cc

inside_wide : (i : Insn) → form.Wide ≡ form_of i → 0 < (first_word i).src → ⊥
inside_wide (Wide dst value) e above = absurd (omega arith)
inside_wide (Alu op width dst (operand.Imm n)) e above = absurd cc
inside_wide (Alu op width dst (operand.Reg src)) e above = absurd cc
inside_wide (JumpIf c width dst (operand.Imm n) offset) e above = absurd cc
inside_wide (JumpIf c width dst (operand.Reg src) offset) e above = absurd cc
inside_wide i e above = absurd cc

inside_call : (i : Insn) → form.Call ≡ form_of i → (first_word i).src ≡ 0
inside_call (Call helper) e = refl
inside_call (Alu op width dst (operand.Imm n)) e = absurd cc
inside_call (Alu op width dst (operand.Reg src)) e = absurd cc
inside_call (JumpIf c width dst (operand.Imm n) offset) e = absurd cc
inside_call (JumpIf c width dst (operand.Reg src) offset) e = absurd cc
inside_call i e = absurd cc

is_inside : (i : Insn) (next : Option Word) → Breaks Profile (first_word i) next → ⊥
is_inside i next (above, inl call) = let none = inside_call i (is_call i call.0) in absurd (omega arith)
is_inside i next (above, inr wide) = inside_wide i (is_wide i wide.0) above

has_width : (i : Insn) (order : ByteOrder) → form.End order ≡ form_of i → (bits : SwapBits) × ((first_word i).imm ≡ swap_imm bits)
has_width (End other bits dst) order e = (bits, refl)
has_width (Alu op width dst (operand.Imm n)) order e = absurd cc
has_width (Alu op width dst (operand.Reg src)) order e = absurd cc
has_width (JumpIf c width dst (operand.Imm n) offset) order e = absurd cc
has_width (JumpIf c width dst (operand.Reg src) offset) order e = absurd cc
has_width i order e = absurd cc

is_sized : (i : Insn) (next : Option Word) → Breaks Width (first_word i) next → ⊥
is_sized i next ((Little, e), none) = let f = formed_at i 0xd4 e in let w = has_width i Little cc in none w.0 w.1
is_sized i next ((Big, e), none) = let f = formed_at i 0xdc e in let w = has_width i Big cc in none w.0 w.1
is_sized i next ((Swap, e), none) = let f = formed_at i 0xd7 e in let w = has_width i Swap cc in none w.0 w.1

whole_wide : (i : Insn) (next : Option Word) → form.Wide ≡ form_of i → MatchOption (second_word i) (Unit {0}) (λ s. next ≡ Some s) → next ≡ None → ⊥
whole_wide (Wide dst value) next e follows none = absurd cc
whole_wide (Alu op width dst (operand.Imm n)) next e follows none = absurd cc
whole_wide (Alu op width dst (operand.Reg src)) next e follows none = absurd cc
whole_wide (JumpIf c width dst (operand.Imm n) offset) next e follows none = absurd cc
whole_wide (JumpIf c width dst (operand.Reg src) offset) next e follows none = absurd cc
whole_wide i next e follows none = absurd cc

is_whole : (i : Insn) (next : Option Word) → MatchOption (second_word i) (Unit {0}) (λ s. next ≡ Some s) → Breaks Cut (first_word i) next → ⊥
is_whole i next follows cut = whole_wide i next (is_wide i cut.0) follows cut.1

-- the first slot of an instruction that fits breaks no rule
pub is_fine : (i : Insn) (next : Option Word) (r : EncodingRule) → Fits i → MatchOption (second_word i) (Unit {0}) (λ s. next ≡ Some s) → IsFirst (λ q. Breaks q (first_word i) next) order r → ⊥
unfolding IsFirst
is_fine i next r fits follows (inl opcode) = opcode.1 i refl
is_fine i next r fits follows (inr (_, inl (_, inl above))) = let ok = registers_of i in absurd (omega arith)
is_fine i next r fits follows (inr (_, inl (_, inr above))) = let ok = registers_of i in absurd (omega arith)
is_fine i next r fits follows (inr (_, inr (_, inl profile))) = is_inside i next profile.1
is_fine i next r fits follows (inr (_, inr (_, inr (_, inl cut)))) = is_whole i next follows cut.1
is_fine i next r fits follows (inr (_, inr (_, inr (_, inr (_, inl width))))) = is_sized i next width.1
is_fine i next r fits follows (inr (_, inr (_, inr (_, inr (_, inr (_, inl field)))))) = field.1 i fits (refl, follows)
is_fine i next r fits follows (inr (_, inr (_, inr (_, inr (_, inr (_, inr (_, none))))))) = none

-- the first of these slots breaks this rule first
abbrev pub HeadBroken : EncodingRule → List Word → Type 0
HeadBroken r [] = ⊥
HeadBroken r (w ∷ ws) = IsFirst (λ q. Breaks q w (slice_get ws 0)) order r

-- slots that begin with an instruction are not broken at the first
pub not_broken : (i : Insn) (tail : List ℕ) (r : EncodingRule) (w : Word) (ws : List Word) → Fits i → AllByRecursion IsWord (w ∷ ws) → insn_bytes i ++ tail ≡ flat_map word_bytes (w ∷ ws) → HeadBroken r (w ∷ ws) → ⊥
not_broken i tail r w ws fits sizes e broken =
    let begins = begins_at i tail w ws fits sizes e in
    is_fine i (slice_get ws 0) r fits begins.1 (subst (λ (v : Word). IsFirst (λ q. Breaks q v (slice_get ws 0)) order r) (sym begins.0) broken)

-- where slots behind whole instructions are broken, all of it is no encoding
pub never : (before is : List Insn) (r : EncodingRule) (w : Word) (ws : List Word) → Each before → Each is → AllByRecursion IsWord (w ∷ ws) → encoding before ++ flat_map word_bytes (w ∷ ws) ≡ encoding is → HeadBroken r (w ∷ ws) → ⊥
never [] [] r w ws fb fi sizes e broken = absurd cc
never [] (i ∷ is) r w ws fb fi sizes e broken = not_broken i (encoding is) r w ws fi.0 sizes (sym (starts i is) ∙ sym e) broken
never (b ∷ bs) [] r w ws fb fi sizes e broken = let e' : (insn_bytes b ++ encoding bs) ++ flat_map word_bytes (w ∷ ws) ≡ [] = ap (λ (x : List ℕ). x ++ flat_map word_bytes (w ∷ ws)) (sym (starts b bs)) ∙ e in absurd cc
never (b ∷ bs) (i ∷ is) r w ws fb fi sizes e broken =
    let rest = flat_map word_bytes (w ∷ ws) in
    let regrouped : insn_bytes b ++ (encoding bs ++ rest) ≡ insn_bytes i ++ encoding is = sym (append_assoc (insn_bytes b) (encoding bs) rest) ∙ ap (λ (x : List ℕ). x ++ rest) (sym (starts b bs)) ∙ e ∙ starts i is in
    never bs is r w ws fb.1 fi.1 sizes (insn_once b i (encoding bs ++ rest) (encoding is) fb.0 fi.0 regrouped).1 broken

-- an encoding is read as its own instructions, and refused for want of memory alone
pub only_these : (bytes : List ℕ) (r : Result (Vec Insn) DecodeError) (is : List Insn) → Each is → bytes ≡ encoding is
    → MatchResult r (λ v. Each v.items × (bytes ≡ encoding v.items)) (λ _. Unit {0}) → MatchResult r (λ _. Unit {0}) (IsRefusal bytes) → IfOk r (λ v. v.items ≡ is) × IfErr r (λ e. e ≡ Memory)
only_these bytes (Ok v) is fits e found refused = (encoding_once v.items is found.0 fits (sym found.1 ∙ e), tt)
only_these bytes (Err Memory) is fits e found refused = (tt, refl)
only_these bytes (Err (Fault rule slot)) is fits e found (inl uneven) = absurd (uneven.2 (ap (λ (x : List ℕ). length x % 8) e ∙ whole_slots is))
only_these bytes (Err (Fault rule slot)) is fits e found (inr broken) =
    let at = broken.1 in absurd (never at.before is rule at.word at.rest at.fits fits at.sizes (sym at.whole ∙ e) at.broken)
