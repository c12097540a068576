-- Why a source comes to no file.
use Rattle.std.proofs.Common.{◌≡◌, ◌<◌, ◌≤◌, ◌∙◌, ◌⊎◌, ℕ, List, [], ◌∷◌, length, refl, sym, ap, subst, arith, inl, inr, map, take}
use Rattle.limits.specs.declared.TheConstants.{SLOTS}
use Rattle.assemble.specs.Refusal.{AreLines}
use Rattle.assemble.specs.Refusal as assembling
use Rattle.assemble.specs.Text.{line_of, lines_of, spoken}
use Rattle.assemble.specs.declared.fault.AsmError.{AsmError}
use Rattle.assemble.specs.declared.fault.AsmError.TheVariants as text
use Rattle.decode.specs.Slots.{size_of, slots}
use Rattle.decode.specs.declared.insn.Insn.{Insn}
use Rattle.decode.specs.declared.insn.Insn.TheVariants as insn
use Rattle.decode.proofs.SlotLemmas.{slots-cons}
use Rattle.verifier.specs.ImageFile.{IsUnwritten}
use Rattle.verifier.specs.declared.fault.ImageError.{ImageError}
use Rattle.verifier.specs.declared.fault.ImageError.TheVariants as image
use Rattle.image_commands.specs.Asm.{IsUnassembled}
use Rattle.image_commands.specs.Fault.{fault_of_image, fault_of_text}
use Rattle.image_commands.specs.Judged.{IsJudged}
use Rattle.image_commands.specs.declared.fault.Fault.{Fault}
use Rattle.image_commands.proofs.JudgedLemmas.{fault_of_judged, judged_by_read, read_whole}
use Rattle.image_commands.specs.declared.asm.TheConstants.{SOURCE_LIMIT}
use Rattle.image_commands.specs.declared.judged.TheConstants.{TEXT_LIMIT}

-- a text that is refused, of a source of which it is what is judged
pub text_refused : (bytes whole head : List ℕ) (e : AsmError) (f : Fault) → bytes ≡ take SOURCE_LIMIT whole → IsJudged bytes head
    → assembling.IsRefusal head e → f ≡ fault_of_text e → IsUnassembled whole f
text_refused bytes whole head text.Memory f read judged why is = subst (IsUnassembled whole) (sym is) tt
text_refused bytes whole head (text.Fault rule line) f read judged why is =
    subst (IsUnassembled whole) (sym is) (fault_of_judged whole head rule line (judged_by_read bytes whole head read judged) why)

some_slots : (i : Insn) → 0 < size_of i
some_slots (insn.Wide dst value) = omega arith
some_slots i = omega arith

-- no slots are no instructions
no_slots : (code : List Insn) → slots code ≡ 0 → code ≡ []
no_slots [] none = refl
no_slots (i ∷ is) none = absurd (omega (arith, some_slots i, slots-cons i is, none))

-- a list of instructions that has no file
pub code_refused : (source : List ℕ) (code : List Insn) (e : ImageError) (f : Fault) → AreLines (lines_of source) code
    → IsUnwritten code e → f ≡ fault_of_image e → IsUnassembled source f
code_refused source code image.Memory f lines why is = subst (IsUnassembled source) (sym is) tt
code_refused source code (image.Header fault) f lines why is = subst (IsUnassembled source) (sym is) (why.0, inl (silent why.1))
  where
    silent : (slots code ≡ 0) ⊎ (SLOTS < slots code) → spoken (lines_of source) ≡ []
    silent (inl none) = lines.written ∙ ap (map line_of) (no_slots code none)
    silent (inr many) = absurd (omega (arith, lines.limit, many))
code_refused source code (image.Decode rule slot) f lines why is = absurd why
code_refused source code (image.Verify rule slot) f lines why is = absurd why

-- what is judged of a source that isn't too long is all of it
pub judged_all : (bytes whole head : List ℕ) → bytes ≡ take SOURCE_LIMIT whole → IsJudged bytes head → length bytes ≤ TEXT_LIMIT → head ≡ whole
judged_all bytes whole head read (inl all) short = all.1 ∙ read_whole TEXT_LIMIT bytes whole read short
judged_all bytes whole head read (inr part) short = absurd (omega (arith, part.0, short))
