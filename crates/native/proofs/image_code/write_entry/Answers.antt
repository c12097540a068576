use Rattle.std.proofs.Common.{[], ◌∷◌, ◌++◌, sym, ap, ◌∙◌}
use Rattle.x86.specs.declared.instruction.Instr.TheVariants as instr
use Rattle.native.specs.Code.{codes}
use Rattle.native.specs.Openings.{entering, entering_by, placing}
use Rattle.native.proofs.Emitted.{some_then}
use Rattle.native.proofs.image_code.write_entry.Goals as goal

pub returns-in_ok-write_all-in-Placed : goal.returns-in_ok-write_all-in-Placed
returns-in_ok-write_all-in-Placed c =
    let old = c.args.code.now.items in
    let mid = c.emit_entry.new.code.items in
    let saved = c.args.saved in
    some_then old mid c.write_all.new.code.items (entering saved) placing c.in_ok-emit_entry.ensures (c.in_ok-write_all-in-Placed.ensures ∙ ap (λ i. mid ++ codes (i ∷ instr.MovImm 12 512 ∷ [])) c.clear.ensures)
    ∙ ap (λ o. old ++ codes (entering_by o saved)) (sym c.in-Placed.is)
