use Rattle.std.proofs.Common.{ℕ, List, length, sym, subst}
use Rattle.verifier.specs.FileForm.{file_form_of}
use Rattle.interp.specs.Answer.{shown}
use Rattle.interp.specs.Configuration.{entry}
use Rattle.interp.specs.Flat.{Holds}
use Rattle.process.proofs.layout.lay_flat.Goals as goal

pub returns : goal.returns
returns c =
    let p = c.args.image.now in
    let state = c.args.state.now in
    let seen = shown (file_form_of p.form) c.args.payload.now in
    let laid = subst (λ (m : List ℕ). Holds (length m) p.len (entry (file_form_of p.form) state m) c.fill.new.mem) c.shown.ensures.value c.fill.ensures.holds in
    subst (λ (a : List ℕ). Holds (length seen) p.len (entry (file_form_of p.form) state seen) a) (sym c.copy_from_slice.ensures.after) laid
