use Rattle.std.proofs.Common.{◌≤◌, length, sym, subst}
use Rattle.limits.specs.declared.TheConstants.{SLOTS}
use Rattle.decode.specs.Slots.{slots_of}
use Rattle.verifier.proofs.Files.{short_code}
use Rattle.listing.proofs.listing.explain_file.Goals as goal

pub code_listing-requires-clause-slots : goal.code_listing-requires-clause-slots
code_listing-requires-clause-slots c =
    let read = c.in_ok-code in
    subst (λ is. length (slots_of is) ≤ SLOTS) (sym c.deref.ensures.value) (short_code read.form read.code.items read.state_len c.args.bytes.now read.ensures.found)
