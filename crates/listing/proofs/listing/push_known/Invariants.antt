use Rattle.std.proofs.Common.{◌≡◌, ◌++◌, string_bytes}
use Rattle.listing.specs.Listing.{register_text, texts_below}
use Rattle.listing.proofs.listing.push_known.Given as goal

abbrev pub invariant-loop-number : goal.invariant-loop-number
invariant-loop-number l =
    string_bytes l.out ≡ string_bytes l.fn.out ++ texts_below (register_text l.study l.whys l.insn l.view) l.number
