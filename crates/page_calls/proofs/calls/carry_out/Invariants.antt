use Rattle.std.proofs.Common.{map, string_bytes}
use Rattle.page_calls.proofs.calls.carry_out.Given as goal

abbrev pub ghosts-carry_out_in : goal.ghosts-carry_out_in
ghosts-carry_out_in a = record { names = map string_bytes a.names.items; files = map (λ v. v.items) a.files.items }
