use Rattle.std.proofs.Common.{rules}
use Rattle.std.specs.Option.{option_map}
use Rattle.elf.proofs.object.read_object.Goals as goal

pub returns-in-Err-clause-refused : goal.returns-in-Err-clause-refused
returns-in-Err-clause-refused c = c.in-Err.ensures.refused (option_map (λ n. n.now) c.args.name)

pub returns-in-Err-code_of-clause-refused : goal.returns-in-Err-code_of-clause-refused
returns-in-Err-code_of-clause-refused c = search rules
