use Rattle.std.specs.Option.{option_map}
use Rattle.elf.proofs.ObjectLemmas.{unread_refused}
use Rattle.elf.proofs.finder.find_function.Goals as goal

pub returns-in-Err-clause-refused : goal.returns-in-Err-clause-refused
returns-in-Err-clause-refused c = unread_refused c.args.file.now (option_map (λ n. n.now) c.args.name) c.in-Err.error c.in-Err.ensures.fault
