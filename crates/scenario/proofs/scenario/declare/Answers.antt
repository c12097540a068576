use Rattle.std.proofs.Common.{◌∙◌, refl, sym, subst, List, ℕ}
use Rattle.std.specs.Cmp.Lexicographic.{bytes_decides}
use Rattle.scenario.specs.Process.{IsFresh, names_of}
use Rattle.scenario.proofs.Lines.{insert_new}
use Rattle.scenario.proofs.scenario.declare.Goals as goal

pub returns-clause-added : goal.returns-clause-added
returns-clause-added c =
    let fresh = subst (λ (t : List ℕ). IsFresh t (names_of c.args.processes.now)) (sym c.in_ok-key.ensures.ok) c.requires in
    record {
      entry = (c.in_ok-key.key, record { line = c.args.line; path = c.in_ok-path.path });
      name_is = c.in_ok-key.ensures.ok;
      path_is = c.in_ok-path.ensures.ok;
      line_is = refl;
      last = c.in_ok-insert.ensures.entries ∙ insert_new _ (λ a b t. (bytes_decides _ _).0 t) c.args.processes.now.entries c.in_ok-key.key _ fresh;
    }
