use Rattle.std.proofs.Common.{add-one, refl, rules, subst, sym, ◌∙◌}
use Rattle.std.proofs.lemmas.Result.{err_from_is_err_and}
use Rattle.elf.specs.Inside.{IsUnreadTable}
use Rattle.elf.specs.declared.section.Section.{Section}
use Rattle.elf.proofs.ObjectLemmas.{first_section, more_sections, no_sizes, sizes_damage, sizes_kept, table_unread}
use Rattle.elf.proofs.finder.functions.Goals as goal

pub loop-index-init : goal.loop-index-init
loop-index-init c = record {
  found = c.new-functions.ensures.items ∙ sym (first_section c.args.file.now);
  sizes = no_sizes c.args.file.now;
  within = search rules;
}

pub loop-index-preserved : goal.loop-index-preserved
loop-index-preserved c = record {
  found =
      more_sections c.args.file.now c.loop-index.index c.loop-index.functions.items c.push_functions.new.functions.items c.in-Some.section
      c.loop-index.invariant.found (search rules) c.in-Some.ensures.section;
  sizes =
      rw add-one (
      sizes_kept c.args.file.now c.loop-index.index c.loop-index.total c.stored_size.result c.saturating_add-total.result c.in-Some.section
      c.loop-index.invariant.sizes c.in-Some.ensures.section c.stored_size.ensures c.saturating_add-total.ensures (search rules) (search rules)
      );
  within = search rules;
}

pub returns-then-total-file-clause-fault : goal.returns-then-total-file-clause-fault
returns-then-total-file-clause-fault c = (
  refl,
  sizes_damage c.args.file.now c.loop-index.index c.loop-index.total c.stored_size.result c.saturating_add-total.result c.in-Some.section
      (search rules) c.loop-index.invariant.sizes c.in-Some.ensures.section c.stored_size.ensures c.saturating_add-total.ensures c.if-total-file.true,
)

pub returns-in_err-push_functions-clause-fault : goal.returns-in_err-push_functions-clause-fault
returns-in_err-push_functions-clause-fault c =
    let p = err_from_is_err_and c.from_residual.result c.from_residual.ensures.1 in
    let e = c.in_err-push_functions.field-0.0 in
    rw (p.1, p.2) (
    table_unread c.args.file.now c.loop-index.index e (search rules)
    (subst (λ (s : Section). IsUnreadTable c.args.file.now s e) c.in-Some.ensures.section c.in_err-push_functions.ensures.fault)
    )
