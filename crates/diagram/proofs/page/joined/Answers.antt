use Rattle.std.proofs.Common.{string_bytes, subst, sym}
use Rattle.diagram.specs.Marks.{HasPart, marks_from}
use Rattle.diagram.proofs.MarkLemmas.{has_last, has_more}
use Rattle.diagram.proofs.page.joined.Goals as goal

pub returns : goal.returns
returns c =
    let marks = marks_from c.args.count c.args.entries.now 0 c.args.columns.now in
    let first : HasPart marks (string_bytes c.push_marks.new.out) = has_last marks (string_bytes c.push_marks.new.out) _ c.in_ok-push_marks.ensures in
    let second : HasPart marks (string_bytes c.writeln.new.self) = subst (HasPart marks) (sym c.in_ok-writeln.ensures.bytes) (has_more marks _ _ first) in
    let third : HasPart marks (string_bytes c.push_str.new.self) = subst (HasPart marks) (sym c.in_ok-push_str.ensures.bytes) (has_more marks _ _ second) in
    subst (HasPart marks) (sym c.in_ok-push_str-2.ensures.bytes) (has_more marks _ _ third)
