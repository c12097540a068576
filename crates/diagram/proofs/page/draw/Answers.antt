use Rattle.std.proofs.Common.{◌≡◌, ◌∙◌, List, ap, length, min, string_bytes, subst, sym}
use Rattle.indexmap.specs.IndexMap.{index_map_len}
use Rattle.diagram.specs.declared.columns.Column.{Column}
use Rattle.diagram.specs.Columns.{columns}
use Rattle.diagram.specs.Marks.{HasPart, marks_from}
use Rattle.diagram.specs.Page.{page_width}
use Rattle.diagram.specs.Models.{run_of}
use Rattle.diagram.proofs.PageLemmas.{enclosed}
use Rattle.diagram.proofs.page.draw.Goals as goal

pub returns : goal.returns
returns c =
    let count = min (index_map_len c.args.processes.now) 255 in
    let run = run_of c.args.run.now in
    let all = columns c.args.only_messages run in
    let shown : c.as_slice-columns.result.now ≡ all = c.as_slice-columns.ensures.value ∙ c.in_ok-shown.ensures in
    let drawn = subst (λ (cs : List Column). HasPart (marks_from count run.entries 0 cs) (string_bytes c.in_ok-inside.inside)) shown c.in_ok-inside.ensures in
    let marks = marks_from count run.entries 0 all in
    let inside : HasPart marks c.as_str.result.now = subst (HasPart marks) (sym c.as_str.ensures.value) drawn in
    let wide = c.page_width-width.ensures ∙ ap (λ (cs : List Column). page_width (length cs)) shown in
    enclosed (index_map_len c.args.processes.now) run c.args.only_messages c.page_width-width.result c.page_height-height.result
    (string_bytes c.new-out.result) (string_bytes c.push_head.new.out) (string_bytes c.push_str.new.self) (string_bytes c.push_str-2.new.self) c.as_str.result.now
    c.new-out.ensures.bytes wide c.page_height-height.ensures c.in_ok-push_head.ensures c.in_ok-push_str.ensures.bytes c.in_ok-push_str-2.ensures.bytes
    inside
