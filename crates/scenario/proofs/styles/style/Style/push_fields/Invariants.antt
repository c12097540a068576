use Rattle.std.proofs.Common.{◌≡◌, ◌++◌, map, take, string_bytes}
use Rattle.scenario.specs.Styles.Fields.{field_of, fields_text}
use Rattle.scenario.specs.Styles.Style.{style_of}
use Rattle.scenario.proofs.styles.style.Style.push_fields.Given as goal

abbrev pub invariant-loop-field : goal.invariant-loop-field
invariant-loop-field l = string_bytes l.out ≡ string_bytes l.fn.out ++ fields_text (style_of l.self) (map field_of (take l.field-index l.fields))
