-- The fields of a call or an answer, in a style.
use Rattle.std.specs.Prelude.{◌++◌, ℕ, Bool, List, codes, decimal, flat_map, if◌then◌else◌, Option, Some, None}
use Rattle.scenario.specs.Order.{party_text}
use Rattle.scenario.specs.Styles.Style.{TheStyle}
use Rattle.scenario.specs.declared.styles.field.Field.{Field}
use Rattle.scenario.specs.declared.styles.field.Value.{Value}
use Rattle.scenario.specs.declared.styles.field.Value.TheVariants.{Number, Party}

-- a field as its label and its value
abbrev pub field_of : Field → List ℕ × Value
field_of f = (f.label.now, f.value)

-- a process: its number, or its name among these, which JSON has in quotes. The outside is 0 or `outside`
abbrev pub party_in : Bool → Option (List (List ℕ)) → ℕ → List ℕ
party_in json None p = decimal p
party_in json (Some names) p = if json then codes "\"" ++ party_text names p ++ codes "\"" else party_text names p

-- the value of a field
abbrev pub value_text : TheStyle → Value → List ℕ
value_text style (Party p) = party_in style.json style.names p
value_text style (Number n) = decimal n

-- a field: a space and its value; in JSON its label and its value
abbrev pub field_text : TheStyle → List ℕ × Value → List ℕ
field_text style field = (if style.json then codes ",\"" ++ field.0 ++ codes "\":" else codes " ") ++ value_text style field.1

-- these fields, one after the other
abbrev pub fields_text : TheStyle → List (List ℕ × Value) → List ℕ
fields_text style fields = flat_map (field_text style) fields

-- a call or an answer: its word and its fields. In JSON it is an object with a name
unfoldable pub labelled_text : TheStyle → List ℕ → List (List ℕ × Value) → List ℕ
labelled_text style word fields =
    if style.json then codes "{\"name\":\"" ++ word ++ codes "\"" ++ fields_text style fields ++ codes "}" else word
    ++ fields_text style fields
