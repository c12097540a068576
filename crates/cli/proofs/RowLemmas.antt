-- Each row that a command's arguments add has one value, which is a number if it has to be.
use Rattle.std.proofs.Common.{◌≡◌, ◌∙◌, ◌==◌, ◌&&◌, ◌||◌, ℕ, Bool, cond, true, false, not, true≢false, refl, sym, ap, subst, arith, append-nil, get_or, List, [], ◌∷◌, ◌++◌, length, Some, None, codes}
use Rattle.std.specs.List.{AllByRecursion, find}
use Rattle.std.specs.Str.{bytes_eq}
use Rattle.std.proofs.lemmas.Bool.{eqb-true}
use Rattle.limits.specs.declared.TheConstants.{STATE_BYTES, WORKERS}
use Rattle.clap.specs.Words.{App, Row, Rule, Text, read_as}
use Rattle.clap.specs.Kinds.{or_else, range_kinds, value_kinds}
use Rattle.clap.specs.Facts.{parser_of_value}
use Rattle.clap.specs.Simple.{Shape, built, help_rule}
use Rattle.clap.specs.ValueTests.{accepts}
use Rattle.clap.specs.Walk.{at_row, has_row, more_values, reading_by, values_or_missing, with_values, without}
use Rattle.clap.specs.Faults.{repeat_fault, set_fault, values_fault}
use Rattle.clap.specs.declared.builder.ValueParser.TheVariants as parser
use Rattle.clap.specs.declared.error.ErrorKind.TheVariants.{ArgumentConflict, InvalidValue, ValueValidation, WrongNumberOfValues}
use Rattle.clap.specs.declared.parser.matches.ValueSource.{ValueSource}
use Rattle.clap.specs.declared.parser.matches.ValueSource.TheVariants.{CommandLine, DefaultValue}
use Rattle.cli.specs.Program.{sblog_app}
use Rattle.cli.proofs.WalkLemmas.{Fills, Keeps, first_none, second_none, some_kind}
use Rattle.cli.specs.declared.command.TheConstants.{BUDGET}

-- ---- rows

-- the value of a row with this name is a number in this range
abbrev pub IsNumbered : Text → ℕ → ℕ → Row → Text → Type 0
IsNumbered id low high r text = bytes_eq r.id id ≡ true → (read_as r.reading text ≡ text) × (accepts false (parser.Unsigned low high) text ≡ true)

-- the row has one value, and if it has to be a number it is one
pub record IsSound (r : Row) : Type 0 where
  pub text : Text
  pub one : r.values ≡ text ∷ []
  pub state : IsNumbered (codes "state") 0 STATE_BYTES r text
  pub form : IsNumbered (codes "form") 1 3 r text
  pub workers : IsNumbered (codes "workers") 1 WORKERS r text
  pub budget : IsNumbered (codes "budget") 1 BUDGET r text

-- the row of one value
abbrev row_from : ValueSource → Rule → Text → Row
row_from source a v = record { id = a.id; values = v ∷ []; count = None; source = Some source; reading = reading_by a }

-- that of a first use
abbrev new_row : Rule → Text → Row
new_row a v = row_from CommandLine a v

either : (a b : Bool) → (a || b) ≡ false → (a ≡ false) × (b ≡ false)
either false b e = (refl, e)
either true b e = absurd (true≢false e)

-- rows in which an id has none stay, and what is new comes last
at_no_row : (id : Text) (change : Row → List Row) (missing rows : List Row) → has_row id rows ≡ false → at_row id change missing rows ≡ rows ++ missing
at_no_row id change missing [] none = refl
at_no_row id change missing (r ∷ rs) none =
    let parts = either (bytes_eq r.id id) (has_row id rs) none in
    rw parts.0 (ap (λ rest. r ∷ rest) (at_no_row id change missing rs parts.1))

all-append : (P : Row → Type 0) (xs : List Row) (x : Row) → AllByRecursion P xs → P x → AllByRecursion P (xs ++ x ∷ [])
all-append P [] x all last = (last, tt)
all-append P (y ∷ ys) x all last = (all.0, all-append P ys x all.1 last)

all-nil : (P : Row → Type 0) (xs : List Row) → AllByRecursion P xs → AllByRecursion P (xs ++ [])
all-nil P [] all = tt
all-nil P (x ∷ xs) all = (all.0, all-nil P xs all.1)

-- what is found has what each element has
pub find_all : {X : Type 0} (P : X → Type 0) (test : X → Bool) (xs : List X) (x : X) → AllByRecursion P xs → find test xs ≡ Some x → P x
find_all {X} P test [] x all is = absurd (none≢some is)
  where
    none≢some : None ≡ Some x → ⊥
    none≢some e = cc
find_all {X} P test (y ∷ ys) x all is = go (test y) (find_all P test ys x all.1) is
  where
    same : (a b : X) → Some a ≡ Some b → a ≡ b
    same a b e = cc

    go : (b : Bool) → (find test ys ≡ Some x → P x) → cond b (Some y) (find test ys) ≡ Some x → P x
    go true rest e = subst P (same y x e) all.0
    go false rest e = rest e

-- and passes the test
pub find_passes : {X : Type 0} (test : X → Bool) (xs : List X) (x : X) → find test xs ≡ Some x → test x ≡ true
find_passes {X} test [] x is = absurd (none≢some is)
  where
    none≢some : None ≡ Some x → ⊥
    none≢some e = cc
find_passes {X} test (y ∷ ys) x is = go (test y) refl (find_passes test ys x) is
  where
    same : (a b : X) → Some a ≡ Some b → a ≡ b
    same a b e = cc

    go : (b : Bool) → test y ≡ b → (find test ys ≡ Some x → test x ≡ true) → cond b (Some y) (find test ys) ≡ Some x → test x ≡ true
    go true t rest e = ap test (sym (same y x e)) ∙ t
    go false t rest e = rest e

-- ---- one use

again_or_new : (has : Bool) → cond (has && not false) (ArgumentConflict ∷ []) [] ≡ [] → has ≡ false
again_or_new false e = refl
again_or_new true e = absurd (some_kind _ _ e)

one_only : (n : ℕ) → range_kinds 1 1 n ≡ [] → n ≡ 1
one_only n none = go (n == 0) (1 == n) refl none
  where
    go : (z b : Bool) → (1 == n) ≡ b → cond z (InvalidValue ∷ []) (cond b [] (WrongNumberOfValues ∷ [])) ≡ [] → n ≡ 1
    go true b is e = absurd (some_kind _ _ e)
    go false true is e = sym (eqb-true _ _ is)
    go false false is e = absurd (some_kind _ _ e)

no_value : (n : ℕ) → range_kinds 0 0 n ≡ [] → n ≡ 0
no_value n none = go (0 == n) refl none
  where
    go : (b : Bool) → (0 == n) ≡ b → cond b [] (WrongNumberOfValues ∷ []) ≡ [] → n ≡ 0
    go true is e = sym (eqb-true _ _ is)
    go false is e = absurd (some_kind _ _ e)

-- the first value of an argument adds its row
value_kept : (P : Row → Type 0) (a : Rule) (v : Text) (rows : List Row) → P (new_row a v) → repeat_fault false a.id rows ≡ [] → AllByRecursion P rows
    → AllByRecursion P (with_values a.id (reading_by a) CommandLine (v ∷ []) (without a.id rows))
value_kept P a v rows sound once all =
    let fresh : has_row a.id rows ≡ false = again_or_new (has_row a.id rows) once in
    let kept : without a.id rows ≡ rows = at_no_row a.id (λ _. []) [] rows fresh ∙ append-nil rows in
    let added : with_values a.id (reading_by a) CommandLine (v ∷ []) rows ≡ rows ++ new_row a v ∷ [] = at_no_row a.id (more_values CommandLine (v ∷ [])) (new_row a v ∷ []) rows fresh in
    subst (λ (rs : List Row). AllByRecursion P (with_values a.id (reading_by a) CommandLine (v ∷ []) rs)) (sym kept)
    (subst (AllByRecursion P) (sym added) (all-append P rows (new_row a v) all sound))

-- a use that takes one value adds its row
set_keeps : (P : Row → Type 0) (a : Rule) → ((v : Text) → value_kinds a.ignore_case (parser_of_value a.parser) v ≡ [] → P (new_row a v))
    → (values : List Text) (rows : List Row)
    → or_else (range_kinds 1 1 (length values)) (set_fault false a (values_or_missing a values) rows) ≡ [] → AllByRecursion P rows
    → AllByRecursion P (with_values a.id (reading_by a) CommandLine (values_or_missing a values) (without a.id rows))
set_keeps P a sound [] rows none all = absurd (some_kind _ _ none)
set_keeps P a sound (v ∷ []) rows none all =
    let fits : value_kinds a.ignore_case (parser_of_value a.parser) v ≡ [] = first_none _ [] (second_none (repeat_fault false a.id rows) (values_fault a (v ∷ [])) none) in
    value_kept P a v rows (sound v fits) (first_none (repeat_fault false a.id rows) (values_fault a (v ∷ [])) none) all
set_keeps P a sound (v ∷ w ∷ rest) rows none all =
    let one : length (v ∷ w ∷ rest) ≡ 1 = one_only (length (v ∷ w ∷ rest)) (first_none (range_kinds 1 1 (length (v ∷ w ∷ rest))) _ none) in
    absurd (omega arith)

-- ---- the commands of `sblog`

abbrev pub program : App
program = built sblog_app

abbrev pub run_leaf : Shape
run_leaf = get_or program.subs 0 program.top

abbrev pub live_leaf : Shape
live_leaf = get_or program.subs 1 program.top

abbrev pub draw_leaf : Shape
draw_leaf = get_or program.subs 2 program.top

abbrev pub check_leaf : Shape
check_leaf = get_or program.subs 3 program.top

abbrev pub explain_leaf : Shape
explain_leaf = get_or program.subs 4 program.top

abbrev pub asm_leaf : Shape
asm_leaf = get_or program.subs 5 program.top

abbrev pub pack_leaf : Shape
pack_leaf = get_or program.subs 6 program.top

abbrev pub dis_leaf : Shape
dis_leaf = get_or program.subs 7 program.top

abbrev pub native_leaf : Shape
native_leaf = get_or program.subs 8 program.top

abbrev pub migrate_leaf : Shape
migrate_leaf = get_or program.subs 9 program.top

abbrev pub rule_in : Shape → ℕ → Rule
rule_in s i = get_or s.rules i help_rule

-- a name that is another one
unlike : {A : Type 0} (id name : Text) → bytes_eq id name ≡ false → bytes_eq id name ≡ true → A
unlike id name other same = absurd (true≢false (sym same ∙ other))

path_sound : (a : Rule) → bytes_eq a.id (codes "state") ≡ false → bytes_eq a.id (codes "form") ≡ false
    → bytes_eq a.id (codes "workers") ≡ false → bytes_eq a.id (codes "budget") ≡ false → {source : ValueSource} (v : Text) → IsSound (row_from source a v)
path_sound a state form workers budget {source} v = record {
  text = v;
  one = refl;
  state = unlike a.id (codes "state") state;
  form = unlike a.id (codes "form") form;
  workers = unlike a.id (codes "workers") workers;
  budget = unlike a.id (codes "budget") budget;
}

accepted : (b : Bool) → cond b [] (ValueValidation ∷ []) ≡ [] → b ≡ true
accepted true e = refl
accepted false e = absurd (some_kind _ _ e)

state_sound : (v : Text) → value_kinds false (parser.Unsigned 0 STATE_BYTES) v ≡ [] → IsSound (new_row (rule_in asm_leaf 2) v)
state_sound v fits = record {
  text = v;
  one = refl;
  state = λ _. (refl, accepted (accepts false (parser.Unsigned 0 STATE_BYTES) v) fits);
  form = unlike (codes "state") (codes "form") refl;
  workers = unlike (codes "state") (codes "workers") refl;
  budget = unlike (codes "state") (codes "budget") refl;
}

form_sound : (v : Text) → value_kinds false (parser.Unsigned 1 3) v ≡ [] → IsSound (new_row (rule_in asm_leaf 3) v)
form_sound v fits = record {
  text = v;
  one = refl;
  state = unlike (codes "form") (codes "state") refl;
  form = λ _. (refl, accepted (accepts false (parser.Unsigned 1 3) v) fits);
  workers = unlike (codes "form") (codes "workers") refl;
  budget = unlike (codes "form") (codes "budget") refl;
}

workers_sound : (v : Text) → value_kinds false (parser.Unsigned 1 WORKERS) v ≡ [] → IsSound (new_row (rule_in live_leaf 1) v)
workers_sound v fits = record {
  text = v;
  one = refl;
  state = unlike (codes "workers") (codes "state") refl;
  form = unlike (codes "workers") (codes "form") refl;
  workers = λ _. (refl, accepted (accepts false (parser.Unsigned 1 WORKERS) v) fits);
  budget = unlike (codes "workers") (codes "budget") refl;
}

budget_sound : (v : Text) → value_kinds false (parser.Unsigned 1 BUDGET) v ≡ [] → IsSound (new_row (rule_in live_leaf 2) v)
budget_sound v fits = record {
  text = v;
  one = refl;
  state = unlike (codes "budget") (codes "state") refl;
  form = unlike (codes "budget") (codes "form") refl;
  workers = unlike (codes "budget") (codes "workers") refl;
  budget = λ _. (refl, accepted (accepts false (parser.Unsigned 1 BUDGET) v) fits);
}

-- a use of `--help` is a fault
help_keeps : Keeps IsSound false (rule_in check_leaf 1)
help_keeps values rows none all = absurd (some_kind _ _ (second_none (range_kinds 0 0 (length values)) _ none))

pub check_keeps : AllByRecursion (Keeps IsSound false) check_leaf.rules
check_keeps = (set_keeps IsSound (rule_in check_leaf 0) (λ v fits. path_sound (rule_in check_leaf 0) refl refl refl refl v), (help_keeps, tt))

pub live_keeps : AllByRecursion (Keeps IsSound false) live_leaf.rules
live_keeps = (
  set_keeps IsSound (rule_in live_leaf 0) (λ v fits. path_sound (rule_in live_leaf 0) refl refl refl refl v),
  (
    set_keeps IsSound (rule_in live_leaf 1) (λ v fits. workers_sound v fits),
    (set_keeps IsSound (rule_in live_leaf 2) (λ v fits. budget_sound v fits), (help_keeps, tt)),
  ),
)

-- ---- an option without a value

-- it is not one of those that have a number
abbrev IsFlagName : Text → Type 0
IsFlagName id =
    (bytes_eq id (codes "state") ≡ false) × (bytes_eq id (codes "form") ≡ false) × (bytes_eq id (codes "workers") ≡ false) × (bytes_eq id (codes "budget") ≡ false)

-- as `build` makes it
abbrev flag_in : Text → Rule
flag_in id = record (rule_in draw_leaf 2) { id = id; long = Some id }

flag_sound : (id : Text) → IsFlagName id → (source : ValueSource) (v : Text) → IsSound (row_from source (flag_in id) v)
flag_sound id other source v = path_sound (flag_in id) other.0 other.1 other.2 other.3 {source = source} v

-- the word `true` says that it was used
flag_keeps : (id : Text) → IsFlagName id → Keeps IsSound false (flag_in id)
flag_keeps id other [] rows none all =
    value_kept IsSound (flag_in id) (codes "true") rows (flag_sound id other CommandLine (codes "true"))
    (first_none (repeat_fault false id rows) (values_fault (flag_in id) (codes "true" ∷ [])) none) all
flag_keeps id other (v ∷ rest) rows none all =
    let no : length (v ∷ rest) ≡ 0 = no_value (length (v ∷ rest)) (first_none (range_kinds 0 0 (length (v ∷ rest))) _ none) in
    absurd (omega arith)

-- and the word `false` for none
pub flag_fills : (id : Text) → IsFlagName id → Fills IsSound (flag_in id)
flag_fills id other rows all = go (has_row id rows) refl
  where
    no_row : Row
    no_row = row_from DefaultValue (flag_in id) (codes "false")

    go : (b : Bool) → has_row id rows ≡ b
        → AllByRecursion IsSound (cond b rows (with_values id (reading_by (flag_in id)) DefaultValue (codes "false" ∷ []) rows))
    go true is = all
    go false is =
        subst (AllByRecursion IsSound) (sym (at_no_row id (more_values DefaultValue (codes "false" ∷ [])) (no_row ∷ []) rows is))
        (all-append IsSound rows no_row all (flag_sound id other DefaultValue (codes "false")))

pub run_keeps : AllByRecursion (Keeps IsSound false) run_leaf.rules
run_keeps = (
  set_keeps IsSound (rule_in run_leaf 0) (λ v fits. path_sound (rule_in run_leaf 0) refl refl refl refl v),
  (flag_keeps (codes "json") (refl, refl, refl, refl), (flag_keeps (codes "names") (refl, refl, refl, refl), (help_keeps, tt))),
)

pub draw_keeps : AllByRecursion (Keeps IsSound false) draw_leaf.rules
draw_keeps = (
  set_keeps IsSound (rule_in draw_leaf 0) (λ v fits. path_sound (rule_in draw_leaf 0) refl refl refl refl v),
  (set_keeps IsSound (rule_in draw_leaf 1) (λ v fits. path_sound (rule_in draw_leaf 1) refl refl refl refl v), (flag_keeps (codes "messages") (refl, refl, refl, refl), (help_keeps, tt))),
)

pub asm_keeps : AllByRecursion (Keeps IsSound false) asm_leaf.rules
asm_keeps = (
  set_keeps IsSound (rule_in asm_leaf 0) (λ v fits. path_sound (rule_in asm_leaf 0) refl refl refl refl v),
  (
    set_keeps IsSound (rule_in asm_leaf 1) (λ v fits. path_sound (rule_in asm_leaf 1) refl refl refl refl v),
    (
      set_keeps IsSound (rule_in asm_leaf 2) (λ v fits. state_sound v fits),
      (set_keeps IsSound (rule_in asm_leaf 3) (λ v fits. form_sound v fits), (help_keeps, tt)),
    ),
  ),
)

pub explain_keeps : AllByRecursion (Keeps IsSound false) explain_leaf.rules
explain_keeps = (
  set_keeps IsSound (rule_in explain_leaf 0) (λ v fits. path_sound (rule_in explain_leaf 0) refl refl refl refl v),
  (flag_keeps (codes "why") (refl, refl, refl, refl), (help_keeps, tt)),
)

pub pack_keeps : AllByRecursion (Keeps IsSound false) pack_leaf.rules
pack_keeps = (
  set_keeps IsSound (rule_in pack_leaf 0) (λ v fits. path_sound (rule_in pack_leaf 0) refl refl refl refl v),
  (
    set_keeps IsSound (rule_in pack_leaf 1) (λ v fits. path_sound (rule_in pack_leaf 1) refl refl refl refl v),
    (
      set_keeps IsSound (rule_in pack_leaf 2) (λ v fits. state_sound v fits),
      (
        set_keeps IsSound (rule_in pack_leaf 3) (λ v fits. form_sound v fits),
        (set_keeps IsSound (rule_in pack_leaf 4) (λ v fits. path_sound (rule_in pack_leaf 4) refl refl refl refl v), (help_keeps, tt)),
      ),
    ),
  ),
)

pub dis_keeps : AllByRecursion (Keeps IsSound false) dis_leaf.rules
dis_keeps = (set_keeps IsSound (rule_in dis_leaf 0) (λ v fits. path_sound (rule_in dis_leaf 0) refl refl refl refl v), (help_keeps, tt))

pub native_keeps : AllByRecursion (Keeps IsSound false) native_leaf.rules
native_keeps = (
  set_keeps IsSound (rule_in native_leaf 0) (λ v fits. path_sound (rule_in native_leaf 0) refl refl refl refl v),
  (set_keeps IsSound (rule_in native_leaf 1) (λ v fits. path_sound (rule_in native_leaf 1) refl refl refl refl v), (help_keeps, tt)),
)

pub migrate_keeps : AllByRecursion (Keeps IsSound false) migrate_leaf.rules
migrate_keeps = (
  set_keeps IsSound (rule_in migrate_leaf 0) (λ v fits. path_sound (rule_in migrate_leaf 0) refl refl refl refl v),
  (
    set_keeps IsSound (rule_in migrate_leaf 1) (λ v fits. path_sound (rule_in migrate_leaf 1) refl refl refl refl v),
    (set_keeps IsSound (rule_in migrate_leaf 2) (λ v fits. path_sound (rule_in migrate_leaf 2) refl refl refl refl v), (help_keeps, tt)),
  ),
)

pub top_keeps : AllByRecursion (Keeps IsSound false) program.top.rules
top_keeps = (help_keeps, tt)
