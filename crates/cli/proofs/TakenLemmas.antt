-- Words in which `clap` finds no fault ask for something.
use Rattle.std.proofs.Common.{◌≡◌, ◌∙◌, ◌&&◌, ◌||◌, ℕ, Bool, cond, true, false, not, true≢false, refl, sym, ap, arith, get_or, List, [], ◌∷◌, Option, Some, None, is_some, codes, zero, suc, inl, inr}
use Rattle.std.specs.Prelude.{slice_get}
use Rattle.std.specs.List.{AllByRecursion, find}
use Rattle.std.specs.Option.{option_map, option_map_or, option_and_then}
use Rattle.std.specs.Str.{bytes_eq}
use Rattle.std.specs.Str.Parse.{digits_value, without_leading_plus}
use Rattle.std.proofs.lemmas.Slice.Eq.{bytes_eq-Decides}
use Rattle.limits.specs.declared.TheConstants.{STATE_BYTES, WORKERS}
use Rattle.clap.specs.Words.{Row, Text, fault_of, first_of, one_of, read_as}
use Rattle.clap.specs.Kinds.{check_kinds}
use Rattle.clap.specs.Facts.{explicit_source}
use Rattle.clap.specs.Simple.{Shape, entered, names_of, rows_at}
use Rattle.clap.specs.Takes.{is_given}
use Rattle.clap.specs.Walk.{nothing_held, row_text, rows_after, stop_after}
use Rattle.clap.specs.Faults.{entered_fault, level_fault}
use Rattle.clap.specs.declared.builder.ValueParser.TheVariants as parser
use Rattle.clap.specs.declared.error.ErrorKind.TheVariants.{MissingRequiredArgument}
use Rattle.clap.proofs.ValueTestLemmas.{accepts-Accepts}
use Rattle.cli.specs.Asks.{AsksBy, AsksFor, AsksIn, HasBudget, HasForm, HasImage, HasNumber, HasPath, HasScenario, HasState, HasWorkers, MayHaveForm, MayHaveState, Order, is_set}
use Rattle.cli.specs.Asks as order
use Rattle.verifier.specs.declared.file_form.FileForm.{FileForm}
use Rattle.verifier.specs.declared.file_form.FileForm.TheVariants.{Sbi1, Sbi2, Sbi3}
use Rattle.cli.specs.Program.{sblog_app}
use Rattle.cli.proofs.WalkLemmas.{IsFineStop, Keeps, level_filled, level_fine, no_default, some_kind}
use Rattle.cli.specs.declared.command.TheConstants.{BUDGET}
use Rattle.cli.proofs.RowLemmas.{IsNumbered, IsSound, find_all, find_passes, program, run_leaf, live_leaf, draw_leaf, check_leaf, explain_leaf, asm_leaf, pack_leaf, dis_leaf, native_leaf, migrate_leaf, rule_in, check_keeps, live_keeps, flag_fills, run_keeps, draw_keeps, asm_keeps, explain_keeps, pack_keeps, dis_keeps, native_keeps, migrate_keeps, top_keeps}

-- ---- what was given

given_row : (id : Text) (rows : List Row) → is_given id rows ≡ true → (r : Row) × (find (λ r. bytes_eq r.id id) rows ≡ Some r)
given_row id rows given = go (find (λ r. bytes_eq r.id id) rows) refl given
  where
    go : (o : Option Row) → find (λ r. bytes_eq r.id id) rows ≡ o → option_map_or (λ r. explicit_source r.source) o false ≡ true
        → (r : Row) × (find (λ r. bytes_eq r.id id) rows ≡ Some r)
    go None is e = absurd (true≢false (sym e))
    go (Some r) is e = (r, is)

path_given : (id : Text) (rows : List Row) → AllByRecursion IsSound rows → is_given id rows ≡ true → (path : Text) × HasPath id rows path
path_given id rows all given =
    let row = given_row id rows given in
    let sound : IsSound row.0 = find_all IsSound _ rows row.0 all row.1 in
    (sound.text, ap (option_and_then (λ (r : Row). slice_get r.values 0)) row.1 ∙ ap (λ (vs : List Text). slice_get vs 0) sound.one)

number_found : (id : Text) (low high : ℕ) (rows : List Row) → AllByRecursion IsSound rows → ((r : Row) (s : IsSound r) → IsNumbered id low high r s.text)
    → (r : Row) → find (λ r. bytes_eq r.id id) rows ≡ Some r → (n : ℕ) × HasNumber id low high rows n
number_found id low high rows all numbered r is =
    let sound : IsSound r = find_all IsSound _ rows r all is in
    let fits = numbered r sound (find_passes _ rows r is) in
    let number = accepts-Accepts false (parser.Unsigned low high) sound.text fits.1 in
    let read : one_of id rows ≡ Some sound.text =
    ap (option_and_then row_text) is ∙ ap (λ (vs : List Text). option_map (read_as r.reading) (slice_get vs 0)) sound.one ∙ ap Some fits.0 in
    (digits_value 10 (without_leading_plus sound.text), (sound.text, read, record { digits = number.0; value = refl; least = number.2; most = number.3 }))

number_given : (id : Text) (low high : ℕ) (rows : List Row) → AllByRecursion IsSound rows → ((r : Row) (s : IsSound r) → IsNumbered id low high r s.text)
    → is_given id rows ≡ true → (n : ℕ) × HasNumber id low high rows n
number_given id low high rows all numbered given =
    let row = given_row id rows given in
    number_found id low high rows all numbered row.0 row.1

form_named : (rows : List Row) (n : ℕ) → HasNumber (codes "form") 1 3 rows n → (form : Option FileForm) × MayHaveForm rows form
form_named rows zero h = absurd (omega (arith, h.2.least))
form_named rows (suc zero) h = (Some Sbi1, h)
form_named rows (suc (suc zero)) h = (Some Sbi2, h)
form_named rows (suc (suc (suc zero))) h = (Some Sbi3, h)
form_named rows (suc (suc (suc (suc n)))) h = absurd (omega (arith, h.2.most))

-- the length of a state may be given
state_maybe : (rows : List Row) → AllByRecursion IsSound rows → (state : Option ℕ) × MayHaveState rows state
state_maybe rows all = go (find (λ r. bytes_eq r.id (codes "state")) rows) refl
  where
    go : (o : Option Row) → find (λ r. bytes_eq r.id (codes "state")) rows ≡ o → (state : Option ℕ) × MayHaveState rows state
    go None is = (None, ap (option_and_then (λ (r : Row). slice_get r.values 0)) is)
    go (Some r) is =
        let number = number_found (codes "state") 0 STATE_BYTES rows all (λ r s. s.state) r is in
        (Some number.0, number.1)

-- and so may a form
form_maybe : (rows : List Row) → AllByRecursion IsSound rows → (form : Option FileForm) × MayHaveForm rows form
form_maybe rows all = go (find (λ r. bytes_eq r.id (codes "form")) rows) refl
  where
    go : (o : Option Row) → find (λ r. bytes_eq r.id (codes "form")) rows ≡ o → (form : Option FileForm) × MayHaveForm rows form
    go None is = (None, ap (option_and_then (λ (r : Row). slice_get r.values 0)) is)
    go (Some r) is =
        let number = number_found (codes "form") 1 3 rows all (λ r s. s.form) r is in
        form_named rows number.0 number.1

-- an image of a text has a form
form_given : (rows : List Row) → AllByRecursion IsSound rows → (form : FileForm) × HasForm rows form
form_given rows all = go (form_maybe rows all)
  where
    go : (form : Option FileForm) × MayHaveForm rows form → (form : FileForm) × HasForm rows form
    go (None, h) = (Sbi1, inr (h, refl))
    go (Some form, h) = (form, inl h)

one_required : (g : Bool) → cond (not g || false) (MissingRequiredArgument ∷ []) [] ≡ [] → g ≡ true
one_required true e = refl
one_required false e = absurd (some_kind _ _ e)

two_required : (g h : Bool) → cond (not g || (not h || false)) (MissingRequiredArgument ∷ []) [] ≡ [] → (g ≡ true) × (h ≡ true)
two_required true true e = (refl, refl)
two_required true false e = absurd (some_kind _ _ e)
two_required false h e = absurd (some_kind _ _ e)

three_required : (g h i : Bool) → cond (not g || (not h || (not i || false))) (MissingRequiredArgument ∷ []) [] ≡ []
    → (g ≡ true) × (h ≡ true) × (i ≡ true)
three_required true true true e = (refl, refl, refl)
three_required true true false e = absurd (some_kind _ _ e)
three_required true false i e = absurd (some_kind _ _ e)
three_required false h i e = absurd (some_kind _ _ e)

-- a command in which no fault is found has its arguments
check_given : (words : List Text) → level_fault check_leaf [] nothing_held words false [] ≡ [] → (path : Text) × HasImage (rows_after check_leaf.rules [] words) path
check_given words none =
    let fine = level_fine IsSound check_leaf (λ p a is. find_all (Keeps IsSound false) p check_leaf.rules a check_keeps is) [] words false [] (refl, (refl, tt)) none in
    let rows = rows_after check_leaf.rules [] words in
    path_given (codes "IMAGE") rows fine.0 (one_required (is_given (codes "IMAGE") rows) fine.3)

run_given : (words : List Text) → level_fault run_leaf [] nothing_held words false [] ≡ [] → (path : Text) × HasScenario (rows_after run_leaf.rules [] words) path
run_given words none =
    let none_by = no_default IsSound run_leaf (λ p a is. find_all (Keeps IsSound false) p run_leaf.rules a run_keeps is) in
    let fine = level_filled IsSound run_leaf (λ p a is. find_all (Keeps IsSound false) p run_leaf.rules a run_keeps is) [] words false []
    (none_by (rule_in run_leaf 0) refl, (flag_fills (codes "json") (refl, refl, refl, refl), (flag_fills (codes "names") (refl, refl, refl, refl), (none_by (rule_in run_leaf 3) refl, tt)))) none in
    let rows = rows_after run_leaf.rules [] words in
    path_given (codes "SCENARIO") rows fine.0 (one_required (is_given (codes "SCENARIO") rows) fine.3)

live_given : (words : List Text) → level_fault live_leaf [] nothing_held words false [] ≡ []
    → ((path : Text) × HasScenario (rows_after live_leaf.rules [] words) path)
    × ((n : ℕ) × HasWorkers (rows_after live_leaf.rules [] words) n) × ((n : ℕ) × HasBudget (rows_after live_leaf.rules [] words) n)
live_given words none =
    let fine = level_fine IsSound live_leaf (λ p a is. find_all (Keeps IsSound false) p live_leaf.rules a live_keeps is) [] words false [] (refl, (refl, (refl, (refl, tt)))) none in
    let rows = rows_after live_leaf.rules [] words in
    let all = three_required (is_given (codes "SCENARIO") rows) (is_given (codes "workers") rows) (is_given (codes "budget") rows) fine.3 in
    (path_given (codes "SCENARIO") rows fine.0 all.0, number_given (codes "workers") 1 WORKERS rows fine.0 (λ r s. s.workers) all.1, number_given (codes "budget") 1 BUDGET rows fine.0 (λ r s. s.budget) all.2)

draw_given : (words : List Text) → level_fault draw_leaf [] nothing_held words false [] ≡ []
    → ((path : Text) × HasScenario (rows_after draw_leaf.rules [] words) path)
    × ((path : Text) × HasPath (codes "OUT") (rows_after draw_leaf.rules [] words) path)
draw_given words none =
    let none_by = no_default IsSound draw_leaf (λ p a is. find_all (Keeps IsSound false) p draw_leaf.rules a draw_keeps is) in
    let fine = level_filled IsSound draw_leaf (λ p a is. find_all (Keeps IsSound false) p draw_leaf.rules a draw_keeps is) [] words false []
    (none_by (rule_in draw_leaf 0) refl, (none_by (rule_in draw_leaf 1) refl, (flag_fills (codes "messages") (refl, refl, refl, refl), (none_by (rule_in draw_leaf 3) refl, tt)))) none in
    let rows = rows_after draw_leaf.rules [] words in
    let all = two_required (is_given (codes "SCENARIO") rows) (is_given (codes "OUT") rows) fine.3 in
    (path_given (codes "SCENARIO") rows fine.0 all.0, path_given (codes "OUT") rows fine.0 all.1)

explain_given : (words : List Text) → level_fault explain_leaf [] nothing_held words false [] ≡ [] → (path : Text) × HasImage (rows_after explain_leaf.rules [] words) path
explain_given words none =
    let none_by = no_default IsSound explain_leaf (λ p a is. find_all (Keeps IsSound false) p explain_leaf.rules a explain_keeps is) in
    let fine = level_filled IsSound explain_leaf (λ p a is. find_all (Keeps IsSound false) p explain_leaf.rules a explain_keeps is) [] words false []
    (none_by (rule_in explain_leaf 0) refl, (flag_fills (codes "why") (refl, refl, refl, refl), (none_by (rule_in explain_leaf 2) refl, tt))) none in
    let rows = rows_after explain_leaf.rules [] words in
    path_given (codes "IMAGE") rows fine.0 (one_required (is_given (codes "IMAGE") rows) fine.3)

asm_given : (words : List Text) → level_fault asm_leaf [] nothing_held words false [] ≡ []
    → ((path : Text) × HasPath (codes "SRC") (rows_after asm_leaf.rules [] words) path)
    × ((path : Text) × HasPath (codes "OUT") (rows_after asm_leaf.rules [] words) path)
    × ((n : ℕ) × HasState (rows_after asm_leaf.rules [] words) n) × ((form : FileForm) × HasForm (rows_after asm_leaf.rules [] words) form)
asm_given words none =
    let fine = level_fine IsSound asm_leaf (λ p a is. find_all (Keeps IsSound false) p asm_leaf.rules a asm_keeps is) [] words false [] (refl, (refl, (refl, (refl, (refl, tt))))) none in
    let rows = rows_after asm_leaf.rules [] words in
    let all = three_required (is_given (codes "SRC") rows) (is_given (codes "OUT") rows) (is_given (codes "state") rows) fine.3 in
    (path_given (codes "SRC") rows fine.0 all.0, path_given (codes "OUT") rows fine.0 all.1, number_given (codes "state") 0 STATE_BYTES rows fine.0 (λ r s. s.state) all.2, form_given rows fine.0)

pack_given : (words : List Text) → level_fault pack_leaf [] nothing_held words false [] ≡ []
    → ((path : Text) × HasPath (codes "CODE") (rows_after pack_leaf.rules [] words) path)
    × ((path : Text) × HasPath (codes "OUT") (rows_after pack_leaf.rules [] words) path)
    × ((state : Option ℕ) × MayHaveState (rows_after pack_leaf.rules [] words) state)
    × ((form : Option FileForm) × MayHaveForm (rows_after pack_leaf.rules [] words) form)
pack_given words none =
    let fine = level_fine IsSound pack_leaf (λ p a is. find_all (Keeps IsSound false) p pack_leaf.rules a pack_keeps is) [] words false [] (refl, (refl, (refl, (refl, (refl, (refl, tt)))))) none in
    let rows = rows_after pack_leaf.rules [] words in
    let all = two_required (is_given (codes "CODE") rows) (is_given (codes "OUT") rows) fine.3 in
    (path_given (codes "CODE") rows fine.0 all.0, path_given (codes "OUT") rows fine.0 all.1, state_maybe rows fine.0, form_maybe rows fine.0)

dis_given : (words : List Text) → level_fault dis_leaf [] nothing_held words false [] ≡ [] → (path : Text) × HasImage (rows_after dis_leaf.rules [] words) path
dis_given words none =
    let fine = level_fine IsSound dis_leaf (λ p a is. find_all (Keeps IsSound false) p dis_leaf.rules a dis_keeps is) [] words false [] (refl, (refl, tt)) none in
    let rows = rows_after dis_leaf.rules [] words in
    path_given (codes "IMAGE") rows fine.0 (one_required (is_given (codes "IMAGE") rows) fine.3)

native_given : (words : List Text) → level_fault native_leaf [] nothing_held words false [] ≡ []
    → ((path : Text) × HasImage (rows_after native_leaf.rules [] words) path)
    × ((path : Text) × HasPath (codes "OUT") (rows_after native_leaf.rules [] words) path)
native_given words none =
    let fine = level_fine IsSound native_leaf (λ p a is. find_all (Keeps IsSound false) p native_leaf.rules a native_keeps is) [] words false [] (refl, (refl, (refl, tt))) none in
    let rows = rows_after native_leaf.rules [] words in
    let all = two_required (is_given (codes "IMAGE") rows) (is_given (codes "OUT") rows) fine.3 in
    (path_given (codes "IMAGE") rows fine.0 all.0, path_given (codes "OUT") rows fine.0 all.1)

migrate_given : (words : List Text) → level_fault migrate_leaf [] nothing_held words false [] ≡ []
    → ((path : Text) × HasImage (rows_after migrate_leaf.rules [] words) path)
    × ((path : Text) × HasPath (codes "STATE") (rows_after migrate_leaf.rules [] words) path)
    × ((path : Text) × HasPath (codes "OUT") (rows_after migrate_leaf.rules [] words) path)
migrate_given words none =
    let fine = level_fine IsSound migrate_leaf (λ p a is. find_all (Keeps IsSound false) p migrate_leaf.rules a migrate_keeps is) [] words false [] (refl, (refl, (refl, (refl, tt)))) none in
    let rows = rows_after migrate_leaf.rules [] words in
    let all = three_required (is_given (codes "IMAGE") rows) (is_given (codes "STATE") rows) (is_given (codes "OUT") rows) fine.3 in
    (path_given (codes "IMAGE") rows fine.0 all.0, path_given (codes "STATE") rows fine.0 all.1, path_given (codes "OUT") rows fine.0 all.2)

-- `run` in the style that its options ask for
run_asked : (rows : List Row) (path : Text) → HasScenario rows path → (json names : Bool) → json ≡ is_set (codes "json") rows → names ≡ is_set (codes "names") rows
    → (o : Order) × AsksIn (codes "run") rows o
run_asked rows path given true names json_is names_is = (order.Tell path true names, (refl, given, json_is, names_is, refl))
run_asked rows path given false true json_is names_is = (order.Tell path false true, (refl, given, json_is, names_is, refl))
run_asked rows path given false false json_is names_is = (order.Run path, (refl, given, sym json_is, sym names_is))

-- `explain` of an image, or of a rule
explain_asked : (rows : List Row) (path : Text) → HasImage rows path → (why : Bool) → why ≡ is_set (codes "why") rows → (o : Order) × AsksIn (codes "explain") rows o
explain_asked rows path given true is = (order.Why path, (refl, given, sym is))
explain_asked rows path given false is = (order.Explain path, (refl, given, sym is))

-- the command that the words name
abbrev named : Bool → Bool → Bool → Bool → Bool → Bool → Bool → Bool → Bool → Bool → Bool → Option Shape
named run live draw check explain asm pack dis native migrate help =
    cond run (Some run_leaf) (cond live (Some live_leaf) (cond draw (Some draw_leaf) (cond check (Some check_leaf) (cond explain (Some explain_leaf)
    (cond asm (Some asm_leaf) (cond pack (Some pack_leaf) (cond dis (Some dis_leaf) (cond native (Some native_leaf) (cond migrate (Some migrate_leaf)
    (cond help (Some (get_or program.subs 10 program.top)) None))))))))))

order_by : (run live draw check explain asm pack dis native migrate help : Bool) (words : List Text) → (help ≡ true → ⊥)
    → option_map_or (λ s. level_fault s [] nothing_held words false []) (named run live draw check explain asm pack dis native migrate help) [] ≡ []
    → is_some (option_map (λ s. rows_at s words) (named run live draw check explain asm pack dis native migrate help)) ≡ true
    → (o : Order) × AsksBy (option_map (λ s. rows_at s words) (named run live draw check explain asm pack dis native migrate help)) o
order_by true live draw check explain asm pack dis native migrate help words no_help none has =
    let given = run_given words none in
    run_asked (rows_after run_leaf.rules [] words) given.0 given.1 _ _ refl refl
order_by false true draw check explain asm pack dis native migrate help words no_help none has =
    let given = live_given words none in
    (order.Live given.0.0 given.1.0 given.2.0, (refl, given.0.1, given.1.1, given.2.1))
order_by false false true check explain asm pack dis native migrate help words no_help none has =
    let given = draw_given words none in
    (order.Draw given.0.0 given.1.0 (is_set (codes "messages") (rows_after draw_leaf.rules [] words)), (refl, given.0.1, given.1.1, refl))
order_by false false false true explain asm pack dis native migrate help words no_help none has =
    let given = check_given words none in
    (order.Check given.0, (refl, given.1))
order_by false false false false true asm pack dis native migrate help words no_help none has =
    let given = explain_given words none in
    explain_asked (rows_after explain_leaf.rules [] words) given.0 given.1 _ refl
order_by false false false false false true pack dis native migrate help words no_help none has =
    let given = asm_given words none in
    (order.Asm given.0.0 given.1.0 given.2.0 given.3.0, (refl, given.0.1, given.1.1, given.2.1, given.3.1))
order_by false false false false false false true dis native migrate help words no_help none has =
    let given = pack_given words none in
    (order.Pack given.0.0 given.1.0 given.2.0 given.3.0 (first_of (codes "function") (rows_after pack_leaf.rules [] words)), (refl, given.0.1, given.1.1, given.2.1, given.3.1, refl))
order_by false false false false false false false true native migrate help words no_help none has =
    let given = dis_given words none in
    (order.Dis given.0, (refl, given.1))
order_by false false false false false false false false true migrate help words no_help none has =
    let given = native_given words none in
    (order.Native given.0.0 given.1.0, (refl, given.0.1, given.1.1))
order_by false false false false false false false false false true help words no_help none has =
    let given = migrate_given words none in
    (order.Migrate given.0.0 given.1.0 given.2.0, (refl, given.0.1, given.1.1, given.2.1))
order_by false false false false false false false false false false true words no_help none has = absurd (no_help refl)
order_by false false false false false false false false false false false words no_help none has = absurd (true≢false (sym has))

or_false : (b : Bool) → (b || false) ≡ true → b ≡ true
or_false true e = refl
or_false false e = e

not_named_help : (name : Text) → bytes_eq name (codes "help") ≡ false → (bytes_eq (codes "help") name || false) ≡ true → ⊥
not_named_help name other is =
    let same : codes "help" ≡ name = (bytes_eq-Decides (codes "help") name).0 (or_false _ is) in
    let found : bytes_eq name (codes "help") ≡ true = (bytes_eq-Decides name (codes "help")).1 (sym same) in
    true≢false (sym found ∙ other)

wants_command : (has : Bool) → check_kinds (not has && false) (not has && true) false ≡ [] → has ≡ true
wants_command true e = refl
wants_command false e = absurd (some_kind _ _ e)

-- words in which no fault is found ask for something
pub asks_something : (words : List Text) → fault_of sblog_app words ≡ [] → (o : Order) × AsksFor words o
asks_something words none =
    let stop = stop_after program.top.rules (names_of program) words in
    let fine = level_fine IsSound program.top (λ p a is. find_all (Keeps IsSound false) p program.top.rules a top_keeps is) (names_of program) words
    (is_some (entered program stop)) (entered_fault program stop) (refl, tt) none in
    let has : is_some (entered program stop) ≡ true = wants_command (is_some (entered program stop)) fine.3 in
    let order = from stop fine.1 fine.2 has in
    (order.0, (none, order.1))
  where
    from : (o : Option (Text × List Text)) → IsFineStop program.top o → entered_fault program o ≡ [] → is_some (entered program o) ≡ true
        → (x : Order) × AsksBy (entered program o) x
    from None fine none has = absurd (true≢false (sym has))
    from (Some p) fine none has =
        order_by (bytes_eq (codes "run") p.0 || false) (bytes_eq (codes "live") p.0 || false) (bytes_eq (codes "draw") p.0 || false)
        (bytes_eq (codes "check") p.0 || false) (bytes_eq (codes "explain") p.0 || false) (bytes_eq (codes "asm") p.0 || false)
        (bytes_eq (codes "pack") p.0 || false) (bytes_eq (codes "dis") p.0 || false) (bytes_eq (codes "native") p.0 || false)
        (bytes_eq (codes "migrate") p.0 || false) (bytes_eq (codes "help") p.0 || false) p.1
        (not_named_help p.0 (fine refl)) none has
