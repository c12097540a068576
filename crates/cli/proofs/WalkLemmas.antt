-- What a parse that found no fault says of one level: of the rows that it made, and of the command that it met.
use Rattle.std.proofs.Common.{◌≡◌, ◌&&◌, ℕ, Bool, cond, true, false, not, zero, suc, true≢false, refl, List, [], ◌∷◌, length, drop, Option, Some, None, is_some, codes, ap, sym, subst}
use Rattle.std.specs.Prelude.{encode_utf8, slice_get}
use Rattle.std.specs.List.{AllByRecursion, find, fold}
use Rattle.std.specs.Option.{option_map_or}
use Rattle.std.specs.Str.{bytes_eq, chars}
use Rattle.clap.specs.Words.{Row, Rule, Text}
use Rattle.clap.specs.Kinds.{Kinds, or_else}
use Rattle.clap.specs.declared.error.ErrorKind.{ErrorKind}
use Rattle.clap.specs.declared.error.ErrorKind.TheVariants.{DisplayHelp, InvalidSubcommand, TooManyValues}
use Rattle.clap.specs.Lexer.{long_of, short_of}
use Rattle.clap.specs.Simple.{Shape}
use Rattle.clap.specs.Walk.{Held, Names, Outcome, Step, Waiting, Walk, after_flag, after_step, arg_by_id, arg_by_index, arg_by_long, arg_by_short, attached_value, bundle_met, bundle_step, default_rows, done, finished, flag_met, has_row, idle, is_pending, long_met, long_or_other, next, nothing_held, option, option_met, option_word, plain, plain_word, positional, reacted, reading_by, refused, settled, settled_rows, short_met, short_or_plain, subcommand, subcommand_met, subcommand_or_other, takes_several, takes_values, to_positional, trailing, used, used_by_id, value, waits, walk, walk_from, walked, walked_from, with_default, word_met}
use Rattle.clap.specs.Faults.{bundle_fault, bundle_step_fault, check_fault, defaults_fault, flag_word_fault, flags_fault, level_fault, long_fault, option_fault, other_fault, positional_fault, react_fault, settle_fault, short_fault, step_fault, stray_fault, turn_fault, use_fault, walk_fault, word_fault}

-- ---- no kind of fault

is_none : Kinds → Bool
is_none [] = true
is_none (k ∷ ks) = false

pub some_kind : (k : ErrorKind) (ks : Kinds) → k ∷ ks ≡ [] → ⊥
unfolding is_none
some_kind k ks e = true≢false (sym (ap is_none e))

-- if neither of two finds a fault, the first finds none
pub first_none : (a b : Kinds) → or_else a b ≡ [] → a ≡ []
first_none [] b none = refl
first_none (k ∷ ks) b none = none

-- nor does the second
pub second_none : (a b : Kinds) → or_else a b ≡ [] → b ≡ []
second_none [] b none = none
second_none (k ∷ ks) b none = absurd (some_kind k ks none)

-- ---- one level

-- a step names no command `help`, if that one is there
abbrev pub IsFineStep : Shape → Step → Type 0
IsFineStep s (subcommand name) = s.disable_help_subcommand ≡ false → bytes_eq name (codes "help") ≡ false
IsFineStep s (next waiting) = Unit {0}
IsFineStep s (trailing position) = Unit {0}
IsFineStep s value = Unit {0}

-- nor does a walk
abbrev pub IsFineStop : Shape → Option (Text × List Text) → Type 0
IsFineStop s None = Unit {0}
IsFineStop s (Some p) = s.disable_help_subcommand ≡ false → bytes_eq p.0 (codes "help") ≡ false

-- a use of the argument that finds no fault keeps what holds of each row
abbrev pub Keeps : (Row → Type 0) → Bool → Rule → Type 0
Keeps P again a = (values : List Text) (rows : List Row) → use_fault again a values rows ≡ [] → AllByRecursion P rows → AllByRecursion P (used a values rows)

-- so does leaving it out
abbrev pub Fills : (Row → Type 0) → Rule → Type 0
Fills P a = (rows : List Row) → AllByRecursion P rows → AllByRecursion P (with_default rows a)

module _ (P : Row → Type 0) (s : Shape) (keeps : (p : Rule → Bool) (a : Rule) → find p s.rules ≡ Some a → Keeps P s.args_override_self a) where
  abbrev All : List Row → Type 0
  All = AllByRecursion P

  used_if_found : (o : Option Rule) (values : List Text) (rows : List Row) → ((a : Rule) → o ≡ Some a → Keeps P s.args_override_self a)
      → option_map_or (λ a. use_fault s.args_override_self a values rows) o [] ≡ [] → All rows → All (used_by_id o values rows)
  used_if_found None values rows good none all = all
  used_if_found (Some a) values rows good none all = good a refl values rows none all

  settled_if_pending : (p : Option (Text × List Text)) (rows : List Row)
      → option_map_or (λ p. option_map_or (λ a. use_fault s.args_override_self a p.1 rows) (arg_by_id s.rules p.0) []) p [] ≡ [] → All rows → All (settled_rows s.rules p rows)
  settled_if_pending None rows none all = all
  settled_if_pending (Some p) rows none all = used_if_found (arg_by_id s.rules p.0) p.1 rows (λ a is. keeps (λ b. bytes_eq b.id p.0) a is) none all

  -- to settle an argument that waits for its values keeps what holds of each row
  pub settle_keeps : (h : Held) → settle_fault s.rules s.args_override_self h ≡ [] → All h.rows → All (settled s.rules h).rows
  settle_keeps h none all = settled_if_pending h.pending h.rows none all

  react_keeps : (a : Rule) (values : List Text) (h : Held) → Keeps P s.args_override_self a
      → react_fault s.rules s.args_override_self a values h ≡ [] → All h.rows → All (reacted s.rules a values h).rows
  react_keeps a values h good none all =
      good values (settled s.rules h).rows (second_none (settle_fault s.rules s.args_override_self h) _ none)
      (settle_keeps h (first_none _ (use_fault s.args_override_self a values (settled s.rules h).rows) none) all)

  option_keeps : (a : Rule) (v : Option Text) (h : Held) → Keeps P s.args_override_self a
      → option_fault s.rules s.args_override_self a v h ≡ [] → All h.rows → All (option_met s.rules a v h).0.rows
  option_keeps a (Some v) h good none all = react_keeps a (v ∷ []) h good none all
  option_keeps a None h good none all = settle_keeps h none all

  flag_keeps : (a : Rule) (v : Option Text) (h : Held) → Keeps P s.args_override_self a
      → cond (is_some v) (TooManyValues ∷ []) (react_fault s.rules s.args_override_self a [] h) ≡ [] → All h.rows → All (flag_met s.rules a v h).0.rows
  flag_keeps a (Some v) h good none all = all
  flag_keeps a None h good none all = react_keeps a [] h good none all

  long_if : (b : Bool) (a : Rule) (v : Option Text) (h : Held) → Keeps P s.args_override_self a
      → cond b (option_fault s.rules s.args_override_self a v h) (cond (is_some v) (TooManyValues ∷ []) (react_fault s.rules s.args_override_self a [] h)) ≡ []
      → All h.rows → All (cond b (option_met s.rules a v h) (flag_met s.rules a v h)).0.rows
  long_if true a v h good none all = option_keeps a v h good none all
  long_if false a v h good none all = flag_keeps a v h good none all

  long_keeps : (o : Option Rule) (v : Option Text) (h : Held) → ((a : Rule) → o ≡ Some a → Keeps P s.args_override_self a)
      → long_fault s.rules s.args_override_self o v h ≡ [] → All h.rows → All (long_met s.rules o v h).0.rows
  long_keeps None v h good none all = all
  long_keeps (Some a) v h good none all = long_if (takes_values a) a v h (good a refl) none all

  -- what the rest of a bundle of flags keeps
  abbrev KeepsNext : (Held → Held × Outcome) → (Held → Kinds) → Type 0
  KeepsNext go fault = (h : Held) → fault h ≡ [] → All h.rows → All (go h).0.rows

  short_if : (b : Bool) (a : Rule) (rest : Text) (h : Held) (go : Held → Held × Outcome) (fault : Held → Kinds) → KeepsNext go fault → Keeps P s.args_override_self a
      → cond b (option_fault s.rules s.args_override_self a (attached_value rest) h) (or_else (react_fault s.rules s.args_override_self a [] h) (fault (reacted s.rules a [] h))) ≡ []
      → All h.rows → All (cond b (option_met s.rules a (attached_value rest) h) (go (reacted s.rules a [] h))).0.rows
  short_if true a rest h go fault later good none all = option_keeps a (attached_value rest) h good none all
  short_if false a rest h go fault later good none all =
      later (reacted s.rules a [] h) (second_none (react_fault s.rules s.args_override_self a [] h) _ none)
      (react_keeps a [] h good (first_none _ (fault (reacted s.rules a [] h)) none) all)

  short_keeps : (o : Option Rule) (rest : Text) (h : Held) (go : Held → Held × Outcome) (fault : Held → Kinds) → KeepsNext go fault
      → ((a : Rule) → o ≡ Some a → Keeps P s.args_override_self a)
      → short_fault s.rules s.args_override_self o rest h fault ≡ [] → All h.rows → All (short_met s.rules o rest h go).0.rows
  short_keeps None rest h go fault later good none all = all
  short_keeps (Some a) rest h go fault later good none all = short_if (takes_values a) a rest h go fault later (good a refl) none all

  bundle_step_keeps : (o : Option ℕ) (flags : Text) (skip : ℕ) (so_far : Outcome) (h : Held)
      (go : Text → ℕ → Outcome → Held → Held × Outcome) (fault : Text → ℕ → Held → Kinds)
      → ((t : Text) (n : ℕ) (out : Outcome) → KeepsNext (go t n out) (fault t n))
      → bundle_step_fault s.rules s.args_override_self o flags skip h fault ≡ [] → All h.rows → All (bundle_step s.rules o flags skip so_far h go).0.rows
  bundle_step_keeps None flags skip so_far h go fault later none all = all
  bundle_step_keeps (Some x) flags zero so_far h go fault later none all =
      short_keeps (arg_by_short s.rules x) (drop (length (encode_utf8 x)) flags) h (go (drop (length (encode_utf8 x)) flags) 0 done) (fault (drop (length (encode_utf8 x)) flags) 0)
      (later (drop (length (encode_utf8 x)) flags) 0 done) (λ a is. keeps _ a is) none all
  bundle_step_keeps (Some x) flags (suc skip) so_far h go fault later none all = later (drop (length (encode_utf8 x)) flags) skip so_far h none all

  bundle_keeps : (k : ℕ) (flags : Text) (skip : ℕ) (so_far : Outcome) → KeepsNext (bundle_met s.rules k flags skip so_far) (flags_fault s.rules s.args_override_self k flags skip)
  unfolding bundle_met flags_fault
  bundle_keeps zero flags skip so_far h none all = all
  bundle_keeps (suc k) flags skip so_far h none all =
      bundle_step_keeps (slice_get (chars flags) 0) flags skip so_far h (bundle_met s.rules k) (flags_fault s.rules s.args_override_self k) (bundle_keeps k) none all

  -- ---- one word

  abbrev IsFine : Held × Step → Type 0
  IsFine met = All met.0.rows × IsFineStep s met.1

  pushed_fine : (o : Option Rule) (id word : Text) (h : Held) → All h.rows → IsFine ((option_word o id word h).0, next (option_word o id word h).1)
  pushed_fine None id word h all = (all, tt)
  pushed_fine (Some a) id word h all = (all, tt)

  plain_fine : (waiting : Waiting) (word : Text) (h : Held) → All h.rows → IsFine (plain_word s.rules waiting word h)
  plain_fine idle word h all = (all, tt)
  plain_fine (option id) word h all = pushed_fine (arg_by_id s.rules id) id word h all
  plain_fine positional word h all = (all, tt)

  flag_fine : (waiting : Waiting) (word : Text) (h : Held) (out : Outcome) → All h.rows → IsFine (after_flag s.rules waiting word h out)
  flag_fine waiting word h done all = (all, tt)
  flag_fine waiting word h (waits id) all = (all, tt)
  flag_fine waiting word h plain all = plain_fine waiting word h all
  flag_fine waiting word h refused all = plain_fine waiting word h all

  short_fine : (o : Option Text) (waiting : Waiting) (word : Text) (h : Held) → option_map_or (λ flags. bundle_fault s.rules s.args_override_self flags h) o [] ≡ []
      → All h.rows → IsFine (short_or_plain s.rules waiting word o h)
  short_fine (Some flags) waiting word h none all = flag_fine waiting word _ _ (bundle_keeps (length flags) flags h.skip plain (record h { skip = 0 }) none all)
  short_fine None waiting word h none all = plain_fine waiting word h all

  long_fine : (o : Option (Text × Option Text)) (waiting : Waiting) (word : Text) (h : Held) → flag_word_fault s.rules s.args_override_self o word h ≡ []
      → All h.rows → IsFine (long_or_other s.rules waiting word o h)
  long_fine (Some p) waiting word h none all = flag_fine waiting word _ _ (long_keeps (arg_by_long s.rules p.0) p.1 h (λ a is. keeps _ a is) none all)
  long_fine None waiting word h none all = short_fine (short_of word) waiting word h none all

  dashes_fine : (b : Bool) (waiting : Waiting) (position : ℕ) (word : Text) (h : Held)
      → cond b [] (flag_word_fault s.rules s.args_override_self (long_of word) word h) ≡ []
      → All h.rows → IsFine (cond b (h, trailing position) (long_or_other s.rules waiting word (long_of word) h))
  dashes_fine true waiting position word h none all = (all, tt)
  dashes_fine false waiting position word h none all = long_fine (long_of word) waiting word h none all

  not_help : (is_help disabled : Bool) → cond (is_help && not disabled) (DisplayHelp ∷ InvalidSubcommand ∷ []) [] ≡ [] → disabled ≡ false → is_help ≡ false
  not_help false disabled none enabled = refl
  not_help true true none enabled = enabled
  not_help true false none enabled = absurd (some_kind _ _ none)

  other_fine : (o : Option Text) (waiting : Waiting) (position : ℕ) (word : Text) (h : Held) → other_fault s o word h ≡ []
      → All h.rows → IsFine (subcommand_or_other s.rules o waiting position word h)
  other_fine (Some name) waiting position word h none all = (all, not_help (bytes_eq name (codes "help")) s.disable_help_subcommand none)
  other_fine None waiting position word h none all = dashes_fine (bytes_eq word (45 ∷ 45 ∷ [])) waiting position word h none all

  word_fine : (is_trailing : Bool) (names : Names) (waiting : Waiting) (position : ℕ) (word : Text) (h : Held) → word_fault s names is_trailing waiting word h ≡ []
      → All h.rows → IsFine (word_met s.rules names is_trailing waiting position word h)
  word_fine true names waiting position word h none all = (all, tt)
  word_fine false names waiting position word h none all = other_fine (subcommand_met names waiting word) waiting position word h none all

  -- ---- the walk

  abbrev IsFineWalk : Walk → Type 0
  IsFineWalk w = All w.held.rows × IsFineStop s w.stopped

  held_if : (b : Bool) (h : Held) → cond b [] (settle_fault s.rules s.args_override_self h) ≡ [] → All h.rows → All (cond b h (settled s.rules h)).rows
  held_if true h none all = all
  held_if false h none all = settle_keeps h none all

  positional_fine : (o : Option Rule) (word : Text) (w : Walk) (h : Held) → option_map_or (λ a. positional_fault s.rules s.args_override_self a h) o [] ≡ []
      → All h.rows → IsFineStop s w.stopped → IsFineWalk (to_positional s.rules o word w h)
  positional_fine None word w h none all stop = (all, stop)
  positional_fine (Some a) word w h none all stop = (held_if (is_pending a h.pending && takes_several a) h none all, tt)

  after_step_fine : (word : Text) (w : Walk) (h : Held) (step : Step) → step_fault s w.position h step ≡ [] → IsFine (h, step) → IsFineStop s w.stopped
      → IsFineWalk (after_step s.rules word w h step)
  after_step_fine word w h (next waiting) none fine stop = (fine.0, stop)
  after_step_fine word w h (trailing position) none fine stop = (fine.0, stop)
  after_step_fine word w h (subcommand name) none fine stop = (fine.0, fine.1)
  after_step_fine word w h value none fine stop = stray (arg_by_index s.rules w.position) none
    where
      stray : (o : Option Rule) → option_map_or (λ a. positional_fault s.rules s.args_override_self a h) o (stray_fault s) ≡ [] → IsFineWalk (to_positional s.rules o word w h)
      stray None e = (fine.0, stop)
      stray (Some a) e = positional_fine (Some a) word w h e fine.0 stop

  turn_from : (stopped : Option (Text × List Text)) (names : Names) (w : Walk) (word : Text)
      → cond (is_some stopped) [] (or_else (word_fault s names w.is_trailing w.waiting word w.held)
      (step_fault s w.position (word_met s.rules names w.is_trailing w.waiting w.position word w.held).0 (word_met s.rules names w.is_trailing w.waiting w.position word w.held).1)) ≡ []
      → IsFineWalk w → IsFineStop s stopped → IsFineWalk (walked_from s.rules names stopped w word)
  turn_from (Some p) names w word none fine stop = (fine.0, stop)
  turn_from None names w word none fine stop =
      after_step_fine word w _ _ (second_none (word_fault s names w.is_trailing w.waiting word w.held) _ none)
      (word_fine w.is_trailing names w.waiting w.position word w.held (first_none (word_fault s names w.is_trailing w.waiting word w.held) _ none) fine.0) fine.1

  turn_fine : (names : Names) (w : Walk) (word : Text) → turn_fault s names w word ≡ [] → IsFineWalk w → IsFineWalk (walked s.rules names w word)
  unfolding walked
  turn_fine names w word none fine = turn_from w.stopped names w word none fine fine.1

  walk_fine : (names : Names) (w : Walk) (words : List Text) → walk_fault s names w words ≡ [] → IsFineWalk w → IsFineWalk (fold (walked s.rules names) w words)
  unfolding walk_fault
  walk_fine names w [] none fine = fine
  walk_fine names w (word ∷ rest) none fine =
      walk_fine names (walked s.rules names w word) rest (second_none (turn_fault s names w word) _ none) (turn_fine names w word (first_none (turn_fault s names w word) _ none) fine)

  -- ---- the end of the walk

  default_if : (b : Bool) (a : Rule) (rows : List Row) → a.defaults ≡ [] → All rows → All (cond b rows (default_rows a.id (reading_by a) a.defaults rows))
  default_if true a rows empty all = all
  default_if false a rows empty all = subst (λ d. All (default_rows a.id (reading_by a) d rows)) (sym empty) all

  -- an argument without default values leaves the rows as they are
  pub no_default : (a : Rule) → a.defaults ≡ [] → Fills P a
  no_default a empty rows all = default_if (has_row a.id rows) a rows empty all

  filled : (rules : List Rule) (rows : List Row) → AllByRecursion (Fills P) rules → All rows → All (fold with_default rows rules)
  filled [] rows fill all = all
  filled (a ∷ rest) rows fill all = filled rest (with_default rows a) fill.1 (fill.0 rows all)

  no_defaults : (rules : List Rule) → AllByRecursion (λ a. a.defaults ≡ []) rules → AllByRecursion (Fills P) rules
  no_defaults [] none = tt
  no_defaults (a ∷ rest) none = (no_default a none.0, no_defaults rest none.1)

  -- what a level without a fault comes to
  pub level_filled : (names : Names) (words : List Text) (has : Bool) (below : Kinds) → AllByRecursion (Fills P) s.rules
      → level_fault s names nothing_held words has below ≡ []
      → All (finished s.rules (walk s.rules names nothing_held words).held) × IsFineStop s (walk s.rules names nothing_held words).stopped
      × (below ≡ []) × (check_fault s (finished s.rules (walk s.rules names nothing_held words).held) has ≡ [])
  level_filled names words has below fill none =
      let end = (walk s.rules names nothing_held words).held in
      let fine = walk_fine names (walk_from nothing_held) words (first_none _ _ none) (tt, tt) in
      let later = second_none (walk_fault s names (walk_from nothing_held) words) _ none in
      let settles = second_none below _ later in
      let ends = second_none (settle_fault s.rules s.args_override_self end) _ settles in (
        filled s.rules (settled s.rules end).rows fill (settle_keeps end (first_none _ _ settles) fine.0),
        fine.1,
        first_none below _ later,
        second_none (defaults_fault (settled s.rules end).rows s.rules) _ ends,
      )

  -- the same of a level without default values
  pub level_fine : (names : Names) (words : List Text) (has : Bool) (below : Kinds) → AllByRecursion (λ a. a.defaults ≡ []) s.rules
      → level_fault s names nothing_held words has below ≡ []
      → All (finished s.rules (walk s.rules names nothing_held words).held) × IsFineStop s (walk s.rules names nothing_held words).stopped
      × (below ≡ []) × (check_fault s (finished s.rules (walk s.rules names nothing_held words).held) has ≡ [])
  level_fine names words has below none = level_filled names words has below (no_defaults s.rules none)
