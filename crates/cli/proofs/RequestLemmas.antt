-- What the matches of `clap` give a request.
use Rattle.std.proofs.Common.{◌≡◌, ◌≢◌, ◌^◌, ◌<◌, ◌≤◌, ◌∙◌, ℕ, List, [], true, refl, sym, ap, subst, arith, slice_index, inl, inr, IfSome, codes, Option, Some, None, Result, Ok, Err}
use Rattle.std.specs.Str.Parse.{ParsesUnsigned}
use Rattle.limits.specs.declared.TheConstants.{STATE_BYTES}
use Rattle.clap.specs.Words.{App, HasMatchesOf, ReadsOne, first_of, Row, Text, fault_of, found_of, is_simple, one_text, rows_of, subcommand_of, subcommand_rows_of}
use Rattle.clap.specs.Words.{HasKind, IsAmong, is_simple_and_free, kind_of}
use Rattle.clap.specs.declared.error.Error.{Error}
use Rattle.clap.specs.declared.parser.matches.ArgMatches.{ArgMatches}
use Rattle.clap.proofs.OnLiterals.{clap_on_literals}
use Rattle.clap.proofs.WalkLemmas.{one_text-rows}
use Rattle.verifier.specs.FileForm.{file_form_number}
use Rattle.verifier.specs.declared.file_form.FileForm.{FileForm}
use Rattle.verifier.specs.declared.file_form.FileForm.TheVariants.{Sbi1, Sbi2, Sbi3}
use Rattle.cli.specs.Asks.{AsksBy, AsksIn, Explains, HasBudget, HasForm, HasNumber, HasState, HasWorkers, IsInRange, IsRefusal, MayHaveForm, MayHaveState, Order}
use Rattle.cli.specs.Asks as order
use Rattle.cli.specs.declared.refusal.UsageRefusal.{UsageRefusal}
use Rattle.cli.specs.declared.refusal.UsageRefusal.TheVariants as refusal
use Rattle.cli.specs.Program.{sblog_app}

some≢none : {X : Type 0} (x : X) → Some x ≡ None → ⊥
some≢none x e = cc

-- what `get_one` reads of an argument is its number, if that is in its range
module _ {E : Type 0} (G : Text → Result ℕ E → Type 0) (m : ArgMatches) (id : Text) (low high : ℕ)
    (parses : (t : Text) (x : Result ℕ E) → G t x → ParsesUnsigned 64 10 t x) where
  -- what is read as no number is none
  pub no_number : high < 2 ^ 64 → ((t : Text) → one_text (found_of m) id ≡ Some t → ReadsOne G t None)
      → (n : ℕ) → HasNumber id low high (rows_of (found_of m)) n → ⊥
  no_number limit value n h =
      let text : one_text (found_of m) id ≡ Some h.0 = one_text-rows (found_of m) id ∙ h.1 in
      let read = value h.0 text in
      parses h.0 (Err read.0) read.1 (h.2.digits, omega (arith, limit, h.2.value, h.2.most))

  -- nor is what is read as a number out of range
  pub other_number : (n : ℕ) → ((t : Text) → one_text (found_of m) id ≡ Some t → ReadsOne G t (Some n))
      → (low ≤ n → n ≤ high → ⊥) → (k : ℕ) → HasNumber id low high (rows_of (found_of m)) k → ⊥
  other_number n value outside k h =
      let text : one_text (found_of m) id ≡ Some h.0 = one_text-rows (found_of m) id ∙ h.1 in
      let read = parses h.0 (Ok n) (value h.0 text) in
      outside (omega (arith, h.2.value, h.2.least, read.1)) (omega (arith, h.2.value, h.2.most, read.1))

  -- what is read as one in range is the argument's
  pub number_read : (n : ℕ) → (one_text (found_of m) id ≡ None → Some n ≡ None)
      → ((t : Text) → one_text (found_of m) id ≡ Some t → ReadsOne G t (Some n))
      → low ≤ n → n ≤ high → HasNumber id low high (rows_of (found_of m)) n
  number_read n none value least most = go (one_text (found_of m) id) refl
    where
      go : (o : Option Text) → one_text (found_of m) id ≡ o → HasNumber id low high (rows_of (found_of m)) n
      go None e = absurd (some≢none n (none e))
      go (Some t) e =
          let read = parses t (Ok n) (value t e) in
          (t, sym (one_text-rows (found_of m) id) ∙ e, record { digits = read.0.0; value = read.1; least = least; most = most })

-- if `--form` was given, and as no number, there is no form
pub no_form : (rows : List Row) (path : Text) → Some path ≡ first_of (codes "form") rows → ((n : ℕ) → HasNumber (codes "form") 1 3 rows n → ⊥)
    → (form : Option FileForm) → MayHaveForm rows form → ⊥
no_form rows path given none None h = some≢none path (given ∙ h)
no_form rows path given none (Some form) h = none (file_form_number form) h

-- the same of `--state`
pub no_state : (rows : List Row) (path : Text) → Some path ≡ first_of (codes "state") rows → ((n : ℕ) → HasState rows n → ⊥)
    → (state : Option ℕ) → MayHaveState rows state → ⊥
no_state rows path given none None h = some≢none path (given ∙ h)
no_state rows path given none (Some n) h = none n h

-- with no form that may be given there is none
pub no_form_at_all : (rows : List Row) → ((form : Option FileForm) → MayHaveForm rows form → ⊥) → (form : FileForm) → HasForm rows form → ⊥
no_form_at_all rows none form (inl h) = none (Some form) h
no_form_at_all rows none form (inr h) = none None h.0

-- the number that is neither 1 nor 2 is 3
pub third_form : (rows : List Row) (n : ℕ) → n ≢ 1 → n ≢ 2 → HasNumber (codes "form") 1 3 rows n → MayHaveForm rows (Some Sbi3)
third_form rows n other another h =
    let three : n ≡ 3 = omega (arith, other, another, h.2.least, h.2.most) in
    subst (HasNumber (codes "form") 1 3 rows) three h

-- the length of a state that was given is in range
state_in_range : (rows : List Row) (state : Option ℕ) → MayHaveState rows state → IfSome state (λ n. n ≤ STATE_BYTES)
state_in_range rows None h = tt
state_in_range rows (Some n) h = h.2.most

-- what is asked for is in range
pub asked_in_range : (used : Option (Text × List Row)) (o : Order) → AsksBy used o → IsInRange o
asked_in_range None o asks = absurd asks
asked_in_range (Some used) (order.Check image) asks = tt
asked_in_range (Some used) (order.Explain image) asks = tt
asked_in_range (Some used) (order.Why rule) asks = tt
asked_in_range (Some used) (order.Run scenario) asks = tt
asked_in_range (Some used) (order.Tell scenario json names) asks = tt
asked_in_range (Some used) (order.Live scenario workers budget) asks = (asks.2.2.least, asks.2.2.most, asks.3.2.least, asks.3.2.most)
asked_in_range (Some used) (order.Draw scenario picture only) asks = tt
asked_in_range (Some used) (order.Asm source image state form) asks = asks.3.2.most
asked_in_range (Some used) (order.Pack code image state form function) asks = state_in_range used.1 state asks.3
asked_in_range (Some used) (order.Dis image) asks = tt
asked_in_range (Some used) (order.Native image code) asks = tt
asked_in_range (Some used) (order.Migrate image state converted) asks = tt

-- commands whose names begin differently
unlike : (name other : Text) → slice_index name 0 ≢ slice_index other 0 → name ≡ other → ⊥
unlike name other differ same = differ (ap (λ (t : Text). slice_index t 0) same)

-- with no length, or no form, there is no order for an image
pub no_asm : (rows : List Row) → ((n : ℕ) (form : FileForm) → HasState rows n → HasForm rows form → ⊥)
    → (o : Order) → AsksIn (codes "asm") rows o → ⊥
no_asm rows none (order.Run scenario) h = unlike (codes "asm") (codes "run") (λ (e : ◌≡◌ {A = ℕ} 97 114). omega arith) h.0
no_asm rows none (order.Tell scenario json names) h = unlike (codes "asm") (codes "run") (λ (e : ◌≡◌ {A = ℕ} 97 114). omega arith) h.0
no_asm rows none (order.Live scenario workers budget) h = unlike (codes "asm") (codes "live") (λ (e : ◌≡◌ {A = ℕ} 97 108). omega arith) h.0
no_asm rows none (order.Draw scenario picture only) h = unlike (codes "asm") (codes "draw") (λ (e : ◌≡◌ {A = ℕ} 97 100). omega arith) h.0
no_asm rows none (order.Check image) h = unlike (codes "asm") (codes "check") (λ (e : ◌≡◌ {A = ℕ} 97 99). omega arith) h.0
no_asm rows none (order.Explain image) h = unlike (codes "asm") (codes "explain") (λ (e : ◌≡◌ {A = ℕ} 97 101). omega arith) h.0
no_asm rows none (order.Why rule) h = unlike (codes "asm") (codes "explain") (λ (e : ◌≡◌ {A = ℕ} 97 101). omega arith) h.0
no_asm rows none (order.Asm source image state form) h = none state form h.3 h.4
no_asm rows none (order.Pack code image state form function) h = unlike (codes "asm") (codes "pack") (λ (e : ◌≡◌ {A = ℕ} 97 112). omega arith) h.0
no_asm rows none (order.Dis image) h = unlike (codes "asm") (codes "dis") (λ (e : ◌≡◌ {A = ℕ} 97 100). omega arith) h.0
no_asm rows none (order.Native image code) h = unlike (codes "asm") (codes "native") (λ (e : ◌≡◌ {A = ℕ} 97 110). omega arith) h.0
no_asm rows none (order.Migrate image state converted) h = unlike (codes "asm") (codes "migrate") (λ (e : ◌≡◌ {A = ℕ} 97 109). omega arith) h.0

-- the same of `pack`
pub no_pack : (rows : List Row) → ((state : Option ℕ) (form : Option FileForm) → MayHaveState rows state → MayHaveForm rows form → ⊥)
    → (o : Order) → AsksIn (codes "pack") rows o → ⊥
no_pack rows none (order.Run scenario) h = unlike (codes "pack") (codes "run") (λ (e : ◌≡◌ {A = ℕ} 112 114). omega arith) h.0
no_pack rows none (order.Tell scenario json names) h = unlike (codes "pack") (codes "run") (λ (e : ◌≡◌ {A = ℕ} 112 114). omega arith) h.0
no_pack rows none (order.Live scenario workers budget) h = unlike (codes "pack") (codes "live") (λ (e : ◌≡◌ {A = ℕ} 112 108). omega arith) h.0
no_pack rows none (order.Draw scenario picture only) h = unlike (codes "pack") (codes "draw") (λ (e : ◌≡◌ {A = ℕ} 112 100). omega arith) h.0
no_pack rows none (order.Check image) h = unlike (codes "pack") (codes "check") (λ (e : ◌≡◌ {A = ℕ} 112 99). omega arith) h.0
no_pack rows none (order.Explain image) h = unlike (codes "pack") (codes "explain") (λ (e : ◌≡◌ {A = ℕ} 112 101). omega arith) h.0
no_pack rows none (order.Why rule) h = unlike (codes "pack") (codes "explain") (λ (e : ◌≡◌ {A = ℕ} 112 101). omega arith) h.0
no_pack rows none (order.Asm source image state form) h = unlike (codes "pack") (codes "asm") (λ (e : ◌≡◌ {A = ℕ} 112 97). omega arith) h.0
no_pack rows none (order.Pack code image state form function) h = none state form h.3 h.4
no_pack rows none (order.Dis image) h = unlike (codes "pack") (codes "dis") (λ (e : ◌≡◌ {A = ℕ} 112 100). omega arith) h.0
no_pack rows none (order.Native image code) h = unlike (codes "pack") (codes "native") (λ (e : ◌≡◌ {A = ℕ} 112 110). omega arith) h.0
no_pack rows none (order.Migrate image state converted) h = unlike (codes "pack") (codes "migrate") (λ (e : ◌≡◌ {A = ℕ} 112 109). omega arith) h.0

-- and with no number of workers, or no budget, none for workers
pub no_live : (rows : List Row) → ((workers budget : ℕ) → HasWorkers rows workers → HasBudget rows budget → ⊥)
    → (o : Order) → AsksIn (codes "live") rows o → ⊥
no_live rows none (order.Run scenario) h = unlike (codes "live") (codes "run") (λ (e : ◌≡◌ {A = ℕ} 108 114). omega arith) h.0
no_live rows none (order.Tell scenario json names) h = unlike (codes "live") (codes "run") (λ (e : ◌≡◌ {A = ℕ} 108 114). omega arith) h.0
no_live rows none (order.Live scenario workers budget) h = none workers budget h.2 h.3
no_live rows none (order.Draw scenario picture only) h = unlike (codes "live") (codes "draw") (λ (e : ◌≡◌ {A = ℕ} 108 100). omega arith) h.0
no_live rows none (order.Check image) h = unlike (codes "live") (codes "check") (λ (e : ◌≡◌ {A = ℕ} 108 99). omega arith) h.0
no_live rows none (order.Explain image) h = unlike (codes "live") (codes "explain") (λ (e : ◌≡◌ {A = ℕ} 108 101). omega arith) h.0
no_live rows none (order.Why rule) h = unlike (codes "live") (codes "explain") (λ (e : ◌≡◌ {A = ℕ} 108 101). omega arith) h.0
no_live rows none (order.Asm source image state form) h = unlike (codes "live") (codes "asm") (λ (e : ◌≡◌ {A = ℕ} 108 97). omega arith) h.0
no_live rows none (order.Pack code image state form function) h = unlike (codes "live") (codes "pack") (λ (e : ◌≡◌ {A = ℕ} 108 112). omega arith) h.0
no_live rows none (order.Dis image) h = unlike (codes "live") (codes "dis") (λ (e : ◌≡◌ {A = ℕ} 108 100). omega arith) h.0
no_live rows none (order.Native image code) h = unlike (codes "live") (codes "native") (λ (e : ◌≡◌ {A = ℕ} 108 110). omega arith) h.0
no_live rows none (order.Migrate image state converted) h = unlike (codes "live") (codes "migrate") (λ (e : ◌≡◌ {A = ℕ} 108 109). omega arith) h.0

is_simple_and_free-sblog_app : is_simple_and_free sblog_app ≡ true
unfolding clap_on_literals
is_simple_and_free-sblog_app = refl

is_simple-sblog_app : is_simple sblog_app ≡ true
unfolding clap_on_literals
is_simple-sblog_app = refl

-- what a parse that took the words says of them
pub words_taken : (app : App) (words : List Text) (m : ArgMatches) → app ≡ sblog_app
    → (is_simple_and_free app ≡ true → fault_of app words ≡ []) → HasMatchesOf app words m
    → (fault_of sblog_app words ≡ []) × (subcommand_rows_of m ≡ subcommand_of sblog_app words)
words_taken app words m is kinds matches = (
  sym (ap (λ (a : App). fault_of a words) is) ∙ kinds (ap is_simple_and_free is ∙ is_simple_and_free-sblog_app),
  (matches (ap is_simple is ∙ is_simple-sblog_app)).1 ∙ ap (λ (a : App). subcommand_of a words) is,
)

-- a refusal that explains the error of a parse that refused the words
pub refused : (app : App) (words : List Text) (e : Error) (r : UsageRefusal) → app ≡ sblog_app
    → (is_simple_and_free app ≡ true → HasKind (fault_of app words) e) → Explains (kind_of e) r → IsRefusal words r
refused app words e (refusal.Usage usage) is kinds told =
    (subst (λ k. IsAmong k (fault_of sblog_app words)) (sym told.0) (among (kinds (ap is_simple_and_free is ∙ is_simple_and_free-sblog_app))), told.2)
  where
    among : HasKind (fault_of app words) e → IsAmong (kind_of e) (fault_of sblog_app words)
    among (inl memory) = absurd (told.1 memory)
    among (inr kind) = subst (λ (a : App). IsAmong (kind_of e) (fault_of a words)) is kind
refused app words e refusal.Memory is kinds told = tt
