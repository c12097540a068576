-- The request of a command line. The words decide it, by the rules of clap for sblog_app.
use Rattle.std.specs.Prelude.{◌≡◌, ◌≢◌, ◌≤◌, ◌⊎◌, ◌||◌, ℕ, Bool, false, true, List, [], Option, Some, None, IfSome, codes}
use Rattle.std.specs.Option.{option_map, option_map_or}
use Rattle.std.specs.Str.{bytes_eq}
use Rattle.std.specs.Str.Parse.{IsNumeral, digits_value, without_leading_plus}
use Rattle.std.specs.String.{string_bytes}
use Rattle.limits.specs.declared.TheConstants.{STATE_BYTES, WORKERS}
use Rattle.clap.specs.Words.{IsAmong, Row, Text, fault_of, first_of, one_of, subcommand_of}
use Rattle.clap.specs.declared.error.kind.ErrorKind.{ErrorKind}
use Rattle.clap.specs.declared.error.kind.ErrorKind.TheVariants.{OutOfMemory}
use Rattle.verifier.specs.FileForm.{file_form_number}
use Rattle.verifier.specs.declared.file_form.FileForm.{FileForm}
use Rattle.verifier.specs.declared.file_form.FileForm.TheVariants.{Sbi1}
use Rattle.cli.specs.Program.{sblog_app}
use Rattle.cli.specs.declared.refusal.UsageRefusal.{UsageRefusal}
use Rattle.cli.specs.declared.refusal.UsageRefusal.TheVariants as refusal
use Rattle.cli.specs.declared.request.Request.{Request}
use Rattle.cli.specs.declared.request.Request.TheVariants as request
use Rattle.cli.specs.declared.command.TheConstants.{BUDGET}

-- the text is n in decimal, in this range. It may begin with a plus
pub record IsNumber (low high : ℕ) (text : Text) (n : ℕ) : Type 0 where
  pub digits : IsNumeral 10 (without_leading_plus text)
  pub value : n ≡ digits_value 10 (without_leading_plus text)
  pub least : low ≤ n
  pub most : n ≤ high

-- the argument of this name was given as the number n, which is in this range
abbrev pub HasNumber : Text → ℕ → ℕ → List Row → ℕ → Type 0
HasNumber id low high rows n = (text : Text) × (one_of id rows ≡ Some text) × IsNumber low high text n

-- the option --state was given as the number n
abbrev pub HasState : List Row → ℕ → Type 0
HasState rows n = HasNumber (codes "state") 0 STATE_BYTES rows n

-- the same if the option was given
abbrev pub MayHaveState : List Row → Option ℕ → Type 0
MayHaveState rows None = first_of (codes "state") rows ≡ None
MayHaveState rows (Some n) = HasState rows n

-- the option --workers was given as the number n
abbrev pub HasWorkers : List Row → ℕ → Type 0
HasWorkers rows n = HasNumber (codes "workers") 1 WORKERS rows n

-- the option --budget was given as the number n
abbrev pub HasBudget : List Row → ℕ → Type 0
HasBudget rows n = HasNumber (codes "budget") 1 BUDGET rows n

-- the option --form was given as the number of this form, if it was given
abbrev pub MayHaveForm : List Row → Option FileForm → Type 0
MayHaveForm rows None = first_of (codes "form") rows ≡ None
MayHaveForm rows (Some form) = HasNumber (codes "form") 1 3 rows (file_form_number form)

-- the same; without the option it is form 1
abbrev pub HasForm : List Row → FileForm → Type 0
HasForm rows form = MayHaveForm rows (Some form) ⊎ (MayHaveForm rows None × (form ≡ Sbi1))

-- the argument of this name was given as this path
abbrev pub HasPath : Text → List Row → Text → Type 0
HasPath id rows path = first_of id rows ≡ Some path

-- the argument IMAGE was given as this path
abbrev pub HasImage : List Row → Text → Type 0
HasImage rows path = HasPath (codes "IMAGE") rows path

-- the argument SCENARIO was given as this path
abbrev pub HasScenario : List Row → Text → Type 0
HasScenario rows path = HasPath (codes "SCENARIO") rows path

-- whether the option of this name, which has no value, was given: clap then has the word true for it
abbrev pub is_set : Text → List Row → Bool
is_set id rows = option_map_or (λ word. bytes_eq word (codes "true")) (first_of id rows) false

-- the requests of command lines, as plain values
pub data Order : Type 0 where
  Run : Text → Order
  Tell : Text → Bool → Bool → Order
  Live : Text → ℕ → ℕ → Order
  Draw : Text → Text → Bool → Order
  Check : Text → Order
  Explain : Text → Order
  Why : Text → Order
  Asm : Text → Text → ℕ → FileForm → Order
  Pack : Text → Text → Option ℕ → Option FileForm → Option Text → Order
  Dis : Text → Order
  Native : Text → Text → Order
  Migrate : Text → Text → Text → Order

-- a request with its paths as plain texts
abbrev pub order_of : Request → Order
order_of (request.Run scenario) = Run scenario.now
order_of (request.Tell scenario json names) = Tell scenario.now json names
order_of (request.Live scenario workers budget) = Live scenario.now workers budget
order_of (request.Draw scenario picture only) = Draw scenario.now picture.now only
order_of (request.Check image) = Check image.now
order_of (request.Explain image) = Explain image.now
order_of (request.Why rule) = Why rule.now
order_of (request.Asm source image state form) = Asm source.now image.now state form
order_of (request.Pack code image asked) = Pack code.now image.now asked.state asked.form (option_map (λ s. s.now) asked.function)
order_of (request.Dis image) = Dis image.now
order_of (request.Native image code) = Native image.now code.now
order_of (request.Migrate image state converted) = Migrate image.now state.now converted.now

-- a state has at most 1,024 bytes; workers are 1 to 16, and have a budget of 1 to 1,000,000
abbrev pub IsInRange : Order → Type 0
IsInRange (Live scenario workers budget) = (1 ≤ workers) × (workers ≤ WORKERS) × (1 ≤ budget) × (budget ≤ BUDGET)
IsInRange (Asm source image state form) = state ≤ STATE_BYTES
IsInRange (Pack code image state form function) = IfSome state (λ n. n ≤ STATE_BYTES)
IsInRange order = Unit {0}

-- the command of this name, with these arguments, makes this request
abbrev pub AsksIn : Text → List Row → Order → Type 0
AsksIn name rows (Run scenario) = (name ≡ codes "run")
    × HasScenario rows scenario × (is_set (codes "json") rows ≡ false) × (is_set (codes "names") rows ≡ false)
AsksIn name rows (Tell scenario json names) = (name ≡ codes "run")
    × HasScenario rows scenario × (json ≡ is_set (codes "json") rows) × (names ≡ is_set (codes "names") rows) × ((json || names) ≡ true)
AsksIn name rows (Live scenario workers budget) = (name ≡ codes "live")
    × HasScenario rows scenario × HasWorkers rows workers × HasBudget rows budget
AsksIn name rows (Draw scenario picture only) = (name ≡ codes "draw")
    × HasScenario rows scenario × HasPath (codes "OUT") rows picture × (only ≡ is_set (codes "messages") rows)
AsksIn name rows (Check image) = (name ≡ codes "check") × HasImage rows image
AsksIn name rows (Explain image) = (name ≡ codes "explain") × HasImage rows image × (is_set (codes "why") rows ≡ false)
AsksIn name rows (Why rule) = (name ≡ codes "explain") × HasImage rows rule × (is_set (codes "why") rows ≡ true)
AsksIn name rows (Asm source image state form) = (name ≡ codes "asm")
    × HasPath (codes "SRC") rows source × HasPath (codes "OUT") rows image × HasState rows state × HasForm rows form
AsksIn name rows (Pack code image state form function) = (name ≡ codes "pack")
    × HasPath (codes "CODE") rows code × HasPath (codes "OUT") rows image × MayHaveState rows state × MayHaveForm rows form
    × (first_of (codes "function") rows ≡ function)
AsksIn name rows (Dis image) = (name ≡ codes "dis") × HasImage rows image
AsksIn name rows (Native image code) = (name ≡ codes "native") × HasImage rows image × HasPath (codes "OUT") rows code
AsksIn name rows (Migrate image state converted) = (name ≡ codes "migrate")
    × HasImage rows image × HasPath (codes "STATE") rows state × HasPath (codes "OUT") rows converted

-- the command that was used, if there was one, makes this request
abbrev pub AsksBy : Option (Text × List Row) → Order → Type 0
AsksBy None o = ⊥
AsksBy (Some used) o = AsksIn used.0 used.1 o

-- clap finds no fault in the words, and the command that they use makes this request
abbrev pub AsksFor : List Text → Order → Type 0
AsksFor words o = (fault_of sblog_app words ≡ []) × AsksBy (subcommand_of sblog_app words) o

-- a value of which P holds, or None if P holds of none
abbrev pub Gives : {T : Type 0} → (T → Type 0) → Option T → Type 0
Gives {T} P None = (x : T) → P x → ⊥
Gives {T} P (Some x) = P x

-- a request of which P holds, or None if P holds of none
abbrev pub GivesOrder : (Order → Type 0) → Option Request → Type 0
GivesOrder P None = (o : Order) → P o → ⊥
GivesOrder P (Some r) = P (order_of r)

-- a usage refusal has a kind of fault that clap finds in the words, and a text to show
abbrev pub IsRefusal : List Text → UsageRefusal → Type 0
IsRefusal words (refusal.Usage usage) = IsAmong usage.kind (fault_of sblog_app words) × (string_bytes usage.text ≢ [])
IsRefusal words refusal.Memory = Unit {0}

-- the text for an order whose OUT is a file that it reads
abbrev pub own_input_text : Text
own_input_text = codes "error: OUT is a file that is read\n"

-- a usage refusal has this kind and a text to show. Lack of memory is no usage
abbrev pub Explains : ErrorKind → UsageRefusal → Type 0
Explains kind (refusal.Usage usage) = (usage.kind ≡ kind) × (kind ≢ OutOfMemory) × (string_bytes usage.text ≢ [])
Explains kind refusal.Memory = Unit {0}
