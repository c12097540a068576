-- The command line of `sblog` as `clap` sees it: its commands and the rule of each argument.
use Rattle.std.specs.Prelude.{ℕ, Bool, Some, codes, false, true}
use Rattle.limits.specs.declared.TheConstants.{STATE_BYTES, WORKERS}
use Rattle.clap.specs.Words.{App, Rule, Text, new_app, new_rule, with_rule, with_subcommand}
use Rattle.clap.specs.Simple.{on_top}
use Rattle.clap.specs.declared.builder.ArgAction.TheVariants.{Set, SetTrue}
use Rattle.clap.specs.declared.builder.ValueParser.TheVariants as parser
use Rattle.cli.specs.declared.command.TheConstants.{BUDGET}

-- a required argument with one value
abbrev pub required_rule : Text → Rule
required_rule id = record (new_rule id) { required = true; action = Some Set }

-- an option whose value is a number in this range. It may be required
abbrev pub number_rule : Text → Bool → ℕ → ℕ → Rule
number_rule id required low high = record (new_rule id) {
  required = required;
  action = Some Set;
  long = Some id;
  value_names = 1;
  parser = Some (parser.Unsigned low high);
}

-- an option whose value is a text. It isn't required
abbrev pub text_rule : Text → Rule
text_rule id = record (new_rule id) { action = Some Set; long = Some id; value_names = 1 }

-- an option without a value. It isn't required
abbrev pub flag_rule : Text → Rule
flag_rule id = record (new_rule id) { long = Some id; action = Some SetTrue }

-- `run [--json] [--names] SCENARIO`
abbrev pub run_app : App
run_app = with_rule (with_rule (with_rule (new_app (codes "run")) (required_rule (codes "SCENARIO"))) (flag_rule (codes "json")))
    (flag_rule (codes "names"))

-- `live SCENARIO --workers N --budget B`
abbrev pub live_app : App
live_app = with_rule (with_rule (with_rule (new_app (codes "live")) (required_rule (codes "SCENARIO")))
    (number_rule (codes "workers") true 1 WORKERS)) (number_rule (codes "budget") true 1 BUDGET)

-- `draw [--messages] SCENARIO OUT`
abbrev pub draw_app : App
draw_app = with_rule (with_rule (with_rule (new_app (codes "draw")) (required_rule (codes "SCENARIO"))) (required_rule (codes "OUT")))
    (flag_rule (codes "messages"))

-- `check IMAGE`
abbrev pub check_app : App
check_app = with_rule (new_app (codes "check")) (required_rule (codes "IMAGE"))

-- `explain [--why] IMAGE`
abbrev pub explain_app : App
explain_app = with_rule (with_rule (new_app (codes "explain")) (required_rule (codes "IMAGE"))) (flag_rule (codes "why"))

-- `asm SRC OUT --state N [--form F]`
abbrev pub asm_app : App
asm_app = with_rule (with_rule (with_rule (with_rule (new_app (codes "asm")) (required_rule (codes "SRC")))
    (required_rule (codes "OUT"))) (number_rule (codes "state") true 0 STATE_BYTES)) (number_rule (codes "form") false 1 3)

-- `pack CODE OUT [--state N] [--form F] [--function NAME]`
abbrev pub pack_app : App
pack_app = with_rule (with_rule (with_rule (with_rule (with_rule (new_app (codes "pack")) (required_rule (codes "CODE")))
    (required_rule (codes "OUT"))) (number_rule (codes "state") false 0 STATE_BYTES)) (number_rule (codes "form") false 1 3))
    (text_rule (codes "function"))

-- `dis IMAGE`
abbrev pub dis_app : App
dis_app = with_rule (new_app (codes "dis")) (required_rule (codes "IMAGE"))

-- `native IMAGE OUT`
abbrev pub native_app : App
native_app = with_rule (with_rule (new_app (codes "native")) (required_rule (codes "IMAGE"))) (required_rule (codes "OUT"))

-- `migrate IMAGE STATE OUT`
abbrev pub migrate_app : App
migrate_app = with_rule (with_rule (with_rule (new_app (codes "migrate")) (required_rule (codes "IMAGE"))) (required_rule (codes "STATE")))
    (required_rule (codes "OUT"))

-- the program without commands: its words don't have its name, and one of them has to be a command
abbrev pub top_app : App
top_app = on_top (λ s. record s { no_binary_name = true; subcommand_required = true })
    (new_app (codes "sblog"))

-- the whole command line
abbrev pub sblog_app : App
sblog_app =
    with_subcommand (with_subcommand (with_subcommand (with_subcommand (with_subcommand (with_subcommand (with_subcommand
    (with_subcommand (with_subcommand (with_subcommand top_app
    run_app.top) live_app.top) draw_app.top) check_app.top) explain_app.top) asm_app.top) pack_app.top) dis_app.top) native_app.top)
    migrate_app.top
