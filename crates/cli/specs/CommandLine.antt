-- The command line (docs/OUTPUT.md).
use Rattle.std.specs.Prelude.{◌≡◌, ◌≢◌, ◌⊎◌, ◌==◌, ℕ, Bool, true, false, List, [], ◌∷◌, codes, pos, if◌then◌else◌}
use Rattle.std.specs.Prelude.{Option, Some, None, is_some, option_map, option_and_then, unwrap_or}
use Rattle.std.specs.Str.{bytes_eq}
use Rattle.std.specs.Str.Parse.{digits_value, without_leading_plus}
use Rattle.clap.specs.ValueTests.{is_unsigned_in}
use Rattle.clap.specs.Words.{App, IsAmong, Kinds, Row, Rule, Text, fault_of, first_of, new_app, new_rule, one_of}
use Rattle.clap.specs.Words.{subcommand_of, with_rule, with_subcommand}
use Rattle.clap.specs.Simple.{on_top}
use Rattle.clap.specs.Kinds.{or_else}
use Rattle.clap.specs.declared.builder.action.ArgAction.TheVariants.{SetTrue}
use Rattle.clap.specs.declared.builder.ValueParser.{ValueParser}
use Rattle.clap.specs.declared.builder.ValueParser.TheVariants.{Signed}
use Rattle.clap.specs.declared.error.ErrorKind.{ErrorKind}
use Rattle.clap.specs.declared.error.ErrorKind.TheVariants.{DisplayHelp, DisplayVersion, MissingRequiredArgument, OutOfMemory}
use Rattle.held_pictures.specs.Bounded.{most_capacity}
use Rattle.unit_printing.specs.declared.json.encoding.DecodeMode.{DecodeMode}
use Rattle.unit_printing.specs.declared.json.encoding.DecodeMode.TheVariants.{SliceBased, FrameBased}
use Rattle.cli.specs.Bounds.{most_drawn, most_id, most_workers}
use Rattle.cli.specs.declared.invocation.Invocation.{Invocation}
use Rattle.cli.specs.declared.invocation.Invocation.TheVariants.{Audit, Check, Draw, DrawEdited, Mend, Plan, Run, Serve}

-- a word that has to be there
abbrev pub needed_rule : Text → Rule
needed_rule name = record (new_rule name) { required = true }

-- `--name N`, a number that the parser takes, which is this one where it isn't given
abbrev pub option_rule : Text → ValueParser → Text → Rule
option_rule name parser usual = record (new_rule name) {
  long = Some name;
  value_names = 1;
  parser = Some parser;
  defaults = usual ∷ [];
}

-- `--name`, a flag
abbrev pub flag_rule : Text → Rule
flag_rule name = record (new_rule name) { long = Some name; action = Some SetTrue }

-- `plan FILE [--json] [--frames]`
abbrev pub plan_app : App
plan_app = with_rule (with_rule (with_rule (new_app (codes "plan")) (needed_rule (codes "FILE"))) (flag_rule (codes "json")))
    (flag_rule (codes "frames"))

-- `mend FILE`
abbrev pub mend_app : App
mend_app = with_rule (new_app (codes "mend")) (needed_rule (codes "FILE"))

-- `check FILE [--json]`
abbrev pub check_app : App
check_app = with_rule (with_rule (new_app (codes "check")) (needed_rule (codes "FILE"))) (flag_rule (codes "json"))

-- `--from N`, an id
abbrev pub from_rule : Rule
from_rule = record (new_rule (codes "from")) {
  long = Some (codes "from");
  value_names = 1;
  parser = Some (Signed (pos 0) (pos most_id));
}

-- `--edits SCRIPT`, a name
abbrev pub edits_rule : Rule
edits_rule = record (new_rule (codes "edits")) { long = Some (codes "edits"); value_names = 1 }

-- `--units N`, from 1 to 1000, and 60 where it isn't given
abbrev pub units_rule : Rule
units_rule = option_rule (codes "units") (Signed (pos 1) (pos most_drawn)) (codes "60")

-- `draw FILE [--from N] [--units N] [--edits SCRIPT]`
abbrev pub draw_app : App
draw_app = with_rule (with_rule (with_rule (with_rule (new_app (codes "draw")) (needed_rule (codes "FILE")))
    from_rule) units_rule) edits_rule

-- `--workers N` of `run`, from 0 to 64, and 0 where it isn't given
abbrev pub workers_rule : Rule
workers_rule = option_rule (codes "workers") (Signed (pos 0) (pos most_workers)) (codes "0")

-- that of `audit`, from 1 to 64, and 2 where it isn't given
abbrev pub some_workers_rule : Rule
some_workers_rule = option_rule (codes "workers") (Signed (pos 1) (pos most_workers)) (codes "2")

-- `--cache N`, from 1 to 4096, and 64 where it isn't given
abbrev pub cache_rule : Rule
cache_rule = option_rule (codes "cache") (Signed (pos 1) (pos most_capacity)) (codes "64")

-- `run SCRIPT [--workers N] [--cache N] [--hex]`
abbrev pub run_app : App
run_app = with_rule (with_rule (with_rule (with_rule (new_app (codes "run")) (needed_rule (codes "SCRIPT")))
    workers_rule) cache_rule) (flag_rule (codes "hex"))

-- `audit SCRIPT [--workers N] [--cache N]`
abbrev pub audit_app : App
audit_app = with_rule (with_rule (with_rule (new_app (codes "audit")) (needed_rule (codes "SCRIPT")))
    some_workers_rule) cache_rule

-- that of `serve`, from 0 to 64, and 1 where it isn't given
abbrev pub one_worker_rule : Rule
one_worker_rule = option_rule (codes "workers") (Signed (pos 0) (pos most_workers)) (codes "1")

-- `--journal FILE`, a name
abbrev pub journal_rule : Rule
journal_rule = record (new_rule (codes "journal")) { long = Some (codes "journal"); value_names = 1 }

-- `serve [--workers N] [--cache N] [--journal FILE]`
abbrev pub serve_app : App
serve_app = with_rule (with_rule (with_rule (new_app (codes "serve")) one_worker_rule) cache_rule) journal_rule

-- `preview` with one of the seven, or with `--version`
abbrev pub preview_app : App
preview_app = with_subcommand (with_subcommand (with_subcommand (with_subcommand (with_subcommand (with_subcommand (with_subcommand
    (on_top (λ s. record s { has_version = true; subcommand_required = true }) (new_app (codes "preview")))
    plan_app.top) mend_app.top) check_app.top) draw_app.top) run_app.top) audit_app.top) serve_app.top

-- what is asked for: the plan of a file, as JSON for a decoder of a mode, or in lines of text; a file
-- mended; a file checked, as JSON or in lines of text; a drawing of so many units of it, from an
-- id on; one after a script's edits, of so many units from an id or from the first on; a run of a
-- script, in one thread or beside so many workers, with so much room, and with the hashes of
-- pictures or without; its audit, beside so many workers and with so much room; or a server, in one
-- thread or beside so many workers, with so much room, and with a journal in a file or without one
pub data Wanted : Type 0 where
  plan : Text → Option DecodeMode → Wanted
  mend : Text → Wanted
  check : Text → Bool → Wanted
  draw : Text → ℕ → ℕ → Wanted
  draw_edited : Text → Text → Option ℕ → ℕ → Wanted
  run : Text → Option ℕ → ℕ → Bool → Wanted
  audit : Text → ℕ → ℕ → Wanted
  serve : Option ℕ → ℕ → Option Text → Wanted

-- the same, of the program's own type
abbrev pub wanted_of : Invocation → Wanted
wanted_of (Plan file json) = plan file.now json
wanted_of (Mend file) = mend file.now
wanted_of (Check file json) = check file.now json
wanted_of (Draw file choice) = draw file.now choice.from choice.units
wanted_of (DrawEdited file script choice) = draw_edited file.now script.now choice.from choice.units
wanted_of (Run options workers) =
    run options.name.now (option_map (λ several. several.count) workers) options.cache options.hex
wanted_of (Audit options workers) = audit options.name.now workers.count options.cache
wanted_of (Serve serving) =
    serve (option_map (λ several. several.count) serving.workers) serving.cache (option_map (λ name. name.now) serving.journal)

-- the number in these bounds that a text reads as
abbrev pub number_in : ℕ → ℕ → Text → Option ℕ
number_in low high text =
    if is_unsigned_in low high text then Some (digits_value 10 (without_leading_plus text)) else None

-- the number in these bounds that the value of this name reads as
abbrev pub number_of : Text → ℕ → ℕ → List Row → Option ℕ
number_of name low high rows = option_and_then (number_in low high) (one_of name rows)

-- the room for pictures that is asked for
abbrev pub cache_in : List Row → Option ℕ
cache_in rows = number_of (codes "cache") 1 most_capacity rows

-- how many workers are, in these bounds
abbrev pub workers_in : ℕ → List Row → Option ℕ
workers_in least rows = number_of (codes "workers") least most_workers rows

-- the id of the first unit that is to be drawn, by the first value of `--from`, if it has one
abbrev pub from_by : Option Text → List Row → Option (Option ℕ)
from_by None rows = Some None
from_by (Some text) rows = option_map (λ id. Some id) (number_of (codes "from") 0 most_id rows)

-- the same, of all values
abbrev pub from_in : List Row → Option (Option ℕ)
from_in rows = from_by (first_of (codes "from") rows) rows

-- how many units are
abbrev pub units_in : List Row → Option ℕ
units_in rows = number_of (codes "units") 1 most_drawn rows

-- so many workers, which are none for 0
abbrev pub several : ℕ → Option ℕ
several count = if count == 0 then None else Some count

-- whether a value is that of a flag that was given
abbrev pub is_true : Option Text → Bool
is_true (Some text) = bytes_eq text (codes "true")
is_true None = false

-- whether the flag of this name was given
abbrev pub has_flag : Text → List Row → Bool
has_flag name rows = is_true (first_of name rows)

-- how a plan is printed where `--json` is given and `--frames`: as JSON for a decoder of a mode, or in
-- lines of text, which have no frame requests
abbrev pub form_of : Bool → Bool → Option (Option DecodeMode)
form_of false false = Some None
form_of true false = Some (Some SliceBased)
form_of true true = Some (Some FrameBased)
form_of false true = None

-- the same, by the words
abbrev pub form_in : List Row → Option (Option DecodeMode)
form_in rows = form_of (has_flag (codes "json") rows) (has_flag (codes "frames") rows)

-- what the words after `plan` ask for
abbrev pub plan_in : List Row → Option Wanted
plan_in rows = option_and_then (λ file. option_map (plan file) (form_in rows)) (first_of (codes "FILE") rows)

-- what the words after `mend` ask for
abbrev pub mend_in : List Row → Option Wanted
mend_in rows = option_map mend (first_of (codes "FILE") rows)

-- what the words after `check` ask for
abbrev pub check_in : List Row → Option Wanted
check_in rows = option_map (λ name. check name (has_flag (codes "json") rows)) (first_of (codes "FILE") rows)

-- a drawing of a file's stream, from the unit 1 on where no id is given, or after a script's edits
abbrev pub drawing : Text → Option Text → Option ℕ → ℕ → Wanted
drawing name None from units = draw name (unwrap_or from 1) units
drawing name (Some script) from units = draw_edited name script from units

-- what the words after `draw` ask for
abbrev pub draw_in : List Row → Option Wanted
draw_in rows = option_and_then (λ name. option_and_then (λ from.
    option_map (λ units. drawing name (first_of (codes "edits") rows) from units) (units_in rows))
    (from_in rows)) (first_of (codes "FILE") rows)

-- what the words after `run` ask for
abbrev pub run_in : List Row → Option Wanted
run_in rows = option_and_then (λ name. option_and_then (λ workers.
    option_map (λ capacity. run name (several workers) capacity (has_flag (codes "hex") rows)) (cache_in rows))
    (workers_in 0 rows)) (first_of (codes "SCRIPT") rows)

-- what the words after `audit` ask for
abbrev pub audit_in : List Row → Option Wanted
audit_in rows = option_and_then (λ name. option_and_then (λ workers.
    option_map (λ capacity. audit name workers capacity) (cache_in rows))
    (workers_in 1 rows)) (first_of (codes "SCRIPT") rows)

-- what the words after `serve` ask for
abbrev pub serve_in : List Row → Option Wanted
serve_in rows =
    option_and_then (λ workers. option_map (λ capacity. serve (several workers) capacity (first_of (codes "journal") rows)) (cache_in rows))
    (workers_in 0 rows)

-- what a subcommand and the words after it ask for
abbrev pub wanted_by : Text × List Row → Option Wanted
wanted_by met = if bytes_eq met.0 (codes "plan") then plan_in met.1
    else (if bytes_eq met.0 (codes "mend") then mend_in met.1
    else (if bytes_eq met.0 (codes "check") then check_in met.1
    else (if bytes_eq met.0 (codes "draw") then draw_in met.1
    else (if bytes_eq met.0 (codes "run") then run_in met.1
    else (if bytes_eq met.0 (codes "audit") then audit_in met.1
    else (if bytes_eq met.0 (codes "serve") then serve_in met.1 else None))))))

-- what is asked for where a subcommand may have been met
abbrev pub wanted_from : Option (Text × List Row) → Option Wanted
wanted_from met = option_and_then wanted_by met

-- what the words ask for, of which the first is the program's name
abbrev pub wanted_in : List Text → Option Wanted
wanted_in words = wanted_from (subcommand_of preview_app words)

-- the kinds of error at the words: those of clap, or that what they need isn't there
abbrev pub faults_of : List Text → Kinds
faults_of words = or_else (fault_of preview_app words)
    (if is_some (wanted_in words) then [] else MissingRequiredArgument ∷ [])

-- help or the version is asked for, which is no mistake
abbrev pub IsRequest : ErrorKind → Type 0
IsRequest kind = (kind ≡ DisplayHelp) ⊎ (kind ≡ DisplayVersion)

-- the words are wrong
abbrev pub IsMistake : ErrorKind → Type 0
IsMistake kind = (kind ≢ OutOfMemory) × (kind ≢ DisplayHelp) × (kind ≢ DisplayVersion)

-- the kinds have one that is so
abbrev pub HasOne : (ErrorKind → Type 0) → Kinds → Type 0
HasOne P kinds = (kind : ErrorKind) × IsAmong kind kinds × P kind

-- the words are a wrong command line
abbrev pub AreMistaken : List Text → Type 0
AreMistaken words = HasOne IsMistake (faults_of words)
