-- How a run ends where no file is opened for a name.
use Rattle.std.proofs.Common.{ℕ, Bool, true, false, List, [], Option, Some, None, IfSome, inl, inr, refl, rules}
use Rattle.std.proofs.KnownBytes.{Keeps-refl}
use Rattle.std.specs.Borrow.{Bor}
use Rattle.std.specs.Prelude.{Result}
use Rattle.console_io.proofs.Chunked.{front-none}
use Rattle.console_io.specs.Inputs.{Files, text_named}
use Rattle.console_io.specs.Messages.{Tells, input_fault_text}
use Rattle.console_io.specs.declared.chunks.PrintFault.{PrintFault}
use Rattle.console_io.specs.declared.input.InputFault.{InputFault}
use Rattle.console_io.specs.declared.input.InputFault.TheVariants as input
use Rattle.console_io.specs.declared.status.Status.TheVariants.{Failure}
use Rattle.plan_stream.specs.declared.fault.PlanFault.TheVariants as fault
use Rattle.script_run.specs.RunFaults.{fault_of_input}
use Rattle.script_run.proofs.Unread.{stops-unread}
use Rattle.script_run.specs.Messages.{run_fault_text}
use Rattle.script_run.proofs.SharedTold.{ends-unread, stops-unread as seat-stops-unread}
use Rattle.cli.specs.CommandLine.{Wanted, audit, check, draw, mend, plan, run}
use Rattle.mend_run.specs.declared.running.MendFault.TheVariants as mending
use Rattle.stream_mending.specs.Mended.{mended, told as told_of}
use Rattle.unit_printing.specs.declared.json.encoding.DecodeMode.{DecodeMode}
use Rattle.unit_printing.proofs.Ends.{ends-unread as ends-unread-json}
use Rattle.cli.specs.Programs.{Ends, FailsAt, StopsScript, says_json}

-- what holds of each holds of the one that is there
some-all : {T : Type 0} (known : Option T) {P : T → Type 0} → ((value : T) → P value) → IfSome known P
some-all None all = tt
some-all (Some value) all = all value

-- a run tells it as any input
told-so : {T : Type 0} (told : Result T PrintFault) (mute : Type 0) (had has : Option (List ℕ)) (name : Bor (List ℕ)) (it : InputFault)
    → Tells told mute had has (input_fault_text name.now it)
    → Tells told mute had has (run_fault_text (fault_of_input name it))
told-so told mute had has name input.Unread tells = tells
told-so told mute had has name input.Memory tells = tells

-- a run that failed at what is wanted ends so
pub failed-ends : (files : Files) (standard : Option (List ℕ)) (wanted : Wanted) (told : Result (Unit {0}) PrintFault)
    (refused mute : Type 0) (old new had has : Option (List ℕ))
    → FailsAt files standard wanted told refused old new mute had has
    → Ends files standard wanted (record { status = Failure; told = told }) refused old new mute had has
failed-ends files standard wanted told refused mute old new had has fails =
    record { right = search rules; fails = λ _. fails; usage = search rules }

module _ (files : Files) (standard : Option (List ℕ)) (told : Result (Unit {0}) PrintFault) (refused mute : Type 0) (old had has : Option (List ℕ)) where
  -- it failed at what is wanted, and wrote nothing
  abbrev EndsAt : Wanted → Type 0
  EndsAt wanted = Ends files standard wanted (record { status = Failure; told = told }) refused old old mute had has

  -- by the fault that it failed by
  failed : (wanted : Wanted) → FailsAt files standard wanted told refused old old mute had has → EndsAt wanted
  failed wanted = failed-ends files standard wanted told refused mute old old had has

  -- of a plan
  pub plan-unopened : (name : List ℕ) (it : InputFault) → Tells told mute had has (input_fault_text name it)
      → EndsAt (plan name None)
  plan-unopened name input.Unread tells = failed (plan name None)
      (fault.Unread, some-all (text_named files standard name) (λ text. Keeps-refl old), tells)
  plan-unopened name input.Memory tells = failed (plan name None)
      (fault.Memory, some-all (text_named files standard name) (λ text. inl (Keeps-refl old)), tells)

  -- of one as JSON
  pub plan_json-unopened : (name : List ℕ) (mode : DecodeMode) (it : InputFault) → Tells told mute had has (input_fault_text name it)
      → EndsAt (plan name (Some mode))
  plan_json-unopened name mode it tells = failed (plan name (Some mode))
      (ends-unread-json says_json (text_named files standard name) name told refused old mute had has it tells)

  -- of a stream that is to be mended
  pub mend-unopened : (name : List ℕ) (it : InputFault) → Tells told mute had has (input_fault_text name it)
      → EndsAt (mend name)
  mend-unopened name input.Unread tells = failed (mend name)
      (mending.Unread, [], some-all (text_named files standard name) (λ text. (front-none old old (mended text) (Keeps-refl old), (told_of text, refl))), tells)
  mend-unopened name input.Memory tells = failed (mend name)
      (mending.Memory, [], some-all (text_named files standard name) (λ text. (front-none old old (mended text) (Keeps-refl old), (told_of text, refl))), tells)

  -- of a check
  pub check-unopened : (name : List ℕ) (json : Bool) (it : InputFault) → Tells told mute had has (input_fault_text name it)
      → EndsAt (check name json)
  check-unopened name json it tells = failed (check name json) (input_fault_text name it, tells)

  -- of a drawing
  pub draw-unopened : (name : List ℕ) (from units : ℕ) (it : InputFault) → Tells told mute had has (input_fault_text name it)
      → EndsAt (draw name from units)
  draw-unopened name from units input.Unread tells = failed (draw name from units)
      (fault.Unread, some-all (text_named files standard name) (λ text. Keeps-refl old), tells)
  draw-unopened name from units input.Memory tells = failed (draw name from units)
      (fault.Memory, some-all (text_named files standard name) (λ text. Keeps-refl old), tells)

  -- of a run
  pub run-unopened : (name : Bor (List ℕ)) (workers : Option ℕ) (capacity : ℕ) (hex : Bool) (it : InputFault)
      → Tells told mute had has (input_fault_text name.now it)
      → EndsAt (run name.now workers capacity hex)
  run-unopened name workers capacity hex it tells = failed (run name.now workers capacity hex) (
    fault_of_input name it,
    some-all (text_named files standard name.now) (λ text. unread workers text),
    told-so told mute had has name it tells,
  )
    where
      unread : (workers : Option ℕ) (text : List ℕ)
          → StopsScript workers files name.now text capacity hex (fault_of_input name it) refused old old
      unread None text = stops-unread says_json files name text capacity hex it refused old
      unread (Some count) text = seat-stops-unread files name text hex it refused old

  -- of an audit
  pub audit-unopened : (name : Bor (List ℕ)) (workers capacity : ℕ) (it : InputFault)
      → Tells told mute had has (input_fault_text name.now it)
      → EndsAt (audit name.now workers capacity)
  audit-unopened name workers capacity it tells = failed (audit name.now workers capacity) (inr (
    fault_of_input name it,
    some-all (text_named files standard name.now) (λ text. ends-unread files name text it refused old),
    told-so told mute had has name it tells,
  ))
