-- The call that a method's parameters ask for (docs/SERVER.md).
use Rattle.std.specs.Prelude.{◌≡◌, ⊤, ℕ, true, false, List, codes, Option, Some, None, option_map, option_and_then, Result, Ok, Err}
use Rattle.std.specs.Option.{ok_or, unwrap_or}
use Rattle.std.specs.Result.{result_ok}
use Rattle.serde_json.specs.Data.{Data, null, boolean, number, string, array, object}
use Rattle.serde_json.specs.Find.{get, as_array, as_bool, as_str, as_u64}
use Rattle.edit_script.specs.Words.{id_of}
use Rattle.stream_edits.specs.declared.edits.Edit.{Edit}
use Rattle.stream_edits.specs.declared.edits.Edit.TheVariants as edit
use Rattle.stream_edits.specs.declared.edits.InsertionPoint.{InsertionPoint}
use Rattle.stream_edits.specs.declared.edits.InsertionPoint.TheVariants.{First, After}
use Rattle.serve_requests.specs.declared.fields.FieldFault.{FieldFault}
use Rattle.serve_requests.specs.declared.fields.FieldFault.TheVariants.{Wrong, Memory}
use Rattle.serve_requests.specs.declared.call.Call.{Call}
use Rattle.serve_requests.specs.declared.call.Call.TheVariants as call
use Rattle.serve_requests.specs.declared.call.Loaded.{Loaded}
use Rattle.serve_requests.specs.declared.call.Loaded.TheVariants as loaded
use Rattle.serve_requests.specs.declared.method.Method.{Method}
use Rattle.serve_requests.specs.declared.method.Method.TheVariants as method
use Rattle.serve_requests.specs.declared.parameter.Parameter.{Parameter}
use Rattle.serve_requests.specs.declared.parameter.Parameter.TheVariants as parameter
use Rattle.serve_requests.specs.Fields.{all_of, and_then, bytes_of, count_of, number_of, numbers_of, optional, required, value_at}

-- the id that a number is
abbrev pub id_of_value : Data → Option ℕ
id_of_value value = option_map id_of (number_of value)

-- the place of an insertion: null is before all units
abbrev pub place_of : Data → Option InsertionPoint
place_of null = Some First
place_of (boolean b) = None
place_of (number n) = option_map (λ it. After (id_of it)) (as_u64 n)
place_of (string s) = None
place_of (array ds) = None
place_of (object ms) = None

-- an insertion, a deletion and a replacement, by their parameters
abbrev pub insertion_in : Data → Result Edit Parameter
insertion_in parameters =
    and_then (required place_of parameter.After parameters) (λ place.
    and_then (required bytes_of parameter.Bytes parameters) (λ text. Ok (edit.Insert place text)))

abbrev pub deletion_in : Data → Result Edit Parameter
deletion_in parameters = and_then (required id_of_value parameter.Id parameters) (λ id. Ok (edit.Delete id))

abbrev pub replacement_in : Data → Result Edit Parameter
replacement_in parameters =
    and_then (required id_of_value parameter.Id parameters) (λ id.
    and_then (required bytes_of parameter.Bytes parameters) (λ text. Ok (edit.Replace id text)))

-- the edit of a group's entry, of whose three members one is there
abbrev pub entry_with : Option Data → Option Data → Option Data → Option Edit
entry_with (Some insertion) None None = result_ok (insertion_in insertion)
entry_with None (Some deletion) None = result_ok (deletion_in deletion)
entry_with None None (Some replacement) = result_ok (replacement_in replacement)
entry_with None None None = None
entry_with (Some insertion) (Some deletion) replacement = None
entry_with (Some insertion) None (Some replacement) = None
entry_with None (Some deletion) (Some replacement) = None

-- the edit that an entry of a group asks for
abbrev pub entry_of : Data → Option Edit
entry_of value = entry_with (get (codes "insert") value) (get (codes "delete") value) (get (codes "replace") value)

-- the edits that a group's entries ask for
abbrev pub entries_of : Data → Option (List Edit)
entries_of value = option_and_then (all_of entry_of) (as_array value)

-- the file whose name is a text
abbrev pub file_named : Data → Result Loaded Parameter
file_named path = ok_or (option_map loaded.File (as_str path)) parameter.Path

-- what a load takes its units from: a file of a name, or bytes
abbrev pub loaded_with : Option Data → Option Data → Result Loaded Parameter
loaded_with (Some path) None = file_named path
loaded_with None (Some text) = ok_or (option_map loaded.Text (bytes_of text)) parameter.Bytes
loaded_with None None = Err parameter.Path
loaded_with (Some path) (Some text) = Err parameter.Path

abbrev pub loaded_in : Data → Result Loaded Parameter
loaded_in parameters = loaded_with (value_at parameter.Path parameters) (value_at parameter.Bytes parameters)

-- the units that are loaded, and whether their stream is mended
abbrev pub load_in : Data → Result Call Parameter
load_in parameters =
    and_then (loaded_in parameters) (λ it.
    and_then (optional as_bool parameter.Mend parameters) (λ mend. Ok (call.Load it (unwrap_or mend false))))

-- the file that the stream is saved as
abbrev pub save_in : Data → Result Call Parameter
save_in parameters = and_then (required as_str parameter.Path parameters) (λ name. Ok (call.Save name))

-- the units of a range, and whether they are told with their controls
abbrev pub units_in : Data → Result Call Parameter
units_in parameters =
    and_then (required number_of parameter.From parameters) (λ from.
    and_then (required count_of parameter.Count parameters) (λ count.
    and_then (optional as_bool parameter.Controls parameters) (λ controls.
    Ok (call.Units from count (unwrap_or controls false)))))

-- a range of the journal
abbrev pub journal_in : Data → Result Call Parameter
journal_in parameters =
    and_then (required number_of parameter.From parameters) (λ from.
    and_then (required count_of parameter.Count parameters) (λ count. Ok (call.Journal from count)))

-- the wanted ids, and whether the rest is looked at too
abbrev pub want_in : Data → Result Call Parameter
want_in parameters =
    and_then (required numbers_of parameter.Ids parameters) (λ ids.
    and_then (optional as_bool parameter.Rest parameters) (λ rest.
    Ok (call.Want ids (unwrap_or rest true))))

-- the call of an edit
abbrev pub edited : Result Edit Parameter → Result Call Parameter
edited read = and_then read (λ it. Ok (call.Edit it))

-- the call of a method by its parameters
abbrev pub call_with : Method → Data → Result Call Parameter
call_with method.Initialize parameters = Ok call.Initialize
call_with method.Load parameters = load_in parameters
call_with method.Save parameters = save_in parameters
call_with method.Insert parameters = edited (insertion_in parameters)
call_with method.Delete parameters = edited (deletion_in parameters)
call_with method.Replace parameters = edited (replacement_in parameters)
call_with method.Group parameters = and_then (required entries_of parameter.Edits parameters) (λ edits. Ok (call.Group edits))
call_with method.Undo parameters = Ok call.Undo
call_with method.Redo parameters = Ok call.Redo
call_with method.Mark parameters = Ok call.Mark
call_with method.Units parameters = units_in parameters
call_with method.Text parameters = and_then (required number_of parameter.Id parameters) (λ it. Ok (call.Text it))
call_with method.Find parameters = and_then (required number_of parameter.Position parameters) (λ it. Ok (call.Find it))
call_with method.Show parameters = and_then (required number_of parameter.Id parameters) (λ it. Ok (call.Show it))
call_with method.Want parameters = want_in parameters
call_with method.Drop parameters = and_then (optional number_of parameter.Id parameters) (λ it. Ok (call.Drop it))
call_with method.Take parameters = and_then (optional number_of parameter.Id parameters) (λ it. Ok (call.Take it))
call_with method.Land parameters = and_then (required number_of parameter.Job parameters) (λ it. Ok (call.Land it))
call_with method.GiveBack parameters = and_then (required number_of parameter.Job parameters) (λ it. Ok (call.GiveBack it))
call_with method.Journal parameters = journal_in parameters
call_with method.Stats parameters = Ok call.Stats
call_with method.Reset parameters = Ok call.Reset
call_with method.Compact parameters = Ok call.Compact
call_with method.Shutdown parameters = Ok call.Shutdown

-- an answer for an entry of a group, whichever of its parameters is wrong
abbrev pub IsEntryAnswer : Option Edit → Result Edit FieldFault → Type 0
IsEntryAnswer meant (Ok it) = meant ≡ Some it
IsEntryAnswer meant (Err (Wrong parameter)) = meant ≡ None
IsEntryAnswer meant (Err Memory) = ⊤
