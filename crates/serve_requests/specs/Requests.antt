-- The call that a request asks for (docs/SERVER.md).
use Rattle.std.specs.Prelude.{◌≡◌, ◌&&◌, Bool, true, false, not, Option, Some, None, if◌then◌else◌, Result, Ok, Err}
use Rattle.serde_json.specs.Data.{Data, null, boolean, number, string, array, object, no_items, item}
use Rattle.serve_requests.specs.declared.call.Call.{Call}
use Rattle.serve_requests.specs.declared.failure.Failure.{Failure}
use Rattle.serve_requests.specs.declared.failure.Failure.TheVariants.{NotJson, NotRequest, NoMethod, Parameters, Refused}
use Rattle.serve_requests.specs.declared.failure.CallRefusal.TheVariants.{Memory}
use Rattle.serve_requests.specs.declared.method.Method.{Method}
use Rattle.serve_requests.specs.declared.parameter.Parameter.{Parameter}
use Rattle.serve_requests.specs.Calls.{call_with}
use Rattle.serve_requests.specs.Messages.{Parts}
use Rattle.serve_requests.specs.Methods.{first_parameter, is_offered, method_named, takes_any}

-- a call, or which parameter is the first that is wrong
abbrev pub read_so : Result Call Parameter → Result Call Failure
read_so (Ok call) = Ok call
read_so (Err parameter) = Err (Parameters (Some parameter))

-- whether parameters are an array that isn't empty
abbrev pub has_items : Data → Bool
has_items null = false
has_items (boolean b) = false
has_items (number n) = false
has_items (string s) = false
has_items (array no_items) = false
has_items (array (item d ds)) = true
has_items (object ms) = false

-- the call of a method by its parameters, which an array of some is only where any are
abbrev pub called_by : Method → Data → Result Call Failure
called_by method parameters =
    if has_items parameters && not (takes_any method)
    then Err (Parameters (first_parameter method))
    else read_so (call_with method parameters)

-- the call of a method by its parameters, none being those of an empty object
abbrev pub called_with : Method → Option Data → Result Call Failure
called_with method (Some parameters) = called_by method parameters
called_with method None = called_by method null

-- the call of a method, if it is one that is there; whatever the parameters of another one are, there is none
abbrev pub called_if : Bool → Bool → Option Method → Option Data → Result Call Failure
called_if has_jobs has_journal None parameters = Err NoMethod
called_if has_jobs has_journal (Some method) parameters =
    if is_offered has_jobs has_journal method then called_with method parameters else Err NoMethod

-- the call that a request asks for, where methods about jobs and that about a journal's file are there or not
abbrev pub called : Bool → Bool → Parts → Result Call Failure
called has_jobs has_journal parts = called_if has_jobs has_journal (method_named parts.method) parts.parameters

-- an answer for a request: its call, why it asks for none, or that memory ran out
abbrev pub IsRequestAnswer : Result Call Failure → Result Call Failure → Type 0
IsRequestAnswer meant (Ok call) = meant ≡ Ok call
IsRequestAnswer meant (Err NotJson) = ⊥
IsRequestAnswer meant (Err NotRequest) = ⊥
IsRequestAnswer meant (Err NoMethod) = meant ≡ Err NoMethod
IsRequestAnswer meant (Err (Parameters parameter)) = meant ≡ Err (Parameters parameter)
IsRequestAnswer meant (Err (Refused refused)) = refused ≡ Memory
