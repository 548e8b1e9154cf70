-- The methods of the server (docs/SERVER.md).
use Rattle.std.specs.Prelude.{ℕ, List, [], ◌∷◌, ◌++◌, codes, Bool, true, false, Option, Some, None, if◌then◌else◌}
use Rattle.std.specs.Str.{bytes_eq}
use Rattle.serve_requests.specs.declared.method.Method.{Method}
use Rattle.serve_requests.specs.declared.method.Method.TheVariants.{Initialize, Load, Save, Insert, Delete, Replace, Group, Undo, Redo, Mark, Units, Text, Find, Show, Want, Drop, Take, Land, GiveBack, Journal, Stats, Reset, Compact, Shutdown}
use Rattle.serve_requests.specs.declared.parameter.Parameter.{Parameter}
use Rattle.serve_requests.specs.declared.parameter.Parameter.TheVariants as parameter

-- the method of a name, among those that bring pictures or tell of the server
abbrev pub method_of_pictures : List ℕ → Option Method
method_of_pictures name =
    if bytes_eq name (codes "initialize") then Some Initialize
    else if bytes_eq name (codes "want") then Some Want
    else if bytes_eq name (codes "drop") then Some Drop
    else if bytes_eq name (codes "take") then Some Take
    else if bytes_eq name (codes "land") then Some Land
    else if bytes_eq name (codes "give_back") then Some GiveBack
    else if bytes_eq name (codes "journal") then Some Journal
    else if bytes_eq name (codes "stats") then Some Stats
    else if bytes_eq name (codes "reset") then Some Reset
    else if bytes_eq name (codes "compact") then Some Compact
    else if bytes_eq name (codes "shutdown") then Some Shutdown
    else None

-- the method of a name
abbrev pub method_named : List ℕ → Option Method
method_named name =
    if bytes_eq name (codes "load") then Some Load
    else if bytes_eq name (codes "save") then Some Save
    else if bytes_eq name (codes "insert") then Some Insert
    else if bytes_eq name (codes "delete") then Some Delete
    else if bytes_eq name (codes "replace") then Some Replace
    else if bytes_eq name (codes "group") then Some Group
    else if bytes_eq name (codes "undo") then Some Undo
    else if bytes_eq name (codes "redo") then Some Redo
    else if bytes_eq name (codes "mark") then Some Mark
    else if bytes_eq name (codes "units") then Some Units
    else if bytes_eq name (codes "text") then Some Text
    else if bytes_eq name (codes "find") then Some Find
    else if bytes_eq name (codes "show") then Some Show
    else method_of_pictures name

-- whether a method is there, where those about jobs and that about a journal's file are there or not
abbrev pub is_offered : Bool → Bool → Method → Bool
is_offered has_jobs has_journal Take = has_jobs
is_offered has_jobs has_journal Land = has_jobs
is_offered has_jobs has_journal GiveBack = has_jobs
is_offered has_jobs has_journal Compact = has_journal
is_offered has_jobs has_journal _ = true

-- a method that takes any parameters, a list too
abbrev pub takes_any : Method → Bool
takes_any Initialize = true
takes_any _ = false

-- the methods behind the rest: that about a journal's file, where there is one
abbrev pub methods_of_journal : Bool → List Method
methods_of_journal true = Compact ∷ Shutdown ∷ []
methods_of_journal false = Shutdown ∷ []

-- the methods about jobs, where they are there
abbrev pub methods_of_jobs : Bool → List Method
methods_of_jobs true = Take ∷ Land ∷ GiveBack ∷ []
methods_of_jobs false = []

-- the methods that there are, where those about jobs and about a journal's file are there or not
abbrev pub methods : Bool → Bool → List Method
methods has_jobs has_journal =
    Initialize ∷ Load ∷ Save ∷ Insert ∷ Delete ∷ Replace ∷ Group ∷ Undo ∷ Redo ∷ Mark ∷ Units ∷ Text ∷ Find ∷ Show ∷ Want
    ∷ Drop ∷ methods_of_jobs has_jobs ++ Journal ∷ Stats ∷ Reset ∷ methods_of_journal has_journal

-- the first parameter of a method
abbrev pub first_parameter : Method → Option Parameter
first_parameter Initialize = None
first_parameter Load = Some parameter.Path
first_parameter Save = Some parameter.Path
first_parameter Insert = Some parameter.After
first_parameter Delete = Some parameter.Id
first_parameter Replace = Some parameter.Id
first_parameter Group = Some parameter.Edits
first_parameter Undo = None
first_parameter Redo = None
first_parameter Mark = None
first_parameter Units = Some parameter.From
first_parameter Text = Some parameter.Id
first_parameter Find = Some parameter.Position
first_parameter Show = Some parameter.Id
first_parameter Want = Some parameter.Ids
first_parameter Drop = Some parameter.Id
first_parameter Take = Some parameter.Id
first_parameter Land = Some parameter.Job
first_parameter GiveBack = Some parameter.Job
first_parameter Journal = Some parameter.From
first_parameter Stats = None
first_parameter Reset = None
first_parameter Compact = None
first_parameter Shutdown = None
