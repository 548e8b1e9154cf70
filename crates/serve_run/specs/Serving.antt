-- What becomes of the text of a line.
use Rattle.std.specs.Prelude.{◌≡◌, ◌⊎◌, ◌||◌, ⊤, ℕ, Bool, true, false, List, [], ◌∷◌, Option, None, Some, Result, Ok, Err, IsUtf8}
use Rattle.serde_json.specs.Data.{Data, null, boolean, number, string, array, object, Items, no_items, item}
use Rattle.serde_json.specs.Read.{read as read_text}
use Rattle.stand_in_session.specs.Machines.{Machine}
use Rattle.serve_requests.specs.declared.failure.Failure.{Failure}
use Rattle.serve_requests.specs.declared.failure.Failure.TheVariants.{NotJson}
use Rattle.serve_requests.specs.Messages.{request_in}
use Rattle.serve_calls.specs.declared.requests.Served.{Served}
use Rattle.serve_calls.specs.declared.server.Server.{Server}
use Rattle.serve_calls.specs.declared.wanted_units.WantedUnit.{WantedUnit}
use Rattle.serve_calls.specs.Failing.{out_of_memory}
use Rattle.serve_calls.specs.Requests.{IsRefusedAs, IsServedIf}
use Rattle.serve_run.specs.declared.end.ServeEnd.{ServeEnd}
use Rattle.serve_run.specs.declared.end.ServeEnd.TheVariants.{Done, Memory, Unread, Unreplayed, Unwritten}
use Rattle.serve_calls.specs.Offering.{Offered}

-- why a text is no value: it is no UTF-8 or no JSON, or memory ran out
abbrev pub IsNoValue : List ℕ → Failure → Type 0
IsNoValue text failure =
    ((failure ≡ NotJson) × (IsUtf8 text → read_text text ≡ None)) ⊎ (failure ≡ out_of_memory)

-- the messages of a value: those of an array that isn't empty, or itself as one
abbrev pub messages_in : Data → Items
messages_in null = item null no_items
messages_in (boolean b) = item (boolean b) no_items
messages_in (number n) = item (number n) no_items
messages_in (string s) = item (string s) no_items
messages_in (array no_items) = item (array no_items) no_items
messages_in (array (item value values)) = item value values
messages_in (object ms) = item (object ms) no_items

-- messages are served one after the other
abbrev pub ServesAll : {B S : Type 0} → (B → Machine → Type 0) → (B → Offered) → (S → List ℕ → Option (List ℕ)) → Server B S
    → List WantedUnit → Items → List Served → Server B S → List WantedUnit → Type 0
ServesAll is lends file old wanted no_items served new wants = (served ≡ []) × (new ≡ old) × (wants ≡ wanted)
ServesAll {B} {S} is lends file old wanted (item value values) served new wants =
    (first : Served) × (rest : List Served) × (next : Server B S) × (between : List WantedUnit)
    × IsServedIf is lends file old wanted (request_in value) first next between
    × ServesAll is lends file next between values rest new wants × (served ≡ first ∷ rest)

-- whether one of the messages asks for the end
abbrev pub end_any : List Served → Bool
end_any [] = false
end_any (first ∷ rest) = first.is_last || end_any rest

-- the messages of a text are served, if the text is a value; else that is refused, and nothing
-- changes
abbrev pub ServesText : {B S : Type 0} → (B → Machine → Type 0) → (B → Offered) → (S → List ℕ → Option (List ℕ)) → Server B S
    → List WantedUnit → List ℕ → List Served → Server B S → List WantedUnit → Type 0
ServesText is lends file old wanted text served new wants =
    ((value : Data) × IsUtf8 text × (read_text text ≡ Some value)
    × ServesAll is lends file old wanted (messages_in value) served new wants)
    ⊎ ((failure : Failure) × (refused : Served) × IsNoValue text failure
    × IsRefusedAs old wanted failure refused new wants × (served ≡ refused ∷ []))

-- how a server goes on after messages: it ends where that asks for the end, where a line can't be
-- written, or where there is no memory for one
abbrev pub GoesOn : Bool → Result (Unit {0}) ServeEnd → Type 0
GoesOn is_last (Ok it) = is_last ≡ false
GoesOn is_last (Err Done) = is_last ≡ true
GoesOn is_last (Err Unread) = ⊥
GoesOn is_last (Err Unwritten) = ⊤
GoesOn is_last (Err Memory) = ⊤
GoesOn is_last (Err Unreplayed) = ⊥

-- the messages of a text are served, and the server goes on or ends
abbrev pub GoesOnAfter : {B S : Type 0} → (B → Machine → Type 0) → (B → Offered) → (S → List ℕ → Option (List ℕ)) → Server B S
    → List WantedUnit → List ℕ → Result (Unit {0}) ServeEnd → Server B S → Type 0
GoesOnAfter is lends file old wanted text result new =
    (served : List Served) × (wants : List WantedUnit) × ServesText is lends file old wanted text served new wants
    × GoesOn (end_any served) result
