-- What a request is answered.
use Rattle.std.specs.Prelude.{◌≡◌, ℕ, Bool, true, false, List, Option, None, Some, Result, Ok, Err}
use Rattle.stand_in_session.specs.Machines.{Machine}
use Rattle.serve_requests.specs.declared.call.Call.{Call}
use Rattle.serve_requests.specs.declared.call.Call.TheVariants as call
use Rattle.serve_requests.specs.declared.failure.Failure.{Failure}
use Rattle.serve_requests.specs.declared.failure.Failure.TheVariants.{NotRequest}
use Rattle.serve_requests.specs.declared.message.Message.{Message}
use Rattle.serve_requests.specs.declared.message.Message.TheVariants as message
use Rattle.serve_requests.specs.Messages.{Parts, parts_of}
use Rattle.serve_requests.specs.Requests.{IsRequestAnswer, called}
use Rattle.serve_calls.specs.declared.requests.Served.{Served}
use Rattle.serve_calls.specs.declared.server.Server.{Server}
use Rattle.serve_calls.specs.declared.wanted_units.WantedUnit.{WantedUnit}
use Rattle.serve_calls.specs.Calls.{AnswersCall}
use Rattle.serve_calls.specs.Offering.{Offered}

-- whether a call is the last
abbrev pub is_last : Call → Bool
is_last call.Shutdown = true
is_last it = false

-- whether a request with this id is answered
abbrev pub is_answered : {T : Type 0} → Option T → Bool
is_answered (Some id) = true
is_answered None = false

-- what is asked is refused so, and nothing changes: no session is asked
abbrev pub IsRefusedAs : {B S : Type 0} → Server B S → List WantedUnit → Failure → Served → Server B S → List WantedUnit → Type 0
IsRefusedAs old wanted failure served new wants =
    (served.answer ≡ Err failure) × (served.is_last ≡ false) × (new ≡ old) × (wants ≡ wanted)

-- a request is served by the call that it asks for; one that is refused is answered so, and changes
-- nothing
abbrev pub IsServedBy : {B S : Type 0} → (B → Machine → Type 0) → (B → Offered) → (S → List ℕ → Option (List ℕ)) → Server B S
    → List WantedUnit → Bool → Result Call Failure → Served → Server B S → List WantedUnit → Type 0
IsServedBy is lends file old wanted answered (Ok it) served new wants =
    AnswersCall is lends file old wanted it answered served.answer new wants × (served.is_last ≡ is_last it)
IsServedBy is lends file old wanted answered (Err failure) served new wants =
    IsRefusedAs old wanted failure served new wants

-- a request is served: as the call that its method and parameters are, or as the refusal of it that
-- these come to
abbrev pub IsServed : {B S : Type 0} → (B → Machine → Type 0) → (B → Offered) → (S → List ℕ → Option (List ℕ)) → Server B S
    → List WantedUnit → Parts → Served → Server B S → List WantedUnit → Type 0
IsServed is lends file old wanted parts served new wants =
    (read : Result Call Failure)
    × IsRequestAnswer (called (lends old.backend).jobs (lends old.backend).journal parts) read
    × IsServedBy is lends file old wanted (is_answered parts.id) read served new wants

-- the parts of a message that is a request
abbrev pub parts_if : Message → Option Parts
parts_if (message.RpcRequest request) = Some (parts_of request)
parts_if (message.Other id) = None

-- a message is served as the request that it is; another one is refused
abbrev pub IsServedIf : {B S : Type 0} → (B → Machine → Type 0) → (B → Offered) → (S → List ℕ → Option (List ℕ)) → Server B S
    → List WantedUnit → Option Parts → Served → Server B S → List WantedUnit → Type 0
IsServedIf is lends file old wanted (Some parts) served new wants = IsServed is lends file old wanted parts served new wants
IsServedIf is lends file old wanted None served new wants = IsRefusedAs old wanted NotRequest served new wants
