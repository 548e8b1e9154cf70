-- What a message is (docs/SERVER.md).
use Rattle.std.specs.Prelude.{◌≡◌, ◌&&◌, ℕ, Bool, true, false, List, codes, Option, Some, None, option_map, option_and_then, if◌then◌else◌}
use Rattle.std.specs.Borrow.{Bor}
use Rattle.std.specs.Str.{bytes_eq}
use Rattle.serde_json.specs.Data.{Data, null, boolean, number, string, array, object}
use Rattle.serde_json.specs.Find.{get, as_str}
use Rattle.serde_json.specs.View.{view}
use Rattle.serde_json.specs.declared.value.Value.{Value}
use Rattle.serve_requests.specs.declared.message.Message.{Message}
use Rattle.serve_requests.specs.declared.message.Message.TheVariants as message
use Rattle.serve_requests.specs.declared.message.RpcRequest.{RpcRequest}

-- a request's id, its method's name and its parameters
pub record Parts : Type 0 where
  pub id : Option Data
  pub method : List ℕ
  pub parameters : Option Data

-- whether a value may be an id: text, a number or null
abbrev pub is_id : Data → Bool
is_id null = true
is_id (boolean b) = false
is_id (number n) = true
is_id (string s) = true
is_id (array ds) = false
is_id (object ms) = false

-- whether a value may be parameters: an array or an object
abbrev pub is_structured : Data → Bool
is_structured null = false
is_structured (boolean b) = false
is_structured (number n) = false
is_structured (string s) = false
is_structured (array ds) = true
is_structured (object ms) = true

-- whether nothing is there, or what the test allows
abbrev pub may_be : (Data → Bool) → Option Data → Bool
may_be test None = true
may_be test (Some value) = test value

-- whether a text is the version
abbrev pub is_version : Option (List ℕ) → Bool
is_version None = false
is_version (Some text) = bytes_eq text (codes "2.0")

-- whether a message has the version, and an id and parameters that may be
abbrev pub is_request : Data → Bool
is_request value =
    is_version (option_and_then as_str (get (codes "jsonrpc") value))
    && may_be is_id (get (codes "id") value) && may_be is_structured (get (codes "params") value)

-- the parts of a request that has this method
abbrev pub parts_with : Data → List ℕ → Parts
parts_with value method = record {
  id = get (codes "id") value;
  method = method;
  parameters = get (codes "params") value;
}

-- the parts of a message that is a request
abbrev pub request_in : Data → Option Parts
request_in value =
    if is_request value
    then option_map (parts_with value) (option_and_then as_str (get (codes "method") value))
    else None

-- the value itself, if it may be an id
abbrev pub as_id : Data → Option Data
as_id value = if is_id value then Some value else None

-- the id that any message has, if it may be one
abbrev pub id_in : Data → Option Data
id_in value = option_and_then as_id (get (codes "id") value)

-- what is borrowed, if anything is
abbrev pub lent : Option (Bor Value) → Option Data
lent value = option_map (λ it. view it.now) value

-- the parts of a request in memory
abbrev pub parts_of : RpcRequest → Parts
parts_of request = record { id = lent request.id; method = request.method.now; parameters = lent request.parameters }

-- what a value is as a message
abbrev pub IsMessage : Data → Message → Type 0
IsMessage value (message.RpcRequest request) = request_in value ≡ Some (parts_of request)
IsMessage value (message.Other id) = (request_in value ≡ None) × (lent id ≡ id_in value)
