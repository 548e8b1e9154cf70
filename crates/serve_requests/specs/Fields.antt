-- What a parameter of a message stands for (docs/SERVER.md).
use Rattle.std.specs.Prelude.{◌≡◌, ℕ, ⊤, List, [], ◌∷◌, ◌++◌, nat_le, Option, Some, None, option_map, option_and_then, if◌then◌else◌, Result, Ok, Err}
use Rattle.std.specs.Option.{ok_or}
use Rattle.std.specs.Result.{result_ok}
use Rattle.base64.specs.Engines.{standard}
use Rattle.base64.specs.GeneralPurpose.{decode_of}
use Rattle.serde_json.specs.Data.{Data, Items, no_items, item}
use Rattle.serde_json.specs.Find.{get, as_array, as_number, as_str, as_u64}
use Rattle.serve_requests.specs.declared.fields.FieldFault.{FieldFault}
use Rattle.serve_requests.specs.declared.fields.FieldFault.TheVariants.{Wrong, Memory}
use Rattle.serve_requests.specs.declared.parameter.Parameter.{Parameter}
use Rattle.serve_requests.specs.Parameters.{name_of}

-- the number that a value is, digits alone and below 2^64
abbrev pub number_of : Data → Option ℕ
number_of value = option_and_then as_u64 (as_number value)

-- the most units that are told at once
abbrev pub most_told : ℕ
most_told = 1000

-- a number, unless it is too great
abbrev pub if_told : ℕ → Option ℕ
if_told count = if nat_le count most_told then Some count else None

-- how many units a value asks for
abbrev pub count_of : Data → Option ℕ
count_of value = option_and_then if_told (number_of value)

-- the bytes that a string of base64 stands for
abbrev pub bytes_of : Data → Option (List ℕ)
bytes_of value = option_and_then (λ text. result_ok (decode_of standard text)) (as_str value)

-- one more, before the rest, if all are there
abbrev pub before : {T : Type 0} → T → Option (List T) → Option (List T)
before first rest = option_map (λ items. first ∷ items) rest

-- what the items of an array stand for, if each stands for something
abbrev pub all_of : {T : Type 0} → (Data → Option T) → Items → Option (List T)
all_of meaning no_items = Some []
all_of meaning (item value rest) = option_and_then (λ first. before first (all_of meaning rest)) (meaning value)

-- items before those that are there
abbrev pub prefixed : {T : Type 0} → List T → Option (List T) → Option (List T)
prefixed first rest = option_map (λ items. first ++ items) rest

-- the numbers of an array of numbers alone
abbrev pub numbers_of : Data → Option (List ℕ)
numbers_of value = option_and_then (all_of number_of) (as_array value)

-- the value of a parameter, if it is there
abbrev pub value_at : Parameter → Data → Option Data
value_at parameter parameters = get (name_of parameter) parameters

-- a parameter that has to be there, by what its values stand for
abbrev pub required : {T : Type 0} → (Data → Option T) → Parameter → Data → Result T Parameter
required meaning parameter parameters = ok_or (option_and_then meaning (value_at parameter parameters)) parameter

-- what a value that is there stands for
abbrev pub given : {T : Type 0} → (Data → Option T) → Parameter → Option Data → Result (Option T) Parameter
given meaning parameter None = Ok None
given meaning parameter (Some value) = ok_or (option_map Some (meaning value)) parameter

-- a parameter that may be absent
abbrev pub optional : {T : Type 0} → (Data → Option T) → Parameter → Data → Result (Option T) Parameter
optional meaning parameter parameters = given meaning parameter (value_at parameter parameters)

-- what is read after something that was read
abbrev pub and_then : {T U E : Type 0} → Result T E → (T → Result U E) → Result U E
and_then (Ok value) next = next value
and_then (Err error) next = Err error

-- an answer for what may stand for nothing, or be for lack of memory
abbrev pub IsFieldAnswer : {T : Type 0} → Result T Parameter → Result T FieldFault → Type 0
IsFieldAnswer meant (Ok value) = meant ≡ Ok value
IsFieldAnswer meant (Err (Wrong parameter)) = meant ≡ Err parameter
IsFieldAnswer meant (Err Memory) = ⊤
