-- What a session tells of wanted units.
use Rattle.std.specs.Prelude.{◌≡◌, ◌⊎◌, ◌<◌, ◌≤◌, ◌++◌, ◌∷◌, [], ℕ, Bool, true, false, List, length, map, filter_map, All, option_map, Option, None, Some, Result, Ok, Err}
use Rattle.hex.specs.Hex.{encode_lower}
use Rattle.stand_in_device.specs.declared.picture.Picture.{Picture}
use Rattle.edit_script.specs.Words.{id_of}
use Rattle.stand_in_session.specs.Showing.{Shown, Shows}
use Rattle.stream_session.specs.declared.showing.Shown.TheVariants as shown
use Rattle.stand_in_session.specs.Machines.{Machine}
use Rattle.serve_requests.specs.declared.failure.Failure.{Failure}
use Rattle.serve_requests.specs.declared.failure.Failure.TheVariants.{Refused}
use Rattle.serve_requests.specs.declared.failure.CallRefusal.TheVariants as refusal
use Rattle.serve_answers.specs.declared.answer.Answer.{Answer}
use Rattle.serve_answers.specs.declared.answer.Answer.TheVariants.{Wanted}
use Rattle.serve_answers.specs.declared.answer.Picked.{Picked}
use Rattle.serve_calls.specs.declared.server.Server.{Server}
use Rattle.serve_calls.specs.declared.wanted_units.WantedUnit.{WantedUnit}
use Rattle.serve_calls.specs.declared.wanting.WantedNow.{WantedNow}
use Rattle.serve_calls.specs.Failing.{out_of_memory}
use Rattle.serve_calls.specs.Sessions.{Asks, Stays}
use Rattle.serve_calls.specs.WantedUnits.{AreWanted}

-- a unit's number, and what is shown of it
abbrev pub Seen : Type 0
Seen = ℕ × Shown

-- the picture that is shown, if one is
abbrev pub picture_of : Shown → Option Picture
picture_of (shown.Ready picture) = Some picture
picture_of it = None

-- what is told of a unit whose picture is there
abbrev pub picked : ℕ → Picture → Picked
picked number picture = record { id = number; picture = encode_lower picture.digest }

-- what is told of a unit, if its picture is there
abbrev pub ready_of : Seen → Option Picked
ready_of seen = option_map (picked seen.0) (picture_of seen.1)

-- the number of a unit that isn't there or isn't valid
abbrev pub number_if : ℕ → Shown → Option ℕ
number_if number (shown.Ready picture) = None
number_if number shown.Pending = None
number_if number (shown.Fault fault) = Some number
number_if number shown.Empty = Some number
number_if number shown.NoSuchUnit = Some number

abbrev pub not_now_of : Seen → Option ℕ
not_now_of seen = number_if seen.0 seen.1

-- the unit, with what is shown of it and the picture that is told of it, if it is there
abbrev pub told_of : Seen → WantedUnit
told_of seen = record { number = seen.0; told = picture_of seen.1; seen = Some seen.1 }

-- this is what is told of these units
pub record IsTold (seen : List Seen) (told : WantedNow) : Type 0 where
  pub ready : told.ready.items ≡ filter_map ready_of seen
  pub not_now : told.not_now.items ≡ filter_map not_now_of seen
  pub units : told.units.items ≡ map told_of seen

-- one unit more is told of
abbrev pub TellsOne : WantedNow → Seen → WantedNow → Type 0
TellsOne old it new = (seen : List Seen) → IsTold seen old → IsTold (seen ++ it ∷ []) new

-- this is what the session shows of the units, each after the other
abbrev pub AreSeen : Machine → List WantedUnit → List Seen → Type 0
AreSeen machine units seen =
    (map (λ it. it.0) seen ≡ map (λ unit. unit.number) units) × All (λ it. Shows machine (id_of it.0) it.1) seen

-- this is what the session tells of the units
pub record TellsOf (machine : Machine) (units : List WantedUnit) (told : WantedNow) : Type 0 where
  pub seen : List Seen
  pub are : AreSeen machine units seen
  pub is_told : IsTold seen told

-- the units that are wanted after an answer: with what is told by the answer, if there is one
abbrev pub wanted_after : Bool → List WantedUnit → List WantedUnit → List WantedUnit
wanted_after true units told = told
wanted_after false units told = units

-- the result of one who wants units, and which are wanted then: those of the ids, each once, and
-- what the session tells of them
abbrev pub Wants : {B : Type 0} → (B → Machine → Type 0) → B → List ℕ → Bool → Result Answer Failure → List WantedUnit → B → Type 0
Wants is_session old ids is_answered result wanted new =
    (units : List WantedUnit) × (told : WantedNow) × AreWanted ids units
    × Asks (is_session old) (λ machine. TellsOf machine units told) × Stays (is_session old) (is_session new)
    × (result ≡ Ok (Wanted told.ready.items told.not_now.items)) × (wanted ≡ wanted_after is_answered units told.units.items)

-- the result of a want: that there are too many ids, or that memory ran out, and nothing changes;
-- or what is told
abbrev pub WantsAs : {B S : Type 0} → (B → Machine → Type 0) → Server B S → List WantedUnit → List ℕ → Bool
    → Result Answer Failure → Server B S → List WantedUnit → Type 0
WantsAs is_session old wanted ids is_answered result new wants =
    ((64 < length ids) × (result ≡ Err (Refused refusal.TooManyWanted)) × (new ≡ old) × (wants ≡ wanted))
    ⊎ ((length ids ≤ 64) × Wants is_session old.backend ids is_answered result wants new.backend
    × (new.sums ≡ old.sums) × (new.source ≡ old.source) × (new.history ≡ old.history))
    ⊎ ((length ids ≤ 64) × (result ≡ Err out_of_memory) × (new ≡ old) × (wants ≡ wanted))
