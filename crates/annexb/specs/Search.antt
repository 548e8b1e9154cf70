-- What the steps of the search for the next unit find (ITU-T H.264, B.2).
use Rattle.std.specs.Prelude.{◌≡◌, ◌≢◌, ℕ, ◌+◌, ◌<◌, ◌≤◌, ◌⊎◌, List, [], ◌∷◌, ◌++◌, length, drop, replicate, slice_index, Option, None, Some, IfSome, IsTrue, IsFalse}
use Rattle.annexb.specs.declared.fault.SplitFault.{SplitFault}
use Rattle.annexb.specs.declared.fault.SplitFault.TheVariants.{NoStartCode, ForbiddenBytes, EmptyUnit, Memory}
use Rattle.annexb.specs.declared.search.Run.{Run}
use Rattle.annexb.specs.declared.search.Run.TheVariants.{Last, StartCode, Inside, Forbidden}
use Rattle.annexb.specs.NalUnit.{begins_forbidden}
use Rattle.annexb.specs.ByteStream.{start_code, FollowsStartCode, BeginsWithUnit}
use Rattle.annexb.specs.Faults.{zero_run, after_zeros, begins_with_start_code, begins_forbidden_run, ends_unit, IsForbiddenAt}

-- the bytes begin with two zeros, or are nothing but zeros
abbrev pub MayEnd : List ℕ → Type 0
MayEnd bytes = (2 ≤ zero_run bytes) ⊎ (after_zeros bytes ≡ [])

-- what such zeros are
abbrev pub IsRun : List ℕ → Run → Type 0
IsRun bytes Last = after_zeros bytes ≡ []
IsRun bytes (StartCode len) =
    (2 ≤ zero_run bytes)
    × (len ≡ zero_run bytes + 1)
    × (after_zeros bytes ≡ 1 ∷ drop len bytes)
IsRun bytes Inside =
    IsFalse (begins_forbidden bytes)
    × (2 < length bytes)
    × (slice_index bytes 2 ≢ 0)
IsRun bytes Forbidden = IsTrue (begins_forbidden_run bytes)

-- the place after the first start code, where the text begins with one
abbrev pub IsFirstUnit : List ℕ → Option ℕ → Type 0
IsFirstUnit text None = IsFalse (begins_with_start_code text)
IsFirstUnit text (Some at) = IsTrue (begins_with_start_code text) × (at ≡ zero_run text + 1)

-- how many bytes there are but for a zero at the end
abbrev pub IsLenWithoutZero : List ℕ → ℕ → Type 0
IsLenWithoutZero bytes len =
    ((len ≡ length bytes) × ((last : ℕ) → last + 1 ≡ len → slice_index bytes last ≢ 0))
    ⊎ ((len + 1 ≡ length bytes) × (slice_index bytes len ≡ 0))

-- a unit may reach up to the place: no forbidden sequence begins before it, and no zero stands
-- right before it
pub record IsScanned (bytes : List ℕ) (at : ℕ) : Type 0 where
  pub in_range : at ≤ length bytes
  pub allowed : (place : ℕ) → place < at → IsFalse (begins_forbidden (drop place bytes))
  pub ends : (last : ℕ) → last + 1 ≡ at → slice_index bytes last ≢ 0

-- what stands in the bytes from the start code on that ends at the place, or nothing
abbrev pub from_code : List ℕ → Option ℕ → List ℕ
from_code bytes None = []
from_code bytes (Some next) = start_code ++ drop next bytes

-- at the place stand zeros or none, and then the next start code or the end
pub record EndsUnit (bytes : List ℕ) (at : ℕ) (next : Option ℕ) : Type 0 where
  pub zeros : ℕ
  pub gap : drop at bytes ≡ replicate zeros 0 ++ from_code bytes next
  pub follows : IfSome next (λ place. (at + zeros + 3 ≡ place) × (place ≤ length bytes))

-- the unit after the start code that ends at the place, and where the next start code ends
pub record IsFoundAt (text : List ℕ) (at : ℕ) (unit : List ℕ) (next : Option ℕ) : Type 0 where
  pub begins : BeginsWithUnit (start_code ++ drop at text) unit (from_code text next)
  pub follows : IfSome next (λ place. (at < place) × FollowsStartCode text place)

-- the first fault after the start code that ends at the place
abbrev pub IsFaultFrom : List ℕ → ℕ → SplitFault → Type 0
IsFaultFrom text at NoStartCode = ⊥
IsFaultFrom text at (ForbiddenBytes place) =
    (at ≤ place)
    × IsForbiddenAt text place
    × ((k : ℕ) → at ≤ k → k < place → IsFalse (begins_forbidden (drop k text)))
IsFaultFrom text at (EmptyUnit place) = (place ≡ at) × IsTrue (ends_unit (drop at text))
IsFaultFrom text at Memory = ⊥
