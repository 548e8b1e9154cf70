-- How far the NAL units of the access unit at the front of some bytes are known.
use Rattle.std.specs.Prelude.{◌≡◌, ℕ, ◌+◌, ◌<◌, ◌≤◌, Bool, true, false, List, [], ◌++◌, length, take, All, Option, None, Some, IfSome, ⊤}
use Rattle.std.specs.declared.ops.Range.{Range}
use Rattle.annexb.specs.ByteStream.{start_code, HasUnits}
use Rattle.access_unit.specs.Coded.{HasRest}
use Rattle.access_unit.specs.Places.{IsWithin, units_at}
use Rattle.plan_stream.specs.Fronts.{front_len}
use Rattle.plan_stream.specs.declared.walk.WalkStep.{WalkStep}
use Rattle.plan_stream.specs.declared.walk.WalkStep.TheVariants.{On, Ends, Unseen}
use Rattle.plan_stream.specs.declared.walk.Walk.{Walk}

-- where there are places at all, the NAL units of the text stand at them
abbrev pub AreKnown : List ℕ → List (Range ℕ) → Type 0
AreKnown text places = 0 < length places → All (IsWithin text) places × HasUnits text (units_at text places)

-- of the access unit at the front of the bytes the NAL units at the places were passed, and the next one begins here
pub record IsWalkedTo (bytes : List ℕ) (places : List (Range ℕ)) (next : ℕ) (has_slice : Bool) : Type 0 where
  pub front : List ℕ
  pub rest : List ℕ
  pub whole : bytes ≡ front ++ (start_code ++ rest)
  pub place : length front + 3 ≡ next
  pub within : All (IsWithin front) places
  pub passed : HasRest front (units_at front places)
  pub so_far :
      (more : List ℕ)
      → front_len false (front ++ (start_code ++ (rest ++ more))) ≡ length front + front_len has_slice (start_code ++ (rest ++ more))

-- the same, or none was passed yet
abbrev pub IsWalkedBy : List ℕ → List (Range ℕ) → Option ℕ → Bool → Type 0
IsWalkedBy bytes places None has_slice = (places ≡ []) × (has_slice ≡ false)
IsWalkedBy bytes places (Some next) has_slice = IsWalkedTo bytes places next has_slice

-- the walk has come so far along the bytes
abbrev pub IsWalked : List ℕ → Walk → Type 0
IsWalked bytes walk = IsWalkedBy bytes walk.places.items walk.next walk.has_slice

-- the access unit has so many bytes, whatever follows or where nothing does, and its NAL units stand at the places if
-- they are known
pub record IsEnd (bytes : List ℕ) (is_over : Bool) (places : List (Range ℕ)) (len : ℕ) : Type 0 where
  pub within : len ≤ length bytes
  pub found : (more : List ℕ) → (is_over ≡ true → more ≡ []) → front_len false (bytes ++ more) ≡ len
  pub known : AreKnown (take len bytes) places

-- what the walk comes to at last
abbrev pub IsWalkedOn : List ℕ → Bool → Walk → WalkStep → Type 0
IsWalkedOn bytes is_over walk (Ends len) = IsEnd bytes is_over walk.places.items len
IsWalkedOn bytes is_over walk Unseen = IsWalked bytes walk
IsWalkedOn bytes is_over walk step = ⊤

-- what a step from this place on comes to
abbrev pub IsStep : List ℕ → Bool → ℕ → Walk → WalkStep → Type 0
IsStep bytes is_over at walk On = IsWalked bytes walk × IfSome walk.next (λ next. at < next)
IsStep bytes is_over at walk step = IsWalkedOn bytes is_over walk step
