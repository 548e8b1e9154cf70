-- Units whose keys are known, after one unit more too.
use Rattle.std.proofs.Common.{ℕ, Bool, true, false, List, All, Option, Some, IsSome, refl, subst, sym, if◌then◌else◌}
use Rattle.std.specs.Prelude.{◌==◌}
use Rattle.std.proofs.lemmas.Bool.{eq-eqb}
use Rattle.std.proofs.lemmas.List.Elements.{All-weaker}
use Rattle.h264_types.specs.declared.pictures.frames.Frame.{Frame}
use Rattle.decode_jobs.specs.Keys.{Key}
use Rattle.picture_keys.specs.Known.{Known, key_at, known_with}

-- the key of the unit is known
abbrev pub IsKnown : Known → ℕ → Type 0
IsKnown known id = IsSome (key_at known id)

-- the keys of the units of frames are known
abbrev pub AreKnown : Known → List Frame → Type 0
AreKnown known frames = All (λ frame. IsKnown known frame.id) frames

either_some : {A : Type 0} (test : Bool) (first : A) (second : Option A) → IsSome second → IsSome (if test then Some first else second)
either_some true first second some = refl
either_some false first second some = some

-- one key more hides none
known_more : (known : Known) (id : ℕ) (key : Key) (other : ℕ) → IsKnown known other → IsKnown (known_with known id (Some key)) other
known_more known id key other some = either_some (id == other) key (key_at known other) some

pub all_known_more : (known : Known) (id : ℕ) (key : Key) (frames : List Frame) → AreKnown known frames → AreKnown (known_with known id (Some key)) frames
all_known_more known id key frames all =
    All-weaker (λ (frame : Frame). IsKnown known frame.id) (λ (frame : Frame). IsKnown (known_with known id (Some key)) frame.id)
    (λ frame some. known_more known id key frame.id some) frames all

-- and the unit's own is known then
pub known_last : (known : Known) (id : ℕ) (key : Key) → IsKnown (known_with known id (Some key)) id
known_last known id key =
    subst (λ (same : Bool). IsSome (if same then Some key else key_at known id)) (sym (eq-eqb id id refl)) refl
