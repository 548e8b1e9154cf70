-- How far a text is mended, of which these bytes are written and this is said already.
use Rattle.std.specs.Prelude.{◌≡◌, ℕ, false, List, [], ◌∷◌, ◌++◌, Option, None, Some}
use Rattle.std.specs.List.{flat_map, list_any}
use Rattle.stream_mending.specs.Segments.{Segment, cut_of, segments_at, segments_of}
use Rattle.stream_mending.specs.Portions.{Portion, portions_from, portions_of}
use Rattle.stream_mending.specs.Mended.{front_text, portion_text, stays, told_front, told_portion, told_segment}
use Rattle.stream_mending.specs.OpenPortions.{IsOpen}
use Rattle.stream_mending.specs.declared.mender.Mender.{Mender}
use Rattle.stream_mending.specs.declared.mending.Mending.{Mending}
use Rattle.stream_mending.specs.declared.why.LeftOut.{LeftOut}

-- the segments from the start code at this place on, after which these bytes stand
abbrev pub segments_from : ℕ → List ℕ → List Segment
segments_from place bytes = segments_at place ((cut_of bytes).front ∷ (cut_of bytes).rest)

-- of a text these access units are at their end, and this one isn't
pub record IsDone (text : List ℕ) (written : List ℕ) (said : List LeftOut) (done : List Portion) (portion : Portion) (mending : Mending)
    : Type 0 where
  pub open_is : IsOpen portion mending.portion
  pub bytes_are : written ++ mending.bytes.items ≡ front_text (cut_of text).front ++ flat_map portion_text done
  pub told_are :
      said ++ mending.left_out.items
      ≡ (told_front (cut_of text).front (cut_of text).rest ++ flat_map told_portion done)
      ++ flat_map told_segment portion.segments
  pub stays_is : mending.stays ≡ list_any stays done
  pub unwritten : mending.stays ≡ false → written ≡ []

-- of a text these access units are at their end, and none is begun
pub record IsEnded (text : List ℕ) (written : List ℕ) (said : List LeftOut) (done : List Portion) (mending : Mending) : Type 0 where
  pub bytes_are : written ++ mending.bytes.items ≡ front_text (cut_of text).front ++ flat_map portion_text done
  pub told_are :
      said ++ mending.left_out.items ≡ told_front (cut_of text).front (cut_of text).rest ++ flat_map told_portion done
  pub stays_is : mending.stays ≡ list_any stays done
  pub unwritten : mending.stays ≡ false → written ≡ []

-- a text is mended up to these segments
pub record IsMendedTo (text : List ℕ) (written : List ℕ) (said : List LeftOut) (left : List Segment) (mending : Mending) : Type 0 where
  pub done : List Portion
  pub portion : Portion
  pub whole : portions_of (segments_of text) ≡ done ++ portions_from portion left
  pub so_far : IsDone text written said done portion mending

-- these come first of all of those
abbrev pub IsFrontOf : {A : Type 0} → List A → List A → Type 0
IsFrontOf {A} front all = (rest : List A) × (all ≡ front ++ rest)

-- a text is mended up to these bytes: none is taken, or the segments from the last start code on are left
abbrev pub IsLeft : List ℕ → List ℕ → List LeftOut → List ℕ → ℕ → Option Mending → Type 0
IsLeft text written said left place None = (text ≡ left) × (written ≡ []) × (said ≡ [])
IsLeft text written said left place (Some mending) = IsMendedTo text written said (segments_from place left) mending

abbrev pub IsMendedUpTo : List ℕ → List ℕ → List LeftOut → List ℕ → Mender → Type 0
IsMendedUpTo text written said left mender = IsLeft text written said left mender.place mender.begun
