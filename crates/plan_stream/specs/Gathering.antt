-- What a stream comes to, as far as it is read.
use Rattle.std.specs.Prelude.{◌≡◌, ℕ, ◌<◌, ◌≤◌, List, Option, None, Some, length}
use Rattle.annexb.specs.ByteStream.{HasUnits}
use Rattle.access_unit.specs.StreamUnits.{IsStream, most_units}
use Rattle.access_unit.specs.Streams.{AreAccepted, IsFirstRefused}
use Rattle.access_unit.specs.declared.stream_units.Refusal.{Refusal}
use Rattle.access_unit.specs.declared.stream_units.Refusal.TheVariants.{Split, Unit, StreamFull}
use Rattle.plan_stream.specs.Readings.{IsReadTo}
use Rattle.plan_stream.specs.declared.gathering.StreamGathering.{StreamGathering}

-- all access units so far are accepted, and so many
pub record AreTaken (text : List ℕ) (done : List (List (List ℕ))) (left : List ℕ) (count : ℕ) : Type 0 where
  pub read : IsReadTo text done left
  pub accepted : AreAccepted done
  pub counted : count ≡ length done

-- what a fold is after the access units that it took
module _ {F : Type 0} (folds : List (List (List ℕ)) → F → Type 0) where
  -- the refusal is the text's as far as it is read, with this left, or the access units so far were
  -- folded
  abbrev pub ComesTo : List ℕ → List ℕ → Option Refusal → ℕ → F → Type 0
  ComesTo text left None count fold =
      (done : List (List (List ℕ))) × AreTaken text done left count × (length done ≤ most_units) × folds done fold
  ComesTo text left (Some StreamFull) count fold =
      (done : List (List (List ℕ))) × AreTaken text done left count × (most_units < length done)
  ComesTo text left (Some (Unit index refused)) count fold =
      (done : List (List (List ℕ))) × IsReadTo text done left × IsFirstRefused done index refused
  ComesTo text left (Some Split) count fold = (units : List (List ℕ)) → ¬ HasUnits text units

  -- what the text comes to so far, with this left
  abbrev pub IsGathered : List ℕ → List ℕ → StreamGathering F → Type 0
  IsGathered text left gathering =
      ComesTo text left gathering.refusal gathering.count gathering.fold

  -- the text is a stream, of which all access units were folded
  pub record IsFoldOfStream (text : List ℕ) (fold : F) : Type 0 where
    pub parts : List (List (List ℕ))
    pub stream : IsStream text parts
    pub bounded : length parts ≤ most_units
    pub folded : folds parts fold
