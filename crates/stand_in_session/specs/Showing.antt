-- What is shown of a unit by the stand-in: the picture of its key.
use Rattle.std.specs.Prelude.{ℕ}
use Rattle.stand_in_device.specs.declared.picture.Picture.{Picture}
use Rattle.stand_in_device.specs.KeyPictures.{IsPicture}
use Rattle.stream_session.specs.declared.showing.Shown as generic
use Rattle.stream_session.specs.Showing as showing
use Rattle.stand_in_session.specs.Machines.{Machine}

-- what is shown of a unit
abbrev pub Shown : Type 0
Shown = generic.Shown Picture

-- what is shown of the unit that has the id: the picture of its key where that is held, that it
-- isn't, the unit's fault, that the unit has no picture, or that there is no such unit
abbrev pub Shows : Machine → ℕ → Shown → Type 0
Shows machine id answer = showing.Shows IsPicture machine id answer
