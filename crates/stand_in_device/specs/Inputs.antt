-- What pictures of the stand-in are made of.
use Rattle.decode_jobs.specs.Inputs as generic
use Rattle.decode_jobs.specs.declared.input.Reference as references
use Rattle.stand_in_device.specs.declared.picture.Picture.{Picture}

-- requests, one for each slice, and the frames that they may name
abbrev pub InputValue : Type 0
InputValue = generic.InputValue Picture

-- a finished picture by its frame's timestamp
abbrev pub Reference : Type 0
Reference = references.Reference Picture
