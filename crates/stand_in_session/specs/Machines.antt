-- A session over the pictures of the stand-in.
use Rattle.picture_store.specs.Stores as stores
use Rattle.stand_in_device.specs.declared.picture.Picture.{Picture}
use Rattle.stream_session.specs.Machines as generic

-- a session as contracts see it
abbrev pub Machine : Type 0
Machine = generic.Machine Picture

-- a job that is out
abbrev pub OutValue : Type 0
OutValue = stores.OutValue Picture

-- the pictures of a stream's units, as they are stored
abbrev pub StoreValue : Type 0
StoreValue = stores.StoreValue Picture
