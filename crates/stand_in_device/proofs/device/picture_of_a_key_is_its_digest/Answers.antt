use Rattle.decode_jobs.specs.Made.{IsPictureOf-least}
use Rattle.stand_in_device.specs.Pictured.{picture_closed}
use Rattle.stand_in_device.proofs.device.picture_of_a_key_is_its_digest.Goals as goal

pub returns : goal.returns
returns c = IsPictureOf-least picture_closed
