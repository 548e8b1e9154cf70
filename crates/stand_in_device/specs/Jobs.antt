-- Jobs over the pictures of the stand-in.
use Rattle.decode_jobs.specs.Jobs as generic
use Rattle.stand_in_device.specs.declared.picture.Picture.{Picture}

-- a job, and what comes of it
abbrev pub JobValue : Type 0
JobValue = generic.JobValue Picture
