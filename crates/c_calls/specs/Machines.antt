-- A session over the surfaces of a host.
use Rattle.decode_jobs.specs.Inputs as inputs
use Rattle.decode_jobs.specs.Jobs as jobs
use Rattle.decode_jobs.specs.Keys.{Key}
use Rattle.decode_jobs.specs.Made.{IsPictureOf}
use Rattle.decode_jobs.specs.declared.surfaces.surface.Surface.{Surface}
use Rattle.decode_jobs.specs.Host.{IsMadeByHost}
use Rattle.stream_session.specs.Machines as generic

-- a session as contracts see it
abbrev pub Machine : Type 0
Machine = generic.Machine Surface

-- what a job is made of
abbrev pub InputValue : Type 0
InputValue = inputs.InputValue Surface

-- a job
abbrev pub JobValue : Type 0
JobValue = jobs.JobValue Surface

-- the surface has a picture of the key: the host's decoder made it of the key's requests, and of
-- surfaces that it made so
abbrev pub IsPicture : Key → Surface → Type 0
IsPicture = IsPictureOf IsMadeByHost
