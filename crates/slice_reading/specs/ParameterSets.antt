-- The parameter sets that a stream has sent so far (ITU-T H.264, 7.4.1.2.1).
use Rattle.std.specs.Prelude.{ℕ, List, Option, None, Some, replicate, set, get_or, fold}
use Rattle.h264_types.specs.declared.param_sets.sps.Sps.{Sps}
use Rattle.h264_types.specs.declared.param_sets.pps.Pps.{Pps}
use Rattle.access_unit.specs.declared.parameter_sets.ParameterSet.{ParameterSet}
use Rattle.access_unit.specs.declared.parameter_sets.ParameterSet.TheVariants as sets

-- a place for each id, with the set that was sent last under it
pub record ParameterSets : Type 0 where
  pub sps : List (Option Sps)
  pub pps : List (Option Pps)

-- before the first unit: 32 places and 256
abbrev pub no_sets : ParameterSets
no_sets = record { sps = replicate 32 None; pps = replicate 256 None }

-- a set takes the place of its id
unfoldable pub put : ParameterSets → ParameterSet → ParameterSets
put tables (sets.Sps sps) = record { sps = set tables.sps sps.seq_parameter_set_id (Some sps); pps = tables.pps }
put tables (sets.Pps pps) = record { sps = tables.sps; pps = set tables.pps pps.pic_parameter_set_id (Some pps) }

-- the sets of a unit, each in turn
abbrev pub put_all : ParameterSets → List ParameterSet → ParameterSets
put_all tables sets = fold put tables sets

-- the set that was sent last under an id
abbrev pub sps_under : ParameterSets → ℕ → Option Sps
sps_under tables id = get_or tables.sps id None

abbrev pub pps_under : ParameterSets → ℕ → Option Pps
pps_under tables id = get_or tables.pps id None
