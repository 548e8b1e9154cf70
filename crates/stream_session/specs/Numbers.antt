-- The numbers of faults.
use Rattle.std.specs.Prelude.{ℕ}
use Rattle.stream_session.specs.declared.config.ConfigFault.{ConfigFault}
use Rattle.stream_session.specs.declared.config.ConfigFault.TheVariants.{Cache, Memory}

-- the number of a fault of a configuration
abbrev pub number_of_config : ConfigFault → ℕ
number_of_config Cache = 1
number_of_config Memory = 2
