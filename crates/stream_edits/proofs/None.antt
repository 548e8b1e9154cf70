-- The snapshot of no units.
use Rattle.std.proofs.Common.{[], refl, arith}
use Rattle.stream_edits.specs.Edits.{no_units}
use Rattle.stream_edits.specs.Snapshots.{IsAnyOf}

pub IsAnyOf-none : IsAnyOf no_units
IsAnyOf-none = (
  record { units = []; ids_given = 0 },
  record {
    read_as = tt;
    given_is = refl;
    differ = record { once = λ id. omega arith; given = λ id there. absurd (omega arith) };
    bounded = omega arith;
  },
)
