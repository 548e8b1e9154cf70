-- The place behind codes (ITU-T H.264, 7.2 and 9.1).
use Rattle.std.specs.Prelude.{◌≡◌, ⊤, List, [], ◌∷◌, Result, Ok, Err}
use Rattle.h264_types.specs.Chains.{◌>>=◌}
use Rattle.expgolomb.specs.Bits.{Place}
use Rattle.expgolomb.specs.Reading.{fixed_at, se_at, ue_at}
use Rattle.expgolomb.specs.declared.fault.CodeFault.{CodeFault}
use Rattle.param_sets.specs.declared.cropping.codes.Code.{Code}
use Rattle.param_sets.specs.declared.cropping.codes.Code.TheVariants.{Beginning, Flag, Unsigned, Signed}

-- the place behind what was read
abbrev pub place_behind : {A : Type 0} → Result (A × Place) CodeFault → Result Place CodeFault
place_behind (Ok x) = Ok x.1
place_behind (Err fault) = Err fault

-- behind a code
unfoldable pub behind : Code → Place → Result Place CodeFault
behind Beginning p = place_behind (fixed_at 32 p)
behind Flag p = place_behind (fixed_at 1 p)
behind Unsigned p = place_behind (ue_at p)
behind Signed p = place_behind (se_at p)

-- behind several, one after the other
abbrev pub behind_all : List Code → Place → Result Place CodeFault
behind_all [] p = Ok p
behind_all (code ∷ codes) p = behind code p >>= behind_all codes

-- the codes are there, and this is the place behind them; or the first that isn't there is so wrong
abbrev pub GoesBehind : Result ⊤ CodeFault → Place → Result Place CodeFault → Type 0
GoesBehind (Ok _) after says = says ≡ Ok after
GoesBehind (Err fault) after says = says ≡ Err fault
