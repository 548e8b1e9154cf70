-- The numbers of the faults of parameter sets.
use Rattle.std.specs.Prelude.{ℕ}
use Rattle.param_sets.specs.declared.fault.SetFault.{SetFault}
use Rattle.param_sets.specs.declared.fault.SetFault.TheVariants.{Cut, Range, Profile, Chroma444, Interlaced, SliceGroups, RefFrames, Memory}

-- the number that stands for a fault
abbrev pub number_of : SetFault → ℕ
number_of Cut = 1
number_of (Range field) = 2
number_of Profile = 3
number_of Chroma444 = 4
number_of Interlaced = 5
number_of SliceGroups = 6
number_of RefFrames = 7
number_of Memory = 8
