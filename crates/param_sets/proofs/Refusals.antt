-- Faults that are read or that memory shows.
use Rattle.std.proofs.Common.{◌≡◌, Result, Err}
use Rattle.param_sets.specs.declared.fault.SetFault.{SetFault}
use Rattle.param_sets.specs.declared.fault.SetFault.TheVariants.{Memory, Cut, Range, Profile, Chroma444, Interlaced, SliceGroups, RefFrames}
use Rattle.param_sets.specs.Answer.{Refuses}

-- a fault that is read is refused
pub refused : {Y : Type 0} (e : SetFault) (r : Result Y SetFault) → r ≡ Err e → Refuses e r
refused Memory r is = tt
refused Cut r is = is
refused (Range f) r is = is
refused Profile r is = is
refused Chroma444 r is = is
refused Interlaced r is = is
refused SliceGroups r is = is
refused RefFrames r is = is

-- what is refused of one reading is refused of another that has the same faults
pub refused_by : {X Y : Type 0} (e : SetFault) (r : Result X SetFault) (s : Result Y SetFault) → (r ≡ Err e → s ≡ Err e) → Refuses e r → Refuses e s
refused_by Memory r s same h = tt
refused_by Cut r s same h = same h
refused_by (Range f) r s same h = same h
refused_by Profile r s same h = same h
refused_by Chroma444 r s same h = same h
refused_by Interlaced r s same h = same h
refused_by SliceGroups r s same h = same h
refused_by RefFrames r s same h = same h
