use Rattle.std.proofs.Common.{◌↔◌, drop}
use Rattle.decode_jobs.specs.KeyMaps.{AreLive}
use Rattle.decode_jobs.proofs.dep_keys.keys.Keys.are_live.Given as goal

abbrev pub invariant-loop-entry : goal.invariant-loop-entry
invariant-loop-entry g l = AreLive l.self (drop l.entry-index l.entries) ↔ AreLive l.self l.entries
