use Rattle.std.proofs.Common.{◌≡◌, drop}
use Rattle.param_sets.specs.Skipping.{behind_all}
use Rattle.param_sets.proofs.cropping.skipping.skip_all.Given as goal

-- behind those that are left is behind all
abbrev pub invariant-loop-code : goal.invariant-loop-code
invariant-loop-code l = behind_all l.codes l.initial.bits ≡ behind_all (drop l.code-index l.codes) l.bits
