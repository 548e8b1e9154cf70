use Rattle.std.proofs.Common.{◌≡◌, drop}
use Rattle.decode_jobs.specs.Marks.{all_marked}
use Rattle.decode_jobs.proofs.dep_keys.marks.needed.Given as goal

abbrev pub invariant-loop-root : goal.invariant-loop-root
invariant-loop-root g l = all_marked l.marks.items (drop l.root-index l.roots) ≡ all_marked l.initial.marks.items l.roots
