use Rattle.std.proofs.Common.{◌≡◌, take}
use Rattle.serve_calls.specs.Saving.{bytes_in}
use Rattle.serve_calls.proofs.saving.bytes_in.Given as goal

abbrev pub invariant-loop-text : goal.invariant-loop-text
invariant-loop-text l = l.bytes ≡ bytes_in (take l.text-index l.texts)
