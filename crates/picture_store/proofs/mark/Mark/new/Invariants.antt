use Rattle.std.proofs.Common.{◌≡◌, take}
use Rattle.std.specs.List.{filter_map}
use Rattle.picture_store.proofs.mark.Mark.new.Given as goal

abbrev pub invariant-loop-number : goal.invariant-loop-number
invariant-loop-number l = l.mark ≡ filter_map (λ number. number) (take l.number-index l.numbers)
