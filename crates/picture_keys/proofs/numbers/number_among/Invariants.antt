use Rattle.std.proofs.Common.{◌≡◌, ◌≤◌, [], length, take}
use Rattle.picture_keys.specs.Numbered.{number_at, numbers_over}
use Rattle.picture_keys.proofs.numbers.number_among.Given as goal

-- no unit from there on has the id and a key
abbrev pub invariant-loop-at : goal.invariant-loop-at
invariant-loop-at l =
    record {
      in_ids : l.at ≤ length l.ids;
      in_found : l.at ≤ length l.numbers;
      same : number_at (numbers_over [] l.ids l.numbers) l.id ≡ number_at (numbers_over [] (take l.at l.ids) (take l.at l.numbers)) l.id;
    }

abbrev pub decreases-loop-at : goal.decreases-loop-at
decreases-loop-at l = l.at
