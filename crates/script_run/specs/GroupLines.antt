-- The lines that answer groups of edits (docs/OUTPUT.md).
use Rattle.std.specs.Prelude.{ℕ, ◌++◌, List, codes, decimal, flat_map, Result, Ok, Err}
use Rattle.stream_edits.specs.declared.group_refused.GroupRefused.{GroupRefused}
use Rattle.stream_edits.specs.declared.group_refused.GroupRefused.TheVariants as groups
use Rattle.stream_edits.specs.declared.receipts.GroupReceipt.{GroupReceipt}
use Rattle.stream_edits.specs.GroupRefusals.{name_of_group, number_of_group}

-- the ids, each after a space
abbrev pub ids_text : List ℕ → List ℕ
ids_text ids = flat_map (λ id. codes " " ++ decimal id) ids

-- the line of an accepted group
abbrev pub group_line : ℕ → List ℕ → List ℕ
group_line number ids = codes "group " ++ (decimal number ++ (codes " ids" ++ (ids_text ids ++ codes "\n")))

-- the number and the name of a refusal, and the line's end
abbrev pub refusal_end : GroupRefused → List ℕ
refusal_end refused = decimal (number_of_group refused) ++ (codes " " ++ (name_of_group refused ++ codes "\n"))

-- the line of a refused group
abbrev pub group_refused_line : GroupRefused → List ℕ
group_refused_line (groups.Edit index refused) =
    codes "group refused at " ++ (decimal index ++ (codes " " ++ refusal_end (groups.Edit index refused)))
group_refused_line refused = codes "group refused " ++ refusal_end refused

-- the line that answers a group
abbrev pub group_answer_line : Result GroupReceipt GroupRefused → List ℕ
group_answer_line (Ok receipt) = group_line receipt.number receipt.ids.items
group_answer_line (Err refused) = group_refused_line refused
