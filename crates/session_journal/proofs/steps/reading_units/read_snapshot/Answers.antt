use Rattle.std.proofs.Common.{◌≡◌, ◌++◌, ◌∷◌, [], ℕ, Some, None, map, sym, ◌∙◌, rules}
use Rattle.session_journal.specs.RecordRows.{row_of_given, row_of_unit}
use Rattle.session_journal.specs.Records.{rows_in}
use Rattle.session_journal.proofs.UnitLemmas.{kept_then, same_front}
use Rattle.session_journal.proofs.steps.reading_units.read_snapshot.Goals as goal

none_is : (ids_given : ℕ) → None ≡ Some ids_given → ⊥
none_is ids_given is = cc

pub returns-in_default-ids_of-clause-only : goal.returns-in_default-ids_of-clause-only
returns-in_default-ids_of-clause-only c s is =
    let front = c.in-Some.front.now in
    let last = c.in-Some.last.now in
    let whole : c.args.lines.now ≡ front ++ last ∷ [] = search rules in
    let ends = same_front (rows_in front) (map row_of_unit s.units) last.step (row_of_given s.ids_given) (sym (kept_then front last c.args.lines.now whole) ∙ is) in
    absurd (none_is s.ids_given (sym c.in_default-ids_of.is ∙ c.ids_of.ensures.only s.ids_given ends.1))
