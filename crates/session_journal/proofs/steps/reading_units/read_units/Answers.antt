use Rattle.std.proofs.Common.{◌≡◌, ◌+◌, ◌++◌, ◌∷◌, [], ℕ, List, Some, None, map, drop, refl, sym, ap, ◌∙◌}
use Rattle.std.proofs.lemmas.List.{append-nil, drop_all}
use Rattle.edit_journal.specs.declared.line.RowStep.{RowStep}
use Rattle.session_journal.specs.RecordRows.{row_of_unit}
use Rattle.session_journal.specs.Records.{rows_in}
use Rattle.session_journal.proofs.KeptLemmas.{drop_item}
use Rattle.session_journal.proofs.UnitLemmas.{no_unit, units_same}
use Rattle.session_journal.proofs.steps.reading_units.read_units.Goals as goal

none_is : (unit : ℕ × List ℕ) → None ≡ Some unit → ⊥
none_is unit is = cc

pub returns-in_default-clause-only : goal.returns-in_default-clause-only
returns-in_default-clause-only c units is =
    let l = c.loop-line in
    let lines = c.args.lines.now in
    let line = c.line-item.result in
    let left : drop l.line-index lines ≡ line ∷ drop (l.line-index + 1) lines = drop_item lines l.line-index line c.loop-line-test.true c.line-item.is in
    absurd (no_unit lines (drop (l.line-index + 1) lines) units l.line-index line is left (λ unit kept. none_is unit (sym c.in_default.is ∙ c.in_ok-unit.ensures.only unit kept)))

pub returns-clause-only : goal.returns-clause-only
returns-clause-only c units is =
    let l = c.loop-line in
    let read = l.units.items in
    let none : rows_in (drop l.line-index c.args.lines.now) ≡ [] = ap rows_in (drop_all l.line-index c.args.lines.now c.loop-line-test.false) in
    let all : rows_in c.args.lines.now ≡ map row_of_unit read = l.invariant ∙ ap (λ (k : List RowStep). map row_of_unit read ++ k) none ∙ append-nil (map row_of_unit read) in
    (refl, units_same read units (sym all ∙ is))
