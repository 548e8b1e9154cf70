use Rattle.std.proofs.Common.{◌≡◌, [], ap, sym, subst, ◌∙◌}
use Rattle.std.specs.Prelude.{IfOk}
use Rattle.std.specs.Option.{option_copied}
use Rattle.picture_keys.specs.Numbered.{number_at, numbers_over}
use Rattle.picture_keys.proofs.Columns.{in_first, in_second}
use Rattle.picture_keys.proofs.numbers.KeyNumbers.get.Goals as goal

pub returns-in-Some-clause-ok : goal.returns-in-Some-clause-ok
returns-in-Some-clause-ok c =
    let s = c.self.inside in
    rw (← c.self.view_is)
    (in_first s.later.entries (numbers_over [] s.ids.now s.numbers.now) c.args.id c.in-Some.key.now
    (ap (λ n. number_at s.later.entries n) (sym c.number.ensures)
    ∙ (sym c.get.ensures.value ∙ ap (λ key. option_copied key) c.in-Some.is)))

pub returns-in-None-clause-ok : goal.returns-in-None-clause-ok
returns-in-None-clause-ok c =
    let s = c.self.inside in
    rw (← c.self.view_is)
    (subst (λ wanted. IfOk c.seen_or_among.result (λ number. number ≡ wanted))
    (in_second s.later.entries (numbers_over [] s.ids.now s.numbers.now) c.args.id
    (ap (λ n. number_at s.later.entries n) (sym c.number.ensures)
    ∙ (sym c.get.ensures.value ∙ ap (λ key. option_copied key) c.in-None.is)))
    c.seen_or_among.ensures.ok)
