use Rattle.std.proofs.Common.{[], Some, ap, ◌∙◌, if◌then◌else◌}
use Rattle.std.specs.Ordering.{nat_cmp}
use Rattle.std.specs.BTreeMap.{is_at}
use Rattle.picture_keys.specs.Numbered.{number_at, numbers_over}
use Rattle.picture_keys.proofs.Columns.{put_joined, test_at}
use Rattle.picture_keys.proofs.numbers.KeyNumbers.put.Goals as goal

pub returns-clause-ok : goal.returns-clause-ok
returns-clause-ok c = λ other.
    let s = c.self.inside in
    rw (← c.self.view_is)
    (put_joined s.later.entries c.insert.new.self.entries (numbers_over [] s.ids.now s.numbers.now) c.args.id c.args.key
    (λ q. c.in_ok-insert.ensures.updates.0 q
    ∙ ap (λ test. if test then Some c.args.key else number_at s.later.entries q)
    (ap (λ n. is_at (nat_cmp n) q) c.number.ensures ∙ test_at c.args.id q)) other)
