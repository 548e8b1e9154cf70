use Rattle.std.proofs.Common.{Some, ap, ◌∙◌, if◌then◌else◌}
use Rattle.std.specs.Map.{lookup}
use Rattle.std.specs.Ordering.{nat_cmp}
use Rattle.std.specs.BTreeMap.{is_at}
use Rattle.picture_keys.proofs.Columns.{test_at}
use Rattle.picture_keys.proofs.numbers.see.Goals as goal

pub returns-clause-ok : goal.returns-clause-ok
returns-clause-ok c = λ other.
    c.in_ok-insert.ensures.updates.0 other
    ∙ ap (λ test. if test then Some c.args.number else lookup (is_at (nat_cmp other)) c.args.seen.now.entries)
    (ap (λ n. is_at (nat_cmp n) other) c.number.ensures ∙ test_at c.args.id other)
