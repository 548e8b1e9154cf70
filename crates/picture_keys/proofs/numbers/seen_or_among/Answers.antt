use Rattle.std.proofs.Common.{ap, sym, ◌∙◌}
use Rattle.std.specs.Map.{lookup}
use Rattle.std.specs.Ordering.{nat_cmp}
use Rattle.std.specs.BTreeMap.{is_at}
use Rattle.picture_keys.proofs.numbers.seen_or_among.Goals as goal

pub returns-in-Some-clause-ok : goal.returns-in-Some-clause-ok
returns-in-Some-clause-ok c =
    c.requires c.args.id c.in-Some.number
    (ap (λ n. lookup (is_at (nat_cmp n)) c.args.seen.now.entries) (sym c.number.ensures)
    ∙ (sym c.get.ensures.value ∙ (sym c.copied.ensures ∙ c.in-Some.is)))
